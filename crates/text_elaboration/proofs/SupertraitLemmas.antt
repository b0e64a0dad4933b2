-- What pulls answer of supertraits is what follows.
use Rattle.std.proofs.Common.{◌≡◌, ◌≤◌, ◌<◌, ◌∙◌, sym, ap, ap₂, subst, refl, inl, inr, arith, ℕ, zero, suc, Bool, true}
use Rattle.std.proofs.Common.{false, List, [], ◌∷◌, ◌++◌, map, length, append-nil, slice_index_or, IsTrue, IfOk}
use Rattle.std.proofs.Common.{Option, Some, None, Result, Ok, Err, is_some}
use Rattle.std.proofs.lemmas.Bool.{false≢true}
use Rattle.std.proofs.lemmas.List.{map-append}
use Rattle.std.proofs.lemmas.List.Elements.{filter_map-append, Contains-push_cases}
use Rattle.std.specs.Result.{result_err}
use Rattle.std.specs.List.{Contains, filter_map}
use Rattle.term_enums.specs.declared.PredicatePolarity.TheVariants.{Positive}
use Rattle.relation_terms.specs.Trees.{known}
use Rattle.relation_terms.specs.Meaning.{Meaning, Extends}
use Rattle.relation_terms.specs.Owned.{bound_tree, StatesItsOwn}
use Rattle.relation_terms.specs.Conversions.{trait_clause_tree}
use Rattle.relation_terms.specs.declared.predicate.trait_ref.TraitRef.{TraitRef}
use Rattle.relation_terms.specs.declared.terms.binder.Binder.{Binder}
use Rattle.relation_terms.specs.declared.terms.keys.ClauseKey.{ClauseKey}
use Rattle.relation_terms.proofs.Stays.{knows_as, stays_same, extends_on}
use Rattle.elaboration_worklist.specs.declared.faults.ElabFault.{ElabFault}
use Rattle.elaboration_worklist.specs.declared.faults.ElabFault.TheVariants.{Limit, Memory}
use Rattle.relation_statements.specs.Children.{Mode, mode_of}
use Rattle.relation_statements.specs.Statements.{statements}
use Rattle.relation_statements.specs.Runs.{AreTooMany}
use Rattle.relation_elaboration.specs.Pulling.{Elaboration, Keeps, Faults, HasNoRoom, BeginsClosure, ByClosure}
use Rattle.relation_elaboration.specs.Pulling.{standing, named}
use Rattle.relation_elaboration.specs.Finding.{FindsNext, FindsAll, FindsClosed, TraitsByClosure}
use Rattle.relation_elaboration.proofs.Finding.{traits_closed, one_too_many}
use Rattle.relation_statements.proofs.Growing.{stays_bound}
use Rattle.relation_elaboration.proofs.Taking.{too_many_by}
use Rattle.text_elaboration.specs.declared.pulls.Pulled.{Pulled}
use Rattle.text_elaboration.specs.declared.pulls.Pulled.TheVariants as pulled
use Rattle.text_elaboration.specs.Pulls.{is_last, bound_in, told, WentOn, AreSupertraits, AnswersSupertraits}
use Rattle.text_elaboration.specs.Pulls.{FindsOne, FindsEach, FindsUpTo}
use Rattle.text_elaboration.proofs.ReachLemmas.{is_said}
use Rattle.text_elaboration.proofs.PullLemmas.{find_keeps, find_knows}

module _ {Key Id : Type 0} where
  abbrev all_bounds : List (Binder Key (TraitRef Key Id)) → List (Pulled Key Id)
  all_bounds bs = map (λ b. pulled.Bound b) bs

  -- Among answers that are trait references are these, and no end.
  bounds_of : (bs : List (Binder Key (TraitRef Key Id))) → filter_map bound_in (all_bounds bs) ≡ bs
  bounds_of [] = refl
  bounds_of (b ∷ bs) = ap (λ z. b ∷ z) (bounds_of bs)

  -- The end comes behind trait references alone.
  no_end_in : (bs : List (Binder Key (TraitRef Key Id))) → Contains (all_bounds bs) pulled.End → ⊥
  no_end_in bs (k, few, is) = at bs k few is
    where
      at : (cs : List (Binder Key (TraitRef Key Id))) (k : ℕ) → k < length (all_bounds cs) →
          slice_index_or (all_bounds cs) k pulled.End ≡ pulled.End → ⊥
      at [] k few is = omega (arith, few)
      at (c ∷ cs) zero few is = false≢true (ap (is_last true) is)
      at (c ∷ cs) (suc k) few is = at cs k (omega (arith, few)) is

  no_end_before : (bs : List (Binder Key (TraitRef Key Id))) →
      Contains (all_bounds bs ++ pulled.Limit ∷ []) pulled.End → ⊥
  no_end_before bs h = elim (Contains-push_cases (all_bounds bs) pulled.Limit pulled.End h) [
    | inl there ↦ no_end_in bs there
    | inr is ↦ false≢true (ap (is_last false) is)
  ]

  -- What is told of a call, and whether it found one.
  abbrev tells : Option (Result (Binder Key (TraitRef Key Id)) ElabFault) → Option (Pulled Key Id)
  tells r = told (λ b. pulled.Bound b) r

  abbrev is_found : Option (Result (Binder Key (TraitRef Key Id)) ElabFault) → Bool
  is_found (Some (Ok b)) = true
  is_found r = false

  fault_told : (f : ElabFault) (ps : List (Pulled Key Id)) (last : Pulled Key Id) → ps ≡ last ∷ [] →
      tells (Some (Err f)) ≡ Some last → (f ≡ Limit) × (ps ≡ pulled.Limit ∷ [])
  fault_told Limit ps last is said = (refl, is ∙ ap (λ z. z ∷ []) (is_said pulled.Limit last pulled.End said))
  fault_told Memory ps last is said = absurd (false≢true (ap is_some said))

  -- Pulls that went on somewhere, or as far as fewer.
  went_nowhere : WentOn {Key = Key} {Id = Id} 1 [] → ⊥
  went_nowhere (inl (k, few, is)) = omega (arith, few)
  went_nowhere (inr (inl (k, few, is))) = omega (arith, few)
  went_nowhere (inr (inr few)) = omega (arith, few)

  went_as_far : (n k : ℕ) (ps : List (Pulled Key Id)) → k ≤ n → WentOn n ps → WentOn k ps
  went_as_far n k ps fewer (inl h) = inl h
  went_as_far n k ps fewer (inr (inl h)) = inr (inl h)
  went_as_far n k ps fewer (inr (inr far)) = inr (inr (omega (arith, fewer, far)))

module _ {I Key Id Name : Type 0} (meaning : I → Meaning Key Id Name) where
  abbrev State : Type 0
  State = Elaboration I (ClauseKey Key) Key Name

  finds_more : (bs : List (Binder Key (TraitRef Key Id))) (b : Binder Key (TraitRef Key Id)) (s t u : State) →
      FindsAll meaning s bs t → FindsNext meaning t (Some (Ok b)) u → FindsAll meaning s (bs ++ b ∷ []) u
  finds_more [] b s t u a one = (u, subst (λ z. FindsNext meaning z (Some (Ok b)) u) a one, refl)
  finds_more (c ∷ bs) b s t u a one = (a.0, a.1, finds_more bs b a.0 t u a.2 one)

  -- One trait reference more.
  pub each_more : (ps : List (Pulled Key Id)) (p : Pulled Key Id) (s t u : State) → FindsEach meaning s ps t →
      FindsOne meaning t p u → is_last true p ≡ false → FindsEach meaning s (ps ++ p ∷ []) u
  each_more ps p s t u each (None, h, said) last =
      absurd (false≢true (sym last ∙ ap (is_last true) (is_said pulled.End p pulled.End said)))
  each_more ps p s t u each (Some (Err Limit), h, said) last =
      absurd (false≢true (sym last ∙ ap (is_last true) (is_said pulled.Limit p pulled.End said)))
  each_more ps p s t u each (Some (Err Memory), h, said) last = absurd (false≢true (ap is_some said))
  each_more ps p s t u each (Some (Ok b), h, said) last =
      let is : p ≡ pulled.Bound b = is_said (pulled.Bound b) p pulled.End said in (
        each.0 ++ b ∷ [],
        ap₂ (λ y z. y ++ z ∷ []) each.1 is ∙ sym (map-append (λ c. pulled.Bound c) each.0 (b ∷ [])),
        finds_more each.0 b s t u each.2 h,
      )

  abbrev AllKnown : Meaning Key Id Name → List (Binder Key (TraitRef Key Id)) → Type 0
  AllKnown m [] = Unit {0}
  AllKnown m (b ∷ bs) = IsTrue (known (bound_tree m b)) × AllKnown m bs

  -- What was found keeps its tree.
  found_stay : {m n : Meaning Key Id Name} (bs : List (Binder Key (TraitRef Key Id))) → Extends m n →
      AllKnown m bs → map (bound_tree n) bs ≡ map (bound_tree m) bs
  found_stay [] on k = refl
  found_stay (b ∷ bs) on k = ap₂ (λ y z. y ∷ z) (stays_bound on b k.0) (found_stay bs on k.1)

  known_stay : {m n : Meaning Key Id Name} (bs : List (Binder Key (TraitRef Key Id))) → Extends m n →
      AllKnown m bs → AllKnown n bs
  known_stay [] on k = tt
  known_stay {m} {n} (b ∷ bs) on k =
      (knows_as (bound_tree m b) (bound_tree n b) (stays_bound on b k.0) k.0, known_stay bs on k.1)

  keeps : (bs : List (Binder Key (TraitRef Key Id))) (s t : State) → FindsAll meaning s bs t →
      Extends (meaning s.cx) (meaning t.cx)
  keeps [] s t a = subst (λ z. Extends (meaning s.cx) (meaning z.cx)) (sym a) (stays_same (meaning s.cx))
  keeps (b ∷ bs) s t a = extends_on (find_keeps meaning s a.0 (Some (Ok b)) a.1).1 (keeps bs a.0 t a.2)

  known_found : (bs : List (Binder Key (TraitRef Key Id))) (s t : State) → FindsAll meaning s bs t →
      AllKnown (meaning t.cx) bs
  known_found [] s t a = tt
  known_found (b ∷ bs) s t a = (
    (known_stay (b ∷ []) (keeps bs a.0 t a.2) (find_knows meaning s a.0 b a.1, tt)).0,
    known_found bs a.0 t a.2,
  )

  keeps_limit : (bs : List (Binder Key (TraitRef Key Id))) (s t : State) → FindsAll meaning s bs t → t.limit ≡ s.limit
  keeps_limit [] s t a = ap (λ z. z.limit) a
  keeps_limit (b ∷ bs) s t a = keeps_limit bs a.0 t a.2 ∙ (find_keeps meaning s a.0 (Some (Ok b)) a.1).2

  module _ (m : Meaning Key Id Name) (b : Binder Key (TraitRef Key Id)) (limit : ℕ) where
    -- What was found of an elaboration whose closure is known.
    pub supertraits_found : (ps : List (Pulled Key Id)) (e t : State) → TraitsByClosure meaning m b e →
        e.limit ≡ limit → FindsUpTo meaning e ps t → WentOn limit ps → AreSupertraits m (meaning t.cx) b limit ps
    supertraits_found ps e t by most (inl each) went =
        let bs = each.0 in
        let n = meaning t.cx in record {
          name = named meaning (λ m c. m.clause c) e;
          left = standing meaning (λ m c. m.clause c) t;
          found = subst (λ z. FindsClosed (named meaning (λ m c. m.clause c) e) (statements m)
              (trait_clause_tree m Positive b ∷ []) (map (bound_tree n) z) (standing meaning (λ m c. m.clause c) t))
              (sym (ap (filter_map bound_in) each.1 ∙ bounds_of bs)) (by.found bs t each.2);
          room = keeps_limit bs e t each.2 ∙ most;
          all = λ there. absurd (no_end_in bs (subst (λ z. Contains z pulled.End) each.1 there));
          went_on = went;
        }
    supertraits_found ps e t by most (inr h) went = behind h.before h.last h.between h.is h.ends h.finds h.stops
      where
        behind : (before : List (Pulled Key Id)) (last : Pulled Key Id) (u : State) → ps ≡ before ++ last ∷ [] →
            is_last true last ≡ true → FindsEach meaning e before u → FindsOne meaning u last t →
            AreSupertraits m (meaning t.cx) b limit ps
        behind before last u is ends each (Some (Err Memory), one, said) = absurd (false≢true (ap is_some said))
        behind before last u is ends each (Some (Ok c), one, said) =
            absurd (false≢true (sym (ap (is_last true) (is_said (pulled.Bound c) last pulled.End said)) ∙ ends))
        behind before last u is ends each (None, one, said) =
            let bs = each.0 in
            let n = meaning t.cx in
            let end : last ≡ pulled.End = is_said pulled.End last pulled.End said in
            let these : filter_map bound_in ps ≡ bs =
            ap (filter_map bound_in) (is ∙ ap₂ (λ y z. y ++ z ∷ []) each.1 end)
            ∙ filter_map-append bound_in (all_bounds bs) (pulled.End ∷ [])
            ∙ append-nil (filter_map bound_in (all_bounds bs)) ∙ bounds_of bs in
            let closed = by.ended bs u t each.2 one in record {
              name = named meaning (λ m c. m.clause c) e;
              left = standing meaning (λ m c. m.clause c) t;
              found = subst (λ z. FindsClosed (named meaning (λ m c. m.clause c) e) (statements m)
                  (trait_clause_tree m Positive b ∷ []) (map (bound_tree n) z) (standing meaning (λ m c. m.clause c) t))
                  (sym these) closed.0;
              room = (find_keeps meaning u t None one).2 ∙ keeps_limit bs e u each.2 ∙ most;
              all = λ there. ap (map (n.clause)) closed.1;
              went_on = went;
            }
        behind before last u is ends each (Some (Err Limit), one, said) =
            let bs = each.0 in
            let n = meaning t.cx in
            let end : last ≡ pulled.Limit = is_said pulled.Limit last pulled.End said in
            let all_of : ps ≡ all_bounds bs ++ pulled.Limit ∷ [] = is ∙ ap₂ (λ y z. y ++ z ∷ []) each.1 end in
            let these : filter_map bound_in ps ≡ bs =
            ap (filter_map bound_in) all_of
            ∙ filter_map-append bound_in (all_bounds bs) (pulled.Limit ∷ [])
            ∙ append-nil (filter_map bound_in (all_bounds bs)) ∙ bounds_of bs in
            let trees : map (bound_tree n) (filter_map bound_in ps) ≡ map (bound_tree (meaning u.cx)) bs =
            ap (map (bound_tree n)) these
            ∙ found_stay bs (find_keeps meaning u t (Some (Err Limit)) one).1 (known_found bs e u each.2) in record {
              name = named meaning (λ m c. m.clause c) e;
              left = standing meaning (λ m c. m.clause c) u;
              found = subst (λ z. FindsClosed (named meaning (λ m c. m.clause c) e) (statements m)
                  (trait_clause_tree m Positive b ∷ []) z (standing meaning (λ m c. m.clause c) u))
                  (sym trees) (by.found bs u each.2);
              room = keeps_limit bs e u each.2 ∙ most;
              all = λ there. absurd (no_end_before bs (subst (λ z. Contains z pulled.End) all_of there));
              went_on = went;
            }

  -- Where a fault was met before, each call answers it.
  fault_first : (f : ElabFault) (s t : State) (r : Option (Result (Binder Key (TraitRef Key Id)) ElabFault)) →
      s.fault ≡ Some f → FindsNext meaning s r t → r ≡ Some (Err f)
  fault_first f s t r is (c ∷ cs, u, passes, stops) = absurd (false≢true (ap is_some (sym (passes.1).0 ∙ is)))
  fault_first f s t None is ([], u, passes, stops) =
      absurd (false≢true (ap is_some (sym stops.0 ∙ ap (λ z. z.fault) passes ∙ is)))
  fault_first f s t (Some (Ok c)) is ([], u, passes, stops) =
      absurd (false≢true (ap is_some (sym (stops.1).0 ∙ ap (λ z. z.fault) passes ∙ is)))
  fault_first f s t (Some (Err g)) is ([], u, passes, stops) =
      let h : Faults meaning (λ m c. m.clause c) (Some f) u g t =
      subst (λ z. Faults meaning (λ m c. m.clause c) z u g t) (ap (λ z. z.fault) passes ∙ is) stops.2 in
      ap (λ z. Some (Err z)) h.0

  -- What is answered then: that fault.
  fault_alone : (f : ElabFault) (ps : List (Pulled Key Id)) (e t : State) → e.fault ≡ Some f →
      FindsUpTo meaning e ps t → WentOn 1 ps → (f ≡ Limit) × (ps ≡ pulled.Limit ∷ [])
  fault_alone f ps e t is (inl (b ∷ bs, these, finds)) went =
      absurd (false≢true (sym (ap is_found (fault_first f e finds.0 (Some (Ok b)) is finds.1))))
  fault_alone f ps e t is (inl ([], these, finds)) went = absurd (went_nowhere (subst (WentOn 1) these went))
  fault_alone f ps e t is (inr h) went = behind h.before h.last h.between h.is h.finds h.stops
    where
      behind : (before : List (Pulled Key Id)) (last : Pulled Key Id) (u : State) → ps ≡ before ++ last ∷ [] →
          FindsEach meaning e before u → FindsOne meaning u last t → (f ≡ Limit) × (ps ≡ pulled.Limit ∷ [])
      behind before last u these (b ∷ bs, of_them, finds) one =
          absurd (false≢true (sym (ap is_found (fault_first f e finds.0 (Some (Ok b)) is finds.1))))
      behind before last u these ([], none, same) (r, one, said) =
          let it = fault_first f u t r (ap (λ z. z.fault) same ∙ is) one in
          fault_told f ps last (these ∙ ap (λ z. z ++ last ∷ []) none) (sym (ap tells it) ∙ said)

  -- An elaboration of one trait reference, that goes to super-predicates alone.
  pub supertraits_closed : {m : Meaning Key Id Name} (first : I) (own : StatesItsOwn m)
      (grown : Extends m (meaning first)) (b : Binder Key (TraitRef Key Id)) (k : ClauseKey Key)
      (is : (meaning first).clause k ≡ trait_clause_tree m Positive b) (given : List (ClauseKey Key)) (z s t : State) →
      given ≡ k ∷ [] → z.cx ≡ first → z.stack ≡ [] → z.visited ≡ [] → z.mode ≡ mode_of false false →
      s ≡ record z { mode = record z.mode { only_self = true } } → Keeps meaning (λ m c. m.clause c) s t →
      BeginsClosure meaning (λ m c. m.clause c) given s t → TraitsByClosure meaning m b t
  supertraits_closed first own grown b k is given z s t these same stack visited mode set kept begins =
      let by = begins (ap (λ y. y.stack) set ∙ stack) (ap (λ y. y.visited) set ∙ visited) in
      let at_first = subst (λ c. ByClosure meaning (λ m c. m.clause c) (meaning c) given t)
      (ap (λ y. y.cx) set ∙ same) by in
      let only : Mode → Mode = λ y. record y { only_self = true } in
      let modes : t.mode ≡ mode_of true false = kept.mode ∙ ap (λ y. y.mode) set ∙ ap only mode in
      let in_mode : Mode → State = λ y. record t { mode = y } in
      traits_closed meaning own grown b k is t t
      (subst (λ gs. ByClosure meaning (λ m c. m.clause c) (meaning first) gs t) these at_first)
      (ap in_mode modes)

  -- It can't begin only where no predicate is allowed.
  pub none_allowed : (first : I) (k : ClauseKey Key) (given : List (ClauseKey Key)) (z s : State) (limit : ℕ) →
      given ≡ k ∷ [] → z.cx ≡ first → z.visited ≡ [] → z.limit ≡ limit → z.fault ≡ None →
      s ≡ record z { mode = record z.mode { only_self = true } } → HasNoRoom meaning (λ m c. m.clause c) given s →
      limit ≡ 0
  none_allowed first k given z s limit these same visited most free set full =
      one_too_many ((meaning first).clause k) limit
      (subst (λ gs. AreTooMany (map (meaning first).clause gs) limit) these
      (too_many_by meaning (λ m c. m.clause c) first s given limit (ap (λ y. y.cx) set ∙ same)
      (ap (λ y. y.visited) set ∙ visited) (ap (λ y. y.limit) set ∙ most) (ap (λ y. y.fault) set ∙ free) full))

  -- What is answered, whether the elaboration began or not.
  pub supertraits_answer : {T : Type 0} (m : Meaning Key Id Name) (b : Binder Key (TraitRef Key Id)) (limit count : ℕ)
      (r : Result T ElabFault) (ps : List (Pulled Key Id)) (e t : State) → e.fault ≡ result_err r →
      IfOk r (λ _. TraitsByClosure meaning m b e) → e.limit ≡ limit → (r ≡ Err Limit → limit ≡ 0) →
      FindsUpTo meaning e ps t → WentOn count ps → limit ≤ count → 1 ≤ count →
      AnswersSupertraits m (meaning t.cx) b limit ps
  supertraits_answer m b limit count (Ok a) ps e t fault by room full finds went most one =
      inl (supertraits_found m b limit ps e t by room finds (went_as_far count limit ps most went))
  supertraits_answer m b limit count (Err f) ps e t fault by room full finds went most one =
      let h = fault_alone f ps e t fault finds (went_as_far count 1 ps one went) in
      inr (full (ap (λ z. Err z) h.0), h.1)
