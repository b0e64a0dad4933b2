-- What pulls answered stays known.
use Rattle.std.proofs.Common.{◌≡◌, ◌∙◌, List, [], ◌∷◌, ◌++◌, ◌||◌, Bool, false, IfOk, refl, subst, sym}
use Rattle.std.proofs.Common.{Option, Some, None, Result, Ok, Err, ap, inl, inr}
use Rattle.std.specs.Result.{result_err}
use Rattle.std.specs.List.{All}
use Rattle.std.proofs.lemmas.List.Elements.{All-weaker, All-push}
use Rattle.relation_terms.specs.Meaning.{Meaning, Extends}
use Rattle.relation_terms.specs.Owned.{bound_tree}
use Rattle.relation_terms.specs.declared.predicate.trait_ref.TraitRef.{TraitRef}
use Rattle.relation_terms.specs.declared.terms.binder.Binder.{Binder}
use Rattle.relation_terms.specs.declared.terms.keys.ClauseKey.{ClauseKey}
use Rattle.relation_terms.proofs.Stays.{stays_same, extends_on, knows_as, knows_clause}
use Rattle.elaboration_worklist.specs.declared.faults.ElabFault.{ElabFault}
use Rattle.elaboration_worklist.specs.declared.faults.ElabFault.TheVariants.{Limit}
use Rattle.relation_statements.specs.Children.{mode_of}
use Rattle.relation_elaboration.specs.Pulling.{Elaboration, Pulls, Keeps, Takes, HasNoRoom}
use Rattle.relation_elaboration.specs.Finding.{PassesOver, Stops, FindsNext}
use Rattle.relation_statements.proofs.Growing.{stays_bound}
use Rattle.relation_elaboration.proofs.Taking.{begins_by, too_many_by}
use Rattle.text_elaboration.specs.declared.pulls.Manner.{Manner}
use Rattle.text_elaboration.specs.declared.pulls.Pulled.{Pulled}
use Rattle.text_elaboration.specs.declared.pulls.Pulled.TheVariants as pulled
use Rattle.text_elaboration.specs.Pulls.{KnowsPulled, AnswersOne, Answers, AnswersBegun, Elaborates, most}

module _ {Key Id Name : Type 0} {m n : Meaning Key Id Name} (e : Extends m n) where
  pub pulled_stays : (p : Pulled Key Id) → KnowsPulled m p → KnowsPulled n p
  pulled_stays (pulled.Clause k) h = knows_clause e k h
  pulled_stays (pulled.Bound b) h = knows_as (bound_tree m b) (bound_tree n b) (stays_bound e b h) h
  pulled_stays (pulled.Trait d) h = tt
  pulled_stays pulled.Limit h = tt
  pulled_stays pulled.End h = tt

  -- What was pulled before, and one thing more.
  pub pulls_stay : (ps : List (Pulled Key Id)) → All (KnowsPulled m) ps → All (KnowsPulled n) ps
  pulls_stay ps h = All-weaker (KnowsPulled m) (KnowsPulled n) pulled_stays ps h

  pub pulls_more : (ps : List (Pulled Key Id)) (p : Pulled Key Id) → All (KnowsPulled m) ps → KnowsPulled n p →
      All (KnowsPulled n) (ps ++ p ∷ [])
  pulls_more ps p h k = All-push (KnowsPulled n) ps p (pulls_stay ps h) k

-- What a pull of an elaboration of clauses keeps, and what it yields is known.
module _ {I Key Id Name : Type 0} (meaning : I → Meaning Key Id Name) where
  abbrev State : Type 0
  State = Elaboration I (ClauseKey Key) Key Name

  abbrev PullsClause : State → Option (Result (ClauseKey Key) ElabFault) → State → Type 0
  PullsClause = Pulls meaning (λ m c. m.clause c)

  abbrev Same : State → State → Type 0
  Same s t = (t.reference ≡ s.reference) × Extends (meaning s.cx) (meaning t.cx) × (t.limit ≡ s.limit)

  pub same_at_once : (s t : State) → t ≡ s → Same s t
  same_at_once s t is = subst (Same s) (sym is) (refl, stays_same (meaning s.cx), refl)

  pub same_then : (s t u : State) → Same s t → Same t u → Same s u
  same_then s t u a b = (b.0 ∙ a.0, extends_on a.1 b.1, b.2 ∙ a.2)

  pub pull_keeps : (s t : State) (r : Option (Result (ClauseKey Key) ElabFault)) → PullsClause s r t → Same s t
  pull_keeps s t None h = same_at_once s t h.2
  pull_keeps s t (Some (Ok c)) h = ((h.2).reference, (h.2).grown, (h.2).limit)
  pull_keeps s t (Some (Err f)) h = ((h.1).reference, (h.1).grown, (h.1).limit)

  -- The same of a search for a trait clause.
  abbrev FindsBound : State → Option (Result (Binder Key (TraitRef Key Id)) ElabFault) → State → Type 0
  FindsBound s r t = FindsNext meaning s r t

  passes_keep : (cs : List (ClauseKey Key)) (s t : State) → PassesOver meaning (λ e. e.cx) PullsClause s cs t → Same s t
  passes_keep [] s t h = same_at_once s t h
  passes_keep (c ∷ cs) s t h =
      same_then s h.0 t (pull_keeps s h.0 (Some (Ok c)) h.1) (passes_keep cs h.0 t h.3)

  stops_keep : (s t : State) (r : Option (Result (Binder Key (TraitRef Key Id)) ElabFault)) →
      Stops meaning (λ e. e.cx) PullsClause s r t → Same s t
  stops_keep s t None h = pull_keeps s t None h
  stops_keep s t (Some (Ok b)) h = pull_keeps s t (Some (Ok h.0)) h.1
  stops_keep s t (Some (Err f)) h = pull_keeps s t (Some (Err f)) h

  pub find_keeps : (s t : State) (r : Option (Result (Binder Key (TraitRef Key Id)) ElabFault)) → FindsBound s r t →
      Same s t
  find_keeps s t r h = same_then s h.1 t (passes_keep h.0 s h.1 h.2) (stops_keep h.1 t r h.3)

  pub find_knows : (s t : State) (b : Binder Key (TraitRef Key Id)) → FindsBound s (Some (Ok b)) t →
      KnowsPulled (meaning t.cx) (pulled.Bound b)
  find_knows s t b h = (h.3).3

  -- One answer more.
  pub answers_more : (ps : List (Pulled Key Id)) (s t u : State) (p : Pulled Key Id) → Answers meaning s ps t →
      AnswersOne meaning t p u → Answers meaning s (ps ++ p ∷ []) u
  answers_more [] s t u p a one = (u, subst (λ z. AnswersOne meaning z p u) a one, refl)
  answers_more (q ∷ qs) s t u p a one = (a.0, a.1, answers_more qs a.0 t u p a.2 one)

  -- Two modes that are set one after the other.
  pub both_modes : (t w v : State) (a b : Bool) → w ≡ record t { mode = mode_of (t.mode.only_self || a) t.mode.sized } →
      v ≡ record w { mode = mode_of w.mode.only_self (w.mode.sized || b) } →
      v ≡ record t { mode = mode_of (t.mode.only_self || a) (t.mode.sized || b) }
  both_modes t w v a b p q =
      let set : State → State = λ z. record z { mode = mode_of z.mode.only_self (z.mode.sized || b) } in
      q ∙ ap {A = State} {B = State} set p

  -- What an elaboration answers that could take up what it was to, or not.
  pub elaborates : {T : Type 0} (first : I) (given : List (ClauseKey Key)) (manner : Manner) (r : Result T ElabFault)
      (s t u v : State) (ps : List (Pulled Key Id)) → s.cx ≡ first → s.stack ≡ [] → s.visited ≡ [] →
      s.limit ≡ most manner → s.mode ≡ mode_of false false → s.fault ≡ None → Keeps meaning (λ m c. m.clause c) s t →
      t.fault ≡ result_err r → IfOk r (λ a. Takes meaning (λ m c. m.clause c) given s t) →
      (r ≡ Err Limit → HasNoRoom meaning (λ m c. m.clause c) given s) →
      u ≡ record t { mode = mode_of (t.mode.only_self || manner.only_self) (t.mode.sized || manner.sized) } →
      AnswersBegun meaning r u ps v → Elaborates meaning first given manner ps
  elaborates first given manner (Err f) s t u v ps same stack visited limit mode free keeps fault takes full is goes =
      inr (
        too_many_by meaning (λ m c. m.clause c) first s given (most manner) same visited limit free
            (full (ap (λ z. Err z) goes.0)),
        goes.1,
      )
  elaborates first given manner (Ok a) s t u v ps same stack visited limit mode free keeps fault takes full is goes =
      let b = begins_by meaning (λ m c. m.clause c) first s t given (most manner) same stack visited limit mode fault
      keeps takes in
      let modes : mode_of (t.mode.only_self || manner.only_self) (t.mode.sized || manner.sized) ≡
      mode_of manner.only_self manner.sized =
      ap (λ z. mode_of (z.only_self || manner.only_self) (z.sized || manner.sized)) b.mode in
      inl (record {
        begun = t;
        ended = v;
        begins = b;
        answers = subst (λ z. Answers meaning z ps v) (is ∙ ap (λ z. record t { mode = z }) modes) goes;
      })
