-- A step of a relation over a context records of two bare terms just what they ask for, and of others nothing else.
use Rattle.std.proofs.Common.{◌≡◌, ◌≢◌, ◌⊎◌, ℕ, refl, sym, ap, ap₂, ◌∙◌, inl, inr, subst, subst₂, ⊎_elim, false, ◌||◌}
use Rattle.std.proofs.Common.{Contains, IsTrue, Some, Result, Ok, Err, [], ◌∷◌, ◌++◌}
use Rattle.std.proofs.lemmas.Bool.{false≢true}
use Rattle.std.proofs.lemmas.Option.{same_Some}
use Rattle.term_enums.specs.declared.Variance.{Variance}
use Rattle.term_enums.specs.declared.Variance.TheVariants.{Bivariant}
use Rattle.term_enums.specs.declared.AliasRelationDirection.TheVariants.{Equate}
use Rattle.relation_terms.specs.declared.terms.keys.TyKey.{TyKey}
use Rattle.relation_terms.specs.declared.terms.keys.ConstKey.{ConstKey}
use Rattle.relation_terms.specs.Flags.{has_non_region_infer}
use Rattle.relation_terms.specs.Heads.{region_sort, type_sort, const_sort, VarKind, region_var, type_var, int_var, float_var}
use Rattle.relation_terms.specs.Heads.{const_var, variable, bound, placeholder, atom, unknown}
use Rattle.relation_terms.specs.Heads.{type_error, const_error}
use Rattle.relation_terms.specs.Trees.{Tree, leaf, node, bind, nil, cons, known, IsTerm}
use Rattle.relation_terms.proofs.Stays.{stays_same}
use Rattle.relation_folds.specs.declared.error.RelateFault.{RelateFault}
use Rattle.relation_semantics.specs.declared.relate.Step.{Step}
use Rattle.relation_semantics.specs.declared.relate.Step.TheVariants.{Done, Parts, Again}
use Rattle.relation_semantics.specs.AliasGoals.{alias_at}
use Rattle.relation_semantics.specs.Asking.{Wanted, a_goal, HaveAlias, AsksFor, of_regions, of_aliases, of_unevaluated, of_parts}
use Rattle.relation_semantics.specs.Asking.{IsPlainTerm, HasNoAlias}
use Rattle.relation_semantics.specs.Errors.{IsReadAs, itself, by_class, by_binding, IsOpaqueBeside}
use Rattle.relation_semantics.specs.Goals.{goal_of, alias_relate_predicate}
use Rattle.relation_semantics.specs.Lawful.{State, Pair, Passes, RecordsJust, StepRecords, items_in}
use Rattle.relation_semantics.specs.Recording.{AreBare}
use Rattle.relation_semantics.specs.Relation.{Items, IsError, sort_of}
use Rattle.relation_semantics.specs.Settings.{Settings, DefersAliases, LeavesOpaque}
use Rattle.relation_semantics.specs.Steps.{IsNumberKind, IsNumberFor, InstantiatesNumber}
use Rattle.relation_semantics.specs.Stores.{Store}
use Rattle.relation_semantics.proofs.Answering.{same_environment, same_settings, same_items}
use Rattle.relation_semantics.proofs.Asking.{itself_is_trivial, no_alias_term}
use Rattle.relation_semantics.proofs.Deferring.{opaque_is_alias, beside_is_opaque}
use Rattle.relation_semantics.proofs.Recording.{records_nothing, records_trivial, records_goal, records_remembering, Stands}
use Rattle.relation_semantics.proofs.Standing.{term_sort_of}
use Rattle.relation_combining.specs.Combining.{CombinesShallow, ConstsCombine, MeetsConsts, MeetsTys, TysCombine}
use Rattle.relation_combining.specs.Combining.{left_error, right_error, is_deferred, left_open, not_registered, not_left}
use Rattle.relation_combining.specs.Combining.{equated, left_bound, right_bound, left_unlike, right_unlike, ty_variable, by_parts}
use Rattle.relation_combining.specs.Combining.{one_constant, const_is_deferred, const_not_registered, const_not_left}
use Rattle.relation_combining.specs.Combining.{roots_equated, left_root_bound, left_root_refused, right_root_bound}
use Rattle.relation_combining.specs.Combining.{right_root_refused, formed_by_parts}
use Rattle.relation_combining.specs.Combining.{resolved_first as consts_resolved}
use Rattle.relation_combining.specs.Solving.{solver_manner}
use Rattle.context_relation.specs.Stepping.{StepsTys, RemembersTys, one_type, without_variables, resolved_first}
use Rattle.context_relation.specs.Stepping.{met_again, combined, not_remembered}
use Rattle.context_relation.proofs.StepsAsk.{tys_more, parts_lead, again_leads, consts_more, consts_parts_lead, consts_again_lead}
use Rattle.relation_combining.specs.Variables.{one_has_variable}

-- A plain term has no error, and no variable but of regions.
plain_no_error : (t : Tree) → IsPlainTerm t → IsError t → ⊥
plain_no_error (leaf (atom type_error)) h e = h
plain_no_error (leaf (atom const_error)) h e = h
plain_no_error (leaf (atom x)) h e = e
plain_no_error t h e = e

plain_none_open : (t : Tree) → IsPlainTerm t → has_non_region_infer t ≡ false
plain_none_open (leaf (variable region_var n)) h = refl
plain_none_open (leaf (variable type_var n)) h = absurd cc
plain_none_open (leaf (variable int_var n)) h = absurd cc
plain_none_open (leaf (variable float_var n)) h = absurd cc
plain_none_open (leaf (variable const_var n)) h = absurd cc
plain_none_open (leaf (bound k d i)) h = refl
plain_none_open (leaf (placeholder k u n)) h = refl
plain_none_open (leaf (atom x)) h = refl
plain_none_open (leaf unknown) h = absurd h
plain_none_open (node f ts) h = plain_none_open ts h.1
plain_none_open (bind ks t) h = plain_none_open t h.1
plain_none_open nil h = refl
plain_none_open (cons t u) h = ap₂ ◌||◌ (plain_none_open t h.0) (plain_none_open u h.1)

plain_variable : (k : VarKind) (n : ℕ) (t : Tree) → t ≡ leaf (variable k n) → IsPlainTerm t → k ≡ region_var
plain_variable k n t e h = region_kind k (subst IsPlainTerm e h)
  where
    region_kind : (k : VarKind) → IsPlainTerm (leaf (variable k n)) → k ≡ region_var
    region_kind region_var p = refl
    region_kind type_var p = absurd cc
    region_kind int_var p = absurd cc
    region_kind float_var p = absurd cc
    region_kind const_var p = absurd cc

no_number : (k : VarKind) → IsNumberKind k → k ≡ region_var → ⊥
no_number region_var h e = h
no_number type_var h e = h
no_number int_var h e = absurd cc
no_number float_var h e = absurd cc
no_number const_var h e = h

-- What a number variable is bound to fits its kind.
of_number : {before after : Store} {n : ℕ} {t : Tree} (k : VarKind) → InstantiatesNumber before after k n t →
    IsNumberKind k
of_number {t = t} k h = go k t h.fits
  where
    go : (k : VarKind) (t : Tree) → IsNumberFor k t → IsNumberKind k
    go int_var t f = tt
    go float_var t f = tt
    go k t f = absurd f

-- A plain constant is read as itself.
plain_read : (st : Store) (a u : Tree) → IsTerm const_sort a → IsPlainTerm a → IsReadAs st a u → u ≡ a
plain_read st a u s p (itself e) = sym e
plain_read st a u s p (by_class k n m e c r) = absurd (no_region_const n (subst (IsTerm const_sort)
    (e ∙ ap (λ k. leaf (variable k n)) (plain_variable k n a e p)) s))
  where
    no_region_const : (n : ℕ) → IsTerm const_sort (leaf (variable region_var n)) → ⊥
    no_region_const n h = h
plain_read st a u s p (by_binding k n e b r) = absurd (no_region_const n (subst (IsTerm const_sort)
    (e ∙ ap (λ k. leaf (variable k n)) (plain_variable k n a e p)) s))
  where
    no_region_const : (n : ℕ) → IsTerm const_sort (leaf (variable region_var n)) → ⊥
    no_region_const n h = h

-- Of two terms of which one is an alias one goal alone is asked for.
alias_asks_one : {c : Items} {z : Wanted} {v : Variance} {a b : Tree} (p : Tree) → HaveAlias a b → sort_of a ≡ type_sort →
    alias_at v a b ≡ Some p → AsksFor c z v a b → z ≡ a_goal p
alias_asks_one p l s e (of_regions q w t _ _) = absurd (let y : region_sort ≡ type_sort = sym t ∙ s in cc)
alias_asks_one p l s e (of_aliases o w _ n _ r) = w ∙ ap a_goal (same_Some _ _ (sym r ∙ e))
alias_asks_one p l s e (of_unevaluated w _ n t _) = absurd (let y : const_sort ≡ type_sort = sym t ∙ s in cc)
alias_asks_one p l s e (of_parts i d g n rh pl m o r) = absurd (n l)

unevaluated_asks_one : {c : Items} {z : Wanted} {v : Variance} {a b : Tree} → HaveAlias a b → sort_of a ≡ const_sort →
    AsksFor c z v a b → z ≡ a_goal (alias_relate_predicate Equate a b)
unevaluated_asks_one l s (of_regions q w t _ _) = absurd (let y : region_sort ≡ const_sort = sym t ∙ s in cc)
unevaluated_asks_one l s (of_aliases o w _ n t r) = absurd (let y : type_sort ≡ const_sort = sym t ∙ s in cc)
unevaluated_asks_one l s (of_unevaluated w _ n t _) = w
unevaluated_asks_one l s (of_parts i d g n rh pl m o r) = absurd (n l)

-- Where opaque types are left open no bare pair has one.
bare_not_open : (k : Settings) (a b : Tree) → AreBare k a b → LeavesOpaque k → IsOpaqueBeside a b ⊎ IsOpaqueBeside b a → ⊥
bare_not_open k a b bare l o = go bare.aliases o
  where
    go : DefersAliases k ⊎ (HasNoAlias a × HasNoAlias b) → IsOpaqueBeside a b ⊎ IsOpaqueBeside b a → ⊥
    go (inl m) p = false≢true (sym l.0 ∙ m.0)
    go (inr f) (inl p) = no_alias_term a f.0 (opaque_is_alias a (beside_is_opaque a b p))
    go (inr f) (inr p) = no_alias_term b f.1 (opaque_is_alias b (beside_is_opaque b a p))

module _ {Key Id Name : Type 0} (r q : State Key Id Name) {n : ℕ} (g : Passes n r q) where
  -- The state after, with what was remembered before.
  abbrev unremembering : State Key Id Name
  unremembering = record {
    meaning = q.meaning;
    store = q.store;
    goals = q.goals;
    kept = q.kept;
    ambient = q.ambient;
    remembered = r.remembered;
    lawful = Unit {0};
  }

  then_stands : Stands unremembering q
  then_stands = record {
    extends = stays_same q.meaning;
    constraints = refl;
    goals = refl;
    settings = refl;
    environment = refl;
  }

  -- Nothing was recorded but what the two states show.
  same_record : (q.store).constraints ≡ (r.store).constraints → q.goals ≡ r.goals → Stands r unremembering
  same_record constraints goals = record {
    extends = g.extends;
    constraints = constraints;
    goals = goals;
    settings = same_settings g.kept;
    environment = same_environment g.kept;
  }

  -- At most the two types were remembered besides.
  module _ (a b : TyKey Key) (ka : IsTrue (known ((r.meaning).ty a))) (kb : IsTrue (known ((r.meaning).ty b))) where
    stays_a : (q.meaning).ty a ≡ (r.meaning).ty a
    stays_a = (g.extends).ty a ka

    stays_b : (q.meaning).ty b ≡ (r.meaning).ty b
    stays_b = (g.extends).ty b kb

    abbrev Asks : Wanted → Type 0
    Asks z = AsksFor (items_in r) z r.ambient ((r.meaning).ty a) ((r.meaning).ty b)

    abbrev IsNew : Pair Key → Type 0
    IsNew p = IsTrue (known ((q.meaning).ty p.1)) × IsTrue (known ((q.meaning).ty p.2)) × ((z : Wanted) →
        AsksFor (items_in q) z p.0 ((q.meaning).ty p.1) ((q.meaning).ty p.2) → Asks z)

    the_pair : IsNew (r.ambient, a, b)
    the_pair = (
      subst (λ t. IsTrue (known t)) (sym stays_a) ka,
      subst (λ t. IsTrue (known t)) (sym stays_b) kb,
      λ z asks. subst₂ (AsksFor (items_in r) z r.ambient) stays_a stays_b
          (subst (λ c. AsksFor c z r.ambient ((q.meaning).ty a) ((q.meaning).ty b)) (same_items g) asks),
    )

    remembered_then : ((p : Pair Key) → Contains q.remembered p → (p ≡ (r.ambient, a, b)) ⊎ Contains r.remembered p) →
        RecordsJust Asks r unremembering → RecordsJust Asks r q
    remembered_then members f = records_remembering then_stands f
        (λ p m. ⊎_elim (λ e. inl (subst IsNew (sym e) the_pair)) (λ c. inr c) (members p m))

    -- Of two types.
    module _ (sa : IsTerm type_sort ((r.meaning).ty a)) (promised : Unit {0})
        (bare : AreBare r.kept.settings ((r.meaning).ty a) ((r.meaning).ty b)) where
      sort_a : sort_of ((r.meaning).ty a) ≡ type_sort
      sort_a = term_sort_of type_var ((r.meaning).ty a) sa

      none_open : one_has_variable r.meaning a b ≡ false
      none_open = ap₂ ◌||◌ (plain_none_open ((r.meaning).ty a) bare.left_plain)
          (plain_none_open ((r.meaning).ty b) bare.right_plain)

      left_number : (k : VarKind) (i : ℕ) → IsNumberKind k → (r.meaning).ty a ≡ leaf (variable k i) → ⊥
      left_number k i h e = no_number k h (plain_variable k i ((r.meaning).ty a) e bare.left_plain)

      right_number : (k : VarKind) (i : ℕ) → IsNumberKind k → (r.meaning).ty b ≡ leaf (variable k i) → ⊥
      right_number k i h e = no_number k h (plain_variable k i ((r.meaning).ty b) e bare.right_plain)

      -- What they were combined to.
      combined_records : (t : TyKey Key) → (r.meaning).ty a ≢ (r.meaning).ty b → TysCombine r q a b (Ok (Done t)) →
          RecordsJust Asks r unremembering
      combined_records t differ (left_error e h is) = absurd (plain_no_error ((r.meaning).ty a) bare.left_plain e)
      combined_records t differ (right_error n e h is) = absurd (plain_no_error ((r.meaning).ty b) bare.right_plain e)
      combined_records t differ (is_deferred p clean l o e h is) =
          records_goal p g.extends (ap (λ st. st.constraints) h.store) h.goals (same_settings g.kept)
          (same_environment g.kept) refl (of_aliases p refl o differ sort_a e) (λ z w. alias_asks_one p o sort_a e w)
      combined_records t differ (left_open clean l o h is) =
          absurd (bare_not_open r.kept.settings ((r.meaning).ty a) ((r.meaning).ty b) bare l o)
      combined_records t differ (not_registered clean l h is) = absurd cc
      combined_records t differ (not_left clean n same (equated k i j h x y joins is)) = absurd (left_number k i h x)
      combined_records t differ (not_left clean n same (left_bound k i x h is)) = absurd (left_number k i (of_number k h) x)
      combined_records t differ (not_left clean n same (right_bound k i x h is)) =
          absurd (right_number k i (of_number k h) x)
      combined_records t differ (not_left clean n same (left_unlike h stays is)) = absurd cc
      combined_records t differ (not_left clean n same (right_unlike h stays is)) = absurd cc
      combined_records t differ (not_left clean n same (ty_variable o stays is)) = absurd cc
      combined_records t differ (not_left clean n same (by_parts x y stays is)) = absurd cc

      done_records : (t : TyKey Key) → RemembersTys r q a b (Ok (Done t)) → StepsTys r q a b (Ok (Done t)) →
          RecordsJust Asks r q
      done_records t members (one_type e l is) = remembered_then (members none_open)
          (records_trivial (same_record (ap (λ st. st.constraints) l.store) l.goals) refl (λ z w. itself_is_trivial w e))
      done_records t members (without_variables differ e (met_again z l is)) = remembered_then (members none_open)
          (records_nothing (same_record (ap (λ st. st.constraints) l.store) l.goals) refl
          (λ since covers w asks. (covers z.pair z.is_in).2
          (subst₂ (AreBare r.kept.settings) (sym z.left) (sym z.right) bare) w
          (subst (λ v. AsksFor (items_in r) w v ((r.meaning).ty (z.pair).1) ((r.meaning).ty (z.pair).2)) (sym z.variance)
          (subst₂ (AsksFor (items_in r) w r.ambient) (sym z.left) (sym z.right) asks))))
      done_records t members (without_variables differ e (combined h)) =
          remembered_then (members none_open) (combined_records t differ h)
      done_records t members (without_variables differ e (not_remembered u h is)) = absurd cc
      done_records t members (resolved_first x y differ e i j h) = absurd (false≢true (sym none_open ∙ e))

      -- Two forms that are left are the two.
      parts_records : (x y : TyKey Key) → RemembersTys r q a b (Ok (Parts x y)) → StepsTys r q a b (Ok (Parts x y)) →
          ((q.meaning).ty x ≡ (r.meaning).ty a) × ((q.meaning).ty y ≡ (r.meaning).ty b) × RecordsJust (λ z. ⊥) r q
      parts_records x y members (one_type e l is) = absurd cc
      parts_records x y members (without_variables differ e (met_again z l is)) = absurd cc
      parts_records x y members (without_variables differ e (combined h)) = go h
        where
          met : MeetsTys r.meaning r.store q.store a b (Ok (Parts x y)) → (x ≡ a) × (y ≡ b) × (q.store ≡ r.store)
          met (equated k i j h u v joins is) = absurd cc
          met (left_bound k i u h is) = absurd cc
          met (right_bound k i u h is) = absurd cc
          met (left_unlike h stays is) = absurd cc
          met (right_unlike h stays is) = absurd cc
          met (ty_variable o stays is) = absurd cc
          met (by_parts u v stays is) = ((cc), (cc), stays)

          go : TysCombine r q a b (Ok (Parts x y)) → ((q.meaning).ty x ≡ (r.meaning).ty a) ×
              ((q.meaning).ty y ≡ (r.meaning).ty b) × RecordsJust (λ z. ⊥) r q
          go (left_error e h is) = absurd cc
          go (right_error n e h is) = absurd cc
          go (is_deferred p clean l o e h is) = absurd cc
          go (left_open clean l o h is) = absurd cc
          go (not_registered clean l h is) = absurd cc
          go (not_left clean n same h) = let z = met h in (
            ap (q.meaning).ty z.0 ∙ stays_a,
            ap (q.meaning).ty z.1 ∙ stays_b,
            records_trivial (record {
              extends = g.extends;
              constraints = ap (λ st. st.constraints) z.2;
              goals = same;
              settings = same_settings g.kept;
              environment = same_environment g.kept;
            }) (members none_open) (λ w o. absurd o),
          )
      parts_records x y members (without_variables differ e (not_remembered u h is)) = absurd cc
      parts_records x y members (resolved_first u v differ e i j h) = absurd (false≢true (sym none_open ∙ e))

      -- No other pair is left of them.
      never_again : (k l x y u : TyKey Key) (v : Variance) → StepsTys r q a b (Ok (Again k l x y v u)) → ⊥
      never_again k l x y u v (one_type e h is) = cc
      never_again k l x y u v (without_variables differ e (met_again z h is)) = cc
      never_again k l x y u v (without_variables differ e (combined h)) = go h
        where
          met : MeetsTys r.meaning r.store q.store a b (Ok (Again k l x y v u)) → ⊥
          met (equated k i j h u v joins is) = cc
          met (left_bound k i u h is) = cc
          met (right_bound k i u h is) = cc
          met (left_unlike h stays is) = cc
          met (right_unlike h stays is) = cc
          met (ty_variable o stays is) = cc
          met (by_parts u v stays is) = cc

          go : TysCombine r q a b (Ok (Again k l x y v u)) → ⊥
          go (left_error e h is) = cc
          go (right_error n e h is) = cc
          go (is_deferred p clean l o e h is) = cc
          go (left_open clean l o h is) = cc
          go (not_registered clean l h is) = cc
          go (not_left clean n same h) = met h
      never_again k l x y u v (without_variables differ e (not_remembered t h is)) = cc
      never_again k l x y u v (resolved_first s t differ e i j h) = false≢true (sym none_open ∙ e)

    pub tys_record : (result : Result (Step (TyKey Key)) (RelateFault Key Id Name)) →
        IsTerm type_sort ((r.meaning).ty a) → RemembersTys r q a b result → StepsTys r q a b result →
        StepRecords solver_manner r q (q.meaning).ty ((r.meaning).ty a) ((r.meaning).ty b) result
    tys_record (Ok (Done t)) sa members h =
        ((λ promised bare. done_records sa promised bare t members h), tys_more r q g a b ka kb t h)
    tys_record (Ok (Parts x y)) sa members h = (
      λ promised bare. parts_records sa promised bare x y members h,
      λ promised. parts_lead r q g a b ka kb x y h,
    )
    tys_record (Ok (Again k l x y v u)) sa members h = (
      λ promised bare. never_again sa promised bare k l x y u v h,
      λ promised. again_leads r q g a b ka kb k l x y u v h,
    )
    tys_record (Err f) sa members h = tt

  -- Of two constants, of which nothing is remembered.
  module _ (a b : ConstKey Key) (ka : IsTrue (known ((r.meaning).const_ a))) (kb : IsTrue (known ((r.meaning).const_ b)))
      (sa : IsTerm const_sort ((r.meaning).const_ a)) (sb : IsTerm const_sort ((r.meaning).const_ b))
      (decides : r.ambient ≢ Bivariant) (memory : q.remembered ≡ r.remembered) where
    abbrev ConstsAsk : Wanted → Type 0
    ConstsAsk z = AsksFor (items_in r) z r.ambient ((r.meaning).const_ a) ((r.meaning).const_ b)

    module _ (bare : AreBare r.kept.settings ((r.meaning).const_ a) ((r.meaning).const_ b)) where
      no_const_variable : (i : ℕ) (t u : Tree) → IsPlainTerm t → u ≡ t → u ≡ leaf (variable const_var i) → ⊥
      no_const_variable i t u p e x = let k : const_var ≡ region_var = plain_variable const_var i t (sym e ∙ x) p in cc

      read_a : (x : ConstKey Key) → IsReadAs r.store ((r.meaning).const_ a) ((r.meaning).const_ x) →
          (r.meaning).const_ x ≡ (r.meaning).const_ a
      read_a x h = plain_read r.store ((r.meaning).const_ a) ((r.meaning).const_ x) sa bare.left_plain h

      read_b : (y : ConstKey Key) → IsReadAs r.store ((r.meaning).const_ b) ((r.meaning).const_ y) →
          (r.meaning).const_ y ≡ (r.meaning).const_ b
      read_b y h = plain_read r.store ((r.meaning).const_ b) ((r.meaning).const_ y) sb bare.right_plain h

      const_sort_a : sort_of ((r.meaning).const_ a) ≡ const_sort
      const_sort_a = term_sort_of const_var ((r.meaning).const_ a) sa

      consts_done : (t : ConstKey Key) → ConstsCombine r q a b (Ok (Done t)) → RecordsJust ConstsAsk r q
      consts_done t (one_constant e m st gs is) = records_trivial (record {
        extends = g.extends;
        constraints = ap (λ s. s.constraints) st;
        goals = gs;
        settings = same_settings g.kept;
        environment = same_environment g.kept;
      }) memory (λ z w. itself_is_trivial w e)
      consts_done t (consts_resolved x y differ i j h) = go h
        where
          left : (r.meaning).const_ x ≡ (r.meaning).const_ a
          left = read_a x (i.reads).reads

          right : (r.meaning).const_ y ≡ (r.meaning).const_ b
          right = read_b y (j.reads).reads

          met : MeetsConsts r.meaning q.meaning r.store q.store r.kept.settings.structurally_relate_aliases x y
              (Ok (Done t)) → ⊥
          met (roots_equated n k e f joins m is) =
              no_const_variable n ((r.meaning).const_ a) ((r.meaning).const_ x) bare.left_plain left e
          met (left_root_bound n k e f o is) = cc
          met (left_root_refused n f e k o is) = cc
          met (right_root_bound n k e f o is) = cc
          met (right_root_refused n f e k o is) = cc
          met (formed_by_parts e f m s is) = cc

          go : CombinesShallow r q x y (Ok (Done t)) → RecordsJust ConstsAsk r q
          go (const_is_deferred e f l o h is) = records_goal
              (alias_relate_predicate Equate ((r.meaning).const_ a) ((r.meaning).const_ b)) g.extends
              (ap (λ st. st.constraints) h.store) (subst₂ (λ t u. q.goals ≡ r.goals ++
              goal_of r.kept.environment (alias_relate_predicate Equate t u) ∷ []) left right h.goals)
              (same_settings g.kept) (same_environment g.kept) memory
              (of_unevaluated refl (subst₂ HaveAlias left right o) differ const_sort_a decides)
              (λ z w. unevaluated_asks_one (subst₂ HaveAlias left right o) const_sort_a w)
          go (const_not_registered l h is) = absurd cc
          go (const_not_left n same h) = absurd (met h)

      consts_parts : (u v : ConstKey Key) → ConstsCombine r q a b (Ok (Parts u v)) →
          ((q.meaning).const_ u ≡ (r.meaning).const_ a) × ((q.meaning).const_ v ≡ (r.meaning).const_ b) ×
          RecordsJust (λ z. ⊥) r q
      consts_parts u v (one_constant e m st gs is) = absurd cc
      consts_parts u v (consts_resolved x y differ i j h) = go h
        where
          met : MeetsConsts r.meaning q.meaning r.store q.store r.kept.settings.structurally_relate_aliases x y
              (Ok (Parts u v)) → (u ≡ x) × (v ≡ y) × (q.meaning ≡ r.meaning) × (q.store ≡ r.store)
          met (roots_equated n k e f joins m is) = absurd cc
          met (left_root_bound n k e f o is) = absurd cc
          met (left_root_refused n f e k o is) = absurd cc
          met (right_root_bound n k e f o is) = absurd cc
          met (right_root_refused n f e k o is) = absurd cc
          met (formed_by_parts e f m s is) = ((cc), (cc), m, s)

          go : CombinesShallow r q x y (Ok (Parts u v)) → ((q.meaning).const_ u ≡ (r.meaning).const_ a) ×
              ((q.meaning).const_ v ≡ (r.meaning).const_ b) × RecordsJust (λ z. ⊥) r q
          go (const_is_deferred e f l o h is) = absurd cc
          go (const_not_registered l h is) = absurd cc
          go (const_not_left n same h) = let z = met h in (
            ap₂ (λ m k. m.const_ k) z.2 z.0 ∙ read_a x (i.reads).reads,
            ap₂ (λ m k. m.const_ k) z.2 z.1 ∙ read_b y (j.reads).reads,
            records_trivial (record {
              extends = g.extends;
              constraints = ap (λ st. st.constraints) z.3;
              goals = same;
              settings = same_settings g.kept;
              environment = same_environment g.kept;
            }) memory (λ w o. absurd o),
          )

      consts_never_again : (k l u v t : ConstKey Key) (w : Variance) →
          ConstsCombine r q a b (Ok (Again k l u v w t)) → ⊥
      consts_never_again k l u v t w (one_constant e m st gs is) = cc
      consts_never_again k l u v t w (consts_resolved x y differ i j h) = go h
        where
          met : MeetsConsts r.meaning q.meaning r.store q.store r.kept.settings.structurally_relate_aliases x y
              (Ok (Again k l u v w t)) → ⊥
          met (roots_equated n k e f joins m is) = cc
          met (left_root_bound n k e f o is) =
              no_const_variable n ((r.meaning).const_ a) ((r.meaning).const_ x) bare.left_plain (read_a x (i.reads).reads) e
          met (left_root_refused n f e k o is) = cc
          met (right_root_bound n k e f o is) =
              no_const_variable n ((r.meaning).const_ b) ((r.meaning).const_ y) bare.right_plain (read_b y (j.reads).reads) e
          met (right_root_refused n f e k o is) = cc
          met (formed_by_parts e f m s is) = cc

          go : CombinesShallow r q x y (Ok (Again k l u v w t)) → ⊥
          go (const_is_deferred e f l o h is) = cc
          go (const_not_registered l h is) = cc
          go (const_not_left n same h) = met h

    pub consts_record : (result : Result (Step (ConstKey Key)) (RelateFault Key Id Name)) → ConstsCombine r q a b result →
        StepRecords solver_manner r q (q.meaning).const_ ((r.meaning).const_ a) ((r.meaning).const_ b) result
    consts_record (Ok (Done t)) h = ((λ promised bare. consts_done bare t h), consts_more r q g a b t h)
    consts_record (Ok (Parts u v)) h =
        ((λ promised bare. consts_parts bare u v h), (λ promised. consts_parts_lead r q g a b u v h))
    consts_record (Ok (Again k l u v w t)) h = (
      λ promised bare. consts_never_again bare k l u v t w h,
      λ promised. consts_again_lead r q g a b sa decides k l u v t w h,
    )
    consts_record (Err f) h = tt
