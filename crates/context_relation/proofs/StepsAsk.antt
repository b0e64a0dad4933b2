-- A step of a relation over a context records no constraint, and what the pair that it leaves asks for its terms ask for.
use Rattle.std.proofs.Common.{◌≡◌, ◌≢◌, ℕ, refl, sym, ap, ◌∙◌, subst, subst₂, IsTrue, Ok}
use native.Mathlib.Decide.{ℕ_discrete}
use Rattle.term_enums.specs.declared.Variance.{Variance}
use Rattle.term_enums.specs.declared.Variance.TheVariants.{Covariant, Invariant, Bivariant}
use Rattle.term_enums.specs.Variances.{xform}
use Rattle.relation_terms.specs.declared.terms.keys.TyKey.{TyKey}
use Rattle.relation_terms.specs.declared.terms.keys.ConstKey.{ConstKey}
use Rattle.relation_terms.specs.Heads.{const_sort, VarKind, type_var, const_var}
use Rattle.relation_terms.specs.Trees.{Tree, apply, known, IsTerm}
use Rattle.relation_semantics.specs.declared.relate.Step.{Step}
use Rattle.relation_semantics.specs.declared.relate.Step.TheVariants.{Done, Parts, Again}
use Rattle.relation_semantics.specs.Asking.{a_constraint, AsksFor}
use Rattle.relation_semantics.specs.Errors.{IsReadAs, itself}
use Rattle.relation_semantics.specs.Lawful.{State, Passes, RecordsNoMore, items_in}
use Rattle.relation_semantics.specs.Recording.{LeadsAsking}
use Rattle.relation_semantics.specs.Steps.{IsLater}
use Rattle.relation_semantics.specs.Stores.{Store, IsSound, bound_to, resolved}
use Rattle.relation_semantics.proofs.Answering.{covariantly}
use Rattle.relation_semantics.proofs.AskingSince.{no_more_same, leads_alike, reads_since, bound_since, bound_constraints}
use Rattle.relation_semantics.proofs.Going.{later_through}
use Rattle.relation_semantics.proofs.Instantiating.{stands_resolved}
use Rattle.relation_combining.specs.Combining.{Joins, TysCombine, ConstsCombine, CombinesShallow}
use Rattle.relation_combining.specs.Combining.{left_error, right_error, is_deferred, left_open, not_registered, not_left}
use Rattle.relation_combining.specs.Combining.{equated, left_bound, right_bound, left_unlike, right_unlike, ty_variable, by_parts}
use Rattle.relation_combining.specs.Combining.{ReadsShallow, one_constant, const_is_deferred, const_not_registered, const_not_left}
use Rattle.relation_combining.specs.Combining.{roots_equated, left_root_bound, left_root_refused, right_root_bound}
use Rattle.relation_combining.specs.Combining.{right_root_refused, formed_by_parts}
use Rattle.relation_combining.specs.Combining.{resolved_first as consts_resolved}
use Rattle.relation_combining.specs.Solving.{solver_manner}
use Rattle.relation_combining.proofs.Constants.{constants_ask, fixed}
use Rattle.context_relation.specs.Stepping.{StepsTys, CombinesShallowTys, CombinesTyVars, one_type, without_variables}
use Rattle.context_relation.specs.Stepping.{resolved_first, met_again, combined, not_remembered, two_variables, made_one}
use Rattle.context_relation.specs.Stepping.{left_subtype, right_subtype, goal_refused, left_asked, left_unasked, left_refused}
use Rattle.context_relation.specs.Stepping.{right_asked, right_unasked, right_refused, no_ty_variables}
use Rattle.context_relation.specs.Stepping.{left_bound as ty_left_bound, right_bound as ty_right_bound}

-- Two variables were made one.
joined : {before after : Store} {k : VarKind} {i j : ℕ} → Joins before after k i j → after.constraints ≡ before.constraints
joined {before} {after} {k} {i} {j} h = go (ℕ_discrete i j)
  where
    go : Dec (i ≡ j) → after.constraints ≡ before.constraints
    go (yes e) = ap (λ s. s.constraints) (h.same e)
    go (no o) = ((h.equates o).links).same_constraints

module _ {Key Id Name : Type 0} (r q : State Key Id Name) {n : ℕ} (g : Passes n r q) where
  abbrev Same : Type 0
  Same = (q.store).constraints ≡ (r.store).constraints

  stored : q.store ≡ r.store → Same
  stored e = ap (λ s. s.constraints) e

  -- Types were combined, and nothing is left of them, or they are.
  combined_none : (a b t : TyKey Key) → TysCombine r q a b (Ok (Done t)) → Same
  combined_none a b t (left_error e h is) = ((h.taints).nothing_else).same_constraints
  combined_none a b t (right_error n e h is) = ((h.taints).nothing_else).same_constraints
  combined_none a b t (is_deferred p clean l o e h is) = stored h.store
  combined_none a b t (left_open clean l o h is) = stored h.store
  combined_none a b t (not_registered clean l h is) = absurd cc
  combined_none a b t (not_left clean n same (equated k i j h x y joins is)) = joined joins
  combined_none a b t (not_left clean n same (left_bound k i x h is)) = (h.writes).same_constraints
  combined_none a b t (not_left clean n same (right_bound k i x h is)) = (h.writes).same_constraints
  combined_none a b t (not_left clean n same (left_unlike h stays is)) = absurd cc
  combined_none a b t (not_left clean n same (right_unlike h stays is)) = absurd cc
  combined_none a b t (not_left clean n same (ty_variable o stays is)) = absurd cc
  combined_none a b t (not_left clean n same (by_parts x y stays is)) = absurd cc

  combined_parts : (a b x y : TyKey Key) → TysCombine r q a b (Ok (Parts x y)) → (x ≡ a) × (y ≡ b) × (q.store ≡ r.store)
  combined_parts a b x y (left_error e h is) = absurd cc
  combined_parts a b x y (right_error n e h is) = absurd cc
  combined_parts a b x y (is_deferred p clean l o e h is) = absurd cc
  combined_parts a b x y (left_open clean l o h is) = absurd cc
  combined_parts a b x y (not_registered clean l h is) = absurd cc
  combined_parts a b x y (not_left clean n same (equated k i j h u v joins is)) = absurd cc
  combined_parts a b x y (not_left clean n same (left_bound k i u h is)) = absurd cc
  combined_parts a b x y (not_left clean n same (right_bound k i u h is)) = absurd cc
  combined_parts a b x y (not_left clean n same (left_unlike h stays is)) = absurd cc
  combined_parts a b x y (not_left clean n same (right_unlike h stays is)) = absurd cc
  combined_parts a b x y (not_left clean n same (ty_variable o stays is)) = absurd cc
  combined_parts a b x y (not_left clean n same (by_parts u v stays is)) = ((cc), (cc), stays)

  combined_again : (a b k l x y u : TyKey Key) (v : Variance) → TysCombine r q a b (Ok (Again k l x y v u)) → ⊥
  combined_again a b k l x y u v (left_error e h is) = cc
  combined_again a b k l x y u v (right_error n e h is) = cc
  combined_again a b k l x y u v (is_deferred p clean w o e h is) = cc
  combined_again a b k l x y u v (left_open clean w o h is) = cc
  combined_again a b k l x y u v (not_registered clean w h is) = cc
  combined_again a b k l x y u v (not_left clean n same (equated z i j h s t joins is)) = cc
  combined_again a b k l x y u v (not_left clean n same (left_bound z i s h is)) = cc
  combined_again a b k l x y u v (not_left clean n same (right_bound z i s h is)) = cc
  combined_again a b k l x y u v (not_left clean n same (left_unlike h stays is)) = cc
  combined_again a b k l x y u v (not_left clean n same (right_unlike h stays is)) = cc
  combined_again a b k l x y u v (not_left clean n same (ty_variable o stays is)) = cc
  combined_again a b k l x y u v (not_left clean n same (by_parts s t stays is)) = cc

  -- Two type variables, and a type variable with another type.
  variables_none : (a b t : TyKey Key) → CombinesTyVars r q a b (Ok (Done t)) → Same
  variables_none a b t (made_one i j v x y h m gs is) = joined h
  variables_none a b t (left_subtype v h is) = stored h.store
  variables_none a b t (right_subtype v h is) = stored h.store
  variables_none a b t (goal_refused v h is) = absurd cc

  shallow_none : (a b t : TyKey Key) → CombinesShallowTys r q a b (Ok (Done t)) → Same
  shallow_none a b t (two_variables i j x y h) = variables_none a b t h
  shallow_none a b t (ty_left_bound i x e o h p is) = absurd cc
  shallow_none a b t (left_asked i x p e o s h is) = bound_constraints (h.instantiated).1
  shallow_none a b t (left_unasked i x e o h is) = absurd cc
  shallow_none a b t (left_refused i f e o h is) = absurd cc
  shallow_none a b t (ty_right_bound i x e o h p is) = absurd cc
  shallow_none a b t (right_asked i x p e o s h is) = bound_constraints (h.instantiated).1
  shallow_none a b t (right_unasked i x e o h is) = absurd cc
  shallow_none a b t (right_refused i f e o h is) = absurd cc
  shallow_none a b t (no_ty_variables x y h) = combined_none a b t h

  variables_left : (a b : TyKey Key) (s : Step (TyKey Key)) → ((t : TyKey Key) → s ≡ Done t → ⊥) →
      CombinesTyVars r q a b (Ok s) → ⊥
  variables_left a b s never (made_one i j v x y h m gs is) = never a cc
  variables_left a b s never (left_subtype v h is) = never a cc
  variables_left a b s never (right_subtype v h is) = never a cc
  variables_left a b s never (goal_refused v h is) = absurd cc

  shallow_parts : (a b x y : TyKey Key) → CombinesShallowTys r q a b (Ok (Parts x y)) →
      (x ≡ a) × (y ≡ b) × (q.store ≡ r.store)
  shallow_parts a b x y (two_variables i j e o h) = absurd (variables_left a b (Parts x y) (λ t o. cc) h)
  shallow_parts a b x y (ty_left_bound i z e o h p is) = absurd cc
  shallow_parts a b x y (left_asked i z p e o s h is) = absurd cc
  shallow_parts a b x y (left_unasked i z e o h is) = absurd cc
  shallow_parts a b x y (left_refused i f e o h is) = absurd cc
  shallow_parts a b x y (ty_right_bound i z e o h p is) = absurd cc
  shallow_parts a b x y (right_asked i z p e o s h is) = absurd cc
  shallow_parts a b x y (right_unasked i z e o h is) = absurd cc
  shallow_parts a b x y (right_refused i f e o h is) = absurd cc
  shallow_parts a b x y (no_ty_variables s t h) = combined_parts a b x y h

  module _ (a b : TyKey Key) (ka : IsTrue (known ((r.meaning).ty a))) (kb : IsTrue (known ((r.meaning).ty b))) where
    abbrev Leads : Variance → Tree → Tree → Type 0
    Leads w x y = LeadsAsking r.kept.settings (items_in r) r.store q.store r.ambient ((r.meaning).ty a)
        ((r.meaning).ty b) w x y

    stays : (t : TyKey Key) → IsTrue (known ((r.meaning).ty t)) → (q.meaning).ty t ≡ (r.meaning).ty t
    stays t k = (g.extends).ty t k

    done_none : (t : TyKey Key) → StepsTys r q a b (Ok (Done t)) → Same
    done_none t (one_type e l is) = stored l.store
    done_none t (without_variables differ e (met_again z l is)) = stored l.store
    done_none t (without_variables differ e (combined h)) = combined_none a b t h
    done_none t (without_variables differ e (not_remembered u h is)) = absurd cc
    done_none t (resolved_first x y differ e i j (met_again z l is)) = stored l.store
    done_none t (resolved_first x y differ e i j (combined h)) = shallow_none x y t h
    done_none t (resolved_first x y differ e i j (not_remembered u h is)) = absurd cc

    -- What the two are read as is left.
    read_leads : (x y : TyKey Key) → IsTrue (known ((r.meaning).ty x)) → IsTrue (known ((r.meaning).ty y)) →
        IsReadAs r.store ((r.meaning).ty a) ((r.meaning).ty x) → IsReadAs r.store ((r.meaning).ty b) ((r.meaning).ty y) →
        (s t : TyKey Key) → (s ≡ x) × (t ≡ y) × (q.store ≡ r.store) → Leads r.ambient ((q.meaning).ty s) ((q.meaning).ty t)
    read_leads x y kx ky i j s t same =
        subst₂ (Leads r.ambient) (sym (ap (q.meaning).ty same.0 ∙ stays x kx)) (sym (ap (q.meaning).ty same.1 ∙ stays y ky))
        (leads_alike r.kept.settings (items_in r) r.store q.store r.ambient r.ambient ((r.meaning).ty a) ((r.meaning).ty b)
        ((r.meaning).ty x) ((r.meaning).ty y) (stored same.2) (λ st later sound.
        let l = later_through (g.goes).later later in (
          sym (reads_since r.store st l sound ((r.meaning).ty a) ((r.meaning).ty x) i),
          sym (reads_since r.store st l sound ((r.meaning).ty b) ((r.meaning).ty y) j),
        )) (λ z st sound asks. asks))

    pub parts_lead : (x y : TyKey Key) → StepsTys r q a b (Ok (Parts x y)) →
        Leads r.ambient ((q.meaning).ty x) ((q.meaning).ty y)
    parts_lead x y (one_type e l is) = absurd cc
    parts_lead x y (without_variables differ e (met_again z l is)) = absurd cc
    parts_lead x y (without_variables differ e (combined h)) =
        read_leads a b ka kb (itself refl) (itself refl) x y (combined_parts a b x y h)
    parts_lead x y (without_variables differ e (not_remembered u h is)) = absurd cc
    parts_lead x y (resolved_first s t differ e i j (met_again z l is)) = absurd cc
    parts_lead x y (resolved_first s t differ e i j (combined h)) =
        read_leads s t (i.reads).sure (j.reads).sure (i.reads).reads (j.reads).reads x y (shallow_parts s t x y h)
    parts_lead x y (resolved_first s t differ e i j (not_remembered u h is)) = absurd cc

    -- A type variable was bound, and the bound type is left in its place.
    pub again_leads : (k l x y u : TyKey Key) (v : Variance) → StepsTys r q a b (Ok (Again k l x y v u)) →
        Leads (xform r.ambient v) ((q.meaning).ty x) ((q.meaning).ty y)
    again_leads k l x y u v (one_type e m is) = absurd cc
    again_leads k l x y u v (without_variables differ e (met_again z m is)) = absurd cc
    again_leads k l x y u v (without_variables differ e (combined h)) = absurd (combined_again a b k l x y u v h)
    again_leads k l x y u v (without_variables differ e (not_remembered t h is)) = absurd cc
    again_leads k l x y u v (resolved_first s t differ e i j (met_again z m is)) = absurd cc
    again_leads k l x y u v (resolved_first s t differ e i j (not_remembered w h is)) = absurd cc
    again_leads k l x y u v (resolved_first s t differ e i j (combined h)) = go h
      where
        goes_on : Same → v ≡ Covariant → ((st : Store) → IsLater q.store st → IsSound st →
            (apply (resolved st) ((q.meaning).ty x) ≡ apply (resolved st) ((r.meaning).ty a)) ×
            (apply (resolved st) ((q.meaning).ty y) ≡ apply (resolved st) ((r.meaning).ty b))) →
            Leads (xform r.ambient v) ((q.meaning).ty x) ((q.meaning).ty y)
        goes_on none is same = leads_alike r.kept.settings (items_in r) r.store q.store r.ambient (xform r.ambient v)
            ((r.meaning).ty a) ((r.meaning).ty b) ((q.meaning).ty x) ((q.meaning).ty y) none same
            (λ z st sound asks. subst (λ w. AsksFor (items_in r) (a_constraint z) w
            (apply (resolved st) ((r.meaning).ty a)) (apply (resolved st) ((r.meaning).ty b)))
            (ap (xform r.ambient) is ∙ covariantly r.ambient) asks)

        left_comes : (st : Store) → IsLater q.store st → IsSound st → (z : TyKey Key) → z ≡ s →
            apply (resolved st) ((q.meaning).ty z) ≡ apply (resolved st) ((r.meaning).ty a)
        left_comes st later sound z e = ap (apply (resolved st)) (ap (q.meaning).ty e ∙ stays s (i.reads).sure)
            ∙ sym (reads_since r.store st (later_through (g.goes).later later) sound ((r.meaning).ty a) ((r.meaning).ty s)
            (i.reads).reads)

        right_comes : (st : Store) → IsLater q.store st → IsSound st → (z : TyKey Key) → z ≡ t →
            apply (resolved st) ((q.meaning).ty z) ≡ apply (resolved st) ((r.meaning).ty b)
        right_comes st later sound z e = ap (apply (resolved st)) (ap (q.meaning).ty e ∙ stays t (j.reads).sure)
            ∙ sym (reads_since r.store st (later_through (g.goes).later later) sound ((r.meaning).ty b) ((r.meaning).ty t)
            (j.reads).reads)

        go : CombinesShallowTys r q s t (Ok (Again k l x y v u)) → Leads (xform r.ambient v) ((q.meaning).ty x) ((q.meaning).ty y)
        go (two_variables n m e o h) = absurd (variables_left s t (Again k l x y v u) (λ z o. cc) h)
        go (ty_left_bound n z e o h p is) =
            let f = (h.instantiated).1 in
            let same : x ≡ z = cc in
            goes_on (bound_constraints f) (cc) (λ st later sound. (
              bound_since r.store q.store st (g.goes).later later sound ((r.meaning).ty a) type_var n ((q.meaning).ty x)
                  (subst (IsReadAs r.store ((r.meaning).ty a)) e (i.reads).reads)
                  (((f.binds).writes).written ∙ ap (λ z. bound_to ((q.meaning).ty z)) (sym same)),
              right_comes st later sound y (cc),
            ))
        go (left_asked n z p e o w h is) = absurd cc
        go (left_unasked n z e o h is) = absurd cc
        go (left_refused n f e o h is) = absurd cc
        go (ty_right_bound n z e o h p is) =
            let f = (h.instantiated).1 in
            let same : y ≡ z = cc in
            goes_on (bound_constraints f) (cc) (λ st later sound. (
              left_comes st later sound x (cc),
              bound_since r.store q.store st (g.goes).later later sound ((r.meaning).ty b) type_var n ((q.meaning).ty y)
                  (subst (IsReadAs r.store ((r.meaning).ty b)) e (j.reads).reads)
                  (((f.binds).writes).written ∙ ap (λ z. bound_to ((q.meaning).ty z)) (sym same)),
            ))
        go (right_asked n z p e o w h is) = absurd cc
        go (right_unasked n z e o h is) = absurd cc
        go (right_refused n f e o h is) = absurd cc
        go (no_ty_variables z w h) = absurd (combined_again s t k l x y u v h)

    -- So it is of each answer.
    pub tys_more : (t : TyKey Key) → StepsTys r q a b (Ok (Done t)) →
        RecordsNoMore solver_manner r q r.ambient ((r.meaning).ty a) ((r.meaning).ty b)
    tys_more t h promised = no_more_same r.kept.settings (items_in r) r.store q.store r.ambient ((r.meaning).ty a)
        ((r.meaning).ty b) (done_none t h)

  -- Constants.
  module _ (a b : ConstKey Key) where
    const_none : (x y t : ConstKey Key) → CombinesShallow r q x y (Ok (Done t)) → Same
    const_none x y t (const_is_deferred e f l o h is) = stored h.store
    const_none x y t (const_not_registered l h is) = absurd cc
    const_none x y t (const_not_left n same (roots_equated i j e f joins m is)) = joined joins
    const_none x y t (const_not_left n same (left_root_bound i z e f o is)) = absurd cc
    const_none x y t (const_not_left n same (left_root_refused i z e f o is)) = absurd cc
    const_none x y t (const_not_left n same (right_root_bound i z e f o is)) = absurd cc
    const_none x y t (const_not_left n same (right_root_refused i z e f o is)) = absurd cc
    const_none x y t (const_not_left n same (formed_by_parts e f m s is)) = absurd cc

    pub consts_more : (t : ConstKey Key) → ConstsCombine r q a b (Ok (Done t)) →
        RecordsNoMore solver_manner r q r.ambient ((r.meaning).const_ a) ((r.meaning).const_ b)
    consts_more t h promised = no_more_same r.kept.settings (items_in r) r.store q.store r.ambient ((r.meaning).const_ a)
        ((r.meaning).const_ b) (go h)
      where
        go : ConstsCombine r q a b (Ok (Done t)) → Same
        go (one_constant e m st gs is) = stored st
        go (consts_resolved x y differ i j h) = const_none x y t h

    abbrev ConstsLead : Variance → Tree → Tree → Type 0
    ConstsLead w x y = LeadsAsking r.kept.settings (items_in r) r.store q.store r.ambient ((r.meaning).const_ a)
        ((r.meaning).const_ b) w x y

    const_stays : (t : ConstKey Key) → IsTrue (known ((r.meaning).const_ t)) → (q.meaning).const_ t ≡ (r.meaning).const_ t
    const_stays t k = (g.extends).const_ t k

    pub consts_parts_lead : (u v : ConstKey Key) → ConstsCombine r q a b (Ok (Parts u v)) →
        ConstsLead r.ambient ((q.meaning).const_ u) ((q.meaning).const_ v)
    consts_parts_lead u v (one_constant e m st gs is) = absurd cc
    consts_parts_lead u v (consts_resolved x y differ i j h) = go h
      where
        left : ReadsShallow r.meaning r.store a x
        left = i

        right : ReadsShallow r.meaning r.store b y
        right = j

        met : u ≡ x → v ≡ y → q.store ≡ r.store → ConstsLead r.ambient ((q.meaning).const_ u) ((q.meaning).const_ v)
        met e d st = subst₂ (ConstsLead r.ambient)
            (sym (ap (q.meaning).const_ e ∙ const_stays x (left.reads).sure))
            (sym (ap (q.meaning).const_ d ∙ const_stays y (right.reads).sure))
            (leads_alike r.kept.settings (items_in r) r.store q.store r.ambient r.ambient ((r.meaning).const_ a)
            ((r.meaning).const_ b) ((r.meaning).const_ x) ((r.meaning).const_ y) (stored st) (λ now later sound.
            let l = later_through (g.goes).later later in (
              sym (reads_since r.store now l sound ((r.meaning).const_ a) ((r.meaning).const_ x) (left.reads).reads),
              sym (reads_since r.store now l sound ((r.meaning).const_ b) ((r.meaning).const_ y) (right.reads).reads),
            )) (λ z now sound asks. asks))

        go : CombinesShallow r q x y (Ok (Parts u v)) → ConstsLead r.ambient ((q.meaning).const_ u) ((q.meaning).const_ v)
        go (const_is_deferred e f l o h is) = absurd cc
        go (const_not_registered l h is) = absurd cc
        go (const_not_left n same (roots_equated i j e f joins m is)) = absurd cc
        go (const_not_left n same (left_root_bound i z e f o is)) = absurd cc
        go (const_not_left n same (left_root_refused i z e f o is)) = absurd cc
        go (const_not_left n same (right_root_bound i z e f o is)) = absurd cc
        go (const_not_left n same (right_root_refused i z e f o is)) = absurd cc
        go (const_not_left n same (formed_by_parts e f m s is)) = met (cc) (cc) s

    -- A variable was bound, and the bound constant is left at invariance.
    module _ (sa : IsTerm const_sort ((r.meaning).const_ a)) (decides : r.ambient ≢ Bivariant) where
      pub consts_again_lead : (k l u v t : ConstKey Key) (w : Variance) → ConstsCombine r q a b (Ok (Again k l u v w t)) →
          ConstsLead (xform r.ambient w) ((q.meaning).const_ u) ((q.meaning).const_ v)
      consts_again_lead k l u v t w (one_constant e m st gs is) = absurd cc
      consts_again_lead k l u v t w (consts_resolved x y differ i j h) = go h
        where
          left : ReadsShallow r.meaning r.store a x
          left = i

          right : ReadsShallow r.meaning r.store b y
          right = j

          goes_on : Same → w ≡ Invariant → ((st : Store) → IsLater q.store st → IsSound st →
              (apply (resolved st) ((q.meaning).const_ u) ≡ apply (resolved st) ((r.meaning).const_ a)) ×
              (apply (resolved st) ((q.meaning).const_ v) ≡ apply (resolved st) ((r.meaning).const_ b))) →
              ConstsLead (xform r.ambient w) ((q.meaning).const_ u) ((q.meaning).const_ v)
          goes_on none is same = leads_alike r.kept.settings (items_in r) r.store q.store r.ambient (xform r.ambient w)
              ((r.meaning).const_ a) ((r.meaning).const_ b) ((q.meaning).const_ u) ((q.meaning).const_ v) none same
              (λ z st sound asks. constants_ask r.ambient const_sort z tt
              (stands_resolved st const_var ((r.meaning).const_ a) sound sa)
              (λ e. let o : Invariant ≡ Bivariant = sym (ap (xform r.ambient) is ∙ fixed r.ambient decides) ∙ e in cc)
              decides refl asks)

          left_comes : (st : Store) → IsLater q.store st → IsSound st → (z : ConstKey Key) → z ≡ x →
              apply (resolved st) ((q.meaning).const_ z) ≡ apply (resolved st) ((r.meaning).const_ a)
          left_comes st later sound z e = ap (apply (resolved st))
              (ap (q.meaning).const_ e ∙ const_stays x (left.reads).sure)
              ∙ sym (reads_since r.store st (later_through (g.goes).later later) sound ((r.meaning).const_ a)
              ((r.meaning).const_ x) (left.reads).reads)

          right_comes : (st : Store) → IsLater q.store st → IsSound st → (z : ConstKey Key) → z ≡ y →
              apply (resolved st) ((q.meaning).const_ z) ≡ apply (resolved st) ((r.meaning).const_ b)
          right_comes st later sound z e = ap (apply (resolved st))
              (ap (q.meaning).const_ e ∙ const_stays y (right.reads).sure)
              ∙ sym (reads_since r.store st (later_through (g.goes).later later) sound ((r.meaning).const_ b)
              ((r.meaning).const_ y) (right.reads).reads)

          go : CombinesShallow r q x y (Ok (Again k l u v w t)) →
              ConstsLead (xform r.ambient w) ((q.meaning).const_ u) ((q.meaning).const_ v)
          go (const_is_deferred e f d o h is) = absurd cc
          go (const_not_registered d h is) = absurd cc
          go (const_not_left n same (roots_equated i j e f joins m is)) = absurd cc
          go (const_not_left n same (left_root_bound i z e f o is)) =
              let one : u ≡ z = cc in
              goes_on (bound_constraints o.1) (cc) (λ st later sound. (
                bound_since r.store q.store st (g.goes).later later sound ((r.meaning).const_ a) const_var i
                    ((q.meaning).const_ u) (subst (IsReadAs r.store ((r.meaning).const_ a)) e (left.reads).reads)
                    ((((o.1).binds).writes).written ∙ ap (λ z. bound_to ((q.meaning).const_ z)) (sym one)),
                right_comes st later sound v (cc),
              ))
          go (const_not_left n same (left_root_refused i z e f o is)) = absurd cc
          go (const_not_left n same (right_root_bound i z e f o is)) =
              let one : v ≡ z = cc in
              goes_on (bound_constraints o.1) (cc) (λ st later sound. (
                left_comes st later sound u (cc),
                bound_since r.store q.store st (g.goes).later later sound ((r.meaning).const_ b) const_var i
                    ((q.meaning).const_ v) (subst (IsReadAs r.store ((r.meaning).const_ b)) e (right.reads).reads)
                    ((((o.1).binds).writes).written ∙ ap (λ z. bound_to ((q.meaning).const_ z)) (sym one)),
              ))
          go (const_not_left n same (right_root_refused i z e f o is)) = absurd cc
          go (const_not_left n same (formed_by_parts e f m s is)) = absurd cc
