-- Binding a variable to what a term comes to, generalised for it: the assignments that are left, and that the store stays
-- sound.
use Rattle.std.proofs.Common.{◌≡◌, ◌≢◌, ◌⊎◌, ℕ, suc, ◌≤◌, refl, sym, ap, ap₂, ◌∙◌, arith, inl, inr, subst, subst₂, ◌<◌, [], length, le_of_eq}
use native.Mathlib.Decide.{dec_le}
use Rattle.term_enums.specs.declared.Variance.{Variance}
use Rattle.term_enums.specs.declared.Variance.TheVariants.{Invariant}
use Rattle.relation_terms.specs.Heads.{region_sort, type_sort, const_sort, term_of, one, VarKind, type_var, const_var, region_var, value_type, Head, Leaf, variable, bound, placeholder, atom, unknown, BoundKind, bound_sort, var_sort}
use Rattle.relation_terms.specs.Trees.{Tree, leaf, node, bind, nil, cons, Assign, assigned, apply, Leaves, Occurs, IsTerm, IsList, size}
use Rattle.relation_terms.specs.Erasure.{erase}
use Rattle.relation_semantics.specs.Relation.{Items, Interpretation, StaysWithin, sort_of}
use Rattle.relation_semantics.specs.Stores.{Store, entry_term, bound_to, bound_term, universe_of, IsMade, IsFree, IsMadeLeaf, InContext, IsInScope, IsNamable, MayStandFor, IsTermIn, IsSound, Satisfies, resolved, weight}
use Rattle.relation_semantics.specs.FirstOrder.{IsFirstOrder, IsFirstOrderStore, IsClosedLeaf, IsTypeClosed, Unifies, IsErasedSolution}
use Rattle.relation_semantics.specs.StoreLaws.{GeneralisingInstantiates}
use Rattle.relation_semantics.specs.Steps.{IsLater, AgreeOn, AgreeErased, HasExtension, HasErasedExtension, IsGeneralised, kept, replaced, in_form, in_binder, in_list, IsNamedBy, Instantiates, LacksAliases}
use Rattle.relation_semantics.specs.ErasureLaws.{IsTypeOrConst}
use Rattle.relation_semantics.specs.Measures.{Goes, grown}
use Rattle.term_enums.specs.declared.StructurallyRelateAliases.{StructurallyRelateAliases}
use Rattle.relation_semantics.specs.Generalising.{outside, any_part, variance_for, InstantiatesBy, NumbersNameNothing, IsNoObstacle}
use Rattle.relation_semantics.proofs.GeneralisingOnce.{stops_no_clear}
use Rattle.relation_semantics.proofs.Trees.{Leaves_map, Leaves_map₂, apply-apply}
use Rattle.relation_semantics.proofs.Only.{which, absent as absent_stays}
use Rattle.relation_semantics.proofs.Values.{in_context}
use Rattle.relation_semantics.proofs.Resolved.{resolved_value, resolved_free, over_free, settled_term, cycles_do_not_unify}
use Rattle.relation_semantics.proofs.Standing.{later_term, namable_mono, scope_namable, term_in, term_within, term_context}
use Rattle.relation_semantics.proofs.Written.{made_after, others_bound, now_bound, resolved_later}
use Rattle.relation_semantics.proofs.Equating.{bound_sound, bound_later, bound_keeps, bound_goes}
use Rattle.relation_semantics.proofs.Exactness.{entry_is_exact, erased_through}
use Rattle.relation_semantics.proofs.Going.{later_through, goes_then, goes_within, le_grown}
use Rattle.relation_semantics.proofs.StoreCalls.{resolved_in, resolved_unifies}
use Rattle.relation_semantics.proofs.Instantiating.{stands_resolved, resolved_first_order}
use Rattle.relation_semantics.proofs.NewVariables.{Adds, adds, adds_goes, either_of, IsValueFor, satisfies_after, assigns_after, erased_after, erased_agrees}
use Rattle.relation_semantics.proofs.Leafwise.{IsOne, StandsIn, each_stands, one_of_all, replaced_leaves, absent_of_leaves, KeepsSort, within_back, fits_back, size_back, tamed, tamed_values, tamed_named, tamed_within, tamed_erased, erased_named}
use Rattle.relation_semantics.proofs.Generalising.{gives_sort, LeadsBack, IsBoundLeaf, IsSourceLeaf, ReplacedLeaf, Replaced, replaced_leaf, replaced_alias, Came, came_from_start}
use Rattle.relation_semantics.proofs.GeneralisedLeaves.{given_value, given_closed, tamed_stands, clear_lacking, not_itself, ObstacleLeaf, obstacle_leaf, stands_occurs, first_order_lacks}

module _ (al : StructurallyRelateAliases) (c : Items) (before after : Store) (v : Variance) (k : VarKind) (n : ℕ) (source term : Tree) (kind : IsTypeOrConst k) (f : InstantiatesBy al c before after v k n source term)
    (numbers : NumbersNameNothing before) (g : IsSound before) (is_in : IsTermIn before source) (stands : MayStandFor k source) where
  abbrev full : Tree
  full = apply (resolved before) source

  abbrev u : ℕ
  u = universe_of before k n

  abbrev middle : Store
  middle = (f.last).store

  abbrev Q : Leaf → Type 0
  Q = λ l. StandsIn l full

  full_in : IsTermIn before full
  full_in = resolved_in before g source is_in

  full_made : Leaves (IsMadeLeaf before) full
  unfolding InContext
  full_made = term_context before full full_in

  source_leaves : Leaves (IsSourceLeaf Q before) full
  source_leaves = Leaves_map₂ _ Q (IsSourceLeaf Q before) (λ l h q. record { made = h.0; free = h.1; holds = q }) full
      (Leaves_map₂ (IsMadeLeaf before) (IsFree before) (λ l. IsMadeLeaf before l × IsFree before l) (λ l m h. (m, h)) full full_made (settled_term before g source)) (each_stands full)

  here : Came Q before k n (λ j m. leaf (variable j m)) (record { store = before; met = [] }) f.last (any_part outside (variance_for k v)) full term
  here = came_from_start al c before g numbers k n f.made Q outside (variance_for k v) f.last full term f.generalised source_leaves

  abbrev back : Assign
  back = here.further

  leads : LeadsBack Q before k n back middle
  leads = (here.reached).leads

  a : Adds u before middle
  a = adds g (g.below_current k n) here.makes

  value : apply back term ≡ full
  value = (here.became).value

  scope : Leaves (IsInScope middle u) term
  scope = Leaves_map (IsBoundLeaf before k n middle) (IsInScope middle u) (λ l h. h.in_scope) term (here.became).leaves

  own : apply (resolved middle) term ≡ term
  own = over_free middle (resolved middle) (resolved_free middle) term (Leaves_map (IsBoundLeaf before k n middle) (IsFree middle) (λ l h. h.free) term (here.became).leaves)

  absent : Occurs k n (apply (resolved middle) term) → ⊥
  absent o = absent_of_leaves k n term (Leaves_map (IsBoundLeaf before k n middle) (λ l. l ≢ variable k n) (λ l h. h.other) term (here.became).leaves) (subst (Occurs k n) own o)

  in_scope : Leaves (IsInScope middle (universe_of middle k n)) (apply (resolved middle) term)
  in_scope = subst₂ (λ w t. Leaves (IsInScope middle w) t) (sym (a.universes k n f.made)) (sym own) scope

  bound_in : IsTermIn middle term
  bound_in = term_in middle term (in_context middle u term scope) (within_back back 0 term (subst (StaysWithin 0) (sym value) (term_within before full full_in)))
      (Leaves_map (IsInScope middle u) (IsNamable middle.universe) (λ l h. namable_mono u middle.universe (let low = g.below_current k n in let e = a.universe in omega (arith, low, e)) l (scope_namable middle u l h)) term scope)

  -- What a new variable took the place of is one term of its sort.
  replaced_sort : (j : VarKind) (m : ℕ) → Replaced Q before k n j (back j m) → IsOne (back j m) × (sort_of (back j m) ≡ var_sort j)
  replaced_sort j m (replaced_leaf r) = (subst IsOne (sym r.is) tt, ap sort_of r.is ∙ gives_sort r.was j r.gives)
  replaced_sort j m (replaced_alias r) = (subst IsOne (sym r.is) tt, ap sort_of r.is ∙ sym (ap var_sort r.kind))

  -- The way back keeps sorts.
  sorted : (l : Leaf) → IsInScope middle u l → KeepsSort back l
  sorted (variable j m) h = go (dec_le (suc m) (length (before.entries j)))
    where
      go : Dec (suc m ≤ length (before.entries j)) → KeepsSort back (variable j m)
      go (yes p) = (subst IsOne (sym (leads.old j m p)) tt, ap sort_of (leads.old j m p))
      go (no o) = replaced_sort j m (leads.new j m h.0 o)
  sorted (bound q d i) h = tt
  sorted (placeholder q w i) h = tt
  sorted (atom x) h = tt
  sorted unknown h = tt

  keeps_sorts : Leaves (KeepsSort back) term
  keeps_sorts = Leaves_map (IsInScope middle u) (KeepsSort back) sorted term scope

  term_stands : MayStandFor k term
  term_stands = go k kind (stands_resolved before k source g stands)
    where
      go : (j : VarKind) → IsTypeOrConst j → MayStandFor j full → MayStandFor j term
      go type_var i h = fits_back back (one (term_of type_sort)) term keeps_sorts (subst (IsTerm type_sort) (sym value) h)
      go const_var i h = fits_back back (one (term_of const_sort)) term keeps_sorts (subst (IsTerm const_sort) (sym value) h)
      go j i h = absurd i

  not_region : k ≡ region_var → ⊥
  not_region e = subst IsTypeOrConst e kind

  sound : IsSound after
  sound = bound_sound middle after k n term f.binds a.sound not_region term_stands bound_in absent in_scope

  later_still : IsLater middle after
  later_still = bound_later middle after k n term f.binds a.sound not_region term_stands bound_in absent in_scope

  -- The term is the source with places replaced.
  generalises : (t : Tree) → Leaves (IsInScope middle u) t → IsGeneralised before after (apply back t) t
  generalises (leaf (variable j m)) h = go (dec_le (suc m) (length (before.entries j)))
    where
      go : Dec (suc m ≤ length (before.entries j)) → IsGeneralised before after (back j m) (leaf (variable j m))
      go (yes p) = kept (leads.old j m p)
      go (no o) = replaced j m refl o (made_after middle after k n (bound_to term) term (f.binds).writes refl j m h.0) (replaced_sort j m (leads.new j m h.0 o)).1
  generalises (leaf (bound q d i)) h = kept refl
  generalises (leaf (placeholder q w i)) h = kept refl
  generalises (leaf (atom x)) h = kept refl
  generalises (leaf unknown) h = kept refl
  generalises (node b t) h = in_form (generalises t h)
  generalises (bind ks t) h = in_binder (generalises t h)
  generalises nil h = kept refl
  generalises (cons t x) h = in_list (generalises t h.0) (generalises x h.1)

  -- Each new variable takes the value of the leaf whose place it took.
  module _ (w : Interpretation) (s : Assign) (sat : Satisfies w before s) (e : s k n ≡ apply s source) where
    abbrev extended : Assign
    extended = λ j m. apply s (back j m)

    agrees : AgreeOn before s extended
    agrees j m p = sym (ap (apply s) (leads.old j m p))

    target_value : s k n ≡ apply s full
    target_value = e ∙ resolved_value before s sat.bindings source

    names : Leaves (λ l. Leaves (IsNamable u) (assigned s l)) full
    names = replaced_leaves (IsNamable u) (assigned s) full (subst (Leaves (IsNamable u)) target_value (sat.assigns k n f.made).3)

    -- No obstacle stands in the source: else it would have another value than the variable.
    no_obstacle : (t : Tree) → ObstacleLeaf before k n t → Leaves Q t → ⊥
    no_obstacle t z h = go z.is
      where
        there : StandsIn z.leaf_of full
        there = one_of_all Q z.leaf_of t h z.stands

        go : (z.leaf_of ≡ variable k n) ⊎ ((q : BoundKind) × (w : ℕ) × (i : ℕ) × (z.leaf_of ≡ placeholder q w i) × (bound_sort q ≢ region_sort) × (u < w)) → ⊥
        go (inl p) = cycles_do_not_unify before k n source (stands_occurs k n full (subst (λ l. StandsIn l full) p there)) (not_itself f.generalised (λ s v t x c. omega (arith, c.1))) s sat.bindings e
        go (inr (q, w, i, p, o, l)) = let d : IsNamable u (placeholder q w i) = subst (λ y. Leaves (IsNamable u) (assigned s y)) p (one_of_all (λ y. Leaves (IsNamable u) (assigned s y)) z.leaf_of full names there) in omega (arith, l, d)

    leaf_of_all : (j : VarKind) (y : Tree) → Replaced Q before k n j y → ReplacedLeaf Q k n j y
    leaf_of_all j y (replaced_leaf r) = r
    leaf_of_all j y (replaced_alias r) = absurd (no_obstacle r.parts (obstacle_leaf r.stops) r.hold)

    new_value : (j : VarKind) (m : ℕ) → IsMade middle j m → (IsMade before j m → ⊥) → IsValueFor j u (extended j m)
    new_value j m p o = let r = leaf_of_all j (back j m) (leads.new j m p o) in
        let b = given_value before s sat.assigns r.was j r.gives (one_of_all (IsMadeLeaf before) r.was full full_made r.holds) in
        subst (λ t. IsValueFor j u (apply s t)) (sym r.is) (b.0, b.1, b.2, one_of_all (λ l. Leaves (IsNamable u) (assigned s l)) r.was full names r.holds)

    bound_value : extended k n ≡ apply extended term
    bound_value = sym (agrees k n f.made) ∙ target_value ∙ ap (apply s) (sym value) ∙ apply-apply s back term

    keeps : HasExtension before s (λ s'. Satisfies w after s')
    keeps = (
      extended,
      agrees,
      bound_keeps middle after k n term f.binds a.sound not_region term_stands bound_in absent in_scope w extended
          (satisfies_after u before middle g a extended new_value w s sat agrees) bound_value,
    )

  -- Up to erasure it takes that without what the universe can't name.
  module _ (lacks : LacksAliases full) (s : Assign) (sol : IsErasedSolution before s) (e : Unifies s (leaf (variable k n)) source) where
    clear : Leaves (IsNoObstacle before k n) full
    clear = (clear_lacking f.generalised (λ a w t x d. absurd (omega (arith, d.1)))).0 lacks

    leaf_alone : (j : VarKind) (y : Tree) → Replaced Q before k n j y → ReplacedLeaf Q k n j y
    leaf_alone j y (replaced_leaf r) = r
    leaf_alone j y (replaced_alias r) = absurd (stops_no_clear r.stops (Leaves_map Q (IsNoObstacle before k n) (λ l h. one_of_all (IsNoObstacle before k n) l full clear h) r.parts r.hold))

    reduced : Assign
    reduced j m = either_of {A = IsMade before j m} (dec_le (suc m) (length (before.entries j))) (s j m) (tamed u (apply s (back j m)))

    reduced_old : (j : VarKind) (m : ℕ) → IsMade before j m → reduced j m ≡ s j m
    unfolding reduced either_of
    reduced_old j m p = go (dec_le (suc m) (length (before.entries j)))
      where
        go : (d : Dec (suc m ≤ length (before.entries j))) → either_of {A = IsMade before j m} d (s j m) (tamed u (apply s (back j m))) ≡ s j m
        go (yes h) = refl
        go (no o) = absurd (o p)

    reduced_new : (j : VarKind) (m : ℕ) → (IsMade before j m → ⊥) → reduced j m ≡ tamed u (apply s (back j m))
    unfolding reduced either_of
    reduced_new j m o = go (dec_le (suc m) (length (before.entries j)))
      where
        go : (d : Dec (suc m ≤ length (before.entries j))) → either_of {A = IsMade before j m} d (s j m) (tamed u (apply s (back j m))) ≡ tamed u (apply s (back j m))
        go (yes h) = absurd (o h)
        go (no p) = refl

    still : AgreeOn before s reduced
    still j m p = sym (reduced_old j m p)

    still_erased : AgreeErased before s reduced
    still_erased j m p = ap erase (still j m p)

    new_reduced : (j : VarKind) (m : ℕ) → IsMade middle j m → (IsMade before j m → ⊥) → IsValueFor j u (reduced j m)
    new_reduced j m p o = let r = leaf_alone j (back j m) (leads.new j m p o) in
        let b = given_value before s sol.0 r.was j r.gives (one_of_all (IsMadeLeaf before) r.was full full_made r.holds) in
        subst (IsValueFor j u) (sym (reduced_new j m o ∙ ap (λ t. tamed u (apply s t)) r.is))
        (tamed_stands u r.was j (assigned s r.was) r.gives b.0, tamed_values u (assigned s r.was) b.1, tamed_within u 0 (assigned s r.was) b.2, tamed_named u (assigned s r.was) b.1)

    reduced_erased : (t : Tree) → Leaves (IsInScope middle u) t → Leaves (IsNamable u) (erase (apply s (apply back t))) → erase (apply reduced t) ≡ erase (apply s (apply back t))
    reduced_erased (leaf (variable j m)) h p = go (dec_le (suc m) (length (before.entries j)))
      where
        go : Dec (suc m ≤ length (before.entries j)) → erase (reduced j m) ≡ erase (apply s (back j m))
        go (yes i) = ap erase (reduced_old j m i) ∙ sym (ap (λ t. erase (apply s t)) (leads.old j m i))
        go (no o) = ap erase (reduced_new j m o) ∙ tamed_erased u (apply s (back j m)) p
    reduced_erased (leaf (bound q d i)) h p = refl
    reduced_erased (leaf (placeholder q w i)) h p = refl
    reduced_erased (leaf (atom x)) h p = refl
    reduced_erased (leaf unknown) h p = refl
    reduced_erased (node value_type t) h p = refl
    reduced_erased (node b t) h p = ap (node b) (reduced_erased t h p)
    reduced_erased (bind ks t) h p = ap (bind []) (reduced_erased t h p)
    reduced_erased nil h p = refl
    reduced_erased (cons t x) h p = ap₂ cons (reduced_erased t h.0 p.0) (reduced_erased x h.1 p.1)

    erased_value : erase (s k n) ≡ erase (apply s (apply back term))
    erased_value = e ∙ sym (resolved_unifies before g s sol.1 source) ∙ ap (λ t. erase (apply s t)) (sym value)

    unified : Unifies reduced (leaf (variable k n)) term
    unified = sym (still_erased k n f.made) ∙ erased_value
        ∙ sym (reduced_erased term scope (subst (Leaves (IsNamable u)) erased_value (erased_named u (s k n) (sol.0 k n f.made).3)))

    solves : IsErasedSolution middle reduced
    solves = (
      assigns_after u before middle g a reduced new_reduced (λ j m p. subst (IsValueFor j (universe_of before j m)) (still j m p) (sol.0 j m p)),
      erased_after u before middle g a reduced new_reduced (erased_agrees before s reduced g still_erased sol.1),
    )

    keeps_erased : HasErasedExtension before s (IsErasedSolution after)
    keeps_erased = erased_through before middle s reduced (IsErasedSolution after) a.later still_erased
        ((entry_is_exact middle after k n (bound_to term) term (f.binds).writes refl later_still (f.binds).same_universes).keeps reduced solves unified)

  alone : v ≡ Invariant → LacksAliases full → Leaves (IsNamedBy before u) full → erase term ≡ erase full
  alone p l h = (here.became).alike (go k kind) l h
    where
      go : (j : VarKind) → IsTypeOrConst j → variance_for j v ≡ Invariant
      go type_var i = p
      go const_var i = refl
      go j i = absurd i

  pub generalised_instantiates : Instantiates before after v k n source term
  generalised_instantiates = let b = f.binds in let w = b.writes in record {
    later = later_through a.later later_still;
    made = f.made;
    was_unbound = sym (a.entries k n) ∙ w.was_unbound;
    now_bound = w.written;
    others_stand = λ j i o. others_bound middle after k n term w j i o ∙ a.entries j i;
    same_universes = λ j i m. b.same_universes j i ∙ a.universes j i m;
    same_constraints = w.same_constraints ∙ a.constraints;
    same_universe = w.same_universe ∙ a.universe;
    same_taint = w.same_taint ∙ a.tainted;
    one_spent = sym a.budget ∙ b.one_spent;
    term_in = later_term middle after (made_after middle after k n (bound_to term) term w refl) (le_of_eq (sym w.same_universe)) term bound_in;
    generalised = subst (λ t. IsGeneralised before after t term) value (generalises term scope);
    stays_sound = λ h. sound;
    keeps = keeps;
    keeps_erased = keeps_erased;
    regions_alone = λ p x y h. alone p (first_order_lacks full (resolved_first_order before g y source x)) h;
  }

  -- It costs one of the budget, and sizes are at most squared.
  no_larger : weight middle term ≤ weight before source
  unfolding weight
  no_larger = let a = ap size own in let b = size_back back term keeps_sorts in let d = ap size value in omega (arith, a, b, d)

  pub generalised_goes : Goes (weight before source) before after
  generalised_goes = let first : Goes (weight before source) before middle = goes_within (omega arith) (adds_goes a) in goes_then first
      (bound_goes middle after k n term f.binds a.sound not_region term_stands bound_in absent in_scope kind (weight before source) no_larger) (le_grown first.spent (weight before source))

  -- Where the variable does not stand in a term, nothing grows by the binding.
  weight_by_binding : (t : Tree) → (Occurs k n (apply (resolved middle) t) → ⊥) → weight after t ≡ weight middle t
  unfolding weight
  weight_by_binding t o = ap size (resolved_later middle after k n (bound_to term) term (f.binds).writes refl a.sound absent t
      ∙ absent_stays k n (apply (resolved middle) term) (apply (resolved middle) t) o)

  pub generalised_weights : (weight after term ≤ weight before source) × (weight after source ≤ grown 1 (weight before source))
  generalised_weights = (let a = weight_by_binding term absent in let b = no_larger in omega (arith, a, b), weight_one)
    where
      one_spent : (generalised_goes).spent ≡ 1
      one_spent = let g = generalised_goes in let e = g.counts in let d = sym a.budget ∙ (f.binds).one_spent in omega (arith, e, d)

      weight_one : weight after source ≤ grown 1 (weight before source)
      weight_one = subst (λ z. weight after source ≤ grown z (weight before source)) one_spent (generalised_goes.grows (weight before source) source (omega arith) (omega arith))

  -- A first-order term becomes one.
  closed_back : (t : Tree) → Leaves (IsInScope middle u) t → LacksAliases (apply back t) → Leaves IsClosedLeaf (apply back t) → Leaves IsClosedLeaf t
  closed_back (leaf (variable j m)) h z d = go (dec_le (suc m) (length (before.entries j)))
    where
      go : Dec (suc m ≤ length (before.entries j)) → IsClosedLeaf (variable j m)
      go (yes p) = subst (Leaves IsClosedLeaf) (leads.old j m p) d
      go (no o) = by (leads.new j m h.0 o)
        where
          by : Replaced Q before k n j (back j m) → IsClosedLeaf (variable j m)
          by (replaced_leaf r) = given_closed r.was j m r.gives (subst (Leaves IsClosedLeaf) r.is d)
          by (replaced_alias r) = absurd (subst LacksAliases r.is z).0
  closed_back (leaf (bound q e i)) h z d = d
  closed_back (leaf (placeholder q w i)) h z d = d
  closed_back (leaf (atom x)) h z d = d
  closed_back (leaf unknown) h z d = d
  closed_back (node b t) h z d = closed_back t h z.1 d
  closed_back (bind ks t) h z d = closed_back t h z d
  closed_back nil h z d = tt
  closed_back (cons t x) h z d = (closed_back t h.0 z.0 d.0, closed_back x h.1 z.1 d.1)

  type_closed : (b : Head) (t : Tree) → Leaves (IsInScope middle u) t → LacksAliases (apply back t) → IsTypeClosed b (apply back t) → IsTypeClosed b t
  type_closed value_type t h z d = closed_back t h z d
  type_closed b t h z d = tt

  one_no_items : (y : Tree) → IsOne y → IsList y → ⊥
  one_no_items (leaf l) o h = h
  one_no_items (node b t) o h = h
  one_no_items t o h = o

  list_back : (t : Tree) → Leaves (KeepsSort back) t → IsList (apply back t) → IsList t
  list_back (leaf (variable j m)) h d = absurd (one_no_items (back j m) h.0 d)
  list_back (leaf (bound q e i)) h d = d
  list_back (leaf (placeholder q w i)) h d = d
  list_back (leaf (atom x)) h d = d
  list_back (leaf unknown) h d = d
  list_back (node b t) h d = d
  list_back (bind ks t) h d = d
  list_back nil h d = tt
  list_back (cons t x) h d = list_back x h.1 d

  first_order_back : (t : Tree) → Leaves (IsInScope middle u) t → IsFirstOrder (apply back t) → IsFirstOrder t
  first_order_back (leaf (variable j m)) h d = tt
  first_order_back (leaf (bound q e i)) h d = d
  first_order_back (leaf (placeholder q w i)) h d = d
  first_order_back (leaf (atom x)) h d = d
  first_order_back (leaf unknown) h d = d
  first_order_back (node b t) h d = (d.0, list_back t (Leaves_map (IsInScope middle u) (KeepsSort back) sorted t h) d.1, type_closed b t h (first_order_lacks (apply back t) d.3) d.2, first_order_back t h d.3)
  first_order_back (bind ks t) h d = absurd d
  first_order_back nil h d = tt
  first_order_back (cons t x) h d = (first_order_back t h.0 d.0, first_order_back x h.1 d.1)

  pub generalised_first_order : IsFirstOrder source → IsFirstOrderStore before → IsFirstOrder term × IsFirstOrderStore after
  generalised_first_order d h = (simple, each)
    where
      simple : IsFirstOrder term
      simple = first_order_back term scope (subst IsFirstOrder (sym value) (resolved_first_order before g h source d))

      each : IsFirstOrderStore after
      each j m t e = go (which j k m n)
        where
          go : ((j ≡ k) × (m ≡ n)) ⊎ (j ≡ k → m ≡ n → ⊥) → IsFirstOrder t
          go (inl (p, q)) = let z : bound_term after j m ≡ bound_term after k n = ap₂ (bound_term after) p q in let w = now_bound middle after k n (bound_to term) term (f.binds).writes refl in let is : term ≡ t = cc (z, e, w) in subst IsFirstOrder is simple
          go (inr o) = h j m t (a.terms j m ∙ sym (ap (entry_term j) (others_bound middle after k n term (f.binds).writes j m o)) ∙ e)

pub generalising_instantiates : GeneralisingInstantiates
generalising_instantiates al c before after v k n source term kind f numbers g is_in stands = (generalised_instantiates al c before after v k n source term kind f numbers g is_in stands, generalised_goes al c before after v k n source term kind f numbers g is_in stands)
