-- How many variables of types and constants are unresolved where two headers were opened, and in which universe.
use Rattle.std.proofs.Common.{◌≡◌, ◌⊎◌, ℕ, ◌+◌, ◌≤◌, ap, ap₂, ◌∙◌, List, [], ◌∷◌, ◌++◌, inl, inr, arith}
use Rattle.relation_terms.specs.Heads.{BoundKind, bound_kind, type_kind, const_kind, region_kind, VarKind, type_var, const_var}
use Rattle.relation_terms.specs.Heads.{Leaf, variable, bound, placeholder, atom, unknown}
use Rattle.relation_terms.specs.Trees.{Tree, Leaves}
use Rattle.relation_semantics.specs.Binders.{variable_kind, MakesEach, makes_none, makes_next}
use Rattle.relation_semantics.specs.OneUniverse.{NamesTypesTo, HasOneUniverse, counts_unbound, all_unbound}
use Rattle.relation_semantics.specs.Steps.{MakesVariable}
use Rattle.relation_semantics.specs.Stores.{Store, unbound, sum_over, universe_of, IsMade, IsSound, IsNamable, IsTermIn}
use Rattle.relation_semantics.proofs.Growing.{old_or_new, universes_stand}
use Rattle.relation_semantics.proofs.MakingEach.{each_unbound}
use Rattle.relation_semantics.proofs.NewVariables.{adds, new_universe}
use Rattle.relation_semantics.proofs.Trees.{Leaves_map}
use Rattle.relation_semantics.proofs.Tallies.{sum_over_append}
use Rattle.relation_coherence.specs.Bounds.{counts_kind, types_bound}

bound_one_more : (ks : List BoundKind) (k : BoundKind) → types_bound (ks ++ k ∷ []) ≡ types_bound ks + counts_kind k
bound_one_more [] k = omega arith
bound_one_more (j ∷ ks) k = let ih = bound_one_more ks k in omega (arith, ih)

-- A new variable is one more that is unresolved, unless it is of a region.
made_unbound : (before after : Store) (k : BoundKind) (n u : ℕ) → MakesVariable before after (variable_kind k) n u →
    all_unbound after ≡ all_unbound before + counts_kind k
made_unbound before after (bound_kind type_kind m) n u q =
    let t : sum_over counts_unbound (after.entries type_var) ≡ sum_over counts_unbound (before.entries type_var) + 1 =
    ap (sum_over counts_unbound) q.entries_grow ∙ sum_over_append counts_unbound (before.entries type_var) unbound in
    let c : sum_over counts_unbound (after.entries const_var) ≡ sum_over counts_unbound (before.entries const_var) =
    ap (sum_over counts_unbound) (q.other_entries const_var (λ e. absurd cc)) in
    omega (arith, t, c)
made_unbound before after (bound_kind const_kind m) n u q =
    let c : sum_over counts_unbound (after.entries const_var) ≡ sum_over counts_unbound (before.entries const_var) + 1 =
    ap (sum_over counts_unbound) q.entries_grow ∙ sum_over_append counts_unbound (before.entries const_var) unbound in
    let t : sum_over counts_unbound (after.entries type_var) ≡ sum_over counts_unbound (before.entries type_var) =
    ap (sum_over counts_unbound) (q.other_entries type_var (λ e. absurd cc)) in
    omega (arith, t, c)
made_unbound before after (bound_kind region_kind m) n u q =
    let t : sum_over counts_unbound (after.entries type_var) ≡ sum_over counts_unbound (before.entries type_var) =
    ap (sum_over counts_unbound) (q.other_entries type_var (λ e. absurd cc)) in
    let c : sum_over counts_unbound (after.entries const_var) ≡ sum_over counts_unbound (before.entries const_var) =
    ap (sum_over counts_unbound) (q.other_entries const_var (λ e. absurd cc)) in
    omega (arith, t, c)

pub each_unresolved : {u : ℕ} {before after : Store} {ks : List BoundKind} {xs : List Tree} →
    MakesEach u before ks xs after → all_unbound after ≡ all_unbound before + types_bound ks
each_unresolved {u} {before} (makes_none p q) = let e = ap types_bound p in omega (arith, e)
each_unresolved {u} {before} {after} (makes_next {middle = middle} {ks = ks} {xs = xs} {n = n} k f q p e) =
    let ih = each_unresolved f in
    let one = made_unbound middle after k n u q in
    let more = ap types_bound p ∙ bound_one_more ks k in
    omega (arith, ih, one, more)

-- They are of the universe that they were made in.
universe_more : (u : ℕ) (middle after : Store) (k : VarKind) (n : ℕ) → MakesVariable middle after k n u →
    IsSound middle → HasOneUniverse u middle → HasOneUniverse u after
universe_more u middle after k n q sound h j m t made = go (old_or_new middle after k n u q j m made)
  where
    go : IsMade middle j m ⊎ ((j ≡ k) × (m ≡ n)) → universe_of after j m ≡ u
    go (inl o) = universes_stand middle after k n u q sound j m o ∙ h j m t o
    go (inr o) = ap₂ (universe_of after) o.0 o.1 ∙ new_universe middle after k n u sound q

pub each_of_universe : {u : ℕ} {before after : Store} {ks : List BoundKind} {xs : List Tree} →
    MakesEach u before ks xs after → u ≤ before.universe → IsSound before → HasOneUniverse u before → HasOneUniverse u after
each_of_universe (makes_none p q) low g h = h
each_of_universe {u} {before} {after} (makes_next {middle = middle} {n = n} k f q p e) low g h =
    universe_more u middle after (variable_kind k) n q (adds g low (each_unbound f)).sound (each_of_universe f low g h)

-- A term of the context names no placeholder of a later universe.
names_leaf : (u v : ℕ) → v ≡ u → (l : Leaf) → IsNamable v l → NamesTypesTo u l
names_leaf u v e (variable k n) h = tt
names_leaf u v e (bound k d i) h = tt
names_leaf u v e (placeholder k w n) h = inr (omega (arith, e, h))
names_leaf u v e (atom x) h = tt
names_leaf u v e unknown h = absurd h

pub term_names : (st : Store) (u : ℕ) (t : Tree) → st.universe ≡ u → IsTermIn st t → Leaves (NamesTypesTo u) t
unfolding IsTermIn
term_names st u t e h = Leaves_map (IsNamable st.universe) (NamesTypesTo u) (names_leaf u st.universe e) t h.2
