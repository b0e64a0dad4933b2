-- The error that says why a variable can't be bound to what a term comes to.
use Rattle.std.proofs.Common.{◌≡◌, ◌≢◌, ℕ, ◌<◌, refl, sym, ap, ◌∙◌, arith, inl, inr, subst}
use Rattle.relation_terms.specs.Heads.{region_sort, BoundKind, bound_sort, VarKind, type_var, const_var, variable, placeholder}
use Rattle.relation_terms.specs.Trees.{Tree, leaf, apply}
use Rattle.relation_terms.specs.Meaning.{Meaning}
use Rattle.relation_terms.specs.declared.terms.keys.TyKey.{TyKey}
use Rattle.relation_terms.specs.declared.terms.keys.ConstKey.{ConstKey}
use Rattle.relation_folds.specs.declared.error.TypeError.TheVariants.{CyclicTy, CyclicConst, Mismatch}
use Rattle.term_enums.specs.declared.StructurallyRelateAliases.{StructurallyRelateAliases}
use Rattle.relation_semantics.specs.Stores.{Store, universe_of, IsSound, resolved}
use Rattle.relation_semantics.specs.Generalising.{Obstacle, cycle, beyond, StopsAt, at_itself, at_placeholder, in_parts, in_body, in_first, in_others, RefusesByObstacle}
use Rattle.relation_semantics.specs.Errors.{StandsSeen, IsCycle, BindingError, cyclic_ty, cyclic_const}
use Rattle.relation_semantics.specs.Errors.{beyond as beyond_universe}
use Rattle.relation_semantics.proofs.Trees.{apply_alike}
use Rattle.relation_semantics.proofs.NewVariables.{Adds, adds}

cycle_seen : {al : StructurallyRelateAliases} {st : Store} {k : VarKind} {n : ℕ} {o : Obstacle} {t : Tree} → o ≡ cycle → StopsAt al st k n o t → StandsSeen al (variable k n) t
cycle_seen e (at_itself p q) = ap leaf q
cycle_seen e (at_placeholder p q l) = absurd cc
cycle_seen e (in_parts p f) = (p, cycle_seen e f)
cycle_seen e (in_body f) = cycle_seen e f
cycle_seen e (in_first f) = inl (cycle_seen e f)
cycle_seen e (in_others l f) = inr (cycle_seen e f)

-- A placeholder that a variable can't name.
record IsBeyond (al : StructurallyRelateAliases) (st : Store) (k : VarKind) (n : ℕ) (t : Tree) : Type 0 where
  kind : BoundKind
  universe : ℕ
  number : ℕ
  stands : StandsSeen al (placeholder kind universe number) t
  no_region : bound_sort kind ≢ region_sort
  above : universe_of st k n < universe

beyond_in : {al : StructurallyRelateAliases} {st : Store} {k : VarKind} {n : ℕ} {t u : Tree} → ((l : _) → StandsSeen al l t → StandsSeen al l u) → IsBeyond al st k n t → IsBeyond al st k n u
beyond_in f b = record { kind = b.kind; universe = b.universe; number = b.number; stands = f _ b.stands; no_region = b.no_region; above = b.above }

beyond_seen : {al : StructurallyRelateAliases} {st : Store} {k : VarKind} {n : ℕ} {o : Obstacle} {t : Tree} → o ≡ beyond → StopsAt al st k n o t → IsBeyond al st k n t
beyond_seen e (at_itself p q) = absurd cc
beyond_seen e (at_placeholder {q = q} {w = w} {i = i} p o l) = record { kind = q; universe = w; number = i; stands = refl; no_region = o; above = l }
beyond_seen e (in_parts p f) = beyond_in (λ l s. (p, s)) (beyond_seen e f)
beyond_seen e (in_body f) = beyond_in (λ l s. s) (beyond_seen e f)
beyond_seen e (in_first f) = beyond_in (λ l s. inl s) (beyond_seen e f)
beyond_seen e (in_others l f) = beyond_in (λ l s. inr s) (beyond_seen e f)

module _ {Key Id Name : Type 0} (m : Meaning Key Id Name) (al : StructurallyRelateAliases) (before after : Store) (n : ℕ) (source : Tree) (g : IsSound before) where
  abbrev whole : Tree
  whole = apply (resolved before) source

  module _ (k : VarKind) (o : Obstacle) (f : RefusesByObstacle al before after k n source o) where
    same : Adds (universe_of before k n) before after
    same = adds g (g.below_current k n) f.makes

    comes_same : apply (resolved after) source ≡ whole
    comes_same = sym (apply_alike (resolved before) (resolved after) source same.resolves)

    pub beyond_error : o ≡ beyond → BindingError m al after (leaf (variable k n)) source Mismatch
    beyond_error e = let b = beyond_seen e f.stops in
        beyond_universe k n b.kind b.universe b.number refl (subst (StandsSeen al (placeholder b.kind b.universe b.number)) (sym comes_same) b.stands) b.no_region
        (let s = same.universes k n f.made in let a = b.above in omega (arith, s, a)) refl

  pub cycle_error : (o : Obstacle) → RefusesByObstacle al before after type_var n source o → o ≡ cycle → whole ≢ leaf (variable type_var n) → (x : TyKey Key) → m.ty x ≡ whole →
      BindingError m al after (leaf (variable type_var n)) source (CyclicTy x)
  cycle_error o f e d x means = cyclic_ty n x refl (means ∙ sym (comes_same type_var o f)) (subst (IsCycle al type_var n) (sym means) (cycle_seen e f.stops, d)) refl

  pub const_cycle_error : (o : Obstacle) → RefusesByObstacle al before after const_var n source o → o ≡ cycle → whole ≢ leaf (variable const_var n) → (x : ConstKey Key) → m.const_ x ≡ whole →
      BindingError m al after (leaf (variable const_var n)) source (CyclicConst x)
  const_cycle_error o f e d x means = cyclic_const n x refl (means ∙ sym (comes_same const_var o f)) (subst (IsCycle al const_var n) (sym means) (cycle_seen e f.stops, d)) refl
