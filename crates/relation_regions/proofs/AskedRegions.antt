-- The regions of what two terms ask for stand in them.
use Rattle.std.proofs.Common.{◌≡◌, refl, ap, sym, ◌∙◌, subst, inl, inr, ◌⊎◌, Some}
use Rattle.std.proofs.lemmas.Option.{same_Some}
use Rattle.term_enums.specs.declared.Variance.{Variance}
use Rattle.term_enums.specs.declared.Variance.TheVariants.{Covariant, Contravariant, Invariant, Bivariant}
use Rattle.relation_terms.specs.Heads.{region_sort, leaf_sort, Leaf}
use Rattle.relation_terms.specs.Trees.{Tree, leaf, node, bind, nil, cons, Leaves}
use Rattle.relation_semantics.specs.Relation.{Items, sort_of}
use Rattle.relation_semantics.specs.Stores.{Constraint}
use Rattle.relation_semantics.specs.Asking.{Wanted, a_constraint, a_goal, region_at, AsksFor, of_regions, of_aliases}
use Rattle.relation_semantics.specs.Asking.{of_unevaluated, of_parts}
use Rattle.relation_semantics.proofs.Related.{no_region_head}
use Rattle.relation_semantics.proofs.OneUniverse.{leaves_nth}
use Rattle.relation_regions.specs.Worlds.{IsOf}

-- A region that is a leaf with a property.
pub record IsRegionLeaf (P : Leaf → Type 0) (t : Tree) : Type 0 where
  pub kind : Leaf
  pub is : t ≡ leaf kind
  pub sort : leaf_sort kind ≡ region_sort
  pub holds : P kind

region_leaf : (P : Leaf → Type 0) (t : Tree) → sort_of t ≡ region_sort → Leaves P t → IsRegionLeaf P t
region_leaf P (leaf l) s h = record { kind = l; is = refl; sort = s; holds = h }
region_leaf P (node h ts) s p = absurd (no_region_head h s)
region_leaf P (bind ks t) s p = absurd cc
region_leaf P nil s p = absurd cc
region_leaf P (cons t ts) s p = absurd cc

one_of : (P : Leaf → Type 0) (x y t : Tree) → IsRegionLeaf P x → IsRegionLeaf P y → (t ≡ x) ⊎ (t ≡ y) →
    IsRegionLeaf P t
one_of P x y t h k (inl e) = subst (IsRegionLeaf P) (sym e) h
one_of P x y t h k (inr e) = subst (IsRegionLeaf P) (sym e) k

of_pair : (P : Leaf → Type 0) (v : Variance) (a b t : Tree) (q : Constraint) → region_at v a b ≡ Some q →
    IsRegionLeaf P a → IsRegionLeaf P b → IsOf q t → IsRegionLeaf P t
of_pair P Covariant a b t q r h k o = one_of P a b t h k (subst (λ u. IsOf u t) (sym (same_Some _ _ r)) o)
of_pair P Contravariant a b t q r h k o = one_of P b a t k h (subst (λ u. IsOf u t) (sym (same_Some _ _ r)) o)
of_pair P Invariant a b t q r h k o = one_of P a b t h k (subst (λ u. IsOf u t) (sym (same_Some _ _ r)) o)
of_pair P Bivariant a b t q r h k o = absurd cc

no_constraint : (z : Wanted) (p : Tree) (q : Constraint) → z ≡ a_goal p → z ≡ a_constraint q → ⊥
no_constraint z p q w e = let y : a_goal p ≡ a_constraint q = sym w ∙ e in cc

-- They are leaves of the two, with what all leaves have.
pub asked_regions : {c : Items} {z : Wanted} {v : Variance} {a b : Tree} (P : Leaf → Type 0) (q : Constraint)
    (t : Tree) → AsksFor c z v a b → z ≡ a_constraint q → Leaves P a → Leaves P b → IsOf q t → IsRegionLeaf P t
asked_regions {v = v} {a = a} {b = b} P q t (of_regions k w s u r) e f g o =
    let is : k ≡ q = let y : a_constraint k ≡ a_constraint q = sym w ∙ e in cc in
    of_pair P v a b t q (r ∙ ap Some is) (region_leaf P a s f) (region_leaf P b u g) o
asked_regions P q t (of_aliases p w l n s r) e f g o = absurd (no_constraint _ p q w e)
asked_regions P q t (of_unevaluated w l n s d) e f g o = absurd (no_constraint _ _ q w e)
asked_regions P q t (of_parts {ts = ts} {us = us} i d k n rh pl m l r) e f g o =
    asked_regions P q t r e (leaves_nth P ts i m (subst (Leaves P) d f)) (leaves_nth P us i l (subst (Leaves P) k g)) o
