-- Constants, value trees and patterns, at one variance and at another.
use Rattle.std.proofs.Common.{◌≡◌, ◌≢◌, ◌⊎◌, ◌<◌, ℕ, zero, suc, refl, sym, ◌∙◌, inl, inr, subst, arith, [], ◌∷◌, None, Some}
use Rattle.term_enums.specs.declared.Variance.{Variance}
use Rattle.term_enums.specs.declared.Variance.TheVariants.{Covariant, Contravariant, Invariant, Bivariant}
use Rattle.term_enums.specs.Variances.{xform}
use Rattle.relation_terms.specs.Heads.{Sort, region_sort, type_sort, const_sort, value_sort, value_type_sort, pattern_sort, Admits, Part, term_of, binder_of, Shape, one, row, head_parts, head_sort, leaf_sort, Head, unevaluated, expression, value, value_type, value_branch, range_pattern, or_pattern}
use Rattle.relation_terms.specs.Trees.{Tree, leaf, node, bind, nil, cons, Fits, IsTerm, count, nth}
use Rattle.relation_semantics.specs.Relation.{Items, Interpretation, plain, IsRelatedHead, parts, Rel, at, same, anything, error_left, error_right, regions, alias_types, equal_consts, atoms, forms, no_parts, next_part, covariant_binders, contravariant_binders, invariant_binders, part_at, sort_of}
use Rattle.term_enums.specs.declared.AliasRelationDirection.TheVariants.{Equate}
use Rattle.relation_semantics.specs.Stores.{Constraint}
use Rattle.relation_semantics.specs.Goals.{alias_relate_predicate}
use Rattle.relation_semantics.specs.Asking.{Wanted, a_constraint, a_goal, HaveAlias, AsksFor, of_regions, of_aliases}
use Rattle.relation_semantics.specs.Asking.{of_unevaluated, of_parts}
use Rattle.relation_combining.specs.ConstantLaws.{IsConstantSort, ConstantsAtEachVariance}

-- What stands where one of these is asked for is one.
admitted : (s x : Sort) → IsConstantSort s → Admits s x → IsConstantSort x
admitted const_sort x k h = go x h
  where
    go : (x : Sort) → Admits const_sort x → IsConstantSort x
    go const_sort h = tt
    go x h = absurd h
admitted value_sort x k h = go x h
  where
    go : (x : Sort) → Admits value_sort x → IsConstantSort x
    go value_sort h = tt
    go x h = absurd h
admitted value_type_sort x k h = go x h
  where
    go : (x : Sort) → Admits value_type_sort x → IsConstantSort x
    go value_type_sort h = tt
    go x h = absurd h
admitted pattern_sort x k h = go x h
  where
    go : (x : Sort) → Admits pattern_sort x → IsConstantSort x
    go pattern_sort h = tt
    go x h = absurd h
admitted s x k h = absurd k

constant_sort : (s : Sort) (a : Tree) → IsConstantSort s → IsTerm s a → IsConstantSort (sort_of a)
constant_sort s (leaf l) k h = admitted s (leaf_sort l) k h
constant_sort s (node g ts) k h = admitted s (head_sort g) k h.0
constant_sort s (bind ks t) k h = absurd h
constant_sort s nil k h = absurd h
constant_sort s (cons t u) k h = absurd h

no_region : (s : Sort) (a : Tree) → IsConstantSort s → IsTerm s a → sort_of a ≡ region_sort → ⊥
no_region s a k h p = subst IsConstantSort p (constant_sort s a k h)

no_type : (s : Sort) (a : Tree) → IsConstantSort s → IsTerm s a → sort_of a ≡ type_sort → ⊥
no_type s a k h p = subst IsConstantSort p (constant_sort s a k h)

-- Parts that are themselves such terms.
abbrev IsConstantPart : Part → Type 0
IsConstantPart (term_of s) = IsConstantSort s
IsConstantPart (binder_of s) = ⊥

abbrev AreConstantParts : Shape → Type 0
AreConstantParts (one p) = ⊥
AreConstantParts (row [] None) = Unit {0}
AreConstantParts (row [] (Some p)) = IsConstantPart p
AreConstantParts (row (p ∷ ps) r) = IsConstantPart p × AreConstantParts (row ps r)

-- What is covariant in what is not bivariant is not, and what is invariant there is so.
pub still : (v : Variance) → v ≢ Bivariant → xform v Covariant ≢ Bivariant
still Covariant n p = cc
still Contravariant n p = cc
still Invariant n p = cc
still Bivariant n p = n p

pub fixed : (v : Variance) → v ≢ Bivariant → xform v Invariant ≡ Invariant
fixed Bivariant n = absurd (n refl)
fixed v n = refl

parts_fixed : {c : Items} {w : Interpretation} {e : Tree} {h : Head} {i : ℕ} {v v' : Variance} {xs ys : Tree} → ((i : ℕ) → part_at c h i v ≡ part_at c h i v') → Rel c w e (parts h i v) xs ys → Rel c w e (parts h i v') xs ys
parts_fixed f no_parts = no_parts
parts_fixed {c = c} {w = w} {e = e} {i = i} f (next_part {a = a} {b = b} r rs) = next_part (subst (λ z. Rel c w e (at z) a b) (f i) r) (parts_fixed f rs)

-- The parts of such a form: each at one variance whatever the form's is, or all such terms and at no bivariance.
abbrev PartsStay : Items → Head → Shape → Variance → Variance → Type 0
PartsStay c h x v v' = ((i : ℕ) → part_at c h i v ≡ part_at c h i v') ⊎ (AreConstantParts x × ((i : ℕ) → part_at c h i v ≢ Bivariant) × ((i : ℕ) → part_at c h i v' ≢ Bivariant))

parts_stay : (c : Items) (h : Head) (v v' : Variance) → IsConstantSort (head_sort h) → v ≢ Bivariant → v' ≢ Bivariant → PartsStay c h (head_parts h) v v'
parts_stay c (unevaluated d) v v' k n m = inl (λ i. fixed v n ∙ sym (fixed v' m))
parts_stay c (expression d) v v' k n m = inl (λ i. fixed v n ∙ sym (fixed v' m))
parts_stay c value_type v v' k n m = inl (λ i. refl)
parts_stay c value v v' k n m = inr ((tt, (tt, tt)), (λ i. still v n), (λ i. still v' m))
parts_stay c value_branch v v' k n m = inr (tt, (λ i. still v n), (λ i. still v' m))
parts_stay c range_pattern v v' k n m = inr ((tt, (tt, tt)), (λ i. still v n), (λ i. still v' m))
parts_stay c or_pattern v v' k n m = inr (tt, (λ i. still v n), (λ i. still v' m))
parts_stay c h v v' k n m = absurd k

mutual
  alike : {c : Items} {w : Interpretation} {e : Tree} {v v' : Variance} {a b : Tree} (s : Sort) → IsConstantSort s → IsTerm s a → v ≢ Bivariant → v' ≢ Bivariant → Rel c w e (at v) a b → Rel c w e (at v') a b
  alike s k h n m (same p) = same p
  alike s k h n m (anything p) = absurd (n p)
  alike s k h n m (error_left p q) = error_left p q
  alike s k h n m (error_right p q) = error_right p q
  alike {a = a} s k h n m (regions p _ _) = absurd (no_region s a k h p)
  alike {a = a} s k h n m (alias_types p _ _) = absurd (no_type s a k h p)
  alike s k h n m (equal_consts p q r) = equal_consts p q r
  alike s k h n m (atoms p) = atoms p
  alike {c = c} {v = v} {v' = v'} s k h n m (forms {h = g} i p r) = forms i p (parts_alike (head_parts g) (parts_stay c g v v' (admitted s (head_sort g) k h.0) n m) h.1 r)
  alike s k h n m (covariant_binders _ _) = absurd h
  alike s k h n m (contravariant_binders _ _) = absurd h
  alike s k h n m (invariant_binders _ _ _) = absurd h

  parts_alike : {c : Items} {w : Interpretation} {e : Tree} {h : Head} {i : ℕ} {v v' : Variance} {xs ys : Tree} (x : Shape) → PartsStay c h x v v' → Fits x xs → Rel c w e (parts h i v) xs ys → Rel c w e (parts h i v') xs ys
  parts_alike x (inl q) f r = parts_fixed q r
  parts_alike x (inr o) f no_parts = no_parts
  parts_alike {i = i} (row [] (Some (term_of s))) (inr o) f (next_part r rs) = next_part (alike s o.0 f.0 (o.1 i) (o.2 i) r) (parts_alike (row [] (Some (term_of s))) (inr o) f.1 rs)
  parts_alike {i = i} (row (term_of s ∷ ps) p) (inr o) f (next_part r rs) = next_part (alike s o.0.0 f.0 (o.1 i) (o.2 i) r) (parts_alike (row ps p) (inr (o.0.1, o.1, o.2)) f.1 rs)
  parts_alike (row [] (Some (binder_of s))) (inr o) f (next_part r rs) = absurd o.0
  parts_alike (row (binder_of s ∷ ps) p) (inr o) f (next_part r rs) = absurd o.0.0
  parts_alike (row [] None) (inr o) f (next_part r rs) = absurd f
  parts_alike (one p) (inr o) f (next_part r rs) = absurd o.0

pub constants_at_each_variance : ConstantsAtEachVariance
constants_at_each_variance c w e v v' s a b k h n m r = alike s k h n m r

-- A part of such a form is such a term.
pub record IsConstantTerm (t : Tree) : Type 0 where
  pub sort : Sort
  pub constant : IsConstantSort sort
  pub fits : IsTerm sort t

constant_nth : (x : Shape) → AreConstantParts x → (ts : Tree) → Fits x ts → (i : ℕ) → i < count ts →
    IsConstantTerm (nth i ts)
constant_nth (row [] (Some (term_of s))) o (cons t ts) f zero l = record { sort = s; constant = o; fits = f.0 }
constant_nth (row [] (Some (term_of s))) o (cons t ts) f (suc i) l =
    constant_nth (row [] (Some (term_of s))) o ts f.1 i (omega (arith, l))
constant_nth (row (term_of s ∷ ps) p) o (cons t ts) f zero l = record { sort = s; constant = o.0; fits = f.0 }
constant_nth (row (term_of s ∷ ps) p) o (cons t ts) f (suc i) l =
    constant_nth (row ps p) o.1 ts f.1 i (omega (arith, l))
constant_nth (row [] (Some (binder_of s))) o (cons t ts) f i l = absurd o
constant_nth (row (binder_of s ∷ ps) p) o (cons t ts) f i l = absurd o.0
constant_nth (row [] None) o (cons t ts) f i l = absurd f
constant_nth (one p) o (cons t ts) f i l = absurd o
constant_nth x o (leaf z) f i l = absurd (omega (arith, l))
constant_nth x o (node h ts) f i l = absurd (omega (arith, l))
constant_nth x o (bind ks t) f i l = absurd (omega (arith, l))
constant_nth x o nil f i l = absurd (omega (arith, l))

-- They ask for the same constraints at each variance too: so where the parts of two do, the two do.
part_asked : {c : Items} {z : Wanted} {h k : Head} {a b ts us : Tree} (v v' : Variance) (i : ℕ) → a ≡ node h ts →
    b ≡ node k us → (HaveAlias a b → ⊥) → IsRelatedHead h → plain h ≡ plain k → i < count ts → i < count us →
    Fits (head_parts h) ts → AsksFor c z (part_at c h i v) (nth i ts) (nth i us) → ((w : Variance) (s : Sort) →
    IsConstantSort s → IsTerm s (nth i ts) → part_at c h i v ≢ Bivariant → w ≢ Bivariant →
    AsksFor c z w (nth i ts) (nth i us)) → PartsStay c h (head_parts h) v v' → AsksFor c z v' a b
part_asked {c = c} {z = z} {ts = ts} {us = us} v v' i d g o rh pl l j f r again (inl x) =
    of_parts i d g o rh pl l j (subst (λ w. AsksFor c z w (nth i ts) (nth i us)) (x i) r)
part_asked {c = c} {h = h} {ts = ts} v v' i d g o rh pl l j f r again (inr p) =
    let t = constant_nth (head_parts h) p.0 ts f i l in
    of_parts i d g o rh pl l j (again (part_at c h i v') t.sort t.constant t.fits (p.1 i) (p.2 i))

pub constants_ask : {c : Items} {z : Wanted} {v : Variance} {a b : Tree} (v' : Variance) (s : Sort) (q : Constraint) →
    IsConstantSort s → IsTerm s a → v ≢ Bivariant → v' ≢ Bivariant → z ≡ a_constraint q → AsksFor c z v a b →
    AsksFor c z v' a b
constants_ask {a = a} v' s q k f n m e (of_regions p w x y r) = absurd (no_region s a k f x)
constants_ask v' s q k f n m e (of_aliases p w l d x r) = absurd (let u : a_goal p ≡ a_constraint q = sym w ∙ e in cc)
constants_ask {a = a} {b = b} v' s q k f n m e (of_unevaluated w l d x y) =
    absurd (let u : a_goal (alias_relate_predicate Equate a b) ≡ a_constraint q = sym w ∙ e in cc)
constants_ask {c = c} {v = v} v' s q k f n m e (of_parts {h = h} {ts = ts} i d g o rh pl l j r) =
    let fits : IsTerm s (node h ts) = subst (IsTerm s) d f in
    part_asked v v' i d g o rh pl l j fits.1 r (λ w x o' p' n' m'. constants_ask w x q o' p' n' m' e r)
    (parts_stay c h v v' (admitted s (head_sort h) k fits.0) n m)
