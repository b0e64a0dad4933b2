-- What is put for the variables of a binder, argument by argument.
use Rattle.std.proofs.Common.{◌≡◌, IsTrue, ap, refl, ◌∙◌, sym, subst}
use Rattle.std.specs.Prelude.{ℕ, zero, suc, Bool, true, false, cond, nat_eq, List, [], ◌∷◌, map, Option, Some, None}
use Rattle.std.specs.Prelude.{option_map, IfSome, slice_get}
use Rattle.std.proofs.lemmas.Bool.{and_parts}
use Rattle.std.proofs.lemmas.Option.{slice_get-map}
use Rattle.relation_terms.specs.Heads.{type_kind, region_kind, const_kind, type_sort, region_sort, const_sort, Kind, Sort}
use Rattle.relation_terms.specs.Heads.{bound_kind, bound}
use Rattle.relation_terms.specs.Trees.{Tree, leaf, known, list_tree}
use Rattle.relation_terms.specs.Meaning.{Meaning, arg_tree}
use Rattle.relation_terms.specs.Interning.{IsOfSort}
use Rattle.relation_terms.specs.Parts.{tree_sort}
use Rattle.relation_terms.specs.declared.terms.keys.TyKey.{TyKey}
use Rattle.relation_terms.specs.declared.terms.keys.RegionKey.{RegionKey}
use Rattle.relation_terms.specs.declared.terms.keys.ConstKey.{ConstKey}
use Rattle.relation_terms.specs.declared.terms.generic_arg.GenericArgKind.{GenericArgKind}
use Rattle.relation_terms.specs.declared.terms.generic_arg.GenericArgKind.TheVariants.{Lifetime, Ty, Const}
use Rattle.relation_terms.proofs.Members.{region_term, type_term, const_term}
use Rattle.relation_folds.specs.Shifts.{standing, is_for, opens, shifted, arg_for, expect_ty, expect_region, expect_const}

-- The member at a place of a known list is known.
pub known_at : {A : Type 0} (f : A → Tree) (xs : List A) (i : ℕ) → IsTrue (known (list_tree f xs)) →
    IfSome (slice_get xs i) (λ a. IsTrue (known (f a)))
known_at f [] i k = tt
known_at f (x ∷ xs) zero k = (and_parts (known (f x)) (known (list_tree f xs)) k).0
known_at f (x ∷ xs) (suc i) k = known_at f xs i (and_parts (known (f x)) (known (list_tree f xs)) k).1

-- What stands for a variable is of its kind, or it is nothing.
chosen : {A B : Type 0} (k : Kind) (depth : ℕ) (f : A → Tree) (g : B → Tree) (only : Option A → Option B)
    (b : Bool) (o : Option A) → only None ≡ None →
    standing k depth (option_map f o) ≡ option_map (λ x. shifted depth (g x)) (only o) →
    cond b (standing k depth (option_map f o)) None ≡ option_map (λ x. shifted depth (g x)) (only (cond b o None))
chosen k depth f g only true o n s = s
chosen k depth f g only false o n s = ap (option_map (λ x. shifted depth (g x))) (sym n)

-- What holds of what there is holds of it where it is chosen.
within : {A : Type 0} (P : A → Type 0) (b : Bool) (o : Option A) → IfSome o P → IfSome (cond b o None) P
within P true o h = h
within P false o h = tt

module _ {Key Id Name : Type 0} (m : Meaning Key Id Name) where
  -- What is taken of an argument for a kind is known, where the argument is.
  pub known_ty : (o : Option (GenericArgKind Key)) → IfSome o (λ a. IsTrue (known (arg_tree m a))) →
      IfSome (expect_ty o) (λ x. IsTrue (known (m.ty x)))
  known_ty None k = tt
  known_ty (Some (Ty t)) k = k
  known_ty (Some (Lifetime r)) k = tt
  known_ty (Some (Const c)) k = tt

  pub known_region : (o : Option (GenericArgKind Key)) → IfSome o (λ a. IsTrue (known (arg_tree m a))) →
      IfSome (expect_region o) (λ x. IsTrue (known (m.region x)))
  known_region None k = tt
  known_region (Some (Ty t)) k = tt
  known_region (Some (Lifetime r)) k = k
  known_region (Some (Const c)) k = tt

  pub known_const : (o : Option (GenericArgKind Key)) → IfSome o (λ a. IsTrue (known (arg_tree m a))) →
      IfSome (expect_const o) (λ x. IsTrue (known (m.const_ x)))
  known_const None k = tt
  known_const (Some (Ty t)) k = tt
  known_const (Some (Lifetime r)) k = tt
  known_const (Some (Const c)) k = k

module _ {Key Id Name : Type 0} (m : Meaning Key Id Name) (is_ty : IsOfSort m.ty type_sort)
    (is_region : IsOfSort m.region region_sort) (is_const : IsOfSort m.const_ const_sort) where
  -- What its sort says of a tree.
  sorted : (k : Kind) (depth : ℕ) (t : Tree) → (s : Sort) → tree_sort t ≡ s →
      standing k depth (Some t) ≡ cond (is_for k s) (Some (shifted depth t)) None
  sorted k depth t s h = ap (λ z. cond (is_for k z) (Some (shifted depth t)) None) h

  -- What stands for a variable is the argument, moved, where it is of the variable's kind.
  pub standing_ty : (depth : ℕ) (o : Option (GenericArgKind Key)) → IfSome o (λ a. IsTrue (known (arg_tree m a))) →
      standing type_kind depth (option_map (arg_tree m) o) ≡ option_map (λ x. shifted depth (m.ty x)) (expect_ty o)
  standing_ty depth None k = refl
  standing_ty depth (Some (Ty t)) k = sorted type_kind depth (m.ty t) type_sort (type_term (m.ty t) (is_ty t k))
  standing_ty depth (Some (Lifetime r)) k =
      sorted type_kind depth (m.region r) region_sort (region_term (m.region r) (is_region r k))
  standing_ty depth (Some (Const c)) k =
      sorted type_kind depth (m.const_ c) const_sort (const_term (m.const_ c) (is_const c k))

  pub standing_region : (depth : ℕ) (o : Option (GenericArgKind Key)) → IfSome o (λ a. IsTrue (known (arg_tree m a))) →
      standing region_kind depth (option_map (arg_tree m) o) ≡
      option_map (λ x. shifted depth (m.region x)) (expect_region o)
  standing_region depth None k = refl
  standing_region depth (Some (Ty t)) k = sorted region_kind depth (m.ty t) type_sort (type_term (m.ty t) (is_ty t k))
  standing_region depth (Some (Lifetime r)) k =
      sorted region_kind depth (m.region r) region_sort (region_term (m.region r) (is_region r k))
  standing_region depth (Some (Const c)) k =
      sorted region_kind depth (m.const_ c) const_sort (const_term (m.const_ c) (is_const c k))

  pub standing_const : (depth : ℕ) (o : Option (GenericArgKind Key)) → IfSome o (λ a. IsTrue (known (arg_tree m a))) →
      standing const_kind depth (option_map (arg_tree m) o) ≡
      option_map (λ x. shifted depth (m.const_ x)) (expect_const o)
  standing_const depth None k = refl
  standing_const depth (Some (Ty t)) k = sorted const_kind depth (m.ty t) type_sort (type_term (m.ty t) (is_ty t k))
  standing_const depth (Some (Lifetime r)) k =
      sorted const_kind depth (m.region r) region_sort (region_term (m.region r) (is_region r k))
  standing_const depth (Some (Const c)) k =
      sorted const_kind depth (m.const_ c) const_sort (const_term (m.const_ c) (is_const c k))

module _ {Key Id Name : Type 0} (m : Meaning Key Id Name) (is_ty : IsOfSort m.ty type_sort)
    (is_region : IsOfSort m.region region_sort) (is_const : IsOfSort m.const_ const_sort)
    (xs : List (GenericArgKind Key)) (known_xs : IsTrue (known (list_tree (arg_tree m) xs))) where
  -- What is put for a variable of each kind.
  pub opens_ty : (n d i depth : ℕ) → opens (map (arg_tree m) xs) depth (leaf (bound (bound_kind type_kind n) d i)) ≡
      option_map (λ x. shifted depth (m.ty x)) (expect_ty (arg_for xs d i depth))
  opens_ty n d i depth =
      ap (λ o. cond (nat_eq d depth) (standing type_kind depth o) None) (slice_get-map (arg_tree m) xs i)
      ∙ chosen type_kind depth (arg_tree m) m.ty expect_ty (nat_eq d depth) (slice_get xs i) refl
      (standing_ty m is_ty is_region is_const depth (slice_get xs i) (known_at (arg_tree m) xs i known_xs))

  pub opens_region : (n d i depth : ℕ) →
      opens (map (arg_tree m) xs) depth (leaf (bound (bound_kind region_kind n) d i)) ≡
      option_map (λ x. shifted depth (m.region x)) (expect_region (arg_for xs d i depth))
  opens_region n d i depth =
      ap (λ o. cond (nat_eq d depth) (standing region_kind depth o) None) (slice_get-map (arg_tree m) xs i)
      ∙ chosen region_kind depth (arg_tree m) m.region expect_region (nat_eq d depth) (slice_get xs i) refl
      (standing_region m is_ty is_region is_const depth (slice_get xs i) (known_at (arg_tree m) xs i known_xs))

  pub opens_const : (n d i depth : ℕ) →
      opens (map (arg_tree m) xs) depth (leaf (bound (bound_kind const_kind n) d i)) ≡
      option_map (λ x. shifted depth (m.const_ x)) (expect_const (arg_for xs d i depth))
  opens_const n d i depth =
      ap (λ o. cond (nat_eq d depth) (standing const_kind depth o) None) (slice_get-map (arg_tree m) xs i)
      ∙ chosen const_kind depth (arg_tree m) m.const_ expect_const (nat_eq d depth) (slice_get xs i) refl
      (standing_const m is_ty is_region is_const depth (slice_get xs i) (known_at (arg_tree m) xs i known_xs))

  -- The argument is known.
  known_for : (d i depth : ℕ) → IfSome (arg_for xs d i depth) (λ a. IsTrue (known (arg_tree m a)))
  known_for d i depth = within (λ a. IsTrue (known (arg_tree m a))) (nat_eq d depth) (slice_get xs i) (known_at (arg_tree m) xs i known_xs)

  pub ty_known : (d i depth : ℕ) (r : Option (TyKey Key)) (x : TyKey Key) → r ≡ expect_ty (arg_for xs d i depth) →
      r ≡ Some x → IsTrue (known (m.ty x))
  ty_known d i depth r x h is = subst (λ o. IfSome o (λ y. IsTrue (known (m.ty y)))) (sym h ∙ is)
      (known_ty m (arg_for xs d i depth) (known_for d i depth))

  pub region_known : (d i depth : ℕ) (r : Option (RegionKey Key)) (x : RegionKey Key) →
      r ≡ expect_region (arg_for xs d i depth) → r ≡ Some x → IsTrue (known (m.region x))
  region_known d i depth r x h is = subst (λ o. IfSome o (λ y. IsTrue (known (m.region y)))) (sym h ∙ is)
      (known_region m (arg_for xs d i depth) (known_for d i depth))

  pub const_known : (d i depth : ℕ) (r : Option (ConstKey Key)) (x : ConstKey Key) →
      r ≡ expect_const (arg_for xs d i depth) → r ≡ Some x → IsTrue (known (m.const_ x))
  const_known d i depth r x h is = subst (λ o. IfSome o (λ y. IsTrue (known (m.const_ y)))) (sym h ∙ is)
      (known_const m (arg_for xs d i depth) (known_for d i depth))
