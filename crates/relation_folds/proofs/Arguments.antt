-- Arguments by their trees: equal exactly where these are, and what a visit goes by.
use Rattle.std.proofs.Common.{◌≡◌, Bool, true, false, IsTrue, sym, ap, ◌∙◌}
use Rattle.relation_terms.specs.Heads.{Sort, type_sort, region_sort, const_sort}
use Rattle.relation_terms.specs.Trees.{Tree, known}
use Rattle.relation_terms.specs.Meaning.{Meaning, arg_tree}
use Rattle.relation_terms.specs.Parts.{tree_sort}
use Rattle.relation_terms.specs.Interning.{AreEqualAsTrees}
use Rattle.relation_terms.specs.declared.terms.generic_arg.GenericArgKind.{GenericArgKind}
use Rattle.relation_terms.specs.declared.terms.generic_arg.GenericArgKind.TheVariants.{Lifetime, Ty, Const}
use Rattle.relation_terms.specs.declared.terms.keys.RegionKey.{RegionKey}
use Rattle.relation_terms.specs.declared.terms.keys.TyKey.{TyKey}
use Rattle.relation_terms.specs.declared.terms.keys.ConstKey.{ConstKey}
use Rattle.relation_terms.proofs.Members.{region_term, type_term, const_term}
use Rattle.relation_terms.specs.Interning.{Sorted}
use Rattle.relation_folds.specs.Visits.{is_visited}
use Rattle.relation_folds.proofs.Visiting.{visited_as}

-- Terms of two sorts are told apart.
apart : (b : Bool) (s t : Sort) (x y : Tree) → b ≡ false → tree_sort x ≡ s → tree_sort y ≡ t → (s ≡ t → ⊥) →
    (IsTrue b → x ≡ y) × (x ≡ y → IsTrue b)
apart b s t x y f p q d =
    (λ i. absurd (let h : false ≡ true = sym f ∙ i in cc), λ e. absurd (d (sym p ∙ ap tree_sort e ∙ q)))

-- Of the equality of arguments this is used: what it is of each two forms.
module _ {Key Id Name : Type 0} (m : Meaning Key Id Name) (eq : Key → Key → Bool)
    (args : GenericArgKind Key → GenericArgKind Key → Bool)
    (of_regions : (a b : RegionKey Key) → args (Lifetime a) (Lifetime b) ≡ eq a.0 b.0)
    (of_tys : (a b : TyKey Key) → args (Ty a) (Ty b) ≡ eq a.0 b.0)
    (of_consts : (a b : ConstKey Key) → args (Const a) (Const b) ≡ eq a.0 b.0)
    (region_ty : (a : RegionKey Key) (b : TyKey Key) → args (Lifetime a) (Ty b) ≡ false)
    (region_const : (a : RegionKey Key) (b : ConstKey Key) → args (Lifetime a) (Const b) ≡ false)
    (ty_region : (a : TyKey Key) (b : RegionKey Key) → args (Ty a) (Lifetime b) ≡ false)
    (ty_const : (a : TyKey Key) (b : ConstKey Key) → args (Ty a) (Const b) ≡ false)
    (const_region : (a : ConstKey Key) (b : RegionKey Key) → args (Const a) (Lifetime b) ≡ false)
    (const_ty : (a : ConstKey Key) (b : TyKey Key) → args (Const a) (Ty b) ≡ false)
    (same_region : AreEqualAsTrees m.region (λ k l. eq k.0 l.0)) (same_ty : AreEqualAsTrees m.ty (λ k l. eq k.0 l.0))
    (same_const : AreEqualAsTrees m.const_ (λ k l. eq k.0 l.0)) (s : Sorted m) where
  region_is : (a : RegionKey Key) → IsTrue (known (m.region a)) → tree_sort (m.region a) ≡ region_sort
  region_is a k = region_term (m.region a) (s.region a k)

  ty_is : (a : TyKey Key) → IsTrue (known (m.ty a)) → tree_sort (m.ty a) ≡ type_sort
  ty_is a k = type_term (m.ty a) (s.ty a k)

  const_is : (a : ConstKey Key) → IsTrue (known (m.const_ a)) → tree_sort (m.const_ a) ≡ const_sort
  const_is a k = const_term (m.const_ a) (s.const_ a k)

  pub arg_same : (x y : GenericArgKind Key) → IsTrue (known (arg_tree m x)) → IsTrue (known (arg_tree m y)) →
      (IsTrue (args x y) → arg_tree m x ≡ arg_tree m y) × (arg_tree m x ≡ arg_tree m y → IsTrue (args x y))
  arg_same (Lifetime a) (Lifetime b) k l =
      (λ i. (same_region a b k l).0 (sym (of_regions a b) ∙ i), λ e. of_regions a b ∙ (same_region a b k l).1 e)
  arg_same (Ty a) (Ty b) k l = (λ i. (same_ty a b k l).0 (sym (of_tys a b) ∙ i), λ e. of_tys a b ∙ (same_ty a b k l).1 e)
  arg_same (Const a) (Const b) k l =
      (λ i. (same_const a b k l).0 (sym (of_consts a b) ∙ i), λ e. of_consts a b ∙ (same_const a b k l).1 e)
  arg_same (Lifetime a) (Ty b) k l =
      apart (args (Lifetime a) (Ty b)) region_sort type_sort (m.region a) (m.ty b) (region_ty a b) (region_is a k) (ty_is b l) (λ h. cc)
  arg_same (Lifetime a) (Const b) k l =
      apart (args (Lifetime a) (Const b)) region_sort const_sort (m.region a) (m.const_ b) (region_const a b) (region_is a k)
      (const_is b l) (λ h. cc)
  arg_same (Ty a) (Lifetime b) k l =
      apart (args (Ty a) (Lifetime b)) type_sort region_sort (m.ty a) (m.region b) (ty_region a b) (ty_is a k) (region_is b l) (λ h. cc)
  arg_same (Ty a) (Const b) k l =
      apart (args (Ty a) (Const b)) type_sort const_sort (m.ty a) (m.const_ b) (ty_const a b) (ty_is a k) (const_is b l) (λ h. cc)
  arg_same (Const a) (Lifetime b) k l =
      apart (args (Const a) (Lifetime b)) const_sort region_sort (m.const_ a) (m.region b) (const_region a b) (const_is a k)
      (region_is b l) (λ h. cc)
  arg_same (Const a) (Ty b) k l =
      apart (args (Const a) (Ty b)) const_sort type_sort (m.const_ a) (m.ty b) (const_ty a b) (const_is a k) (ty_is b l) (λ h. cc)

-- A known argument is a region, a type or a constant.
pub arg_visited : {Key Id Name : Type 0} (m : Meaning Key Id Name) → Sorted m → (x : GenericArgKind Key) →
    IsTrue (known (arg_tree m x)) → is_visited (arg_tree m x) ≡ true
arg_visited m s (Lifetime a) k = visited_as (m.region a) region_sort (region_term (m.region a) (s.region a k))
arg_visited m s (Ty a) k = visited_as (m.ty a) type_sort (type_term (m.ty a) (s.ty a k))
arg_visited m s (Const a) k = visited_as (m.const_ a) const_sort (const_term (m.const_ a) (s.const_ a k))
