-- What is put for terms, by keys and by trees.
use Rattle.std.proofs.Common.{◌≡◌, ◌++◌, Bool, true, false, IsTrue, cond, List, [], ◌∷◌, Option, Some, IfSome, refl, sym, ap₂, subst, map}
use Rattle.std.specs.List.{AllZip}
use Rattle.std.proofs.lemmas.Bool.{and_parts}
use Rattle.relation_folds.specs.declared.visit.Visit.TheVariants.{Enter, Skip, Stop}
use Rattle.relation_terms.specs.Heads.{type_sort, region_sort, const_sort}
use Rattle.relation_terms.specs.Trees.{Tree, known, list_tree, IsTerm}
use Rattle.relation_terms.specs.Meaning.{Meaning, arg_tree}
use Rattle.relation_terms.specs.Interning.{AreEqualAsTrees, IsOfSort}
use Rattle.relation_terms.specs.declared.terms.generic_arg.GenericArgKind.{GenericArgKind}
use Rattle.relation_terms.specs.declared.terms.generic_arg.GenericArgKind.TheVariants.{Lifetime, Ty, Const}
use Rattle.text_reading.specs.declared.naming.program.Put.{Put}
use Rattle.text_asking.specs.Args.{same_arg, alike}
use Rattle.relation_terms.specs.Equality.{same_tree}
use Rattle.text_asking.specs.Meets.{is_in, answer_at}
use Rattle.text_asking.specs.Puts.{first_put, ArePuts, tree_put, tree_of}
use Rattle.walk.proofs.Positioning.{bool_iff}
use Rattle.relation_terms.proofs.Equality.{same_is, is_same}
use Rattle.relation_terms.proofs.Once.{apart, region_no_type, region_no_const, type_no_const}

-- Lists that are related place by place stay so with one more of each.
pub zip_push : {A B : Type 0} (R : A → B → Type 0) (xs : List A) (ys : List B) (x : A) (y : B) → AllZip R xs ys → R x y →
    AllZip R (xs ++ x ∷ []) (ys ++ y ∷ [])
zip_push R [] [] x y h r = (r, tt)
zip_push R (u ∷ us) (v ∷ vs) x y h r = (h.0, zip_push R us vs x y h.1 r)
zip_push R [] (v ∷ vs) x y h r = absurd h
zip_push R (u ∷ us) [] x y h r = absurd h

unlike : (t u : Tree) → (t ≡ u → ⊥) → false ≡ same_tree t u
unlike t u n = bool_iff false (same_tree t u) (λ h. absurd (cc)) (λ h. absurd (n (same_is t u h)))

one_like : (x : Bool) (t u : Tree) → (IsTrue x → t ≡ u) → (t ≡ u → IsTrue x) → x ≡ same_tree t u
one_like x t u f g = bool_iff x (same_tree t u) (λ h. is_same t u (f h)) (λ h. g (same_is t u h))

-- Keys are compared as their trees are, and each means a term of its sort.
pub record Compares {Key Id Name : Type 0} (m : Meaning Key Id Name) (eq : Key → Key → Bool) : Type 0 where
  pub ty : AreEqualAsTrees m.ty (λ k l. eq k.0 l.0)
  pub region : AreEqualAsTrees m.region (λ k l. eq k.0 l.0)
  pub const_ : AreEqualAsTrees m.const_ (λ k l. eq k.0 l.0)
  pub is_ty : IsOfSort m.ty type_sort
  pub is_region : IsOfSort m.region region_sort
  pub is_const : IsOfSort m.const_ const_sort

module _ {Key Id Name : Type 0} (m : Meaning Key Id Name) (eq : Key → Key → Bool) (c : Compares m eq) where
  -- Arguments are the same where their trees are.
  pub same_as_trees : (a b : GenericArgKind Key) → IsTrue (known (arg_tree m a)) → IsTrue (known (arg_tree m b)) →
      same_arg eq a b ≡ same_tree (arg_tree m a) (arg_tree m b)
  same_as_trees (Lifetime r) (Lifetime s) h k =
      let e = c.region r s h k in one_like (eq r.0 s.0) (m.region r) (m.region s) e.0 e.1
  same_as_trees (Ty t) (Ty u) h k =
      let e = c.ty t u h k in one_like (eq t.0 u.0) (m.ty t) (m.ty u) e.0 e.1
  same_as_trees (Const x) (Const y) h k =
      let e = c.const_ x y h k in one_like (eq x.0 y.0) (m.const_ x) (m.const_ y) e.0 e.1
  same_as_trees (Lifetime r) (Ty t) h k =
      unlike (m.region r) (m.ty t) (λ e. apart region_sort type_sort region_no_type (m.region r) (c.is_region r h)
      (subst (IsTerm type_sort) (sym e) (c.is_ty t k)))
  same_as_trees (Lifetime r) (Const x) h k =
      unlike (m.region r) (m.const_ x) (λ e. apart region_sort const_sort region_no_const (m.region r) (c.is_region r h)
      (subst (IsTerm const_sort) (sym e) (c.is_const x k)))
  same_as_trees (Ty t) (Lifetime r) h k =
      unlike (m.ty t) (m.region r) (λ e. apart region_sort type_sort region_no_type (m.region r) (c.is_region r k)
      (subst (IsTerm type_sort) e (c.is_ty t h)))
  same_as_trees (Ty t) (Const x) h k =
      unlike (m.ty t) (m.const_ x) (λ e. apart type_sort const_sort type_no_const (m.ty t) (c.is_ty t h)
      (subst (IsTerm const_sort) (sym e) (c.is_const x k)))
  same_as_trees (Const x) (Lifetime r) h k =
      unlike (m.const_ x) (m.region r) (λ e. apart region_sort const_sort region_no_const (m.region r) (c.is_region r k)
      (subst (IsTerm const_sort) e (c.is_const x h)))
  same_as_trees (Const x) (Ty t) h k =
      unlike (m.const_ x) (m.ty t) (λ e. apart type_sort const_sort type_no_const (m.ty t) (c.is_ty t k)
      (subst (IsTerm const_sort) e (c.is_const x h)))

  either : (b : Bool) (a : GenericArgKind Key) (o : Option Tree) (r : Option (GenericArgKind Key)) → o ≡ tree_of m r →
      cond b (Some (arg_tree m a)) o ≡ tree_of m (cond b (Some a) r)
  either true a o r e = refl
  either false a o r e = e

  -- What is put for a key means what is put for its tree.
  pub put_means : (ps : List (Put (GenericArgKind Key))) (a : GenericArgKind Key) → ArePuts m ps →
      IsTrue (known (arg_tree m a)) → tree_put m ps (arg_tree m a) ≡ tree_of m (first_put (same_arg eq) ps a)
  put_means [] a h k = refl
  put_means (p ∷ ps) a h k =
      let rest = put_means ps a h.1 k in
      let first = same_as_trees p.from a h.0.0 k in
      subst (λ b. cond b (Some (arg_tree m p.to)) (tree_put m ps (arg_tree m a)) ≡
      tree_of m (cond (same_arg eq p.from a) (Some p.to) (first_put (same_arg eq) ps a))) first
      (either (same_arg eq p.from a) p.to (tree_put m ps (arg_tree m a)) (first_put (same_arg eq) ps a) rest)

  alike_as : (a b d : GenericArgKind Key) → IsTrue (same_arg eq a b) → IsTrue (alike a d) → IsTrue (alike b d)
  alike_as (Lifetime r) (Lifetime s) (Lifetime t) h k = refl
  alike_as (Ty r) (Ty s) (Ty t) h k = refl
  alike_as (Const r) (Const s) (Const t) h k = refl
  alike_as a b d h k = absurd (cc)

  one_of : (P : GenericArgKind Key → Type 0) (b : Bool) (a : GenericArgKind Key) (r : Option (GenericArgKind Key)) →
      (IsTrue b → P a) → IfSome r P → IfSome (cond b (Some a) r) P
  one_of P true a r f h = f refl
  one_of P false a r f h = h

  -- It is known, and of the sort of what it is put for.
  pub put_known : (ps : List (Put (GenericArgKind Key))) (a : GenericArgKind Key) → ArePuts m ps →
      IfSome (first_put (same_arg eq) ps a) (λ b. IsTrue (known (arg_tree m b)))
      × IfSome (first_put (same_arg eq) ps a) (λ b. IsTrue (alike a b))
  put_known [] a h = (tt, tt)
  put_known (p ∷ ps) a h =
      let rest = put_known ps a h.1 in
      let one = same_arg eq p.from a in
      let more = first_put (same_arg eq) ps a in (
        one_of (λ b. IsTrue (known (arg_tree m b))) one p.to more (λ e. h.0.1) rest.0,
        one_of (λ b. IsTrue (alike a b)) one p.to more (λ e. alike_as p.from a p.to e h.0.2) rest.1,
      )

-- An argument that is in one list of keys is in that of their trees.
module _ {Key Id Name : Type 0} (m : Meaning Key Id Name) (eq : Key → Key → Bool) (c : Compares m eq)
    (a : GenericArgKind Key) (known_a : IsTrue (known (arg_tree m a))) where
  pub is_in_trees : (xs : List (GenericArgKind Key)) → IsTrue (known (list_tree (arg_tree m) xs)) →
      is_in (same_arg eq) xs a ≡ is_in same_tree (map (arg_tree m) xs) (arg_tree m a)
  is_in_trees [] h = refl
  is_in_trees (b ∷ bs) h =
      let k = and_parts (known (arg_tree m b)) (known (list_tree (arg_tree m) bs)) h in
      ap₂ (λ x y. cond x true y) (same_as_trees m eq c b a k.0 known_a) (is_in_trees bs k.1)

  pub answer_means : (skip stop : List (GenericArgKind Key)) → IsTrue (known (list_tree (arg_tree m) skip)) →
      IsTrue (known (list_tree (arg_tree m) stop)) → answer_at (same_arg eq) skip stop a ≡
      answer_at same_tree (map (arg_tree m) skip) (map (arg_tree m) stop) (arg_tree m a)
  answer_means skip stop h k =
      ap₂ (λ x y. cond x Skip (cond y Stop Enter)) (is_in_trees skip h) (is_in_trees stop k)
