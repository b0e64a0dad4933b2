-- Outermost forms that differ, and the errors that say so.
use Rattle.std.proofs.Common.{◌≡◌, ◌≢◌, ◌⊎◌, ℕ, zero, suc, ◌<◌, refl, sym, ap, ◌∙◌, arith, inl, inr, subst, subst₂, IsTrue, IfErr, Option, Some, List, [], ◌∷◌, Result, Ok, Err}
use Rattle.std.specs.Result.{IsErr, IsErrAnd}
use Rattle.std.proofs.lemmas.Bool.{false≢true}
use Rattle.relation_terms.specs.Heads.{Head, Sort, Part, Shape, one, row, head_parts, Admits, type_sort, const_sort, value_sort, VarKind, var_sort, type_var, int_var, float_var, const_var, region_var}
use Rattle.relation_terms.specs.Heads.{alias, array, tuple, unevaluated, expression, value, value_branch, Atom, type_param, const_param, fresh_const}
use Rattle.relation_terms.specs.Heads.{Leaf, atom, variable, bound, placeholder, unknown}
use Rattle.relation_terms.specs.Trees.{Tree, leaf, node, bind, nil, cons, Assign, apply, IsTerm, Fits, IsList, count, known}
use Rattle.relation_terms.specs.Meaning.{Meaning, kind_tree, const_tree, infer_tree}
use Rattle.relation_terms.specs.declared.terms.keys.TyKey.{TyKey}
use Rattle.relation_terms.specs.declared.terms.keys.ConstKey.{ConstKey}
use Rattle.relation_terms.specs.declared.terms.ty_kind.TyKind.{TyKind}
use Rattle.relation_terms.specs.declared.terms.ty_kind.TyKind.TheVariants.{FnPtr, UnsafeBinder, Dynamic}
use Rattle.relation_terms.specs.declared.terms.ty_kind.TyKind.TheVariants.{Slice, Array, Tuple, RawPtr, Ref, Infer}
use Rattle.relation_terms.specs.declared.terms.ty_kind.TyKind.TheVariants.{Adt, FnDef, Closure, CoroutineClosure, Coroutine, CoroutineWitness}
use Rattle.relation_terms.specs.declared.terms.ty_kind.TyKind.TheVariants.{Param as TyParam, Alias, Pat}
use Rattle.relation_terms.specs.declared.terms.ty_kind.ParamTy.{ParamTy}
use Rattle.relation_terms.specs.declared.terms.ty_kind.InferTy.TheVariants.{TyVar, IntVar, FloatVar, FreshTy, FreshIntTy, FreshFloatTy}
use Rattle.relation_terms.specs.declared.terms.ty_kind.InferTy.{InferTy}
use Rattle.relation_terms.specs.declared.terms.const_kind.ConstKind.{ConstKind}
use Rattle.relation_terms.specs.declared.terms.const_kind.InferConst.TheVariants.{Var, Fresh}
use Rattle.relation_terms.specs.declared.terms.const_kind.ParamConst.{ParamConst}
use Rattle.relation_terms.specs.declared.terms.const_kind.InferConst.{InferConst}
use Rattle.relation_terms.specs.declared.terms.placeholder.BoundConst.{BoundConst}
use Rattle.relation_terms.specs.declared.terms.placeholder.Placeholder.{Placeholder}
use Rattle.relation_terms.specs.declared.terms.numbers.DebruijnIndex.{DebruijnIndex}
use Rattle.relation_terms.specs.declared.terms.alias.ErrorGuaranteed.{ErrorGuaranteed}
use Rattle.relation_terms.specs.declared.terms.const_kind.ExprKind.{ExprKind}
use Rattle.relation_terms.specs.declared.terms.keys.ValTreeKey.{ValTreeKey}
use Rattle.relation_terms.specs.declared.terms.keys.ArgsKey.{ArgsKey}
use Rattle.relation_terms.specs.declared.terms.const_kind.ConstKind.TheVariants.{Param as ConstParam}
use Rattle.relation_terms.specs.declared.terms.const_kind.ConstKind.TheVariants.{Placeholder as ConstPlaceholder, Value, Expr}
use Rattle.relation_terms.specs.declared.terms.const_kind.ConstKind.TheVariants.{Infer as ConstInfer, Bound as ConstBound, Unevaluated, Error as ConstError}
use Rattle.relation_folds.specs.declared.error.TypeError.{TypeError}
use Rattle.relation_folds.specs.declared.error.TypeError.TheVariants.{TupleSize, Sorts, ConstMismatch}
use Rattle.relation_folds.specs.declared.error.RelateFault.{RelateFault}
use Rattle.relation_folds.specs.declared.error.RelateFault.TheVariants.{Unrelated}
use Rattle.relation_folds.specs.Faults.{KnowsError, KnowsFault}
use Rattle.relation_semantics.specs.Relation.{plain_atom, IsError, StaysWithin}
use Rattle.relation_semantics.specs.Stores.{Store}
use Rattle.relation_semantics.specs.Errors.{AreAlike, AreAlikeLeaves, AreAlikeConsts, AreOfOneValue, one_value, as_many_branches, IsVariableFor, AreBindable, HaveNoError, outer_head}
use Rattle.relation_semantics.specs.Errors.{alike_leaves, of_one_item, both_expressions, both_values, unlike_aliases}
use Rattle.relation_semantics.specs.Errors.{FormError, mutability, pointer_mutability, tuple_size, empty_tuple, as_many, alias_arguments, sorts}
use Rattle.relation_semantics.specs.Errors.{ConstFormError, const_mismatch, operations, AreOfOneConst, one_const_leaf}
use Rattle.relation_semantics.specs.Outcomes.{NoEqualTerms}
use Rattle.relation_semantics.specs.Parts.{IsRigid, IsFormedConst}
use Rattle.relation_semantics.specs.Parts.{direct_parts, const_parts_of, branches_of}
use Rattle.relation_recursion.specs.Forms.{tree_outline}
use Rattle.relation_recursion.specs.Comparing.{AreOfOneItem}
use Rattle.relation_terms.specs.declared.terms.alias.UnevaluatedConst.{UnevaluatedConst}
use Rattle.relation_recursion.specs.declared.forms.Form.TheVariants.{Leaf as LeafForm}
use Rattle.relation_semantics.proofs.OneParts.{lists_apart, count_applied}

formed_no_variable : (t u : Tree) → IsRigid t → IsVariableFor t u → ⊥
formed_no_variable (leaf (variable k n)) u h e = h
formed_no_variable (leaf (bound k d i)) u h e = e
formed_no_variable (leaf (placeholder k w n)) u h e = e
formed_no_variable (leaf (atom x)) u h e = e
formed_no_variable (leaf unknown) u h e = e
formed_no_variable (node h ts) u f e = e
formed_no_variable (bind ks t) u h e = e
formed_no_variable nil u h e = e
formed_no_variable (cons t ts) u h e = e

formed_const_no_variable : (t u : Tree) → IsFormedConst t → IsVariableFor t u → ⊥
formed_const_no_variable (leaf (variable k n)) u h e = h
formed_const_no_variable (leaf (bound k d i)) u h e = e
formed_const_no_variable (leaf (placeholder k w n)) u h e = e
formed_const_no_variable (leaf (atom x)) u h e = e
formed_const_no_variable (leaf unknown) u h e = e
formed_const_no_variable (node h ts) u f e = e
formed_const_no_variable (bind ks t) u h e = e
formed_const_no_variable nil u h e = e
formed_const_no_variable (cons t ts) u h e = e

-- Forms are no variables.
pub formed_not_bindable : (t u : Tree) → IsRigid t → IsRigid u → AreBindable t u → ⊥
formed_not_bindable t u f g (inl e) = formed_no_variable t u f e
formed_not_bindable t u f g (inr e) = formed_no_variable u t g e

pub formed_consts_not_bindable : (t u : Tree) → IsFormedConst t → IsFormedConst u → AreBindable t u → ⊥
formed_consts_not_bindable t u f g (inl e) = formed_const_no_variable t u f e
formed_consts_not_bindable t u f g (inr e) = formed_const_no_variable u t g e

-- Value trees with branches that are of one form have as many.
pub branches_counted : (v w ts us : Tree) → v ≡ node value_branch ts → w ≡ node value_branch us → AreOfOneValue v w → count ts ≡ count us
branches_counted v w ts us p q (one_value e) = (let h = sym p ∙ e ∙ q in let k : ts ≡ us = cc in ap count k)
branches_counted v w ts us p q (as_many_branches {ts = xs} {us = ys} d e n) =
    let h : ts ≡ xs = (let z = sym p ∙ d in cc) in
    let k : us ≡ ys = (let z = sym q ∙ e in cc) in
    ap count h ∙ n ∙ sym (ap count k)

-- Parts of a form are a list.
fits_list : (ps : List Part) (r : Option Part) (ts : Tree) → Fits (row ps r) ts → IsList ts
fits_list [] r nil f = tt
fits_list [] (Some p) (cons t ts) f = fits_list [] (Some p) ts f.1
fits_list (p ∷ ps) r (cons t ts) f = fits_list ps r ts f.1
fits_list ps r ts f = absurd f

abbrev IsRow : Shape → Type 0
IsRow (one p) = ⊥
IsRow (row ps r) = Unit {0}

row_list : (x : Shape) (ts : Tree) → IsRow x → Fits x ts → IsList ts
row_list (one p) ts o f = absurd o
row_list (row ps r) ts o f = fits_list ps r ts f

rows : (h : Head) → IsRow (head_parts h)
rows array = tt
rows h = tt

pub parts_list : (h : Head) (ts : Tree) → Fits (head_parts h) ts → IsList ts
parts_list h ts f = row_list (head_parts h) ts (rows h) f

pub list_of : (h : Head) (s : Sort) (ts a : Tree) → a ≡ node h ts → IsTerm s a → IsList ts
list_of h s ts a e k = parts_list h ts (let z : IsTerm s (node h ts) = subst (IsTerm s) e k in z.1)

-- The parts of a term are a list.
pub parts_of_list : (s : Sort) (t : Tree) → IsTerm s t → IsList (direct_parts t)
parts_of_list s (node h ts) k = parts_list h ts k.1
parts_of_list s t k = tt

branches_list : (v : Tree) → IsTerm value_sort v → IsList (branches_of v)
branches_list (node value_branch ts) k = parts_list value_branch ts k.1
branches_list v k = tt

-- What a value is over.
pub value_shape : (ts : Tree) → Fits (head_parts value) ts → (t : Tree) × (v : Tree) × (ts ≡ cons t (cons v nil)) × IsTerm value_sort v
value_shape (cons t (cons v nil)) f = (t, v, refl, f.1.0)
value_shape (cons t (cons v (cons u us))) f = absurd f.1.1
value_shape (cons t (cons v (leaf l))) f = absurd f.1.1
value_shape (cons t (cons v (node h us))) f = absurd f.1.1
value_shape (cons t (cons v (bind ks u))) f = absurd f.1.1
value_shape (cons t nil) f = absurd f.1
value_shape (cons t (leaf l)) f = absurd f.1
value_shape (cons t (node h us)) f = absurd f.1
value_shape (cons t (bind ks u)) f = absurd f.1
value_shape ts f = absurd f

pub const_parts_list : (t : Tree) → IsTerm const_sort t → IsList (const_parts_of t)
const_parts_list (node (unevaluated d) ts) f = parts_list (unevaluated d) ts f.1
const_parts_list (node (expression k) ts) f = parts_list (expression k) ts f.1
const_parts_list (node value ts) f = (let (t, v, e, h) = value_shape ts f.1 in subst (λ z. IsList (const_parts_of (node value z))) (sym e) (branches_list v h))
const_parts_list t f = tt

-- Value trees that an assignment makes one.
pub no_value_variable : (k : VarKind) → Admits value_sort (var_sort k) → ⊥
no_value_variable type_var h = h
no_value_variable int_var h = h
no_value_variable float_var h = h
no_value_variable const_var h = h
no_value_variable region_var h = h

leaf_stays : (s : Assign) (l : Leaf) → IsTerm value_sort (leaf l) → apply s (leaf l) ≡ leaf l
leaf_stays s (variable k n) f = absurd (no_value_variable k f)
leaf_stays s (bound k d i) f = refl
leaf_stays s (placeholder k u n) f = refl
leaf_stays s (atom x) f = refl
leaf_stays s unknown f = refl

value_applied : (s : Assign) (v w : Tree) → IsTerm value_sort v → IsTerm value_sort w → apply s v ≡ apply s w → AreOfOneValue v w
value_applied s (leaf l) (leaf k) f g e = one_value (sym (leaf_stays s l f) ∙ e ∙ leaf_stays s k g)
value_applied s (leaf l) (node h us) f g e = absurd (let z = sym (leaf_stays s l f) ∙ e in cc)
value_applied s (node h ts) (leaf l) f g e = absurd (let z = e ∙ leaf_stays s l g in cc)
value_applied s (node value_branch ts) (node value_branch us) f g e =
    let z : apply s ts ≡ apply s us = cc in
    as_many_branches refl refl (sym (count_applied s ts (parts_list value_branch ts f.1)) ∙ ap count z ∙ count_applied s us (parts_list value_branch us g.1))
value_applied s v nil f g e = absurd g
value_applied s v (cons t u) f g e = absurd g
value_applied s v (bind ks t) f g e = absurd g
value_applied s (node value_branch ts) (node h us) f g e = absurd g.0
value_applied s (node h ts) w f g e = absurd f.0
value_applied s nil w f g e = absurd f
value_applied s (cons t u) w f g e = absurd f
value_applied s (bind ks t) w f g e = absurd f

-- A form without parts that is alike to another is the other, but for parameters.
abbrev IsNoParam : Atom → Type 0
IsNoParam (type_param i n) = ⊥
IsNoParam (const_param i n) = ⊥
IsNoParam x = Unit {0}

plain_alone : (x y : Atom) → IsNoParam x → plain_atom x ≡ plain_atom y → x ≡ y
plain_alone (type_param i n) y p e = absurd p
plain_alone (const_param i n) y p e = absurd p
plain_alone x (type_param i n) p e = absurd (cc)
plain_alone x (const_param i n) p e = absurd (cc)
plain_alone x y p e = e

abbrev IsPlainLeaf : Leaf → Type 0
IsPlainLeaf (atom x) = IsNoParam x
IsPlainLeaf l = Unit {0}

leaves_alone : (x y : Leaf) → IsPlainLeaf x → AreAlikeLeaves x y → x ≡ y
leaves_alone (atom x) (atom y) p a = (let e : plain_atom x ≡ plain_atom y = cc in ap atom (plain_alone x y p e))
leaves_alone (atom x) y p a = absurd (cc)
leaves_alone x (atom y) p a = absurd (cc)
leaves_alone x y p a = a

alone : (x : Leaf) (t : Tree) → IsPlainLeaf x → AreAlike (leaf x) t → leaf x ≡ t
alone x (leaf y) p a = (let e : AreAlikeLeaves x y = cc in ap leaf (leaves_alone x y p e))
alone x t p a = absurd (cc)

-- Constants of one outermost form, by their forms.
abbrev pub ConstsAlike : Tree → Tree → Type 0
ConstsAlike (leaf x) (leaf y) = AreAlikeLeaves x y
ConstsAlike (node (unevaluated d) ts) (node (unevaluated e) us) = (d ≡ e) × (count ts ≡ count us)
ConstsAlike (node (expression k) ts) (node (expression l) us) = Unit {0}
ConstsAlike (node value (cons t (cons v nil))) (node value (cons u (cons w nil))) = AreOfOneValue v w
ConstsAlike t u = ⊥

by_forms : (t u : Tree) → AreAlikeConsts t u → ConstsAlike t u
by_forms t u (alike_leaves d e a) = subst₂ ConstsAlike (sym d) (sym e) a
by_forms t u (of_one_item d e n) = subst₂ ConstsAlike (sym d) (sym e) (refl, n)
by_forms t u (both_expressions d e) = subst₂ ConstsAlike (sym d) (sym e) tt
by_forms t u (both_values d e o) = subst₂ ConstsAlike (sym d) (sym e) o

-- A leaf that is no parameter is of one form with itself alone.
const_alone : (x : Leaf) (t : Tree) → IsPlainLeaf x → ConstsAlike (leaf x) t → leaf x ≡ t
const_alone x (leaf y) p a = ap leaf (leaves_alone x y p a)
const_alone x t p a = absurd a

pub of_forms_alike : (t u : Tree) → ConstsAlike t u → AreAlikeConsts t u
of_forms_alike (leaf x) (leaf y) a = alike_leaves refl refl a
of_forms_alike (node (unevaluated d) ts) (node (unevaluated e) us) a =
    of_one_item refl (ap (λ z. node (unevaluated z) us) (sym a.0)) a.1
of_forms_alike (node (expression k) ts) (node (expression l) us) a = both_expressions refl refl
of_forms_alike (node value (cons t (cons v nil))) (node value (cons u (cons w nil))) a = both_values refl refl a
of_forms_alike t u a = absurd a

-- Forms of one head are alike.
pub alike_heads : (h k : Head) (ts us : Tree) → h ≡ k → AreAlike (node h ts) (node k us)
alike_heads h k ts us e = ap (λ z. node (outer_head z) nil) e

module _ {Key Id Name : Type 0} (m : Meaning Key Id Name) where
  -- A variable is no parameter.
  param_infer : (i n : ℕ) (j : InferTy) → AreAlike (leaf (atom (type_param i n))) (infer_tree j) → ⊥
  param_infer i n (TyVar v) a = cc
  param_infer i n (IntVar v) a = cc
  param_infer i n (FloatVar v) a = cc
  param_infer i n (FreshTy k) a = cc
  param_infer i n (FreshIntTy k) a = cc
  param_infer i n (FreshFloatTy k) a = cc

  -- What is alike to a parameter is one of its index.
  alike_param : (i n : ℕ) (l : TyKind Key Id Name) → AreAlike (leaf (atom (type_param i n))) (kind_tree m l) → ((q : ParamTy Name) → l ≡ TyParam q → i ≡ q.index → ⊥) → ⊥
  alike_param i n (TyParam q) a o = o q refl (cc)
  alike_param i n (Infer j) a o = param_infer i n j a
  alike_param i n l a o = first_of (cc, search a)

  -- The error of two types that are of unlike forms.
  pub unlike_as : (x y : TyKey Key) (t u : Tree) (e : TypeError Key Id Name) → m.ty x ≡ t → m.ty y ≡ u → HaveNoError t u → (AreAlike t u → ⊥) → e ≡ Sorts (record { expected = x; found = y }) → FormError m x y e
  unlike_as x y t u e p q n o is = subst (FormError m x y) (sym is) (sorts (subst₂ HaveNoError (sym p) (sym q) n) (λ a. o (subst (λ z. AreAlike z u) p (subst (AreAlike (m.ty x)) q a))))

  pub unlike_param : (l : TyKind Key Id Name) (x y : TyKey Key) (e : TypeError Key Id Name) → m.ty y ≡ kind_tree m l → e ≡ Sorts (record { expected = x; found = y }) → HaveNoError (m.ty x) (m.ty y) →
      (k : ParamTy Name) → m.ty x ≡ kind_tree m (TyParam k) → ((z : ParamTy Name) → l ≡ TyParam z → k.index ≡ z.index → ⊥) → FormError m x y e
  unlike_param l x y e q is n k p o = unlike_as x y (kind_tree m (TyParam k)) (kind_tree m l) e p q (subst₂ HaveNoError p q n) (λ a. alike_param k.index (m.name k.name) l a o) is

  -- What is alike to a type without parts that is no parameter is that type.
  alone_kind : (k : TyKind Key Id Name) (t : Tree) → (tree_outline (kind_tree m k)).form ≡ LeafForm →
      ((p : ParamTy Name) → k ≡ TyParam p → ⊥) → AreAlike (kind_tree m k) t → kind_tree m k ≡ t
  alone_kind (TyParam p) t e n a = absurd (n p refl)
  alone_kind (Infer (TyVar v)) t e n a = alone _ t tt a
  alone_kind (Infer (IntVar v)) t e n a = alone _ t tt a
  alone_kind (Infer (FloatVar v)) t e n a = alone _ t tt a
  alone_kind (Infer (FreshTy i)) t e n a = alone _ t tt a
  alone_kind (Infer (FreshIntTy i)) t e n a = alone _ t tt a
  alone_kind (Infer (FreshFloatTy i)) t e n a = alone _ t tt a
  alone_kind (Slice z) t e n a = absurd (cc)
  alone_kind (Array z w) t e n a = absurd (cc)
  alone_kind (Tuple z) t e n a = absurd (cc)
  alone_kind (RawPtr z w) t e n a = absurd (cc)
  alone_kind (Ref z w v) t e n a = absurd (cc)
  alone_kind (Pat z w) t e n a = absurd (cc)
  alone_kind (Alias z) t e n a = absurd (cc)
  alone_kind (FnPtr z w) t e n a = absurd (cc)
  alone_kind (UnsafeBinder z) t e n a = absurd (cc)
  alone_kind (Dynamic z w) t e n a = absurd (cc)
  alone_kind (Adt z w) t e n a = absurd (cc)
  alone_kind (FnDef z w) t e n a = absurd (cc)
  alone_kind (Closure z w) t e n a = absurd (cc)
  alone_kind (CoroutineClosure z w) t e n a = absurd (cc)
  alone_kind (Coroutine z w) t e n a = absurd (cc)
  alone_kind (CoroutineWitness z w) t e n a = absurd (cc)
  alone_kind k t e n a = alone _ t tt a

  pub unlike_leaf : (k : TyKind Key Id Name) (x y : TyKey Key) (e : TypeError Key Id Name) → m.ty x ≡ kind_tree m k →
      HaveNoError (m.ty x) (m.ty y) → (tree_outline (m.ty x)).form ≡ LeafForm → m.ty x ≢ m.ty y →
      ((p : ParamTy Name) → k ≡ TyParam p → ⊥) → e ≡ Sorts (record { expected = x; found = y }) → FormError m x y e
  unlike_leaf k x y e p none f differ n is =
      unlike_as x y (m.ty x) (m.ty y) e refl refl none
      (λ a. differ (p ∙ alone_kind k (m.ty y) (ap (λ t. (tree_outline t).form) (sym p) ∙ f) n
      (subst (λ t. AreAlike t (m.ty y)) p a))) is

  pub lengths_error : (i j : ℕ) (ts us : Tree) (x y : TyKey Key) (e : TypeError Key Id Name) → m.ty x ≡ node tuple ts → m.ty y ≡ node tuple us → i ≡ count ts → j ≡ count us → i ≢ j →
      (0 < i → 0 < j → e ≡ TupleSize (record { expected = i; found = j })) → ((i ≡ 0) ⊎ (j ≡ 0) → e ≡ Sorts (record { expected = x; found = y })) → FormError m x y e
  lengths_error i j ts us x y e p q ci cj differ sizes empty = go i j refl refl
    where
      unequal : count ts ≢ count us
      unequal z = differ (ci ∙ z ∙ sym cj)

      sized : (e' : TypeError Key Id Name) → e' ≡ TupleSize (record { expected = i; found = j }) → 0 < i → 0 < j → FormError m x y e'
      sized e' is a b = subst (FormError m x y) (ap (λ z. TupleSize (record { expected = z; found = count us })) (sym ci) ∙ ap (λ z. TupleSize (record { expected = i; found = z })) (sym cj) ∙ sym is)
          (tuple_size p q (omega (arith, ci, a)) (omega (arith, cj, b)) unequal)

      go : (a b : ℕ) → i ≡ a → j ≡ b → FormError m x y e
      go zero b h k = subst (FormError m x y) (sym (empty (inl h))) (empty_tuple p q unequal (inl (sym ci ∙ h)))
      go (suc a) zero h k = subst (FormError m x y) (sym (empty (inr k))) (empty_tuple p q unequal (inr (sym cj ∙ k)))
      go (suc a) (suc b) h k = sized e (sizes (omega (arith, h)) (omega (arith, k))) (omega (arith, h)) (omega (arith, k))

  -- Where the forms differ no assignment makes the types one.
  alike_applied : (s : Assign) (a b : Tree) → IsRigid a → IsRigid b → apply s a ≡ apply s b → AreAlike a b
  alike_applied s (leaf (atom x)) (leaf (atom y)) f g e = (let z : x ≡ y = cc in ap (λ z. leaf (atom (plain_atom z))) z)
  alike_applied s (leaf (atom x)) (leaf (placeholder k u n)) f g e = absurd (cc)
  alike_applied s (leaf (atom x)) (node k us) f g e = absurd (cc)
  alike_applied s (leaf (placeholder k u n)) (leaf (atom y)) f g e = absurd (cc)
  alike_applied s (leaf (placeholder k u n)) (leaf (placeholder l v i)) f g e = cc
  alike_applied s (leaf (placeholder k u n)) (node h us) f g e = absurd (cc)
  alike_applied s (node h ts) (leaf (atom y)) f g e = absurd (cc)
  alike_applied s (node h ts) (leaf (placeholder k u n)) f g e = absurd (cc)
  alike_applied s (node h ts) (node k us) f g e = alike_heads h k ts us (cc)
  alike_applied s (leaf (variable v n)) b f g e = absurd f
  alike_applied s (leaf (bound v d i)) b f g e = absurd f
  alike_applied s (leaf unknown) b f g e = absurd f
  alike_applied s (bind ks t) b f g e = absurd f
  alike_applied s nil b f g e = absurd f
  alike_applied s (cons t u) b f g e = absurd f
  alike_applied s a (leaf (variable v n)) f g e = absurd g
  alike_applied s a (leaf (bound v d i)) f g e = absurd g
  alike_applied s a (leaf unknown) f g e = absurd g
  alike_applied s a (bind ks t) f g e = absurd g
  alike_applied s a nil f g e = absurd g
  alike_applied s a (cons t u) f g e = absurd g

  pub form_apart : (st : Store) (x y : TyKey Key) (e : TypeError Key Id Name) → IsRigid (m.ty x) → IsRigid (m.ty y) → IsTerm type_sort (m.ty x) → IsTerm type_sort (m.ty y) → FormError m x y e → NoEqualTerms st (m.ty x) (m.ty y)
  form_apart st x y e f g s t (mutability {ts} {us} p q differ) = λ w a sat z. differ (let h = sym (ap (apply a) p) ∙ z ∙ ap (apply a) q in cc)
  form_apart st x y e f g s t (pointer_mutability {ts} {us} p q differ) = λ w a sat z. differ (let h = sym (ap (apply a) p) ∙ z ∙ ap (apply a) q in cc)
  form_apart st x y e f g s t (tuple_size {ts} {us} p q i j differ) = lists_apart st tuple tuple ts us (m.ty x) (m.ty y) p q (list_of tuple type_sort ts (m.ty x) p s) (list_of tuple type_sort us (m.ty y) q t) differ
  form_apart st x y e f g s t (empty_tuple {ts} {us} p q differ o) = lists_apart st tuple tuple ts us (m.ty x) (m.ty y) p q (list_of tuple type_sort ts (m.ty x) p s) (list_of tuple type_sort us (m.ty y) q t) differ
  form_apart st x y e f g s t (as_many {h} {ts} {us} p q o differ) = lists_apart st h h ts us (m.ty x) (m.ty y) p q (list_of h type_sort ts (m.ty x) p s) (list_of h type_sort us (m.ty y) q t) differ
  form_apart st x y e f g s t (alias_arguments {k = i} {l = j} {d} {ts} {us} p q differ) = lists_apart st (alias i d) (alias j d) ts us (m.ty x) (m.ty y) p q (list_of (alias i d) type_sort ts (m.ty x) p s) (list_of (alias j d) type_sort us (m.ty y) q t) differ
  form_apart st x y e f g s t (unlike_aliases {ts} {us} i j p q differ) = λ w a sat z. differ (let h = sym (ap (apply a) p) ∙ z ∙ ap (apply a) q in cc)
  form_apart st x y e f g s t (sorts n o) = λ w a sat z. o (alike_applied a (m.ty x) (m.ty y) f g z)

  pub known_error : (x y : TyKey Key) (e : TypeError Key Id Name) → IsTrue (known (m.ty x)) → IsTrue (known (m.ty y)) → FormError m x y e → KnowsError m e
  known_error x y e a b (mutability p q o) = tt
  known_error x y e a b (pointer_mutability p q o) = tt
  known_error x y e a b (tuple_size p q i j o) = tt
  known_error x y e a b (empty_tuple p q o i) = (a, b)
  known_error x y e a b (as_many p q o i) = (a, b)
  known_error x y e a b (alias_arguments p q o) = (a, b)
  known_error x y e a b (unlike_aliases c d p q o) = tt
  known_error x y e a b (sorts n o) = (a, b)

  pub form_known : {X : Type 0} (x y : TyKey Key) (e : TypeError Key Id Name) → IsTrue (known (m.ty x)) → IsTrue (known (m.ty y)) → FormError m x y e
      → (r : Result X (RelateFault Key Id Name)) → IsErr r × IsErrAnd r (λ f. f ≡ Unrelated e) → IfErr r (KnowsFault m)
  form_known x y e a b h (Ok v) q = absurd (false≢true q.0)
  form_known x y e a b h (Err z) q = subst (KnowsFault m) (sym q.1) (known_error x y e a b h)

  -- Constants.
  pub formed_const : (k : ConstKind Key Id Name) (x : ConstKey Key) → m.const_ x ≡ const_tree m k →
      StaysWithin 0 (m.const_ x) → ((n : ℕ) → m.const_ x ≡ leaf (variable const_var n) → ⊥) → IsFormedConst (m.const_ x)
  formed_const k x e w o = subst IsFormedConst (sym e) (go k (subst (StaysWithin 0) e w) (λ n q. o n (e ∙ q)))
    where
      go : (k : ConstKind Key Id Name) → StaysWithin 0 (const_tree m k) →
          ((n : ℕ) → const_tree m k ≡ leaf (variable const_var n) → ⊥) → IsFormedConst (const_tree m k)
      go (ConstParam p) w o = refl
      go (ConstInfer (Var v)) w o = absurd (o v.0 refl)
      go (ConstInfer (Fresh n)) w o = refl
      go (ConstBound d b) w o = absurd (omega (arith, w))
      go (ConstPlaceholder p) w o = refl
      go (Unevaluated u) w o = tt
      go (Value t v) w o = tt
      go (ConstError z) w o = refl
      go (Expr x a) w o = tt

  -- The error of two constants that are of unlike forms.
  unlike_consts_as : (x y : ConstKey Key) (t u : Tree) (e : TypeError Key Id Name) → m.const_ x ≡ t → m.const_ y ≡ u → HaveNoError t u → (ConstsAlike t u → ⊥) → e ≡ ConstMismatch (record { expected = x; found = y }) → ConstFormError m x y e
  unlike_consts_as x y t u e p q n o is = subst (ConstFormError m x y) (sym is) (const_mismatch (subst₂ HaveNoError (sym p) (sym q) n) (λ a. o (by_forms t u (subst (λ z. AreAlikeConsts z u) p (subst (AreAlikeConsts (m.const_ x)) q a)))))

  abbrev pub IsUnlikeConst : ConstKind Key Id Name → ConstKind Key Id Name → Type 0
  IsUnlikeConst (ConstParam p) (ConstParam q) = p.index ≢ q.index
  IsUnlikeConst (ConstParam p) l = Unit {0}
  IsUnlikeConst (ConstPlaceholder p) l = const_tree m (ConstPlaceholder p) ≢ const_tree m l
  IsUnlikeConst (ConstInfer i) l = const_tree m (ConstInfer i) ≢ const_tree m l
  IsUnlikeConst (Value t v) (Value u w) = AreOfOneValue (m.valtree v) (m.valtree w) → ⊥
  IsUnlikeConst (Value t v) l = Unit {0}
  IsUnlikeConst (Expr x a) (Expr y b) = ⊥
  IsUnlikeConst (Expr x a) l = Unit {0}
  IsUnlikeConst (Unevaluated a) (Unevaluated b) = AreOfOneItem m a b → ⊥
  IsUnlikeConst (Unevaluated a) l = Unit {0}
  IsUnlikeConst k l = ⊥

  unlike_const_trees : (k l : ConstKind Key Id Name) → IsUnlikeConst k l → ConstsAlike (const_tree m k) (const_tree m l) → ⊥
  unlike_const_trees (ConstParam p) (ConstParam q) o a = o (cc)
  unlike_const_trees (ConstParam p) (ConstInfer (Var v)) o a = cc
  unlike_const_trees (ConstParam p) (ConstInfer (Fresh n)) o a = cc
  unlike_const_trees (ConstParam p) l o a = first_of (cc, search a)
  unlike_const_trees (ConstPlaceholder p) (ConstPlaceholder q) o a = o (ap leaf a)
  unlike_const_trees (ConstPlaceholder p) (ConstInfer (Var v)) o a = cc
  unlike_const_trees (ConstPlaceholder p) (ConstInfer (Fresh n)) o a = cc
  unlike_const_trees (ConstPlaceholder p) l o a = first_of (cc, search a)
  unlike_const_trees (ConstInfer (Var v)) l o a = o (const_alone (variable const_var v.0) (const_tree m l) tt a)
  unlike_const_trees (ConstInfer (Fresh n)) l o a = o (const_alone (atom (fresh_const n)) (const_tree m l) tt a)
  unlike_const_trees (Value t v) (Value u w) o a = o a
  unlike_const_trees (Value t v) (ConstInfer (Var n)) o a = absurd a
  unlike_const_trees (Value t v) (ConstInfer (Fresh n)) o a = absurd a
  unlike_const_trees (Value t v) l o a = first_of (cc, search a)
  unlike_const_trees (Expr x b) (Expr y d) o a = o
  unlike_const_trees (Expr x b) (ConstInfer (Var n)) o a = absurd a
  unlike_const_trees (Expr x b) (ConstInfer (Fresh n)) o a = absurd a
  unlike_const_trees (Expr x b) l o a = first_of (cc, search a)
  unlike_const_trees (Unevaluated b) (Unevaluated d) o a = o a
  unlike_const_trees (Unevaluated b) (ConstInfer (Var n)) o a = absurd a
  unlike_const_trees (Unevaluated b) (ConstInfer (Fresh n)) o a = absurd a
  unlike_const_trees (Unevaluated b) l o a = first_of (cc, search a)
  unlike_const_trees k l o a = absurd o

  pub unlike_const : (k l : ConstKind Key Id Name) (x y : ConstKey Key) (e : TypeError Key Id Name) → m.const_ x ≡ const_tree m k → m.const_ y ≡ const_tree m l → HaveNoError (m.const_ x) (m.const_ y) → IsUnlikeConst k l → e ≡ ConstMismatch (record { expected = x; found = y }) → ConstFormError m x y e
  unlike_const k l x y e p q none o is = unlike_consts_as x y (const_tree m k) (const_tree m l) e p q (subst₂ HaveNoError p q none) (unlike_const_trees k l o) is

  -- Placeholders, variables and what stands for one: constants that are compared as leaves.
  abbrev IsLeafConst : ConstKind Key Id Name → Type 0
  IsLeafConst k = ((p : Placeholder (BoundConst Name)) × (k ≡ ConstPlaceholder p)) ⊎ ((i : InferConst) × (k ≡ ConstInfer i))

  pub leaf_const : (k l : ConstKind Key Id Name) → IsLeafConst k → const_tree m k ≢ const_tree m l → IsUnlikeConst k l
  leaf_const (ConstPlaceholder p) l h n = n
  leaf_const (ConstInfer i) l h n = n
  leaf_const k l (inl (p, e)) n = absurd (cc)
  leaf_const k l (inr (i, e)) n = absurd (cc)

  pub one_leaf_const : (k : ConstKind Key Id Name) (a b : Tree) → IsLeafConst k → a ≡ const_tree m k → a ≡ b → AreOfOneConst a b
  one_leaf_const (ConstPlaceholder p) a b h e q = one_const_leaf e (sym q ∙ e)
  one_leaf_const (ConstInfer (Var v)) a b h e q = one_const_leaf e (sym q ∙ e)
  one_leaf_const (ConstInfer (Fresh n)) a b h e q = one_const_leaf e (sym q ∙ e)
  one_leaf_const k a b (inl (p, e)) d q = absurd (cc)
  one_leaf_const k a b (inr (i, e)) d q = absurd (cc)

  -- What a binder binds, and errors.
  abbrev IsUnruled : ConstKind Key Id Name → Type 0
  IsUnruled k = ((d : DebruijnIndex) × (b : BoundConst Name) × (k ≡ ConstBound d b)) ⊎
      ((z : ErrorGuaranteed) × (k ≡ ConstError z))

  -- No constant that is compared is of these.
  pub ruled_const : (k : ConstKind Key Id Name) (t : Tree) → t ≡ const_tree m k → IsFormedConst t → (IsError t → ⊥) →
      IsUnruled k → ⊥
  ruled_const k t is f n u = go k (subst IsFormedConst is f) (λ e. n (subst IsError (sym is) e)) u
    where
      go : (k : ConstKind Key Id Name) → IsFormedConst (const_tree m k) → (IsError (const_tree m k) → ⊥) → IsUnruled k → ⊥
      go (ConstBound d b) f n u = absurd f
      go (ConstError z) f n u = n tt
      go k f n (inl (d, b, e)) = absurd (cc)
      go k f n (inr (z, e)) = absurd (cc)

  pub param_const : (p : ParamConst Name) (l : ConstKind Key Id Name) → ((q : ParamConst Name) → l ≡ ConstParam q → p.index ≡ q.index → ⊥) → IsUnlikeConst (ConstParam p) l
  param_const p (ConstParam q) o = o q refl
  param_const p l o = tt

  pub value_const : (t : TyKey Key) (v : ValTreeKey Key) (l : ConstKind Key Id Name) → ((u : TyKey Key) (w : ValTreeKey Key) → l ≡ Value u w → AreOfOneValue (m.valtree v) (m.valtree w) → ⊥) → IsUnlikeConst (Value t v) l
  value_const t v (Value u w) o = o u w refl
  value_const t v l o = tt

  pub expr_const : (k : ExprKind) (a : ArgsKey Key) (l : ConstKind Key Id Name) → ((j : ExprKind) (b : ArgsKey Key) → l ≡ Expr j b → ⊥) → IsUnlikeConst (Expr k a) l
  expr_const k a (Expr j b) o = o j b refl
  expr_const k a l o = tt

  pub item_const : (a : UnevaluatedConst Key Id) (l : ConstKind Key Id Name) → ((b : UnevaluatedConst Key Id) → l ≡ Unevaluated b → AreOfOneItem m a b → ⊥) → IsUnlikeConst (Unevaluated a) l
  item_const a (Unevaluated b) o = o b refl
  item_const a l o = tt

  alike_consts_applied : (s : Assign) (a b : Tree) → IsFormedConst a → IsFormedConst b → IsTerm const_sort a → IsTerm const_sort b → apply s a ≡ apply s b → ConstsAlike a b
  alike_consts_applied s (leaf (atom x)) (leaf (atom y)) f g p q e = (let z : x ≡ y = cc in ap (λ z. atom (plain_atom z)) z)
  alike_consts_applied s (leaf (placeholder k u n)) (leaf (placeholder l v i)) f g p q e = cc
  alike_consts_applied s (leaf (atom x)) (leaf (placeholder l v i)) f g p q e = absurd (cc)
  alike_consts_applied s (leaf (placeholder k u n)) (leaf (atom y)) f g p q e = absurd (cc)
  alike_consts_applied s (leaf (atom x)) (node h us) f g p q e = absurd (cc)
  alike_consts_applied s (leaf (placeholder k u n)) (node h us) f g p q e = absurd (cc)
  alike_consts_applied s (node h ts) (leaf (atom y)) f g p q e = absurd (cc)
  alike_consts_applied s (node h ts) (leaf (placeholder l v i)) f g p q e = absurd (cc)
  alike_consts_applied s (node (expression k) ts) (node (expression l) us) f g p q e = tt
  alike_consts_applied s (node (unevaluated d) ts) (node (unevaluated i) us) f g p q e =
      let z : apply s ts ≡ apply s us = cc in (
        (cc),
        sym (count_applied s ts (parts_list (unevaluated d) ts p.1)) ∙ ap count z ∙ count_applied s us (parts_list (unevaluated i) us q.1),
      )
  alike_consts_applied s (node (unevaluated d) ts) (node (expression l) us) f g p q e = absurd (cc)
  alike_consts_applied s (node (unevaluated d) ts) (node value us) f g p q e = absurd (cc)
  alike_consts_applied s (node (expression k) ts) (node (unevaluated i) us) f g p q e = absurd (cc)
  alike_consts_applied s (node value ts) (node (unevaluated i) us) f g p q e = absurd (cc)
  alike_consts_applied s (node (expression k) ts) (node value us) f g p q e = absurd (cc)
  alike_consts_applied s (node value ts) (node (expression l) us) f g p q e = absurd (cc)
  alike_consts_applied s (node value ts) (node value us) f g p q e =
      let (t, v, d, h) = value_shape ts p.1 in
      let (u, w, c, k) = value_shape us q.1 in
      let z : apply s (node value (cons t (cons v nil))) ≡ apply s (node value (cons u (cons w nil))) = ap (λ z. apply s (node value z)) (sym d) ∙ e ∙ ap (λ z. apply s (node value z)) c in
      let y : apply s v ≡ apply s w = cc in
      subst₂ (λ i j. ConstsAlike (node value i) (node value j)) (sym d) (sym c) (value_applied s v w h k y)
  alike_consts_applied s (leaf (variable v n)) b f g p q e = absurd f
  alike_consts_applied s (leaf (bound v d i)) b f g p q e = absurd f
  alike_consts_applied s (leaf unknown) b f g p q e = absurd f
  alike_consts_applied s (bind ks t) b f g p q e = absurd f
  alike_consts_applied s nil b f g p q e = absurd f
  alike_consts_applied s (cons t u) b f g p q e = absurd f
  alike_consts_applied s a (leaf (variable v n)) f g p q e = absurd g
  alike_consts_applied s a (leaf (bound v d i)) f g p q e = absurd g
  alike_consts_applied s a (leaf unknown) f g p q e = absurd g
  alike_consts_applied s a (bind ks t) f g p q e = absurd g
  alike_consts_applied s a nil f g p q e = absurd g
  alike_consts_applied s a (cons t u) f g p q e = absurd g
  alike_consts_applied s (node (unevaluated d) ts) (node h us) f g p q e = absurd g
  alike_consts_applied s (node (expression k) ts) (node h us) f g p q e = absurd g
  alike_consts_applied s (node value ts) (node h us) f g p q e = absurd g
  alike_consts_applied s (node h ts) b f g p q e = absurd f

  pub const_form_apart : (st : Store) (x y : ConstKey Key) (e : TypeError Key Id Name) → IsFormedConst (m.const_ x) → IsFormedConst (m.const_ y) → IsTerm const_sort (m.const_ x) → IsTerm const_sort (m.const_ y) → ConstFormError m x y e → NoEqualTerms st (m.const_ x) (m.const_ y)
  const_form_apart st x y e f g s t (const_mismatch n o) = λ w a sat z. o (of_forms_alike (m.const_ x) (m.const_ y) (alike_consts_applied a (m.const_ x) (m.const_ y) f g s t z))
  const_form_apart st x y e f g s t (operations {k} {l} {ts} {us} p q (inl d)) = λ w a sat z. d (let h = sym (ap (apply a) p) ∙ z ∙ ap (apply a) q in cc)
  const_form_apart st x y e f g s t (operations {k} {l} {ts} {us} p q (inr d)) = lists_apart st (expression k) (expression l) ts us (m.const_ x) (m.const_ y) p q (list_of (expression k) const_sort ts (m.const_ x) p s) (list_of (expression l) const_sort us (m.const_ y) q t) d

  pub known_const_error : (x y : ConstKey Key) (e : TypeError Key Id Name) → IsTrue (known (m.const_ x)) → IsTrue (known (m.const_ y)) → ConstFormError m x y e → KnowsError m e
  known_const_error x y e a b (const_mismatch n o) = (a, b)
  known_const_error x y e a b (operations p q o) = tt

  pub const_form_known : {X : Type 0} (x y : ConstKey Key) (e : TypeError Key Id Name) → IsTrue (known (m.const_ x)) → IsTrue (known (m.const_ y)) → ConstFormError m x y e
      → (r : Result X (RelateFault Key Id Name)) → IsErr r × IsErrAnd r (λ f. f ≡ Unrelated e) → IfErr r (KnowsFault m)
  const_form_known x y e a b h (Ok v) q = absurd (false≢true q.0)
  const_form_known x y e a b h (Err z) q = subst (KnowsFault m) (sym q.1) (known_const_error x y e a b h)
