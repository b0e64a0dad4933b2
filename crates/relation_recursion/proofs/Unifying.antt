-- What two terms have in common that are unified.
use Rattle.std.proofs.Common.{◌≡◌, ◌≢◌, ◌↔◌, ℕ, suc, refl, sym, ap, ◌∙◌, subst, subst₂, Err}
use Rattle.relation_terms.specs.Heads.{type_sort, const_sort, value_sort, head_sort, atom_sort, leaf_sort, Atom, Head, Kind}
use Rattle.relation_terms.specs.Heads.{bound_kind, region_kind, variable, bound, placeholder, atom, unknown, kind_sort}
use Rattle.relation_terms.specs.Heads.{region_sort, early_region, type_param, const_param, ref, raw_ptr}
use Rattle.relation_terms.specs.Meaning.{Meaning}
use Rattle.relation_terms.specs.declared.terms.keys.TyKey.{TyKey}
use Rattle.relation_folds.specs.declared.error.TypeError.{TypeError}
use Rattle.relation_semantics.specs.Errors.{AreAlikeLeaves, FormError, mutability, pointer_mutability, tuple_size, empty_tuple, as_many, alias_arguments, sorts}
use Rattle.relation_recursion.proofs.Compared.{list_of, parts_list, value_shape, no_value_variable, ConstsAlike, of_forms_alike, alike_heads}
use Rattle.relation_terms.specs.Meaning.{value_tree}
use Rattle.relation_semantics.specs.Errors.{ConstFormError, const_mismatch, operations}
use Rattle.relation_terms.specs.declared.terms.keys.ConstKey.{ConstKey}
use Rattle.relation_terms.specs.Heads.{Admits, region_var}
use Rattle.relation_terms.specs.Heads.{unevaluated, expression, value, value_type, value_branch, Leaf, tuple, alias}
use Rattle.relation_terms.specs.Trees.{Tree, leaf, node, bind, nil, cons, Assign, apply, count, IsList, IsTerm, Leaves}
use Rattle.relation_terms.specs.Erasure.{erase, erase_atom, erase_kinded}
use Rattle.relation_semantics.specs.Relation.{plain_atom, sort_of, IsAlias}
use Rattle.relation_semantics.specs.FirstOrder.{IsFirstOrder, IsFirstOrderStore, Unifies}
use Rattle.relation_semantics.specs.Errors.{AreAlike, unlike_aliases, AreOfOneForm, over_parts, over_aliases, one_leaf, parameters}
use Rattle.relation_semantics.specs.Errors.{AreOfOneConst, values, expressions, over_arguments, const_parameters, one_const_leaf}
use Rattle.relation_semantics.specs.Errors.{AreOfOneValue, one_value, as_many_branches}
use Rattle.relation_semantics.specs.Stores.{Store}
use Rattle.relation_semantics.specs.Outcomes.{Exact}
use Rattle.relation_semantics.specs.Parts.{IsRigid, IsFormedConst, direct_parts, const_parts_of, head_of, const_head_of, branches_of}
use Rattle.relation_semantics.proofs.Erased.{forms_unify_by_parts}
use Rattle.relation_steps.proofs.Fronts.{IsLookedAt}
use Rattle.relation_semantics.proofs.Keeping.{unified_inside}
use Rattle.relation_folds.specs.declared.error.RelateFault.{RelateFault}
use Rattle.relation_folds.specs.declared.error.RelateFault.TheVariants.{Memory, Budget, Unrelated}
use Rattle.relation_semantics.specs.Lawful.{ExactResult}
use Rattle.relation_semantics.specs.OneUniverse.{NamesTypesTo, KeepsUniverseOf}
use Rattle.relation_semantics.proofs.OneUniverse.{keeps_as, binds_as, fewer_as}
use Rattle.relation_terms.proofs.Erasing.{erased_atom}

-- The parts of first-order terms are first-order.
pub first_order_parts : (t : Tree) → IsFirstOrder t → IsFirstOrder (direct_parts t)
first_order_parts (node h ts) f = f.3
first_order_parts (leaf l) f = tt
first_order_parts (bind ks t) f = tt
first_order_parts nil f = tt
first_order_parts (cons t ts) f = tt

first_order_branches : (v : Tree) → IsFirstOrder v → IsFirstOrder (branches_of v)
first_order_branches (node value_branch ts) f = f.3
first_order_branches v f = tt

pub first_order_const_parts : (c : Tree) → IsFirstOrder c → IsFirstOrder (const_parts_of c)
first_order_const_parts (node (unevaluated d) ts) f = f.3
first_order_const_parts (node (expression k) ts) f = f.3
first_order_const_parts (node value (cons t (cons v nil))) f = first_order_branches v f.3.1.0
first_order_const_parts c f = tt

-- The forms that are related by their parts are looked at.
looked_at : (h : Head) → head_sort h ≡ type_sort → IsLookedAt h
looked_at value_type e = absurd (cc)
looked_at h e = tt

pub formed_looked_at : (t : Tree) → IsRigid t → IsLookedAt (head_of t)
formed_looked_at (node h ts) f = looked_at h f
formed_looked_at t f = tt

pub const_looked_at : (t : Tree) → IsLookedAt (const_head_of t)
const_looked_at (node (unevaluated d) ts) = tt
const_looked_at (node (expression k) ts) = tt
const_looked_at t = tt

no_value_type : (h : Head) → head_sort h ≡ type_sort → h ≢ value_type
no_value_type h e q = subst IsLookedAt q (looked_at h e)

-- A leaf that stays, but for the name of a parameter.
abbrev IsFixed : Leaf → Type 0
IsFixed (atom x) = Unit {0}
IsFixed (placeholder k u n) = Unit {0}
IsFixed l = ⊥

abbrev plain_leaf : Leaf → Leaf
plain_leaf (atom x) = atom (plain_atom x)
plain_leaf l = l

-- What is no region is erased to what relating compares of it.
pub erased_plain : (x : Atom) → (atom_sort x ≡ region_sort → ⊥) → erase_atom x ≡ plain_atom x
erased_plain (early_region i n) o = absurd (o refl)
erased_plain (type_param i n) o = refl
erased_plain (const_param i n) o = refl
erased_plain x o = refl

pub kind_kept : (k : Kind) (l : Leaf) → (kind_sort k ≡ region_sort → ⊥) → erase_kinded k l ≡ l
kind_kept region_kind l o = absurd (o refl)
kind_kept k l o = refl

leaf_erased : (s : Assign) (l : Leaf) → IsFixed l → (leaf_sort l ≡ region_sort → ⊥) →
    erase (apply s (leaf l)) ≡ leaf (plain_leaf l)
leaf_erased s (atom x) f o = ap (λ z. leaf (atom z)) (erased_plain x o)
leaf_erased s (placeholder (bound_kind k m) u n) f o = ap leaf (kind_kept k (placeholder (bound_kind k m) u n) o)
leaf_erased s (variable k n) f o = absurd f
leaf_erased s (bound k d i) f o = absurd f
leaf_erased s unknown f o = absurd f

alike_leaves : (x y : Leaf) → IsFixed x → IsFixed y → leaf (plain_leaf x) ≡ leaf (plain_leaf y) → AreAlikeLeaves x y
alike_leaves (atom x) (atom y) f g e = cc
alike_leaves (placeholder k u n) (placeholder l v m) f g e = cc
alike_leaves (atom x) (placeholder l v m) f g e = absurd (cc)
alike_leaves (placeholder k u n) (atom y) f g e = absurd (cc)
alike_leaves (variable k n) y f g e = absurd f
alike_leaves (bound k d i) y f g e = absurd f
alike_leaves unknown y f g e = absurd f
alike_leaves x (variable k n) f g e = absurd g
alike_leaves x (bound k d i) f g e = absurd g
alike_leaves x unknown f g e = absurd g

-- Leaves that have a form.
formed_leaf : (l : Leaf) → IsRigid (leaf l) → IsFixed l × (leaf_sort l ≡ region_sort → ⊥)
formed_leaf (atom x) f = (tt, λ r. absurd (let z = sym f ∙ r in cc))
formed_leaf (placeholder k u n) f = (tt, λ r. absurd (let z = sym f ∙ r in cc))
formed_leaf l f = absurd f

formed_const_leaf : (l : Leaf) → IsFormedConst (leaf l) → IsFixed l × (leaf_sort l ≡ region_sort → ⊥)
formed_const_leaf (atom x) f = (tt, λ r. absurd (let z = sym f ∙ r in cc))
formed_const_leaf (placeholder k u n) f = (tt, λ r. absurd (let z = sym f ∙ r in cc))
formed_const_leaf l f = absurd f

unified_leaves : (s : Assign) (x y : Leaf) → IsFixed x × (leaf_sort x ≡ region_sort → ⊥) →
    IsFixed y × (leaf_sort y ≡ region_sort → ⊥) → Unifies s (leaf x) (leaf y) → AreAlikeLeaves x y
unified_leaves s x y f g e =
    alike_leaves x y f.0 g.0 (sym (leaf_erased s x f.0 f.1) ∙ e ∙ leaf_erased s y g.0 g.1)

no_form : (s : Assign) (x : Leaf) (h : Head) (ts : Tree) → IsFixed x × (leaf_sort x ≡ region_sort → ⊥) →
    Unifies s (leaf x) (node h ts) → ⊥
no_form s x h ts f e = let z = sym (leaf_erased s x f.0 f.1) ∙ e in absurd (cc)

pub one_head : (s : Assign) (h k : Head) (ts us : Tree) → Unifies s (node h ts) (node k us) → h ≡ k
one_head s h k ts us e = cc

alike_unified : (s : Assign) (a b : Tree) → IsRigid a → IsRigid b → Unifies s a b → AreAlike a b
alike_unified s (leaf x) (leaf y) f g e = ap leaf (unified_leaves s x y (formed_leaf x f) (formed_leaf y g) e)
alike_unified s (leaf x) (node k us) f g e = absurd (no_form s x k us (formed_leaf x f) e)
alike_unified s (node h ts) (leaf y) f g e = absurd (no_form s y h ts (formed_leaf y g) (sym e))
alike_unified s (node h ts) (node k us) f g e = alike_heads h k ts us (one_head s h k ts us e)
alike_unified s (bind ks t) b f g e = absurd f
alike_unified s nil b f g e = absurd f
alike_unified s (cons t u) b f g e = absurd f
alike_unified s a (bind ks t) f g e = absurd g
alike_unified s a nil f g e = absurd g
alike_unified s a (cons t u) f g e = absurd g

-- Unified lists have one length.
erased_count : (s : Assign) (ts : Tree) → IsList ts → count (erase (apply s ts)) ≡ count ts
erased_count s nil l = refl
erased_count s (cons t ts) l = ap suc (erased_count s ts l)
erased_count s (leaf x) l = absurd l
erased_count s (node h ts) l = absurd l
erased_count s (bind ks t) l = absurd l

pub unified_counts : (s : Assign) (h : Head) (ts us a b : Tree) → h ≢ value_type → a ≡ node h ts → b ≡ node h us →
    IsList ts → IsList us → Unifies s a b → count ts ≡ count us
unified_counts s h ts us a b o p q l m e =
    let z = (forms_unify_by_parts s h ts us o).0 (subst₂ (Unifies s) p q e) in
    sym (erased_count s ts l) ∙ ap count z ∙ erased_count s us m

-- Value trees and constants the same.
no_value_kind : (k : Kind) → Admits value_sort (kind_sort k) → ⊥
no_value_kind region_kind h = h
no_value_kind k h = h

value_atom : (x : Atom) → Admits value_sort (atom_sort x) → erase_atom x ≡ x
value_atom (early_region i n) h = absurd h
value_atom (type_param i n) h = absurd h
value_atom (const_param i n) h = absurd h
value_atom x h = refl

value_leaf_erased : (s : Assign) (l : Leaf) → IsTerm value_sort (leaf l) → erase (apply s (leaf l)) ≡ leaf l
value_leaf_erased s (atom x) f = ap (λ z. leaf (atom z)) (value_atom x f)
value_leaf_erased s (variable k n) f = absurd (no_value_variable k f)
value_leaf_erased s (bound (bound_kind k m) d i) f = absurd (no_value_kind k f)
value_leaf_erased s (placeholder (bound_kind k m) u n) f = absurd (no_value_kind k f)
value_leaf_erased s unknown f = absurd f

value_unified : (s : Assign) (v w : Tree) → IsTerm value_sort v → IsTerm value_sort w → Unifies s v w → AreOfOneValue v w
value_unified s (leaf l) (leaf k) f g e = one_value (sym (value_leaf_erased s l f) ∙ e ∙ value_leaf_erased s k g)
value_unified s (leaf l) (node h us) f g e = absurd (let z = sym (value_leaf_erased s l f) ∙ e in cc)
value_unified s (node h ts) (leaf l) f g e = absurd (let z = e ∙ value_leaf_erased s l g in cc)
value_unified s (node value_branch ts) (node value_branch us) f g e = as_many_branches refl refl
    (unified_counts s value_branch ts us (node value_branch ts) (node value_branch us) (λ q. absurd (cc)) refl refl
    (parts_list value_branch ts f.1) (parts_list value_branch us g.1) e)
value_unified s v nil f g e = absurd g
value_unified s v (cons t u) f g e = absurd g
value_unified s v (bind ks t) f g e = absurd g
value_unified s (node value_branch ts) (node h us) f g e = absurd g.0
value_unified s (node h ts) w f g e = absurd f.0
value_unified s nil w f g e = absurd f
value_unified s (cons t u) w f g e = absurd f
value_unified s (bind ks t) w f g e = absurd f

alike_consts_unified : (s : Assign) (a b : Tree) → IsFormedConst a → IsFormedConst b → IsTerm const_sort a →
    IsTerm const_sort b → Unifies s a b → ConstsAlike a b
alike_consts_unified s (leaf x) (leaf y) f g p q e = unified_leaves s x y (formed_const_leaf x f) (formed_const_leaf y g) e
alike_consts_unified s (leaf x) (node h us) f g p q e = absurd (no_form s x h us (formed_const_leaf x f) e)
alike_consts_unified s (node h ts) (leaf y) f g p q e = absurd (no_form s y h ts (formed_const_leaf y g) (sym e))
alike_consts_unified s (node (expression k) ts) (node (expression l) us) f g p q e = tt
alike_consts_unified s (node (unevaluated d) ts) (node (unevaluated i) us) f g p q e =
    let z : unevaluated d ≡ unevaluated i = one_head s (unevaluated d) (unevaluated i) ts us e in
    let same : d ≡ i = cc in
    let right : node (unevaluated i) us ≡ node (unevaluated d) us = ap (λ z. node z us) (sym z) in (
      same,
      unified_counts s (unevaluated d) ts us (node (unevaluated d) ts) (node (unevaluated i) us) (λ q. absurd (cc)) refl
          right (parts_list (unevaluated d) ts p.1) (parts_list (unevaluated i) us q.1) e,
    )
alike_consts_unified s (node (unevaluated d) ts) (node (expression l) us) f g p q e =
    absurd (let z = one_head s (unevaluated d) (expression l) ts us e in cc)
alike_consts_unified s (node (unevaluated d) ts) (node value us) f g p q e =
    absurd (let z = one_head s (unevaluated d) value ts us e in cc)
alike_consts_unified s (node (expression k) ts) (node (unevaluated d) us) f g p q e =
    absurd (let z = one_head s (expression k) (unevaluated d) ts us e in cc)
alike_consts_unified s (node value ts) (node (unevaluated d) us) f g p q e =
    absurd (let z = one_head s value (unevaluated d) ts us e in cc)
alike_consts_unified s (node (expression k) ts) (node value us) f g p q e =
    absurd (let z = one_head s (expression k) value ts us e in cc)
alike_consts_unified s (node value ts) (node (expression l) us) f g p q e =
    absurd (let z = one_head s value (expression l) ts us e in cc)
alike_consts_unified s (node value ts) (node value us) f g p q e =
    let (t, v, d, h) = value_shape ts p.1 in
    let (u, w, c, k) = value_shape us q.1 in
    let z : Unifies s (node value (cons t (cons v nil))) (node value (cons u (cons w nil))) =
    subst₂ (λ i j. Unifies s (node value i) (node value j)) d c e in
    let y : erase (apply s v) ≡ erase (apply s w) = cc in
    subst₂ (λ i j. ConstsAlike (node value i) (node value j)) (sym d) (sym c) (value_unified s v w h k y)
alike_consts_unified s (bind ks t) b f g p q e = absurd f
alike_consts_unified s nil b f g p q e = absurd f
alike_consts_unified s (cons t u) b f g p q e = absurd f
alike_consts_unified s a (bind ks t) f g p q e = absurd g
alike_consts_unified s a nil f g p q e = absurd g
alike_consts_unified s a (cons t u) f g p q e = absurd g
alike_consts_unified s (node (unevaluated d) ts) (node h us) f g p q e = absurd g
alike_consts_unified s (node (expression k) ts) (node h us) f g p q e = absurd g
alike_consts_unified s (node value ts) (node h us) f g p q e = absurd g
alike_consts_unified s (node h ts) b f g p q e = absurd f

-- Erasure keeps sorts.
pub kind_erased : (k : Kind) (l : Leaf) → leaf_sort l ≡ kind_sort k → leaf_sort (erase_kinded k l) ≡ kind_sort k
kind_erased region_kind l e = refl
kind_erased k l e = e

pub erased_sort : (t : Tree) → sort_of (erase t) ≡ sort_of t
erased_sort (leaf (variable region_var n)) = refl
erased_sort (leaf (variable k n)) = refl
erased_sort (leaf (bound (bound_kind k m) d i)) = kind_erased k (bound (bound_kind k m) d i) refl
erased_sort (leaf (placeholder (bound_kind k m) u n)) = kind_erased k (placeholder (bound_kind k m) u n) refl
erased_sort (leaf (atom x)) = erased_atom x
erased_sort (leaf unknown) = refl
erased_sort (node h ts) = refl
erased_sort (bind ks t) = refl
erased_sort nil = refl
erased_sort (cons t ts) = refl

module _ {Key Id Name : Type 0} (m : Meaning Key Id Name) where
  -- Types whose outermost forms differ are not unified.
  pub forms_not_unified : (s : Assign) (x y : TyKey Key) (e : TypeError Key Id Name) → IsRigid (m.ty x) →
      IsRigid (m.ty y) → IsTerm type_sort (m.ty x) → IsTerm type_sort (m.ty y) → FormError m x y e →
      Unifies s (m.ty x) (m.ty y) → ⊥
  forms_not_unified s x y e f g k l (mutability {u} {v} {ts} {us} p q differ) z =
      differ (let h = one_head s (ref u) (ref v) ts us (subst₂ (Unifies s) p q z) in cc)
  forms_not_unified s x y e f g k l (pointer_mutability {u} {v} {ts} {us} p q differ) z =
      differ (let h = one_head s (raw_ptr u) (raw_ptr v) ts us (subst₂ (Unifies s) p q z) in cc)
  forms_not_unified s x y e f g k l (tuple_size {ts} {us} p q i j differ) z =
      differ (unified_counts s tuple ts us (m.ty x) (m.ty y) (λ h. absurd (cc)) p q
      (list_of tuple type_sort ts (m.ty x) p k) (list_of tuple type_sort us (m.ty y) q l) z)
  forms_not_unified s x y e f g k l (empty_tuple {ts} {us} p q differ o) z =
      differ (unified_counts s tuple ts us (m.ty x) (m.ty y) (λ h. absurd (cc)) p q
      (list_of tuple type_sort ts (m.ty x) p k) (list_of tuple type_sort us (m.ty y) q l) z)
  forms_not_unified s x y e f g k l (as_many {h} {ts} {us} p q o differ) z =
      differ (unified_counts s h ts us (m.ty x) (m.ty y) (no_value_type h (subst IsRigid p f)) p q
      (list_of h type_sort ts (m.ty x) p k) (list_of h type_sort us (m.ty y) q l) z)
  forms_not_unified s x y e f g k l (alias_arguments {k = i} {l = j} {d} {ts} {us} p q differ) z =
      differ (let h = one_head s (alias i d) (alias j d) ts us (subst₂ (Unifies s) p q z) in
      unified_counts s (alias i d) ts us (m.ty x) (m.ty y) (λ h. absurd (cc)) p
      (q ∙ ap (λ z. node z us) (sym h)) (list_of (alias i d) type_sort ts (m.ty x) p k)
      (list_of (alias j d) type_sort us (m.ty y) q l) z)
  forms_not_unified s x y e f g k l (unlike_aliases {k = i} {l = j} {ts} {us} c d p q differ) z =
      differ (let h = one_head s (alias i (m.id c)) (alias j (m.id d)) ts us (subst₂ (Unifies s) p q z) in cc)
  forms_not_unified s x y e f g k l (sorts n o) z = o (alike_unified s (m.ty x) (m.ty y) f g z)

  -- Nor are first-order constants.
  pub const_forms_not_unified : (s : Assign) (x y : ConstKey Key) (e : TypeError Key Id Name) →
      IsFormedConst (m.const_ x) → IsFormedConst (m.const_ y) → IsTerm const_sort (m.const_ x) →
      IsTerm const_sort (m.const_ y) → IsFirstOrder (m.const_ x) → ConstFormError m x y e →
      Unifies s (m.const_ x) (m.const_ y) → ⊥
  const_forms_not_unified s x y e f g k l h (const_mismatch n o) z =
      o (of_forms_alike (m.const_ x) (m.const_ y) (alike_consts_unified s (m.const_ x) (m.const_ y) f g k l z))
  const_forms_not_unified s x y e f g k l h (operations {k = op} {ts = ts} p q d) z =
      absurd (let n : IsFirstOrder (node (expression op) ts) = subst IsFirstOrder p h in n.0)

-- Two types of one form that are no aliases are unified just where their parts are.
pub erased_parameters : (x y : Atom) → (atom_sort x ≡ region_sort → ⊥) → (atom_sort y ≡ region_sort → ⊥) →
    plain_atom x ≡ plain_atom y → erase_atom x ≡ erase_atom y
erased_parameters x y o l e = erased_plain x o ∙ e ∙ sym (erased_plain y l)

pub types_unify : (a b : Tree) → IsRigid a → IsRigid b → (IsAlias a → ⊥) → AreOfOneForm a b → (s : Assign) →
    Unifies s a b ↔ Unifies s (direct_parts a) (direct_parts b)
types_unify a b f g o (over_aliases d e n) s = absurd (o (subst IsAlias (sym d) tt))
types_unify a b f g o (over_parts {h} {ts} {us} d e n) s = subst₂
    (λ x y. Unifies s x y ↔ Unifies s (direct_parts x) (direct_parts y)) (sym d) (sym e)
    (forms_unify_by_parts s h ts us (no_value_type h (subst IsRigid d f)))
types_unify a b f g o (one_leaf {l} d e) s = subst₂ (λ x y. Unifies s x y ↔ Unifies s (direct_parts x) (direct_parts y))
    (sym d) (sym e) ((λ z. refl), (λ z. refl))
types_unify a b f g o (parameters {x} {y} d e p) s =
    let i = formed_leaf (atom x) (subst IsRigid d f) in
    let j = formed_leaf (atom y) (subst IsRigid e g) in
    subst₂ (λ x y. Unifies s x y ↔ Unifies s (direct_parts x) (direct_parts y)) (sym d) (sym e)
    ((λ z. refl), (λ z. ap (λ z. leaf (atom z)) (erased_parameters x y i.1 j.1 p)))

-- Of constants the same.
values_unify : (s : Assign) (t u v w : Tree) → Unifies s (value_tree t v) (value_tree u w) ↔ Unifies s v w
values_unify s t u v w = ((λ e. cc), λ e. ap (λ z. node value (cons (node value_type nil) (cons z nil))) e)

branches_unify : (s : Assign) (v w : Tree) → AreOfOneValue v w → Unifies s v w ↔
    Unifies s (branches_of v) (branches_of w)
branches_unify s v w (one_value e) =
    ((λ z. ap (λ x. erase (apply s (branches_of x))) e), λ z. ap (λ x. erase (apply s x)) e)
branches_unify s v w (as_many_branches {ts} {us} d e n) = subst₂
    (λ x y. Unifies s x y ↔ Unifies s (branches_of x) (branches_of y)) (sym d) (sym e)
    (forms_unify_by_parts s value_branch ts us (λ q. absurd (cc)))

pub consts_unify : (a b : Tree) → IsFormedConst a → IsFormedConst b → AreOfOneConst a b → (s : Assign) →
    Unifies s a b ↔ Unifies s (const_parts_of a) (const_parts_of b)
consts_unify a b f g (values {t} {u} {v} {w} d e o) s =
    let i = values_unify s t u v w in
    let j = branches_unify s v w o in
    subst₂ (λ x y. Unifies s x y ↔ Unifies s (const_parts_of x) (const_parts_of y)) (sym d) (sym e)
    ((λ z. j.0 (i.0 z)), (λ z. i.1 (j.1 z)))
consts_unify a b f g (expressions {k} {ts} {us} d e n) s = subst₂
    (λ x y. Unifies s x y ↔ Unifies s (const_parts_of x) (const_parts_of y)) (sym d) (sym e)
    (forms_unify_by_parts s (expression k) ts us (λ q. absurd (cc)))
consts_unify a b f g (over_arguments {d = i} {ts} {us} d e n) s = subst₂
    (λ x y. Unifies s x y ↔ Unifies s (const_parts_of x) (const_parts_of y)) (sym d) (sym e)
    (forms_unify_by_parts s (unevaluated i) ts us (λ q. absurd (cc)))
consts_unify a b f g (one_const_leaf d e) s =
    ((λ z. ap (λ x. erase (apply s (const_parts_of x))) (d ∙ sym e)), λ z. ap (λ x. erase (apply s x)) (d ∙ sym e))
consts_unify a b f g (const_parameters {x} {y} d e p) s =
    let i = formed_const_leaf (atom x) (subst IsFormedConst d f) in
    let j = formed_const_leaf (atom y) (subst IsFormedConst e g) in
    subst₂ (λ x y. Unifies s x y ↔ Unifies s (const_parts_of x) (const_parts_of y)) (sym d) (sym e)
    ((λ z. refl), (λ z. ap (λ z. leaf (atom z)) (erased_parameters x y i.1 j.1 p)))

-- What is exact of the parts is so of what is unified just where they are.
pub exact_as : (before after : Store) (a b xs ys : Tree) → ((s : Assign) → Unifies s a b ↔ Unifies s xs ys) →
    Exact before after xs ys → Exact before after a b
exact_as before after a b xs ys same f = record {
  later = f.later;
  shrinks = λ s sol. let z = f.shrinks s sol in (z.0, (same s).1 z.1);
  keeps = λ s sol one. f.keeps s sol ((same s).0 one);
}

-- Where unifying terms unifies their parts, and the parts stand in one universe where the whole does, what a fault says of
-- the parts it says of the terms.
pub refused_by : {Key Id Name : Type 0} (before after : Store) (a b xs ys : Tree) →
    ((s : Assign) → Unifies s a b → Unifies s xs ys) →
    ((u : ℕ) → Leaves (NamesTypesTo u) a → Leaves (NamesTypesTo u) xs) →
    ((u : ℕ) → Leaves (NamesTypesTo u) b → Leaves (NamesTypesTo u) ys) → (A B : Type 0) (e : RelateFault Key Id Name) →
    ExactResult {X = A} before after xs ys (Err e) → ExactResult {X = B} before after a b (Err e)
refused_by before after a b xs ys inside left right A B (Unrelated e) z =
    ((λ s sol one. z.0 s sol (inside s one)), binds_as before after a b xs ys left right z.1)
refused_by before after a b xs ys inside left right A B Budget z =
    (fewer_as before after a b xs ys left right z.0, unified_inside before after a b xs ys inside z.1)
refused_by before after a b xs ys inside left right A B Memory z =
    (binds_as before after a b xs ys left right z.0, unified_inside before after a b xs ys inside z.1)

-- So is what a result says, where the parts stand in one universe where the whole does.
module _ (before after : Store) (a b xs ys : Tree) (same : (s : Assign) → Unifies s a b ↔ Unifies s xs ys)
    (left : (u : ℕ) → Leaves (NamesTypesTo u) a → Leaves (NamesTypesTo u) xs)
    (right : (u : ℕ) → Leaves (NamesTypesTo u) b → Leaves (NamesTypesTo u) ys) where
  pub answered_as : IsFirstOrderStore after × Exact before after xs ys × KeepsUniverseOf before after xs ys →
      IsFirstOrderStore after × Exact before after a b × KeepsUniverseOf before after a b
  answered_as z =
      (z.0, exact_as before after a b xs ys same z.1, keeps_as before after a b xs ys left right z.2)

  pub refused_as : {Key Id Name : Type 0} (A B : Type 0) (e : RelateFault Key Id Name) →
      ExactResult {X = A} before after xs ys (Err e) → ExactResult {X = B} before after a b (Err e)
  refused_as A B e z = refused_by before after a b xs ys (λ s. (same s).0) left right A B e z
