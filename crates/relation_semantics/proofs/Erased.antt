-- Erasure and unification.
use Rattle.std.proofs.Common.{◌≡◌, ◌≢◌, ◌⊎◌, ℕ, ◌≤◌, refl, sym, ap, ap₂, ◌∙◌, arith, inl, inr, subst, [], le_of_eq}
use Rattle.term_enums.specs.declared.Variance.{Variance}
use Rattle.term_enums.specs.declared.Variance.TheVariants.{Invariant}
use Rattle.relation_terms.specs.Heads.{Kind, region_kind, kind_sort, bound_kind, VarKind, type_var, const_var, region_var, region_sort, Leaf, Atom, atom_sort, type_error, const_error, type_param, const_param, static_region, early_region, atom, variable, bound, placeholder, unknown, Head, value_type, alias, alias_term, unevaluated}
use Rattle.relation_terms.specs.Trees.{Tree, leaf, node, bind, nil, cons, Assign, assigned, apply, Leaves, Occurs, size}
use Rattle.term_enums.specs.Variances.{xform}
use Rattle.relation_terms.specs.Erasure.{erase, erase_atom, erase_kinded, kept_parts}
use Rattle.relation_semantics.specs.Relation.{Items, Interpretation, parts, Rel, at, same, anything, error_left, error_right, regions, alias_types, equal_consts, atoms, forms, no_parts, next_part, covariant_binders, contravariant_binders, invariant_binders, part_at, plain, plain_atom, sort_of, IsError, IsErrorAtom, IsAlias, IsAliasHead, AliasRule}
use Rattle.relation_semantics.specs.FirstOrder.{IsFirstOrder, IsFirstOrderHead, IsFirstOrderAtom, IsClosedLeaf, IsErasedSolution}
use Rattle.relation_semantics.specs.ErasureLaws.{ErasureAssigns, FormsUnifyByParts, TypesOfValuesUnify, ListsUnifyByItems, UnlikeFormsDoNotUnify, IsTypeOrConst, ErasedOccursCheck, InvariantTermsAreAlike}
use Rattle.relation_semantics.proofs.Related.{no_region_head}
use Rattle.relation_terms.proofs.Paths.{leaf_path, parts_path}
use Rattle.relation_semantics.specs.Stores.{Store, Satisfies}

pub keeps_parts : (h : Head) (ts : Tree) → h ≢ value_type → kept_parts h ts ≡ ts
keeps_parts value_type ts n = absurd (n refl)
keeps_parts h ts n = refl

pub unlike_forms_do_not_unify : UnlikeFormsDoNotUnify
unlike_forms_do_not_unify s h k ts us n e = n cc

pub lists_unify_by_items : ListsUnifyByItems
lists_unify_by_items s t u ts us = (λ e. (cc, cc), λ p. ap₂ cons p.0 p.1)

pub forms_unify_by_parts : FormsUnifyByParts
forms_unify_by_parts s h ts us n = (λ e. sym (keeps_parts h (erase (apply s ts)) n) ∙ parts_path e ∙ keeps_parts h (erase (apply s us)) n, λ e. ap (λ z. node h (kept_parts h z)) e)

pub types_of_values_unify : TypesOfValuesUnify
types_of_values_unify s ts us = refl

-- All regions have one erasure.
erase_region_atom : (x : Atom) → atom_sort x ≡ region_sort → erase_atom x ≡ static_region
erase_region_atom static_region p = refl
erase_region_atom (early_region i n) p = refl
erase_region_atom x p = absurd cc

erase_kinded_region : (k : Kind) (l : Leaf) → kind_sort k ≡ region_sort → erase_kinded k l ≡ atom static_region
erase_kinded_region region_kind l p = refl
erase_kinded_region k l p = absurd cc

pub erase_region : (t : Tree) → sort_of t ≡ region_sort → erase t ≡ leaf (atom static_region)
erase_region (leaf (variable region_var n)) p = refl
erase_region (leaf (variable k n)) p = absurd cc
erase_region (leaf (bound (bound_kind k m) d i)) p = ap leaf (erase_kinded_region k _ p)
erase_region (leaf (placeholder (bound_kind k m) u n)) p = ap leaf (erase_kinded_region k _ p)
erase_region (leaf (atom x)) p = ap (λ y. leaf (atom y)) (erase_region_atom x p)
erase_region (leaf unknown) p = absurd cc
erase_region (node h ts) p = absurd (no_region_head h p)
erase_region t p = absurd cc

apply-kept_parts : (s : Assign) (h : Head) (ts : Tree) → apply s (kept_parts h ts) ≡ kept_parts h (apply s ts)
apply-kept_parts s value_type ts = refl
apply-kept_parts s h ts = refl

-- A leaf that is no variable stays, erased or not.
kinded_stays : (s : Assign) (k : Kind) (l : Leaf) → assigned s l ≡ leaf l → assigned s (erase_kinded k l) ≡ leaf (erase_kinded k l)
kinded_stays s region_kind l p = refl
kinded_stays s k l p = p

pub erasure_assigns : ErasureAssigns
erasure_assigns s (leaf (variable region_var n)) r = erase_region (s region_var n) (r n)
erasure_assigns s (leaf (variable k n)) r = refl
erasure_assigns s (leaf (bound (bound_kind k m) d i)) r = sym (kinded_stays _ k (bound (bound_kind k m) d i) refl)
erasure_assigns s (leaf (placeholder (bound_kind k m) u n)) r = sym (kinded_stays _ k (placeholder (bound_kind k m) u n) refl)
erasure_assigns s (leaf (atom x)) r = refl
erasure_assigns s (leaf unknown) r = refl
erasure_assigns s (node h ts) r = ap (node h) (ap (kept_parts h) (erasure_assigns s ts r) ∙ sym (apply-kept_parts (λ k n. erase (s k n)) h (erase ts)))
erasure_assigns s (bind ks t) r = ap (bind []) (erasure_assigns s t r)
erasure_assigns s nil r = refl
erasure_assigns s (cons t ts) r = ap₂ cons (erasure_assigns s t r) (erasure_assigns s ts r)

-- In a closed type no variable of a type or a constant stands.
not_closed : (k : VarKind) (n : ℕ) → IsTypeOrConst k → IsClosedLeaf (variable k n) → ⊥
not_closed type_var n l c = c
not_closed const_var n l c = c
not_closed k n l c = l

closed_absent : (k : VarKind) (n : ℕ) (t : Tree) → IsTypeOrConst k → Leaves IsClosedLeaf t → Occurs k n t → ⊥
closed_absent k n (leaf l) i c o = not_closed k n i (subst IsClosedLeaf (leaf_path o) c)
closed_absent k n (node h t) i c o = closed_absent k n t i c o
closed_absent k n (bind ks t) i c o = closed_absent k n t i c o
closed_absent k n nil i c o = o
closed_absent k n (cons t u) i c (inl o) = closed_absent k n t i c.0 o
closed_absent k n (cons t u) i c (inr o) = closed_absent k n u i c.1 o

occurs_erased : (s : Assign) (k : VarKind) (n : ℕ) (t : Tree) → IsTypeOrConst k → IsFirstOrder t → Occurs k n t → size (erase (s k n)) ≤ size (erase (apply s t))
occurs_erased s k n (leaf l) i f o = le_of_eq (ap (λ z. size (erase (apply s z))) (sym o))
occurs_erased s k n (node value_type t) i f o = absurd (closed_absent k n t i f.2 o)
occurs_erased s k n (node h t) i f o = let p = occurs_erased s k n t i f.3 o in omega arith
occurs_erased s k n (bind ks t) i f o = absurd f
occurs_erased s k n nil i f o = absurd o
occurs_erased s k n (cons t u) i f (inl o) = let p = occurs_erased s k n t i f.0 o in omega arith
occurs_erased s k n (cons t u) i f (inr o) = let p = occurs_erased s k n u i f.1 o in omega arith

pub erased_occurs_check : ErasedOccursCheck
erased_occurs_check s k n (leaf l) i f o q e = q o
erased_occurs_check s k n (node value_type t) i f o q e = closed_absent k n t i f.2 o
erased_occurs_check s k n (node h t) i f o q e = let p = occurs_erased s k n t i f.3 o in let r = ap size e in omega arith
erased_occurs_check s k n (bind ks t) i f o q e = f
erased_occurs_check s k n nil i f o q e = o
erased_occurs_check s k n (cons t u) i f (inl o) q e = let p = occurs_erased s k n t i f.0 o in let r = ap size e in omega arith
erased_occurs_check s k n (cons t u) i f (inr o) q e = let p = occurs_erased s k n u i f.1 o in let r = ap size e in omega arith

pub no_error_atom : (x : Atom) → IsErrorAtom x → IsFirstOrderAtom x → ⊥
no_error_atom type_error h f = f
no_error_atom const_error h f = f
no_error_atom x h f = h

pub error_not_first : (a : Tree) → IsError a → IsFirstOrder a → ⊥
error_not_first (leaf (atom x)) h f = no_error_atom x h f
error_not_first a h f = h

no_alias_head : (h : Head) → IsAliasHead h → IsFirstOrderHead h → ⊥
no_alias_head (alias k d) a f = f
no_alias_head (unevaluated d) a f = f
no_alias_head h a f = a

pub alias_not_first : (a : Tree) → IsAlias a → IsFirstOrder a → ⊥
alias_not_first (node h ts) i f = no_alias_head h i f.0
alias_not_first a i f = i

rule_alias : (w : Interpretation) (e : Tree) (v : Variance) (a b : Tree) → v ≡ Invariant → AliasRule w e v a b → IsAlias a ⊎ IsAlias b
rule_alias w e Invariant a b p r = r.1
rule_alias w e v a b p r = absurd cc

first_order_plain : (h : Head) → IsFirstOrderHead h → plain h ≡ h
first_order_plain (alias k d) f = absurd f
first_order_plain (alias_term k d) f = absurd f
first_order_plain h f = refl

pub erase_plain : (x : Atom) → erase_atom (plain_atom x) ≡ erase_atom x
erase_plain (type_param i n) = refl
erase_plain (const_param i n) = refl
erase_plain x = refl

pub xform_invariant : (v w : Variance) → v ≡ Invariant → xform v w ≡ Invariant
xform_invariant Invariant w p = refl
xform_invariant v w p = absurd cc

-- What the parts of a form are up to erasure: all one for types of values, else equal.
abbrev pub PartsErased : Head → Tree → Tree → Type 0
PartsErased value_type xs ys = Unit {0}
PartsErased h xs ys = erase xs ≡ erase ys

pub parts_done : (h : Head) → PartsErased h nil nil
parts_done value_type = tt
parts_done h = refl

pub parts_next : (c : Items) (h : Head) (i : ℕ) (v : Variance) (a b xs ys : Tree) → v ≡ Invariant → (part_at c h i v ≡ Invariant → erase a ≡ erase b) → PartsErased h xs ys → PartsErased h (cons a xs) (cons b ys)
parts_next c value_type i v a b xs ys p first rest = tt
parts_next c h i v a b xs ys p first rest = ap₂ cons (first (xform_invariant v _ p)) rest

pub parts_form : (h : Head) (xs ys : Tree) → PartsErased h xs ys → erase (node h xs) ≡ erase (node h ys)
parts_form value_type xs ys r = refl
parts_form h xs ys r = ap (node h) r

neither : (a b : Tree) → IsAlias a ⊎ IsAlias b → IsFirstOrder a → IsFirstOrder b → erase a ≡ erase b
neither a b (inl h) f g = absurd (alias_not_first a h f)
neither a b (inr h) f g = absurd (alias_not_first b h g)

mutual
  erased : {c : Items} {w : Interpretation} {e : Tree} {v : Variance} {a b : Tree} → v ≡ Invariant → Rel c w e (at v) a b → IsFirstOrder a → IsFirstOrder b → erase a ≡ erase b
  erased q (same p) f g = ap erase p
  erased q (anything p) f g = absurd cc
  erased {a = a} q (error_left h _) f g = absurd (error_not_first a h f)
  erased {b = b} q (error_right h _) f g = absurd (error_not_first b h g)
  erased {a = a} {b = b} q (regions p r _) f g = erase_region a p ∙ sym (erase_region b r)
  erased {w = w} {e = e} {v = v} {a = a} {b = b} q (alias_types _ _ r) f g = neither a b (rule_alias w e v a b q r) f g
  erased {a = a} {b = b} q (equal_consts _ _ r) f g = neither a b r.1 f g
  erased q (atoms {x = x} {y = y} p) f g = ap (λ z. leaf (atom z)) (sym (erase_plain x) ∙ ap erase_atom p ∙ erase_plain y)
  erased q (forms {h = h} {k = k} {xs = xs} {ys = ys} i p r) f g = parts_form h xs ys (erased_parts q r f.0 f.3 g.3) ∙ ap (λ z. erase (node z ys)) (sym (first_order_plain h f.0) ∙ p ∙ first_order_plain k g.0)
  erased q (covariant_binders _ _) f g = absurd f
  erased q (contravariant_binders _ _) f g = absurd f
  erased q (invariant_binders _ _ _) f g = absurd f

  erased_parts : {c : Items} {w : Interpretation} {e : Tree} {h : Head} {i : ℕ} {v : Variance} {xs ys : Tree} → v ≡ Invariant → Rel c w e (parts h i v) xs ys → IsFirstOrderHead h → IsFirstOrder xs → IsFirstOrder ys → PartsErased h xs ys
  erased_parts {h = h} q no_parts k f g = parts_done h
  erased_parts {c = c} {h = h} {i = i} {v = v} q (next_part r rs) k f g = parts_next c h i v _ _ _ _ q (λ p. erased p r f.0 g.0) (erased_parts q rs k f.1 g.1)

pub invariant_terms_are_alike : InvariantTermsAreAlike
invariant_terms_are_alike c w e a b r f g = erased refl r f g

-- What satisfies what is recorded satisfies it up to erasure.
pub solves_erased : (w : Interpretation) (st : Store) (s : Assign) → Satisfies w st s → IsErasedSolution st s
solves_erased w st s h = (h.assigns, λ k n t e. ap erase (h.bindings k n t e))
