-- Terms that are related by their parts: patterns, and what stands over binders or under them.
use Rattle.std.proofs.Common.{◌≡◌, ◌≢◌, ℕ, zero, suc, refl, sym, ap, ◌∙◌, subst, List, Option, None, Some, IsTrue}
use Rattle.term_enums.specs.declared.Variance.{Variance}
use Rattle.term_enums.specs.declared.Variance.TheVariants.{Covariant, Contravariant, Invariant, Bivariant}
use Rattle.relation_terms.specs.declared.terms.part_kind.Part.{Part}
use Rattle.relation_terms.specs.declared.terms.part_kind.Part.TheVariants.{Region, Ty, Const, ValTree, Pat, ValueType}
use Rattle.relation_terms.specs.declared.terms.part_kind.Part.TheVariants.{Binder, Signature, Inputs, Existential, Object}
use Rattle.relation_terms.specs.declared.predicate.existential.ExistentialPredicate.{ExistentialPredicate}
use Rattle.relation_terms.specs.declared.predicate.existential.ExistentialPredicate.TheVariants.{Trait, AutoTrait}
use Rattle.relation_terms.specs.declared.predicate.existential.ExistentialPredicate.TheVariants.{Projection}
use Rattle.term_enums.specs.Variances.{xform}
use Rattle.relation_terms.specs.Heads.{Sort, type_sort, argument_sort, pattern_sort, no_sort, signature_sort, inputs_sort}
use Rattle.relation_terms.specs.Heads.{existential_sort, object_sort, Admits, VarKind, type_var, int_var, float_var, const_var}
use Rattle.relation_terms.specs.Heads.{region_var, var_sort, atom_sort, head_sort, Head, pattern_type, range_pattern}
use Rattle.relation_terms.specs.Heads.{or_pattern, fn_ptr, unsafe_binder, dynamic, object, signature, inputs}
use Rattle.relation_terms.specs.Heads.{existential_trait, existential_projection, Atom, not_null_pattern, bool_type}
use Rattle.relation_terms.specs.Heads.{existential_auto, variable, bound, placeholder, atom, unknown, BoundKind, bound_kind}
use Rattle.relation_terms.specs.Heads.{bound_sort, region_kind, type_kind, const_kind}
use Rattle.relation_terms.specs.Trees.{Tree, leaf, node, bind, nil, cons, known, IsTerm, count}
use Rattle.relation_terms.specs.Meaning.{Meaning, under, existential_tree, kind_tree}
use Rattle.relation_terms.specs.declared.terms.ty_kind.TyKind.{TyKind}
use Rattle.relation_terms.specs.declared.terms.ty_kind.TyKind.TheVariants.{Pat as TyPat, FnPtr, UnsafeBinder, Dynamic, Infer}
use Rattle.relation_terms.specs.declared.terms.ty_kind.InferTy.TheVariants.{TyVar, IntVar, FloatVar}
use Rattle.relation_terms.specs.declared.terms.ty_kind.InferTy.TheVariants.{FreshTy, FreshIntTy, FreshFloatTy}
use Rattle.relation_terms.specs.declared.terms.binder.Binder.{Binder as BinderOf}
use Rattle.relation_terms.specs.declared.terms.fn_sig.FnSigTys.{FnSigTys}
use Rattle.term_enums.specs.declared.FnHeader.{FnHeader}
use Rattle.relation_terms.specs.declared.terms.keys.TyKey.{TyKey}
use Rattle.relation_terms.specs.declared.terms.keys.PatKey.{PatKey}
use Rattle.relation_terms.specs.declared.terms.keys.RegionKey.{RegionKey}
use Rattle.relation_terms.specs.declared.terms.keys.ExistentialPredicatesKey.{ExistentialPredicatesKey}
use Rattle.relation_terms.specs.Parts.{body_tree, part_tree, part_sort, parts_of as list_of_parts, over as term_over}
use Rattle.relation_terms.proofs.Binders.{front_known, front_terms}
use Rattle.relation_terms.specs.Interning.{Sorted}
use Rattle.relation_terms.proofs.Sorted.{signature_sorted, existential_sorted}
use Rattle.relation_semantics.specs.Relation.{Items, mode, part_at, plain_atom, IsRelatedHead}
use Rattle.relation_semantics.specs.FirstOrder.{IsFirstOrder}
use Rattle.relation_semantics.specs.Errors.{AreOfOneForm, over_parts, over_aliases, one_leaf, parameters}
use Rattle.relation_semantics.specs.Parts.{direct_parts, head_of, IsByParts, IsComparedPart}
use Rattle.relation_semantics.specs.Making.{form_over}

-- No such term is a binder: all its parts are looked at.
pub term_parts_as : (t : Tree) → IsByParts t → list_of_parts t ≡ direct_parts t
term_parts_as (node h ts) o = refl
term_parts_as (leaf l) o = refl
term_parts_as t o = absurd o

pub term_over_as : (t us : Tree) → IsByParts t → term_over t us ≡ form_over t us
term_over_as (node h ts) us o = refl
term_over_as (leaf l) us o = refl
term_over_as t us o = absurd o

-- They are related by their parts, each at the variance of its place, which is bivariance just where the whole is there.
pub term_related : (h : Head) (ts : Tree) → IsByParts (node h ts) → IsRelatedHead h
term_related pattern_type ts o = tt
term_related range_pattern ts o = tt
term_related or_pattern ts o = tt
term_related fn_ptr ts o = tt
term_related unsafe_binder ts o = tt
term_related dynamic ts o = tt
term_related object ts o = tt
term_related (signature x s k) ts o = tt
term_related inputs ts o = tt
term_related (existential_trait d) ts o = tt
term_related (existential_projection d) ts o = tt
term_related h ts o = absurd o

head_part_at : (c : Items) (h : Head) (ts : Tree) (i : ℕ) (v : Variance) → IsByParts (node h ts) →
    part_at c h i v ≡ xform v (mode c h i)
head_part_at c pattern_type ts i v o = refl
head_part_at c range_pattern ts i v o = refl
head_part_at c or_pattern ts i v o = refl
head_part_at c fn_ptr ts i v o = refl
head_part_at c unsafe_binder ts i v o = refl
head_part_at c dynamic ts i v o = refl
head_part_at c object ts i v o = refl
head_part_at c (signature x s k) ts i v o = refl
head_part_at c inputs ts i v o = refl
head_part_at c (existential_trait d) ts i v o = refl
head_part_at c (existential_projection d) ts i v o = refl
head_part_at c h ts i v o = absurd o

pub term_part_at : (c : Items) (t : Tree) (i : ℕ) (v : Variance) → IsByParts t →
    part_at c (head_of t) i v ≡ xform v (mode c (head_of t) i)
term_part_at c (node h ts) i v o = head_part_at c h ts i v o
term_part_at c (leaf l) i v o = refl
term_part_at c t i v o = absurd o

turned_decides : (v w : Variance) → v ≢ Bivariant → w ≢ Bivariant → xform v w ≢ Bivariant
turned_decides Covariant w o n e = n e
turned_decides Contravariant Covariant o n e = absurd (cc)
turned_decides Contravariant Contravariant o n e = absurd (cc)
turned_decides Contravariant Invariant o n e = absurd (cc)
turned_decides Contravariant Bivariant o n e = n refl
turned_decides Invariant w o n e = absurd (cc)
turned_decides Bivariant w o n e = o refl

place_decides : (c : Items) (h : Head) (ts : Tree) (i : ℕ) → IsByParts (node h ts) → mode c h i ≢ Bivariant
place_decides c pattern_type ts i o e = absurd (cc)
place_decides c range_pattern ts i o e = absurd (cc)
place_decides c or_pattern ts i o e = absurd (cc)
place_decides c fn_ptr ts i o e = absurd (cc)
place_decides c unsafe_binder ts i o e = absurd (cc)
place_decides c dynamic ts i o e = absurd (cc)
place_decides c object ts i o e = absurd (cc)
place_decides c (signature x s k) ts zero o e = absurd (cc)
place_decides c (signature x s k) ts (suc i) o e = absurd (cc)
place_decides c inputs ts i o e = absurd (cc)
place_decides c (existential_trait d) ts i o e = absurd (cc)
place_decides c (existential_projection d) ts i o e = absurd (cc)
place_decides c h ts i o e = absurd o

tree_decides : (c : Items) (t : Tree) (i : ℕ) → IsByParts t → mode c (head_of t) i ≢ Bivariant
tree_decides c (node h ts) i o e = place_decides c h ts i o e
tree_decides c (leaf l) i o e = absurd (cc)
tree_decides c t i o e = absurd o

pub term_decides : (c : Items) (t : Tree) (i : ℕ) (v : Variance) → IsByParts t → v ≢ Bivariant →
    part_at c (head_of t) i v ≢ Bivariant
term_decides c t i v o n e = turned_decides v (mode c (head_of t) i) n (tree_decides c t i o) (sym (term_part_at c t i v o) ∙ e)

-- What is of one form with such a term is one too.
head_alike : (h : Head) (ts us : Tree) → IsByParts (node h ts) → IsByParts (node h us)
head_alike pattern_type ts us o = tt
head_alike range_pattern ts us o = tt
head_alike or_pattern ts us o = tt
head_alike fn_ptr ts us o = tt
head_alike unsafe_binder ts us o = tt
head_alike dynamic ts us o = tt
head_alike object ts us o = tt
head_alike (signature x s k) ts us o = tt
head_alike inputs ts us o = tt
head_alike (existential_trait d) ts us o = tt
head_alike (existential_projection d) ts us o = tt
head_alike h ts us o = absurd o

atom_alike : (x y : Atom) → plain_atom x ≡ plain_atom y → IsByParts (leaf (atom x)) → IsByParts (leaf (atom y))
atom_alike not_null_pattern not_null_pattern e o = tt
atom_alike not_null_pattern y e o = absurd (cc)
atom_alike (existential_auto c) (existential_auto d) e o = tt
atom_alike (existential_auto c) y e o = absurd (cc)
atom_alike x y e o = absurd o

pub term_alike : (a b : Tree) → AreOfOneForm a b → IsByParts a → IsByParts b
term_alike a b (over_parts {h} {ts} {us} d e n) o =
    subst IsByParts (sym e) (head_alike h ts us (subst IsByParts d o))
term_alike a b (over_aliases d e n) o = absurd (subst IsByParts d o)
term_alike a b (one_leaf d e) o = subst IsByParts (d ∙ sym e) o
term_alike a b (parameters {x} {y} d e p) o =
    subst IsByParts (sym e) (atom_alike x y p (subst IsByParts d o))

-- What is over binders, and what is of a pattern, is not first-order.
abbrev pub IsNeverFirst : Tree → Type 0
IsNeverFirst (node (signature x s k) ts) = ⊥
IsNeverFirst (node inputs ts) = ⊥
IsNeverFirst (node (existential_trait d) ts) = ⊥
IsNeverFirst (node (existential_projection d) ts) = ⊥
IsNeverFirst (leaf (atom (existential_auto d))) = ⊥
IsNeverFirst t = IsByParts t

pub term_not_first : (t : Tree) → IsNeverFirst t → IsFirstOrder t → ⊥
term_not_first (node pattern_type ts) o f = f.0
term_not_first (node range_pattern ts) o f = f.0
term_not_first (node or_pattern ts) o f = f.0
term_not_first (node fn_ptr ts) o f = f.0
term_not_first (node unsafe_binder ts) o f = f.0
term_not_first (node dynamic ts) o f = f.0
term_not_first (node object ts) o f = f.0
term_not_first (leaf (atom not_null_pattern)) o f = f
term_not_first t o f = o

-- The sorts whose terms are all of such forms.
abbrev pub IsFormSort : Sort → Type 0
IsFormSort pattern_sort = Unit {0}
IsFormSort signature_sort = Unit {0}
IsFormSort inputs_sort = Unit {0}
IsFormSort existential_sort = Unit {0}
IsFormSort object_sort = Unit {0}
IsFormSort s = ⊥

pub no_argument : (k j : Sort) → IsFormSort k → Admits argument_sort j → Admits k j → ⊥
no_argument pattern_sort pattern_sort o a h = a
no_argument pattern_sort j o a h = h
no_argument signature_sort signature_sort o a h = a
no_argument signature_sort j o a h = h
no_argument inputs_sort inputs_sort o a h = a
no_argument inputs_sort j o a h = h
no_argument existential_sort existential_sort o a h = a
no_argument existential_sort j o a h = h
no_argument object_sort object_sort o a h = a
no_argument object_sort j o a h = h
no_argument k j o a h = o

pub var_argument : (v : VarKind) → Admits argument_sort (var_sort v)
var_argument type_var = tt
var_argument int_var = tt
var_argument float_var = tt
var_argument const_var = tt
var_argument region_var = tt

pub bound_argument : (q : BoundKind) → Admits argument_sort (bound_sort q)
bound_argument (bound_kind region_kind n) = tt
bound_argument (bound_kind type_kind n) = tt
bound_argument (bound_kind const_kind n) = tt

no_unknown : (k : Sort) → IsFormSort k → Admits k no_sort → ⊥
no_unknown pattern_sort o h = h
no_unknown signature_sort o h = h
no_unknown inputs_sort o h = h
no_unknown existential_sort o h = h
no_unknown object_sort o h = h
no_unknown k o h = o

atom_is : (k : Sort) (x : Atom) → IsFormSort k → Admits k (atom_sort x) → IsByParts (leaf (atom x))
atom_is pattern_sort not_null_pattern o h = tt
atom_is pattern_sort x o h = absurd h
atom_is existential_sort (existential_auto d) o h = tt
atom_is existential_sort x o h = absurd h
atom_is signature_sort bool_type o h = absurd h
atom_is signature_sort x o h = absurd h
atom_is inputs_sort bool_type o h = absurd h
atom_is inputs_sort x o h = absurd h
atom_is object_sort bool_type o h = absurd h
atom_is object_sort x o h = absurd h
atom_is k x o h = absurd o

head_is : (k : Sort) (h : Head) (ts : Tree) → IsFormSort k → Admits k (head_sort h) → IsByParts (node h ts)
head_is pattern_sort range_pattern ts o f = tt
head_is pattern_sort or_pattern ts o f = tt
head_is pattern_sort h ts o f = absurd f
head_is signature_sort (signature x s k) ts o f = tt
head_is signature_sort h ts o f = absurd f
head_is inputs_sort inputs ts o f = tt
head_is inputs_sort h ts o f = absurd f
head_is existential_sort (existential_trait d) ts o f = tt
head_is existential_sort (existential_projection d) ts o f = tt
head_is existential_sort h ts o f = absurd f
head_is object_sort object ts o f = tt
head_is object_sort h ts o f = absurd f
head_is k h ts o f = absurd o

pub form_is : (k : Sort) (t : Tree) → IsFormSort k → IsTerm k t → IsByParts t
form_is k (leaf (variable v n)) o f = absurd (no_argument k (var_sort v) o (var_argument v) f)
form_is k (leaf (bound q d i)) o f = absurd (no_argument k (bound_sort q) o (bound_argument q) f)
form_is k (leaf (placeholder q u n)) o f = absurd (no_argument k (bound_sort q) o (bound_argument q) f)
form_is k (leaf (atom x)) o f = atom_is k x o f
form_is k (leaf unknown) o f = absurd (no_unknown k o f)
form_is k (node h ts) o f = head_is k h ts o f.0
form_is k (bind ks t) o f = absurd f
form_is k nil o f = absurd f
form_is k (cons t ts) o f = absurd f

-- Terms of one form have as many parts.
pub unlike_many : (a b ts us : Tree) (h : Head) → a ≡ node h ts → b ≡ node h us → (count ts ≡ count us → ⊥) →
    AreOfOneForm a b → ⊥
unlike_many a b ts us h p q differ (over_parts {h = k} {ts = xs} {us = ys} d e n) =
    let left : ts ≡ xs = (let z = sym p ∙ d in cc) in
    let right : us ≡ ys = (let z = sym q ∙ e in cc) in
    differ (ap count left ∙ n ∙ sym (ap count right))
unlike_many a b ts us h p q differ (over_aliases {ts = xs} {us = ys} d e n) =
    let left : ts ≡ xs = (let z = sym p ∙ d in cc) in
    let right : us ≡ ys = (let z = sym q ∙ e in cc) in
    differ (ap count left ∙ n ∙ sym (ap count right))
unlike_many a b ts us h p q differ (one_leaf d e) = absurd (let z = sym p ∙ d in cc)
unlike_many a b ts us h p q differ (parameters d e n) = absurd (let z = sym p ∙ d in cc)

module _ {Key Id Name : Type 0} (m : Meaning Key Id Name) where
  -- Of types it is these four forms alone.
  pub kind_not : (k : TyKind Key Id Name) → ((t : TyKey Key) (p : PatKey Key) → k ≡ TyPat t p → ⊥) →
      ((b : BinderOf Key (FnSigTys Key)) (h : FnHeader) → k ≡ FnPtr b h → ⊥) →
      ((b : BinderOf Key (TyKey Key)) → k ≡ UnsafeBinder b → ⊥) →
      ((ps : ExistentialPredicatesKey Key) (r : RegionKey Key) → k ≡ Dynamic ps r → ⊥) → IsByParts (kind_tree m k) → ⊥
  kind_not (TyPat t p) a b c d o = a t p refl
  kind_not (FnPtr s h) a b c d o = b s h refl
  kind_not (UnsafeBinder s) a b c d o = c s refl
  kind_not (Dynamic ps r) a b c d o = d ps r refl
  kind_not (Infer (TyVar v)) a b c d o = o
  kind_not (Infer (IntVar v)) a b c d o = o
  kind_not (Infer (FloatVar v)) a b c d o = o
  kind_not (Infer (FreshTy n)) a b c d o = o
  kind_not (Infer (FreshIntTy n)) a b c d o = o
  kind_not (Infer (FreshFloatTy n)) a b c d o = o
  kind_not k a b c d o = o

-- What such a part is a term of.
under_not : (ks : Option (List BoundKind)) (t : Tree) → IsByParts (under ks t) → ⊥
under_not (Some ks) t o = o
under_not None t o = o

module _ {Key Id Name : Type 0} (m : Meaning Key Id Name) (sorted : Sorted m) where
  pub part_sorted : (p : Part Key Id) → IsTrue (known (part_tree m p)) → IsByParts (part_tree m p) →
      IsTerm (part_sort p) (part_tree m p)
  part_sorted (Region r) k o = sorted.region r k
  part_sorted (Ty t) k o = sorted.ty t k
  part_sorted (Const c) k o = sorted.const_ c k
  part_sorted (ValTree v) k o = sorted.valtree v k
  part_sorted (Pat p) k o = sorted.pat p k
  part_sorted (ValueType t) k o = absurd o
  part_sorted (Binder vs b) k o = absurd (under_not (m.bound_vars vs) (body_tree m b) o)
  part_sorted (Signature g) k o = signature_sorted m sorted g k
  part_sorted (Inputs t) k o = (tt, front_terms type_sort (m.tys t) k (sorted.tys t (front_known (m.tys t) k)))
  part_sorted (Existential p) k o = existential_sorted m sorted p k
  part_sorted (Object p) k o = (tt, sorted.existential_predicates p k)

  existential_is : (p : ExistentialPredicate Key Id) → IsByParts (existential_tree m p)
  existential_is (Trait p) = tt
  existential_is (Projection p) = tt
  existential_is (AutoTrait d) = tt

  -- What is compared is related by its parts.
  pub compared_is : (p : Part Key Id) → IsComparedPart p → IsTrue (known (part_tree m p)) →
      IsByParts (part_tree m p)
  compared_is (Pat p) c k = form_is pattern_sort (m.pat p) tt (sorted.pat p k)
  compared_is (Signature g) c k = tt
  compared_is (Inputs t) c k = tt
  compared_is (Existential p) c k = existential_is p
  compared_is (Object p) c k = tt
  compared_is p c k = absurd c
