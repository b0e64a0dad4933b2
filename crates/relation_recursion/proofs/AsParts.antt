-- The parts that are related of types and constants, among those of terms of any sort: they are generic arguments.
use Rattle.std.proofs.Common.{◌≡◌, ℕ, ◌<◌, refl, sym, subst, subst₂, IsTrue, Option, Some, None}
use Rattle.std.proofs.Common.{List, [], ◌∷◌, map}
use Rattle.relation_terms.specs.Heads.{Sort, type_sort, const_sort, value_sort, argument_sort, Admits, head_sort}
use Rattle.relation_terms.specs.Heads.{Part, term_of, binder_of, Shape, one, row, head_parts}
use Rattle.relation_terms.specs.Heads.{Head, adt, fn_def, closure, coroutine_closure, coroutine, coroutine_witness}
use Rattle.relation_terms.specs.Heads.{alias, array, slice, pattern_type, tuple, raw_ptr, ref, unevaluated}
use Rattle.relation_terms.specs.Heads.{expression, value, unsafe_binder, dynamic, fn_ptr}
use Rattle.relation_terms.specs.Heads.{value_branch}
use Rattle.relation_terms.specs.Trees.{Tree, leaf, node, bind, nil, cons, known, list_tree, count, nth, Fits, IsTerm, AreTerms}
use Rattle.relation_terms.specs.Meaning.{Meaning, arg_tree, const_tree}
use Rattle.relation_terms.specs.Parts.{AreArgs, part_tree, part_sort, part_of_arg, tree_sort}
use Rattle.relation_terms.specs.Parts.{parts_of as list_of_parts, over as term_over, Fit}
use Rattle.relation_terms.specs.declared.terms.part_kind.Part.{Part as TermPart}
use Rattle.relation_terms.specs.declared.terms.generic_arg.GenericArgKind.{GenericArgKind}
use Rattle.relation_terms.specs.declared.terms.generic_arg.GenericArgKind.TheVariants.{Lifetime, Ty, Const}
use Rattle.relation_terms.specs.declared.terms.keys.TyKey.{TyKey}
use Rattle.relation_terms.specs.declared.terms.keys.ValTreeKey.{ValTreeKey}
use Rattle.relation_terms.specs.declared.terms.const_kind.ConstKind.{ConstKind}
use Rattle.relation_terms.specs.declared.terms.const_kind.ConstKind.TheVariants.{Infer}
use Rattle.relation_terms.specs.declared.terms.const_kind.ConstKind.TheVariants.{Value}
use Rattle.relation_terms.specs.declared.terms.const_kind.InferConst.TheVariants.{Var, Fresh}
use Rattle.relation_terms.specs.Interning.{Sorted}
use Rattle.relation_terms.proofs.Sorted.{widen, region_admitted, type_admitted, const_admitted}
use Rattle.relation_terms.proofs.Members.{fit_args, mapped, region_term, type_term, const_term, term_nth}
use Rattle.relation_terms.proofs.Parts.{sort_known, arg_part}
use Rattle.relation_semantics.specs.Parts.{direct_parts, branches_of, const_parts_of, IsByParts}
use Rattle.relation_semantics.specs.Making.{arg_sort, FitArgs, form_over, const_over}
use Rattle.relation_recursion.proofs.Compared.{value_shape}
use Rattle.relation_terms.specs.Meaning.{value_tree}

-- Parts that are arguments, as a form asks for them.
abbrev IsArgument : Part → Type 0
IsArgument (term_of s) = (x : Sort) → Admits s x → Admits argument_sort x
IsArgument (binder_of s) = ⊥

abbrev AreArguments : List Part → Option Part → Type 0
AreArguments [] None = Unit {0}
AreArguments [] (Some p) = IsArgument p
AreArguments (p ∷ ps) r = IsArgument p × AreArguments ps r

row_arguments : (ps : List Part) (r : Option Part) (ts : Tree) → AreArguments ps r → Fits (row ps r) ts →
    AreTerms argument_sort ts
row_arguments [] None nil a f = tt
row_arguments [] (Some (term_of s)) nil a f = tt
row_arguments [] (Some (term_of s)) (cons t ts) a f =
    (widen s argument_sort a t f.0, row_arguments [] (Some (term_of s)) ts a f.1)
row_arguments (term_of s ∷ ps) r (cons t ts) a f = (widen s argument_sort a.0 t f.0, row_arguments ps r ts a.1 f.1)
row_arguments [] (Some (binder_of s)) ts a f = absurd a
row_arguments (binder_of s ∷ ps) r ts a f = absurd a.0
row_arguments ps r ts a f = absurd f

abbrev HasArguments : Shape → Type 0
HasArguments (one p) = ⊥
HasArguments (row ps r) = AreArguments ps r

shape_arguments : (x : Shape) (ts : Tree) → HasArguments x → Fits x ts → AreTerms argument_sort ts
shape_arguments (one p) ts a f = absurd a
shape_arguments (row ps r) ts a f = row_arguments ps r ts a f

-- Types are over arguments, but for those that are related by their parts.
type_head_arguments : (h : Head) (ts : Tree) → (IsByParts (node h ts) → ⊥) → Admits type_sort (head_sort h) →
    HasArguments (head_parts h)
type_head_arguments (adt d) ts n a = λ x h. h
type_head_arguments (fn_def d) ts n a = λ x h. h
type_head_arguments (closure d) ts n a = λ x h. h
type_head_arguments (coroutine_closure d) ts n a = λ x h. h
type_head_arguments (coroutine d) ts n a = λ x h. h
type_head_arguments (coroutine_witness d) ts n a = λ x h. h
type_head_arguments (alias k d) ts n a = λ x h. h
type_head_arguments array ts n a = (type_admitted, (const_admitted, tt))
type_head_arguments slice ts n a = (type_admitted, tt)
type_head_arguments pattern_type ts n a = absurd (n tt)
type_head_arguments tuple ts n a = type_admitted
type_head_arguments unsafe_binder ts n a = absurd (n tt)
type_head_arguments dynamic ts n a = absurd (n tt)
type_head_arguments fn_ptr ts n a = absurd (n tt)
type_head_arguments (raw_ptr u) ts n a = (type_admitted, tt)
type_head_arguments (ref u) ts n a = (region_admitted, (type_admitted, tt))
type_head_arguments h ts n a = absurd a

ty_arguments : (t : Tree) → IsTerm type_sort t → (IsByParts t → ⊥) → AreTerms argument_sort (direct_parts t)
ty_arguments (node h ts) f n = shape_arguments (head_parts h) ts (type_head_arguments h ts n f.0) f.1
ty_arguments t f n = tt

branch_arguments : (v : Tree) → IsTerm value_sort v → AreTerms argument_sort (branches_of v)
branch_arguments (node value_branch ts) f = row_arguments [] (Some (term_of const_sort)) ts const_admitted f.1
branch_arguments v f = tt

const_arguments : (c : Tree) → IsTerm const_sort c → AreTerms argument_sort (const_parts_of c)
const_arguments (node (unevaluated d) ts) f = f.1
const_arguments (node (expression k) ts) f = f.1
const_arguments (node value ts) f =
    let (t, v, e, h) = value_shape ts f.1 in
    subst (λ z. AreTerms argument_sort (const_parts_of (node value z))) (sym e) (branch_arguments v h)
const_arguments c f = tt

pub ty_argument : (t : Tree) (i : ℕ) → i < count (direct_parts t) → IsTerm type_sort t → (IsByParts t → ⊥) →
    IsTerm argument_sort (nth i (direct_parts t))
ty_argument t i l f n = term_nth argument_sort (direct_parts t) i l (ty_arguments t f n)

pub const_argument : (c : Tree) (i : ℕ) → i < count (const_parts_of c) → IsTerm const_sort c →
    IsTerm argument_sort (nth i (const_parts_of c))
const_argument c i l f = term_nth argument_sort (const_parts_of c) i l (const_arguments c f)

-- No term is a binder, so all its parts are.
pub parts_as : (s : Sort) (t : Tree) → IsTerm s t → list_of_parts t ≡ direct_parts t
parts_as s (bind ks t) f = absurd f
parts_as s (node h ts) f = refl
parts_as s t f = refl

pub over_as : (s : Sort) (t us : Tree) → IsTerm s t → term_over t us ≡ form_over t us
over_as s (bind ks t) us f = absurd f
over_as s (node h ts) us f = refl
over_as s t us f = refl

-- A value's value tree.
pub branches_as : (v : Tree) → IsTerm value_sort v → list_of_parts v ≡ branches_of v
branches_as (node value_branch ts) f = refl
branches_as (node h ts) f = absurd f.0
branches_as (bind ks t) f = absurd f
branches_as v f = refl

pub value_over : (t v us : Tree) → IsTerm value_sort v → value_tree t (term_over v us) ≡ const_over (value_tree t v) us
value_over t (node value_branch ts) us f = refl
value_over t (node h ts) us f = absurd f.0
value_over t (bind ks v) us f = absurd f
value_over t v us f = refl

module _ {Key Id Name : Type 0} (m : Meaning Key Id Name) where
  -- The parts of a constant that is no value are all related.
  pub const_parts_as : (k : ConstKind Key Id Name) → ((t : TyKey Key) (v : ValTreeKey Key) → k ≡ Value t v → ⊥) →
      list_of_parts (const_tree m k) ≡ const_parts_of (const_tree m k)
  const_parts_as (Value t v) n = absurd (n t v refl)
  const_parts_as (Infer (Var v)) n = refl
  const_parts_as (Infer (Fresh i)) n = refl
  const_parts_as k n = refl

  pub const_over_as : (k : ConstKind Key Id Name) (us : Tree) →
      ((t : TyKey Key) (v : ValTreeKey Key) → k ≡ Value t v → ⊥) →
      term_over (const_tree m k) us ≡ const_over (const_tree m k) us
  const_over_as (Value t v) us n = absurd (n t v refl)
  const_over_as (Infer (Var v)) us n = refl
  const_over_as (Infer (Fresh i)) us n = refl
  const_over_as k us n = refl

  -- A part that may be an argument is one.
  pub is_arg : Sorted m → (p : TermPart Key Id) → IsTrue (known (part_tree m p)) →
      IsTerm argument_sort (part_tree m p) → AreArgs (p ∷ [])
  is_arg s p k f = fit_args (p ∷ []) (cons (part_tree m p) nil) (sym (sort_known m s p k), tt) (f, tt)

-- Arguments as parts.
pub args_as : {Key Id Name : Type 0} (m : Meaning Key Id Name) (xs : List (GenericArgKind Key))
    (ps : List (TermPart Key Id)) → ps ≡ map part_of_arg xs → list_tree (part_tree m) ps ≡ list_tree (arg_tree m) xs
args_as m xs ps e = sym (mapped (arg_tree m) (part_tree m) (λ a. part_of_arg a) (arg_part m) xs ps (sym e))

module _ {Key : Type 0} (Id : Type 0) where
  fit_sort : (x : GenericArgKind Key) (t : Tree) → IsTerm (arg_sort x) t →
      part_sort {Id = Id} (part_of_arg x) ≡ tree_sort t
  fit_sort (Lifetime r) t f = sym (region_term t f)
  fit_sort (Ty k) t f = sym (type_term t f)
  fit_sort (Const c) t f = sym (const_term t f)

  fit_mapped : (xs : List (GenericArgKind Key)) (ts : Tree) → FitArgs xs ts → Fit {Id = Id} (map part_of_arg xs) ts
  fit_mapped [] nil f = tt
  fit_mapped (x ∷ xs) (cons t ts) f = (fit_sort x t f.0, fit_mapped xs ts f.1)
  fit_mapped [] (cons t ts) f = absurd f
  fit_mapped [] (leaf l) f = absurd f
  fit_mapped [] (node h ts) f = absurd f
  fit_mapped [] (bind ks t) f = absurd f
  fit_mapped (x ∷ xs) nil f = absurd f
  fit_mapped (x ∷ xs) (leaf l) f = absurd f
  fit_mapped (x ∷ xs) (node h ts) f = absurd f
  fit_mapped (x ∷ xs) (bind ks t) f = absurd f

-- Arguments that fit the parts that are related fit, as parts, those of the term that these are of.
pub fits_as : {Key Id : Type 0} (xs : List (GenericArgKind Key)) (ps : List (TermPart Key Id)) (ts us : Tree) →
    ps ≡ map part_of_arg xs → us ≡ ts → FitArgs xs ts → Fit ps us
fits_as {Id} xs ps ts us e q f = subst₂ Fit (sym e) (sym q) (fit_mapped Id xs ts f)
