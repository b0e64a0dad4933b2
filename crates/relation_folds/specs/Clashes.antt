-- When two terms are told apart at once, within a depth, without relating anything.
use Rattle.std.specs.Prelude.{◌≡◌, ℕ, suc, Bool, true, false, not, ◌||◌, Option, Some, None}
use Rattle.term_enums.specs.declared.Mutability.{Mutability}
use Rattle.term_enums.specs.declared.Mutability.TheVariants.{Not, Mut}
use Rattle.term_enums.specs.declared.FnHeader.{FnHeader}
use Rattle.relation_terms.specs.Heads.{Sort, type_sort, const_sort, value_sort, signature_sort, inputs_sort, binder_sort}
use Rattle.relation_terms.specs.Heads.{Atom, type_error, int_type, uint_type, float_type, type_param, const_error}
use Rattle.relation_terms.specs.Heads.{early_region, const_param, fresh_type, fresh_int, fresh_float, fresh_const}
use Rattle.relation_terms.specs.Heads.{Head, adt, fn_def, closure, coroutine_closure, coroutine, coroutine_witness}
use Rattle.relation_terms.specs.Heads.{array, slice, pattern_type, tuple, unsafe_binder, dynamic, fn_ptr, raw_ptr, ref}
use Rattle.relation_terms.specs.Heads.{alias, signature, inputs, unevaluated, expression, value, value_branch, object}
use Rattle.relation_terms.specs.Heads.{existential_trait, int_var, float_var}
use Rattle.relation_terms.specs.Heads.{variable, bound, atom}
use Rattle.relation_terms.specs.Trees.{Tree, leaf, node, bind, cons, count}
use Rattle.relation_terms.specs.Parts.{parts_of, tree_sort}
use Rattle.relation_folds.specs.Visits.{is_rigid}
use Rattle.relation_folds.specs.Forms.{Form, Outline, Adt, FnDef, Closure, CoroutineClosure, Coroutine}
use Rattle.relation_folds.specs.Forms.{CoroutineWitness, Array, Slice, Pat, ConstPtr, MutPtr, SharedRef, MutRef, Tuple}
use Rattle.relation_folds.specs.Forms.{FnPtr, UnsafeBinder, Dynamic, Alias, Value, Branch}

-- Atoms that may stand for others: stand-ins for variables, errors, and parameters where they may (`params`).
abbrev pub flexible_atom : Bool → Atom → Bool
flexible_atom params (type_param i n) = params
flexible_atom params (const_param i n) = params
flexible_atom params (early_region i n) = params
flexible_atom params type_error = true
flexible_atom params const_error = true
flexible_atom params (fresh_type n) = true
flexible_atom params (fresh_int n) = true
flexible_atom params (fresh_float n) = true
flexible_atom params (fresh_const n) = true
flexible_atom params x = false

-- Terms that may stand for others: inference and bound variables, aliases, errors, constants that are not evaluated or
-- expressions, and parameters where they may.
abbrev pub flexible : Bool → Tree → Bool
flexible params (leaf (variable k n)) = true
flexible params (leaf (bound k d i)) = true
flexible params (leaf (atom x)) = flexible_atom params x
flexible params (node (alias k d) ts) = true
flexible params (node (unevaluated d) ts) = true
flexible params (node (expression k) ts) = true
flexible params t = false

-- Integer types, and float types.
abbrev pub is_integral : Tree → Bool
is_integral (leaf (atom (int_type w))) = true
is_integral (leaf (atom (uint_type w))) = true
is_integral t = false

abbrev pub is_floating_point : Tree → Bool
is_floating_point (leaf (atom (float_type w))) = true
is_floating_point t = false

-- The first type, if it is an integer or a float variable, may stand for the second: for a type of its sort of numbers,
-- or one of which it is not known what it is.
abbrev pub may_stand : Tree → Tree → Bool
may_stand (leaf (variable int_var n)) t = not (is_rigid t) || is_integral t
may_stand (leaf (variable float_var n)) t = not (is_rigid t) || is_floating_point t
may_stand v t = true

-- The outline of a form: of one alone, of one over an item, of a trait object by its principal, of one with so many
-- parts.
abbrev pub plain : {D : Type 0} → Form → Outline D
plain f = record { form = f; item = None; header = None; parts = 0 }

abbrev pub of_item : {D : Type 0} → Form → D → Outline D
of_item f d = record { form = f; item = Some d; header = None; parts = 0 }

abbrev pub of_object : {D : Type 0} → Option D → Outline D
of_object p = record { form = Dynamic; item = p; header = None; parts = 0 }

abbrev pub counted : {D : Type 0} → Form → ℕ → Outline D
counted f n = record { form = f; item = None; header = None; parts = n }

-- Pointers by whether they may change what they lead to.
abbrev pub pointer_form : Mutability → Form
pointer_form Not = ConstPtr
pointer_form Mut = MutPtr

abbrev pub reference_form : Mutability → Form
reference_form Not = SharedRef
reference_form Mut = MutRef

-- The id of the first trait among the predicates of a trait object, where there is one.
abbrev pub principal : Tree → Option ℕ
principal (cons (bind ks (node (existential_trait d) ts)) ps) = Some d
principal (cons p ps) = principal ps
principal ps = None

-- The header of a function pointer's signature, and how many inputs it has.
abbrev pub header_of : Tree → Option FnHeader
header_of (cons (bind ks (node (signature v s a) us)) vs) = Some (record { c_variadic = v; safety = s; abi = a })
header_of ts = None

abbrev pub inputs_count : Tree → ℕ
inputs_count (cons (bind ks (node (signature v s a) (cons (node inputs is) us))) vs) = count is
inputs_count ts = 0

-- The principal of a trait object.
abbrev pub object_principal : Tree → Option ℕ
object_principal (cons (node object ps) us) = principal ps
object_principal ts = None

-- What is compared of a form over parts besides the parts: which form it is, of which item; of tuples and branches how
-- many there are; the header and the count of inputs of a function pointer; the principal of a trait object.
abbrev pub outline : Head → Tree → Outline ℕ
outline (adt d) ts = of_item Adt d
outline (fn_def d) ts = of_item FnDef d
outline (closure d) ts = of_item Closure d
outline (coroutine_closure d) ts = of_item CoroutineClosure d
outline (coroutine d) ts = of_item Coroutine d
outline (coroutine_witness d) ts = of_item CoroutineWitness d
outline array ts = plain Array
outline slice ts = plain Slice
outline pattern_type ts = plain Pat
outline (raw_ptr m) ts = plain (pointer_form m)
outline (ref m) ts = plain (reference_form m)
outline tuple ts = counted Tuple (count ts)
outline fn_ptr ts = record { form = FnPtr; item = None; header = header_of ts; parts = inputs_count ts }
outline unsafe_binder ts = plain UnsafeBinder
outline dynamic ts = of_object (object_principal ts)
outline value ts = plain Value
outline value_branch ts = counted Branch (count ts)
outline h ts = plain Alias

-- Two forms over parts that have one outline, or one term without parts.
abbrev pub OneOutline : Tree → Tree → Type 0
OneOutline (node h ts) (node g us) = outline h ts ≡ outline g us
OneOutline a b = a ≡ b

-- Neither of two terms may stand for others, parameters on the left where `l`, on the right where `r`.
abbrev pub AreRigid : Bool → Bool → Tree → Tree → Type 0
AreRigid l r a b = (flexible l a ≡ false) × (flexible r b ≡ false)

-- Both terms are of a sort.
abbrev pub AreOf : Sort → Tree → Tree → Type 0
AreOf s a b = (tree_sort a ≡ s) × (tree_sort b ≡ s)

-- Constants and value trees: to go into these takes nothing from a depth.
abbrev pub is_const_sort : Sort → Bool
is_const_sort const_sort = true
is_const_sort value_sort = true
is_const_sort s = false

-- What stands between a function pointer or an unsafe binder and its types: binders, signatures, inputs.
abbrev pub is_between : Sort → Bool
is_between (binder_sort s) = true
is_between signature_sort = true
is_between inputs_sort = true
is_between s = false

-- The depth that is left inside a type: behind an unsafe binder it begins again.
abbrev pub depth_inside : Tree → ℕ → ℕ
depth_inside (node unsafe_binder ts) d = 8
depth_inside t d = d

-- Two terms clash within a depth: a path leads from them, through paired parts of like forms, to two that do. Each type
-- on the path takes one from the depth. Parameters may stand for others on the left where `l`, on the right where `r`.
pub data Clash (l r : Bool) : ℕ → Tree → Tree → Type 0 where
  -- two types of unlike forms of which neither may stand for others, with depth left
  unlike_types : {d : ℕ} {a b : Tree} → AreOf type_sort a b → AreRigid l r a b → (OneOutline a b → ⊥) →
      Clash l r (suc d) a b
  -- an integer or a float variable and a type known to be no such number: on the left with depth left, on the right
  -- always
  left_number : {d : ℕ} {a b : Tree} → AreOf type_sort a b → may_stand a b ≡ false → Clash l r (suc d) a b
  right_number : {d : ℕ} {a b : Tree} → AreOf type_sort a b → may_stand b a ≡ false → Clash l r d a b
  -- two constants, or what they are made of, of unlike forms
  unlike_consts : {d : ℕ} {a b : Tree} {s : Sort} → is_const_sort s ≡ true → AreOf s a b → AreRigid l r a b →
      (OneOutline a b → ⊥) → Clash l r d a b
  -- through the parts of two types of like forms, and of two constants
  in_types : {d : ℕ} {a b : Tree} → AreOf type_sort a b → AreRigid l r a b → OneOutline a b →
      Clash l r (depth_inside a d) (parts_of a) (parts_of b) → Clash l r (suc d) a b
  in_consts : {d : ℕ} {a b : Tree} {s : Sort} → is_const_sort s ≡ true → AreOf s a b → AreRigid l r a b →
      OneOutline a b → Clash l r d (parts_of a) (parts_of b) → Clash l r d a b
  -- through a binder, a signature, its inputs
  between : {d : ℕ} {a b : Tree} → is_between (tree_sort a) ≡ true → Clash l r d (parts_of a) (parts_of b) →
      Clash l r d a b
  -- in a list, at the first place or further on
  here : {d : ℕ} {a b xs ys : Tree} → Clash l r d a b → Clash l r d (cons a xs) (cons b ys)
  further : {d : ℕ} {a b xs ys : Tree} → Clash l r d xs ys → Clash l r d (cons a xs) (cons b ys)
