-- The keys of types: what the outermost form of a type tells.
use Rattle.std.specs.Prelude.{ℕ, Bool, not, ◌||◌, cond, Option, Some, None}
use Rattle.relation_terms.specs.Heads.{Atom, bool_type, char_type, str_type, never_type, type_error, int_type, uint_type}
use Rattle.relation_terms.specs.Heads.{float_type, foreign, type_param}
use Rattle.relation_terms.specs.Heads.{adt, fn_def, closure, coroutine_closure, coroutine, coroutine_witness}
use Rattle.relation_terms.specs.Heads.{array, slice, pattern_type, tuple, unsafe_binder, dynamic, fn_ptr, raw_ptr, ref}
use Rattle.relation_terms.specs.Heads.{alias, placeholder, atom}
use Rattle.relation_terms.specs.Trees.{Tree, leaf, node, cons, count}
use Rattle.relation_terms.specs.Meaning.{Meaning}
use Rattle.relation_terms.specs.declared.terms.keys.ExistentialPredicatesKey.{ExistentialPredicatesKey}
use Rattle.relation_terms.specs.declared.terms.keys.TyKey.{TyKey}
use Rattle.relation_folds.specs.Visits.{non_region_infer_stands}
use Rattle.relation_folds.specs.Clashes.{inputs_count, object_principal, principal}
use Rattle.fast_reject.specs.declared.simplify.TreatParams.{TreatParams}
use Rattle.fast_reject.specs.declared.simplify.TreatParams.TheVariants.{AsRigid, InstantiateWithInfer}
use Rattle.fast_reject.specs.declared.simplify.SimplifiedType.{SimplifiedType}
use Rattle.fast_reject.specs.declared.simplify.SimplifiedType.TheVariants.{Bool as BoolKey, Char, Int, Uint}
use Rattle.fast_reject.specs.declared.simplify.SimplifiedType.TheVariants.{Float, Adt, Foreign, Str, Array}
use Rattle.fast_reject.specs.declared.simplify.SimplifiedType.TheVariants.{Slice, Ref, Ptr, Never, Tuple}
use Rattle.fast_reject.specs.declared.simplify.SimplifiedType.TheVariants.{MarkerTraitObject, Trait}
use Rattle.fast_reject.specs.declared.simplify.SimplifiedType.TheVariants.{Closure, Coroutine}
use Rattle.fast_reject.specs.declared.simplify.SimplifiedType.TheVariants.{CoroutineWitness, Function}
use Rattle.fast_reject.specs.declared.simplify.SimplifiedType.TheVariants.{UnsafeBinder, Placeholder, Error}

-- The item that a key names.
abbrev pub key_def : {D : Type 0} → SimplifiedType D → Option D
key_def (Adt d) = Some d
key_def (Foreign d) = Some d
key_def (Trait d) = Some d
key_def (Closure d) = Some d
key_def (Coroutine d) = Some d
key_def (CoroutineWitness d) = Some d
key_def k = None

-- The key with the number of its item.
abbrev pub numbered : {D : Type 0} → (D → ℕ) → SimplifiedType D → SimplifiedType ℕ
numbered number BoolKey = BoolKey
numbered number Char = Char
numbered number (Int w) = Int w
numbered number (Uint w) = Uint w
numbered number (Float w) = Float w
numbered number (Adt d) = Adt (number d)
numbered number (Foreign d) = Foreign (number d)
numbered number Str = Str
numbered number Array = Array
numbered number Slice = Slice
numbered number (Ref m) = Ref m
numbered number (Ptr m) = Ptr m
numbered number Never = Never
numbered number (Tuple n) = Tuple n
numbered number MarkerTraitObject = MarkerTraitObject
numbered number (Trait d) = Trait (number d)
numbered number (Closure d) = Closure (number d)
numbered number (Coroutine d) = Coroutine (number d)
numbered number (CoroutineWitness d) = CoroutineWitness (number d)
numbered number (Function n) = Function n
numbered number UnsafeBinder = UnsafeBinder
numbered number Placeholder = Placeholder
numbered number Error = Error

abbrev pub numbered_key : {D : Type 0} → (D → ℕ) → Option (SimplifiedType D) → Option (SimplifiedType ℕ)
numbered_key number None = None
numbered_key number (Some k) = Some (numbered number k)

-- A parameter has the key of a placeholder, or none.
abbrev pub param_key : {D : Type 0} → TreatParams → Option (SimplifiedType D)
param_key AsRigid = Some Placeholder
param_key InstantiateWithInfer = None

-- An alias has that of a parameter, if nothing in it can be inferred any more (`stands` is false) or the solver says
-- so.
abbrev pub alias_key : {D : Type 0} → TreatParams → Bool → Bool → Option (SimplifiedType D)
alias_key treat solver stands = cond (not stands || solver) (param_key treat) None

-- A trait object has its principal's, which is no auto trait.
abbrev pub object_key : (ℕ → Bool) → Option ℕ → SimplifiedType ℕ
object_key autos (Some d) = cond (autos d) MarkerTraitObject (Trait d)
object_key autos None = MarkerTraitObject

-- The key of an atom.
abbrev pub atom_key : TreatParams → Atom → Option (SimplifiedType ℕ)
atom_key treat bool_type = Some BoolKey
atom_key treat char_type = Some Char
atom_key treat str_type = Some Str
atom_key treat never_type = Some Never
atom_key treat type_error = Some Error
atom_key treat (int_type w) = Some (Int w)
atom_key treat (uint_type w) = Some (Uint w)
atom_key treat (float_type w) = Some (Float w)
atom_key treat (foreign d) = Some (Foreign d)
atom_key treat (type_param i n) = param_key treat
atom_key treat x = None

-- The key of a type but for a pattern type, by its outermost form. `autos` says which traits are auto traits.
abbrev pub form_key : (ℕ → Bool) → Bool → TreatParams → Tree → Option (SimplifiedType ℕ)
form_key autos solver treat (leaf (atom x)) = atom_key treat x
form_key autos solver treat (leaf (placeholder k u n)) = Some Placeholder
form_key autos solver treat (node (adt d) ts) = Some (Adt d)
form_key autos solver treat (node array ts) = Some Array
form_key autos solver treat (node slice ts) = Some Slice
form_key autos solver treat (node (raw_ptr m) ts) = Some (Ptr m)
form_key autos solver treat (node (ref m) ts) = Some (Ref m)
form_key autos solver treat (node tuple ts) = Some (Tuple (count ts))
form_key autos solver treat (node (fn_def d) ts) = Some (Closure d)
form_key autos solver treat (node (closure d) ts) = Some (Closure d)
form_key autos solver treat (node (coroutine_closure d) ts) = Some (Closure d)
form_key autos solver treat (node (coroutine d) ts) = Some (Coroutine d)
form_key autos solver treat (node (coroutine_witness d) ts) = Some (CoroutineWitness d)
form_key autos solver treat (node dynamic ts) = Some (object_key autos (object_principal ts))
form_key autos solver treat (node fn_ptr ts) = Some (Function (inputs_count ts))
form_key autos solver treat (node unsafe_binder ts) = Some UnsafeBinder
form_key autos solver treat (node (alias k d) ts) =
    alias_key treat solver (non_region_infer_stands (node (alias k d) ts))
form_key autos solver treat t = None

-- The key of a type. A pattern type has its base type's.
abbrev pub head_key : (ℕ → Bool) → Bool → TreatParams → Tree → Option (SimplifiedType ℕ)
head_key autos solver treat (node pattern_type (cons t us)) = head_key autos solver treat t
head_key autos solver treat t = form_key autos solver treat t

module _ {Key Id Name : Type 0} (m : Meaning Key Id Name) where
  -- The key of a known type.
  abbrev pub type_key : TreatParams → TyKey Key → Option (SimplifiedType ℕ)
  type_key treat t = head_key (m.tables).is_auto (m.tables).next_solver treat (m.ty t)

  -- The principal of a known list of a trait object's predicates.
  abbrev pub principal_of : ExistentialPredicatesKey Key → Option ℕ
  principal_of ps = principal (m.existential_predicates ps)

-- The type that a pattern type is of, under all its patterns; of any other type the type itself.
abbrev pub plain_type : Tree → Tree
plain_type (node pattern_type (cons t us)) = plain_type t
plain_type t = t
