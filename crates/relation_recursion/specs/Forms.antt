-- What is compared of types besides their parts.
use Rattle.std.specs.Prelude.{◌≡◌, ℕ, Option, Some, None}
use Rattle.term_enums.specs.declared.Mutability.{Mutability}
use Rattle.term_enums.specs.declared.Mutability.TheVariants.{Not}
use Rattle.relation_terms.specs.Heads.{Head, adt, fn_def, closure, coroutine_closure, coroutine, coroutine_witness}
use Rattle.relation_terms.specs.Heads.{array, slice, pattern_type, tuple, unsafe_binder, dynamic, fn_ptr, raw_ptr, ref}
use Rattle.relation_terms.specs.Heads.{alias}
use Rattle.relation_terms.specs.Trees.{Tree, node}
use Rattle.relation_folds.specs.Outlines.{id_number}
use Rattle.relation_folds.specs.declared.error.TypeError.{TypeError}
use Rattle.relation_folds.specs.declared.error.TypeError.TheVariants.{ProjectionMismatched}
use Rattle.relation_recursion.specs.declared.forms.Outline.{Outline}
use Rattle.relation_recursion.specs.declared.forms.Form.{Form}
use Rattle.relation_recursion.specs.declared.forms.Form.TheVariants.{Leaf, Adt, FnDef, Closure, CoroutineClosure}
use Rattle.relation_recursion.specs.declared.forms.Form.TheVariants.{Coroutine, CoroutineWitness, Array, Slice, Pat}
use Rattle.relation_recursion.specs.declared.forms.Form.TheVariants.{RawPtr, Ref, Tuple, FnPtr, UnsafeBinder, Dynamic}
use Rattle.relation_recursion.specs.declared.forms.Form.TheVariants.{Alias}

-- The outline of a pointer, of a form without mutability, and of one over an item.
abbrev pub of_pointer : {D : Type 0} → Form → Mutability → Outline D
of_pointer form u = record { form = form; item = None; mutability = u }

abbrev pub form_alone : {D : Type 0} → Form → Outline D
form_alone form = of_pointer form Not

abbrev pub of_item : {D : Type 0} → Form → D → Outline D
of_item form d = record { form = form; item = Some d; mutability = Not }

-- Two are one item, by their numbers, or there is none of both.
abbrev pub IsOneItem : {D : Type 0} → (D → ℕ) → Option D → Option D → Type 0
IsOneItem number i j = id_number number i ≡ id_number number j

-- The outline with the number of its item.
abbrev pub named_outline : {D : Type 0} → (D → ℕ) → Outline D → Outline ℕ
named_outline number o = record { form = o.form; item = id_number number o.item; mutability = o.mutability }

-- The outline of a form over parts. What is no type has none.
abbrev pub head_outline : Head → Outline ℕ
head_outline (adt d) = of_item Adt d
head_outline (fn_def d) = of_item FnDef d
head_outline (closure d) = of_item Closure d
head_outline (coroutine_closure d) = of_item CoroutineClosure d
head_outline (coroutine d) = of_item Coroutine d
head_outline (coroutine_witness d) = of_item CoroutineWitness d
head_outline array = form_alone Array
head_outline slice = form_alone Slice
head_outline pattern_type = form_alone Pat
head_outline tuple = form_alone Tuple
head_outline unsafe_binder = form_alone UnsafeBinder
head_outline dynamic = form_alone Dynamic
head_outline fn_ptr = form_alone FnPtr
head_outline (raw_ptr u) = of_pointer RawPtr u
head_outline (ref u) = of_pointer Ref u
head_outline (alias k d) = of_item Alias d
head_outline h = form_alone Leaf

-- The outline of a type.
abbrev pub tree_outline : Tree → Outline ℕ
tree_outline (node h ts) = head_outline h
tree_outline t = form_alone Leaf

-- The error of two aliases of unlike items names both.
abbrev pub NamesItems : {Key Id Name : Type 0} → Outline Id → Outline Id → TypeError Key Id Name → Type 0
NamesItems {Key} {Id} o p e = (i j : Id) → o.form ≡ Alias → o.item ≡ Some i → p.item ≡ Some j →
    e ≡ ProjectionMismatched (record { expected = i; found = j })

-- A form of which all types have as many parts.
abbrev pub IsFixed : Form → Type 0
IsFixed Array = Unit {0}
IsFixed Slice = Unit {0}
IsFixed Pat = Unit {0}
IsFixed RawPtr = Unit {0}
IsFixed Ref = Unit {0}
IsFixed f = ⊥
