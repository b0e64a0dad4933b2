-- What is compared of types besides their parts: where it is one the forms are, and else which error says so.
use Rattle.std.proofs.Common.{◌≡◌, ◌≢◌, ◌⊎◌, ℕ, suc, ◌<◌, refl, sym, ap, ◌∙◌, inl, inr, subst, Option, Some, None}
use Rattle.std.proofs.Common.{List, [], ◌∷◌, length}
use Rattle.term_enums.specs.declared.Mutability.{Mutability}
use Rattle.term_enums.specs.declared.Mutability.TheVariants.{Not}
use Rattle.relation_terms.specs.declared.terms.keys.TyKey.{TyKey}
use Rattle.relation_terms.specs.Heads.{Head, adt, fn_def, closure, coroutine_closure, coroutine, coroutine_witness}
use Rattle.relation_terms.specs.Heads.{array, slice, pattern_type, tuple, unsafe_binder, dynamic, fn_ptr, raw_ptr, ref}
use Rattle.relation_terms.specs.Heads.{AliasKind, alias, region_sort, type_sort, const_sort, pattern_sort, Part, term_of, row}
use Rattle.relation_terms.specs.Heads.{head_parts}
use Rattle.relation_terms.specs.Trees.{Tree, leaf, node, bind, nil, cons, count, Fits, IsTerm}
use Rattle.relation_terms.specs.Meaning.{Meaning}
use Rattle.relation_folds.specs.Outlines.{id_number}
use Rattle.relation_folds.specs.declared.error.TypeError.{TypeError}
use Rattle.relation_folds.specs.declared.error.TypeError.TheVariants.{TupleSize, Sorts, ProjectionMismatched}
use Rattle.relation_folds.specs.declared.error.TypeError.TheVariants.{Mutability as MutabilityError}
use Rattle.relation_recursion.specs.declared.forms.Outline.{Outline}
use Rattle.relation_recursion.specs.declared.forms.Form.{Form}
use Rattle.relation_recursion.specs.declared.forms.Form.TheVariants.{Leaf, Adt, FnDef, Closure, CoroutineClosure}
use Rattle.relation_recursion.specs.declared.forms.Form.TheVariants.{Coroutine, CoroutineWitness, Array, Slice}
use Rattle.relation_recursion.specs.declared.forms.Form.TheVariants.{Pat, RawPtr, Ref, Tuple, FnPtr, UnsafeBinder, Dynamic}
use Rattle.relation_recursion.specs.declared.forms.Form.TheVariants.{Alias}
use Rattle.relation_semantics.specs.Parts.{direct_parts, head_of}
use Rattle.relation_recursion.specs.Forms.{named_outline, head_outline, tree_outline, IsFixed}
use Rattle.relation_semantics.specs.Errors.{outer_head, outermost, AreAlike, AreOfOneForm, over_parts, over_aliases, one_leaf}
use Rattle.relation_semantics.specs.Errors.{FormError, mutability, pointer_mutability, as_many, alias_arguments, unlike_aliases}
use Rattle.relation_semantics.specs.Errors.{HaveNoError}
use Rattle.relation_recursion.proofs.Compared.{unlike_as, lengths_error}

-- The form that an outline is of, but for an alias's, whose kind it leaves out.
abbrev from : Form → Option ℕ → Mutability → Head
from Adt (Some d) u = adt d
from FnDef (Some d) u = fn_def d
from Closure (Some d) u = closure d
from CoroutineClosure (Some d) u = coroutine_closure d
from Coroutine (Some d) u = coroutine d
from CoroutineWitness (Some d) u = coroutine_witness d
from Array n u = array
from Slice n u = slice
from Pat n u = pattern_type
from RawPtr n u = raw_ptr u
from Ref n u = ref u
from FnPtr n u = fn_ptr
from UnsafeBinder n u = unsafe_binder
from Dynamic n u = dynamic
from f n u = tuple

abbrev head_from : Outline ℕ → Head
head_from o = from o.form o.item o.mutability

rebuilt : (h : Head) → ((head_outline h).form ≡ Alias → ⊥) → ((head_outline h).form ≡ Leaf → ⊥) → h ≡ head_from (head_outline h)
rebuilt (adt d) c n = refl
rebuilt (fn_def d) c n = refl
rebuilt (closure d) c n = refl
rebuilt (coroutine_closure d) c n = refl
rebuilt (coroutine d) c n = refl
rebuilt (coroutine_witness d) c n = refl
rebuilt array c n = refl
rebuilt slice c n = refl
rebuilt pattern_type c n = refl
rebuilt tuple c n = refl
rebuilt (raw_ptr u) c n = refl
rebuilt (ref u) c n = refl
rebuilt unsafe_binder c n = refl
rebuilt dynamic c n = refl
rebuilt fn_ptr c n = refl
rebuilt (alias k d) c n = absurd (c refl)
rebuilt h c n = absurd (n refl)

-- Mutability is a pointer's and a reference's alone.
abbrev own_mutability : Form → Mutability → Mutability
own_mutability RawPtr u = u
own_mutability Ref u = u
own_mutability f u = Not

mutability_of : (h : Head) → (head_outline h).mutability ≡ own_mutability (head_outline h).form (head_outline h).mutability
mutability_of array = refl
mutability_of h = refl

-- Types that are alike have one form, and are over one item.
outer_form : (h : Head) → (head_outline (outer_head h)).form ≡ (head_outline h).form
outer_form array = refl
outer_form h = refl

outer_item : (h : Head) → ((head_outline h).form ≡ Alias → ⊥) → (head_outline (outer_head h)).item ≡ (head_outline h).item
outer_item (alias k d) n = absurd (n refl)
outer_item h n = refl

outermost_form : (t : Tree) → (tree_outline (outermost t)).form ≡ (tree_outline t).form
outermost_form (node h ts) = outer_form h
outermost_form t = refl

outermost_item : (t : Tree) → ((tree_outline t).form ≡ Alias → ⊥) → (tree_outline (outermost t)).item ≡ (tree_outline t).item
outermost_item (node h ts) n = outer_item h n
outermost_item t n = refl

alike_form : (t u : Tree) → AreAlike t u → (tree_outline t).form ≡ (tree_outline u).form
alike_form t u a = sym (outermost_form t) ∙ ap (λ z. (tree_outline z).form) a ∙ outermost_form u

alike_item : (t u : Tree) → ((tree_outline t).form ≡ Alias → ⊥) → ((tree_outline u).form ≡ Alias → ⊥) → AreAlike t u →
    (tree_outline t).item ≡ (tree_outline u).item
alike_item t u n o a = sym (outermost_item t n) ∙ ap (λ z. (tree_outline z).item) a ∙ outermost_item u o

-- A type that is not without parts.
over_node : (t : Tree) → ((tree_outline t).form ≡ Leaf → ⊥) → t ≡ node (head_of t) (direct_parts t)
over_node (node h ts) n = refl
over_node t n = absurd (n refl)

outline_head : (t : Tree) → ((tree_outline t).form ≡ Leaf → ⊥) → tree_outline t ≡ head_outline (head_of t)
outline_head (node h ts) n = refl
outline_head t n = absurd (n refl)

-- An alias type.
alias_shape : (t : Tree) → (tree_outline t).form ≡ Alias →
    (k : AliasKind) × (d : ℕ) × (t ≡ node (alias k d) (direct_parts t)) × ((tree_outline t).item ≡ Some d)
alias_shape (node (alias k d) ts) e = (k, d, refl, refl)
alias_shape (node h ts) e = absurd (cc)
alias_shape t e = absurd (cc)

-- A type is of one form with itself.
pub itself_alike : (t u : Tree) → IsTerm type_sort t → t ≡ u → AreOfOneForm t u
itself_alike (leaf l) u f e = one_leaf refl (sym e)
itself_alike (node h ts) u f e = over_parts refl (sym e) refl
itself_alike (bind ks t) u f e = absurd f
itself_alike nil u f e = absurd f
itself_alike (cons t ts) u f e = absurd f

-- How many parts all types of such a form have.
abbrev fixed_count : Form → ℕ
fixed_count Array = 2
fixed_count Ref = 2
fixed_count Pat = 2
fixed_count f = 1

row_count : (ps : List Part) (ts : Tree) → Fits (row ps None) ts → count ts ≡ length ps
row_count [] nil f = refl
row_count (p ∷ ps) (cons t ts) f = ap suc (row_count ps ts f.1)
row_count ps ts f = absurd f

head_count : (h : Head) (ts : Tree) → Fits (head_parts h) ts → IsFixed (head_outline h).form →
    count ts ≡ fixed_count (head_outline h).form
head_count array ts f k = row_count (term_of type_sort ∷ term_of const_sort ∷ []) ts f
head_count slice ts f k = row_count (term_of type_sort ∷ []) ts f
head_count pattern_type ts f k = row_count (term_of type_sort ∷ term_of pattern_sort ∷ []) ts f
head_count (raw_ptr u) ts f k = row_count (term_of type_sort ∷ []) ts f
head_count (ref u) ts f k = row_count (term_of region_sort ∷ term_of type_sort ∷ []) ts f
head_count h ts f k = absurd k

tree_count : (t : Tree) → IsTerm type_sort t → IsFixed (tree_outline t).form →
    count (direct_parts t) ≡ fixed_count (tree_outline t).form
tree_count (node h ts) i k = head_count h ts i.1 k
tree_count t i k = absurd k

pub fixed_counts : (t u : Tree) (f : Form) → IsTerm type_sort t → IsTerm type_sort u → (tree_outline t).form ≡ f →
    (tree_outline u).form ≡ f → IsFixed f → count (direct_parts t) ≡ count (direct_parts u)
fixed_counts t u f i j et eu k = tree_count t i (subst IsFixed (sym et) k) ∙ ap fixed_count et
    ∙ sym (tree_count u j (subst IsFixed (sym eu) k) ∙ ap fixed_count eu)

is_tuple : (f : Form) → (f ≡ Tuple) ⊎ (f ≢ Tuple)
is_tuple Tuple = inl refl
is_tuple f = inr (λ e. absurd (cc))

is_alias : (f : Form) → (f ≡ Alias) ⊎ (f ≢ Alias)
is_alias Alias = inl refl
is_alias f = inr (λ e. absurd (cc))

-- The item that an outline names.
item_named : {D : Type 0} (number : D → ℕ) (o : Option D) (d : ℕ) → id_number number o ≡ Some d →
    (x : D) × (o ≡ Some x) × (number x ≡ d)
item_named number (Some x) d e = (x, refl, (cc))
item_named number None d e = absurd (cc)

module _ {Key Id Name : Type 0} (m : Meaning Key Id Name) (x y : TyKey Key) (o p : Outline Id)
    (left : named_outline m.id o ≡ tree_outline (m.ty x)) (right : named_outline m.id p ≡ tree_outline (m.ty y))
    (none : HaveNoError (m.ty x) (m.ty y)) where
  unlike_types : (AreAlike (m.ty x) (m.ty y) → ⊥) → (e : TypeError Key Id Name) →
      e ≡ Sorts (record { expected = x; found = y }) → FormError m x y e
  unlike_types n e is = unlike_as m x y (m.ty x) (m.ty y) e refl refl none n is

  pub unlike_forms : (o.form ≡ p.form → ⊥) → (e : TypeError Key Id Name) →
      e ≡ Sorts (record { expected = x; found = y }) → FormError m x y e
  unlike_forms n e is = unlike_types
      (λ a. n (ap (λ z. z.form) left ∙ alike_form (m.ty x) (m.ty y) a ∙ sym (ap (λ z. z.form) right))) e is

  pub unlike_items : o.form ≡ p.form → (id_number m.id o.item ≡ id_number m.id p.item → ⊥) → (e : TypeError Key Id Name) →
      ((i j : Id) → o.form ≡ Alias → o.item ≡ Some i → p.item ≡ Some j →
      e ≡ ProjectionMismatched (record { expected = i; found = j })) →
      (o.form ≢ Alias → e ≡ Sorts (record { expected = x; found = y })) → FormError m x y e
  unlike_items form n e aliases others = go (is_alias o.form)
    where
      -- Two aliases, which have an item each.
      apart : o.form ≡ Alias → FormError m x y e
      apart is =
          let (k, c, t, ct) = alias_shape (m.ty x) (sym (ap (λ z. z.form) left) ∙ is) in
          let (l, d, u, du) = alias_shape (m.ty y) (sym (ap (λ z. z.form) right) ∙ sym form ∙ is) in
          let (i, oi, ic) = item_named m.id o.item c (ap (λ z. z.item) left ∙ ct) in
          let (j, pj, jd) = item_named m.id p.item d (ap (λ z. z.item) right ∙ du) in
          subst (FormError m x y) (sym (aliases i j is oi pj)) (unlike_aliases i j
          (t ∙ ap (λ z. node (alias k z) (direct_parts (m.ty x))) (sym ic))
          (u ∙ ap (λ z. node (alias l z) (direct_parts (m.ty y))) (sym jd))
          (λ z. n (ap (id_number m.id) oi ∙ ap Some z ∙ sym (ap (id_number m.id) pj))))

      go : (o.form ≡ Alias) ⊎ (o.form ≢ Alias) → FormError m x y e
      go (inl is) = apart is
      go (inr other) = unlike_types (λ a. n (ap (λ z. z.item) left
          ∙ alike_item (m.ty x) (m.ty y) (λ z. other (ap (λ z. z.form) left ∙ z))
          (λ z. other (form ∙ ap (λ z. z.form) right ∙ z)) a ∙ sym (ap (λ z. z.item) right))) e (others other)

  module _ (parted : o.form ≡ Leaf → ⊥) (form : o.form ≡ p.form) where
    some_left : (tree_outline (m.ty x)).form ≡ Leaf → ⊥
    some_left e = parted (ap (λ z. z.form) left ∙ e)

    some_right : (tree_outline (m.ty y)).form ≡ Leaf → ⊥
    some_right e = parted (form ∙ ap (λ z. z.form) right ∙ e)

    left_head : named_outline m.id o ≡ head_outline (head_of (m.ty x))
    left_head = left ∙ outline_head (m.ty x) some_left

    right_head : named_outline m.id p ≡ head_outline (head_of (m.ty y))
    right_head = right ∙ outline_head (m.ty y) some_right

    left_from : o.form ≢ Alias → head_of (m.ty x) ≡ from o.form (id_number m.id o.item) o.mutability
    left_from other = rebuilt (head_of (m.ty x)) (λ e. other (ap (λ z. z.form) left_head ∙ e))
        (λ e. some_left (ap (λ z. z.form) (outline_head (m.ty x) some_left) ∙ e)) ∙ ap head_from (sym left_head)

    right_from : o.form ≢ Alias → head_of (m.ty y) ≡ from p.form (id_number m.id p.item) p.mutability
    right_from other = rebuilt (head_of (m.ty y)) (λ e. other (form ∙ ap (λ z. z.form) right_head ∙ e))
        (λ e. some_right (ap (λ z. z.form) (outline_head (m.ty y) some_right) ∙ e)) ∙ ap head_from (sym right_head)

    left_own : o.mutability ≡ own_mutability o.form o.mutability
    left_own = ap (λ z. z.mutability) left_head ∙ mutability_of (head_of (m.ty x))
        ∙ sym (ap (λ z. own_mutability z.form z.mutability) left_head)

    right_own : p.mutability ≡ own_mutability p.form p.mutability
    right_own = ap (λ z. z.mutability) right_head ∙ mutability_of (head_of (m.ty y))
        ∙ sym (ap (λ z. own_mutability z.form z.mutability) right_head)

    -- Two pointers, or two references.
    pub unlike_mutability : (o.mutability ≡ p.mutability → ⊥) → FormError m x y MutabilityError
    unlike_mutability n = go o.form refl
      where
        is_left : (f : Form) → f ≢ Alias → o.form ≡ f →
            m.ty x ≡ node (from f (id_number m.id o.item) o.mutability) (direct_parts (m.ty x))
        is_left f other e = over_node (m.ty x) some_left ∙ ap (λ h. node h (direct_parts (m.ty x)))
            (left_from (λ z. other (sym e ∙ z)) ∙ ap (λ z. from z (id_number m.id o.item) o.mutability) e)

        is_right : (f : Form) → f ≢ Alias → o.form ≡ f →
            m.ty y ≡ node (from f (id_number m.id p.item) p.mutability) (direct_parts (m.ty y))
        is_right f other e = over_node (m.ty y) some_right ∙ ap (λ h. node h (direct_parts (m.ty y)))
            (right_from (λ z. other (sym e ∙ z)) ∙ ap (λ z. from z (id_number m.id p.item) p.mutability) (sym form ∙ e))

        both : (f : Form) → o.form ≡ f → own_mutability f o.mutability ≡ own_mutability f p.mutability → ⊥
        both f e q = n (left_own ∙ ap (λ z. own_mutability z o.mutability) e ∙ q
            ∙ sym (ap (λ z. own_mutability z p.mutability) (sym form ∙ e)) ∙ sym right_own)

        go : (f : Form) → o.form ≡ f → FormError m x y MutabilityError
        go RawPtr e =
            let other : RawPtr ≢ Alias = (λ z. absurd (cc)) in
            pointer_mutability (is_left RawPtr other e) (is_right RawPtr other e) n
        go Ref e =
            let other : Ref ≢ Alias = (λ z. absurd (cc)) in mutability (is_left Ref other e) (is_right Ref other e) n
        go f e = absurd (both f e refl)

    module _ (item : id_number m.id o.item ≡ id_number m.id p.item) (same : o.mutability ≡ p.mutability) where
      one_head : o.form ≢ Alias → head_of (m.ty x) ≡ head_of (m.ty y)
      one_head other = left_from other ∙ ap (λ z. from z (id_number m.id o.item) o.mutability) form
          ∙ ap (λ z. from p.form z o.mutability) item ∙ ap (from p.form (id_number m.id p.item)) same ∙ sym (right_from other)

      over_right : o.form ≢ Alias → m.ty y ≡ node (head_of (m.ty x)) (direct_parts (m.ty y))
      over_right other = over_node (m.ty y) some_right ∙ ap (λ h. node h (direct_parts (m.ty y))) (sym (one_head other))

      -- Two aliases of one item.
      one_item : o.form ≡ Alias → (k : AliasKind) × (l : AliasKind) × (d : ℕ) ×
          (m.ty x ≡ node (alias k d) (direct_parts (m.ty x))) × (m.ty y ≡ node (alias l d) (direct_parts (m.ty y)))
      one_item is =
          let (k, c, t, ct) = alias_shape (m.ty x) (sym (ap (λ z. z.form) left) ∙ is) in
          let (l, d, u, du) = alias_shape (m.ty y) (sym (ap (λ z. z.form) right) ∙ sym form ∙ is) in
          let named_one : Some c ≡ Some d =
          sym ct ∙ sym (ap (λ z. z.item) left) ∙ item ∙ ap (λ z. z.item) right ∙ du in
          let e : c ≡ d = cc in (k, l, d, t ∙ ap (λ z. node (alias k z) (direct_parts (m.ty x))) e, u)

      pub forms_alike : count (direct_parts (m.ty x)) ≡ count (direct_parts (m.ty y)) → AreOfOneForm (m.ty x) (m.ty y)
      forms_alike n = go (is_alias o.form)
        where
          go : (o.form ≡ Alias) ⊎ (o.form ≢ Alias) → AreOfOneForm (m.ty x) (m.ty y)
          go (inl is) = let (k, l, d, t, u) = one_item is in over_aliases t u n
          go (inr other) = over_parts (over_node (m.ty x) some_left) (over_right other) n

      pub unlike_counts : (i j : ℕ) → i ≡ count (direct_parts (m.ty x)) → j ≡ count (direct_parts (m.ty y)) → i ≢ j →
          (e : TypeError Key Id Name) →
          (o.form ≡ Tuple → 0 < i → 0 < j → e ≡ TupleSize (record { expected = i; found = j })) →
          ((i ≡ 0) ⊎ (j ≡ 0) → e ≡ Sorts (record { expected = x; found = y })) →
          (o.form ≢ Tuple → e ≡ Sorts (record { expected = x; found = y })) → FormError m x y e
      unlike_counts i j ci cj differ e sizes empty others = go (is_tuple o.form) (is_alias o.form)
        where
          unequal : count (direct_parts (m.ty x)) ≢ count (direct_parts (m.ty y))
          unequal q = differ (ci ∙ q ∙ sym cj)

          go : (o.form ≡ Tuple) ⊎ (o.form ≢ Tuple) → (o.form ≡ Alias) ⊎ (o.form ≢ Alias) → FormError m x y e
          go (inl t) (inl is) = absurd (let z : Tuple ≡ Alias = sym t ∙ is in cc)
          go (inl t) (inr other) =
              let h : head_of (m.ty x) ≡ tuple =
              left_from other ∙ ap (λ z. from z (id_number m.id o.item) o.mutability) t in
              lengths_error m i j (direct_parts (m.ty x)) (direct_parts (m.ty y)) x y e
              (over_node (m.ty x) some_left ∙ ap (λ z. node z (direct_parts (m.ty x))) h)
              (over_right other ∙ ap (λ z. node z (direct_parts (m.ty y))) h) ci cj differ (sizes t) empty
          go (inr n) (inl is) =
              let (k, l, d, t, u) = one_item is in
              subst (FormError m x y) (sym (others n)) (alias_arguments t u unequal)
          go (inr n) (inr other) = subst (FormError m x y) (sym (others n))
              (as_many (over_node (m.ty x) some_left) (over_right other)
              (λ h. n (ap (λ z. z.form) left_head ∙ ap (λ z. (head_outline z).form) h)) unequal)
