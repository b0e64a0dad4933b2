-- Signatures, their inputs and the predicates of trait objects: of one form, or the error that says what differs.
use Rattle.std.proofs.Common.{◌≡◌, ◌≢◌, ℕ, suc, refl, sym, ap, ◌∙◌, subst, subst₂, arith, List, [], ◌∷◌, length, get_or, IsTrue}
use Rattle.std.proofs.Common.{Bool, true, false, not, cond, ◌<◌, ◌≤◌, Result, OnOk, IfErr}
use Rattle.std.proofs.Math.Bool.{beq}
use Rattle.std.proofs.lemmas.Bool.{false≢true, and_parts}
use Rattle.std.proofs.lemmas.Result.{IfErr-weaker}
use Rattle.relation_terms.specs.declared.terms.part_kind.Part.{Part}
use Rattle.relation_terms.specs.declared.terms.part_kind.Part.TheVariants.{Region, Ty, Const, ValTree, Pat, ValueType}
use Rattle.relation_terms.specs.declared.terms.part_kind.Part.TheVariants.{Binder as BinderPart, Signature, Inputs, Existential, Object}
use Rattle.relation_terms.specs.declared.terms.keys.PatKey.{PatKey}
use Rattle.relation_terms.specs.declared.terms.keys.TysKey.{TysKey}
use Rattle.relation_terms.specs.Parts.{part_sort, part_tree}
use Rattle.relation_terms.specs.declared.terms.keys.ExistentialPredicatesKey.{ExistentialPredicatesKey}
use Rattle.relation_terms.specs.declared.terms.fn_sig.FnSig.{FnSig}
use Rattle.relation_terms.specs.declared.terms.binder.Binder.{Binder}
use Rattle.relation_terms.specs.declared.predicate.existential.ExistentialPredicate.{ExistentialPredicate}
use Rattle.relation_terms.specs.Heads.{signature, inputs, object_sort}
use Rattle.relation_terms.specs.Trees.{Tree, leaf, node, nil, cons, known, list_tree, front, last, count, nth}
use Rattle.relation_terms.specs.Heads.{unknown}
use Rattle.relation_terms.specs.Meaning.{Meaning, signature_tree, existential_tree, object_predicate_tree}
use Rattle.relation_terms.specs.Heads.{existential_trait, existential_projection}
use Rattle.relation_terms.specs.Meaning.{term_tree}
use Rattle.relation_terms.specs.declared.terms.ids.TraitId.{TraitId}
use Rattle.relation_terms.specs.declared.predicate.existential.ExistentialTraitRef.{ExistentialTraitRef}
use Rattle.relation_terms.specs.declared.predicate.existential.ExistentialProjection.{ExistentialProjection}
use Rattle.relation_terms.specs.declared.predicate.existential.ExistentialPredicate.TheVariants.{Trait, AutoTrait}
use Rattle.relation_terms.specs.declared.predicate.existential.ExistentialPredicate.TheVariants.{Projection}
use Rattle.relation_folds.specs.declared.error.TypeError.{TypeError}
use Rattle.relation_folds.specs.declared.error.TypeError.TheVariants.{Mismatch, Traits, ProjectionMismatched}
use Rattle.relation_folds.specs.declared.error.TypeError.TheVariants.{VariadicMismatch, SafetyMismatch, AbiMismatch}
use Rattle.relation_folds.specs.declared.error.TypeError.TheVariants.{ExistentialMismatch}
use Rattle.relation_semantics.specs.Errors.{AreOfOneForm, over_parts, SignatureError, unlike_variadic, unlike_safety}
use Rattle.relation_semantics.specs.Errors.{unlike_abi, AreAlikeExistentials, AreAlikeMembers}
use Rattle.relation_semantics.specs.Errors.{ObjectError, unlike_numbers, unlike_members, PartError}
use Rattle.relation_semantics.specs.Errors.{ExistentialError, unlike_traits, unlike_auto_traits, unlike_projections}
use Rattle.relation_semantics.specs.Parts.{IsComparedPart, direct_parts}
use Rattle.relation_terms.proofs.Members.{list_count, list_nth, item_known}
use Rattle.relation_recursion.proofs.PartErrors.{members_as, counts_alike, counts_differ}

-- Two truth values by a test of them.
pub bools_same : (x y : Bool) → not (beq x y) ≡ false → x ≡ y
bools_same true true h = refl
bools_same false false h = refl
bools_same true false h = absurd (false≢true (sym h))
bools_same false true h = absurd (false≢true (sym h))

pub bools_differ : (x y : Bool) → not (beq x y) ≡ true → x ≢ y
bools_differ true true h e = false≢true h
bools_differ false false h e = false≢true h
bools_differ true false h e = false≢true (sym e)
bools_differ false true h e = false≢true e

module _ {Key Id Name : Type 0} (m : Meaning Key Id Name) (g h : FnSig Key) where
  abbrev types : FnSig Key → Tree
  types s = cons (node inputs (front (m.tys s.inputs_and_output))) (cons (last (m.tys s.inputs_and_output)) nil)

  -- The second signature under the header of the first, as far as they agree.
  variadic_as : (g.header).c_variadic ≡ (h.header).c_variadic → signature_tree m h ≡
      node (signature (g.header).c_variadic (h.header).safety (h.header).abi) (types h)
  variadic_as v = ap (λ x. node (signature x (h.header).safety (h.header).abi) (types h)) (sym v)

  safety_as : (g.header).c_variadic ≡ (h.header).c_variadic → (g.header).safety ≡ (h.header).safety →
      signature_tree m h ≡ node (signature (g.header).c_variadic (g.header).safety (h.header).abi) (types h)
  safety_as v s = variadic_as v
      ∙ ap (λ x. node (signature (g.header).c_variadic x (h.header).abi) (types h)) (sym s)

  pub signatures_alike : (g.header).c_variadic ≡ (h.header).c_variadic → (g.header).safety ≡ (h.header).safety →
      (g.header).abi ≡ (h.header).abi → AreOfOneForm (signature_tree m g) (signature_tree m h)
  signatures_alike v s a = over_parts refl (safety_as v s
      ∙ ap (λ x. node (signature (g.header).c_variadic (g.header).safety x) (types h)) (sym a)) refl

  pub variadic_differs : (e : TypeError Key Id Name) → (g.header).c_variadic ≢ (h.header).c_variadic →
      e ≡ VariadicMismatch (record { expected = (g.header).c_variadic; found = (h.header).c_variadic }) →
      SignatureError (signature_tree m g) (signature_tree m h) e
  variadic_differs e n is = unlike_variadic refl refl n is

  pub safety_differs : (e : TypeError Key Id Name) → (g.header).c_variadic ≡ (h.header).c_variadic →
      (g.header).safety ≢ (h.header).safety →
      e ≡ SafetyMismatch (record { expected = (g.header).safety; found = (h.header).safety }) →
      SignatureError (signature_tree m g) (signature_tree m h) e
  safety_differs e v n is = unlike_safety refl (variadic_as v) n is

  pub abi_differs : (e : TypeError Key Id Name) → (g.header).c_variadic ≡ (h.header).c_variadic →
      (g.header).safety ≡ (h.header).safety → (g.header).abi ≢ (h.header).abi →
      e ≡ AbiMismatch (record { expected = (g.header).abi; found = (h.header).abi }) →
      SignatureError (signature_tree m g) (signature_tree m h) e
  abi_differs e v s n is = unlike_abi refl (safety_as v s) n is

-- A list that is not empty has one member more than its front.
one_front : (b : Bool) → count (cond b nil (leaf unknown)) ≡ 0
one_front true = refl
one_front false = refl

counted : {K : Type 0} (f : K → Tree) (xs : List K) → IsTrue (known (front (list_tree f xs))) →
    length xs ≡ suc (count (front (list_tree f xs)))
counted f [] k = absurd (false≢true k)
counted f (x ∷ []) k = ap suc (sym (one_front (known (f x))))
counted f (x ∷ y ∷ ys) k =
    ap suc (counted f (y ∷ ys) (and_parts (known (f x)) (known (front (list_tree f (y ∷ ys)))) k).1)

pub inputs_counted : {K : Type 0} (f : K → Tree) (xs : List K) (ts : Tree) → ts ≡ list_tree f xs →
    IsTrue (known (front ts)) → length xs ≡ suc (count (front ts))
inputs_counted f xs ts e k = counted f xs (subst (λ t. IsTrue (known (front t))) e k)
    ∙ ap (λ t. suc (count (front t))) (sym e)

pub less_one : (i j k l : ℕ) → i ≡ suc k → j ≡ suc l → i ≡ j → k ≡ l
less_one i j k l p q e = omega (arith, p, q, e)

pub more_one : (i j k l : ℕ) → i ≡ suc k → j ≡ suc l → k ≡ l → i ≡ j
more_one i j k l p q e = omega (arith, p, q, e)

-- The predicates at a place of two trait objects, and the same under their binders.
module _ {Key Id Name : Type 0} (m : Meaning Key Id Name) where
  pub members_at : (xs ys : List (Binder Key (ExistentialPredicate Key Id))) (ts us : Tree) (i : ℕ)
      (x y : Binder Key (ExistentialPredicate Key Id)) → ts ≡ list_tree (object_predicate_tree m) xs →
      us ≡ list_tree (object_predicate_tree m) ys → i < length xs → i < length ys → x ≡ get_or xs i x →
      y ≡ get_or ys i y → IsTrue (known ts) → IsTrue (known us) →
      (AreAlikeExistentials (existential_tree m x.value) (existential_tree m y.value) →
      AreAlikeMembers (nth i ts) (nth i us)) × (AreAlikeMembers (nth i ts) (nth i us) →
      AreAlikeExistentials (existential_tree m x.value) (existential_tree m y.value))
  members_at xs ys ts us i x y p q lx ly ix iy k l =
      let f = object_predicate_tree m in
      let left : f x ≡ nth i ts = ap f ix ∙ sym (list_nth f xs i x lx) ∙ ap (nth i) (sym p) in
      let right : f y ≡ nth i us = ap f iy ∙ sym (list_nth f ys i y ly) ∙ ap (nth i) (sym q) in
      let sure = item_known f xs i x lx (subst (λ t. IsTrue (known t)) p k) in
      let other = item_known f ys i y ly (subst (λ t. IsTrue (known t)) q l) in
      members_as (m.bound_vars x.bound_vars) (m.bound_vars y.bound_vars) (existential_tree m x.value)
      (existential_tree m y.value) (nth i ts) (nth i us) left right
      (subst (λ t. IsTrue (known t)) (sym (ap f ix) ∙ left) sure)
      (subst (λ t. IsTrue (known t)) (sym (ap f iy) ∙ right) other)

  pub member_below : (p : Part Key Id) (k : ExistentialPredicatesKey Key)
      (xs : List (Binder Key (ExistentialPredicate Key Id))) (i : ℕ) → p ≡ Object k →
      m.existential_predicates k ≡ list_tree (object_predicate_tree m) xs → i < count (direct_parts (part_tree m p)) →
      i < length xs
  member_below p k xs i is lists l = subst (λ n. i < n) (ap (λ p. count (direct_parts (part_tree m p))) is
      ∙ ap count lists ∙ list_count (object_predicate_tree m) xs) l

  pub member_within : (i : ℕ) (xs : List (Binder Key (ExistentialPredicate Key Id))) → i < length xs → i ≤ length xs
  member_within i xs l = omega (arith, l)

  -- Two lists of predicates that are not as long, or have such of different forms at a place.
  pub numbers_differ : (x y : ExistentialPredicatesKey Key) (e : TypeError Key Id Name) →
      (count (m.existential_predicates x) ≡ count (m.existential_predicates y) → ⊥) →
      e ≡ ExistentialMismatch (record { expected = x; found = y }) → ObjectError m x y e
  numbers_differ x y e n is = subst (ObjectError m x y) (sym is) (unlike_numbers n)

  pub members_differ : (x y : ExistentialPredicatesKey Key) (e : TypeError Key Id Name) (i : ℕ) →
      i < count (m.existential_predicates x) → i < count (m.existential_predicates y) →
      (AreAlikeMembers (nth i (m.existential_predicates x)) (nth i (m.existential_predicates y)) → ⊥) →
      e ≡ ExistentialMismatch (record { expected = x; found = y }) → ObjectError m x y e
  members_differ x y e i lx ly n is = subst (ObjectError m x y) (sym is) (unlike_members i lx ly n)

  -- Two of one form and the error of two that are not, as those of the parts that they are.
  pub compared : (r : Result (Unit {0}) (TypeError Key Id Name)) (x y a b : Tree)
      (P : TypeError Key Id Name → Type 0) → x ≡ a → y ≡ b →
      ((e : TypeError Key Id Name) → P e → PartError m x y e) → OnOk r (AreOfOneForm x y) → IfErr r P →
      OnOk r (AreOfOneForm a b) × IfErr r (PartError m a b)
  compared r x y a b P p q h one fault = (
    subst₂ (λ t u. OnOk r (AreOfOneForm t u)) p q one,
    subst₂ (λ t u. IfErr r (PartError m t u)) p q (IfErr-weaker r P (PartError m x y) h fault),
  )

-- Predicates of trait objects over different items; and over one item, which are told apart by the numbers of their parts.
module _ {Key Id Name : Type 0} (m : Meaning Key Id Name) (a b : ExistentialPredicate Key Id) where
  abbrev of_one_form : Result (Unit {0}) (TypeError Key Id Name) → Type 0
  of_one_form r = OnOk r (AreOfOneForm (existential_tree m a) (existential_tree m b))

  abbrev of_two_forms : Result (Unit {0}) (TypeError Key Id Name) → Type 0
  of_two_forms r = IfErr r (ExistentialError m (existential_tree m a) (existential_tree m b))

  abbrev told_apart : ℕ → ℕ → Result (Unit {0}) (TypeError Key Id Name) → Type 0
  told_apart i j r = IfErr r (λ x. (i ≢ j) × (x ≡ Mismatch))

  module _ (p q : ExistentialTraitRef Key Id) where
    abbrev trait_items : Type 0
    trait_items = m.id (p.def_id).0 ≡ m.id (q.def_id).0

    pub traits_differ : (e : TypeError Key Id Name) → a ≡ Trait p → b ≡ Trait q → (trait_items → ⊥) →
        e ≡ Traits (record { expected = p.def_id; found = q.def_id }) →
        ExistentialError m (existential_tree m a) (existential_tree m b) e
    traits_differ e da db n is = subst (ExistentialError m (existential_tree m a) (existential_tree m b)) (sym is)
        (unlike_traits p.def_id q.def_id (ap (existential_tree m) da) (ap (existential_tree m) db) n)

    trait_as : b ≡ Trait q → trait_items →
        existential_tree m b ≡ node (existential_trait (m.id (p.def_id).0)) (m.args q.args)
    trait_as db same = ap (existential_tree m) db ∙ ap (λ n. node (existential_trait n) (m.args q.args)) (sym same)

    pub traits_alike : a ≡ Trait p → b ≡ Trait q → trait_items → (i j : ℕ) → count (m.args p.args) ≡ i →
        count (m.args q.args) ≡ j → (r : Result (Unit {0}) (TypeError Key Id Name)) → OnOk r (i ≡ j) → of_one_form r
    traits_alike da db same i j x y r h = counts_alike m a b (existential_trait (m.id (p.def_id).0)) (m.args p.args)
        (m.args q.args) i j refl (ap (existential_tree m) da) (trait_as db same) r (λ e. x ∙ e ∙ sym y) h

    pub traits_unlike : a ≡ Trait p → b ≡ Trait q → trait_items → (i j : ℕ) → count (m.args p.args) ≡ i →
        count (m.args q.args) ≡ j → (r : Result (Unit {0}) (TypeError Key Id Name)) → told_apart i j r →
        of_two_forms r
    traits_unlike da db same i j x y r h = counts_differ m a b (existential_trait (m.id (p.def_id).0)) (m.args p.args)
        (m.args q.args) i j refl (ap (existential_tree m) da) (trait_as db same) r (λ e. sym x ∙ e ∙ y) h

  module _ (p q : ExistentialProjection Key Id) where
    abbrev projected_items : Type 0
    projected_items = m.id (p.def_id).0 ≡ m.id (q.def_id).0

    abbrev parts_in : ExistentialProjection Key Id → Tree
    parts_in o = cons (term_tree m o.term) (m.args o.args)

    pub projections_differ : (e : TypeError Key Id Name) → a ≡ Projection p → b ≡ Projection q →
        (projected_items → ⊥) → e ≡ ProjectionMismatched (record { expected = (p.def_id).0; found = (q.def_id).0 }) →
        ExistentialError m (existential_tree m a) (existential_tree m b) e
    projections_differ e da db n is = subst (ExistentialError m (existential_tree m a) (existential_tree m b)) (sym is)
        (unlike_projections (p.def_id).0 (q.def_id).0 (ap (existential_tree m) da) (ap (existential_tree m) db) n)

    projection_as : b ≡ Projection q → projected_items →
        existential_tree m b ≡ node (existential_projection (m.id (p.def_id).0)) (parts_in q)
    projection_as db same = ap (existential_tree m) db ∙ ap (λ n. node (existential_projection n) (parts_in q)) (sym same)

    pub projections_alike : a ≡ Projection p → b ≡ Projection q → projected_items → (i j : ℕ) →
        count (m.args p.args) ≡ i → count (m.args q.args) ≡ j → (r : Result (Unit {0}) (TypeError Key Id Name)) →
        OnOk r (i ≡ j) → of_one_form r
    projections_alike da db same i j x y r h = counts_alike m a b (existential_projection (m.id (p.def_id).0))
        (parts_in p) (parts_in q) i j refl (ap (existential_tree m) da) (projection_as db same) r
        (λ e. ap suc (x ∙ e ∙ sym y)) h

    pub projections_unlike : a ≡ Projection p → b ≡ Projection q → projected_items → (i j : ℕ) →
        count (m.args p.args) ≡ i → count (m.args q.args) ≡ j → (r : Result (Unit {0}) (TypeError Key Id Name)) →
        told_apart i j r → of_two_forms r
    projections_unlike da db same i j x y r h = counts_differ m a b (existential_projection (m.id (p.def_id).0))
        (parts_in p) (parts_in q) i j refl (ap (existential_tree m) da) (projection_as db same) r
        (λ e. less_one (suc i) (suc j) i j refl refl (sym (ap suc x) ∙ e ∙ ap suc y)) h

  pub autos_differ : (p q : TraitId Id) (e : TypeError Key Id Name) → a ≡ AutoTrait p → b ≡ AutoTrait q →
      (m.id p.0 ≡ m.id q.0 → ⊥) → e ≡ Traits (record { expected = p; found = q }) →
      ExistentialError m (existential_tree m a) (existential_tree m b) e
  autos_differ p q e da db n is = subst (ExistentialError m (existential_tree m a) (existential_tree m b)) (sym is)
      (unlike_auto_traits p q (ap (existential_tree m) da) (ap (existential_tree m) db) n)

-- What is none of the kinds of parts that are compared, and what is no list of predicates.
module _ {Key Id : Type 0} where
  pub not_compared : (p : Part Key Id) → IsComparedPart p → ((k : PatKey Key) → p ≡ Pat k → ⊥) →
      ((s : FnSig Key) → p ≡ Signature s → ⊥) → ((k : TysKey Key) → p ≡ Inputs k → ⊥) →
      ((o : ExistentialPredicate Key Id) → p ≡ Existential o → ⊥) →
      ((k : ExistentialPredicatesKey Key) → p ≡ Object k → ⊥) → ⊥
  not_compared (Pat k) h a b c d e = a k refl
  not_compared (Signature s) h a b c d e = b s refl
  not_compared (Inputs k) h a b c d e = c k refl
  not_compared (Existential o) h a b c d e = d o refl
  not_compared (Object k) h a b c d e = e k refl
  not_compared p h a b c d e = h

  pub no_object : (p : Part Key Id) → ((k : ExistentialPredicatesKey Key) → p ≡ Object k → ⊥) →
      part_sort p ≡ object_sort → ⊥
  no_object (Object k) n e = n k refl
  no_object (Region r) n e = cc
  no_object (Ty t) n e = cc
  no_object (Const c) n e = cc
  no_object (ValTree v) n e = cc
  no_object (Pat o) n e = cc
  no_object (ValueType t) n e = cc
  no_object (BinderPart vs b) n e = cc
  no_object (Signature s) n e = cc
  no_object (Inputs t) n e = cc
  no_object (Existential o) n e = cc
