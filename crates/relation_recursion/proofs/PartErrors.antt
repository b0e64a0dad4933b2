-- Terms that are related by their parts: when two are unified, and the errors of two that are not of one form.
use Rattle.std.proofs.Common.{◌≡◌, ◌≢◌, ◌↔◌, ℕ, zero, suc, ◌<◌, refl, sym, ap, ◌∙◌, subst, subst₂, arith, List, IsTrue}
use Rattle.std.proofs.Common.{Option, Some, None, Result, OnOk, IfErr}
use Rattle.std.proofs.lemmas.Result.{on_ok_weaker, IfErr-weaker}
use Rattle.std.proofs.lemmas.Bool.{false≢true}
use Rattle.term_enums.specs.declared.Variance.{Variance}
use Rattle.relation_terms.specs.declared.terms.keys.ExistentialPredicatesKey.{ExistentialPredicatesKey}
use Rattle.relation_terms.specs.Heads.{Sort, existential_sort, head_sort, atom_sort}
use Rattle.relation_terms.specs.Heads.{Head, pattern_type, range_pattern, or_pattern, fn_ptr, unsafe_binder, dynamic, object}
use Rattle.relation_terms.specs.Heads.{signature, inputs, existential_trait, existential_projection, value_type, region_sort}
use Rattle.relation_terms.specs.Heads.{alias_term, trait_ref}
use Rattle.relation_terms.specs.Heads.{BoundKind, Atom, not_null_pattern, existential_auto, Leaf, atom}
use Rattle.relation_terms.specs.Trees.{Tree, leaf, node, bind, nil, cons, Assign, apply, known, IsTerm, IsBinder}
use Rattle.relation_terms.specs.Trees.{count, nth}
use Rattle.relation_terms.specs.Erasure.{erase}
use Rattle.relation_terms.specs.Meaning.{Meaning, under, existential_tree}
use Rattle.relation_terms.specs.declared.terms.ids.TraitId.{TraitId}
use Rattle.relation_terms.specs.declared.predicate.existential.ExistentialTraitRef.{ExistentialTraitRef}
use Rattle.relation_terms.specs.declared.predicate.existential.ExistentialProjection.{ExistentialProjection}
use Rattle.relation_terms.specs.declared.predicate.existential.ExistentialPredicate.{ExistentialPredicate}
use Rattle.relation_terms.specs.declared.predicate.existential.ExistentialPredicate.TheVariants.{Trait, AutoTrait}
use Rattle.relation_terms.specs.declared.predicate.existential.ExistentialPredicate.TheVariants.{Projection}
use Rattle.relation_folds.specs.declared.error.TypeError.{TypeError}
use Rattle.relation_folds.specs.declared.error.TypeError.TheVariants.{Mismatch}
use Rattle.relation_folds.specs.Faults.{KnowsError}
use Rattle.relation_semantics.specs.Relation.{at, sort_of}
use Rattle.relation_semantics.specs.Stores.{Store}
use Rattle.relation_semantics.specs.FirstOrder.{Unifies}
use Rattle.relation_semantics.specs.Outcomes.{NeverOne, NoUnifier}
use Rattle.relation_semantics.specs.Errors.{AreOfOneForm, over_parts, over_aliases, one_leaf, parameters, AreAlikeExistentials, both_traits}
use Rattle.relation_semantics.specs.Errors.{both_projections, both_auto_traits, AreAlikeMembers, under_binders}
use Rattle.relation_semantics.specs.Errors.{unlike_patterns, SignatureError, unlike_variadic, unlike_safety, unlike_abi}
use Rattle.relation_semantics.specs.Errors.{unlike_counts, ExistentialError, unlike_traits, unlike_auto_traits}
use Rattle.relation_semantics.specs.Errors.{unlike_projections, unlike_arguments, unlike_existentials, ObjectError}
use Rattle.relation_semantics.specs.Errors.{unlike_numbers, unlike_members, PartError, pattern_error, signature_error}
use Rattle.relation_semantics.specs.Errors.{existential_error, item_error, object_error, ItemError, IsItemHead}
use Rattle.relation_semantics.specs.Errors.{unlike_alias_terms, unlike_trait_refs, unlike_lists}
use Rattle.relation_semantics.specs.Errors.{unlike_polarities}
use Rattle.relation_semantics.specs.Parts.{direct_parts, head_of, IsByParts}
use Rattle.relation_recursion.proofs.Compared.{parts_list, list_of}
use Rattle.relation_semantics.proofs.Erased.{forms_unify_by_parts}
use Rattle.relation_steps.proofs.Fronts.{IsLookedAt}
use Rattle.relation_recursion.proofs.Unifying.{one_head, unified_counts, erased_parameters}
use Rattle.part_variances.proofs.Patterns.{term_alike, form_is}
use Rattle.relation_semantics.proofs.OneParts.{sort_is}
use Rattle.part_variances.proofs.PartPlaces.{binder_nth, only}

-- Their forms are looked at.
head_looked_at : (h : Head) (ts : Tree) → IsByParts (node h ts) → IsLookedAt h
head_looked_at value_type ts o = o
head_looked_at h ts o = tt

pub term_looked_at : (t : Tree) → IsByParts t → IsLookedAt (head_of t)
term_looked_at (node h ts) o = head_looked_at h ts o
term_looked_at (leaf l) o = tt
term_looked_at t o = absurd o

no_value_type : (h : Head) (ts : Tree) → IsByParts (node h ts) → h ≢ value_type
no_value_type h ts o q = subst IsLookedAt q (head_looked_at h ts o)

-- Two of one form are unified just where their parts are.
no_region : (x : Atom) → IsByParts (leaf (atom x)) → atom_sort x ≡ region_sort → ⊥
no_region not_null_pattern o e = absurd (cc)
no_region (existential_auto d) o e = absurd (cc)
no_region x o e = o

pub terms_unify : (a b : Tree) → IsByParts a → AreOfOneForm a b → (s : Assign) → Unifies s a b ↔
    Unifies s (direct_parts a) (direct_parts b)
terms_unify a b o (over_parts {h} {ts} {us} d e n) s = subst₂
    (λ x y. Unifies s x y ↔ Unifies s (direct_parts x) (direct_parts y)) (sym d) (sym e)
    (forms_unify_by_parts s h ts us (no_value_type h ts (subst IsByParts d o)))
terms_unify a b o (over_aliases d e n) s = absurd (subst IsByParts d o)
terms_unify a b o (one_leaf {l} d e) s = subst₂ (λ x y. Unifies s x y ↔ Unifies s (direct_parts x) (direct_parts y))
    (sym d) (sym e) ((λ z. refl), (λ z. refl))
terms_unify a b o (parameters {x} {y} d e p) s =
    let i = no_region x (subst IsByParts d o) in
    let j = no_region y (subst IsByParts e (term_alike a b (parameters d e p) o)) in
    subst₂ (λ x y. Unifies s x y ↔ Unifies s (direct_parts x) (direct_parts y)) (sym d) (sym e)
    ((λ z. refl), (λ z. ap (λ z. leaf (atom z)) (erased_parameters x y i j p)))

-- Two that are unified are of one form.
leaf_stays : (s : Assign) (l : Leaf) → IsByParts (leaf l) → erase (apply s (leaf l)) ≡ leaf l
leaf_stays s (atom not_null_pattern) o = refl
leaf_stays s (atom (existential_auto d)) o = refl
leaf_stays s l o = absurd o

pub terms_unified : (s : Assign) (k l : Sort) (a b : Tree) → IsByParts a → IsByParts b → IsTerm k a → IsTerm l b →
    Unifies s a b → AreOfOneForm a b
terms_unified s k l (leaf x) (leaf y) o q f g e = one_leaf refl (sym (sym (leaf_stays s x o) ∙ e ∙ leaf_stays s y q))
terms_unified s k l (leaf x) (node h us) o q f g e = absurd (let z = sym (leaf_stays s x o) ∙ e in cc)
terms_unified s k l (node h ts) (leaf y) o q f g e = absurd (let z = e ∙ leaf_stays s y q in cc)
terms_unified s k l (node h ts) (node j us) o q f g e =
    let same : h ≡ j = one_head s h j ts us e in
    let right : node j us ≡ node h us = ap (λ z. node z us) (sym same) in
    over_parts refl right (unified_counts s h ts us (node h ts) (node j us) (no_value_type h ts o) refl right
    (parts_list h ts f.1) (parts_list j us g.1) e)
terms_unified s k l (bind ks t) b o q f g e = absurd o
terms_unified s k l nil b o q f g e = absurd o
terms_unified s k l (cons t ts) b o q f g e = absurd o
terms_unified s k l a (bind ks t) o q f g e = absurd q
terms_unified s k l a nil o q f g e = absurd q
terms_unified s k l a (cons t ts) o q f g e = absurd q

-- A predicate of a trait object is of one of three forms.
data ExistentialShape (t : Tree) : Type 0 where
  trait_shape : {d : ℕ} {ts : Tree} → t ≡ node (existential_trait d) ts → ExistentialShape t
  projection_shape : {d : ℕ} {ts : Tree} → t ≡ node (existential_projection d) ts → ExistentialShape t
  auto_shape : {d : ℕ} → t ≡ leaf (atom (existential_auto d)) → ExistentialShape t

shape_of : (t : Tree) → IsByParts t → sort_of t ≡ existential_sort → ExistentialShape t
shape_of (node (existential_trait d) ts) o e = trait_shape refl
shape_of (node (existential_projection d) ts) o e = projection_shape refl
shape_of (leaf (atom (existential_auto d))) o e = auto_shape refl
shape_of (leaf (atom not_null_pattern)) o e = absurd (cc)
shape_of (node pattern_type ts) o e = absurd (cc)
shape_of (node range_pattern ts) o e = absurd (cc)
shape_of (node or_pattern ts) o e = absurd (cc)
shape_of (node fn_ptr ts) o e = absurd (cc)
shape_of (node unsafe_binder ts) o e = absurd (cc)
shape_of (node dynamic ts) o e = absurd (cc)
shape_of (node object ts) o e = absurd (cc)
shape_of (node (signature x s k) ts) o e = absurd (cc)
shape_of (node inputs ts) o e = absurd (cc)
shape_of t o e = absurd o

shapes_alike : (s : Assign) (a b : Tree) → ExistentialShape a → ExistentialShape b → Unifies s a b →
    AreAlikeExistentials a b
shapes_alike s a b (trait_shape p) (trait_shape q) e = both_traits p q
shapes_alike s a b (projection_shape p) (projection_shape q) e = both_projections p q
shapes_alike s a b (auto_shape p) (auto_shape q) e = both_auto_traits p q
shapes_alike s a b (trait_shape p) (projection_shape q) e = absurd (let z = subst₂ (Unifies s) p q e in cc)
shapes_alike s a b (trait_shape p) (auto_shape q) e = absurd (let z = subst₂ (Unifies s) p q e in cc)
shapes_alike s a b (projection_shape p) (trait_shape q) e = absurd (let z = subst₂ (Unifies s) p q e in cc)
shapes_alike s a b (projection_shape p) (auto_shape q) e = absurd (let z = subst₂ (Unifies s) p q e in cc)
shapes_alike s a b (auto_shape p) (trait_shape q) e = absurd (let z = subst₂ (Unifies s) p q e in cc)
shapes_alike s a b (auto_shape p) (projection_shape q) e = absurd (let z = subst₂ (Unifies s) p q e in cc)

-- So are the members of a trait object, under their binders.
existential_shape : (t : Tree) → IsTerm existential_sort t → ExistentialShape t
existential_shape t f = shape_of t (form_is existential_sort t tt f)
    (only existential_sort (sort_of t) tt (sort_is existential_sort t f))

members_alike : (s : Assign) (t u : Tree) → IsBinder existential_sort t → IsBinder existential_sort u →
    Unifies s t u → AreAlikeMembers t u
members_alike s (bind ks t) (bind ls u) f g e = under_binders refl refl
    (shapes_alike s t u (existential_shape t f) (existential_shape u g) (cc))
members_alike s (bind ks t) (leaf l) f g e = absurd g
members_alike s (bind ks t) (node h us) f g e = absurd g
members_alike s (bind ks t) nil f g e = absurd g
members_alike s (bind ks t) (cons u us) f g e = absurd g
members_alike s t u f g e = absurd f

-- Which of the three forms it has.
abbrev form_number : Tree → ℕ
form_number (node (existential_trait d) ts) = 0
form_number (node (existential_projection d) ts) = 1
form_number t = 2

same_number : (a b : Tree) → AreAlikeExistentials a b → form_number a ≡ form_number b
same_number a b (both_traits d e) = ap form_number d ∙ sym (ap form_number e)
same_number a b (both_projections d e) = ap form_number d ∙ sym (ap form_number e)
same_number a b (both_auto_traits d e) = ap form_number d ∙ sym (ap form_number e)

module _ {Key Id Name : Type 0} (m : Meaning Key Id Name) where
  abbrev tree : ExistentialPredicate Key Id → Tree
  tree p = existential_tree m p

  pub not_trait : (p q : ExistentialPredicate Key Id) (r : ExistentialTraitRef Key Id) → p ≡ Trait r →
      ((o : ExistentialTraitRef Key Id) → q ≡ Trait o → ⊥) → AreAlikeExistentials (tree p) (tree q) → ⊥
  not_trait p (Trait o) r e n a = n o refl
  not_trait p (Projection o) r e n a =
      let z : 0 ≡ 1 = sym (ap (λ x. form_number (tree x)) e) ∙ same_number (tree p) (tree (Projection o)) a in
      omega (arith, z)
  not_trait p (AutoTrait o) r e n a =
      let z : 0 ≡ 2 = sym (ap (λ x. form_number (tree x)) e) ∙ same_number (tree p) (tree (AutoTrait o)) a in
      omega (arith, z)

  pub not_projection : (p q : ExistentialPredicate Key Id) (r : ExistentialProjection Key Id) → p ≡ Projection r →
      ((o : ExistentialProjection Key Id) → q ≡ Projection o → ⊥) → AreAlikeExistentials (tree p) (tree q) → ⊥
  not_projection p (Projection o) r e n a = n o refl
  not_projection p (Trait o) r e n a =
      let z : 1 ≡ 0 = sym (ap (λ x. form_number (tree x)) e) ∙ same_number (tree p) (tree (Trait o)) a in
      omega (arith, z)
  not_projection p (AutoTrait o) r e n a =
      let z : 1 ≡ 2 = sym (ap (λ x. form_number (tree x)) e) ∙ same_number (tree p) (tree (AutoTrait o)) a in
      omega (arith, z)

  pub not_auto : (p q : ExistentialPredicate Key Id) (r : TraitId Id) → p ≡ AutoTrait r →
      ((o : TraitId Id) → q ≡ AutoTrait o → ⊥) → AreAlikeExistentials (tree p) (tree q) → ⊥
  not_auto p (AutoTrait o) r e n a = n o refl
  not_auto p (Trait o) r e n a =
      let z : 2 ≡ 0 = sym (ap (λ x. form_number (tree x)) e) ∙ same_number (tree p) (tree (Trait o)) a in
      omega (arith, z)
  not_auto p (Projection o) r e n a =
      let z : 2 ≡ 1 = sym (ap (λ x. form_number (tree x)) e) ∙ same_number (tree p) (tree (Projection o)) a in
      omega (arith, z)

  existential_sort_is : (p : ExistentialPredicate Key Id) → sort_of (tree p) ≡ existential_sort
  existential_sort_is (Trait o) = refl
  existential_sort_is (Projection o) = refl
  existential_sort_is (AutoTrait o) = refl

  pub unlike_predicates : (p q : ExistentialPredicate Key Id) → (AreAlikeExistentials (tree p) (tree q) → ⊥) →
      ExistentialError m (tree p) (tree q) Mismatch
  unlike_predicates p q n = unlike_existentials (existential_sort_is p) (existential_sort_is q) n

  -- Over one item two are told apart by the numbers of their parts.
  module _ (p q : ExistentialPredicate Key Id) (h : Head) (ts us : Tree) (i j : ℕ) (s : head_sort h ≡ existential_sort)
      (d : tree p ≡ node h ts) (e : tree q ≡ node h us) (result : Result (Unit {0}) (TypeError Key Id Name)) where
    pub counts_alike : (i ≡ j → count ts ≡ count us) → OnOk result (i ≡ j) →
        OnOk result (AreOfOneForm (tree p) (tree q))
    counts_alike n r = on_ok_weaker result (λ z. over_parts d e (n z)) r

    pub counts_differ : (count ts ≡ count us → i ≡ j) → IfErr result (λ x. (i ≢ j) × (x ≡ Mismatch)) →
        IfErr result (ExistentialError m (tree p) (tree q))
    counts_differ n r = IfErr-weaker result (λ x. (i ≢ j) × (x ≡ Mismatch)) (ExistentialError m (tree p) (tree q))
        (λ x z. subst (ExistentialError m (tree p) (tree q)) (sym z.1) (unlike_arguments s d e (λ c. z.0 (n c)))) r

-- Members are alike just where the predicates under their binders are.
alike_under : (ks ls : List BoundKind) (a b t u : Tree) → bind ks a ≡ t → bind ls b ≡ u → AreAlikeMembers t u →
    AreAlikeExistentials a b
alike_under ks ls a b t u p q (under_binders {a = x} {b = y} d e h) =
    let left : a ≡ x = (let z = p ∙ d in cc) in
    let right : b ≡ y = (let z = q ∙ e in cc) in
    subst₂ AreAlikeExistentials (sym left) (sym right) h

pub members_as : (o q : Option (List BoundKind)) (a b t u : Tree) → under o a ≡ t → under q b ≡ u →
    IsTrue (known t) → IsTrue (known u) →
    (AreAlikeExistentials a b → AreAlikeMembers t u) × (AreAlikeMembers t u → AreAlikeExistentials a b)
members_as (Some ks) (Some ls) a b t u p q k l =
    (λ h. under_binders (sym p) (sym q) h, λ h. alike_under ks ls a b t u p q h)
members_as None q a b t u p e k l = absurd (false≢true (subst (λ z. IsTrue (known z)) (sym p) k))
members_as (Some ks) None a b t u p e k l = absurd (false≢true (subst (λ z. IsTrue (known z)) (sym e) l))

unified_nth : (s : Assign) (ts us : Tree) (i : ℕ) → i < count ts → i < count us → Unifies s ts us →
    Unifies s (nth i ts) (nth i us)
unified_nth s (cons t ts) (cons u us) zero l m e = cc
unified_nth s (cons t ts) (cons u us) (suc i) l m e = unified_nth s ts us i (omega (arith, l)) (omega (arith, m)) (cc)
unified_nth s (cons t ts) us i l m e = absurd (omega (arith, m))
unified_nth s ts us i l m e = absurd (omega (arith, l))

module _ {Key Id Name : Type 0} (m : Meaning Key Id Name) where
  signatures_apart : (s : Assign) (k l : Sort) (a b : Tree) (e : TypeError Key Id Name) → IsTerm k a → IsTerm l b →
      SignatureError a b e → Unifies s a b → ⊥
  signatures_apart s k l a b e f g (unlike_variadic {x} {y} {s = i} {t = j} {k = c} {l = d} {ts} {us} p r n is) z =
      n (let h = one_head s (signature x i c) (signature y j d) ts us (subst₂ (Unifies s) p r z) in cc)
  signatures_apart s k l a b e f g (unlike_safety {x} {s = i} {t = j} {k = c} {l = d} {ts} {us} p r n is) z =
      n (let h = one_head s (signature x i c) (signature x j d) ts us (subst₂ (Unifies s) p r z) in cc)
  signatures_apart s k l a b e f g (unlike_abi {x} {s = i} {k = c} {l = d} {ts} {us} p r n is) z =
      n (let h = one_head s (signature x i c) (signature x i d) ts us (subst₂ (Unifies s) p r z) in cc)
  signatures_apart s k l a b e f g (unlike_counts {ts} {us} p r n is) z =
      n (unified_counts s inputs ts us a b (λ h. absurd (cc)) p r (list_of inputs k ts a p f) (list_of inputs l us b r g) z)

  existentials_apart : (s : Assign) (k l : Sort) (a b : Tree) (e : TypeError Key Id Name) → IsByParts a →
      IsByParts b → IsTerm k a → IsTerm l b → ExistentialError m a b e → Unifies s a b → ⊥
  existentials_apart s k l a b e o q f g (unlike_traits {ts} {us} c d p r n) z =
      n (let h = one_head s (existential_trait (m.id c.0)) (existential_trait (m.id d.0)) ts us (subst₂ (Unifies s) p r z) in cc)
  existentials_apart s k l a b e o q f g (unlike_auto_traits c d p r n) z =
      n (let h : leaf (atom (existential_auto (m.id c.0))) ≡ leaf (atom (existential_auto (m.id d.0))) =
      subst₂ (Unifies s) p r z in cc)
  existentials_apart s k l a b e o q f g (unlike_projections {ts} {us} c d p r n) z =
      n (let h = one_head s (existential_projection (m.id c)) (existential_projection (m.id d)) ts us
      (subst₂ (Unifies s) p r z) in cc)
  existentials_apart s k l a b e o q f g (unlike_arguments {h} {ts} {us} i p r n) z =
      n (unified_counts s h ts us a b (no_value_type h ts (subst IsByParts p o)) p r (list_of h k ts a p f)
      (list_of h l us b r g) z)
  existentials_apart s k l a b e o q f g (unlike_existentials i j n) z =
      n (shapes_alike s a b (shape_of a o i) (shape_of b q j) z)

  objects_apart : (s : Assign) (k l : Sort) (xs ys : Tree) → IsTerm k (node object xs) → IsTerm l (node object ys) →
      Unifies s (node object xs) (node object ys) → (count xs ≡ count ys) × ((i : ℕ) → i < count xs → i < count ys →
      AreAlikeMembers (nth i xs) (nth i ys))
  objects_apart s k l xs ys f g z =
      let no : object ≢ value_type = (λ h. absurd (cc)) in
      let inside : Unifies s xs ys = (forms_unify_by_parts s object xs ys no).0 z in (
        unified_counts s object xs ys (node object xs) (node object ys) no refl refl (parts_list object xs f.1)
            (parts_list object ys g.1) z,
        λ i lx ly. members_alike s (nth i xs) (nth i ys) (binder_nth existential_sort xs i f.1 lx)
            (binder_nth existential_sort ys i g.1 ly) (unified_nth s xs ys i lx ly inside),
      )

  object_error_apart : (s : Assign) (k l : Sort) (x y : ExistentialPredicatesKey Key) (e : TypeError Key Id Name) →
      IsTerm k (node object (m.existential_predicates x)) → IsTerm l (node object (m.existential_predicates y)) →
      ObjectError m x y e → Unifies s (node object (m.existential_predicates x))
      (node object (m.existential_predicates y)) → ⊥
  object_error_apart s k l x y e f g (unlike_numbers n) z =
      n (objects_apart s k l (m.existential_predicates x) (m.existential_predicates y) f g z).0
  object_error_apart s k l x y e f g (unlike_members i lx ly n) z =
      n ((objects_apart s k l (m.existential_predicates x) (m.existential_predicates y) f g z).1 i lx ly)

  -- What is related by its parts is neither over the arguments of an item nor a predicate of a trait.
  item_not_by_parts : (h : Head) (ts : Tree) → IsItemHead h → IsByParts (node h ts) → ⊥
  item_not_by_parts (alias_term k d) ts i o = o
  item_not_by_parts (trait_ref d) ts i o = o
  item_not_by_parts h ts i o = i

  not_item : (a b : Tree) (e : TypeError Key Id Name) → IsByParts a → ItemError m a b e → ⊥
  not_item a b e o (unlike_alias_terms c d p q n) = subst IsByParts p o
  not_item a b e o (unlike_trait_refs c d p q n) = subst IsByParts p o
  not_item a b e o (unlike_lists {h} {ts} is alike p q n) = item_not_by_parts h ts is (subst IsByParts p o)
  not_item a b e o (unlike_polarities p q n) = subst IsByParts p o

  -- Two that are not of one form are not unified, and so never one.
  pub part_error_not_unified : (s : Assign) (k l : Sort) (a b : Tree) (e : TypeError Key Id Name) → IsByParts a →
      IsByParts b → IsTerm k a → IsTerm l b → PartError m a b e → Unifies s a b → ⊥
  part_error_not_unified s k l a b e o q f g (pattern_error (unlike_patterns i j n is)) z =
      n (terms_unified s k l a b o q f g z)
  part_error_not_unified s k l a b e o q f g (signature_error h) z = signatures_apart s k l a b e f g h z
  part_error_not_unified s k l a b e o q f g (existential_error h) z = existentials_apart s k l a b e o q f g h z
  part_error_not_unified s k l a b e o q f g (item_error h) z = not_item a b e o h
  part_error_not_unified s k l a b e o q f g (object_error x y p r h) z = object_error_apart s k l x y e
      (subst (IsTerm k) (sym p) f) (subst (IsTerm l) (sym r) g) h (subst₂ (Unifies s) (sym p) (sym r) z)

  pub part_error_apart : (st : Store) (k l : Sort) (a b : Tree) (e : TypeError Key Id Name) → IsByParts a →
      IsByParts b → IsTerm k a → IsTerm l b → PartError m a b e → NoUnifier st a b
  part_error_apart st k l a b e o q f g h = λ s sol z. part_error_not_unified s k l a b e o q f g h z

  pub part_error_never : (st : Store) (v : Variance) (k l : Sort) (a b : Tree) (e : TypeError Key Id Name) →
      IsByParts a → IsByParts b → IsTerm k a → IsTerm l b → PartError m a b e → NeverOne (at v) st a b
  part_error_never st v k l a b e o q f g h = λ w s sat z. part_error_not_unified s k l a b e o q f g h (ap erase z)

  -- It names lists that are known where the two are.
  list_known : (a : Tree) (x : ExistentialPredicatesKey Key) → node object (m.existential_predicates x) ≡ a →
      IsTrue (known a) → IsTrue (known (m.existential_predicates x))
  list_known a x p k =
      let z : IsTrue (known (node object (m.existential_predicates x))) = subst (λ t. IsTrue (known t)) (sym p) k in z

  object_error_known : (x y : ExistentialPredicatesKey Key) (e : TypeError Key Id Name) →
      IsTrue (known (m.existential_predicates x)) → IsTrue (known (m.existential_predicates y)) →
      ObjectError m x y e → KnowsError m e
  object_error_known x y e k l (unlike_numbers n) = (k, l)
  object_error_known x y e k l (unlike_members i lx ly n) = (k, l)

  pub part_error_known : (a b : Tree) (e : TypeError Key Id Name) → IsTrue (known a) → IsTrue (known b) →
      PartError m a b e → KnowsError m e
  part_error_known a b e x y (pattern_error (unlike_patterns i j n is)) = subst (KnowsError m) (sym is) tt
  part_error_known a b e x y (signature_error (unlike_variadic p r n is)) = subst (KnowsError m) (sym is) tt
  part_error_known a b e x y (signature_error (unlike_safety p r n is)) = subst (KnowsError m) (sym is) tt
  part_error_known a b e x y (signature_error (unlike_abi p r n is)) = subst (KnowsError m) (sym is) tt
  part_error_known a b e x y (signature_error (unlike_counts p r n is)) = subst (KnowsError m) (sym is) tt
  part_error_known a b e x y (existential_error (unlike_traits c d p r n)) = tt
  part_error_known a b e x y (existential_error (unlike_auto_traits c d p r n)) = tt
  part_error_known a b e x y (existential_error (unlike_projections c d p r n)) = tt
  part_error_known a b e x y (existential_error (unlike_arguments i p r n)) = tt
  part_error_known a b e x y (existential_error (unlike_existentials i j n)) = tt
  part_error_known a b e x y (item_error (unlike_alias_terms c d p q n)) = tt
  part_error_known a b e x y (item_error (unlike_trait_refs c d p q n)) = tt
  part_error_known a b e x y (item_error (unlike_lists is alike p q n)) = tt
  part_error_known a b e x y (item_error (unlike_polarities p q n)) = tt
  part_error_known a b e x y (object_error c d p r h) =
      object_error_known c d e (list_known a c p x) (list_known b d r y) h
