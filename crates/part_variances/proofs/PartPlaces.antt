-- The parts of terms that are related by their parts: of which sorts they are, and that two at one place make a pair.
use Rattle.std.proofs.Common.{◌≡◌, ℕ, zero, suc, ◌<◌, refl, sym, ap, ◌∙◌, subst, subst₂, inl, inr, arith, [], ◌∷◌, IsTrue}
use Rattle.std.proofs.Common.{None, Some}
use Rattle.relation_terms.specs.declared.terms.part_kind.Part.{Part as TermPart}
use Rattle.relation_terms.specs.declared.terms.part_kind.Part.TheVariants.{Region, Ty, Const, ValTree, Pat, ValueType}
use Rattle.relation_terms.specs.declared.terms.part_kind.Part.TheVariants.{Binder, Signature, Inputs, Existential, Object}
use Rattle.relation_terms.specs.Heads.{Sort, region_sort, type_sort, const_sort, argument_sort, term_sort, pattern_sort}
use Rattle.relation_terms.specs.Heads.{no_sort, signature_sort, inputs_sort, existential_sort, object_sort, binder_sort}
use Rattle.relation_terms.specs.Heads.{value_sort, value_type_sort, Admits, term_of, binder_of, row, head_parts}
use Rattle.relation_terms.specs.Heads.{Head, pattern_type, range_pattern, or_pattern, fn_ptr, unsafe_binder}
use Rattle.relation_terms.specs.Heads.{dynamic, object, signature, inputs, existential_trait, existential_projection}
use Rattle.relation_terms.specs.Trees.{Tree, leaf, node, bind, nil, cons, IsTerm, IsBinder, AreTerms, Fits, count, nth, known}
use Rattle.relation_terms.specs.Parts.{part_sort, tree_sort, part_tree}
use Rattle.relation_terms.specs.Interning.{Sorted}
use Rattle.relation_terms.proofs.Parts.{sort_known}
use Rattle.term_enums.specs.Variances.{xform}
use Rattle.relation_terms.specs.Meaning.{Meaning, existential_tree, signature_tree}
use Rattle.relation_terms.specs.declared.terms.fn_sig.FnSig.{FnSig}
use Rattle.term_enums.specs.declared.Variance.{Variance}
use Rattle.term_enums.specs.declared.Variance.TheVariants.{Covariant, Contravariant, Invariant}
use Rattle.relation_terms.specs.declared.predicate.existential.ExistentialPredicate.{ExistentialPredicate}
use Rattle.relation_terms.specs.declared.predicate.existential.ExistentialPredicate.TheVariants.{Trait, AutoTrait}
use Rattle.relation_terms.specs.declared.predicate.existential.ExistentialPredicate.TheVariants.{Projection}
use Rattle.relation_semantics.specs.Relation.{Items, mode, part_at}
use Rattle.relation_terms.proofs.Members.{type_term, const_term, pattern_term, region_term, term_admits}
use Rattle.relation_semantics.specs.Errors.{AreOfOneForm}
use Rattle.relation_semantics.specs.Parts.{direct_parts, head_of, IsByParts, IsRelatedPart, IsArgPart, ArePaired}
use Rattle.part_variances.proofs.Patterns.{term_alike, term_part_at, IsFormSort}

pub only : (k j : Sort) → IsFormSort k → Admits k j → j ≡ k
only pattern_sort pattern_sort o h = refl
only pattern_sort j o h = absurd h
only signature_sort signature_sort o h = refl
only signature_sort j o h = absurd h
only inputs_sort inputs_sort o h = refl
only inputs_sort j o h = absurd h
only existential_sort existential_sort o h = refl
only existential_sort j o h = absurd h
only object_sort object_sort o h = refl
only object_sort j o h = absurd h
only k j o h = absurd o

form_term : (k : Sort) (t : Tree) → IsFormSort k → IsTerm k t → tree_sort t ≡ k
form_term k t o f = only k (tree_sort t) o (term_admits k t f)

binder_term : (k : Sort) (t : Tree) → ((u : Tree) → IsTerm k u → tree_sort u ≡ k) → IsBinder k t →
    tree_sort t ≡ binder_sort k
binder_term k (bind ks u) h f = ap binder_sort (h u f)
binder_term k (leaf l) h f = absurd f
binder_term k (node g ts) h f = absurd f
binder_term k nil h f = absurd f
binder_term k (cons u ts) h f = absurd f

-- A list of two terms, and its members.
pub two_shape : (s k : Sort) (ts : Tree) → Fits (row (term_of s ∷ term_of k ∷ []) None) ts →
    (t : Tree) × (u : Tree) × (ts ≡ cons t (cons u nil)) × IsTerm s t × IsTerm k u
two_shape s k (cons t (cons u nil)) f = (t, u, refl, f.0, f.1.0)
two_shape s k (cons t (cons u (cons w us))) f = absurd f.1.1
two_shape s k (cons t (cons u (leaf l))) f = absurd f.1.1
two_shape s k (cons t (cons u (node h us))) f = absurd f.1.1
two_shape s k (cons t (cons u (bind ks w))) f = absurd f.1.1
two_shape s k (cons t nil) f = absurd f.1
two_shape s k (cons t (leaf l)) f = absurd f.1
two_shape s k (cons t (node h us)) f = absurd f.1
two_shape s k (cons t (bind ks u)) f = absurd f.1
two_shape s k ts f = absurd f

two_place : (s k : Sort) (P : ℕ → Sort → Type 0) (ts : Tree) (i : ℕ) → ((t : Tree) → IsTerm s t → P 0 (tree_sort t)) →
    ((t : Tree) → IsTerm k t → P 1 (tree_sort t)) → Fits (row (term_of s ∷ term_of k ∷ []) None) ts → i < count ts →
    P i (tree_sort (nth i ts))
two_place s k P ts i here there f l =
    let (t, u, e, g, h) = two_shape s k ts f in
    subst (λ y. P i (tree_sort (nth i y))) (sym e) (at_place t u g h i (subst (λ y. i < count y) e l))
  where
    at_place : (t u : Tree) → IsTerm s t → IsTerm k u → (i : ℕ) → i < 2 → P i (tree_sort (nth i (cons t (cons u nil))))
    at_place t u g h zero m = here t g
    at_place t u g h (suc zero) m = there u h
    at_place t u g h (suc (suc i)) m = absurd (omega (arith, m))

-- A list of terms of one sort, one of binders, and one binder.
all_place : (s : Sort) (P : Sort → Type 0) (ts : Tree) (i : ℕ) → ((t : Tree) → IsTerm s t → P (tree_sort t)) →
    AreTerms s ts → i < count ts → P (tree_sort (nth i ts))
all_place s P (cons t ts) zero here f l = here t f.0
all_place s P (cons t ts) (suc i) here f l = all_place s P ts i here f.1 (omega (arith, l))
all_place s P nil i here f l = absurd (omega (arith, l))
all_place s P (leaf x) i here f l = absurd f
all_place s P (node h ts) i here f l = absurd f
all_place s P (bind ks t) i here f l = absurd f

pub binder_nth : (s : Sort) (ts : Tree) (i : ℕ) → Fits (row [] (Some (binder_of s))) ts → i < count ts →
    IsBinder s (nth i ts)
binder_nth s (cons t ts) zero f l = f.0
binder_nth s (cons t ts) (suc i) f l = binder_nth s ts i f.1 (omega (arith, l))
binder_nth s nil i f l = absurd (omega (arith, l))
binder_nth s (leaf x) i f l = absurd f
binder_nth s (node h ts) i f l = absurd f
binder_nth s (bind ks t) i f l = absurd f

one_binder_nth : (s : Sort) (ts : Tree) (i : ℕ) → Fits (row (binder_of s ∷ []) None) ts → i < count ts →
    IsBinder s (nth i ts)
one_binder_nth s (cons t nil) zero f l = f.0
one_binder_nth s (cons t nil) (suc i) f l = absurd (omega (arith, l))
one_binder_nth s (cons t (cons u us)) i f l = absurd f.1
one_binder_nth s (cons t (leaf x)) i f l = absurd f.1
one_binder_nth s (cons t (node h us)) i f l = absurd f.1
one_binder_nth s (cons t (bind ks u)) i f l = absurd f.1
one_binder_nth s ts i f l = absurd f

-- A term of a predicate, then arguments: all are arguments.
term_is_argument : (x : Sort) → Admits term_sort x → Admits argument_sort x
term_is_argument type_sort h = tt
term_is_argument const_sort h = tt
term_is_argument x h = absurd h

term_args_place : (ts : Tree) (i : ℕ) → Fits (row (term_of term_sort ∷ []) (Some (term_of argument_sort))) ts →
    i < count ts → Admits argument_sort (tree_sort (nth i ts))
term_args_place (cons t ts) zero f l = term_is_argument (tree_sort t) (term_admits term_sort t f.0)
term_args_place (cons t ts) (suc i) f l =
    all_place argument_sort (Admits argument_sort) ts i (term_admits argument_sort) f.1 (omega (arith, l))
term_args_place ts i f l = absurd f

-- Of which sort the part at a place is: of that of the place, or an argument of any sort.
abbrev place_sort : Head → ℕ → Sort
place_sort pattern_type zero = type_sort
place_sort pattern_type (suc i) = pattern_sort
place_sort range_pattern i = const_sort
place_sort or_pattern i = pattern_sort
place_sort fn_ptr i = binder_sort signature_sort
place_sort unsafe_binder i = binder_sort type_sort
place_sort dynamic zero = object_sort
place_sort dynamic (suc i) = region_sort
place_sort object i = binder_sort existential_sort
place_sort (signature x s k) zero = inputs_sort
place_sort (signature x s k) (suc i) = type_sort
place_sort inputs i = type_sort
place_sort (existential_trait d) i = argument_sort
place_sort (existential_projection d) i = argument_sort
place_sort h i = no_sort

abbrev StandsAt : Sort → Sort → Type 0
StandsAt argument_sort j = Admits argument_sort j
StandsAt k j = j ≡ k

head_place : (h : Head) (ts : Tree) (i : ℕ) → IsByParts (node h ts) → Fits (head_parts h) ts → i < count ts →
    StandsAt (place_sort h i) (tree_sort (nth i ts))
head_place pattern_type ts i o f l =
    two_place type_sort pattern_sort (λ i. StandsAt (place_sort pattern_type i)) ts i type_term pattern_term f l
head_place range_pattern ts i o f l =
    two_place const_sort const_sort (λ i. StandsAt (place_sort range_pattern i)) ts i const_term const_term f l
head_place or_pattern ts i o f l = all_place pattern_sort (StandsAt pattern_sort) ts i pattern_term f l
head_place fn_ptr ts i o f l = binder_term signature_sort (nth i ts) (λ u. form_term signature_sort u tt)
    (one_binder_nth signature_sort ts i f l)
head_place unsafe_binder ts i o f l =
    binder_term type_sort (nth i ts) type_term (one_binder_nth type_sort ts i f l)
head_place dynamic ts i o f l = two_place object_sort region_sort (λ i. StandsAt (place_sort dynamic i)) ts i
    (λ t. form_term object_sort t tt) region_term f l
head_place object ts i o f l = binder_term existential_sort (nth i ts) (λ u. form_term existential_sort u tt)
    (binder_nth existential_sort ts i f l)
head_place (signature x s k) ts i o f l =
    two_place inputs_sort type_sort (λ i. StandsAt (place_sort (signature x s k) i)) ts i
    (λ t. form_term inputs_sort t tt) type_term f l
head_place inputs ts i o f l = all_place type_sort (StandsAt type_sort) ts i type_term f l
head_place (existential_trait d) ts i o f l =
    all_place argument_sort (Admits argument_sort) ts i (term_admits argument_sort) f l
head_place (existential_projection d) ts i o f l = term_args_place ts i f l
head_place h ts i o f l = absurd o

term_place : (s : Sort) (t : Tree) (i : ℕ) → IsTerm s t → IsByParts t → i < count (direct_parts t) →
    StandsAt (place_sort (head_of t) i) (tree_sort (nth i (direct_parts t)))
term_place s (node h ts) i f o l = head_place h ts i o f.1 l
term_place s (leaf x) i f o l = absurd (omega (arith, l))
term_place s t i f o l = absurd o

-- A place is at the whole's own variance, but of a signature's inputs and in predicates of trait objects.
pub covariant_place : (c : Items) (t : Tree) (i : ℕ) → IsByParts t → (tree_sort t ≡ existential_sort → ⊥) →
    (tree_sort t ≡ signature_sort → i ≡ 0 → ⊥) → mode c (head_of t) i ≡ Covariant
covariant_place c (node pattern_type ts) i o e n = refl
covariant_place c (node range_pattern ts) i o e n = refl
covariant_place c (node or_pattern ts) i o e n = refl
covariant_place c (node fn_ptr ts) i o e n = refl
covariant_place c (node unsafe_binder ts) i o e n = refl
covariant_place c (node dynamic ts) i o e n = refl
covariant_place c (node object ts) i o e n = refl
covariant_place c (node (signature x s k) ts) zero o e n = absurd (n refl refl)
covariant_place c (node (signature x s k) ts) (suc i) o e n = refl
covariant_place c (node inputs ts) i o e n = refl
covariant_place c (node (existential_trait d) ts) i o e n = absurd (e refl)
covariant_place c (node (existential_projection d) ts) i o e n = absurd (e refl)
covariant_place c (leaf l) i o e n = refl
covariant_place c t i o e n = absurd o

module _ {Key Id Name : Type 0} (m : Meaning Key Id Name) (c : Items) where
  pub existential_place : (p : ExistentialPredicate Key Id) (i : ℕ) (v : Variance) →
      i < count (direct_parts (existential_tree m p)) → xform v Invariant ≡ part_at c (head_of (existential_tree m p)) i v
  existential_place (Trait p) i v l = refl
  existential_place (Projection p) i v l = refl
  existential_place (AutoTrait d) i v l = absurd (omega (arith, l))

  pub signature_place : (g : FnSig Key) (i : ℕ) (v : Variance) → i ≡ 0 →
      xform v Contravariant ≡ part_at c (head_of (signature_tree m g)) i v
  signature_place g zero v e = refl
  signature_place g (suc i) v e = absurd (omega (arith, e))

-- A signature is no predicate of a trait object.
pub apart : {Key Id : Type 0} (g : FnSig Key) (o : ExistentialPredicate Key Id) (p : TermPart Key Id) →
    p ≡ Signature g → p ≡ Existential o → ⊥
apart g o p d e = let z : signature_sort ≡ existential_sort = ap part_sort (sym d ∙ e) in cc

-- All other parts are at the whole's own variance.
module _ {Key Id Name : Type 0} (m : Meaning Key Id Name) (sorted : Sorted m) (c : Items) where
  no_existential : (p : TermPart Key Id) → ((o : ExistentialPredicate Key Id) → p ≡ Existential o → ⊥) →
      part_sort p ≡ existential_sort → ⊥
  no_existential (Existential o) n e = n o refl
  no_existential (Region r) n e = cc
  no_existential (Ty t) n e = cc
  no_existential (Const k) n e = cc
  no_existential (ValTree v) n e = cc
  no_existential (Pat o) n e = cc
  no_existential (ValueType t) n e = cc
  no_existential (Binder vs b) n e = cc
  no_existential (Signature g) n e = cc
  no_existential (Inputs t) n e = cc
  no_existential (Object k) n e = cc

  no_signature : (p : TermPart Key Id) (i : ℕ) → ((g : FnSig Key) → p ≡ Signature g → i ≡ 0 → ⊥) →
      part_sort p ≡ signature_sort → i ≡ 0 → ⊥
  no_signature (Signature g) i n e z = n g refl z
  no_signature (Region r) i n e z = cc
  no_signature (Ty t) i n e z = cc
  no_signature (Const k) i n e z = cc
  no_signature (ValTree v) i n e z = cc
  no_signature (Pat o) i n e z = cc
  no_signature (ValueType t) i n e z = cc
  no_signature (Binder vs b) i n e z = cc
  no_signature (Existential o) i n e z = cc
  no_signature (Inputs t) i n e z = cc
  no_signature (Object k) i n e z = cc

  pub other_place : (p : TermPart Key Id) (i : ℕ) (v : Variance) → IsTrue (known (part_tree m p)) →
      IsByParts (part_tree m p) → ((o : ExistentialPredicate Key Id) → p ≡ Existential o → ⊥) →
      ((g : FnSig Key) → p ≡ Signature g → i ≡ 0 → ⊥) →
      xform v Covariant ≡ part_at c (head_of (part_tree m p)) i v
  other_place p i v k o n z =
      let t = part_tree m p in
      let e = sort_known m sorted p k in
      ap (xform v) (sym (covariant_place c t i o (λ q. no_existential p n (sym e ∙ q))
      (λ q. no_signature p i z (sym e ∙ q)))) ∙ sym (term_part_at c t i v o)

-- No such part is a value tree or the type of a value.
abbrev IsNoValue : Sort → Type 0
IsNoValue value_sort = ⊥
IsNoValue value_type_sort = ⊥
IsNoValue s = Unit {0}

place_no_value : (h : Head) (ts : Tree) (i : ℕ) → IsByParts (node h ts) → IsNoValue (place_sort h i)
place_no_value pattern_type ts zero o = tt
place_no_value pattern_type ts (suc i) o = tt
place_no_value range_pattern ts i o = tt
place_no_value or_pattern ts i o = tt
place_no_value fn_ptr ts i o = tt
place_no_value unsafe_binder ts i o = tt
place_no_value dynamic ts zero o = tt
place_no_value dynamic ts (suc i) o = tt
place_no_value object ts i o = tt
place_no_value (signature x s k) ts zero o = tt
place_no_value (signature x s k) ts (suc i) o = tt
place_no_value inputs ts i o = tt
place_no_value (existential_trait d) ts i o = tt
place_no_value (existential_projection d) ts i o = tt
place_no_value h ts i o = absurd o

tree_no_value : (t : Tree) (i : ℕ) → IsByParts t → i < count (direct_parts t) → IsNoValue (place_sort (head_of t) i)
tree_no_value (node h ts) i o l = place_no_value h ts i o
tree_no_value (leaf x) i o l = absurd (omega (arith, l))
tree_no_value t i o l = absurd o

stands_no_value : (k j : Sort) → IsNoValue k → StandsAt k j → IsNoValue j
stands_no_value argument_sort value_sort o a = a
stands_no_value argument_sort value_type_sort o a = a
stands_no_value argument_sort j o a = tt
stands_no_value region_sort j o e = subst IsNoValue (sym e) o
stands_no_value k j o e = subst IsNoValue (sym e) o

module _ {Key Id : Type 0} where
  related_in : (p : TermPart Key Id) → IsNoValue (part_sort p) → IsRelatedPart p
  related_in (ValTree v) o = o
  related_in (ValueType t) o = o
  related_in p o = tt

  is_argument : (p : TermPart Key Id) → Admits argument_sort (part_sort p) → IsArgPart p
  is_argument (Region r) a = tt
  is_argument (Ty t) a = tt
  is_argument (Const c) a = tt
  is_argument p a = absurd a

  pair_in : (k : Sort) (p q : TermPart Key Id) → StandsAt k (part_sort p) → StandsAt k (part_sort q) → ArePaired p q
  pair_in argument_sort p q a b = inl (is_argument p a, is_argument q b)
  pair_in region_sort p q a b = inr (b ∙ sym a)
  pair_in k p q a b = inr (b ∙ sym a)

-- The part at a place of such a term is one that is related, and makes a pair with the part at that place of another
-- term of one form.
module _ {Key Id : Type 0} (s k : Sort) (a b : Tree) (i : ℕ) (f : IsTerm s a) (g : IsTerm k b) (o : IsByParts a)
    (l : i < count (direct_parts a)) (x : TermPart Key Id) (is : tree_sort (nth i (direct_parts a)) ≡ part_sort x) where
  stands : StandsAt (place_sort (head_of a) i) (part_sort x)
  stands = subst (StandsAt (place_sort (head_of a) i)) is (term_place s a i f o l)

  pub related_part : IsRelatedPart x
  related_part = related_in x
      (stands_no_value (place_sort (head_of a) i) (part_sort x) (tree_no_value a i o l) stands)

  pub paired_part : (y : TermPart Key Id) → AreOfOneForm a b → head_of a ≡ head_of b → i < count (direct_parts b) →
      tree_sort (nth i (direct_parts b)) ≡ part_sort y → ArePaired x y
  paired_part y one e m is_y = pair_in (place_sort (head_of a) i) x y stands
      (subst₂ (λ h j. StandsAt (place_sort h i) j) (sym e) is_y (term_place k b i g (term_alike a b one o) m))
