-- Folds of the parts of predicates, one after another.
use Rattle.std.proofs.Common.{ℕ, ◌≡◌, refl, sym, ap₂, ◌∙◌, Option, Some, None, IfSome, IsTrue, true, ◌&&◌}
use Rattle.std.proofs.lemmas.Bool.{and_from}
use Rattle.relation_terms.specs.Trees.{Tree, nil, cons, known}
use Rattle.relation_terms.specs.Meaning.{Meaning, Extends}
use Rattle.relation_terms.specs.Fields.{field_tree, fields_tree}
use Rattle.relation_terms.specs.declared.terms.parts.predicates.Field.{Field}
use Rattle.relation_terms.specs.declared.terms.parts.predicates.Fields.TheVariants.{Two}
use Rattle.relation_terms.proofs.Fields.{stays_field}
use Rattle.relation_terms.proofs.Stays.{knows_as}
use Rattle.relation_folds.specs.Folds.{folded}
use Rattle.relation_folds.specs.FieldFolds.{FoldsField, FoldsFields, two_or_none}
use Rattle.relation_folds.proofs.Folding.{folded_later}

-- Two known parts.
pub both_known : (t u : Tree) → IsTrue (known t) → IsTrue (known u) → IsTrue (known (cons t (cons u nil)))
both_known t u h k = and_from (known t) (known u && true) h (and_from (known u) true k refl)

module _ {Key Id Name : Type 0} (m n o : Meaning Key Id Name) where
  -- What was made of a part first stays so while the interner grows.
  pub first_later : (p : ℕ → Tree → Option Tree) → Extends n o → (f : Field Key Id) (a : Option (Field Key Id)) →
      IfSome a (λ x. IsTrue (known (field_tree n x))) → FoldsField p m n f a → FoldsField p m o f a
  first_later p e f None k h = h
  first_later p e f (Some x) k h = (stays_field e x k ∙ h.0, h.1)

  pub first_known : Extends n o → (a : Option (Field Key Id)) → IfSome a (λ x. IsTrue (known (field_tree n x))) →
      IfSome a (λ x. IsTrue (known (field_tree o x)))
  first_known e None k = tt
  first_known e (Some x) k = knows_as (field_tree n x) (field_tree o x) (stays_field e x k) k

  -- What is made of a part that stayed is what was made of it at first.
  pub second_later : (p q : ℕ → Tree → Option Tree) → ((d : ℕ) (t : Tree) → q d t ≡ p d t) → (f : Field Key Id)
      (b : Option (Field Key Id)) → field_tree n f ≡ field_tree m f → FoldsField q n o f b → FoldsField p m o f b
  second_later p q kept f None s h =
      sym (folded_later p q kept 0 (field_tree m f) (field_tree n f) s) ∙ h ∙ s
  second_later p q kept f (Some y) s h =
      let l = folded_later p q kept 0 (field_tree m f) (field_tree n f) s in
      (h.0 ∙ l, (h.1.0, λ z. h.1.1 (l ∙ z ∙ sym s)))

  -- Both parts.
  pub two_known_now : (f g : Field Key Id) (a b : Option (Field Key Id)) → IsTrue (known (field_tree o f)) →
      IsTrue (known (field_tree o g)) → IfSome a (λ x. IsTrue (known (field_tree o x))) →
      IfSome b (λ x. IsTrue (known (field_tree o x))) →
      IfSome (two_or_none f g a b) (λ by. IsTrue (known (fields_tree o by)))
  two_known_now f g (Some x) (Some y) j k h i = both_known (field_tree o x) (field_tree o y) h i
  two_known_now f g (Some x) None j k h i = both_known (field_tree o x) (field_tree o g) h k
  two_known_now f g None (Some y) j k h i = both_known (field_tree o f) (field_tree o y) j i
  two_known_now f g None None j k h i = tt

  first_of : (t u v w : Tree) → cons t (cons u nil) ≡ cons v (cons w nil) → t ≡ v
  first_of t u v w e = cc

  second_of : (t u v w : Tree) → cons t (cons u nil) ≡ cons v (cons w nil) → u ≡ w
  second_of t u v w e = cc

  pub two_folded : (p : ℕ → Tree → Option Tree) (f g : Field Key Id) (a b : Option (Field Key Id)) →
      field_tree o f ≡ field_tree m f → field_tree o g ≡ field_tree m g → FoldsField p m o f a →
      FoldsField p m o g b → FoldsFields p m o (Two f g) (two_or_none f g a b)
  two_folded p f g (Some x) (Some y) j k h i = (
    ap₂ (λ s t. cons s (cons t nil)) h.0 i.0,
    (
      (h.1.0, i.1.0),
      λ z. h.1.1 (first_of
          (folded p 0 (field_tree m f)) (folded p 0 (field_tree m g)) (field_tree m f) (field_tree m g) z),
    ),
  )
  two_folded p f g (Some x) None j k h i = (
    ap₂ (λ s t. cons s (cons t nil)) h.0 (k ∙ sym i),
    (
      (h.1.0, refl),
      λ z. h.1.1 (first_of
          (folded p 0 (field_tree m f)) (folded p 0 (field_tree m g)) (field_tree m f) (field_tree m g) z),
    ),
  )
  two_folded p f g None (Some y) j k h i = (
    ap₂ (λ s t. cons s (cons t nil)) (j ∙ sym h) i.0,
    (
      (refl, i.1.0),
      λ z. i.1.1 (second_of
          (folded p 0 (field_tree m f)) (folded p 0 (field_tree m g)) (field_tree m f) (field_tree m g) z),
    ),
  )
  two_folded p f g None None j k h i = ap₂ (λ s t. cons s (cons t nil)) h i
