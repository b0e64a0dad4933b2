-- Folds of the parts of predicates: what is made of them, or nothing where they are left as they were.
use Rattle.std.specs.Prelude.{◌≡◌, ◌≢◌, ℕ, Option, Some, None}
use Rattle.relation_terms.specs.Trees.{Tree}
use Rattle.relation_terms.specs.Meaning.{Meaning}
use Rattle.relation_terms.specs.Fields.{field_sort, field_tree, fields_tree, AlikeFields}
use Rattle.relation_terms.specs.declared.terms.parts.predicates.Field.{Field}
use Rattle.relation_terms.specs.declared.terms.parts.predicates.Fields.{Fields}
use Rattle.relation_terms.specs.declared.terms.parts.predicates.Fields.TheVariants.{Two}
use Rattle.relation_folds.specs.Folds.{folded}

-- Two parts, each in the place of an old one where there is one, or nothing where both are as they were.
abbrev pub two_or_none : {Key Id : Type 0} → Field Key Id → Field Key Id → Option (Field Key Id) →
    Option (Field Key Id) → Option (Fields Key Id)
two_or_none f g (Some x) (Some y) = Some (Two x y)
two_or_none f g (Some x) None = Some (Two x g)
two_or_none f g None (Some y) = Some (Two f y)
two_or_none f g None None = None

module _ {Key Id Name : Type 0} (puts : ℕ → Tree → Option Tree) (m n : Meaning Key Id Name) where
  -- What is made of a part, of its sort; nothing where it is left.
  abbrev pub FoldsField : Field Key Id → Option (Field Key Id) → Type 0
  FoldsField f None = folded puts 0 (field_tree m f) ≡ field_tree m f
  FoldsField f (Some by) = (field_tree n by ≡ folded puts 0 (field_tree m f)) ×
      ((field_sort by ≡ field_sort f) × (folded puts 0 (field_tree m f) ≢ field_tree m f))

  -- The same of all parts.
  abbrev pub FoldsFields : Fields Key Id → Option (Fields Key Id) → Type 0
  FoldsFields fs None = folded puts 0 (fields_tree m fs) ≡ fields_tree m fs
  FoldsFields fs (Some by) = (fields_tree n by ≡ folded puts 0 (fields_tree m fs)) ×
      (AlikeFields fs by × (folded puts 0 (fields_tree m fs) ≢ fields_tree m fs))
