-- What folding promises: what is put, what is made, and that what is left as it was is kept.
use Rattle.std.specs.Prelude.{◌≡◌, ℕ, Bool, IsTrue, Option, Result, IfOk}
use Rattle.relation_terms.specs.Trees.{Tree}
use Rattle.relation_terms.specs.Meaning.{Meaning}
use Rattle.relation_terms.specs.declared.terms.keys.TyKey.{TyKey}
use Rattle.relation_terms.specs.declared.terms.keys.RegionKey.{RegionKey}
use Rattle.relation_terms.specs.declared.terms.keys.ConstKey.{ConstKey}
use Rattle.relation_terms.specs.declared.terms.keys.ArgsKey.{ArgsKey}
use Rattle.relation_terms.specs.declared.terms.part_kind.Part.{Part}
use Rattle.relation_terms.specs.declared.terms.part_kind.Parts.{Parts}
use Rattle.relation_terms.specs.Parts.{part_tree, parts_tree}
use Rattle.relation_folds.specs.declared.fold.Fold.{Fold}
use Rattle.relation_folds.specs.Folds.{folded, folded_parts, answered}

module _ {Key Id Name F E : Type 0} (puts : Meaning Key Id Name → F → ℕ → Tree → Option Tree) (m : Meaning Key Id Name)
    (f : F) where
  -- Where the fold leaves a tree as it was, what is made equals what was given.
  abbrev pub LeavesAs : {A : Type 0} → (Meaning Key Id Name → A → Tree) → (A → A → Bool) → A → Result A E → Type 0
  LeavesAs tree eq a result = IfOk result (λ x. folded (puts m f) 0 (tree m a) ≡ tree m a → IsTrue (eq x a))

  -- The same of a type, a region, a constant and a list of arguments, whose keys are compared.
  abbrev pub LeavesTyAs : (Key → Key → Bool) → TyKey Key → Result (TyKey Key) E → Type 0
  LeavesTyAs eq k result = LeavesAs (λ m. m.ty) (λ k l. eq k.0 l.0) k result

  abbrev pub LeavesRegionAs : (Key → Key → Bool) → RegionKey Key → Result (RegionKey Key) E → Type 0
  LeavesRegionAs eq k result = LeavesAs (λ m. m.region) (λ k l. eq k.0 l.0) k result

  abbrev pub LeavesConstAs : (Key → Key → Bool) → ConstKey Key → Result (ConstKey Key) E → Type 0
  LeavesConstAs eq k result = LeavesAs (λ m. m.const_) (λ k l. eq k.0 l.0) k result

  abbrev pub LeavesArgsAs : (Key → Key → Bool) → ArgsKey Key → Result (ArgsKey Key) E → Type 0
  LeavesArgsAs eq k result = LeavesAs (λ m. m.args) (λ k l. eq k.0 l.0) k result

  module _ (n : Meaning Key Id Name) where
    -- The answer at a term under so many binders is what is put for its tree.
    abbrev pub PutsFor : {A : Type 0} → (Meaning Key Id Name → A → Tree) → ℕ → A → Result (Fold A) E → Type 0
    PutsFor tree depth a result = IfOk result (λ x. puts m f depth (tree m a) ≡ answered (tree n) x)

    -- What is made is the tree with what is put in it.
    abbrev pub FoldsTo : {A : Type 0} → (Meaning Key Id Name → A → Tree) → A → Result A E → Type 0
    FoldsTo tree a result = IfOk result (λ x. tree n x ≡ folded (puts m f) 0 (tree m a))

    -- The same of the parts alone, whatever is put for the whole.
    abbrev pub FoldsPartsTo : {A : Type 0} → (Meaning Key Id Name → A → Tree) → A → Result A E → Type 0
    FoldsPartsTo tree a result = IfOk result (λ x. tree n x ≡ folded_parts (puts m f) 0 (tree m a))

    -- Both of what has a key: of a type, a region, a constant and a list of arguments.
    abbrev pub FoldsTy : TyKey Key → Result (TyKey Key) E → Type 0
    FoldsTy k result = FoldsTo (λ m. m.ty) k result

    abbrev pub FoldsTyParts : TyKey Key → Result (TyKey Key) E → Type 0
    FoldsTyParts k result = FoldsPartsTo (λ m. m.ty) k result

    abbrev pub FoldsRegion : RegionKey Key → Result (RegionKey Key) E → Type 0
    FoldsRegion k result = FoldsTo (λ m. m.region) k result

    abbrev pub FoldsConst : ConstKey Key → Result (ConstKey Key) E → Type 0
    FoldsConst k result = FoldsTo (λ m. m.const_) k result

    abbrev pub FoldsConstParts : ConstKey Key → Result (ConstKey Key) E → Type 0
    FoldsConstParts k result = FoldsPartsTo (λ m. m.const_) k result

    abbrev pub FoldsArgs : ArgsKey Key → Result (ArgsKey Key) E → Type 0
    FoldsArgs k result = FoldsTo (λ m. m.args) k result

    -- The same of a part that so many binders stand around, of its parts alone, and of a list of parts.
    abbrev pub FoldsPart : ℕ → Part Key Id → Result (Part Key Id) E → Type 0
    FoldsPart depth p result = IfOk result (λ q. part_tree n q ≡ folded (puts m f) depth (part_tree m p))

    abbrev pub FoldsPartsOf : ℕ → Part Key Id → Result (Part Key Id) E → Type 0
    FoldsPartsOf depth p result = IfOk result (λ q. part_tree n q ≡ folded_parts (puts m f) depth (part_tree m p))

    abbrev pub FoldsList : ℕ → Parts Key Id → Result (Parts Key Id) E → Type 0
    FoldsList depth ps result = IfOk result (λ qs. parts_tree n qs ≡ folded (puts m f) depth (parts_tree m ps))
