-- Of which parts all variables were collected.
use Rattle.std.specs.Prelude.{◌≡◌, ℕ, Bool, true, IsTrue, IsSome, List, [], ◌∷◌, Option, Some, MatchOption}
use Rattle.std.specs.List.{list_any}
use Rattle.std.specs.Global.{Vec}
use Rattle.std.specs.HashSet.{HashSet}
use Rattle.relation_terms.specs.Trees.{Tree, known}
use Rattle.relation_terms.specs.Meaning.{Meaning}
use Rattle.relation_terms.specs.Parts.{part_tree}
use Rattle.relation_terms.specs.declared.terms.part_kind.Part.{Part}
use Rattle.relation_folds.specs.declared.fold.memory.Place.{Place}
use Rattle.relation_folds.specs.Folds.{place_of}
use Rattle.anonymize.specs.Anonymous.{place_in, uses, here, with_vars}
use Rattle.anonymize.specs.declared.used.UsedVar.{UsedVar}

-- Each variable of the second list is in the first.
abbrev pub AllIn : List UsedVar → List UsedVar → Type 0
AllIn us [] = Unit {0}
AllIn us (v ∷ vs) = IsSome (place_in us v) × AllIn us vs

-- The variable that a tree is, not counting its parts, if the binder `depth` steps up binds it.
abbrev pub TellsVar : ℕ → Tree → Option UsedVar → Type 0
TellsVar depth t answer = MatchOption answer (here depth t ≡ []) (λ var. here depth t ≡ var ∷ [])

-- What is used in a tree under so many binders was added to a list of variables, each that was not in it yet.
abbrev pub Collects : ℕ → Tree → Vec UsedVar → Vec UsedVar → Type 0
Collects depth t before after = after.items ≡ with_vars before.items (uses depth t)

module _ {Key Id Name : Type 0} (m : Meaning Key Id Name) (us : List UsedVar) (eq : Place Key → Place Key → Bool) where
  -- A known part stands at an equal place, and all variables that are used in it are in the list.
  pub record IsMet (q : Place Key) : Type 0 where
    pub part : Part Key Id
    pub depth : ℕ
    pub place : Place Key
    pub stands : place_of part depth ≡ Some place
    pub same : IsTrue (eq place q)
    pub there : IsTrue (known (part_tree m part))
    pub used : AllIn us (uses depth (part_tree m part))

  -- Of each place that is kept a part was met.
  abbrev pub Remembered : List (Place Key) → Type 0
  Remembered kept = (q : Place Key) → list_any (eq q) kept ≡ true → IsMet q

-- The same of the list and the set that a walk fills.
abbrev pub AreRemembered : {Key Id Name S : Type 0} → Meaning Key Id Name → Vec UsedVar →
    (Place Key → Place Key → Bool) → HashSet (Place Key) S → Type 0
AreRemembered m us eq met = Remembered m us.items eq met.keys
