-- All that follows from predicates.
use Rattle.std.specs.Prelude.{◌≡◌, List, [], ◌∷◌}
use Rattle.std.specs.List.{Contains}
use Rattle.relation_terms.specs.Trees.{Tree, bind}
use Rattle.anonymize.specs.Renamings.{AreRenamings}
use Rattle.relation_statements.specs.Children.{Statements, Mode, children}

-- What follows from these predicates: they, and what each that follows implies.
pub data Follows (s : Statements) (m : Mode) (given : List Tree) : Tree → Type 0 where
  given_one : (p : Tree) → Contains given p → Follows s m given p
  implied_by : (p c : Tree) → Follows s m given p → Contains (children s m p) c → Follows s m given c

-- Predicates whose outermost binders differ in names, order or unused variables alone.
abbrev pub AreSame : Tree → Tree → Type 0
AreSame (bind ks t) (bind ls u) = AreRenamings t u
AreSame p q = q ≡ p

-- One of a list is the same but for renaming.
abbrev pub HasSame : List Tree → Tree → Type 0
HasSame ps q = (p : Tree) × Contains ps p × AreSame p q

-- No two of a list are.
abbrev pub AreDifferent : List Tree → Type 0
AreDifferent [] = Unit {0}
AreDifferent (p ∷ ps) = (HasSame ps p → ⊥) × AreDifferent ps
