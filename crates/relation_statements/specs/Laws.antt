-- A law of what predicates imply.
use Rattle.std.specs.List.{Contains}
use Rattle.relation_terms.specs.Trees.{Tree}
use Rattle.relation_terms.specs.Owned.{BindsWithin}
use Rattle.relation_statements.specs.Children.{Statements, Mode, children}
use Rattle.relation_statements.specs.Closure.{AreSame, HasSame}

-- Of two predicates that differ in names, order or unused variables of their binders alone, and whose binders bind at
-- places of their lists, each implies what the other does, but for such differences.
abbrev pub RenamingsImplyRenamings : Type 0
RenamingsImplyRenamings = (s : Statements) (m : Mode) (p q : Tree) → BindsWithin p → BindsWithin q → AreSame p q →
    (c : Tree) → Contains (children s m p) c → HasSame (children s m q) c
