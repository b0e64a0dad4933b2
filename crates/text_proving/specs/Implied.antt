-- All that clauses imply by what traits state.
--
--   IsClosure s given all   a list is of the given clauses and what follows from them
--   PullsToEnd e ks f       pulls of an elaboration yield these clauses, and then nothing is left
use Rattle.std.specs.Prelude.{◌≡◌, false, List, []}
use Rattle.std.specs.List.{Contains}
use Rattle.relation_terms.specs.declared.terms.keys.ClauseKey.{ClauseKey}
use Rattle.relation_terms.specs.Meaning.{Meaning}
use Rattle.relation_terms.specs.Owned.{BindsWithin}
use Rattle.relation_terms.specs.Trees.{Tree}
use Rattle.relation_statements.specs.Children.{Statements, mode_of}
use Rattle.relation_statements.specs.Closure.{Follows, HasSame, AreDifferent}
use Rattle.relation_elaboration.specs.Pulling.{Elaboration, RunsTo}

-- All of a list follows from the given clauses, no two are the same but for renaming, and what follows is in it, up to
-- renaming.
pub record IsClosure (s : Statements) (given all : List Tree) : Type 0 where
  pub sound : (y : Tree) → Contains all y → Follows s (mode_of false false) given y
  pub once : AreDifferent all
  pub complete : ((g : Tree) → Contains given g → BindsWithin g) → (p : Tree) →
      Follows s (mode_of false false) given p → HasSame all p

-- From one elaboration to another, of which nothing is left, by pulls that yield these clauses.
abbrev pub PullsToEnd : {I Key Id Name : Type 0} → (I → Meaning Key Id Name) → Elaboration I (ClauseKey Key) Key Name →
    List (ClauseKey Key) → Elaboration I (ClauseKey Key) Key Name → Type 0
PullsToEnd meaning e ks f = RunsTo meaning (λ m k. m.clause k) e ks f × (f.stack ≡ [])
