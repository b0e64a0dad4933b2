-- What pushing all that a predicate implies does to a worklist.
use Rattle.std.specs.Prelude.{Bool, Result}
use Rattle.relation_terms.specs.Trees.{Tree}
use Rattle.relation_terms.specs.Meaning.{Meaning}
use Rattle.elaboration_worklist.specs.declared.faults.ElabFault.{ElabFault}
use Rattle.elaboration_worklist.specs.declared.worklist.Worklist.{Worklist}
use Rattle.elaboration_worklist.specs.Kept.{Pushed}
use Rattle.relation_statements.specs.Children.{mode_of, children}
use Rattle.relation_statements.specs.Statements.{statements}

module _ {I Key Id Name O : Type 0} (meaning : I → Meaning Key Id Name) (tree : Meaning Key Id Name → O → Tree) where
  -- Between what an interner is before a call and after it, all that a predicate implies was to be pushed.
  abbrev pub PushedChildren : {T : Type 0} → I → I → Bool → Bool → O → Worklist Key O Name → Worklist Key O Name →
      Result T ElabFault → Type 0
  PushedChildren before after only_self sized o w v result = Pushed tree (meaning before) (meaning after)
      (children (statements (meaning before)) (mode_of only_self sized) (tree (meaning before) o)) w v result
