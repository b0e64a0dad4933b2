use Rattle.std.proofs.Common.{◌≡◌, List, Some, take}
use Rattle.relation_terms.specs.Trees.{Tree, list_tree}
use Rattle.relation_terms.specs.Meaning.{bound_kinds}
use Rattle.text_terms.specs.Terms.{at, variables_of}
use Rattle.text_terms.specs.Built.{AreBuilt}
use Rattle.text_terms.proofs.building.binders.variables_at.Given as goal

-- the variables so far are those of the first terms
abbrev pub invariant-loop-number : goal.invariant-loop-number
invariant-loop-number g l =
    let m = g.I.Interner.meaning l.cx in (ts : List Tree) → AreBuilt m ts l.built →
    variables_of (list_tree (at ts) (take l.number-index l.places)) ≡ Some (bound_kinds m l.variables.items)
