use Rattle.relation_terms.specs.Meaning.{arg_tree}
use Rattle.relation_semantics.specs.Parts.{direct_parts}
use Rattle.relation_semantics.specs.Making.{FitArgs}
use Rattle.relation_recursion.specs.Keeping.{AreFirstParts}
use Rattle.relation_recursion.proofs.keeping.first_parts.Given as goal

abbrev pub invariant-loop-i : goal.invariant-loop-i
invariant-loop-i g l =
    let m = (g.R.HasState.state l.r).meaning in
    record { firsts : AreFirstParts (arg_tree m) FitArgs l.i (direct_parts (m.ty l.ty)) l.list.items }
