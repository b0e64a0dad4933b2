use Rattle.std.proofs.Common.{◌≡◌, take, map}
use Rattle.relation_terms.specs.Parts.{part_of_arg}
use Rattle.relation_terms.proofs.terms.parts.members.args_of.Given as goal

abbrev pub invariant-loop-part : goal.invariant-loop-part
invariant-loop-part g l = map part_of_arg l.list.items ≡ take l.part-index l.fn.parts
