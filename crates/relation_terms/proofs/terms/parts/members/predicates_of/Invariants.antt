use Rattle.std.proofs.Common.{◌≡◌, take, map}
use Rattle.relation_terms.specs.Parts.{part_of_predicate}
use Rattle.relation_terms.proofs.terms.parts.members.predicates_of.Given as goal

abbrev pub invariant-loop-part : goal.invariant-loop-part
invariant-loop-part g l = map (λ b. part_of_predicate b) l.list.items ≡ take l.part-index l.fn.parts
