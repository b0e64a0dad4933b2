use Rattle.std.proofs.Common.{◌≡◌}
use Rattle.relation_terms.specs.Parts.{part_of_arg}
use Rattle.relation_steps.proofs.Mapped.{first_mapped}
use Rattle.relation_recursion.proofs.making.as_parts.Given as goal

abbrev pub invariant-loop-i : goal.invariant-loop-i
invariant-loop-i g l = l.list.items ≡ first_mapped (λ a. part_of_arg a) l.i l.args
