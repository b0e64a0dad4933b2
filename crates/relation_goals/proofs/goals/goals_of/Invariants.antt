use Rattle.std.proofs.Common.{◌≡◌}
use Rattle.relation_steps.proofs.Mapped.{first_mapped}
use Rattle.relation_goals.proofs.goals.goals_of.Given as goal

abbrev pub invariant-loop-i : goal.invariant-loop-i
invariant-loop-i g l =
    l.goals.items ≡ first_mapped (λ p. record { param_env = l.param_env; predicate = p }) l.i l.predicates
