-- What was made stays known.
use Rattle.relation_terms.proofs.Stays.{extends_on}
use Rattle.examples.proofs.Ranked.{knows_rule}
use Rattle.examples.proofs.proving.told_of_given.Goals as goal

pub told_by-requires-clause-first_known : goal.told_by-requires-clause-first_known
told_by-requires-clause-first_known g c =
    knows_rule (extends_on c.in_ok-of_other.ensures.grown
    (extends_on c.in_ok-ty.ensures.grown c.in_ok-goal.ensures.grown)) c.in_ok-of_param.of_param
    c.in_ok-of_param.ensures.sure

pub told_by-requires-clause-second_known : goal.told_by-requires-clause-second_known
told_by-requires-clause-second_known g c =
    knows_rule (extends_on c.in_ok-ty.ensures.grown c.in_ok-goal.ensures.grown) c.in_ok-of_other.of_other
    c.in_ok-of_other.ensures.sure
