-- What was made stays known.
use Rattle.relation_terms.proofs.Stays.{extends_on}
use Rattle.examples.proofs.Ranked.{knows_rule, impl_known}
use Rattle.examples.proofs.proving.told_of_vec.Goals as goal

pub told_by-requires-clause-first_known : goal.told_by-requires-clause-first_known
told_by-requires-clause-first_known g c =
    knows_rule (extends_on c.in_ok-had.ensures.grown (extends_on c.in_ok-ty.ensures.grown
    (extends_on c.in_ok-over.ensures.grown c.in_ok-goal.ensures.grown)))
    c.in_ok-for_vecs.for_vecs (impl_known _ _ _ _ c.in_ok-for_vecs.ensures.is)

pub told_by-requires-clause-second_known : goal.told_by-requires-clause-second_known
told_by-requires-clause-second_known g c =
    knows_rule (extends_on c.in_ok-ty.ensures.grown
    (extends_on c.in_ok-over.ensures.grown c.in_ok-goal.ensures.grown)) c.in_ok-had.had c.in_ok-had.ensures.sure
