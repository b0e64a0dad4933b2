use Rattle.relation_elaboration.proofs.Passing.{Passed}
use Rattle.relation_elaboration.proofs.sources.FilterToTraitsIterator.next.Given as goal

-- Clauses that are of no trait were passed over.
abbrev pub invariant-loop-next : goal.invariant-loop-next
invariant-loop-next g l =
    let s = g.It.Iterator in
    Passed g.I.Interner.meaning g.It.ClauseSource.interner s.next_gives s.can_next s.remaining l.fn.self
    l.self-inside.base_iterator

abbrev pub decreases-loop-next : goal.decreases-loop-next
decreases-loop-next g l = g.It.ClauseSource.left l.self-inside.base_iterator
