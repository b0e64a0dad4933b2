use Rattle.traversal.proofs.Stacks.{filled_cut, cut}
use Rattle.traversal.proofs.stack.Stack.truncate.Goals as goal

pub invariant_of-self : goal.invariant_of-self
invariant_of-self g c = rw c.truncate.ensures.items (filled_cut _ _ c.self.invariant)

pub returns : goal.returns
returns g c = rw (c.truncate.ensures.items, ← c.self.view_is) (cut _ _ c.self.invariant)
