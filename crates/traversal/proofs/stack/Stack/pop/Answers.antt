use Rattle.traversal.proofs.Stacks.{filled_front, pop_top}
use Rattle.traversal.proofs.stack.Stack.pop.Goals as goal

pub invariant_of-self : goal.invariant_of-self
invariant_of-self g c = filled_front _ _ (rw c.pop.ensures.items at c.self.invariant)

pub returns : goal.returns
returns g c =
    rw (c.flatten.ensures, ← c.self.view_is) (pop_top c.self.inside.places.items c.pop.new.self.items c.pop.result c.self.invariant c.pop.ensures.items c.pop.ensures.variant.1)
