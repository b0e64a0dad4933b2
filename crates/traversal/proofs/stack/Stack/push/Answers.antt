use Rattle.traversal.proofs.Stacks.{filled_push, top_push}
use Rattle.traversal.proofs.stack.Stack.push.Goals as goal

pub invariant_of-self-2 : goal.invariant_of-self-2
invariant_of-self-2 g c = rw c.in_ok-push.ensures.ok (filled_push _ _ c.self.invariant)

pub returns-clause-ok : goal.returns-clause-ok
returns-clause-ok g c = rw (c.in_ok-push.ensures.ok, ← c.self.view_is) (top_push c.self.inside.places.items c.args.item)
