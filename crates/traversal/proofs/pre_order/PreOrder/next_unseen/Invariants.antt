use Rattle.std.proofs.Common.{◌≡◌, length}
use Rattle.std.specs.List.{list_any}
use Rattle.traversal.specs.Unseen.{first_unseen}
use Rattle.traversal.proofs.pre_order.PreOrder.next_unseen.Given as goal

abbrev pub invariant-loop-item : goal.invariant-loop-item
invariant-loop-item g l =
    (first_unseen (λ q. list_any (g.T.PartialEq.eq q) l.initial.self.visited.keys) l.initial.self.stack
    ≡ first_unseen (λ q. list_any (g.T.PartialEq.eq q) l.initial.self.visited.keys) l.self.stack)
    × (l.self.visited.keys ≡ l.initial.self.visited.keys)
    × (l.self.last_subtree ≡ l.initial.self.last_subtree)

abbrev pub decreases-loop-item : goal.decreases-loop-item
decreases-loop-item g l = length l.self.stack
