use Rattle.std.proofs.Common.{take}
use Rattle.std.specs.List.{filter_map}
use Rattle.relation_statements.specs.Reach.{Spreads, numbers}
use Rattle.relation_statements.proofs.Reaching.{item_name}
use Rattle.relation_statements.proofs.def_ids.reach_supers.Given as goal

-- The traits were put there that the first super-predicates are of.
abbrev pub invariant-loop-stated : goal.invariant-loop-stated
invariant-loop-stated g l =
    let m = g.I.Interner.meaning l.fn.cx in
    Spreads (filter_map (item_name m) (take l.stated-index l.supers)) (numbers m l.fn.stack.items)
    (numbers m l.fn.reached.keys) (numbers m l.stack.items) (numbers m l.reached.keys)
