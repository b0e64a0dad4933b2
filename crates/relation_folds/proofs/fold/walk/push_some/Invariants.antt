use Rattle.relation_terms.specs.Parts.{part_tree, parts_tree}
use Rattle.relation_folds.specs.Firsts.{firsts}
use Rattle.relation_folds.specs.Stacks.{StandsUpon}
use Rattle.relation_folds.proofs.fold.walk.push_some.Given as goal

abbrev pub invariant-loop-at : goal.invariant-loop-at
invariant-loop-at g l =
    let ts = firsts l.at (parts_tree (g.I.Interner.meaning l.cx) l.parts) in
    record { stands : StandsUpon (part_tree (g.I.Interner.meaning l.cx)) ts ts l.fn.stack.items l.stack.items }
