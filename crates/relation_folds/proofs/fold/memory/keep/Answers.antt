use Rattle.relation_folds.proofs.Remembering.{place_eq, remembers_more}
use Rattle.relation_folds.proofs.fold.memory.keep.Goals as goal

pub returns-in_ok-insert-clause-remembers : goal.returns-in_ok-insert-clause-remembers
returns-in_ok-insert-clause-remembers g c =
    let m = g.I.Interner.meaning c.args._cx.now in
    let puts = g.F.TypeFolder.replaces m c.args._folder.now in
    let eq = place_eq g.I.Key.PartialEq.eq in
    remembers_more m puts eq (c.args.memory.now).made c.insert.new.self c.args.part.now c.args.depth c.args.made
    c.in-Some.place c.insert.result c.in-Some.ensures c.requires.made c.insert.ensures.new c.insert.ensures.stays
    c.insert.ensures.err c.requires.remembers
