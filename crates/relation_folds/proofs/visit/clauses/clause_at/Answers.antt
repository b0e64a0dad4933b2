use Rattle.std.proofs.Common.{◌<◌, length, arith}
use Rattle.relation_terms.proofs.Members.{slice_below, slice_sure, slice_nth}
use Rattle.relation_folds.proofs.visit.clauses.clause_at.Goals as goal

pub bounds-clauses-place : goal.bounds-clauses-place
bounds-clauses-place g c =
    let m = g.I.Interner.meaning c.args.cx.now in
    slice_below m.clause c.clauses.result.now (m.clauses c.args.clauses.now) c.clauses.ensures c.args.place
    c.requires.in_bounds

pub offset_bounds-clauses-place : goal.offset_bounds-clauses-place
offset_bounds-clauses-place g c =
    let m = g.I.Interner.meaning c.args.cx.now in
    let h : c.args.place < length c.clauses.result.now =
    slice_below m.clause c.clauses.result.now (m.clauses c.args.clauses.now) c.clauses.ensures c.args.place
    c.requires.in_bounds in
    omega (arith, h)

pub returns-clause-sure : goal.returns-clause-sure
returns-clause-sure g c =
    let m = g.I.Interner.meaning c.args.cx.now in
    let x = c.index-clauses-place.result in
    slice_sure m.clause c.clauses.result.now (m.clauses c.args.clauses.now) c.clauses.ensures c.requires.list_known
    c.args.place x x c.requires.in_bounds c.index-clauses-place.is

pub returns-clause-means : goal.returns-clause-means
returns-clause-means g c =
    let m = g.I.Interner.meaning c.args.cx.now in
    let x = c.index-clauses-place.result in
    slice_nth m.clause c.clauses.result.now (m.clauses c.args.clauses.now) c.clauses.ensures c.args.place x x
    c.requires.in_bounds c.index-clauses-place.is
