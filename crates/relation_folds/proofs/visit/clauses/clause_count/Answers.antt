use Rattle.relation_terms.proofs.Members.{slice_counts, slice_list}
use Rattle.relation_folds.proofs.visit.clauses.clause_count.Goals as goal

pub returns-clause-counts : goal.returns-clause-counts
returns-clause-counts g c =
    let m = g.I.Interner.meaning c.args.cx.now in
    slice_counts m.clause c.clauses.result.now (m.clauses c.args.clauses.now) c.clauses.ensures

pub returns-clause-is_list : goal.returns-clause-is_list
returns-clause-is_list g c =
    let m = g.I.Interner.meaning c.args.cx.now in
    slice_list m.clause c.clauses.result.now (m.clauses c.args.clauses.now) c.clauses.ensures
