use Rattle.std.proofs.Common.{refl}
use Rattle.relation_folds.specs.Visits.{bound_var_escapes, is_escaping, StopsAtEscaping}
use Rattle.relation_folds.proofs.Searching.{searched, found, bound_visited, escaping_told}
use Rattle.relation_folds.proofs.visit.flags.has_escaping_bound_vars.Goals as goal

pub returns : goal.returns
returns g c =
    let t = g.T.HasTree.tree (g.I.Interner.meaning c.args.cx.now) c.args.term.now in
    let r = c.visit_with.result in
    let walked = searched StopsAtEscaping is_escaping escaping_told bound_visited 0 0 (λ n k. refl) (record {})
    c.visit_with.new.visitor t r c.visit_with.ensures in
    found (bound_var_escapes t) c.is_break.result r c.is_break.ensures walked
