use Rattle.std.proofs.Common.{refl}
use Rattle.relation_folds.specs.Visits.{non_region_infer_stands, is_non_region_infer, StopsAtInfer}
use Rattle.relation_folds.proofs.Searching.{searched, found, infer_visited, infer_told}
use Rattle.relation_folds.proofs.visit.flags.has_non_region_infer.Goals as goal

pub returns : goal.returns
returns g c =
    let t = g.T.HasTree.tree (g.I.Interner.meaning c.args.cx.now) c.args.term.now in
    let r = c.visit_with.result in
    let walked = searched StopsAtInfer is_non_region_infer infer_told infer_visited 0 0 (λ n k. refl) (record {})
    c.visit_with.new.visitor t r c.visit_with.ensures in
    found (non_region_infer_stands t) c.is_break.result r c.is_break.ensures walked
