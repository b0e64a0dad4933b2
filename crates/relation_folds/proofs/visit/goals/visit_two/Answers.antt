use Rattle.std.proofs.Common.{rules, ◌≡◌}
use Rattle.std.specs.declared.ops.ControlFlow.TheVariants.{Continue, Break}
use Rattle.relation_terms.specs.Trees.{cons, nil}
use Rattle.relation_folds.proofs.Visiting.{over_two, over_first}
use Rattle.relation_folds.proofs.visit.goals.visit_two.Goals as goal

pub returns-in_err-visit_with : goal.returns-in_err-visit_with
returns-in_err-visit_with g c =
    let visits = g.V.TypeVisitor.visits c.args.cx.now in
    let m = g.I.Interner.meaning c.args.cx.now in
    let broke : c.visit_with.result ≡ Break tt = search rules in
    over_first visits 0 c.args.visitor.now c.visit_with.new.visitor (g.T.HasTree.tree m c.args.first.now)
    (cons (g.U.HasTree.tree m c.args.second.now) nil) c.visit_with.result c.from_residual.result c.visit_with.ensures broke
    c.from_residual.ensures

pub returns : goal.returns
returns g c =
    let visits = g.V.TypeVisitor.visits c.args.cx.now in
    let m = g.I.Interner.meaning c.args.cx.now in
    let went : c.visit_with.result ≡ Continue tt = search rules in
    over_two visits 0 c.args.visitor.now c.visit_with.new.visitor c.visit_with-2.new.visitor
    (g.T.HasTree.tree m c.args.first.now) (g.U.HasTree.tree m c.args.second.now) c.visit_with.result
    c.visit_with-2.result c.visit_with.ensures went c.visit_with-2.ensures
