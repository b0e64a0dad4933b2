use Rattle.std.proofs.Common.{rules, ◌≡◌}
use Rattle.std.specs.declared.ops.ControlFlow.TheVariants.{Continue, Break}
use Rattle.relation_terms.specs.Trees.{cons, nil}
use Rattle.relation_folds.proofs.Visiting.{over_two, over_first}
use Rattle.relation_folds.proofs.visit.visitable.ExpectedFoundTypeVisitable.visit_with.Goals as goal

pub returns-in_err-visit_with : goal.returns-in_err-visit_with
returns-in_err-visit_with g c =
    let visits = g.V.TypeVisitor.visits c.args.cx.now in
    let tree = g.T.HasTree.tree (g.I.Interner.meaning c.args.cx.now) in
    let pair = c.args.self.now in
    let broke : c.visit_with.result ≡ Break tt = search rules in
    over_first visits 0 c.args.visitor.now c.visit_with.new.visitor (tree pair.expected) (cons (tree pair.found) nil)
    c.visit_with.result c.from_residual.result c.visit_with.ensures broke c.from_residual.ensures

pub returns : goal.returns
returns g c =
    let visits = g.V.TypeVisitor.visits c.args.cx.now in
    let tree = g.T.HasTree.tree (g.I.Interner.meaning c.args.cx.now) in
    let pair = c.args.self.now in
    let went : c.visit_with.result ≡ Continue tt = search rules in
    over_two visits 0 c.args.visitor.now c.visit_with.new.visitor c.visit_with-2.new.visitor (tree pair.expected)
    (tree pair.found) c.visit_with.result c.visit_with-2.result c.visit_with.ensures went c.visit_with-2.ensures
