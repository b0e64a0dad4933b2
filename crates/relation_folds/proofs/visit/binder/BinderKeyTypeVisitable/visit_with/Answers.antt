use Rattle.std.proofs.Common.{sym, ◌∙◌, subst}
use Rattle.relation_terms.specs.Meaning.{under}
use Rattle.relation_folds.specs.Visits.{Walks}
use Rattle.relation_folds.proofs.Entering.{over_binder}
use Rattle.relation_folds.proofs.visit.binder.BinderKeyTypeVisitable.visit_with.Goals as goal

-- The reference that is given back is the one that was lent.
pub returns : goal.returns
returns g c =
    let m = g.I.Interner.meaning c.args.cx.now in
    let visits = g.V.TypeVisitor.visits c.args.cx.now in
    let x = c.args.self.now in
    let back = c.visitor-1.given.1 (sym (c.into_visitor-visitor.ensures.same_reference
    ∙ c.visit_body-flow.ensures.same_reference)) ∙ c.into_visitor-visitor.ensures.value in
    subst (λ w. Walks visits 0 c.args.visitor.now (under (m.bound_vars x.bound_vars) (g.T.HasTree.tree m x.value)) w
    c.visit_body-flow.result) (sym back)
    (over_binder visits c.args.visitor.now _ (m.bound_vars x.bound_vars) (g.T.HasTree.tree m x.value)
    c.visit_body-flow.result c.requires c.visit_body-flow.ensures.walks)
