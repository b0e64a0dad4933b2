use Rattle.std.proofs.Common.{sym, subst}
use Rattle.std.specs.declared.ops.ControlFlow.TheVariants.{Continue}
use Rattle.relation_terms.specs.Trees.{cons, nil}
use Rattle.relation_folds.specs.Faults.{error_tree}
use Rattle.relation_folds.specs.Visits.{Walks, no_part}
use Rattle.relation_folds.proofs.Errors.{names_nothing}
use Rattle.relation_folds.proofs.Visiting.{over_two, over_first}
use Rattle.relation_folds.proofs.visit.visitable.TypeErrorKeyIdNameTypeVisitable.visit_with.Goals as goal

pub returns-in_err-visit_with-in-RegionsDoesNotOutlive : goal.returns-in_err-visit_with-in-RegionsDoesNotOutlive
returns-in_err-visit_with-in-RegionsDoesNotOutlive g c =
    let m = g.I.Interner.meaning c.args.cx.now in
    let visits = g.V.TypeVisitor.visits c.args.cx.now in
    let v = c.args.visitor.now in
    let w = c.visit_with.new.visitor in
    let two = c.in-RegionsDoesNotOutlive in
    subst (λ e. Walks visits 0 v (error_tree m e) w c.from_residual.result) (sym two.is)
    (over_first visits 0 v w (m.region two.longer) (cons (m.region two.shorter) nil) c.visit_with.result
    c.from_residual.result c.visit_with.ensures (c.in_err-visit_with-in-RegionsDoesNotOutlive.was)
    c.from_residual.ensures)

pub returns-in_ok-visit_with-in-RegionsDoesNotOutlive : goal.returns-in_ok-visit_with-in-RegionsDoesNotOutlive
returns-in_ok-visit_with-in-RegionsDoesNotOutlive g c =
    let m = g.I.Interner.meaning c.args.cx.now in
    let visits = g.V.TypeVisitor.visits c.args.cx.now in
    let v = c.args.visitor.now in
    let w = c.visit_with-in-RegionsDoesNotOutlive.new.visitor in
    let r = c.visit_with-in-RegionsDoesNotOutlive.result in
    let two = c.in-RegionsDoesNotOutlive in
    subst (λ e. Walks visits 0 v (error_tree m e) w r) (sym two.is)
    (over_two visits 0 v c.visit_with.new.visitor w (m.region two.longer) (m.region two.shorter) c.visit_with.result r
    c.visit_with.ensures (c.in_ok-visit_with-in-RegionsDoesNotOutlive.was)
    c.visit_with-in-RegionsDoesNotOutlive.ensures)

pub returns-in_default : goal.returns-in_default
returns-in_default g c =
    let m = g.I.Interner.meaning c.args.cx.now in
    let visits = g.V.TypeVisitor.visits c.args.cx.now in
    let v = c.args.visitor.now in
    let d = c.in_default in
    let none = names_nothing m c.args.self.now d.not-ArraySize d.not-RegionsDoesNotOutlive
    d.not-RegionsInsufficientlyPolymorphic d.not-Sorts d.not-ArgumentSorts d.not-CyclicTy d.not-CyclicConst
    d.not-ExistentialMismatch d.not-ConstMismatch in
    subst (λ t. Walks visits 0 v t v (Continue tt)) (sym none) no_part
