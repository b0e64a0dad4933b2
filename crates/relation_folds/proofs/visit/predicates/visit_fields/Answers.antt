use Rattle.std.proofs.Common.{rules, ◌≡◌, sym, subst}
use Rattle.std.specs.declared.ops.ControlFlow.TheVariants.{Continue, Break}
use Rattle.relation_terms.specs.Trees.{cons, nil}
use Rattle.relation_terms.specs.Fields.{field_tree, fields_tree}
use Rattle.relation_folds.specs.Visits.{Walks, no_part}
use Rattle.relation_folds.proofs.Fielding.{over_one}
use Rattle.relation_folds.proofs.Visiting.{over_two, over_first}
use Rattle.relation_folds.proofs.visit.predicates.visit_fields.Goals as goal

pub returns-in-Empty : goal.returns-in-Empty
returns-in-Empty g c =
    let v = c.args.visitor.now in
    subst (λ fs. Walks (g.V.TypeVisitor.visits c.args.cx.now) 0 v (fields_tree (g.I.Interner.meaning c.args.cx.now) fs) v
    (Continue tt)) (sym c.in-Empty.is) no_part

pub returns-in-One : goal.returns-in-One
returns-in-One g c =
    let m = g.I.Interner.meaning c.args.cx.now in
    let visits = g.V.TypeVisitor.visits c.args.cx.now in
    let v = c.args.visitor.now in
    let w = c.visit_field.new.visitor in
    subst (λ fs. Walks visits 0 v (fields_tree m fs) w c.visit_field.result) (sym c.in-One.is)
    (over_one visits v w (field_tree m c.in-One.field) c.visit_field.result c.visit_field.ensures)

pub returns-in_err-visit_field-in-Two : goal.returns-in_err-visit_field-in-Two
returns-in_err-visit_field-in-Two g c =
    let m = g.I.Interner.meaning c.args.cx.now in
    let visits = g.V.TypeVisitor.visits c.args.cx.now in
    let v = c.args.visitor.now in
    let w = c.visit_field-in-Two.new.visitor in
    let broke : c.visit_field-in-Two.result ≡ Break tt = search rules in
    subst (λ fs. Walks visits 0 v (fields_tree m fs) w c.from_residual.result) (sym c.in-Two.is)
    (over_first visits 0 v w (field_tree m c.in-Two.first) (cons (field_tree m c.in-Two.second) nil)
    c.visit_field-in-Two.result c.from_residual.result c.visit_field-in-Two.ensures broke c.from_residual.ensures)

pub returns-in_ok-visit_field-in-Two : goal.returns-in_ok-visit_field-in-Two
returns-in_ok-visit_field-in-Two g c =
    let m = g.I.Interner.meaning c.args.cx.now in
    let visits = g.V.TypeVisitor.visits c.args.cx.now in
    let v = c.args.visitor.now in
    let w = c.visit_field-in-Two.new.visitor in
    let x = c.visit_field-in-Two-2.new.visitor in
    let r = c.visit_field-in-Two-2.result in
    let went : c.visit_field-in-Two.result ≡ Continue tt = search rules in
    subst (λ fs. Walks visits 0 v (fields_tree m fs) x r) (sym c.in-Two.is)
    (over_two visits 0 v w x (field_tree m c.in-Two.first) (field_tree m c.in-Two.second) c.visit_field-in-Two.result r
    c.visit_field-in-Two.ensures went c.visit_field-in-Two-2.ensures)
