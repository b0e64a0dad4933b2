use Rattle.std.proofs.Common.{refl, sym, subst}
use Rattle.relation_terms.specs.Fields.{field_tree}
use Rattle.relation_folds.specs.Visits.{Walks, passed}
use Rattle.relation_folds.proofs.visit.predicates.visit_field.Goals as goal

pub returns-in-TraitRef : goal.returns-in-TraitRef
returns-in-TraitRef g c =
    subst (λ f. Walks (g.V.TypeVisitor.visits c.args.cx.now) 0 c.args.visitor.now
    (field_tree (g.I.Interner.meaning c.args.cx.now) f) c.visit_args_with.new.visitor c.visit_args_with.result)
    (sym c.in-TraitRef.is) (passed refl c.visit_args_with.ensures)

pub returns-in-AliasTerm : goal.returns-in-AliasTerm
returns-in-AliasTerm g c =
    subst (λ f. Walks (g.V.TypeVisitor.visits c.args.cx.now) 0 c.args.visitor.now
    (field_tree (g.I.Interner.meaning c.args.cx.now) f) c.visit_args_with-in-AliasTerm.new.visitor
    c.visit_args_with-in-AliasTerm.result) (sym c.in-AliasTerm.is) (passed refl c.visit_args_with-in-AliasTerm.ensures)
