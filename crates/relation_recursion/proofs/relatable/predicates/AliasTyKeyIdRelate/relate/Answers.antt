use Rattle.std.proofs.Common.{refl, sym, ◌∙◌, subst, subst₂, Ok, Err}
use Rattle.relation_terms.specs.declared.terms.alias.AliasTy.{AliasTy}
use Rattle.relation_terms.specs.Predicates.{alias_term_tree}
use Rattle.relation_folds.specs.Aliases.{alias_ty_tree}
use Rattle.relation_semantics.specs.Lawful.{Asked, Related}
use Rattle.relation_semantics.proofs.Passing.{as_err}
use Rattle.relation_semantics.proofs.Retelling.{refused_again, retold}
use Rattle.relation_recursion.proofs.Items.{type_as_term}
use Rattle.relation_recursion.proofs.relatable.predicates.AliasTyKeyIdRelate.relate.Goals as goal

pub alias_terms-requires-clause-asked : goal.alias_terms-requires-clause-asked
alias_terms-requires-clause-asked g c =
    let r = g.R.HasState.state c.args.r.now in
    let left = type_as_term r.meaning c.args.a.now c.from-left.result c.from-left.ensures.0 c.from-left.ensures.1 in
    let right = type_as_term r.meaning c.args.b.now c.from-right.result c.from-right.ensures.0 c.from-right.ensures.1 in
    subst₂ (λ x y. Asked g.R.TypeRelation.manner r r.ambient x y) (sym left) (sym right) c.requires.asked

pub returns-in_err-answer-clause-related : goal.returns-in_err-answer-clause-related
returns-in_err-answer-clause-related g c =
    let r = g.R.HasState.state c.args.r.now in
    let q = g.R.HasState.state c.alias_terms.new.r in
    let M = g.R.TypeRelation.manner in
    let a = alias_ty_tree r.meaning c.args.a.now in
    let b = alias_ty_tree r.meaning c.args.b.now in
    let left = type_as_term r.meaning c.args.a.now c.from-left.result c.from-left.ensures.0 c.from-left.ensures.1 in
    let right = type_as_term r.meaning c.args.b.now c.from-right.result c.from-right.ensures.0 c.from-right.ensures.1 in
    let n = c.in_err-answer in
    let e = n.field-0.0 in
    let failed = as_err c.from_residual.result e c.from_residual.ensures.0 c.from_residual.ensures.1 in
    subst (Related M r q r.ambient a b (alias_ty_tree q.meaning)) (sym failed)
    (refused_again M r.ambient a b (alias_term_tree q.meaning) (alias_ty_tree q.meaning) e
    (subst₂ (λ x y. Related M r q r.ambient x y (alias_term_tree q.meaning) (Err e)) left right n.ensures.related))

pub returns-clause-related : goal.returns-clause-related
returns-clause-related g c =
    let r = g.R.HasState.state c.args.r.now in
    let q = g.R.HasState.state c.alias_terms.new.r in
    let M = g.R.TypeRelation.manner in
    let a = alias_ty_tree r.meaning c.args.a.now in
    let b = alias_ty_tree r.meaning c.args.b.now in
    let left = type_as_term r.meaning c.args.a.now c.from-left.result c.from-left.ensures.0 c.from-left.ensures.1 in
    let right = type_as_term r.meaning c.args.b.now c.from-right.result c.from-right.ensures.0 c.from-right.ensures.1 in
    let n = c.in_ok-answer in
    let z : AliasTy g.row.I-Key.Denot g.row.I-Id.Denot = record { kind = c.args.a.now.kind; args = n.answer.args } in
    retold M r.ambient a b (alias_term_tree q.meaning) n.answer (alias_ty_tree q.meaning) z
    (sym (type_as_term q.meaning z n.answer (n.ensures.kind ∙ c.from-left.ensures.0) refl))
    (subst₂ (λ x y. Related M r q r.ambient x y (alias_term_tree q.meaning) (Ok n.answer)) left right n.ensures.related)
