use Rattle.std.proofs.Common.{sym, ap, subst}
use Rattle.relation_terms.specs.declared.predicate.existential.ExistentialPredicate.TheVariants.{Trait}
use Rattle.relation_terms.specs.Meaning.{existential_tree}
use Rattle.relation_semantics.specs.Lawful.{Related}
use Rattle.relation_semantics.proofs.Passing.{as_err}
use Rattle.relation_semantics.proofs.Retelling.{retold, refused_again}
use Rattle.relation_recursion.proofs.relatable.forms.ExistentialTraitRefKeyIdRelate.relate.Goals as goal

pub returns-clause-related : goal.returns-clause-related
returns-clause-related g c =
    let r = g.R.HasState.state c.args.r.now in
    let q = g.R.HasState.state c.existentials.new.r in
    let a = existential_tree r.meaning (Trait c.args.a.now) in
    let b = existential_tree r.meaning (Trait c.args.b.now) in
    let n = c.in_ok-answer in
    retold g.R.TypeRelation.manner r.ambient a b (existential_tree q.meaning) n.field-0
    (λ t. existential_tree q.meaning (Trait t)) c.in-Trait.answer (ap (existential_tree q.meaning) (sym c.in-Trait.is))
    (n.ensures).related

pub returns-in_err-answer-clause-related : goal.returns-in_err-answer-clause-related
returns-in_err-answer-clause-related g c =
    let r = g.R.HasState.state c.args.r.now in
    let q = g.R.HasState.state c.existentials.new.r in
    let M = g.R.TypeRelation.manner in
    let a = existential_tree r.meaning (Trait c.args.a.now) in
    let b = existential_tree r.meaning (Trait c.args.b.now) in
    let n = c.in_err-answer in
    let f = n.field-0.0 in
    let res = c.from_residual in
    subst (Related M r q r.ambient a b (λ t. existential_tree q.meaning (Trait t)))
    (sym (as_err res.result f res.ensures.0 res.ensures.1))
    (refused_again M r.ambient a b (existential_tree q.meaning) (λ t. existential_tree q.meaning (Trait t)) f
    (n.ensures).related)
