use Rattle.std.proofs.Common.{◌≡◌, refl, sym, ap, subst, inr, IfOk}
use Rattle.relation_terms.specs.Meaning.{existential_tree}
use Rattle.relation_terms.specs.Parts.{part_tree}
use Rattle.relation_recursion.specs.PredicateForms.{predicate_form}
use Rattle.relation_recursion.proofs.PredicateForms.{same_form}
use Rattle.relation_semantics.specs.Lawful.{Related}
use Rattle.relation_semantics.proofs.Passing.{as_err}
use Rattle.relation_semantics.proofs.Retelling.{retold, refused_again}
use Rattle.relation_recursion.proofs.structural.existentials.Goals as goal

pub relate_parts-requires-clause-paired : goal.relate_parts-requires-clause-paired
relate_parts-requires-clause-paired g c = inr refl

pub expect_existential-requires : goal.expect_existential-requires
expect_existential-requires g c = (c.in_ok-relate_parts.ensures).sort

pub returns-in_err-relate_parts : goal.returns-in_err-relate_parts
returns-in_err-relate_parts g c =
    let r = g.R.HasState.state c.args.r.now in
    let M = g.R.TypeRelation.manner in
    let a = existential_tree r.meaning c.args.a.now in
    let b = existential_tree r.meaning c.args.b.now in
    let q = g.R.HasState.state c.relate_parts.new.r in
    let tree = existential_tree q.meaning in
    let n = c.in_err-relate_parts in
    let res = c.from_residual.result in
    let failed = as_err res n.field-0.0 c.from_residual.ensures.0 c.from_residual.ensures.1 in
    record {
      related = subst (λ z. Related M r q r.ambient a b tree z) (sym failed)
          (refused_again M r.ambient a b (part_tree q.meaning) tree n.field-0.0 (n.ensures).related);
      form = subst (λ z. IfOk z (λ p. predicate_form p ≡ predicate_form c.args.a.now)) (sym failed) tt;
    }

pub returns : goal.returns
returns g c =
    let r = g.R.HasState.state c.args.r.now in
    let M = g.R.TypeRelation.manner in
    let a = existential_tree r.meaning c.args.a.now in
    let b = existential_tree r.meaning c.args.b.now in
    let q = g.R.HasState.state c.relate_parts.new.r in
    let n = c.in_ok-relate_parts in
    record {
      related = retold M r.ambient a b (part_tree q.meaning) n.field-0 (existential_tree q.meaning)
          c.expect_existential.result (ap (part_tree q.meaning) c.expect_existential.ensures) (n.ensures).related;
      form = same_form c.expect_existential.result c.args.a.now n.field-0 c.expect_existential.ensures (n.ensures).predicate;
    }
