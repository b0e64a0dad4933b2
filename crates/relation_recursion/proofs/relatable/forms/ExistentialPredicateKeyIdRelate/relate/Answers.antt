use Rattle.relation_terms.specs.Meaning.{existential_tree}
use Rattle.relation_recursion.proofs.Alone.{left_none}
use Rattle.relation_recursion.proofs.RelatableForms.{existential_is_none}
use Rattle.relation_recursion.proofs.relatable.forms.ExistentialPredicateKeyIdRelate.relate.Goals as goal

pub returns-clause-registers : goal.returns-clause-registers
returns-clause-registers g c =
    let r = g.R.HasState.state c.args.r.now in
    left_none g.R.TypeRelation.manner r (g.R.HasState.state c.existentials.new.r)
    (existential_tree r.meaning c.args.a.now) (existential_tree r.meaning c.args.b.now) r.ambient c.existentials.result
    (existential_is_none r.meaning c.args.a.now)
