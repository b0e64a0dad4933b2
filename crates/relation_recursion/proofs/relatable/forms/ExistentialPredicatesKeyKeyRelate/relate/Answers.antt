use Rattle.relation_terms.specs.Heads.{object}
use Rattle.relation_terms.specs.Trees.{node}
use Rattle.relation_recursion.proofs.Alone.{left_none, node_is_none}
use Rattle.relation_recursion.proofs.relatable.forms.ExistentialPredicatesKeyKeyRelate.relate.Goals as goal

pub returns-clause-registers : goal.returns-clause-registers
returns-clause-registers g c =
    let r = g.R.HasState.state c.args.r.now in
    let a = (r.meaning).existential_predicates c.args.a.now in
    left_none g.R.TypeRelation.manner r (g.R.HasState.state c.objects.new.r) (node object a)
    (node object ((r.meaning).existential_predicates c.args.b.now)) r.ambient c.objects.result (node_is_none object a (λ e. cc))
