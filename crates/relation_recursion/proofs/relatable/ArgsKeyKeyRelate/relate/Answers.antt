use Rattle.relation_terms.specs.Heads.{arguments}
use Rattle.relation_terms.specs.Trees.{node}
use Rattle.relation_recursion.proofs.Alone.{left_none, node_is_none}
use Rattle.relation_recursion.proofs.relatable.ArgsKeyKeyRelate.relate.Goals as goal

pub returns-clause-registers : goal.returns-clause-registers
returns-clause-registers g c =
    let r = g.R.HasState.state c.args.r.now in
    let a = (r.meaning).args c.args.a.now in
    left_none g.R.TypeRelation.manner r (g.R.HasState.state c.relate_args_invariantly.new.r) (node arguments a)
    (node arguments ((r.meaning).args c.args.b.now)) r.ambient c.relate_args_invariantly.result (node_is_none arguments a (λ e. cc))
