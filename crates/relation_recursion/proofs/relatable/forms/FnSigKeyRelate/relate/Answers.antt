use Rattle.relation_terms.specs.Heads.{signature, inputs}
use Rattle.relation_terms.specs.Trees.{node, nil, cons, front, last}
use Rattle.relation_terms.specs.Meaning.{signature_tree}
use Rattle.relation_recursion.proofs.Alone.{left_none, node_is_none}
use Rattle.relation_recursion.proofs.relatable.forms.FnSigKeyRelate.relate.Goals as goal

pub returns-clause-registers : goal.returns-clause-registers
returns-clause-registers g c =
    let r = g.R.HasState.state c.args.r.now in
    let s = c.args.a.now in
    let tys = (r.meaning).tys s.inputs_and_output in
    left_none g.R.TypeRelation.manner r (g.R.HasState.state c.signatures.new.r) (signature_tree r.meaning s)
    (signature_tree r.meaning c.args.b.now) r.ambient c.signatures.result
    (node_is_none (signature (s.header).c_variadic (s.header).safety (s.header).abi)
    (cons (node inputs (front tys)) (cons (last tys) nil)) (λ e. cc))
