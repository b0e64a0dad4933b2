use Rattle.std.proofs.Common.{◌≡◌}
use Rattle.relation_terms.specs.Trees.{count, list_tree}
use Rattle.relation_steps.specs.Arguments.{args_head}
use Rattle.relation_terms.specs.Meaning.{arg_tree}
use Rattle.relation_steps.proofs.Fronts.{Fronted, AreParts}
use Rattle.relation_semantics.proofs.Answering.{AreAnswers}
use Rattle.relation_recursion.proofs.args.relate_args.Given as goal

abbrev pub invariant-loop-i : goal.invariant-loop-i
invariant-loop-i g l =
    let r = g.R.HasState.state l.initial.r in
    let q = g.R.HasState.state l.r in
    let ts = (r.meaning).args l.a in
    let us = (r.meaning).args l.b in
    record {
      lawful : q.lawful;
      fronted : Fronted g.R.TypeRelation.manner r q (args_head r.meaning l.variances) r.ambient l.i ts us;
      counts : l.n ≡ count ts;
      are_parts : AreParts r.store ts us;
      answers : AreAnswers g.R.TypeRelation.manner q (args_head r.meaning l.variances) r.ambient l.i ts
          (list_tree (arg_tree q.meaning) l.answers.items);
    }
