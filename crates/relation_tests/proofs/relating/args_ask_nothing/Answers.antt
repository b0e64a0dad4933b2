use Rattle.relation_terms.specs.Heads.{adt}
use Rattle.relation_terms.specs.Trees.{node}
use Rattle.plain_relation.proofs.Concrete.{concrete_asked}
use Rattle.relation_tests.proofs.relating.args_ask_nothing.Goals as goal

pub related_args-requires-clause-asked : goal.related_args-requires-clause-asked
related_args-requires-clause-asked g c =
    let m = g.I.Interner.meaning c.args.cx in
    let t = node (adt (m.id c.args.def_id.now.0)) (m.args c.args.args.now) in
    concrete_asked m _ t t c.requires c.requires
