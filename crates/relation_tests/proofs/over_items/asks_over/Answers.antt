use Rattle.relation_terms.specs.Heads.{adt}
use Rattle.relation_terms.specs.Trees.{node}
use Rattle.reference_interner.specs.Adding.{meaning_in}
use Rattle.plain_relation.proofs.Concrete.{concrete_as, concrete_asked, concrete_known}
use Rattle.relation_tests.proofs.over_items.asks_over.Goals as goal

pub related_over-requires-clause-asked : goal.related_over-requires-clause-asked
related_over-requires-clause-asked c =
    let m = meaning_in c.args.cx in
    let over = c.args.over.now in
    let all = concrete_as (node (adt (m.id c.args.item)) (m.args over.args)) (m.ty over.ty) c.requires.is
    c.requires.concrete in
    concrete_asked m _ (m.ty over.ty) (m.ty over.ty) all all

pub related_over-requires-clause-args_known : goal.related_over-requires-clause-args_known
related_over-requires-clause-args_known c =
    concrete_known ((meaning_in c.args.cx).args c.args.over.now.args) c.requires.concrete
