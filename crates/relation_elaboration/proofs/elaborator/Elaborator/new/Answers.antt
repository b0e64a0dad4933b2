use Rattle.relation_elaboration.proofs.Pulled.{kept_empty}
use Rattle.relation_elaboration.proofs.elaborator.Elaborator.new.Goals as goal

pub invariant_of-result : goal.invariant_of-result
invariant_of-result g c =
    kept_empty g.O.HasTree.tree (g.I.Interner.meaning c.args.cx.now) c.new.result.items c.new-2.result.keys c.args.limit
    c.new.ensures.items c.new-2.ensures.empty
