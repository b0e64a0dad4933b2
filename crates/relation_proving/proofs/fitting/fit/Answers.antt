-- What is told of the two is what relating them promises.
use Rattle.term_enums.specs.declared.StructurallyRelateAliases.TheVariants.{No}
use Rattle.relation_proving.proofs.Fits.{tells}
use Rattle.relation_proving.proofs.fitting.fit.Goals as goal

pub returns-clause-tells : goal.returns-clause-tells
returns-clause-tells g c =
    rw c.fitting_of.ensures (tells g.C.InferCtxtLike.state c.args.ctx.now c.relate.new.self g.T.Relate.over
    g.T.HasTree.tree No c.args.param_env c.args.goal c.args.given c.relate.result c.relate.ensures.both c.relate.ensures.loses_none
    c.relate.ensures.fault c.relate.ensures.leaves)
