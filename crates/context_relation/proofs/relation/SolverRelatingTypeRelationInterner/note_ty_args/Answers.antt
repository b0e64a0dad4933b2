use Rattle.context_relation.specs.SolverStates.{solver_through}
use Rattle.relation_combining.proofs.Bivariance.{asks_of_over}
use Rattle.context_relation.proofs.StepsAlone.{asks_open}
use Rattle.context_relation.proofs.relation.SolverRelatingTypeRelationInterner.note_ty_args.Goals as goal

pub returns-clause-registers : goal.returns-clause-registers
returns-clause-registers g c =
    asks_of_over (solver_through g.Infcx.InferCtxtLike.state) c.args.self.now c.combine_ty_args.new.r c.args.def_id.now
    c.args.a_ty.now c.args.b_ty.now c.args.a_args.now c.args.b_args.now c.combine_ty_args.result c.requires.over
    c.combine_ty_args.ensures.registers

pub returns-clause-asks : goal.returns-clause-asks
returns-clause-asks g c = asks_open (solver_through g.Infcx.InferCtxtLike.state c.args.self.now)
    (solver_through g.Infcx.InferCtxtLike.state c.combine_ty_args.new.r) c.args.a_ty.now c.args.b_ty.now
    c.combine_ty_args.result c.combine_ty_args.ensures.noted (returns-clause-registers g c)
