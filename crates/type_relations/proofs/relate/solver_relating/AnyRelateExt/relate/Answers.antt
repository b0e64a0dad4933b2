use Rattle.std.proofs.Common.{sym, subst}
use Rattle.relation_terms.specs.Interning.{Sorted}
use Rattle.term_enums.specs.declared.StructurallyRelateAliases.TheVariants.{No}
use Rattle.relation_combining.specs.Solving.{solver_settings}
use Rattle.context_relation.proofs.Asked.{related_where_asked}
use Rattle.context_relation.proofs.Closed.{leaves_closed, asks_nothing}
use Rattle.context_relation.proofs.Completing.{completes}
use Rattle.type_relations.proofs.relate.solver_relating.AnyRelateExt.relate.Goals as goal

pub returns-clause-complete : goal.returns-clause-complete
returns-clause-complete g c =
    let d = c.relate_as.new.infcx in
    let k = c.relate_as.ensures in
    let sorted = subst Sorted (sym (g.met.Infcx.InferCtxtLike.reads d))
    (g.met.Infcx.Interner.Interner.sorted (g.Infcx.InferCtxtLike.interner d)) in
    completes g.Infcx.InferCtxtLike.state c.args.self.now d g.T.Relate.over g.T.HasTree.tree sorted k.leaves.store_sound k.leaves.grown
    k.leaves.frame.setup (g.met.Infcx.InferCtxtLike.sound c.args.self.now c.requires.can.lawful) No c.args.param_env c.args.variance c.args.lhs
    c.args.rhs c.relate_as.result k.needs k.both.agrees k.fault.errors

pub returns-clause-closed : goal.returns-clause-closed
returns-clause-closed g c =
    let k = c.relate_as.ensures in
    leaves_closed g.Infcx.InferCtxtLike.state c.args.self.now c.relate_as.new.infcx g.T.Relate.over g.T.HasTree.tree
    c.args.lhs c.args.rhs (g.met.Infcx.InferCtxtLike.sound c.args.self.now c.requires.can.lawful) c.relate_as.result k.leaves.no_new_forms
    k.needs

pub returns-clause-no_goals : goal.returns-clause-no_goals
returns-clause-no_goals g c =
    let k = c.relate_as.ensures in
    let s = g.Infcx.InferCtxtLike.state c.args.self.now in
    asks_nothing g.Infcx.InferCtxtLike.state c.args.self.now c.relate_as.new.infcx g.T.Relate.over g.T.HasTree.tree
    c.args.lhs c.args.rhs (solver_settings No s.setup) c.args.param_env c.args.variance (g.met.Infcx.InferCtxtLike.sound c.args.self.now c.requires.can.lawful)
    c.relate_as.result k.leaves.no_new_forms k.asks.goals

pub returns-clause-met : goal.returns-clause-met
returns-clause-met g c =
    related_where_asked g.Infcx.InferCtxtLike.state c.args.self.now c.relate_as.new.infcx g.T.Relate.over
    g.T.HasTree.tree No c.args.param_env c.args.variance c.args.lhs c.args.rhs c.relate_as.result c.relate_as.ensures.both.agrees
