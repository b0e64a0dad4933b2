use Rattle.relation_combining.proofs.DeferredPairs.{ty_variable, int_variable, float_variable}
use Rattle.relation_combining.proofs.deferring.standing_by.Goals as goal

pub returns-in-TyVar : goal.returns-in-TyVar
returns-in-TyVar g c = λ m. ty_variable m c.args.kind.now c.in-Infer.vid _ c.in-Infer.is c.in-TyVar.is

pub returns-in-IntVar : goal.returns-in-IntVar
returns-in-IntVar g c = λ m. int_variable m c.args.kind.now c.in-Infer.vid _ c.in-Infer.is c.in-IntVar.is

pub returns-in-FloatVar : goal.returns-in-FloatVar
returns-in-FloatVar g c = λ m. float_variable m c.args.kind.now c.in-Infer.vid _ c.in-Infer.is c.in-FloatVar.is
