use Rattle.std.proofs.Common.{ap, Some}
use Rattle.outlives_assumptions.proofs.assuming.ty_arg.Goals as goal

pub mk_ty-requires : goal.mk_ty-requires
mk_ty-requires g c = c.requires

pub returns-clause-grown : goal.returns-clause-grown
returns-clause-grown g c = c.mk_ty.ensures.grown

pub returns-clause-sure : goal.returns-clause-sure
returns-clause-sure g c = c.in_ok-mk_ty.ensures.sure

pub returns-clause-is : goal.returns-clause-is
returns-clause-is g c = ap (λ z. Some z) c.in_ok-mk_ty.ensures.made
