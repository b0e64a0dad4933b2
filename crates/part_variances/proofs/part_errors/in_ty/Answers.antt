use Rattle.std.proofs.Common.{Err, subst, sym}
use Rattle.part_variances.specs.PartErrors.{IsResultOfTy}
use Rattle.part_variances.proofs.part_errors.in_ty.Goals as goal

pub returns-in-Err : goal.returns-in-Err
returns-in-Err g c = subst (λ z. IsResultOfTy ((g.I.Interner.meaning c.args.cx.now).ty c.args.ty.now) c.args.x.now c.args.y.now z (Err c.of_ty.result)) (sym c.in-Err.is) c.of_ty.ensures
