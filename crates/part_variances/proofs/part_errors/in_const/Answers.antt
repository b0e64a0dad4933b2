use Rattle.std.proofs.Common.{Err, subst, sym}
use Rattle.part_variances.specs.PartErrors.{IsResultOfConst}
use Rattle.part_variances.proofs.part_errors.in_const.Goals as goal

pub returns-in-Err : goal.returns-in-Err
returns-in-Err g c = subst (λ z. IsResultOfConst ((g.I.Interner.meaning c.args.cx.now).const_ c.args.a.now) c.args.a.now c.args.b.now z (Err c.of_const.result)) (sym c.in-Err.is) c.of_const.ensures
