-- Variables, stand-ins and parameters are not fixed, all else is.
use Rattle.std.proofs.Common.{refl}
use Rattle.text_users.proofs.Fixing.{stops, enters, infer_const_unfixed, const_fixed}
use Rattle.text_users.proofs.fixed.at_const.Goals as goal

pub returns-in-Infer : goal.returns-in-Infer
returns-in-Infer g c = stops _ _ c.in-Infer.ensures (infer_const_unfixed c.in-Infer.field-0)

pub returns-in-Param : goal.returns-in-Param
returns-in-Param g c = stops _ _ c.in-Param.ensures refl

pub returns-in_default : goal.returns-in_default
returns-in_default g c = enters _ _ c.const_kind.ensures (const_fixed (g.I.Interner.meaning c.args.cx.now)
    c.const_kind.result c.in_default.not-Infer c.in_default.not-Param)
