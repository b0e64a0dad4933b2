-- Variables are not fixed, all other regions are.
use Rattle.std.proofs.Common.{refl}
use Rattle.text_users.proofs.Fixing.{stops, enters, region_fixed}
use Rattle.text_users.proofs.fixed.at_region.Goals as goal

pub returns-in-ReVar : goal.returns-in-ReVar
returns-in-ReVar g c = stops _ _ c.in-ReVar.ensures refl

pub returns-in_default : goal.returns-in_default
returns-in_default g c = enters _ _ c.region_kind.ensures (region_fixed (g.I.Interner.meaning c.args.cx.now)
    c.region_kind.result c.in_default.not-ReVar)
