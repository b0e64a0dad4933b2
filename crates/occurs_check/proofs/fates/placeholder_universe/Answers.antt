use Rattle.std.proofs.Common.{rules}
use Rattle.occurs_check.proofs.fates.placeholder_universe.Goals as goal

pub returns-in_default : goal.returns-in_default
returns-in_default g c =
    let s = g.met.I.Interner.sorted c.args.cx.now in
    let is_region = s.region in
    let is_valtree = s.valtree in
    let is_pat = s.pat in
    search rules
