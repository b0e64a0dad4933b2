use Rattle.text_asking.proofs.Recorded.{types_known, ints_known, floats_known, consts_known}
use Rattle.text_asking.proofs.printing.write_bound.Goals as goal

pub write_bound_tys-requires : goal.write_bound_tys-requires
write_bound_tys-requires g c =
    let m = g.I.Interner.meaning c.args.ctx.now.interner in
    types_known m c.args.ctx.now.inner c.requires

pub write_bound_tys-requires-2 : goal.write_bound_tys-requires-2
write_bound_tys-requires-2 g c =
    let m = g.I.Interner.meaning c.args.ctx.now.interner in
    ints_known m c.args.ctx.now.inner c.requires

pub write_bound_tys-requires-3 : goal.write_bound_tys-requires-3
write_bound_tys-requires-3 g c =
    let m = g.I.Interner.meaning c.args.ctx.now.interner in
    floats_known m c.args.ctx.now.inner c.requires

pub write_bound_consts-requires : goal.write_bound_consts-requires
write_bound_consts-requires g c =
    let m = g.I.Interner.meaning c.args.ctx.now.interner in
    consts_known m c.args.ctx.now.inner c.requires
