use Rattle.text_asking.proofs.Recorded.{types_known, ints_known, floats_known, consts_known, found_known}
use Rattle.text_asking.proofs.roots.class_binding.Goals as goal

pub returns-in_ok-bound_at-in-Ty-clause-sure : goal.returns-in_ok-bound_at-in-Ty-clause-sure
returns-in_ok-bound_at-in-Ty-clause-sure g c =
    let m = g.I.Interner.meaning c.args.ctx.now.interner in
    found_known m.ty c.args.ctx.now.inner.types.items c.class_root-root.result c.in_ok-bound_at-in-Ty.field-0
    (types_known m c.args.ctx.now.inner c.requires)
    c.in_ok-bound_at-in-Ty.ensures

pub returns-in_ok-bound_at-in-Int-clause-sure : goal.returns-in_ok-bound_at-in-Int-clause-sure
returns-in_ok-bound_at-in-Int-clause-sure g c =
    let m = g.I.Interner.meaning c.args.ctx.now.interner in
    found_known m.ty c.args.ctx.now.inner.ints.items c.class_root-root.result c.in_ok-bound_at-in-Int.field-0
    (ints_known m c.args.ctx.now.inner c.requires)
    c.in_ok-bound_at-in-Int.ensures

pub returns-in_ok-bound_at-in-Float-clause-sure : goal.returns-in_ok-bound_at-in-Float-clause-sure
returns-in_ok-bound_at-in-Float-clause-sure g c =
    let m = g.I.Interner.meaning c.args.ctx.now.interner in
    found_known m.ty c.args.ctx.now.inner.floats.items c.class_root-root.result c.in_ok-bound_at-in-Float.field-0
    (floats_known m c.args.ctx.now.inner c.requires)
    c.in_ok-bound_at-in-Float.ensures

pub returns-in_ok-bound_at-in-Const-clause-sure : goal.returns-in_ok-bound_at-in-Const-clause-sure
returns-in_ok-bound_at-in-Const-clause-sure g c =
    let m = g.I.Interner.meaning c.args.ctx.now.interner in
    found_known m.const_ c.args.ctx.now.inner.consts.items c.class_root-root.result c.in_ok-bound_at-in-Const.field-0
    (consts_known m c.args.ctx.now.inner c.requires)
    c.in_ok-bound_at-in-Const.ensures
