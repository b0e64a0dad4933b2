use Rattle.std.proofs.Common.{arith, refl, ◌<◌, ◌-◌, ◌+◌, length}
use Rattle.relation_terms.specs.Trees.{count}
use Rattle.relation_terms.specs.declared.terms.generic_arg.GenericArgKind.TheVariants.{Ty as TyArg}
use Rattle.relation_terms.specs.Interning.{Sorted}
use Rattle.relation_terms.proofs.Members.{slice_counts, slice_list, slice_nth, slice_sure}
use Rattle.walk.proofs.Placing.{pushes_one, type_places, front_init, front_next, front_end}
use Rattle.walk.proofs.places.push_tys.Goals as goal

pub loop-i-init : goal.loop-i-init
loop-i-init g c =
    let m = g.I.Interner.meaning c.args.cx.now in
    let ts = m.tys c.args.tys.now in
    let list = c.tys-list.result.now in
    let said = c.tys-list.ensures in
    front_init m _ _ 0 ts (slice_list m.ty list ts said) (slice_counts m.ty list ts said) refl

pub loop-i-preserved : goal.loop-i-preserved
loop-i-preserved g c =
    let m = g.I.Interner.meaning c.args.cx.now in
    let sorted : Sorted m = g.met.I.Interner.sorted c.args.cx.now in
    let ts = m.tys c.args.tys.now in
    let list = c.tys-list.result.now in
    let said = c.tys-list.ensures in
    let counted = slice_counts m.ty list ts said in
    let n = length list in
    let i = c.loop-i.i in
    let x = c.index-list-count.result in
    let test = c.loop-i-test.true in
    let below : n - 1 - i < count ts = omega (arith, counted, test) in
    let k = slice_sure m.ty list ts said c.requires (n - 1 - i) x x below c.index-list-count.is in
    let at = slice_nth m.ty list ts said (n - 1 - i) x x below c.index-list-count.is in
    front_next m _ c.loop-i.stack _ n i (i + 1) ts (m.ty x) counted test refl at c.loop-i.invariant
    (pushes_one m _ _ (TyArg x) _ c.in_ok-push.ensures.ok (type_places m sorted x k))

pub returns : goal.returns
returns g c =
    let m = g.I.Interner.meaning c.args.cx.now in
    let ts = m.tys c.args.tys.now in
    let n = length c.tys-list.result.now in
    let i = c.loop-i.i in
    let test = c.loop-i-test.false in
    let end = (c.loop-i.auto).i-end in
    front_end m _ _ n i ts (omega (arith, test, end)) c.loop-i.invariant
