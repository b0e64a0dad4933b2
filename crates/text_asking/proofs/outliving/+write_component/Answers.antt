use Rattle.std.proofs.Common.{rules}
use Rattle.text_asking.proofs.OutlivesLemmas.{held_known, held_less}
use Rattle.text_asking.proofs.outliving.+write_component.Goals as goal

pub write_component-requires : goal.write_component-requires
write_component-requires g t c κs within =
    let m = g.I.Interner.meaning c.args.cx.now in
    let d = c.decreases in
    let list = c.in-EscapingAlias.inside in
    let xs = c.deref-inner-items.result.now in
    let sure =
    held_known m list c.args.component.now xs c.loop-place.place c.inner-item.result c.in-EscapingAlias.is
    c.deref-inner-items.ensures.value c.loop-place-test.true c.inner-item.is c.requires in
    let small =
    held_less list c.args.component.now xs c.loop-place.place c.inner-item.result c.in-EscapingAlias.is
    c.deref-inner-items.ensures.value c.loop-place-test.true c.inner-item.is in
    search rules
