use Rattle.std.proofs.Common.{sym, subst}
use Rattle.text_asking.specs.Outlives.{KnowsComponent}
use Rattle.text_asking.proofs.OutlivesLemmas.{each_at}
use Rattle.text_asking.proofs.outliving.write_components.Goals as goal

pub write_component-requires : goal.write_component-requires
write_component-requires g c =
    let Knows = KnowsComponent (g.I.Interner.meaning c.args.cx.now) in
    subst Knows (sym c.index-components-place.is)
    (each_at Knows c.args.components.now c.loop-place.place c.index-components-place.result c.loop-place-test.true c.requires)
