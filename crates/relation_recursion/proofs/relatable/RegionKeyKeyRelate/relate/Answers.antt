use Rattle.relation_steps.proofs.Sorted.{region_sorted}
use Rattle.relation_recursion.proofs.Alone.{left_none, region_is_none}
use Rattle.relation_recursion.proofs.relatable.RegionKeyKeyRelate.relate.Goals as goal

pub returns-clause-registers : goal.returns-clause-registers
returns-clause-registers g c =
    let r = g.R.HasState.state c.args.r.now in
    let k = c.args.a.now in
    left_none g.R.TypeRelation.manner r (g.R.HasState.state c.regions.new.self) ((r.meaning).region k)
    ((r.meaning).region c.args.b.now) r.ambient c.regions.result (region_is_none ((r.meaning).region k)
    (region_sorted (g.met.R.TypeRelation.reads c.args.r.now) k
    ((g.met.I.Interner.sorted (g.R.TypeRelation.interner c.args.r.now)).region k) (c.requires.asked).left_known))
