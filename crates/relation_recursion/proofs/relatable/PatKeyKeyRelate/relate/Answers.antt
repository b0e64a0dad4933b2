use Rattle.relation_steps.proofs.Sorted.{pat_sorted}
use Rattle.relation_recursion.proofs.Alone.{left_none, pattern_is_none}
use Rattle.relation_recursion.proofs.relatable.PatKeyKeyRelate.relate.Goals as goal

pub returns-clause-registers : goal.returns-clause-registers
returns-clause-registers g c =
    let r = g.R.HasState.state c.args.r.now in
    let k = c.args.a.now in
    left_none g.R.TypeRelation.manner r (g.R.HasState.state c.pats.new.r) ((r.meaning).pat k)
    ((r.meaning).pat c.args.b.now) r.ambient c.pats.result (pattern_is_none ((r.meaning).pat k)
    (pat_sorted (g.met.R.TypeRelation.reads c.args.r.now) k
    ((g.met.I.Interner.sorted (g.R.TypeRelation.interner c.args.r.now)).pat k) (c.requires.asked).left_known))
