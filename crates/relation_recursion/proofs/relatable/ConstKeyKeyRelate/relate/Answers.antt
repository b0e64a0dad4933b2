use Rattle.relation_steps.proofs.Sorted.{const_sorted}
use Rattle.relation_recursion.proofs.Alone.{left_none, const_is_none}
use Rattle.relation_recursion.proofs.relatable.ConstKeyKeyRelate.relate.Goals as goal

pub returns-clause-registers : goal.returns-clause-registers
returns-clause-registers g c =
    let r = g.R.HasState.state c.args.r.now in
    let k = c.args.a.now in
    left_none g.R.TypeRelation.manner r (g.R.HasState.state c.consts.new.r) ((r.meaning).const_ k)
    ((r.meaning).const_ c.args.b.now) r.ambient c.consts.result (const_is_none ((r.meaning).const_ k)
    (const_sorted (g.met.R.TypeRelation.reads c.args.r.now) k
    ((g.met.I.Interner.sorted (g.R.TypeRelation.interner c.args.r.now)).const_ k) (c.requires.asked).left_known))
