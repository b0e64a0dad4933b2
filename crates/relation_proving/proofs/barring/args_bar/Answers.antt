use Rattle.std.proofs.Common.{◌<◌, sym, subst, length, IsTrue, arith}
use Rattle.relation_terms.specs.Meaning.{arg_tree}
use Rattle.relation_terms.specs.Trees.{known}
use Rattle.relation_semantics.specs.FirstOrder.{IsFirstOrder}
use Rattle.relation_semantics.specs.Stores.{IsTermIn}
use Rattle.relation_proving.proofs.Barred.{each_first_order, list_apart}
use Rattle.relation_proving.proofs.OpenedRules.{each_known, each_in}
use Rattle.relation_proving.proofs.barring.args_bar.Goals as goal

pub arg_bars-requires : goal.arg_bars-requires
arg_bars-requires g c =
    let s = g.C.InferCtxtLike.state c.args.ctx.now in
    let f = arg_tree s.meaning in
    let x = c.index-goal-i.result in
    let y = c.index-given-i.result in
    let test = c.loop-i-test.true in
    let below : c.loop-i.i < length c.args.goal.now = omega (arith, test) in
    let under : c.loop-i.i < length c.args.given.now = omega (arith, test) in
    record {
      lawful = c.requires.lawful;
      goal_known = subst (λ k. IsTrue (known (f k))) (sym c.index-goal-i.is)
          (each_known f c.args.goal.now c.requires.goal_known c.loop-i.i x below);
      goal_in = subst (λ k. IsTermIn s.store (f k)) (sym c.index-goal-i.is)
          (each_in f s.store c.args.goal.now c.requires.goal_in c.loop-i.i x below);
      given_known = subst (λ k. IsTrue (known (f k))) (sym c.index-given-i.is)
          (each_known f c.args.given.now c.requires.given_known c.loop-i.i y under);
    }

pub returns-then-arg_bars : goal.returns-then-arg_bars
returns-then-arg_bars g c = λ yes bindings first.
    let s = g.C.InferCtxtLike.state c.args.ctx.now in
    let f = arg_tree s.meaning in
    let x = c.index-goal-i.result in
    let y = c.index-given-i.result in
    let test = c.loop-i-test.true in
    let below : c.loop-i.i < length c.args.goal.now = omega (arith, test) in
    let under : c.loop-i.i < length c.args.given.now = omega (arith, test) in
    list_apart s f c.args.goal.now c.args.given.now c.loop-i.i x y below under c.index-goal-i.is c.index-given-i.is
    (c.arg_bars.ensures c.if-arg_bars.true bindings (subst (λ k. IsFirstOrder (f k)) (sym c.index-goal-i.is)
    (each_first_order f c.args.goal.now first c.loop-i.i x below)))
