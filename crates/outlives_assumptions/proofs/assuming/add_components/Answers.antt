use Rattle.std.proofs.Common.{◌∷◌, ◌+◌, ◌++◌, [], take, subst, arith}
use Rattle.std.proofs.lemmas.List.{take_all}
use Rattle.std.specs.List.{filter_map}
use Rattle.relation_terms.proofs.Stays.{stays_same, extends_on, knows_region}
use Rattle.outlives_assumptions.specs.Assuming.{pair_of, IsKnownComponent, Gains}
use Rattle.outlives_assumptions.proofs.Assumptions.{gains_grown, gains_after, gains_as, same_as, all_at, filter_next}
use Rattle.outlives_assumptions.proofs.Assumptions.{knows_component, stays_pairs}
use Rattle.outlives_assumptions.proofs.assuming.add_components.Goals as goal

pub loop-component-init : goal.loop-component-init
loop-component-init g c =
    let e = stays_same (g.I.Interner.meaning c.args.cx.now) in
    record { grown = e; gains = gains_grown e c.args.collected.now.keys c.requires.sure }

pub add_component-requires-clause-component : goal.add_component-requires-clause-component
add_component-requires-clause-component g c =
    let m = g.I.Interner.meaning c.args.cx.now in
    let x = c.component-item.result in
    knows_component c.loop-component.invariant.grown x
    (all_at (IsKnownComponent m) c.args.components.now c.loop-component.component-index x c.requires.components
    c.loop-component-test.true c.component-item.is)

pub add_component-requires-clause-region : goal.add_component-requires-clause-region
add_component-requires-clause-region g c =
    knows_region c.loop-component.invariant.grown c.args.region.now c.requires.region

pub add_component-requires-clause-sure : goal.add_component-requires-clause-sure
add_component-requires-clause-sure g c = c.loop-component.invariant.gains.0

pub returns-in_err-add_component-clause-grown : goal.returns-in_err-add_component-clause-grown
returns-in_err-add_component-clause-grown g c =
    extends_on c.loop-component.invariant.grown c.add_component.ensures.grown

pub loop-component-preserved : goal.loop-component-preserved
loop-component-preserved g c =
    let m = g.I.Interner.meaning c.args.cx.now in
    let n = g.I.Interner.meaning c.loop-component.cx in
    let o = g.I.Interner.meaning c.add_component.new.cx in
    let e = c.loop-component.invariant.grown in
    let r = c.args.region.now in
    let x = c.component-item.result in
    let i = c.loop-component.component-index in
    let cs = c.args.components.now in
    let f = pair_of m (m.region r) in
    let xs = c.args.collected.now.keys in
    let ys = c.loop-component.collected.keys in
    let zs = c.add_component.new.collected.keys in
    let k = all_at (IsKnownComponent m) cs i x c.requires.components c.loop-component-test.true c.component-item.is in
    let ps = filter_map f (take i cs) in
    let qs = filter_map (pair_of n (n.region r)) (x ∷ []) in
    let all = filter_map f (take (i + 1) cs) in
    let next = filter_next f cs i x qs c.loop-component-test.true c.component-item.is
    (stays_pairs e x r k c.requires.region) in
    record {
      grown = extends_on e c.add_component.ensures.grown;
      gains = gains_as m o xs zs (ps ++ qs) all (same_as (ps ++ qs) all next)
          (gains_after m n o xs ys zs ps qs c.loop-component.invariant.gains c.in_ok-add_component.ensures.gains);
    }

pub returns-clause-gains : goal.returns-clause-gains
returns-clause-gains g c =
    let m = g.I.Interner.meaning c.args.cx.now in
    let n = g.I.Interner.meaning c.loop-component.cx in
    let f = pair_of m (m.region c.args.region.now) in
    let cs = c.args.components.now in
    let test = c.loop-component-test.false in
    subst (λ z. Gains m n c.args.collected.now.keys c.loop-component.collected.keys (filter_map f z))
    (take_all c.loop-component.component-index cs (omega (arith, test))) c.loop-component.invariant.gains
