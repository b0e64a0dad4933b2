use Rattle.std.proofs.Common.{◌+◌, ◌++◌, [], take, map, subst, arith}
use Rattle.std.proofs.lemmas.List.{take_all}
use Rattle.relation_terms.specs.Meaning.{arg_tree}
use Rattle.relation_terms.proofs.Stays.{stays_same, extends_on}
use Rattle.outlives_assumptions.specs.Assumptions.{IsKnown, assumed, elaborated, all_elaborated, HaveSame}
use Rattle.outlives_assumptions.specs.Assuming.{Gains}
use Rattle.outlives_assumptions.proofs.Assumptions.{gains_after, gains_as, same_as, all_at, taken_next, all_more}
use Rattle.outlives_assumptions.proofs.Assumptions.{knows_assumed, stays_elaborated, gains_none}
use Rattle.outlives_assumptions.proofs.elaborate_outlives_assumptions.Goals as goal

pub loop-assumption-init : goal.loop-assumption-init
loop-assumption-init g c =
    let m = g.I.Interner.meaning c.args.cx.now in
    record { grown = stays_same m; gains = gains_none m c.new-collected.result.keys c.new-collected.ensures.empty }

pub add_assumption-requires-clause-known : goal.add_assumption-requires-clause-known
add_assumption-requires-clause-known g c =
    let m = g.I.Interner.meaning c.args.cx.now in
    let x = c.assumption-item.result in
    knows_assumed c.loop-assumption.invariant.grown x
    (all_at (IsKnown m) c.args.assumptions.now c.loop-assumption.assumption-index x c.requires
    c.loop-assumption-test.true c.assumption-item.is)

pub add_assumption-requires-clause-sure : goal.add_assumption-requires-clause-sure
add_assumption-requires-clause-sure g c = c.loop-assumption.invariant.gains.0

pub returns-in_err-add_assumption-clause-grown : goal.returns-in_err-add_assumption-clause-grown
returns-in_err-add_assumption-clause-grown g c =
    extends_on c.loop-assumption.invariant.grown c.add_assumption.ensures.grown

pub loop-assumption-preserved : goal.loop-assumption-preserved
loop-assumption-preserved g c =
    let m = g.I.Interner.meaning c.args.cx.now in
    let n = g.I.Interner.meaning c.loop-assumption.cx in
    let o = g.I.Interner.meaning c.add_assumption.new.cx in
    let e = c.loop-assumption.invariant.grown in
    let x = c.assumption-item.result in
    let i = c.loop-assumption.assumption-index in
    let all = c.args.assumptions.now in
    let ys = c.loop-assumption.collected.keys in
    let zs = c.add_assumption.new.collected.keys in
    let test = c.loop-assumption-test.true in
    let k = all_at (IsKnown m) all i x c.requires test c.assumption-item.is in
    let ps = all_elaborated m (take i all) in
    let old = elaborated (arg_tree m x.0) (m.region x.1) in
    let whole = all_elaborated m (take (i + 1) all) in
    let next = all_more m (take i all) (take (i + 1) all) x (taken_next all i x test c.assumption-item.is) in
    let gained = subst (Gains n o ys zs) (stays_elaborated e x k) c.in_ok-add_assumption.ensures.gains in
    record {
      grown = extends_on e c.add_assumption.ensures.grown;
      gains = gains_as m o [] zs (ps ++ old) whole (same_as (ps ++ old) whole next)
          (gains_after m n o [] ys zs ps old c.loop-assumption.invariant.gains gained);
    }

pub returns-clause-grown : goal.returns-clause-grown
returns-clause-grown g c = c.loop-assumption.invariant.grown

pub returns-clause-sure : goal.returns-clause-sure
returns-clause-sure g c = c.loop-assumption.invariant.gains.0

pub returns-clause-same : goal.returns-clause-same
returns-clause-same g c =
    let m = g.I.Interner.meaning c.args.cx.now in
    let n = g.I.Interner.meaning c.loop-assumption.cx in
    let all = c.args.assumptions.now in
    let test = c.loop-assumption-test.false in
    subst (λ z. HaveSame (map (assumed n) c.loop-assumption.collected.keys) (all_elaborated m z))
    (take_all c.loop-assumption.assumption-index all (omega (arith, test))) c.loop-assumption.invariant.gains.1
