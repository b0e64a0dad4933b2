-- One bound after another.
use Rattle.std.proofs.Common.{◌≤◌, ◌+◌, ◌∙◌, arith, sym, subst, ap, length}
use Rattle.std.specs.Prelude.{Ok}
use Rattle.relation_proving.specs.Answers.{LeavesNothing}
use Rattle.relation_proving.specs.Candidates.{MayAsk}
use Rattle.relation_proving.specs.Telling.{GoesOn}
use Rattle.relation_proving.proofs.GoingOn.{goes_through, proves_on, asks_on}
use Rattle.relation_impls.proofs.Bounds.{AskedSoFar, asking_begins, asking_goes_on, asking_fails, asking_passes, asking_ended}
use Rattle.relation_impls.proofs.asking.each_holds.Goals.{in-Yes, in-Maybe}
use Rattle.relation_impls.proofs.asking.each_holds.Goals as goal

pub loop-place-init : goal.loop-place-init
loop-place-init g c = asking_begins (g.C.InferCtxtLike.state c.args.ctx.now) c.args.rules.now c.args.bounds.now
    c.requires.may.lawful

pub prove-requires : goal.prove-requires
prove-requires g c =
    let s = g.C.InferCtxtLike.state c.args.ctx.now in
    let d = g.C.InferCtxtLike.state c.loop-place.ctx in
    let on = c.loop-place.invariant.goes_on in
    record {
      may = proves_on s d on c.args.rules.now c.args.param_env c.requires.may;
      goal = subst (MayAsk d) (sym c.index-bounds-place.is) (asks_on s d on c.args.bounds.now c.requires.bounds
          c.loop-place.place c.index-bounds-place.result c.loop-place-test.true);
    }

pub returns-in_err-prove-clause-goes_on : goal.returns-in_err-prove-clause-goes_on
returns-in_err-prove-clause-goes_on g c =
    let state = g.C.InferCtxtLike.state in
    let p = c.in_err-prove.ensures in
    goes_through (state c.args.ctx.now) (state c.loop-place.ctx) (state c.prove.new.ctx) c.loop-place.invariant.goes_on
    (record { later = p.later; lawful = p.lawful; grown = p.grown })

pub loop-place-preserved : goal.loop-place-preserved
loop-place-preserved g c =
    let state = g.C.InferCtxtLike.state in
    let s = state c.args.ctx.now in
    let d = state c.loop-place.ctx in
    let e = state c.prove.new.ctx in
    let p = c.prove.ensures in
    let on : GoesOn d e = record { later = p.later; lawful = p.lawful; grown = p.grown } in
    elim c.match-branch-2.branch [
      | in-Yes w ↦ subst (AskedSoFar s c.args.rules.now c.args.bounds.now e (c.loop-place.place + 1)) (sym w.told-is)
          (asking_goes_on s c.args.rules.now c.args.bounds.now c.requires.may.rules c.requires.bounds d e
          c.loop-place.place c.loop-place.told c.loop-place.invariant c.loop-place-test.true
          c.index-bounds-place.result c.index-bounds-place.is on c.prove.result
          (c.in_ok-prove.was ∙ ap Ok w.in-Yes.is) p.sound p.principal p.first_order)
      | in-Maybe w ↦ subst (AskedSoFar s c.args.rules.now c.args.bounds.now e (c.loop-place.place + 1)) (sym w.told-is)
          (asking_passes s c.args.rules.now c.args.bounds.now c.requires.may.rules c.requires.bounds d e
          c.loop-place.place c.loop-place.told c.loop-place.invariant c.loop-place-test.true
          c.index-bounds-place.result c.index-bounds-place.is on
          (subst (LeavesNothing d e c.args.rules.now c.index-bounds-place.result)
          (c.in_ok-prove.was ∙ ap Ok w.in-Maybe.is) p.back) w.in-Maybe.why)
    ]

pub returns-in-No : goal.returns-in-No
returns-in-No g c =
    let state = g.C.InferCtxtLike.state in
    let p = c.prove.ensures in
    let on : GoesOn (state c.loop-place.ctx) (state c.prove.new.ctx) =
    record { later = p.later; lawful = p.lawful; grown = p.grown } in
    record {
      goes_on = goes_through (state c.args.ctx.now) (state c.loop-place.ctx) (state c.prove.new.ctx)
          c.loop-place.invariant.goes_on on;
      tells = asking_fails (state c.args.ctx.now) c.args.rules.now c.args.bounds.now c.requires.may.rules
          c.requires.bounds (state c.loop-place.ctx) (state c.prove.new.ctx) c.loop-place.place c.loop-place.told
          c.loop-place.invariant c.loop-place-test.true c.index-bounds-place.result c.index-bounds-place.is on
          c.prove.result (c.in_ok-prove.was ∙ ap Ok c.in-No.is) p.none;
    }

pub returns : goal.returns
returns g c =
    let s = g.C.InferCtxtLike.state c.args.ctx.now in
    let d = g.C.InferCtxtLike.state c.loop-place.ctx in
    let past = c.loop-place-test.false in
    let ends : length c.args.bounds.now ≤ c.loop-place.place = omega (arith, past) in
    record {
      goes_on = c.loop-place.invariant.goes_on;
      tells = asking_ended s c.args.rules.now c.args.bounds.now d c.loop-place.place ends c.loop-place.told
          c.loop-place.invariant;
    }
