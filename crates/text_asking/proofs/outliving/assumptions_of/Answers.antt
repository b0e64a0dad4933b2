use Rattle.std.proofs.Common.{arith, subst, sym}
use Rattle.std.proofs.lemmas.List.Elements.{All-nil}
use Rattle.std.specs.List.{All}
use Rattle.outlives_assumptions.specs.Assumptions.{IsKnown}
use Rattle.text_asking.proofs.AssumeLemmas.{at_known, all_with}
use Rattle.text_asking.proofs.outliving.assumptions_of.Goals as goal

pub loop-place-init : goal.loop-place-init
loop-place-init g c = λ m t r. subst (All (IsKnown m)) (sym c.new-all.ensures.items) (All-nil (IsKnown m))

pub loop-place-preserved : goal.loop-place-preserved
loop-place-preserved g c = λ m t r.
    let i = c.loop-place.place in
    let end = c.min-place-end.ensures in
    let below = c.loop-place-test.true in
    let first = at_known m c.args.terms.now i c.index-terms-place.result (omega (arith, end, below))
    c.index-terms-place.is t in
    let second = at_known m c.args.regions.now i c.index-regions-place.result (omega (arith, end, below))
    c.index-regions-place.is r in
    all_with (IsKnown m) c.loop-place.all.items c.push.new.self.items c.in-Some.assumption (c.loop-place.invariant m t r)
    (c.in-Some.ensures m first second) c.in_ok-push.ensures.items

pub returns : goal.returns
returns g c = c.loop-place.invariant
