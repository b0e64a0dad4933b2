-- None before the first target, and all behind the last.
use Rattle.std.proofs.Common.{arith, rules, ◌≡◌, length, subst}
use Rattle.relation_regions.specs.Widening.{HaveReasons}
use Rattle.relation_regions.proofs.Widened.{no_reasons}
use Rattle.relation_regions.proofs.widening.reasons_of.Goals as goal

pub loop-target-init : goal.loop-target-init
loop-target-init c =
    let p = no_reasons c.args.graph.now c.args.standings.now c.in_ok-reasons.reasons.items
    (c.in_ok-reasons.ensures.items_if_clones_equal (λ y h. search rules)) in record { reasons = p.0; looked_at = p.1 }

pub loop-target-preserved : goal.loop-target-preserved
loop-target-preserved c = record {
  reasons = c.in_ok-note_target.ensures.reasons;
  looked_at = c.in_ok-note_target.ensures.noted;
}

pub returns-clause-all : goal.returns-clause-all
returns-clause-all c =
    let e : c.loop-target.target ≡ length c.args.standings.now = omega arith in
    subst (λ n. HaveReasons c.args.graph.now c.args.standings.now n c.loop-target.reasons.items) e
    c.loop-target.invariant.looked_at
