-- One more target, and all of them.
use Rattle.std.proofs.Common.{arith, ◌≡◌, length, subst, MatchOption}
use Rattle.relation_regions.specs.Deciding.{IsPassed, IsAgainst, IsDecidedTo}
use Rattle.relation_regions.proofs.Deciding.{none_decided, target_decided}
use Rattle.relation_regions.proofs.decide.decide_targets.Goals as goal

pub loop-target-init : goal.loop-target-init
loop-target-init c =
    none_decided c.args.known.now c.args.wide.now c.args.standings.now c.args.values.now.items c.requires.none

pub loop-target-preserved : goal.loop-target-preserved
loop-target-preserved c =
    let l = c.loop-target in
    let passed = IsPassed c.args.known.now c.args.wide.now c.args.standings.now l.target l.values.items
    c.decide_target.new.values.items in
    let against = IsAgainst c.args.known.now c.args.wide.now c.args.standings.now l.target in
    target_decided c.args.known.now c.args.wide.now c.args.standings.now l.target l.values.items
    c.decide_target.new.values.items l.invariant
    (subst (λ o. MatchOption o passed against) c.in_default.is c.in_ok-against.ensures)

pub returns-in-Some : goal.returns-in-Some
returns-in-Some c =
    let l = c.loop-target in
    let passed = IsPassed c.args.known.now c.args.wide.now c.args.standings.now l.target l.values.items
    c.decide_target.new.values.items in
    let against = IsAgainst c.args.known.now c.args.wide.now c.args.standings.now l.target in
    subst (λ o. MatchOption o passed against) c.in-Some.is c.in_ok-against.ensures

pub returns : goal.returns
returns c =
    let e : c.loop-target.target ≡ length c.args.standings.now = omega arith in
    subst (λ n. IsDecidedTo c.args.known.now c.args.wide.now c.args.standings.now n c.loop-target.values.items) e
    c.loop-target.invariant
