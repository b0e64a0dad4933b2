use Rattle.std.proofs.Common.{◌≡◌, ◌<◌, length, arith, refl}
use Rattle.relation_steps.proofs.Mapped.{mapped_more, mapped_end}
use Rattle.relation_goals.proofs.goals.goals_of.Goals as goal

pub loop-i-preserved : goal.loop-i-preserved
loop-i-preserved g c =
    let xs = c.args.predicates.now in
    let i = c.loop-i.i in
    let test = c.loop-i-test.true in
    let below : i < length xs = omega (arith, test) in
    mapped_more (λ p. record { param_env = c.args.param_env; predicate = p }) xs i c.index-predicates-i.result
    c.index-predicates-i.result _ c.loop-i.goals.items c.push.new.self.items c.loop-i.invariant below
    c.index-predicates-i.is refl c.in_ok-push.ensures.items

pub returns : goal.returns
returns g c =
    let xs = c.args.predicates.now in
    let i = c.loop-i.i in
    let test = c.loop-i-test.false in
    let end = (c.loop-i.auto).i-end in
    let all : i ≡ length xs = omega (arith, test, end) in
    mapped_end (λ p. record { param_env = c.args.param_env; predicate = p }) xs i c.loop-i.goals.items
    c.loop-i.invariant all
