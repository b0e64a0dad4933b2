use Rattle.std.proofs.Common.{◌≡◌, ◌<◌, length, arith}
use Rattle.relation_terms.specs.Parts.{part_of_arg}
use Rattle.relation_steps.proofs.Mapped.{mapped_more, mapped_end}
use Rattle.relation_recursion.proofs.making.as_parts.Goals as goal

pub loop-i-preserved : goal.loop-i-preserved
loop-i-preserved g c =
    let xs = c.args.args.now in
    let i = c.loop-i.i in
    let test = c.loop-i-test.true in
    let below : i < length xs = omega (arith, test) in
    mapped_more (λ a. part_of_arg a) xs i c.index-args-i.result c.index-args-i.result c.of_arg.result
    c.loop-i.list.items c.push.new.self.items c.loop-i.invariant below c.index-args-i.is c.of_arg.ensures
    c.in_ok-push.ensures.items

pub returns : goal.returns
returns g c =
    let xs = c.args.args.now in
    let i = c.loop-i.i in
    let test = c.loop-i-test.false in
    let end = (c.loop-i.auto).i-end in
    let all : i ≡ length xs = omega (arith, test, end) in
    mapped_end (λ a. part_of_arg a) xs i c.loop-i.list.items c.loop-i.invariant all
