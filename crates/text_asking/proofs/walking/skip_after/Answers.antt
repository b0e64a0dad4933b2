use Rattle.std.proofs.Common.{◌∙◌, cond, []}
use Rattle.text_asking.specs.Skips.{stands_in}
use Rattle.text_asking.proofs.WalkLemmas.{looked_same, looked_other}
use Rattle.text_asking.proofs.walking.skip_after.Goals as goal
use Rattle.text_asking.proofs.walking.skip_after.Goals.{then-number-pulls, else-number-pulls}

pub loop-number-preserved : goal.loop-number-preserved
loop-number-preserved g c =
    let ns = c.args.skips.now in
    let i = c.loop-number.number-index in
    let p = c.args.pulls in
    let v = c.loop-number.walker in
    let u = c.if-number-pulls.walker in
    let z = cond (stands_in ns p) (record c.args.walker.now { inside = [] }) c.args.walker.now in
    elim c.if-number-pulls.branch [
      | then-number-pulls w ↦
          looked_same ns i p v u z c.loop-number-test.true w.if-number-pulls.true
          (w.walker-is ∙ w.skip_current_subtree.ensures) c.loop-number.invariant
      | else-number-pulls w ↦
          looked_other ns i p v u z c.loop-number-test.true w.if-number-pulls.false w.walker-is c.loop-number.invariant
    ]
