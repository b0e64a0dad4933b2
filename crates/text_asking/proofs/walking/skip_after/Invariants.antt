use Rattle.std.proofs.Common.{◌≡◌, cond, [], drop}
use Rattle.text_asking.specs.Skips.{stands_in}
use Rattle.text_asking.proofs.walking.skip_after.Given as goal

-- what is left skips as all does
abbrev pub invariant-loop-number : goal.invariant-loop-number
invariant-loop-number g l =
    cond (stands_in (drop l.number-index l.skips) l.pulls) (record l.walker { inside = [] }) l.walker
    ≡ cond (stands_in l.skips l.pulls) (record l.fn.walker { inside = [] }) l.fn.walker
