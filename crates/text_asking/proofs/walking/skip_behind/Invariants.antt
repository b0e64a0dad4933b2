use Rattle.std.proofs.Common.{◌≡◌, []}
use Rattle.text_asking.proofs.walking.skip_behind.Given as goal

abbrev pub invariant-loop-number : goal.invariant-loop-number
invariant-loop-number g l = (l.walker.after ≡ l.fn.walker.after) × (l.fn.walker.inside ≡ [] → l.walker.inside ≡ [])
