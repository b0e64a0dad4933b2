-- All of the numbers were gone through.
use Rattle.std.proofs.Common.{◌∙◌, ℕ, ap, map, get_or}
use Rattle.std.proofs.lemmas.List.{take_all}
use Rattle.relation_methods.proofs.keyed.picked.Goals as goal

pub returns : goal.returns
returns g c = λ d. c.loop-number.invariant d ∙
    ap (map (λ (n : ℕ). get_or c.args.entries.now n d)) (take_all c.loop-number.number-index c.args.numbers.now c.loop-number-test.false)
