use Rattle.std.proofs.Common.{◌≡◌, drop}
use Rattle.text_asking.specs.Args.{same_arg}
use Rattle.text_asking.specs.Puts.{first_put}
use Rattle.text_asking.proofs.folding.first_put.Given as goal

-- none of the first fits
abbrev pub invariant-loop-put : goal.invariant-loop-put
invariant-loop-put g l =
    let same = same_arg g.X.PartialEq.eq in
    first_put same l.puts l.term ≡ first_put same (drop l.put-index l.puts) l.term
