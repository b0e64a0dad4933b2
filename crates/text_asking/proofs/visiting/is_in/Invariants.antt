use Rattle.std.proofs.Common.{◌≡◌, drop}
use Rattle.text_asking.specs.Args.{same_arg}
use Rattle.text_asking.specs.Meets.{is_in}
use Rattle.text_asking.proofs.visiting.is_in.Given as goal

-- none of the first is the same
abbrev pub invariant-loop-other : goal.invariant-loop-other
invariant-loop-other g l =
    let same = same_arg g.X.PartialEq.eq in
    is_in same l.terms l.term ≡ is_in same (drop l.other-index l.terms) l.term
