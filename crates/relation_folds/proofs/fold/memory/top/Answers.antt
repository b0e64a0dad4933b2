use Rattle.std.proofs.Common.{sym, ap, ◌∙◌, ◌≤◌, length, drop, subst}
use Rattle.relation_folds.proofs.fold.memory.top.Goals as goal

pub split_at-requires : goal.split_at-requires
split_at-requires g c = subst (λ ys. c.args.start ≤ length ys) (sym c.as_slice.ensures.value) c.requires

pub returns : goal.returns
returns g c = c.split_at.ensures.back ∙ ap (drop c.args.start) c.as_slice.ensures.value
