use Rattle.std.proofs.Common.{◌≡◌, ◌∙◌}
use Rattle.relation_terms.proofs.Members.{if_ok}
use Rattle.relation_folds.specs.Folds.{folded}
use Rattle.relation_folds.proofs.Unmoved.{moves_or_keeps, kept_alike}
use Rattle.relation_folds.proofs.fold.shift.shift_vars.Goals as goal

pub returns-clause-made : goal.returns-clause-made
returns-clause-made g c =
    let t = g.T.HasTree.tree (g.I.Interner.meaning c.args.cx.now) c.args.term.now in
    let n = g.I.Interner.meaning c.fold_with.new.cx in
    if_ok {P = λ x. g.T.HasTree.tree n x ≡ folded (moves_or_keeps c.args.amount) 0 t} c.fold_with.result (λ x h. h ∙ kept_alike c.args.amount 0 t) c.fold_with.ensures.made
