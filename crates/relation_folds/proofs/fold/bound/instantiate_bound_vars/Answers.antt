use Rattle.std.proofs.Common.{◌≡◌, ◌∙◌}
use Rattle.std.specs.Prelude.{map}
use Rattle.relation_terms.specs.Meaning.{arg_tree}
use Rattle.relation_terms.proofs.Members.{if_ok}
use Rattle.relation_folds.specs.Folds.{folded}
use Rattle.relation_folds.proofs.Unmoved.{opens_or_keeps, opened_alike}
use Rattle.relation_folds.proofs.fold.bound.instantiate_bound_vars.Goals as goal

pub returns-clause-made : goal.returns-clause-made
returns-clause-made g c =
    let m = g.I.Interner.meaning c.args.cx.now in
    let t = g.T.HasTree.tree m c.args.body.now in
    let ts = map (arg_tree m) c.args.args.now in
    let n = g.I.Interner.meaning c.fold_with.new.cx in
    if_ok {P = λ x. g.T.HasTree.tree n x ≡ folded (opens_or_keeps ts) 0 t} c.fold_with.result (λ x h. h ∙ opened_alike ts 0 t) c.fold_with.ensures.made
