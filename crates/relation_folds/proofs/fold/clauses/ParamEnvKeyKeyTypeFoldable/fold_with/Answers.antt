use Rattle.std.proofs.Common.{sym, ap, ◌∙◌}
use Rattle.relation_terms.specs.Heads.{environment}
use Rattle.relation_terms.specs.Trees.{node}
use Rattle.relation_terms.proofs.Stays.{knows_as}
use Rattle.relation_terms.proofs.Members.{if_ok}
use Rattle.relation_folds.specs.Folds.{folded}
use Rattle.relation_folds.proofs.Folding.{steps_grown, if_ok_both}
use Rattle.relation_folds.proofs.fold.clauses.ParamEnvKeyKeyTypeFoldable.fold_with.Goals as goal

pub returns-clause-steps : goal.returns-clause-steps
returns-clause-steps g c =
    steps_grown g.met.F.TypeFolder.ready_on g.met.F.TypeFolder.replaces_on c.in_ok-made.ensures.steps
    c.mk_param_env.ensures.grown

pub returns-clause-made : goal.returns-clause-made
returns-clause-made g c =
    let m = g.I.Interner.meaning c.args.cx.now in
    let p = g.F.TypeFolder.replaces m c.args.folder.now in
    if_ok c.mk_param_env.result (λ k h. h ∙ ap (node environment) c.in_ok-made.ensures.made ∙ ap (folded p 0) (sym c.caller_bounds.ensures))
    c.mk_param_env.ensures.made

pub returns-clause-same : goal.returns-clause-same
returns-clause-same g c =
    let m = g.I.Interner.meaning c.args.cx.now in
    let o = g.I.Interner.meaning c.mk_param_env.new.self in
    let p = g.F.TypeFolder.replaces m c.args.folder.now in
    let x = c.args.self.now in
    let grown = (steps_grown g.met.F.TypeFolder.ready_on g.met.F.TypeFolder.replaces_on c.in_ok-made.ensures.steps
    c.mk_param_env.ensures.grown).grown in
    let stay = grown.param_env x c.requires.known in
    let here = knows_as (m.param_env x) (o.param_env x) stay c.requires.known in
    if_ok_both c.mk_param_env.result (λ k sure h q. (g.met.I.Interner.same_param_env c.mk_param_env.new.self k x sure here).1
    (h ∙ ap (node environment) c.in_ok-made.ensures.made ∙ ap (folded p 0) (sym c.caller_bounds.ensures) ∙ q ∙ sym stay))
    c.mk_param_env.ensures.sure c.mk_param_env.ensures.made
