use Rattle.std.proofs.Common.{◌∙◌}
use Rattle.relation_terms.proofs.Members.{if_ok}
use Rattle.relation_folds.proofs.Entering.{steps_inside, folded_deeper}
use Rattle.relation_folds.proofs.fold.binder.InBinder.fold_body.Goals as goal

pub returns-clause-same_reference : goal.returns-clause-same_reference
returns-clause-same_reference g c =
    (steps_inside g.F.TypeFolder.ready g.F.TypeFolder.replaces (λ x. x.folder.ghost_name) (λ x. x.folder.now)
    c.fold_with.ensures.steps).0

pub returns-clause-steps : goal.returns-clause-steps
returns-clause-steps g c =
    (steps_inside g.F.TypeFolder.ready g.F.TypeFolder.replaces (λ x. x.folder.ghost_name) (λ x. x.folder.now)
    c.fold_with.ensures.steps).1

pub returns-clause-made : goal.returns-clause-made
returns-clause-made g c =
    let m = g.I.Interner.meaning c.args.cx.now in
    let x = c.args.self.now.folder in
    let deeper = folded_deeper x.ghost_name (g.F.TypeFolder.replaces m x.now) 0 (g.T.HasTree.tree m c.args.body.now) in
    if_ok c.fold_with.result (λ y h. h ∙ deeper) c.fold_with.ensures.made

pub returns-clause-same : goal.returns-clause-same
returns-clause-same g c =
    let m = g.I.Interner.meaning c.args.cx.now in
    let x = c.args.self.now.folder in
    let deeper = folded_deeper x.ghost_name (g.F.TypeFolder.replaces m x.now) 0 (g.T.HasTree.tree m c.args.body.now) in
    if_ok c.fold_with.result (λ y h q. h (deeper ∙ q)) c.fold_with.ensures.same
