use Rattle.std.proofs.Common.{◌≡◌, ◌∙◌, suc, ap, rules}
use Rattle.relation_terms.specs.Heads.{region_sort}
use Rattle.relation_terms.proofs.Members.{if_ok}
use Rattle.relation_folds.proofs.Entering.{in_binder_term}
use Rattle.relation_folds.proofs.fold.binder.InBinderTypeFolder.fold_region.Goals as goal

pub returns-clause-made : goal.returns-clause-made
returns-clause-made g c =
    let m = g.I.Interner.meaning c.args.cx.now in
    let x = c.args.self.now.folder in
    let p = g.F.TypeFolder.replaces m x.now in
    let t = m.region c.args.region.now in
    let term = (g.met.I.Interner.sorted c.args.cx.now).region c.args.region.now c.requires.known in
    let one : suc c.args.depth ≡ c.in_ok-deeper.deeper = search rules in
    if_ok c.fold_region.result (λ a h. in_binder_term region_sort x.ghost_name p c.args.depth t term ∙ ap (λ d. p d t) one ∙ h)
    c.fold_region.ensures.made
