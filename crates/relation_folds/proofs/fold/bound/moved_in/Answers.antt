use Rattle.std.proofs.Common.{◌∙◌, sym, ap}
use Rattle.relation_terms.proofs.Stays.{stays_same}
use Rattle.relation_folds.specs.Folds.{folded}
use Rattle.relation_folds.specs.Shifts.{moves}
use Rattle.relation_folds.proofs.Unmoved.{by_nothing}
use Rattle.relation_folds.proofs.fold.bound.moved_in.Goals as goal

pub returns-then-depth-eq0 : goal.returns-then-depth-eq0
returns-then-depth-eq0 g c =
    let m = g.I.Interner.meaning c.args.cx.now in
    let t = g.T.HasTree.tree m c.args.by.now in
    record {
      grown = stays_same m;
      sure = c.requires.known;
      made = sym (ap (λ n. folded (moves n) 0 t) c.if-depth-eq0.true ∙ by_nothing 0 t);
    }
