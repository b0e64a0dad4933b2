use Rattle.std.proofs.Common.{◌≡◌, sym, ap, ◌∙◌}
use Rattle.relation_terms.specs.Meaning.{signature_tree}
use Rattle.relation_terms.specs.Parts.{part_tree}
use Rattle.relation_terms.proofs.Stays.{knows_as, stays_signature}
use Rattle.relation_folds.proofs.Found.{signature_found}
use Rattle.relation_folds.proofs.fold.forms.FnSigKeyTypeFoldable.fold_with.Goals as goal

pub returns-clause-same : goal.returns-clause-same
returns-clause-same g c = λ q.
    let m = g.I.Interner.meaning c.args.cx.now in
    let n = g.I.Interner.meaning c.fold_part.new.cx in
    let x = c.args.self.now in
    let y = c.expect_signature.result in
    let r = c.in_ok-fold_part.ensures in
    let p = c.in_ok-fold_part.field-0 in
    let part : signature_tree n y ≡ part_tree n p = ap (part_tree n) c.expect_signature.ensures in
    let stay : signature_tree n x ≡ signature_tree m x = stays_signature r.steps.grown x c.requires.known in
    signature_found n g.I.Key.PartialEq.eq (g.met.I.Interner.same_tys c.fold_part.new.cx) y x
    (knows_as (part_tree n p) (signature_tree n y) part r.sure)
    (knows_as (signature_tree m x) (signature_tree n x) stay c.requires.known) (part ∙ r.made ∙ q ∙ sym stay)
