use Rattle.std.proofs.Common.{◌≡◌, refl, ap₂, ◌∙◌}
use Rattle.std.proofs.lemmas.Bool.{and_parts}
use Rattle.std.specs.Cmp.Derive.{both_true}
use Rattle.relation_terms.specs.Heads.{existential_projection}
use Rattle.relation_terms.specs.Trees.{node, cons, known}
use Rattle.relation_terms.specs.Meaning.{term_tree}
use Rattle.relation_terms.proofs.Stays.{stays_term}
use Rattle.relation_folds.specs.Folds.{folded}
use Rattle.relation_folds.proofs.Folding.{later, left_later}
use Rattle.relation_folds.proofs.fold.forms.ExistentialProjectionKeyIdTypeFoldable.fold_with.Goals as goal

pub returns-clause-made : goal.returns-clause-made
returns-clause-made g c =
    let m = g.I.Interner.meaning c.args.cx.now in
    let n = g.I.Interner.meaning c.fold_with.new.cx in
    let o = g.I.Interner.meaning c.fold_args_with.new.cx in
    let p = g.F.TypeFolder.replaces m c.args.folder.now in
    let x = c.args.self.now in
    let first = c.in_ok-term.ensures in
    let second = c.in_ok-fold_args_with.ensures in
    let h = and_parts (known (term_tree m x.term)) (known (m.args x.args)) c.requires.known in
    let item : o.id (x.def_id).0 ≡ m.id (x.def_id).0 =
    second.steps.grown.id (x.def_id).0 ∙ first.steps.grown.id (x.def_id).0 in
    let term : term_tree o c.in_ok-term.term ≡ folded p 0 (term_tree m x.term) =
    stays_term second.steps.grown c.in_ok-term.term first.sure ∙ first.made in
    let args : o.args c.in_ok-fold_args_with.field-0 ≡ folded p 0 (m.args x.args) =
    later first.steps 0 (m.args x.args) (n.args x.args) (o.args c.in_ok-fold_args_with.field-0)
    (first.steps.grown.args x.args h.1) second.made in
    ap₂ (λ i ts. node (existential_projection i) ts) item (ap₂ (λ t ts. cons t ts) term args)

pub returns-clause-same : goal.returns-clause-same
returns-clause-same g c = λ q.
    let m = g.I.Interner.meaning c.args.cx.now in
    let n = g.I.Interner.meaning c.fold_with.new.cx in
    let p = g.F.TypeFolder.replaces m c.args.folder.now in
    let x = c.args.self.now in
    let first = c.in_ok-term.ensures in
    let h = and_parts (known (term_tree m x.term)) (known (m.args x.args)) c.requires.known in
    let term : folded p 0 (term_tree m x.term) ≡ term_tree m x.term = cc in
    let args : folded p 0 (m.args x.args) ≡ m.args x.args = cc in
    both_true ((g.met.I.Interner.same_id c.args.cx.now (x.def_id).0 (x.def_id).0).1 refl)
    (both_true (c.in_ok-fold_args_with.ensures.same
    (left_later first.steps 0 (m.args x.args) (n.args x.args) (first.steps.grown.args x.args h.1) args))
    (first.same term))
