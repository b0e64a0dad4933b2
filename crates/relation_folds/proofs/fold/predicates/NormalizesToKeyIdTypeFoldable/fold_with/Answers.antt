use Rattle.std.proofs.Common.{◌≡◌, ap, ap₂, ◌∙◌}
use Rattle.std.specs.Cmp.Derive.{both_true}
use Rattle.relation_terms.specs.Heads.{normalizes_to}
use Rattle.relation_terms.specs.Trees.{node, cons, nil, nth}
use Rattle.relation_terms.specs.Meaning.{term_tree}
use Rattle.relation_terms.specs.Predicates.{alias_term_tree}
use Rattle.relation_terms.proofs.Predicates.{stays_alias_term}
use Rattle.relation_terms.proofs.Stays.{stays_term, knows_as}
use Rattle.relation_terms.specs.Parts.{parts_of}
use Rattle.relation_folds.specs.Folds.{folded}
use Rattle.relation_folds.proofs.Folding.{later, left_later, steps_on}
use Rattle.relation_terms.proofs.Predicates.{two_known}
use Rattle.relation_folds.proofs.FieldFolding.{both_known}
use Rattle.relation_folds.proofs.fold.predicates.NormalizesToKeyIdTypeFoldable.fold_with.Goals as goal

pub returns-in_err-term-clause-steps : goal.returns-in_err-term-clause-steps
returns-in_err-term-clause-steps g c = steps_on c.in_ok-alias.ensures.steps c.in_err-term.ensures.steps

pub returns-clause-steps : goal.returns-clause-steps
returns-clause-steps g c = steps_on c.in_ok-alias.ensures.steps c.in_ok-term.ensures.steps

pub returns-clause-sure : goal.returns-clause-sure
returns-clause-sure g c =
    let n = g.I.Interner.meaning c.fold_with.new.cx in
    let o = g.I.Interner.meaning c.fold_with-2.new.cx in
    let a = c.in_ok-alias.alias in
    let first = c.in_ok-alias.ensures in
    let second = c.in_ok-term.ensures in
    both_known (alias_term_tree o a) (term_tree o c.in_ok-term.term)
    (knows_as (alias_term_tree n a) (alias_term_tree o a) (stays_alias_term second.steps.grown a first.sure) first.sure)
    second.sure

pub returns-clause-made : goal.returns-clause-made
returns-clause-made g c =
    let m = g.I.Interner.meaning c.args.cx.now in
    let n = g.I.Interner.meaning c.fold_with.new.cx in
    let o = g.I.Interner.meaning c.fold_with-2.new.cx in
    let p = g.F.TypeFolder.replaces m c.args.folder.now in
    let x = c.args.self.now in
    let a = c.in_ok-alias.alias in
    let first = c.in_ok-alias.ensures in
    let second = c.in_ok-term.ensures in
    let k = (two_known (alias_term_tree m x.alias) (term_tree m x.term) c.requires.known).1 in
    let alias : alias_term_tree o a ≡ folded p 0 (alias_term_tree m x.alias) =
    stays_alias_term second.steps.grown a first.sure ∙ first.made in
    let term : term_tree o c.in_ok-term.term ≡ folded p 0 (term_tree m x.term) =
    later first.steps 0 (term_tree m x.term) (term_tree n x.term) (term_tree o c.in_ok-term.term)
    (stays_term first.steps.grown x.term k) second.made in
    ap₂ (λ s t. node normalizes_to (cons s (cons t nil))) alias term

pub returns-clause-same : goal.returns-clause-same
returns-clause-same g c = λ q.
    let m = g.I.Interner.meaning c.args.cx.now in
    let n = g.I.Interner.meaning c.fold_with.new.cx in
    let p = g.F.TypeFolder.replaces m c.args.folder.now in
    let x = c.args.self.now in
    let s = c.in_ok-alias.ensures.steps in
    let k = (two_known (alias_term_tree m x.alias) (term_tree m x.term) c.requires.known).1 in
    let first : folded p 0 (alias_term_tree m x.alias) ≡ alias_term_tree m x.alias = ap (λ t. nth 0 (parts_of t)) q in
    let second : folded p 0 (term_tree m x.term) ≡ term_tree m x.term = ap (λ t. nth 1 (parts_of t)) q in
    both_true (c.in_ok-alias.ensures.same first)
    (c.in_ok-term.ensures.same (left_later s 0 (term_tree m x.term) (term_tree n x.term)
    (stays_term s.grown x.term k) second))
