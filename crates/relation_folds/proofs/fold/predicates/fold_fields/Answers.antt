use Rattle.std.proofs.Common.{sym, subst, subst₂, IfSome, IsTrue}
use Rattle.relation_terms.specs.Trees.{known}
use Rattle.relation_terms.specs.Fields.{field_tree, fields_tree}
use Rattle.relation_terms.proofs.Fields.{stays_field}
use Rattle.relation_terms.proofs.Stays.{knows_as}
use Rattle.relation_folds.specs.FieldFolds.{FoldsFields}
use Rattle.relation_folds.proofs.Folding.{steps_on}
use Rattle.relation_terms.proofs.Predicates.{two_known}
use Rattle.relation_folds.proofs.FieldFolding.{first_later, first_known, second_later, two_known_now, two_folded}
use Rattle.relation_folds.proofs.fold.predicates.fold_fields.Goals as goal

pub returns-in_err-new_second-in-Two-clause-steps : goal.returns-in_err-new_second-in-Two-clause-steps
returns-in_err-new_second-in-Two-clause-steps g c =
    steps_on c.in_ok-new_first-in-Two.ensures.steps c.in_err-new_second-in-Two.ensures.steps

pub returns-in_ok-new_second-in-Two-clause-steps : goal.returns-in_ok-new_second-in-Two-clause-steps
returns-in_ok-new_second-in-Two-clause-steps g c =
    steps_on c.in_ok-new_first-in-Two.ensures.steps c.in_ok-new_second-in-Two.ensures.steps

pub returns-in_ok-new_second-in-Two-clause-sure : goal.returns-in_ok-new_second-in-Two-clause-sure
returns-in_ok-new_second-in-Two-clause-sure g c =
    let m = g.I.Interner.meaning c.args.cx.now in
    let n = g.I.Interner.meaning c.fold_field-in-Two.new.cx in
    let o = g.I.Interner.meaning c.fold_field-in-Two-2.new.cx in
    let f = c.in-Two.first in
    let h = c.in-Two.second in
    let a = c.in_ok-new_first-in-Two.new_first in
    let b = c.in_ok-new_second-in-Two.new_second in
    let first = c.in_ok-new_first-in-Two.ensures in
    let second = c.in_ok-new_second-in-Two.ensures in
    let grown = (steps_on first.steps second.steps).grown in
    let k = two_known (field_tree m f) (field_tree m h)
    (subst (λ x. IsTrue (known (fields_tree m x))) c.in-Two.is c.requires.known) in
    subst (λ r. IfSome r (λ by. IsTrue (known (fields_tree o by)))) (sym c.both_or_none.ensures)
    (two_known_now m n o f h a b
    (knows_as (field_tree m f) (field_tree o f) (stays_field grown f k.0) k.0)
    (knows_as (field_tree m h) (field_tree o h) (stays_field grown h k.1) k.1)
    (first_known m n o second.steps.grown a first.sure) second.sure)

pub returns-in_ok-new_second-in-Two-clause-made : goal.returns-in_ok-new_second-in-Two-clause-made
returns-in_ok-new_second-in-Two-clause-made g c =
    let m = g.I.Interner.meaning c.args.cx.now in
    let n = g.I.Interner.meaning c.fold_field-in-Two.new.cx in
    let o = g.I.Interner.meaning c.fold_field-in-Two-2.new.cx in
    let p = g.F.TypeFolder.replaces m c.args.folder.now in
    let q = g.F.TypeFolder.replaces n c.fold_field-in-Two.new.folder in
    let f = c.in-Two.first in
    let h = c.in-Two.second in
    let a = c.in_ok-new_first-in-Two.new_first in
    let b = c.in_ok-new_second-in-Two.new_second in
    let first = c.in_ok-new_first-in-Two.ensures in
    let second = c.in_ok-new_second-in-Two.ensures in
    let grown = (steps_on first.steps second.steps).grown in
    let k = two_known (field_tree m f) (field_tree m h)
    (subst (λ x. IsTrue (known (fields_tree m x))) c.in-Two.is c.requires.known) in
    subst₂ (λ fs r. FoldsFields p m o fs r) (sym c.in-Two.is) (sym c.both_or_none.ensures)
    (two_folded m n o p f h a b (stays_field grown f k.0) (stays_field grown h k.1)
    (first_later m n o p second.steps.grown f a first.sure first.made)
    (second_later m n o p q first.steps.kept h b (stays_field first.steps.grown h k.1) second.made))
