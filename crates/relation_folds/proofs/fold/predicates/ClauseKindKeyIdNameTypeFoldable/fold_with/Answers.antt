use Rattle.std.proofs.Common.{ap, sym, ◌∙◌, subst, IfSome, IsTrue}
use Rattle.relation_terms.specs.Trees.{known}
use Rattle.relation_terms.specs.Fields.{fields_tree}
use Rattle.relation_terms.specs.Predicates.{predicate_kind_tree}
use Rattle.relation_terms.specs.declared.predicate.kinds.PredicateKind.TheVariants.{Clause}
use Rattle.relation_terms.proofs.Predicates.{stays_predicate_kind}
use Rattle.relation_terms.proofs.Stays.{knows_as}
use Rattle.relation_folds.specs.FieldFolds.{FoldsFields}
use Rattle.relation_folds.proofs.Fielding.{predicate_left, predicate_changed, predicate_folded, predicate_known}
use Rattle.relation_folds.proofs.fold.predicates.ClauseKindKeyIdNameTypeFoldable.fold_with.Goals as goal

pub returns-in-Some-clause-sure : goal.returns-in-Some-clause-sure
returns-in-Some-clause-sure g c =
    let m = g.I.Interner.meaning c.args.cx.now in
    let n = g.I.Interner.meaning c.fold_fields.new.cx in
    let p = g.F.TypeFolder.replaces m c.args.folder.now in
    let x = Clause c.args.self.now in
    let fs = c.clause_fields.result in
    let made = subst (FoldsFields p m n fs) c.in-Some.is c.in_ok-fields.ensures.made in
    let sure = subst (λ r. IfSome r (λ by. IsTrue (known (fields_tree n by)))) c.in-Some.is c.in_ok-fields.ensures.sure in
    subst (λ k. IsTrue (known k)) (ap (predicate_kind_tree n) (ap Clause (sym c.clause_over.ensures)))
    (predicate_known p m x fs c.clause_fields.ensures c.in_ok-fields.ensures.steps.grown c.requires.known c.in-Some.fields made.1.0 sure)

pub returns-in-Some-clause-made : goal.returns-in-Some-clause-made
returns-in-Some-clause-made g c =
    let m = g.I.Interner.meaning c.args.cx.now in
    let n = g.I.Interner.meaning c.fold_fields.new.cx in
    let p = g.F.TypeFolder.replaces m c.args.folder.now in
    let x = Clause c.args.self.now in
    let fs = c.clause_fields.result in
    let made = subst (FoldsFields p m n fs) c.in-Some.is c.in_ok-fields.ensures.made in
    sym (ap (predicate_kind_tree n) (ap Clause (sym c.clause_over.ensures)))
    ∙ predicate_folded p m x fs c.clause_fields.ensures c.in_ok-fields.ensures.steps.grown c.requires.known c.in-Some.fields
    made.1.0 made.0

pub returns-in-Some-clause-same : goal.returns-in-Some-clause-same
returns-in-Some-clause-same g c = λ q.
    let m = g.I.Interner.meaning c.args.cx.now in
    let n = g.I.Interner.meaning c.fold_fields.new.cx in
    let p = g.F.TypeFolder.replaces m c.args.folder.now in
    let x = Clause c.args.self.now in
    let fs = c.clause_fields.result in
    let made = subst (FoldsFields p m n fs) c.in-Some.is c.in_ok-fields.ensures.made in
    absurd (predicate_changed p m x fs c.clause_fields.ensures made.1.1 q)

pub returns-in-None-clause-sure : goal.returns-in-None-clause-sure
returns-in-None-clause-sure g c =
    let m = g.I.Interner.meaning c.args.cx.now in
    let n = g.I.Interner.meaning c.fold_fields.new.cx in
    let x = Clause c.args.self.now in
    let stay = stays_predicate_kind c.in_ok-fields.ensures.steps.grown x c.requires.known in
    subst (λ k. IsTrue (known k)) (ap (predicate_kind_tree n) (ap Clause (sym c.itself.ensures.same)))
    (knows_as (predicate_kind_tree m x) (predicate_kind_tree n x) stay c.requires.known)

pub returns-in-None-clause-made : goal.returns-in-None-clause-made
returns-in-None-clause-made g c =
    let m = g.I.Interner.meaning c.args.cx.now in
    let n = g.I.Interner.meaning c.fold_fields.new.cx in
    let p = g.F.TypeFolder.replaces m c.args.folder.now in
    let x = Clause c.args.self.now in
    let fs = c.clause_fields.result in
    let left = subst (FoldsFields p m n fs) c.in-None.is c.in_ok-fields.ensures.made in
    sym (ap (predicate_kind_tree n) (ap Clause (sym c.itself.ensures.same)))
    ∙ stays_predicate_kind c.in_ok-fields.ensures.steps.grown x c.requires.known
    ∙ sym (predicate_left p m x fs c.clause_fields.ensures left)
