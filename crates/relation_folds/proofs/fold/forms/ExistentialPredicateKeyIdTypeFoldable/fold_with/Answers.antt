use Rattle.std.proofs.Common.{◌≡◌, refl, sym, ap, ◌∙◌}
use Rattle.relation_terms.specs.Meaning.{existential_tree}
use Rattle.relation_terms.specs.Parts.{part_tree}
use Rattle.relation_terms.proofs.Stays.{knows_as, stays_existential}
use Rattle.relation_terms.specs.contracts.terms.generic_arg.TermKindPartialEq.TheImpl as term_impl
use Rattle.relation_terms.specs.contracts.predicate.existential.ExistentialPredicatePartialEq.TheImpl as predicate_impl
use Rattle.relation_terms.specs.Interning.{Sorted}
use Rattle.relation_folds.proofs.Found.{existential_found}
use Rattle.relation_folds.proofs.fold.forms.ExistentialPredicateKeyIdTypeFoldable.fold_with.Goals as goal

pub returns-clause-same : goal.returns-clause-same
returns-clause-same g c = λ q.
    let m = g.I.Interner.meaning c.args.cx.now in
    let n = g.I.Interner.meaning c.fold_part.new.cx in
    let a = c.fold_part.new.cx in
    let terms = (term_impl.ghosts g.row.I-Key g.I.Key.PartialEq g.I.Key.PartialEq-dict).eq in
    let predicates = (predicate_impl.ghosts g.row.I-Key g.row.I-Id g.I.Key.PartialEq g.I.Key.PartialEq-dict
    g.I.Id.PartialEq g.I.Id.PartialEq-dict).eq in
    let laws = g.met.I.Interner in
    let sorted : Sorted n = laws.sorted a in
    let x = c.args.self.now in
    let y = c.expect_existential.result in
    let r = c.in_ok-fold_part.ensures in
    let p = c.in_ok-fold_part.field-0 in
    let part : existential_tree n y ≡ part_tree n p = ap (part_tree n) c.expect_existential.ensures in
    let stay : existential_tree n x ≡ existential_tree m x = stays_existential r.steps.grown x c.requires.known in
    existential_found n g.I.Key.PartialEq.eq g.I.Id.PartialEq.eq terms predicates (λ t u. refl) (λ t u. refl) (λ t u. refl) (λ t u. refl)
    (λ t u. refl) (laws.same_id a) (laws.same_ty a) (laws.same_const a) (laws.same_args a) sorted y x
    (knows_as (part_tree n p) (existential_tree n y) part r.sure)
    (knows_as (existential_tree m x) (existential_tree n x) stay c.requires.known) (part ∙ r.made ∙ q ∙ sym stay)
