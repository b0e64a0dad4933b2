use Rattle.std.proofs.Common.{◌≡◌, ◌+◌, IsTrue, sym, ap, ap₂, suc, ◌∙◌, subst, drop, drop-cons, ◌∷◌, arith}
use Rattle.std.proofs.lemmas.Bool.{and_parts}
use Rattle.relation_terms.specs.Trees.{known, list_tree}
use Rattle.relation_terms.specs.Meaning.{object_predicate_tree}
use Rattle.relation_folds.specs.Clashes.{principal}
use Rattle.fast_reject.proofs.Outlining.{principal_here, principal_further}
use Rattle.fast_reject.proofs.trait_object.principal_def_id.Goals as goal

pub returns-in-Some : goal.returns-in-Some
returns-in-Some g c =
    let m = g.I.Interner.meaning c.args.cx.now in
    let f = object_predicate_tree m in
    let xs = c.existential_predicates-predicate-items.result.now in
    let i = c.loop-predicate.predicate-index in
    let x = c.predicate-item.result in
    let more : suc i ≡ i + 1 = omega arith in
    let next : drop i xs ≡ x ∷ drop (i + 1) xs =
    drop-cons xs i x c.loop-predicate-test.true ∙ ap₂ (λ y k. y ∷ drop k xs) (sym c.predicate-item.is) more in
    let sure = subst (λ ys. IsTrue (known (list_tree f ys))) next c.loop-predicate.invariant.sure in
    let here = (and_parts (known (f x)) (known (list_tree f (drop (i + 1) xs))) sure).0 in
    sym (principal_here m x (list_tree f (drop (i + 1) xs)) c.in-Some.id here (sym c.trait_of.ensures ∙ c.in-Some.is))
    ∙ ap (λ ys. principal (list_tree f ys)) (sym next) ∙ c.loop-predicate.invariant.same

pub loop-predicate-preserved : goal.loop-predicate-preserved
loop-predicate-preserved g c =
    let m = g.I.Interner.meaning c.args.cx.now in
    let f = object_predicate_tree m in
    let xs = c.existential_predicates-predicate-items.result.now in
    let i = c.loop-predicate.predicate-index in
    let x = c.predicate-item.result in
    let more : suc i ≡ i + 1 = omega arith in
    let next : drop i xs ≡ x ∷ drop (i + 1) xs =
    drop-cons xs i x c.loop-predicate-test.true ∙ ap₂ (λ y k. y ∷ drop k xs) (sym c.predicate-item.is) more in
    let sure = subst (λ ys. IsTrue (known (list_tree f ys))) next c.loop-predicate.invariant.sure in
    let both = and_parts (known (f x)) (known (list_tree f (drop (i + 1) xs))) sure in
    record {
      sure = both.1;
      same = sym (principal_further m x (list_tree f (drop (i + 1) xs)) both.0
          (λ d e. c.in_default.not-Some d (c.trait_of.ensures ∙ e)))
          ∙ ap (λ ys. principal (list_tree f ys)) (sym next) ∙ c.loop-predicate.invariant.same;
    }
