use Rattle.std.proofs.Common.{refl, sym, ap, ap₂, ◌∙◌}
use Rattle.relation_terms.specs.Trees.{count}
use Rattle.relation_terms.specs.Meaning.{object_predicate_tree}
use Rattle.relation_folds.specs.declared.error.TypeError.TheVariants.{ExistentialMismatch}
use Rattle.relation_semantics.specs.Errors.{over_parts}
use Rattle.relation_terms.proofs.Members.{list_count}
use Rattle.relation_recursion.proofs.ComparingParts.{numbers_differ}
use Rattle.relation_recursion.proofs.comparing.bodies.compare_objects.Goals as goal

pub returns-then-existential_predicates-clause-errors : goal.returns-then-existential_predicates-clause-errors
returns-then-existential_predicates-clause-errors g c =
    let m = g.I.Interner.meaning c.args.cx.now in
    let f = object_predicate_tree m in
    let left = c.existential_predicates in
    let right = c.existential_predicates-2 in
    numbers_differ m c.args.a.now c.args.b.now (ExistentialMismatch c.new.result)
    (λ e. c.if-existential_predicates.true (sym (ap count left.ensures ∙ list_count f left.result.now) ∙ e
    ∙ (ap count right.ensures ∙ list_count f right.result.now)))
    (ap₂ (λ x y. ExistentialMismatch (record { expected = x; found = y })) c.new.ensures.expected_kept
    c.new.ensures.found_kept)

pub returns-clause-alike : goal.returns-clause-alike
returns-clause-alike g c =
    let m = g.I.Interner.meaning c.args.cx.now in
    let f = object_predicate_tree m in
    let left = c.existential_predicates in
    let right = c.existential_predicates-2 in
    over_parts refl refl ((ap count left.ensures ∙ list_count f left.result.now) ∙ c.if-existential_predicates.false
    ∙ sym (ap count right.ensures ∙ list_count f right.result.now))
