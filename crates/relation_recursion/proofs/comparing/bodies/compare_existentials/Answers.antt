use Rattle.std.proofs.Common.{rules, ◌∙◌, sym, ap, ap₂, length}
use Rattle.relation_terms.specs.Heads.{existential_auto, atom}
use Rattle.relation_terms.specs.Trees.{leaf, count}
use Rattle.relation_terms.specs.Meaning.{existential_tree, arg_tree}
use Rattle.relation_folds.specs.declared.error.TypeError.TheVariants.{Traits, ProjectionMismatched}
use Rattle.relation_semantics.specs.Errors.{one_leaf}
use Rattle.relation_terms.proofs.Members.{list_count}
use Rattle.relation_recursion.proofs.PartErrors.{not_trait, not_projection, not_auto, unlike_predicates}
use Rattle.relation_recursion.proofs.ComparingParts.{traits_differ, traits_alike, traits_unlike, projections_differ}
use Rattle.relation_recursion.proofs.ComparingParts.{projections_alike, projections_unlike, autos_differ}
use Rattle.relation_recursion.proofs.comparing.bodies.compare_existentials.Goals as goal

pub returns-in_default : goal.returns-in_default
returns-in_default g c =
    let m = g.I.Interner.meaning c.args.cx.now in
    let a = c.args.a.now in
    let b = c.args.b.now in
    record {
      alike = tt;
      errors = unlike_predicates m a b (not_trait m a b c.in-Trait.of c.in-Trait.is c.in_default.not-Trait);
    }

pub returns-in_default-b : goal.returns-in_default-b
returns-in_default-b g c =
    let m = g.I.Interner.meaning c.args.cx.now in
    let a = c.args.a.now in
    let b = c.args.b.now in
    record {
      alike = tt;
      errors = unlike_predicates m a b
          (not_projection m a b c.in-Projection.of c.in-Projection.is c.in_default-b.not-Projection);
    }

pub returns-in_default-b-2 : goal.returns-in_default-b-2
returns-in_default-b-2 g c =
    let m = g.I.Interner.meaning c.args.cx.now in
    let a = c.args.a.now in
    let b = c.args.b.now in
    record {
      alike = tt;
      errors = unlike_predicates m a b
          (not_auto m a b c.in-AutoTrait.of c.in-AutoTrait.is c.in_default-b-2.not-AutoTrait);
    }

pub returns-then-ne-clause-errors : goal.returns-then-ne-clause-errors
returns-then-ne-clause-errors g c =
    let m = g.I.Interner.meaning c.args.cx.now in
    let x = ((c.in-Trait.of).def_id).0 in
    let y = ((c.in-Trait-b.other).def_id).0 in
    let same = g.met.I.Interner.same_id c.args.cx.now x y in
    traits_differ m c.args.a.now c.args.b.now c.in-Trait.of c.in-Trait-b.other (Traits c.new.result) c.in-Trait.is
    c.in-Trait-b.is
    (λ e. (let one = same.1 e in let t = c.if-ne.true in let h = c.ne.ensures in search rules))
    (ap₂ (λ x y. Traits (record { expected = x; found = y })) c.new.ensures.expected_kept c.new.ensures.found_kept)

pub returns-then-ne-2-clause-errors : goal.returns-then-ne-2-clause-errors
returns-then-ne-2-clause-errors g c =
    let m = g.I.Interner.meaning c.args.cx.now in
    let x = ((c.in-Projection.of).def_id).0 in
    let y = ((c.in-Projection-b.other).def_id).0 in
    let same = g.met.I.Interner.same_id c.args.cx.now x y in
    projections_differ m c.args.a.now c.args.b.now c.in-Projection.of c.in-Projection-b.other
    (ProjectionMismatched c.new-pair.result) c.in-Projection.is c.in-Projection-b.is
    (λ e. (let one = same.1 e in let t = c.if-ne-2.true in let h = c.ne-in-Projection.ensures in search rules))
    (ap₂ (λ x y. ProjectionMismatched (record { expected = x; found = y })) c.new-pair.ensures.expected_kept
    c.new-pair.ensures.found_kept)

pub returns-then-ne-3-clause-errors : goal.returns-then-ne-3-clause-errors
returns-then-ne-3-clause-errors g c =
    let m = g.I.Interner.meaning c.args.cx.now in
    let x = (c.in-AutoTrait.of).0 in
    let y = (c.in-AutoTrait-b.other).0 in
    let same = g.met.I.Interner.same_id c.args.cx.now x y in
    autos_differ m c.args.a.now c.args.b.now c.in-AutoTrait.of c.in-AutoTrait-b.other (Traits c.new-then-ne-3.result)
    c.in-AutoTrait.is c.in-AutoTrait-b.is
    (λ e. (let one = same.1 e in let t = c.if-ne-3.true in let h = c.ne-in-AutoTrait.ensures in search rules))
    (ap₂ (λ x y. Traits (record { expected = x; found = y })) c.new-then-ne-3.ensures.expected_kept
    c.new-then-ne-3.ensures.found_kept)

pub returns-else-ne-clause-alike : goal.returns-else-ne-clause-alike
returns-else-ne-clause-alike g c =
    let m = g.I.Interner.meaning c.args.cx.now in
    let p = c.in-Trait.of in
    let q = c.in-Trait-b.other in
    let same = g.met.I.Interner.same_id c.args.cx.now (p.def_id).0 (q.def_id).0 in
    let xs = c.args-in-Trait.result.now in
    let ys = c.args-in-Trait-2.result.now in
    traits_alike m c.args.a.now c.args.b.now p q c.in-Trait.is c.in-Trait-b.is
    (same.0 (let t = c.if-ne.false in let h = c.ne.ensures in search rules)) (length xs) (length ys)
    (ap count c.args-in-Trait.ensures ∙ list_count (arg_tree m) xs)
    (ap count c.args-in-Trait-2.ensures ∙ list_count (arg_tree m) ys) c.compare_counts.result
    c.compare_counts.ensures.same

pub returns-else-ne-clause-errors : goal.returns-else-ne-clause-errors
returns-else-ne-clause-errors g c =
    let m = g.I.Interner.meaning c.args.cx.now in
    let p = c.in-Trait.of in
    let q = c.in-Trait-b.other in
    let same = g.met.I.Interner.same_id c.args.cx.now (p.def_id).0 (q.def_id).0 in
    let xs = c.args-in-Trait.result.now in
    let ys = c.args-in-Trait-2.result.now in
    traits_unlike m c.args.a.now c.args.b.now p q c.in-Trait.is c.in-Trait-b.is
    (same.0 (let t = c.if-ne.false in let h = c.ne.ensures in search rules)) (length xs) (length ys)
    (ap count c.args-in-Trait.ensures ∙ list_count (arg_tree m) xs)
    (ap count c.args-in-Trait-2.ensures ∙ list_count (arg_tree m) ys) c.compare_counts.result
    c.compare_counts.ensures.errors

pub returns-else-ne-2-clause-alike : goal.returns-else-ne-2-clause-alike
returns-else-ne-2-clause-alike g c =
    let m = g.I.Interner.meaning c.args.cx.now in
    let p = c.in-Projection.of in
    let q = c.in-Projection-b.other in
    let same = g.met.I.Interner.same_id c.args.cx.now (p.def_id).0 (q.def_id).0 in
    let xs = c.args-in-Projection.result.now in
    let ys = c.args-in-Projection-2.result.now in
    projections_alike m c.args.a.now c.args.b.now p q c.in-Projection.is c.in-Projection-b.is
    (same.0 (let t = c.if-ne-2.false in let h = c.ne-in-Projection.ensures in search rules)) (length xs) (length ys)
    (ap count c.args-in-Projection.ensures ∙ list_count (arg_tree m) xs)
    (ap count c.args-in-Projection-2.ensures ∙ list_count (arg_tree m) ys) c.compare_counts-in-Projection.result
    c.compare_counts-in-Projection.ensures.same

pub returns-else-ne-2-clause-errors : goal.returns-else-ne-2-clause-errors
returns-else-ne-2-clause-errors g c =
    let m = g.I.Interner.meaning c.args.cx.now in
    let p = c.in-Projection.of in
    let q = c.in-Projection-b.other in
    let same = g.met.I.Interner.same_id c.args.cx.now (p.def_id).0 (q.def_id).0 in
    let xs = c.args-in-Projection.result.now in
    let ys = c.args-in-Projection-2.result.now in
    projections_unlike m c.args.a.now c.args.b.now p q c.in-Projection.is c.in-Projection-b.is
    (same.0 (let t = c.if-ne-2.false in let h = c.ne-in-Projection.ensures in search rules)) (length xs) (length ys)
    (ap count c.args-in-Projection.ensures ∙ list_count (arg_tree m) xs)
    (ap count c.args-in-Projection-2.ensures ∙ list_count (arg_tree m) ys) c.compare_counts-in-Projection.result
    c.compare_counts-in-Projection.ensures.errors

pub returns-else-ne-3-clause-alike : goal.returns-else-ne-3-clause-alike
returns-else-ne-3-clause-alike g c =
    let m = g.I.Interner.meaning c.args.cx.now in
    let p = c.in-AutoTrait.of in
    let q = c.in-AutoTrait-b.other in
    let same = g.met.I.Interner.same_id c.args.cx.now p.0 q.0 in
    one_leaf (ap (existential_tree m) c.in-AutoTrait.is) (ap (existential_tree m) c.in-AutoTrait-b.is
    ∙ ap (λ n. leaf (atom (existential_auto n)))
    (sym (same.0 (let t = c.if-ne-3.false in let h = c.ne-in-AutoTrait.ensures in search rules))))
