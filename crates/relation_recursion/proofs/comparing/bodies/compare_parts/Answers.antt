use Rattle.std.proofs.Common.{◌∙◌, refl, sym, ap, subst, IsTrue}
use Rattle.relation_terms.specs.Heads.{inputs, object}
use Rattle.relation_terms.specs.Trees.{known, node, front}
use Rattle.relation_terms.specs.Meaning.{signature_tree, existential_tree}
use Rattle.relation_terms.specs.Parts.{part_tree, part_sort}
use Rattle.relation_semantics.specs.Errors.{PatternError, SignatureError, ExistentialError, ObjectError}
use Rattle.relation_semantics.specs.Errors.{pattern_error, signature_error, existential_error, object_error}
use Rattle.relation_recursion.proofs.ComparingParts.{compared, not_compared}
use Rattle.relation_recursion.proofs.comparing.bodies.compare_parts.Goals as goal

pub expect_pat-requires : goal.expect_pat-requires
expect_pat-requires g c = c.requires.one_sort ∙ ap part_sort c.in-Pat.is

pub compare_pats-requires : goal.compare_pats-requires
compare_pats-requires g c =
    let m = g.I.Interner.meaning c.args.cx.now in
    record {
      a_known = subst (λ p. IsTrue (known (part_tree m p))) c.in-Pat.is c.requires.a_known;
      b_known = subst (λ p. IsTrue (known (part_tree m p))) (sym c.expect_pat.ensures) c.requires.b_known;
    }

pub returns-in-Pat : goal.returns-in-Pat
returns-in-Pat g c =
    let m = g.I.Interner.meaning c.args.cx.now in
    let x = m.pat c.in-Pat.a in
    let y = m.pat c.expect_pat.result in
    let both = compared m c.compare_pats.result x y (part_tree m c.args.a.now) (part_tree m c.args.b.now) (PatternError x y)
    (ap (part_tree m) (sym c.in-Pat.is)) (ap (part_tree m) c.expect_pat.ensures) (λ e h. pattern_error h) c.compare_pats.ensures.alike
    c.compare_pats.ensures.errors in
    record { alike = both.0; errors = both.1 }

pub expect_signature-requires : goal.expect_signature-requires
expect_signature-requires g c = c.requires.one_sort ∙ ap part_sort c.in-Signature.is

pub returns-in-Signature : goal.returns-in-Signature
returns-in-Signature g c =
    let m = g.I.Interner.meaning c.args.cx.now in
    let x = signature_tree m c.in-Signature.a in
    let y = signature_tree m c.expect_signature.result in
    let both = compared m c.compare_signatures.result x y (part_tree m c.args.a.now) (part_tree m c.args.b.now) (SignatureError x y)
    (ap (part_tree m) (sym c.in-Signature.is)) (ap (part_tree m) c.expect_signature.ensures) (λ e h. signature_error h) c.compare_signatures.ensures.alike
    c.compare_signatures.ensures.errors in
    record { alike = both.0; errors = both.1 }

pub expect_inputs-requires : goal.expect_inputs-requires
expect_inputs-requires g c = c.requires.one_sort ∙ ap part_sort c.in-Inputs.is

pub compare_inputs-requires : goal.compare_inputs-requires
compare_inputs-requires g c =
    let m = g.I.Interner.meaning c.args.cx.now in
    record {
      a_known = subst (λ p. IsTrue (known (part_tree m p))) c.in-Inputs.is c.requires.a_known;
      b_known = subst (λ p. IsTrue (known (part_tree m p))) (sym c.expect_inputs.ensures) c.requires.b_known;
    }

pub returns-in-Inputs : goal.returns-in-Inputs
returns-in-Inputs g c =
    let m = g.I.Interner.meaning c.args.cx.now in
    let x = node inputs (front (m.tys c.in-Inputs.a)) in
    let y = node inputs (front (m.tys c.expect_inputs.result)) in
    let both = compared m c.compare_inputs.result x y (part_tree m c.args.a.now) (part_tree m c.args.b.now) (SignatureError x y)
    (ap (part_tree m) (sym c.in-Inputs.is)) (ap (part_tree m) c.expect_inputs.ensures) (λ e h. signature_error h) c.compare_inputs.ensures.alike
    c.compare_inputs.ensures.errors in
    record { alike = both.0; errors = both.1 }

pub expect_existential-requires : goal.expect_existential-requires
expect_existential-requires g c = c.requires.one_sort ∙ ap part_sort c.in-Existential.is

pub compare_existentials-requires : goal.compare_existentials-requires
compare_existentials-requires g c =
    let m = g.I.Interner.meaning c.args.cx.now in
    record {
      a_known = subst (λ p. IsTrue (known (part_tree m p))) c.in-Existential.is c.requires.a_known;
      b_known = subst (λ p. IsTrue (known (part_tree m p))) (sym c.expect_existential.ensures) c.requires.b_known;
    }

pub returns-in-Existential : goal.returns-in-Existential
returns-in-Existential g c =
    let m = g.I.Interner.meaning c.args.cx.now in
    let x = existential_tree m c.in-Existential.a in
    let y = existential_tree m c.expect_existential.result in
    let both = compared m c.compare_existentials.result x y (part_tree m c.args.a.now) (part_tree m c.args.b.now) (ExistentialError m x y)
    (ap (part_tree m) (sym c.in-Existential.is)) (ap (part_tree m) c.expect_existential.ensures) (λ e h. existential_error h) c.compare_existentials.ensures.alike
    c.compare_existentials.ensures.errors in
    record { alike = both.0; errors = both.1 }

pub expect_object-requires : goal.expect_object-requires
expect_object-requires g c = c.requires.one_sort ∙ ap part_sort c.in-Object.is

pub compare_objects-requires : goal.compare_objects-requires
compare_objects-requires g c =
    let m = g.I.Interner.meaning c.args.cx.now in
    record {
      a_known = subst (λ p. IsTrue (known (part_tree m p))) c.in-Object.is c.requires.a_known;
      b_known = subst (λ p. IsTrue (known (part_tree m p))) (sym c.expect_object.ensures) c.requires.b_known;
    }

pub returns-in-Object : goal.returns-in-Object
returns-in-Object g c =
    let m = g.I.Interner.meaning c.args.cx.now in
    let x = node object (m.existential_predicates c.in-Object.a) in
    let y = node object (m.existential_predicates c.expect_object.result) in
    let both = compared m c.compare_objects.result x y (part_tree m c.args.a.now) (part_tree m c.args.b.now) (ObjectError m c.in-Object.a c.expect_object.result)
    (ap (part_tree m) (sym c.in-Object.is)) (ap (part_tree m) c.expect_object.ensures) (λ e h. object_error c.in-Object.a c.expect_object.result refl refl h) c.compare_objects.ensures.alike
    c.compare_objects.ensures.errors in
    record { alike = both.0; errors = both.1 }

pub unreachable-requires : goal.unreachable-requires
unreachable-requires g c =
    let n = c.in_default in
    not_compared c.args.a.now c.requires.kind n.not-Pat n.not-Signature n.not-Inputs n.not-Existential n.not-Object
