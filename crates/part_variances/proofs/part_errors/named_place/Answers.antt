use Rattle.std.proofs.Common.{◌∙◌, sym, ap, subst, IsTrue, Some}
use Rattle.std.proofs.lemmas.Bool.{and_parts}
use Rattle.relation_terms.specs.Heads.{inputs}
use Rattle.relation_terms.specs.Trees.{known, node, nil, cons, front, last}
use Rattle.relation_terms.specs.Parts.{part_tree}
use Rattle.relation_terms.specs.Interning.{Sorted}
use Rattle.part_variances.specs.PartErrors.{named_place}
use Rattle.part_variances.proofs.PartErrors.{named_output, part_unnamed, above, no_signature_inputs}
use Rattle.part_variances.proofs.part_errors.named_place.Goals as goal

pub member_count-requires : goal.member_count-requires
member_count-requires g c =
    let m = g.I.Interner.meaning c.args.cx.now in
    let s = c.in-Signature.sig in
    let ts = m.tys s.inputs_and_output in
    (and_parts (known (node inputs (front ts))) (known (cons (last ts) nil))
    (subst (λ p. IsTrue (known (part_tree m p))) c.in-Signature.is c.requires)).0

pub returns-in-Inputs : goal.returns-in-Inputs
returns-in-Inputs g c =
    let m = g.I.Interner.meaning c.args.cx.now in
    sym (ap (λ p. named_place (part_tree m p) c.args.i) c.in-Inputs.is)

pub returns-else-i-eq0 : goal.returns-else-i-eq0
returns-else-i-eq0 g c =
    let m = g.I.Interner.meaning c.args.cx.now in
    let s = c.in-Signature.sig in
    let ts = m.tys s.inputs_and_output in
    ap Some c.member_count.ensures.counts
    ∙ sym (named_output (s.header).c_variadic (s.header).safety (s.header).abi (front ts) (cons (last ts) nil) c.args.i
    (above c.args.i c.if-i-eq0.false))
    ∙ sym (ap (λ p. named_place (part_tree m p) c.args.i) c.in-Signature.is)

pub returns-in_default : goal.returns-in_default
returns-in_default g c =
    let m = g.I.Interner.meaning c.args.cx.now in
    let cx = c.args.cx.now in
    let sorted : Sorted m = g.met.I.Interner.sorted cx in
    sym (part_unnamed m sorted c.args.term.now c.args.i c.requires c.in_default.not-Inputs
    (λ s e. absurd (c.in_default.not-Signature s e)))

pub returns-then-i-eq0 : goal.returns-then-i-eq0
returns-then-i-eq0 g c =
    let m = g.I.Interner.meaning c.args.cx.now in
    let cx = c.args.cx.now in
    let sorted : Sorted m = g.met.I.Interner.sorted cx in
    let t = c.args.term.now in
    let no_inputs = no_signature_inputs c.in-Signature.sig t c.in-Signature.is in
    sym (part_unnamed m sorted t c.args.i c.requires no_inputs (λ s e. c.if-i-eq0.true))
