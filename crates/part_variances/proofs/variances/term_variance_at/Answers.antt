use Rattle.std.proofs.Common.{◌≡◌, ◌<◌, sym, subst}
use Rattle.relation_terms.specs.Trees.{count}
use Rattle.term_enums.specs.Variances.{xform}
use Rattle.relation_terms.specs.Parts.{part_tree}
use Rattle.term_enums.specs.declared.Variance.TheVariants.{Contravariant, Invariant}
use Rattle.relation_terms.specs.Interning.{Sorted}
use Rattle.relation_steps.specs.Keyed.{part_in}
use Rattle.relation_semantics.specs.Lawful.{items_in}
use Rattle.relation_semantics.specs.Parts.{direct_parts, head_of}
use Rattle.part_variances.proofs.PartPlaces.{signature_place, existential_place, other_place, apart}
use Rattle.part_variances.proofs.variances.term_variance_at.Goals as goal

pub returns-then-i-eq0 : goal.returns-then-i-eq0
returns-then-i-eq0 g c =
    let q = g.R.HasState.state c.args._r.now in
    subst (λ p. xform q.ambient Contravariant ≡ part_in q (head_of (part_tree q.meaning p)) c.args.i)
    (sym c.in-Signature.is)
    (signature_place q.meaning (items_in q) c.in-Signature.field-0 c.args.i q.ambient c.if-i-eq0.true)

pub returns-else-i-eq0 : goal.returns-else-i-eq0
returns-else-i-eq0 g c =
    let q = g.R.HasState.state c.args._r.now in
    let cx = g.R.TypeRelation.interner c.args._r.now in
    let sorted : Sorted q.meaning = subst (λ m. Sorted m) (sym (g.met.R.TypeRelation.reads c.args._r.now)) (g.met.I.Interner.sorted cx) in
    other_place q.meaning sorted (items_in q) c.args.term.now c.args.i q.ambient c.requires.known c.requires.form
    (λ o e. apart c.in-Signature.field-0 o c.args.term.now c.in-Signature.is e) (λ s e z. c.if-i-eq0.false z)

pub returns-in-Existential : goal.returns-in-Existential
returns-in-Existential g c =
    let q = g.R.HasState.state c.args._r.now in
    subst (λ p. xform q.ambient Invariant ≡ part_in q (head_of (part_tree q.meaning p)) c.args.i)
    (sym c.in-Existential.is)
    (existential_place q.meaning (items_in q) c.in-Existential.field-0 c.args.i q.ambient
    (subst (λ p. c.args.i < count (direct_parts (part_tree q.meaning p))) c.in-Existential.is c.requires.in_bounds))

pub returns-in_default : goal.returns-in_default
returns-in_default g c =
    let q = g.R.HasState.state c.args._r.now in
    let cx = g.R.TypeRelation.interner c.args._r.now in
    let sorted : Sorted q.meaning = subst (λ m. Sorted m) (sym (g.met.R.TypeRelation.reads c.args._r.now)) (g.met.I.Interner.sorted cx) in
    other_place q.meaning sorted (items_in q) c.args.term.now c.args.i q.ambient c.requires.known c.requires.form
    c.in_default.not-Existential (λ s e z. c.in_default.not-Signature s e)
