use Rattle.std.proofs.Common.{◌≡◌, ◌∙◌, sym, subst, subst₂, IsTrue}
use Rattle.relation_terms.specs.Trees.{known, list_tree}
use Rattle.relation_terms.specs.Meaning.{Extends}
use Rattle.relation_terms.specs.Parts.{part_tree, Fit, parts_of as list_of_parts, over as term_over}
use Rattle.relation_semantics.specs.Making.{form_over, Made}
use Rattle.relation_semantics.specs.Lawful.{WithMeaning}
use Rattle.relation_semantics.proofs.Passing.{as_err}
use Rattle.part_variances.proofs.Patterns.{term_parts_as, term_over_as}
use Rattle.relation_recursion.proofs.making.make_part.Goals as goal

pub with_parts-requires-clause-fits : goal.with_parts-requires-clause-fits
with_parts-requires-clause-fits g c =
    let t = part_tree (g.R.HasState.state c.args.r.now).meaning c.args.term.now in
    subst (λ m. Fit c.args.parts.now (list_of_parts (part_tree m c.args.term.now))) (sym c.cx_mut.ensures.value)
    (subst (Fit c.args.parts.now) (sym (term_parts_as t c.requires.form)) c.requires.fits)

pub returns-in_err-made-clause-made : goal.returns-in_err-made-clause-made
returns-in_err-made-clause-made g c =
    let r = g.R.HasState.state c.args.r.now in
    let cx = c.with_parts.new.cx in
    let q = g.R.HasState.state (g.R.TypeRelation.with_interner c.args.r.now cx) in
    let made = c.in_err-made.ensures in
    let later = subst (λ m. Extends m (g.I.Interner.meaning cx)) c.cx_mut.ensures.value made.grown in
    let grown : WithMeaning r (g.I.Interner.meaning cx) q = c.lemma_interner_grows.ensures cx later c.requires.lawful in
    subst (Made r.meaning q.meaning (part_tree q.meaning)
    (form_over (part_tree r.meaning c.args.term.now) (list_tree (part_tree r.meaning) c.args.parts.now)))
    (sym (as_err c.from_residual.result _ c.from_residual.ensures.0 c.from_residual.ensures.1))
    (record { extends = subst (Extends r.meaning) (sym grown.meaning) later; sure = tt; means = tt })

pub returns-clause-grown : goal.returns-clause-grown
returns-clause-grown g c =
    let r = g.R.HasState.state c.args.r.now in
    let cx = c.with_parts.new.cx in
    let q = g.R.HasState.state (g.R.TypeRelation.with_interner c.args.r.now cx) in
    let made = c.in_ok-made.ensures in
    let later = subst (λ m. Extends m (g.I.Interner.meaning cx)) c.cx_mut.ensures.value made.grown in
    let grown : WithMeaning r (g.I.Interner.meaning cx) q = c.lemma_interner_grows.ensures cx later c.requires.lawful in
    subst (λ m. WithMeaning r m q) (sym grown.meaning) grown

pub returns-clause-made : goal.returns-clause-made
returns-clause-made g c =
    let r = g.R.HasState.state c.args.r.now in
    let cx = c.with_parts.new.cx in
    let q = g.R.HasState.state (g.R.TypeRelation.with_interner c.args.r.now cx) in
    let made = c.in_ok-made.ensures in
    let p = c.in_ok-made.made in
    let t = c.args.term.now in
    let xs = c.args.parts.now in
    let later = subst (λ m. Extends m (g.I.Interner.meaning cx)) c.cx_mut.ensures.value made.grown in
    let grown : WithMeaning r (g.I.Interner.meaning cx) q = c.lemma_interner_grows.ensures cx later c.requires.lawful in
    record {
      extends = subst (Extends r.meaning) (sym grown.meaning) later;
      sure = subst (λ m. IsTrue (known (part_tree m p))) (sym grown.meaning) made.sure;
      means = subst₂ (λ m n. part_tree n p ≡ term_over (part_tree m t) (list_tree (part_tree m) xs)) c.cx_mut.ensures.value
          (sym grown.meaning) made.made ∙ term_over_as (part_tree r.meaning t) (list_tree (part_tree r.meaning) xs) c.requires.form;
    }
