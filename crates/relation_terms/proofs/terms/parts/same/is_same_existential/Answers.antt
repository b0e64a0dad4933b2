use Rattle.std.proofs.Common.{◌∙◌, IsTrue, sym, ap, subst}
use Rattle.std.proofs.lemmas.Bool.{false≢true}
use Rattle.relation_terms.specs.Trees.{known}
use Rattle.relation_terms.specs.Meaning.{existential_tree}
use Rattle.relation_terms.proofs.Same.{same_projection}
use Rattle.relation_terms.proofs.terms.parts.same.is_same_existential.Goals as goal
use Rattle.relation_terms.proofs.terms.parts.same.is_same_existential.Goals.{then-eq-2, else-eq-2}

pub returns-then-eq-3 : goal.returns-then-eq-3
returns-then-eq-3 g c =
    let m = g.I.Interner.meaning c.args.cx.now in
    let laws = g.met.I.Interner in
    let p = c.in-Projection.of in
    let q = c.in-Projection-other.other in
    let k = subst (λ x. IsTrue (known (existential_tree m x))) c.in-Projection.is c.requires.predicate_known in
    let l = subst (λ x. IsTrue (known (existential_tree m x))) c.in-Projection-other.is c.requires.other_known in
    λ i. elim c.if-eq-2.branch [
      | then-eq-2 w ↦ ap (existential_tree m) c.in-Projection.is
          ∙ same_projection m g.I.Key.PartialEq.eq (laws.same_args c.args.cx.now) g.I.Id.PartialEq.eq
          (laws.same_id c.args.cx.now) p q k l (sym c.eq-in-Projection-other.ensures ∙ w.if-eq-2.true)
          (sym w.eq-then-eq-2.ensures ∙ sym w.value-is ∙ c.if-eq-3.true) (c.is_same_term.ensures i)
          ∙ ap (existential_tree m) (sym c.in-Projection-other.is)
      | else-eq-2 w ↦ absurd (false≢true (sym w.if-eq-2.false ∙ sym w.value-is ∙ c.if-eq-3.true))
    ]
