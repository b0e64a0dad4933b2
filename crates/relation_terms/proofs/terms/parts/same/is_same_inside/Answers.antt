use Rattle.std.proofs.Common.{◌∙◌, IsTrue, sym, ap, subst}
use Rattle.relation_terms.specs.Trees.{known}
use Rattle.relation_terms.specs.Parts.{part_tree}
use Rattle.relation_terms.proofs.Same.{same_inputs}
use Rattle.relation_terms.proofs.terms.parts.same.is_same_inside.Goals as goal

pub returns-in-Inputs-other : goal.returns-in-Inputs-other
returns-in-Inputs-other g c =
    let m = g.I.Interner.meaning c.args.cx.now in
    let k = subst (λ x. IsTrue (known (part_tree m x))) c.in-Inputs.is c.requires.part_known in
    let l = subst (λ x. IsTrue (known (part_tree m x))) c.in-Inputs-other.is c.requires.other_known in
    λ i. ap (part_tree m) c.in-Inputs.is
    ∙ same_inputs m g.I.Key.PartialEq.eq (g.met.I.Interner.same_tys c.args.cx.now) c.in-Inputs.tys
    c.in-Inputs-other.other k l (sym c.eq.ensures ∙ i) ∙ ap (part_tree m) (sym c.in-Inputs-other.is)
