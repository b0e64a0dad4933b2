use Rattle.std.proofs.Common.{◌∙◌, sym}
use Rattle.relation_terms.proofs.Same.{same_signature}
use Rattle.relation_terms.proofs.terms.parts.same.is_same_signature.Goals as goal

pub returns-then-eq : goal.returns-then-eq
returns-then-eq g c =
    let m = g.I.Interner.meaning c.args._cx.now in
    λ i. same_signature m g.I.Key.PartialEq.eq (g.met.I.Interner.same_tys c.args._cx.now) c.args.sig.now
    c.args.other.now c.requires.sig_known c.requires.other_known (sym c.eq.ensures ∙ c.if-eq.true)
    (sym c.eq-then-eq.ensures ∙ i)
