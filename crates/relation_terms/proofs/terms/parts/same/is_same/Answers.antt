use Rattle.std.proofs.Common.{◌∙◌, sym}
use Rattle.relation_terms.proofs.Parts.{same_part}
use Rattle.relation_terms.proofs.terms.parts.same.is_same.Goals as goal

pub returns-in-Some-key_of : goal.returns-in-Some-key_of
returns-in-Some-key_of g c =
    let m = g.I.Interner.meaning c.args.cx.now in
    let laws = g.met.I.Interner in
    let o = same_part m g.I.Key.PartialEq.eq (laws.same_ty c.args.cx.now) (laws.same_region c.args.cx.now)
    (laws.same_const c.args.cx.now) (laws.same_valtree c.args.cx.now) (laws.same_pat c.args.cx.now)
    (laws.same_existential_predicates c.args.cx.now) c.args.part.now c.args.other.now c.in-Some.key
    c.in-Some-key_of.other (sym c.key_of.ensures ∙ c.in-Some.is) (sym c.key_of-in-Some.ensures ∙ c.in-Some-key_of.is)
    c.requires.same_sort c.requires.part_known c.requires.other_known in
    record {
      one = λ i. o.0 (sym c.eq.ensures ∙ i);
      keyed = λ h e. c.eq.ensures ∙ o.1 e;
    }
