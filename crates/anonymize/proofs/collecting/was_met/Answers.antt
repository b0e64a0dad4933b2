use Rattle.std.proofs.Common.{◌∙◌, sym}
use Rattle.relation_terms.proofs.Parts.{same_part}
use Rattle.anonymize.proofs.UsedParts.{was_used}
use Rattle.anonymize.proofs.collecting.was_met.Goals as goal

pub returns-in-Some : goal.returns-in-Some
returns-in-Some g c =
    let m = g.I.Interner.meaning c.args._cx.now in
    let laws = g.met.I.Interner in
    let a = c.args._cx.now in
    let eq = g.I.Key.PartialEq.eq in
    was_used m eq (same_part m eq (laws.same_ty a) (laws.same_region a) (laws.same_const a) (laws.same_valtree a)
    (laws.same_pat a) (laws.same_existential_predicates a)) c.args._vars.now c.args.part.now c.args.depth c.in-Some.place
    c.args.met.now.keys (sym c.place_of.ensures ∙ c.in-Some.is) c.requires.known c.requires.remembered
    c.contains.result c.contains.ensures
