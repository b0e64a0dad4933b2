use Rattle.std.proofs.Common.{IsTrue, ap, sym, ◌∙◌, subst}
use Rattle.relation_terms.specs.Trees.{known}
use Rattle.relation_terms.specs.Flags.{flags_of}
use Rattle.relation_terms.specs.Parts.{body_tree}
use Rattle.relation_terms.proofs.Flags.{signature_flags}
use Rattle.reference_interner.specs.Adding.{meaning_in}
use Rattle.reference_interner.proofs.FlagLemmas.{types_known}
use Rattle.reference_interner.proofs.flags.BodyNodeKeyItemIdFlagged.flags.Goals as goal

pub flags-requires : goal.flags-requires
flags-requires c =
    let m = meaning_in c.args.cx.now in
    types_known m c.in-Signature.sig (subst (λ x. IsTrue (known (body_tree m x))) c.in-Signature.is c.requires)

pub returns-in-Signature : goal.returns-in-Signature
returns-in-Signature c =
    let m = meaning_in c.args.cx.now in
    c.flags.ensures ∙
    sym (signature_flags m c.in-Signature.sig (subst (λ x. IsTrue (known (body_tree m x))) c.in-Signature.is c.requires)) ∙
    ap (λ x. flags_of (body_tree m x)) (sym c.in-Signature.is)
