use Rattle.std.proofs.Common.{sym, ap, ap₂, ◌∙◌, subst, IsTrue}
use Rattle.relation_terms.specs.Heads.{pattern_type}
use Rattle.relation_terms.specs.Trees.{known, node, nil, cons}
use Rattle.relation_terms.specs.Meaning.{arg_tree}
use Rattle.relation_terms.specs.declared.terms.generic_arg.GenericArgKind.TheVariants.{Ty}
use Rattle.text_terms.specs.Terms.{text_term_tree}
use Rattle.text_terms.specs.Built.{inner_tree}
use Rattle.relation_folds.proofs.FieldFolding.{both_known}
use Rattle.text_terms.proofs.BuildingLemmas.{made_of}
use Rattle.text_terms.proofs.building.patterns.make_pattern_type.Goals as goal

pub make_ty-requires : goal.make_ty-requires
make_ty-requires g c =
    let m = g.I.Interner.meaning c.args.cx.now in
    both_known (m.ty c.in_ok-base-in-Pat.base) (m.pat c.in-Pat-2.pat)
    (c.requires.keys c.in-Pat.base (Ty c.in_ok-base-in-Pat.base) c.in_ok-base-in-Pat.ensures)
    (subst (λ x. IsTrue (known (inner_tree m x))) c.in-Pat-2.is
    (c.requires.inners c.in-Pat.pat c.in_ok-pat-in-Pat.field-0 c.in_ok-pat-in-Pat.ensures))

pub returns-in-Pat-2-clause-made : goal.returns-in-Pat-2-clause-made
returns-in-Pat-2-clause-made g c items names parts =
    let m = g.I.Interner.meaning c.args.cx.now in
    made_of m c.args.built.now c.args.inners.now (λ ts. text_term_tree items names parts ts c.args.term)
    (arg_tree (g.I.Interner.meaning c.make_ty.new.cx)) _ c.make_ty.result c.make_ty.ensures.made
    (λ trees b p. ap₂ (λ y z. node pattern_type (cons y (cons z nil)))
    (b c.in-Pat.base (Ty c.in_ok-base-in-Pat.base) c.in_ok-base-in-Pat.ensures)
    (sym (ap (inner_tree m) c.in-Pat-2.is) ∙ p c.in-Pat.pat c.in_ok-pat-in-Pat.field-0 c.in_ok-pat-in-Pat.ensures)
    ∙ sym (ap (text_term_tree items names parts trees) c.in-Pat.is))
