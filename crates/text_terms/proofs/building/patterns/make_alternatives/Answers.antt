use Rattle.std.proofs.Common.{sym, ap, ◌∙◌, subst, IsTrue}
use Rattle.relation_terms.specs.Heads.{or_pattern}
use Rattle.relation_terms.specs.Trees.{node, known, list_tree}
use Rattle.relation_terms.proofs.Stays.{extends_on}
use Rattle.text_terms.specs.Built.{inner_tree}
use Rattle.text_terms.proofs.BuildingLemmas.{pats_tree, inner_as}
use Rattle.text_terms.proofs.building.patterns.make_alternatives.Goals as goal

pub mk_alternatives-requires : goal.mk_alternatives-requires
mk_alternatives-requires g c =
    let m = g.I.Interner.meaning c.args.cx.now in
    subst (λ u. IsTrue (known u))
    (sym (ap (list_tree (inner_tree m)) c.in_ok-pats.ensures) ∙ (pats_tree m c.in_ok-pats.pats.items
    ∙ sym (ap (list_tree m.pat) c.deref.ensures.value)))
    c.requires

pub returns-clause-grown : goal.returns-clause-grown
returns-clause-grown g c = extends_on c.mk_alternatives.ensures.grown c.make_pat.ensures.grown

pub returns-clause-made : goal.returns-clause-made
returns-clause-made g c =
    let m = g.I.Interner.meaning c.args.cx.now in
    inner_as (g.I.Interner.meaning c.make_pat.new.cx) _ _ c.make_pat.result
    (ap (node or_pattern) (c.in-Ok.ensures.made ∙ (ap (list_tree m.pat) c.deref.ensures.value
    ∙ (sym (pats_tree m c.in_ok-pats.pats.items) ∙ ap (list_tree (inner_tree m)) c.in_ok-pats.ensures))))
    c.make_pat.ensures.made
