use Rattle.std.proofs.Common.{Some, ap₂}
use Rattle.relation_terms.proofs.Stays.{extends_on}
use Rattle.text_terms.specs.Terms.{item_tree}
use Rattle.text_terms.proofs.BuildingLemmas.{tree_as}
use Rattle.text_terms.proofs.building.items.make_item.Goals as goal

pub returns-clause-grown : goal.returns-clause-grown
returns-clause-grown g c = extends_on c.mk_args.ensures.grown c.make_over.ensures.grown

pub returns-clause-made : goal.returns-clause-made
returns-clause-made g c =
    let e = c.mk_args.ensures.grown in
    tree_as (g.I.Interner.meaning c.make_over.new.cx) _ _ c.make_over.result
    (ap₂ (λ d ts. item_tree c.args.sort (Some d) ts) (e.id c.args.id) c.in-Ok.ensures.made)
    c.make_over.ensures.made
