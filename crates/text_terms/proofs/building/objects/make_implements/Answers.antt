use Rattle.std.proofs.Common.{Some, ap₂}
use Rattle.relation_terms.specs.Heads.{existential_trait}
use Rattle.relation_terms.specs.Trees.{node}
use Rattle.relation_terms.specs.Meaning.{under}
use Rattle.relation_terms.proofs.Stays.{extends_on}
use Rattle.text_terms.proofs.BuildingLemmas.{inner_as, kinds_stay}
use Rattle.text_terms.proofs.building.objects.make_implements.Goals as goal

pub make_under-requires : goal.make_under-requires
make_under-requires g c = c.in-Ok.ensures.sure

pub returns-clause-grown : goal.returns-clause-grown
returns-clause-grown g c = extends_on c.mk_args.ensures.grown c.make_under.ensures.grown

pub returns-clause-made : goal.returns-clause-made
returns-clause-made g c =
    let e = c.mk_args.ensures.grown in
    inner_as (g.I.Interner.meaning c.make_under.new.cx) _ _ c.make_under.result
    (ap₂ (λ ks t. under (Some ks) t) (kinds_stay e c.args.variables.now)
    (ap₂ (λ d ts. node (existential_trait d) ts) (e.id c.args.id) c.in-Ok.ensures.made))
    c.make_under.ensures.made
