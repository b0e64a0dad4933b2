use Rattle.std.proofs.Common.{map, sym, ap, ◌∙◌}
use Rattle.relation_terms.specs.Heads.{atom, early_region, placeholder, bound, bound_kind, region_kind}
use Rattle.text_terms.specs.Terms.{text_term_tree}
use Rattle.text_terms.proofs.BuildingLemmas.{leaf_is}
use Rattle.text_terms.proofs.building.making.region_form.Goals as goal

pub returns-in-Static : goal.returns-in-Static
returns-in-Static g c m items parts ts = sym (ap (text_term_tree items (map m.name c.args.names.now) parts ts) c.in-Static.is)

pub returns-in-RegionVar : goal.returns-in-RegionVar
returns-in-RegionVar g c m items parts ts = sym (ap (text_term_tree items (map m.name c.args.names.now) parts ts) c.in-RegionVar.is)

pub returns-in_ok-name-in-RegionParam : goal.returns-in_ok-name-in-RegionParam
returns-in_ok-name-in-RegionParam g c m items parts ts =
    leaf_is (λ x. atom (early_region c.in-RegionParam.index x)) m.name c.args.names.now c.in-RegionParam.name c.in_ok-name-in-RegionParam.name c.in_ok-name-in-RegionParam.ensures
    ∙ sym (ap (text_term_tree items (map m.name c.args.names.now) parts ts) c.in-RegionParam.is)

pub returns-in_ok-name-in-RegionPlaceholder : goal.returns-in_ok-name-in-RegionPlaceholder
returns-in_ok-name-in-RegionPlaceholder g c m items parts ts =
    leaf_is (λ x. placeholder (bound_kind region_kind x) c.in-RegionPlaceholder.universe c.in-RegionPlaceholder.place) m.name c.args.names.now c.in-RegionPlaceholder.name c.in_ok-name-in-RegionPlaceholder.name c.in_ok-name-in-RegionPlaceholder.ensures
    ∙ sym (ap (text_term_tree items (map m.name c.args.names.now) parts ts) c.in-RegionPlaceholder.is)

pub returns-in_ok-name-in-RegionBound : goal.returns-in_ok-name-in-RegionBound
returns-in_ok-name-in-RegionBound g c m items parts ts =
    leaf_is (λ x. bound (bound_kind region_kind x) c.in-RegionBound.depth c.in-RegionBound.place) m.name c.args.names.now c.in-RegionBound.name c.in_ok-name-in-RegionBound.name c.in_ok-name-in-RegionBound.ensures
    ∙ sym (ap (text_term_tree items (map m.name c.args.names.now) parts ts) c.in-RegionBound.is)
