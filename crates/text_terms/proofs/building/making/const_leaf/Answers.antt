use Rattle.std.proofs.Common.{map, refl, sym, ap, ◌∙◌}
use Rattle.relation_terms.specs.Heads.{atom, bound, placeholder, const_param, bound_kind, const_kind}
use Rattle.text_terms.specs.Terms.{text_term_tree}
use Rattle.text_terms.proofs.BuildingLemmas.{leaf_is}
use Rattle.text_terms.proofs.building.making.const_leaf.Goals as goal

pub returns-in_ok-name-in-ConstParam : goal.returns-in_ok-name-in-ConstParam
returns-in_ok-name-in-ConstParam g c m = (
  refl,
  λ items parts ts.
      leaf_is (λ x. atom (const_param c.in-ConstParam.index x)) m.name c.args.names.now c.in-ConstParam.name c.in_ok-name-in-ConstParam.name c.in_ok-name-in-ConstParam.ensures
      ∙ sym (ap (text_term_tree items (map m.name c.args.names.now) parts ts) c.in-ConstParam.is),
)

pub returns-in_ok-name-in-ConstPlaceholder : goal.returns-in_ok-name-in-ConstPlaceholder
returns-in_ok-name-in-ConstPlaceholder g c m = (
  refl,
  λ items parts ts.
      leaf_is (λ x. placeholder (bound_kind const_kind x) c.in-ConstPlaceholder.universe c.in-ConstPlaceholder.place) m.name c.args.names.now c.in-ConstPlaceholder.name c.in_ok-name-in-ConstPlaceholder.name c.in_ok-name-in-ConstPlaceholder.ensures
      ∙ sym (ap (text_term_tree items (map m.name c.args.names.now) parts ts) c.in-ConstPlaceholder.is),
)

pub returns-in-ConstVar : goal.returns-in-ConstVar
returns-in-ConstVar g c m = (
  refl,
  λ items parts ts. sym (ap (text_term_tree items (map m.name c.args.names.now) parts ts) c.in-ConstVar.is),
)

pub returns-in-ConstError : goal.returns-in-ConstError
returns-in-ConstError g c m = (
  refl,
  λ items parts ts. sym (ap (text_term_tree items (map m.name c.args.names.now) parts ts) c.in-ConstError.is),
)

pub returns-in_ok-name-in-ConstBound : goal.returns-in_ok-name-in-ConstBound
returns-in_ok-name-in-ConstBound g c m = (
  refl,
  λ items parts ts.
      leaf_is (λ x. bound (bound_kind const_kind x) c.in-ConstBound.depth c.in-ConstBound.place) m.name c.args.names.now c.in-ConstBound.name c.in_ok-name-in-ConstBound.name c.in_ok-name-in-ConstBound.ensures
      ∙ sym (ap (text_term_tree items (map m.name c.args.names.now) parts ts) c.in-ConstBound.is),
)
