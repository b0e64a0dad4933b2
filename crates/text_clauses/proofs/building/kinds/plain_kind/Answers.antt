use Rattle.std.proofs.Common.{refl, sym, ap, ◌∙◌, map}
use Rattle.relation_terms.specs.Heads.{region_outlives, type_outlives, well_formed, const_evaluatable}
use Rattle.relation_terms.specs.Heads.{const_has_type, unstable_feature, atom}
use Rattle.relation_terms.specs.Meaning.{arg_tree, term_tree}
use Rattle.relation_terms.specs.declared.terms.generic_arg.GenericArgKind.TheVariants.{Lifetime, Ty, Const}
use Rattle.text_terms.proofs.BuildingLemmas.{leaf_is, term_is}
use Rattle.text_clauses.specs.Clauses.{says_tree}
use Rattle.text_clauses.proofs.ClauseLemmas.{one_made, two_made}
use Rattle.text_clauses.proofs.building.kinds.plain_kind.Goals as goal

pub returns-in_ok-shorter-in-RegionOutlives : goal.returns-in_ok-shorter-in-RegionOutlives
returns-in_ok-shorter-in-RegionOutlives g c m items parts sure =
    two_made m c.args.built.now sure region_outlives (Lifetime c.in_ok-longer-in-RegionOutlives.longer)
    (Lifetime c.in_ok-shorter-in-RegionOutlives.shorter) c.in-RegionOutlives.longer c.in-RegionOutlives.shorter
    (λ ts. says_tree items (map m.name c.args.names.now) parts ts c.args.says)
    c.in_ok-longer-in-RegionOutlives.ensures c.in_ok-shorter-in-RegionOutlives.ensures
    (λ ts. sym (ap (says_tree items (map m.name c.args.names.now) parts ts) c.in-RegionOutlives.is))

pub returns-in_ok-region-in-TypeOutlives : goal.returns-in_ok-region-in-TypeOutlives
returns-in_ok-region-in-TypeOutlives g c m items parts sure =
    two_made m c.args.built.now sure type_outlives (Ty c.in_ok-ty-in-TypeOutlives.ty)
    (Lifetime c.in_ok-region-in-TypeOutlives.region) c.in-TypeOutlives.ty c.in-TypeOutlives.region
    (λ ts. says_tree items (map m.name c.args.names.now) parts ts c.args.says) c.in_ok-ty-in-TypeOutlives.ensures
    c.in_ok-region-in-TypeOutlives.ensures
    (λ ts. sym (ap (says_tree items (map m.name c.args.names.now) parts ts) c.in-TypeOutlives.is))

pub returns-in_ok-ty-in-ConstArgHasType : goal.returns-in_ok-ty-in-ConstArgHasType
returns-in_ok-ty-in-ConstArgHasType g c m items parts sure =
    two_made m c.args.built.now sure const_has_type (Const c.in_ok-constant-in-ConstArgHasType.constant)
    (Ty c.in_ok-ty-in-ConstArgHasType.ty) c.in-ConstArgHasType.constant c.in-ConstArgHasType.ty
    (λ ts. says_tree items (map m.name c.args.names.now) parts ts c.args.says)
    c.in_ok-constant-in-ConstArgHasType.ensures c.in_ok-ty-in-ConstArgHasType.ensures
    (λ ts. sym (ap (says_tree items (map m.name c.args.names.now) parts ts) c.in-ConstArgHasType.is))

pub returns-in_ok-term-in-WellFormed : goal.returns-in_ok-term-in-WellFormed
returns-in_ok-term-in-WellFormed g c m items parts sure =
    let term = c.in_ok-term-in-WellFormed.term in
    one_made m c.args.built.now sure well_formed (term_tree m term) c.in_ok-key-in-WellFormed.key c.in-WellFormed.key
    (λ ts. says_tree items (map m.name c.args.names.now) parts ts c.args.says) c.in_ok-key-in-WellFormed.ensures
    (term_is m term ∙ ap (arg_tree m) (sym c.in_ok-term-in-WellFormed.ensures))
    (λ ts. sym (ap (says_tree items (map m.name c.args.names.now) parts ts) c.in-WellFormed.is))

pub returns-in_ok-constant-in-ConstEvaluatable : goal.returns-in_ok-constant-in-ConstEvaluatable
returns-in_ok-constant-in-ConstEvaluatable g c m items parts sure =
    let constant = c.in_ok-constant-in-ConstEvaluatable.constant in
    one_made m c.args.built.now sure const_evaluatable (m.const_ constant) (Const constant)
    c.in-ConstEvaluatable.constant
    (λ ts. says_tree items (map m.name c.args.names.now) parts ts c.args.says)
    c.in_ok-constant-in-ConstEvaluatable.ensures refl
    (λ ts. sym (ap (says_tree items (map m.name c.args.names.now) parts ts) c.in-ConstEvaluatable.is))

pub returns-in_ok-name-in-UnstableFeature : goal.returns-in_ok-name-in-UnstableFeature
returns-in_ok-name-in-UnstableFeature g c m items parts sure = (
  refl,
  λ ts b.
      leaf_is (λ x. atom (unstable_feature x)) m.name c.args.names.now c.in-UnstableFeature.name
      c.in_ok-name-in-UnstableFeature.name c.in_ok-name-in-UnstableFeature.ensures
      ∙ sym (ap (says_tree items (map m.name c.args.names.now) parts ts) c.in-UnstableFeature.is),
)
