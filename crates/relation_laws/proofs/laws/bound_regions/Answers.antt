use Rattle.relation_laws.proofs.SmallTerms.{any_is_static, static_is_not_any, placeholder_is_not_any, one_region_is_not_two, any_is_not_invariantly_static}
use Rattle.relation_laws.proofs.laws.bound_regions.Goals as goal

pub returns : goal.returns
returns c = record { any_is_static = any_is_static; static_is_not_any = static_is_not_any; placeholder_is_not_any = placeholder_is_not_any; one_is_not_two = one_region_is_not_two; not_invariantly = any_is_not_invariantly_static }
