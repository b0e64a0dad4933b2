-- Of which kinds the variables are that are bound to what a term comes to.
use Rattle.std.proofs.Common.{◌≢◌}
use Rattle.relation_terms.specs.Heads.{VarKind, type_var, int_var, float_var, const_var, region_var}
use Rattle.relation_semantics.specs.ErasureLaws.{IsTypeOrConst}

pub no_region : (k : VarKind) → IsTypeOrConst k → k ≢ region_var
no_region type_var i e = cc
no_region const_var i e = cc
no_region int_var i e = i
no_region float_var i e = i
no_region region_var i e = i
