-- What new variables for a binder stand for: values that fit it, and that their universe can name.
use Rattle.std.proofs.Common.{ℕ, [], ◌∷◌}
use Rattle.relation_semantics.proofs.Values.{variables_fit, variables_namable}
use Rattle.relation_laws.specs.SolutionLaws.{NewVariablesFit}

pub new_variables_fit : NewVariablesFit
new_variables_fit before after u ks xs n s h =
    (variables_fit before after s u ks xs h n, variables_namable before after s u ks xs h n)
