use Rattle.std.proofs.Common.{refl}
use Rattle.relation_semantics.specs.Asking.{of_regions}
use Rattle.relation_semantics.proofs.Asking.{nothing_at_bivariance, itself_is_trivial, no_goal, regions_ask_one, forms_ask, parts_are_asked}
use Rattle.relation_laws.proofs.Interpreting.{some_interpretation}
use Rattle.relation_laws.proofs.laws.asking.Goals as goal

pub returns : goal.returns
returns c = record {
  bivariance = λ c z a b r. nothing_at_bivariance r refl;
  itself = λ c z v a r. itself_is_trivial r refl;
  no_goal = λ c p v a b r f g. no_goal p r refl f g;
  regions = λ c z v a b k p q r. (λ z. regions_ask_one k p r z, λ e. of_regions k e p q r);
  some = some_interpretation;
  forms = λ c z v h k ts us n r p. (λ z. forms_ask z refl refl n, parts_are_asked n r p);
}
