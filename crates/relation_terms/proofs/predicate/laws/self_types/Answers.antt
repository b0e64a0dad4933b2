use Rattle.std.proofs.Common.{refl}
use Rattle.relation_terms.proofs.Edits.{self_and_rest}
use Rattle.relation_terms.proofs.predicate.laws.self_types.Goals as goal

pub returns : goal.returns
returns c = record {
  put_back = self_and_rest;
  erased = λ t ts. refl;
  replaced_twice = λ t u ts. refl;
  read = λ t ts. refl;
}
