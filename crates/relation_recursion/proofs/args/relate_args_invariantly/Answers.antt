use Rattle.std.proofs.Common.{refl}
use Rattle.relation_terms.specs.Heads.{arguments}
use Rattle.relation_recursion.proofs.args.relate_args_invariantly.Goals as goal

pub returns : goal.returns
returns g c = c.relate_args.ensures arguments refl
