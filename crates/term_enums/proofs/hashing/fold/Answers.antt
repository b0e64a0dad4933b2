use Rattle.std.proofs.Common.{refl}
use Rattle.term_enums.specs.Hashing.{folded_product}
use Rattle.term_enums.proofs.hashing.fold.Goals as goal

pub returns : goal.returns
unfolding folded_product
returns c = refl
