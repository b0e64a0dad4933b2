use Rattle.text_users.proofs.Fixing.{walked_fixed}
use Rattle.text_users.proofs.fixed.are_fixed.Goals as goal

pub returns-in-Continue : goal.returns-in-Continue
returns-in-Continue g c = λ told. walked_fixed 0 (record {}) c.visit_with.new.visitor _ _ c.in-Continue.ensures tt
