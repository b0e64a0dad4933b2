use Rattle.text_elaboration.proofs.PutLemmas.{keeps_sized}
use Rattle.text_elaboration.proofs.SaidLemmas.{same_stay}
use Rattle.text_elaboration.proofs.stating.set_sized_at.Goals as goal

pub returns-clause-stays : goal.returns-clause-stays
returns-clause-stays c = same_stay c.set_sized.ensures.terms

pub returns-clause-keeps : goal.returns-clause-keeps
returns-clause-keeps c = keeps_sized c.args.cx.now c.set_sized.new.self _ c.set_sized.ensures.recorded
