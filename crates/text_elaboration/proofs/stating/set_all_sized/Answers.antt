use Rattle.reference_interner.specs.Adding.{meaning_in}
use Rattle.text_elaboration.proofs.PutLemmas.{keeps_none, keeps_on}
use Rattle.text_elaboration.proofs.SaidLemmas.{stay_none, stay_on}
use Rattle.text_elaboration.proofs.stating.set_all_sized.Goals as goal

pub loop-of-init : goal.loop-of-init
loop-of-init c = record { stays = stay_none (meaning_in c.args.cx.now); keeps = keeps_none c.args.cx.now }

pub loop-of-preserved : goal.loop-of-preserved
loop-of-preserved c = record {
  stays = stay_on c.loop-of.invariant.stays c.set_sized_at.ensures.stays;
  keeps = keeps_on c.args.cx.now c.loop-of.cx c.set_sized_at.new.cx c.loop-of.invariant.keeps c.set_sized_at.ensures.keeps;
}

pub returns-clause-stays : goal.returns-clause-stays
returns-clause-stays c = c.loop-of.invariant.stays

pub returns-clause-keeps : goal.returns-clause-keeps
returns-clause-keeps c = c.loop-of.invariant.keeps
