use Rattle.relation_terms.proofs.Stays.{extends_on}
use Rattle.text_asking.proofs.AskingLemmas.{ready_stays}
use Rattle.text_asking.proofs.lists.ask_args_related.Goals as goal

pub args_of-requires-2-clause-ready : goal.args_of-requires-2-clause-ready
args_of-requires-2-clause-ready g c =
    ready_stays c.args_of.ensures.grown c.args.terms.now.built.now c.requires.ready

pub relate_args-requires-clause-ready : goal.relate_args-requires-clause-ready
relate_args-requires-clause-ready g c =
    ready_stays (extends_on c.args_of.ensures.grown c.args_of-2.ensures.grown) c.args.terms.now.built.now c.requires.ready
