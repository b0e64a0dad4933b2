use Rattle.text_asking.proofs.AskingLemmas.{ready_stays}
use Rattle.text_asking.proofs.quick.ask_args_may_unify.Goals as goal

pub args_of-requires-2-clause-ready : goal.args_of-requires-2-clause-ready
args_of-requires-2-clause-ready g c =
    ready_stays c.args_of.ensures.grown c.args.terms.now.built.now c.requires.ready
