use Rattle.std.proofs.Common.{sym, subst}
use Rattle.std.specs.List.{All}
use Rattle.text_proving.specs.Made.{KnowsMade}
use Rattle.text_asking.proofs.impls.told_of.Goals as goal

pub ask_impls-requires-clause-env_known : goal.ask_impls-requires-clause-env_known
ask_impls-requires-clause-env_known g c = c.requires.known.env

pub ask_impls-requires-clause-rules_known : goal.ask_impls-requires-clause-rules_known
ask_impls-requires-clause-rules_known g c =
    subst (All (KnowsMade (g.I.Interner.meaning c.args.ctx.now.interner))) (sym c.deref.ensures.value)
    c.requires.known.rules

pub ask_impls-requires-clause-left_known : goal.ask_impls-requires-clause-left_known
ask_impls-requires-clause-left_known g c = c.requires.known.left

pub ask_impls-requires-clause-right_known : goal.ask_impls-requires-clause-right_known
ask_impls-requires-clause-right_known g c = c.requires.known.right

pub ask_open_impls-requires-clause-env_known : goal.ask_open_impls-requires-clause-env_known
ask_open_impls-requires-clause-env_known g c = c.requires.known.env

pub ask_open_impls-requires-clause-said_known : goal.ask_open_impls-requires-clause-said_known
ask_open_impls-requires-clause-said_known g c =
    subst (All (KnowsMade (g.I.Interner.meaning c.args.ctx.now.interner))) (sym c.deref-2.ensures.value)
    c.requires.known.rules

pub ask_open_impls-requires-clause-perhaps_known : goal.ask_open_impls-requires-clause-perhaps_known
ask_open_impls-requires-clause-perhaps_known g c =
    subst (All (KnowsMade (g.I.Interner.meaning c.args.ctx.now.interner))) (sym c.deref-3.ensures.value)
    c.requires.known.perhaps

pub ask_open_impls-requires-clause-left_known : goal.ask_open_impls-requires-clause-left_known
ask_open_impls-requires-clause-left_known g c = c.requires.known.left

pub ask_open_impls-requires-clause-right_known : goal.ask_open_impls-requires-clause-right_known
ask_open_impls-requires-clause-right_known g c = c.requires.known.right
