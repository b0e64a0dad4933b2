use Rattle.std.proofs.Common.{sym, subst}
use Rattle.std.specs.List.{All}
use Rattle.text_proving.specs.Made.{KnowsMade}
use Rattle.text_asking.proofs.ProofLemmas.{all_told}
use Rattle.text_asking.proofs.proving.told_of.Goals as goal

pub ask_proof-requires-clause-env_known : goal.ask_proof-requires-clause-env_known
ask_proof-requires-clause-env_known g c = c.requires.known.env

pub ask_proof-requires-clause-rules_known : goal.ask_proof-requires-clause-rules_known
ask_proof-requires-clause-rules_known g c =
    subst (All (KnowsMade (g.I.Interner.meaning c.args.ctx.now.interner))) (sym c.deref.ensures.value)
    c.requires.known.rules

pub ask_proof-requires-clause-goal_known : goal.ask_proof-requires-clause-goal_known
ask_proof-requires-clause-goal_known g c = c.requires.known.goal

pub returns-then-is_empty-clause-known : goal.returns-then-is_empty-clause-known
returns-then-is_empty-clause-known g c =
    all_told _ _ c.args.proof.now.goal c.ask_proof.result c.ask_proof.ensures.named

pub ask_open_proof-requires-clause-env_known : goal.ask_open_proof-requires-clause-env_known
ask_open_proof-requires-clause-env_known g c = c.requires.known.env

pub ask_open_proof-requires-clause-said_known : goal.ask_open_proof-requires-clause-said_known
ask_open_proof-requires-clause-said_known g c =
    subst (All (KnowsMade (g.I.Interner.meaning c.args.ctx.now.interner))) (sym c.deref-2.ensures.value)
    c.requires.known.rules

pub ask_open_proof-requires-clause-perhaps_known : goal.ask_open_proof-requires-clause-perhaps_known
ask_open_proof-requires-clause-perhaps_known g c =
    subst (All (KnowsMade (g.I.Interner.meaning c.args.ctx.now.interner))) (sym c.deref-3.ensures.value)
    c.requires.known.perhaps

pub ask_open_proof-requires-clause-goal_known : goal.ask_open_proof-requires-clause-goal_known
ask_open_proof-requires-clause-goal_known g c = c.requires.known.goal

pub returns-clause-known : goal.returns-clause-known
returns-clause-known g c =
    all_told _ _ c.args.proof.now.goal c.ask_open_proof.result c.ask_open_proof.ensures.named
