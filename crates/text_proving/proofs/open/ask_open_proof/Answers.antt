use Rattle.std.proofs.lemmas.List.Elements.{All-weaker}
use Rattle.relation_semantics.proofs.Going.{later_itself}
use Rattle.relation_proving.specs.RuleTerms.{MayUse, IsClosedRule}
use Rattle.text_proving.specs.Asked.{MayServe}
use Rattle.text_proving.proofs.open.ask_open_proof.Goals as goal

pub prove_open-requires-clause-may : goal.prove_open-requires-clause-may
prove_open-requires-clause-may g c =
    let s = g.C.InferCtxtLike.state c.args.ctx.now in
    record {
      lawful = c.requires.lawful;
      env_known = c.requires.env_known;
      rules = All-weaker (MayServe s) (MayUse s) (λ r p. p.may) c.args.said.now c.in_default.ensures.said;
    }

pub prove_open-requires-clause-may_perhaps : goal.prove_open-requires-clause-may_perhaps
prove_open-requires-clause-may_perhaps g c =
    let s = g.C.InferCtxtLike.state c.args.ctx.now in
    All-weaker (MayServe s) (MayUse s) (λ r p. p.may) c.args.perhaps.now c.in_default.ensures.perhaps

pub returns-clause-closed : goal.returns-clause-closed
returns-clause-closed g c =
    let s = g.C.InferCtxtLike.state c.args.ctx.now in
    All-weaker (MayServe s) (IsClosedRule s) (λ r p. p.closed) c.args.said.now c.in_default.ensures.said

pub returns-in-Some-clause-later : goal.returns-in-Some-clause-later
returns-in-Some-clause-later g c = later_itself (g.C.InferCtxtLike.state c.args.ctx.now).store
