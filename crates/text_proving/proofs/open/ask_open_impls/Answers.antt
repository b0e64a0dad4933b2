use Rattle.std.proofs.lemmas.List.Elements.{All-weaker}
use Rattle.relation_proving.specs.RuleTerms.{MayUse}
use Rattle.text_proving.specs.Asked.{MayServe}
use Rattle.text_proving.proofs.open.ask_open_impls.Goals as goal

pub overlap_open-requires-clause-may : goal.overlap_open-requires-clause-may
overlap_open-requires-clause-may g c =
    let s = g.C.InferCtxtLike.state c.args.ctx.now in
    record {
      lawful = c.requires.lawful;
      env_known = c.requires.env_known;
      rules = All-weaker (MayServe s) (MayUse s) (λ r p. p.may) c.args.perhaps.now c.in_default.ensures.perhaps;
    }

pub overlap_open-requires-clause-may_said : goal.overlap_open-requires-clause-may_said
overlap_open-requires-clause-may_said g c =
    let s = g.C.InferCtxtLike.state c.args.ctx.now in
    All-weaker (MayServe s) (MayUse s) (λ r p. p.may) c.args.said.now c.in_default.ensures.said

pub overlap_open-requires-clause-left : goal.overlap_open-requires-clause-left
overlap_open-requires-clause-left g c = c.in_default.ensures.left.may

pub overlap_open-requires-clause-right : goal.overlap_open-requires-clause-right
overlap_open-requires-clause-right g c = c.in_default.ensures.right.may
