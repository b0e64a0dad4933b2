use Rattle.std.proofs.lemmas.List.Elements.{All-weaker}
use Rattle.relation_proving.specs.RuleTerms.{MayUse}
use Rattle.text_proving.specs.Asked.{MayServe}
use Rattle.text_proving.proofs.impls.ask_impls.Goals as goal

pub impls_overlap-requires-clause-may : goal.impls_overlap-requires-clause-may
impls_overlap-requires-clause-may g c =
    let s = g.C.InferCtxtLike.state c.args.ctx.now in
    record {
      lawful = c.requires.lawful;
      env_known = c.requires.env_known;
      rules = All-weaker (MayServe s) (MayUse s) (λ r p. p.may) c.args.rules.now c.in_default.ensures.rules;
    }

pub impls_overlap-requires-clause-left : goal.impls_overlap-requires-clause-left
impls_overlap-requires-clause-left g c = c.in_default.ensures.left.may

pub impls_overlap-requires-clause-right : goal.impls_overlap-requires-clause-right
impls_overlap-requires-clause-right g c = c.in_default.ensures.right.may
