-- What may be asked meets what deciding asks for.
use Rattle.std.proofs.Common.{[], ◌∷◌, ◌++◌, ◌∙◌, None, rules, ap, sym, subst, All, IsTrue}
use Rattle.std.proofs.lemmas.List.Elements.{All-cons, All-nil}
use Rattle.term_enums.specs.declared.Variance.TheVariants.{Covariant}
use Rattle.relation_regions.specs.Solving.{IsFactIn}
use Rattle.relation_regions.specs.Answers.{Decides}
use Rattle.examples.proofs.subtyping.ask_subtype.Goals as goal

pub decide_subtype-requires-clause-can : goal.decide_subtype-requires-clause-can
decide_subtype-requires-clause-can g c =
    let asked : IsTrue c.in-Ok.may = (let i = c.if-not-may.false in search rules) in
    record {
      lawful = c.requires.lawful;
      decides = λ e. absurd cc;
      env_known = c.requires.env_known;
      lhs_known = c.requires.lhs_known;
      rhs_known = c.requires.rhs_known;
      fits = tt;
      lhs_taken = (c.in-Ok.ensures.lhs asked).1;
      rhs_taken = (c.in-Ok.ensures.rhs asked).1;
      lhs_in = (c.in-Ok.ensures.lhs asked).0;
      rhs_in = (c.in-Ok.ensures.rhs asked).0;
    }

pub decide_subtype-requires-clause-facts_in : goal.decide_subtype-requires-clause-facts_in
decide_subtype-requires-clause-facts_in g c =
    let here = IsFactIn (g.C.InferCtxtLike.state c.args.ctx.now) in
    let asked : IsTrue c.in-Ok.may = (let i = c.if-not-may.false in search rules) in
    let one = c.deref.ensures.value ∙ c.in-Ok-push.ensures.items ∙ ap (λ z. z ++ c.args.fact ∷ []) c.new-facts.ensures.items in
    subst (All here) (sym one) (All-cons here c.args.fact [] (c.in-Ok.ensures.fact asked) (All-nil here))

pub returns-in-Ok-push-clause-decides : goal.returns-in-Ok-push-clause-decides
returns-in-Ok-push-clause-decides g c =
    let one = c.deref.ensures.value ∙ c.in-Ok-push.ensures.items ∙ ap (λ z. z ++ c.args.fact ∷ []) c.new-facts.ensures.items in
    subst (λ fs. Decides g.C.InferCtxtLike.state c.args.ctx.now c.decide_subtype.new.ctx fs None (λ m t. m.ty t)
    c.args.param_env Covariant c.args.lhs c.args.rhs c.decide_subtype.result) one c.decide_subtype.ensures.decides
