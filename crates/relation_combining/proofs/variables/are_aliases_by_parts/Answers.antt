use Rattle.std.proofs.Common.{rules, sym, subst, ◌∙◌, IsTrue}
use Rattle.std.proofs.lemmas.Bool.{false≢true}
use Rattle.relation_combining.specs.Deferring.{StandsAs}
use Rattle.relation_combining.specs.declared.deferring.Standing.TheVariants.{Alias}
use Rattle.relation_combining.proofs.DeferredPairs.{aliases_by_parts}
use Rattle.relation_combining.proofs.variables.are_aliases_by_parts.Goals as goal

pub returns : goal.returns
returns g c = λ yes.
    let x = c.args.relation.now in
    let r = g.R.HasState.state x in
    let o = g.met.R.PredicateEmittingRelation.over x in
    let there : (t : _) → StandsAs Alias (((g.Infcx.InferCtxtLike.state c.infcx-infcx.result.now).meaning).ty t) →
    StandsAs Alias ((r.meaning).ty t) =
    λ t s. subst (λ m. StandsAs Alias (m.ty t)) (sym o.meaning)
    (subst (λ z. StandsAs Alias (((g.Infcx.InferCtxtLike.state z).meaning).ty t)) c.infcx-infcx.ensures s) in
    let t = c.if-not-is_plain_alias.false in
    let left : IsTrue c.is_plain_alias.result = search rules in
    aliases_by_parts r c.args.a.now c.args.b.now
    (λ d. false≢true (sym c.if-defers_aliases.false ∙ c.defers_aliases.ensures.1 d))
    (there c.args.a.now (c.is_plain_alias.ensures left))
    (there c.args.b.now (c.is_plain_alias-2.ensures yes))
