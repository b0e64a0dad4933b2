use Rattle.std.proofs.Common.{sym, ◌∙◌, subst, subst₂, []}
use Rattle.std.proofs.lemmas.List.Elements.{All-nil}
use Rattle.relation_semantics.specs.Goals.{KnowsGoal}
use Rattle.relation_semantics.specs.Lawful.{State, Related}
use Rattle.context_relation.specs.Relating.{term_in}
use Rattle.relation_combining.specs.Solving.{held_by, solving_in, solving_through, solver_manner}
use Rattle.relation_steps.specs.Alone.{RelatesAtOnce}
use Rattle.relation_steps.specs.Terms.{AskedTerms, RelatedTerms, TermsRegister}
use Rattle.context_relation.proofs.NewRelation.{stands_new, stands_after}
use Rattle.context_relation.proofs.Solving.{forgetting, none_held}
use Rattle.type_relations.proofs.relate.solver_relating.relate_in.Goals as goal

-- No goal is there, and nothing is remembered.
pub relate-related-requires-clause-lawful : goal.relate-related-requires-clause-lawful
relate-related-requires-clause-lawful g c =
    let state = g.Infcx.InferCtxtLike.state in
    let s = state c.args.infcx.now in
    let v = c.args.variance in
    let e = c.args.param_env in
    let h = c.new-relation.ensures in
    subst (λ q. q.lawful) (sym (stands_new state c.new-relation.result h.aliases h.infcx h.ambient_variance h.param_env h.remembers_none h.goals))
    ((c.requires.lawful, none_held c.args.aliases 0 s [] e), (c.requires.env_known, All-nil (KnowsGoal s.meaning)))

pub relate-related-requires-clause-decides : goal.relate-related-requires-clause-decides
relate-related-requires-clause-decides g c = λ h. c.requires.decides (sym c.new-relation.ensures.ambient_variance ∙ h)

pub relate-related-requires-clause-fits : goal.relate-related-requires-clause-fits
relate-related-requires-clause-fits g c =
    subst (λ z. g.T.Relate.fits (g.Infcx.InferCtxtLike.state z).meaning c.args.a.now c.args.b.now)
    (sym c.new-relation.ensures.infcx) c.requires.fits

pub relate-related-requires-clause-asked : goal.relate-related-requires-clause-asked
relate-related-requires-clause-asked g c =
    let h = c.new-relation.ensures in
    subst (λ q. AskedTerms solver_manner g.T.Relate.over g.T.HasTree.tree q c.args.a.now c.args.b.now)
    (sym (stands_new g.Infcx.InferCtxtLike.state c.new-relation.result h.aliases h.infcx h.ambient_variance h.param_env h.remembers_none h.goals))
    c.requires.asked

-- The reference that is given back is the one that was lent, so the context is what is behind it. No goal was there, and
-- what is remembered at the end is forgotten.
pub returns-clause-related : goal.returns-clause-related
returns-clause-related g c =
    let state = g.Infcx.InferCtxtLike.state in
    let s = state c.args.infcx.now in
    let h = c.new-relation.ensures in
    let back = c.infcx-1.given.1 (sym (c.into_infcx-infcx.ensures.same_reference
    ∙ c.take_goals-goals.ensures.same_reference ∙ c.relate-related.ensures.same_reference ∙ h.same_reference))
    ∙ c.into_infcx-infcx.ensures.value ∙ c.take_goals-goals.ensures.infcx in
    let v = c.args.variance in
    let e = c.args.param_env in
    let over = g.T.Relate.over in
    let tree = g.T.HasTree.tree in
    let a = term_in s over tree c.args.a.now in
    let b = term_in s over tree c.args.b.now in
    let new = c.relate-related.new.self in
    let q = state new.infcx.now in
    let related = subst₂ (λ p u. RelatedTerms solver_manner over tree p u c.args.a.now c.args.b.now c.relate-related.result)
    (stands_new state c.new-relation.result h.aliases h.infcx h.ambient_variance h.param_env h.remembers_none h.goals)
    (stands_after state c.new-relation.result h.aliases h.infcx h.ambient_variance h.param_env new) c.relate-related.ensures.related in
    let forgot = forgetting (held_by c.args.aliases 0 [] s) (held_by c.args.aliases 0 new.cache.pairs.kept q) [] new.goals.items
    s.meaning q.meaning s.store q.store s.lawful q.lawful v e a b (term_in q over tree) c.relate-related.result related in
    subst₂ (λ z gs. Related solver_manner (solving_in c.args.aliases [] s v e) (solving_in c.args.aliases gs (state z) v e) v a b
    (term_in (state z) over tree) c.relate-related.result) (sym back)
    (sym c.take_goals-goals.ensures.goals) forgot

pub returns-clause-registers : goal.returns-clause-registers
returns-clause-registers g c =
    let state = g.Infcx.InferCtxtLike.state in
    let s = state c.args.infcx.now in
    let h = c.new-relation.ensures in
    let back = c.infcx-1.given.1 (sym (c.into_infcx-infcx.ensures.same_reference
    ∙ c.take_goals-goals.ensures.same_reference ∙ c.relate-related.ensures.same_reference ∙ h.same_reference))
    ∙ c.into_infcx-infcx.ensures.value ∙ c.take_goals-goals.ensures.infcx in
    let v = c.args.variance in
    let e = c.args.param_env in
    let over = g.T.Relate.over in
    let tree = g.T.HasTree.tree in
    let a = term_in s over tree c.args.a.now in
    let b = term_in s over tree c.args.b.now in
    let new = c.relate-related.new.self in
    let registers = subst₂ (λ p u. TermsRegister solver_manner over tree p u c.args.a.now c.args.b.now c.relate-related.result)
    (stands_new state c.new-relation.result h.aliases h.infcx h.ambient_variance h.param_env h.remembers_none h.goals)
    (stands_after state c.new-relation.result h.aliases h.infcx h.ambient_variance h.param_env new) c.relate-related.ensures.registers in
    subst₂ (λ z gs. RelatesAtOnce solver_manner (solving_in c.args.aliases [] s v e)
    (solving_in c.args.aliases gs (state z) v e) v a b c.relate-related.result) (sym back)
    (sym c.take_goals-goals.ensures.goals) registers
