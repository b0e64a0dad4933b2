-- What is solved where the facts hold that are stated.
use Rattle.std.proofs.Common.{sym, subst, All, get_or, ◌∙◌}
use Rattle.relation_regions.specs.Solving.{IsFactIn, IfMet, IfValued, IfUnmet}
use Rattle.relation_regions.proofs.Answered.{fact_later}
use Rattle.text_users.proofs.SolvedLemmas.{solved_known}
use Rattle.text_users.proofs.regions.ask_solved.Goals as goal

pub solve-requires-clause-facts_in : goal.solve-requires-clause-facts_in
solve-requires-clause-facts_in g c =
    subst (All (IsFactIn (g.C.InferCtxtLike.state c.args.ctx.now))) (sym c.deref.ensures.value)
    c.in_ok-facts.ensures.are_facts

pub returns-clause-met : goal.returns-clause-met
returns-clause-met g c =
    subst (λ fs. IfMet (g.C.InferCtxtLike.state c.solve.new.ctx) fs c.in_ok-solved.solved)
    (c.deref.ensures.value ∙ c.in_ok-facts.ensures.stated) c.in_ok-solved.ensures.met

pub returns-clause-least : goal.returns-clause-least
returns-clause-least g c =
    subst (λ fs. IfValued (g.C.InferCtxtLike.state c.solve.new.ctx) fs c.in_ok-solved.solved)
    (c.deref.ensures.value ∙ c.in_ok-facts.ensures.stated) c.in_ok-solved.ensures.least

pub returns-clause-unmet : goal.returns-clause-unmet
returns-clause-unmet g c =
    subst (λ fs. IfUnmet (g.C.InferCtxtLike.state c.solve.new.ctx) fs c.in_ok-solved.solved)
    (c.deref.ensures.value ∙ c.in_ok-facts.ensures.stated) c.in_ok-solved.ensures.unmet

pub returns-clause-known : goal.returns-clause-known
returns-clause-known g c =
    let m = g.C.InferCtxtLike.state c.args.ctx.now in
    let n = g.C.InferCtxtLike.state c.solve.new.ctx in
    let facts = c.deref.result.now in
    let before : All (IsFactIn m) facts = subst (All (IsFactIn m)) (sym c.deref.ensures.value)
    c.in_ok-facts.ensures.are_facts in
    let after : All (IsFactIn n) facts =
    λ i d lt. fact_later m n (get_or facts i d) c.solve.ensures.grows.extends c.solve.ensures.same_record
    (before i d lt) in
    solved_known n facts (g.met.C.InferCtxtLike.sound c.solve.new.ctx c.solve.ensures.grows.lawful) after
    c.in_ok-solved.solved c.in_ok-solved.ensures.least c.in_ok-solved.ensures.unmet
