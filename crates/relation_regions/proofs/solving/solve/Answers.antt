-- The key of 'static is made, and what was recorded stays.
use Rattle.std.proofs.lemmas.Result.{IfOk-weaker}
use Rattle.relation_regions.specs.Solving.{IfMet, IfValued, IfUnmet, IsAnswered}
use Rattle.relation_regions.proofs.Answered.{facts_kept}
use Rattle.relation_regions.proofs.solving.solve.Goals as goal

pub solve_problem-requires-clause-facts_in : goal.solve_problem-requires-clause-facts_in
solve_problem-requires-clause-facts_in g c = facts_kept (g.C.InferCtxtLike.state c.args.ctx.now)
    (g.C.InferCtxtLike.state c.make_static.new.ctx) c.args.facts.now c.make_static.ensures.grows.extends
    c.make_static.ensures.same_record c.requires.facts_in

pub solve_problem-requires-clause-empty : goal.solve_problem-requires-clause-empty
solve_problem-requires-clause-empty g c = c.new-problem.ensures

pub returns-clause-met : goal.returns-clause-met
returns-clause-met g c =
    let m = g.C.InferCtxtLike.state c.make_static.new.ctx in
    IfOk-weaker c.solve_problem.result (IsAnswered m c.args.facts.now) (IfMet m c.args.facts.now) (λ s h. h.met)
    c.solve_problem.ensures

pub returns-clause-least : goal.returns-clause-least
returns-clause-least g c =
    let m = g.C.InferCtxtLike.state c.make_static.new.ctx in
    IfOk-weaker c.solve_problem.result (IsAnswered m c.args.facts.now) (IfValued m c.args.facts.now) (λ s h. h.least)
    c.solve_problem.ensures

pub returns-clause-unmet : goal.returns-clause-unmet
returns-clause-unmet g c =
    let m = g.C.InferCtxtLike.state c.make_static.new.ctx in
    IfOk-weaker c.solve_problem.result (IsAnswered m c.args.facts.now) (IfUnmet m c.args.facts.now) (λ s h. h.unmet)
    c.solve_problem.ensures

pub solve_problem-requires-clause-lawful : goal.solve_problem-requires-clause-lawful
solve_problem-requires-clause-lawful g c = c.make_static.ensures.grows.lawful

pub solve_problem-requires-clause-is_static : goal.solve_problem-requires-clause-is_static
solve_problem-requires-clause-is_static g c = c.in_ok-re_static.ensures.is_static

pub solve_problem-requires-clause-constraints : goal.solve_problem-requires-clause-constraints
solve_problem-requires-clause-constraints g c = c.region_constraints.ensures

pub returns-in_err-re_static-clause-grows : goal.returns-in_err-re_static-clause-grows
returns-in_err-re_static-clause-grows g c = c.make_static.ensures.grows

pub returns-in_err-re_static-clause-same_record : goal.returns-in_err-re_static-clause-same_record
returns-in_err-re_static-clause-same_record g c = c.make_static.ensures.same_record

pub returns-in_err-re_static-clause-marks : goal.returns-in_err-re_static-clause-marks
returns-in_err-re_static-clause-marks g c = c.make_static.ensures.marks

pub returns-clause-grows : goal.returns-clause-grows
returns-clause-grows g c = c.make_static.ensures.grows

pub returns-clause-same_record : goal.returns-clause-same_record
returns-clause-same_record g c = c.make_static.ensures.same_record

pub returns-clause-marks : goal.returns-clause-marks
returns-clause-marks g c = c.make_static.ensures.marks
