use Rattle.std.proofs.Common.{rules, arith, ◌≡◌, ◌<◌, ◌+◌, suc}
use Rattle.std.specs.declared.ops.ControlFlow.TheVariants.{Continue, Break}
use Rattle.relation_terms.specs.Trees.{count}
use Rattle.relation_folds.proofs.Visiting.{over_next, over_last, over_end}
use Rattle.relation_folds.proofs.visit.clauses.ClausesKeyKeyTypeVisitable.visit_with.Goals as goal

pub loop-step-init : goal.loop-step-init
loop-step-init g c = λ w r p. p

pub clause_at-requires : goal.clause_at-requires
clause_at-requires g c =
    let m = g.I.Interner.meaning c.args.cx.now in
    let counted = c.clause_count-step-end.ensures.counts in
    let test = c.loop-step-test.true in
    let below : c.loop-step.step < count (m.clauses c.args.self.now) = omega (arith, counted, test) in
    record { list_known = c.requires; in_bounds = below }

pub returns-in_err-visit_with : goal.returns-in_err-visit_with
returns-in_err-visit_with g c =
    let visits = g.V.TypeVisitor.visits c.args.cx.now in
    let m = g.I.Interner.meaning c.args.cx.now in
    let ts = m.clauses c.args.self.now in
    let counted = c.clause_count-step-end.ensures.counts in
    let test = c.loop-step-test.true in
    let below : c.loop-step.step < count ts = omega (arith, counted, test) in
    let broke : c.visit_with.result ≡ Break tt = search rules in
    c.loop-step.invariant c.visit_with.new.visitor c.from_residual.result
    (over_last visits 0 c.loop-step.visitor c.visit_with.new.visitor c.loop-step.step ts (m.clause c.clause_at.result)
    c.visit_with.result c.from_residual.result below c.clause_at.ensures.means c.visit_with.ensures broke
    c.from_residual.ensures)

pub loop-step-preserved : goal.loop-step-preserved
loop-step-preserved g c = λ w r p.
    let visits = g.V.TypeVisitor.visits c.args.cx.now in
    let m = g.I.Interner.meaning c.args.cx.now in
    let ts = m.clauses c.args.self.now in
    let k = c.loop-step.step in
    let counted = c.clause_count-step-end.ensures.counts in
    let test = c.loop-step-test.true in
    let below : k < count ts = omega (arith, counted, test) in
    let went : c.visit_with.result ≡ Continue tt = search rules in
    let next : k + 1 ≡ suc k = omega arith in
    c.loop-step.invariant w r
    (over_next visits 0 c.loop-step.visitor c.visit_with.new.visitor w k (k + 1) ts (m.clause c.clause_at.result)
    c.visit_with.result r below next c.clause_at.ensures.means c.visit_with.ensures went p)

pub returns : goal.returns
returns g c =
    let visits = g.V.TypeVisitor.visits c.args.cx.now in
    let m = g.I.Interner.meaning c.args.cx.now in
    let ts = m.clauses c.args.self.now in
    let counted = c.clause_count-step-end.ensures.counts in
    let test = c.loop-step-test.false in
    let end = (c.loop-step.auto).step-end in
    let all : c.loop-step.step ≡ count ts = omega (arith, counted, test, end) in
    c.loop-step.invariant c.loop-step.visitor (Continue tt)
    (over_end visits 0 c.loop-step.visitor c.loop-step.step ts c.clause_count-step-end.ensures.is_list all)
