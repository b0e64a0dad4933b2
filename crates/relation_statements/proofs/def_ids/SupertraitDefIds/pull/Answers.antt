use Rattle.std.proofs.Common.{subst, arith, true, Some, Ok, Err}
use Rattle.relation_statements.specs.Reach.{Goes}
use Rattle.relation_statements.proofs.Reaching.{reaching_by, goes_none, goes_one, goes_refused}
use Rattle.relation_statements.proofs.def_ids.SupertraitDefIds.pull.Goals as goal

pub returns-in_err-trait_id : goal.returns-in_err-trait_id
returns-in_err-trait_id g c =
    let s = c.self.inside in
    let by = reaching_by g.I.Interner.meaning s.cx.now in
    record {
      steps = subst (λ z. Goes g.I.Interner.meaning z c.from_residual.result
          (by c.pop.new.self.items s.reached.keys s.failed)) c.self.view_is
          (goes_none g.I.Interner.meaning s.cx.now s.stack.items c.pop.new.self.items s.reached.keys s.failed
          c.from_residual.result c.if-self.false c.in_err-trait_id.ensures.items
          (λ p. let count = s.stack.ok in c.in_err-trait_id.ensures.variant.1 (omega (arith, count, p)))
          c.from_residual.ensures);
    }

pub returns-in-Ok : goal.returns-in-Ok
returns-in-Ok g c =
    let s = c.self.inside in
    let by = reaching_by g.I.Interner.meaning s.cx.now in
    let x = c.in_ok-trait_id.trait_id in
    record {
      steps = subst (λ z. Goes g.I.Interner.meaning z (Some (Ok x))
          (by c.reach_supers.new.stack.items c.reach_supers.new.reached.keys s.failed)) c.self.view_is
          (goes_one g.I.Interner.meaning s.cx.now s.stack.items c.pop.new.self.items c.reach_supers.new.stack.items
          s.reached.keys c.reach_supers.new.reached.keys x s.failed c.if-self.false c.in_ok-trait_id.ensures.items
          c.in-Ok.ensures);
    }

pub returns-in-Err : goal.returns-in-Err
returns-in-Err g c =
    let s = c.self.inside in
    let by = reaching_by g.I.Interner.meaning s.cx.now in
    record {
      steps = subst (λ z. Goes g.I.Interner.meaning z (Some (Err c.in-Err.refused))
          (by c.reach_supers.new.stack.items c.reach_supers.new.reached.keys true)) c.self.view_is
          (goes_refused g.I.Interner.meaning s.cx.now s.stack.items c.reach_supers.new.stack.items s.reached.keys
          c.reach_supers.new.reached.keys s.failed c.in-Err.refused c.if-self.false);
    }
