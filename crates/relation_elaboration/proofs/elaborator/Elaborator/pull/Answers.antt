use Rattle.std.proofs.Common.{refl, subst, arith, Some, Ok, Err}
use Rattle.relation_statements.specs.Children.{children, mode_of}
use Rattle.relation_statements.specs.Statements.{statements}
use Rattle.elaboration_worklist.specs.Kept.{Pushed}
use Rattle.relation_elaboration.specs.Pulling.{Pulls}
use Rattle.relation_elaboration.proofs.Pulled.{kept_front, kept_all, known_last, standing_by}
use Rattle.relation_elaboration.proofs.Pulled.{pulled_again, pulled_none, pulled_one, pulled_stop}
use Rattle.relation_elaboration.proofs.elaborator.Elaborator.pull.Goals as goal

pub returns-in-Some : goal.returns-in-Some
returns-in-Some g c =
    let s = c.self.inside in
    let e = standing_by g.I.Interner.meaning g.O.HasTree.tree s.cx.ghost_name s.cx.now s.list
    (mode_of s.only_self s.sized)
    s.fault in
    record {
      steps = subst (λ z. Pulls g.I.Interner.meaning g.O.HasTree.tree z (Some (Err c.in-Some.fault)) z) c.self.view_is
          (pulled_again g.I.Interner.meaning g.O.HasTree.tree e c.in-Some.fault c.in-Some.is);
    }

pub invariant_of-self : goal.invariant_of-self
invariant_of-self g c =
    let s = c.self.inside in
    kept_all g.O.HasTree.tree (g.I.Interner.meaning s.cx.now) s.list.stack.items c.pop.new.self.items
    s.list.visited.keys
    s.list.limit c.self.invariant c.in_err-obligation.ensures.items

pub returns-in_err-obligation : goal.returns-in_err-obligation
returns-in_err-obligation g c =
    let s = c.self.inside in
    let w = record s.list { stack = c.pop.new.self } in
    let mode = mode_of s.only_self s.sized in
    record {
      steps = subst (λ z. Pulls g.I.Interner.meaning g.O.HasTree.tree z c.from_residual.result
          (standing_by g.I.Interner.meaning g.O.HasTree.tree s.cx.ghost_name s.cx.now w mode s.fault)) c.self.view_is
          (pulled_none g.I.Interner.meaning g.O.HasTree.tree s.cx.ghost_name s.cx.now s.list w mode s.fault
          c.from_residual.result c.in_default.is c.in_err-obligation.ensures.items
          (λ p. let count = s.list.stack.ok in c.in_err-obligation.ensures.variant.1 (omega (arith, count, p)))
          refl refl refl c.from_residual.ensures);
    }

pub push_children-requires-clause-known : goal.push_children-requires-clause-known
push_children-requires-clause-known g c =
    let s = c.self.inside in
    known_last g.O.HasTree.tree (g.I.Interner.meaning s.cx.now) s.list.stack.items c.pop.new.self.items
    s.list.visited.keys s.list.limit c.self.invariant c.in_ok-obligation.obligation c.in_ok-obligation.ensures.items

pub push_children-requires-clause-kept : goal.push_children-requires-clause-kept
push_children-requires-clause-kept g c =
    let s = c.self.inside in
    kept_front g.O.HasTree.tree (g.I.Interner.meaning s.cx.now) s.list.stack.items c.pop.new.self.items
    s.list.visited.keys s.list.limit c.self.invariant c.in_ok-obligation.obligation c.in_ok-obligation.ensures.items

pub invariant_of-self-in-Ok : goal.invariant_of-self-in-Ok
invariant_of-self-in-Ok g c = c.push_children.ensures.kept

pub returns-in-Ok : goal.returns-in-Ok
returns-in-Ok g c =
    let s = c.self.inside in
    let w = record s.list { stack = c.pop.new.self } in
    let mode = mode_of s.only_self s.sized in
    let x = c.in_ok-obligation.obligation in
    let d = c.push_children.new.cx in
    let v = c.push_children.new.list in
    let m = g.I.Interner.meaning s.cx.now in
    let known_x = known_last g.O.HasTree.tree m s.list.stack.items c.pop.new.self.items
    s.list.visited.keys s.list.limit c.self.invariant x c.in_ok-obligation.ensures.items in
    record {
      steps = subst (λ z. Pulls g.I.Interner.meaning g.O.HasTree.tree z (Some (Ok x))
          (standing_by g.I.Interner.meaning g.O.HasTree.tree s.cx.ghost_name d v mode s.fault)) c.self.view_is
          (pulled_one g.I.Interner.meaning g.O.HasTree.tree s.cx.ghost_name s.cx.now d s.list w v mode x
          c.in_ok-obligation.ensures.items refl refl refl c.in-Ok.field-0 s.fault c.in_default.is known_x
          (subst (λ z. Pushed g.O.HasTree.tree m (g.I.Interner.meaning d)
          (children (statements m) mode (g.O.HasTree.tree m x)) w v z) c.in-Ok.is c.push_children.ensures));
    }

pub returns-in-Err : goal.returns-in-Err
returns-in-Err g c =
    let s = c.self.inside in
    let w = record s.list { stack = c.pop.new.self } in
    let mode = mode_of s.only_self s.sized in
    let x = c.in_ok-obligation.obligation in
    let d = c.push_children.new.cx in
    let v = c.push_children.new.list in
    let m = g.I.Interner.meaning s.cx.now in
    let f = c.in-Err.fault in
    record {
      steps = subst (λ z. Pulls g.I.Interner.meaning g.O.HasTree.tree z (Some (Err f))
          (standing_by g.I.Interner.meaning g.O.HasTree.tree s.cx.ghost_name d v mode (Some f))) c.self.view_is
          (pulled_stop g.I.Interner.meaning g.O.HasTree.tree s.cx.ghost_name s.cx.now d s.list w v mode x
          c.in_ok-obligation.ensures.items refl refl refl f s.fault c.in_default.is
          (subst (λ z. Pushed g.O.HasTree.tree m (g.I.Interner.meaning d)
          (children (statements m) mode (g.O.HasTree.tree m x)) w v z) c.in-Err.is c.push_children.ensures));
    }
