use Rattle.std.proofs.Common.{subst, map, Ok}
use Rattle.relation_statements.specs.Children.{mode_of}
use Rattle.elaboration_worklist.specs.Kept.{Pushed}
use Rattle.relation_elaboration.specs.Pulling.{BeginsClosure}
use Rattle.relation_elaboration.proofs.Pulled.{standing_by}
use Rattle.relation_elaboration.proofs.Taking.{keeps_by, takes_by, closes_by}
use Rattle.relation_elaboration.proofs.elaborator.Elaborator.extend_deduped.Goals as goal

pub push_all-requires-clause-kept : goal.push_all-requires-clause-kept
push_all-requires-clause-kept g c = c.self.invariant

pub invariant_of-self-in-Err : goal.invariant_of-self-in-Err
invariant_of-self-in-Err g c = c.push_all.ensures.kept

pub returns-in-Ok-clause-closure : goal.returns-in-Ok-clause-closure
returns-in-Ok-clause-closure g c =
    let s = c.self.inside in
    let d = c.push_all.new.cx in
    let v = c.push_all.new.list in
    let mode = mode_of s.only_self s.sized in
    let given = c.args.obligations.items in
    let m = g.I.Interner.meaning s.cx.now in
    let r = s.cx.ghost_name in
    let pushed = subst (λ z. Pushed g.O.HasTree.tree m (g.I.Interner.meaning d) (map (g.O.HasTree.tree m) given)
    s.list v z) c.in-Ok.is c.push_all.ensures in
    let e = standing_by g.I.Interner.meaning g.O.HasTree.tree r s.cx.now s.list mode s.fault in
    let t = standing_by g.I.Interner.meaning g.O.HasTree.tree r d v mode s.fault in
    subst (λ z. BeginsClosure g.I.Interner.meaning g.O.HasTree.tree given z t) c.self.view_is
    (closes_by g.I.Interner.meaning g.O.HasTree.tree g.O.HasTree.stays e t (g.met.I.Interner.states s.cx.now) given
    (keeps_by g.I.Interner.meaning g.O.HasTree.tree r s.cx.now d s.list v mode given s.fault s.fault
    (Ok c.in-Ok.field-0) pushed)
    (takes_by g.I.Interner.meaning g.O.HasTree.tree r s.cx.now d s.list v mode given s.fault s.fault
    c.in-Ok.field-0 pushed))
