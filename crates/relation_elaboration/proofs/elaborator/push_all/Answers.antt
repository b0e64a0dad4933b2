use Rattle.std.proofs.Common.{◌∙◌, ◌∷◌, ◌++◌, [], refl, sym, ap, subst, arith, IsTrue, Ok}
use Rattle.std.proofs.lemmas.List.{append_assoc, nil_from_length}
use Rattle.std.specs.List.{All}
use Rattle.relation_terms.specs.Trees.{known}
use Rattle.relation_terms.proofs.Stays.{stays_same, knows_as}
use Rattle.elaboration_worklist.specs.Kept.{Pushed}
use Rattle.elaboration_worklist.proofs.Worklists.{pushed_start, listed_next, listed_failed, listed_all, middle_all}
use Rattle.relation_elaboration.proofs.elaborator.push_all.Goals as goal

pub loop-obligation-init : goal.loop-obligation-init
loop-obligation-init g c =
    let m = g.I.Interner.meaning c.args.cx.now in (
      pushed_start g.O.HasTree.tree g.O.HasTree.stays m (stays_same m) c.args.list.now (tt {0}) c.requires.kept,
      c.into_iter-obligation-iterator.ensures.into_iter_gives.0,
    )

pub push_new-requires-clause-known : goal.push_new-requires-clause-known
push_new-requires-clause-known g c =
    let m = g.I.Interner.meaning c.args.cx.now in
    let n = g.I.Interner.meaning c.loop-obligation.cx in
    let x = c.in-Some.obligation in
    let done = c.loop-obligation.yielded in
    let rest = c.next.new.self.rest.items in
    let whole = ap (λ z. done ++ z) (sym c.in-Some.ensures.steps.0) ∙ c.loop-obligation.invariant.1 in
    let k = middle_all (λ o. IsTrue (known (g.O.HasTree.tree m o))) done x rest
    (subst (All (λ o. IsTrue (known (g.O.HasTree.tree m o)))) (sym whole) c.requires.known) in
    knows_as (g.O.HasTree.tree m x) (g.O.HasTree.tree n x) (g.O.HasTree.stays m n c.loop-obligation.invariant.0.grown
    x k) k

pub push_new-requires-clause-kept : goal.push_new-requires-clause-kept
push_new-requires-clause-kept g c = c.loop-obligation.invariant.0.kept

pub loop-obligation-preserved : goal.loop-obligation-preserved
loop-obligation-preserved g c =
    let m = g.I.Interner.meaning c.args.cx.now in
    let n = g.I.Interner.meaning c.loop-obligation.cx in
    let p = g.I.Interner.meaning c.push_new.new.cx in
    let x = c.in-Some.obligation in
    let done = c.loop-obligation.yielded in
    let rest = c.next.new.self.rest.items in
    let v = c.loop-obligation.list in
    let u = c.push_new.new.list in
    let whole = ap (λ z. done ++ z) (sym c.in-Some.ensures.steps.0) ∙ c.loop-obligation.invariant.1 in
    let k = middle_all (λ o. IsTrue (known (g.O.HasTree.tree m o))) done x rest
    (subst (All (λ o. IsTrue (known (g.O.HasTree.tree m o)))) (sym whole) c.requires.known) in (
      listed_next g.O.HasTree.tree g.O.HasTree.stays m n p done x c.args.list.now v u (tt {0}) (Ok (tt {0})) k
          c.loop-obligation.invariant.0
          (subst (λ z. Pushed g.O.HasTree.tree n p (g.O.HasTree.tree n x ∷ []) v u z) c.in-Ok.is c.push_new.ensures),
      append_assoc done (x ∷ []) rest ∙ whole,
    )

pub returns-in-Err : goal.returns-in-Err
returns-in-Err g c =
    let m = g.I.Interner.meaning c.args.cx.now in
    let n = g.I.Interner.meaning c.loop-obligation.cx in
    let p = g.I.Interner.meaning c.push_new.new.cx in
    let x = c.in-Some.obligation in
    let done = c.loop-obligation.yielded in
    let rest = c.next.new.self.rest.items in
    let whole = ap (λ z. done ++ z) (sym c.in-Some.ensures.steps.0) ∙ c.loop-obligation.invariant.1 in
    let k = middle_all (λ o. IsTrue (known (g.O.HasTree.tree m o))) done x rest
    (subst (All (λ o. IsTrue (known (g.O.HasTree.tree m o)))) (sym whole) c.requires.known) in
    listed_failed g.O.HasTree.tree g.O.HasTree.stays m n p done x c.args.list.now c.loop-obligation.list
    c.push_new.new.list (tt {0}) c.push_new.result k c.loop-obligation.invariant.0 c.push_new.ensures
    c.args.obligations.items rest c.in-Err.fault c.in-Err.fault (append_assoc done (x ∷ []) rest ∙ whole) c.in-Err.is
    refl

pub returns : goal.returns
returns g c =
    let m = g.I.Interner.meaning c.args.cx.now in
    let n = g.I.Interner.meaning c.loop-obligation.cx in
    let rest = c.loop-obligation.obligation-iterator.rest in
    let count = rest.ok in
    let none = c.in-None.ensures.steps.0 in
    listed_all g.O.HasTree.tree g.O.HasTree.stays m n c.args.obligations.items c.loop-obligation.yielded rest.items
    c.args.list.now c.loop-obligation.list (Ok (tt {0})) c.loop-obligation.invariant.1
    (nil_from_length rest.items (omega (arith, count, none))) c.loop-obligation.invariant.0
