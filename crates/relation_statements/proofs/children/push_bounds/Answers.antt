use Rattle.std.proofs.Common.{◌∙◌, ◌∷◌, [], refl, ap, subst, arith, length, take, Ok, false}
use Rattle.relation_terms.specs.Owned.{bound_tree}
use Rattle.relation_terms.proofs.Stays.{stays_same, extends_on, knows_as}
use Rattle.relation_statements.specs.Children.{children, effect_of, mode_of}
use Rattle.relation_statements.specs.Statements.{statements}
use Rattle.elaboration_worklist.specs.Kept.{Pushed}
use Rattle.relation_statements.proofs.Growing.{stays_bound}
use Rattle.relation_statements.proofs.Making.{bound_child, bound_count, map_length}
use Rattle.elaboration_worklist.proofs.Worklists.{kept_on, pushed_first, pushed_lost, pushed_next, pushed_failed}
use Rattle.elaboration_worklist.proofs.Worklists.{pushed_end}
use Rattle.relation_statements.proofs.children.push_bounds.Goals as goal

pub loop-index-init : goal.loop-index-init
loop-index-init g c =
    let m = g.I.Interner.meaning c.args.cx.now in
    pushed_first g.O.HasTree.tree g.O.HasTree.stays m (stays_same m)
    (children (statements m) (mode_of false false) (effect_of c.args.constness (bound_tree m c.args.trait_ref.now)))
    c.args.list.now tt c.requires.kept

pub returns-in_err-clause : goal.returns-in_err-clause
returns-in_err-clause g c =
    let m = g.I.Interner.meaning c.args.cx.now in
    let cs = children (statements m) (mode_of false false) (effect_of c.args.constness
    (bound_tree m c.args.trait_ref.now)) in
    pushed_lost g.O.HasTree.tree g.O.HasTree.stays m (g.I.Interner.meaning c.loop-index.cx)
    (g.I.Interner.meaning c.effect_clause.new.cx) (take c.loop-index.index cs) cs c.args.list.now
    c.loop-index.list tt c.from_residual.result c.loop-index.invariant c.effect_clause.ensures.grown
    c.from_residual.ensures.0 c.from_residual.ensures.1

pub instantiate_supertrait-requires-clause-trait_ref : goal.instantiate_supertrait-requires-clause-trait_ref
instantiate_supertrait-requires-clause-trait_ref g c =
    let m = g.I.Interner.meaning c.args.cx.now in
    let n = g.I.Interner.meaning c.effect_clause.new.cx in
    let b = c.args.trait_ref.now in
    knows_as (bound_tree m b) (bound_tree n b)
    (stays_bound (extends_on c.loop-index.invariant.grown c.effect_clause.ensures.grown) b c.requires.known)
    c.requires.known

pub returns-in_err-clause-2 : goal.returns-in_err-clause-2
returns-in_err-clause-2 g c =
    let m = g.I.Interner.meaning c.args.cx.now in
    let cs = children (statements m) (mode_of false false) (effect_of c.args.constness
    (bound_tree m c.args.trait_ref.now)) in
    pushed_lost g.O.HasTree.tree g.O.HasTree.stays m (g.I.Interner.meaning c.loop-index.cx)
    (g.I.Interner.meaning c.instantiate_supertrait.new.cx) (take c.loop-index.index cs) cs c.args.list.now
    c.loop-index.list tt c.from_residual-in_err-clause-2.result c.loop-index.invariant
    (extends_on c.effect_clause.ensures.grown c.instantiate_supertrait.ensures.grown)
    c.from_residual-in_err-clause-2.ensures.0 c.from_residual-in_err-clause-2.ensures.1

pub push_new-requires-clause-kept : goal.push_new-requires-clause-kept
push_new-requires-clause-kept g c =
    let w = c.loop-index.list in
    kept_on g.O.HasTree.tree g.O.HasTree.stays
    (extends_on c.effect_clause.ensures.grown c.instantiate_supertrait.ensures.grown) w.stack.items w.visited.keys
    w.limit
    c.loop-index.invariant.kept

pub returns-in-Err : goal.returns-in-Err
returns-in-Err g c =
    let laws = g.met.I.Interner in
    let m = g.I.Interner.meaning c.args.cx.now in
    let n = g.I.Interner.meaning c.loop-index.cx in
    let o = g.I.Interner.meaning c.effect_clause.new.cx in
    let q = g.I.Interner.meaning c.instantiate_supertrait.new.cx in
    let b = c.args.trait_ref.now in
    let s = c.args.constness in
    let mode = mode_of false false in
    let own = laws.states c.args.cx.now in
    let e = c.loop-index.invariant.grown in
    let cs = children (statements m) mode (effect_of s (bound_tree m b)) in
    let i = c.loop-index.index in
    let test = c.loop-index-test.true in
    let count = ap length c.explicit_implied_const_bounds-count.ensures in
    let many = bound_count m n e own s b c.requires.known mode in
    let same = map_length (bound_tree m) ((m.tables).const_bounds (m.id ((b.value).def_id).0)) in
    let child = c.child.result in
    pushed_failed g.O.HasTree.tree g.O.HasTree.stays m n q (g.I.Interner.meaning c.push_new.new.cx) cs i
    (g.O.HasTree.tree q child) c.args.list.now c.loop-index.list c.push_new.new.list tt c.push_new.result
    (omega (arith, test, count, many))
    (bound_child m n e own s b c.requires.known mode i (bound_tree n c.bound_at-bound.result)
    (o.clause c.in_ok-clause.clause) (g.O.HasTree.tree q child) o c.effect_clause.ensures.grown
    (omega (arith, test, count, same)) c.bound_at-bound.ensures.is c.in_ok-clause.ensures.made
    (λ ks there. c.child.ensures q ∙ c.in_ok-clause-2.ensures.made ks there))
    c.loop-index.invariant (extends_on c.effect_clause.ensures.grown c.instantiate_supertrait.ensures.grown)
    c.push_new.ensures c.in-Err.fault c.in-Err.fault c.in-Err.is refl

pub loop-index-preserved : goal.loop-index-preserved
loop-index-preserved g c =
    let laws = g.met.I.Interner in
    let m = g.I.Interner.meaning c.args.cx.now in
    let n = g.I.Interner.meaning c.loop-index.cx in
    let o = g.I.Interner.meaning c.effect_clause.new.cx in
    let q = g.I.Interner.meaning c.instantiate_supertrait.new.cx in
    let b = c.args.trait_ref.now in
    let s = c.args.constness in
    let mode = mode_of false false in
    let own = laws.states c.args.cx.now in
    let e = c.loop-index.invariant.grown in
    let cs = children (statements m) mode (effect_of s (bound_tree m b)) in
    let i = c.loop-index.index in
    let test = c.loop-index-test.true in
    let count = ap length c.explicit_implied_const_bounds-count.ensures in
    let many = bound_count m n e own s b c.requires.known mode in
    let same = map_length (bound_tree m) ((m.tables).const_bounds (m.id ((b.value).def_id).0)) in
    let child = c.child.result in
    pushed_next g.O.HasTree.tree g.O.HasTree.stays m n q (g.I.Interner.meaning c.push_new.new.cx) cs i
    (g.O.HasTree.tree q child) c.args.list.now c.loop-index.list c.push_new.new.list tt (Ok tt)
    (omega (arith, test, count, many))
    (bound_child m n e own s b c.requires.known mode i (bound_tree n c.bound_at-bound.result)
    (o.clause c.in_ok-clause.clause) (g.O.HasTree.tree q child) o c.effect_clause.ensures.grown
    (omega (arith, test, count, same)) c.bound_at-bound.ensures.is c.in_ok-clause.ensures.made
    (λ ks there. c.child.ensures q ∙ c.in_ok-clause-2.ensures.made ks there))
    c.loop-index.invariant (extends_on c.effect_clause.ensures.grown c.instantiate_supertrait.ensures.grown)
    (subst (λ r. Pushed g.O.HasTree.tree q (g.I.Interner.meaning c.push_new.new.cx) (g.O.HasTree.tree q child ∷ [])
    c.loop-index.list c.push_new.new.list r) c.in-Ok.is c.push_new.ensures)

pub returns : goal.returns
returns g c =
    let m = g.I.Interner.meaning c.args.cx.now in
    let b = c.args.trait_ref.now in
    let s = c.args.constness in
    let mode = mode_of false false in
    let test = c.loop-index-test.false in
    let count = ap length c.explicit_implied_const_bounds-count.ensures in
    let many = bound_count m m (stays_same m) (g.met.I.Interner.states c.args.cx.now) s b c.requires.known mode in
    pushed_end g.O.HasTree.tree g.O.HasTree.stays m (g.I.Interner.meaning c.loop-index.cx)
    (children (statements m) mode (effect_of s (bound_tree m b))) c.loop-index.index c.args.list.now
    c.loop-index.list (Ok tt) (omega (arith, test, count, many)) c.loop-index.invariant
