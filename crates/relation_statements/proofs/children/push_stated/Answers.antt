use Rattle.std.proofs.Common.{◌∙◌, ◌∷◌, [], refl, sym, subst, arith, take, Ok}
use Rattle.relation_terms.specs.Clauses.{trait_clause_tree}
use Rattle.relation_terms.proofs.Stays.{stays_same}
use Rattle.relation_statements.specs.Children.{children, mode_of}
use Rattle.relation_statements.specs.Statements.{statements}
use Rattle.elaboration_worklist.specs.Kept.{Pushed}
use Rattle.relation_statements.proofs.Making.{trait_left, trait_count, trait_child}
use Rattle.elaboration_worklist.proofs.Worklists.{pushed_empty, pushed_first, pushed_lost, pushed_next, pushed_failed}
use Rattle.elaboration_worklist.proofs.Worklists.{pushed_end}
use Rattle.relation_statements.proofs.children.push_stated.Goals as goal

pub returns-then-implies_nothing : goal.returns-then-implies_nothing
returns-then-implies_nothing g c =
    let m = g.I.Interner.meaning c.args.cx.now in
    let p = c.args.parent.now in
    pushed_empty g.O.HasTree.tree g.O.HasTree.stays m (stays_same m)
    (children (statements m) (mode_of c.args.mode.0 c.args.mode.1) (trait_clause_tree m p)) c.args.list.now tt
    (trait_left (statements m) c.args.mode.0 c.args.mode.1 (m.bound_vars p.bound_vars) (p.value).polarity
    (m.id (((p.value).trait_ref).def_id).0) (m.args ((p.value).trait_ref).args)
    (sym c.implies_nothing.ensures ∙ c.if-implies_nothing.true)) c.requires.kept

pub loop-index-init : goal.loop-index-init
loop-index-init g c =
    let m = g.I.Interner.meaning c.args.cx.now in
    pushed_first g.O.HasTree.tree g.O.HasTree.stays m (stays_same m)
    (children (statements m) (mode_of c.args.mode.0 c.args.mode.1) (trait_clause_tree m c.args.parent.now))
    c.args.list.now tt c.requires.kept

pub loop-index-preserved : goal.loop-index-preserved
loop-index-preserved g c =
    let laws = g.met.I.Interner in
    let first = c.args.cx.now in
    let old = c.loop-index.cx in
    let m = g.I.Interner.meaning first in
    let n = g.I.Interner.meaning old in
    let o = g.I.Interner.meaning c.instantiate_supertrait.new.cx in
    let p = c.args.parent.now in
    let met = c.loop-index.invariant in
    let only = c.args.mode.0 in
    let sized = c.args.mode.1 in
    let cs = children (statements m) (mode_of only sized) (trait_clause_tree m p) in
    let goes = sym c.implies_nothing.ensures ∙ c.if-implies_nothing.false in
    let e = c.in_ok-clause.ensures.grown in
    let i = c.loop-index.index in
    let test = c.loop-index-test.true in
    let count = c.stated_count-count.ensures in
    let k = c.requires.known in
    let child = c.child_with_derived_cause-child.result in
    let many = trait_count m n met.grown (laws.states first) only sized p k goes in
    pushed_next g.O.HasTree.tree g.O.HasTree.stays m n o (g.I.Interner.meaning c.push_new.new.cx) cs i
    (g.O.HasTree.tree o child) c.args.list.now c.loop-index.list c.push_new.new.list tt (Ok tt)
    (omega (arith, test, count, many))
    (trait_child m n met.grown (laws.states first) only sized p k goes i (n.clause (c.stated_at-clause.result).0)
    (g.O.HasTree.tree o child) (omega (arith, test, count)) c.stated_at-clause.ensures.is
    (λ ks there. c.child_with_derived_cause-child.ensures o ∙ c.in_ok-clause.ensures.made ks there))
    met e (subst (λ r. Pushed g.O.HasTree.tree o (g.I.Interner.meaning c.push_new.new.cx)
    (g.O.HasTree.tree o child ∷ [])
    c.loop-index.list c.push_new.new.list r) c.in-Ok.is c.push_new.ensures)

pub returns-in-Err : goal.returns-in-Err
returns-in-Err g c =
    let laws = g.met.I.Interner in
    let first = c.args.cx.now in
    let old = c.loop-index.cx in
    let m = g.I.Interner.meaning first in
    let n = g.I.Interner.meaning old in
    let o = g.I.Interner.meaning c.instantiate_supertrait.new.cx in
    let p = c.args.parent.now in
    let met = c.loop-index.invariant in
    let only = c.args.mode.0 in
    let sized = c.args.mode.1 in
    let cs = children (statements m) (mode_of only sized) (trait_clause_tree m p) in
    let goes = sym c.implies_nothing.ensures ∙ c.if-implies_nothing.false in
    let e = c.in_ok-clause.ensures.grown in
    let i = c.loop-index.index in
    let test = c.loop-index-test.true in
    let count = c.stated_count-count.ensures in
    let k = c.requires.known in
    let child = c.child_with_derived_cause-child.result in
    let many = trait_count m n met.grown (laws.states first) only sized p k goes in
    pushed_failed g.O.HasTree.tree g.O.HasTree.stays m n o (g.I.Interner.meaning c.push_new.new.cx) cs i
    (g.O.HasTree.tree o child) c.args.list.now c.loop-index.list c.push_new.new.list tt c.push_new.result
    (omega (arith, test, count, many))
    (trait_child m n met.grown (laws.states first) only sized p k goes i (n.clause (c.stated_at-clause.result).0)
    (g.O.HasTree.tree o child) (omega (arith, test, count)) c.stated_at-clause.ensures.is
    (λ ks there. c.child_with_derived_cause-child.ensures o ∙ c.in_ok-clause.ensures.made ks there))
    met e c.push_new.ensures c.in-Err.fault c.in-Err.fault c.in-Err.is refl

pub returns-in_err-clause : goal.returns-in_err-clause
returns-in_err-clause g c =
    let m = g.I.Interner.meaning c.args.cx.now in
    let cs = children (statements m) (mode_of c.args.mode.0 c.args.mode.1) (trait_clause_tree m c.args.parent.now) in
    pushed_lost g.O.HasTree.tree g.O.HasTree.stays m (g.I.Interner.meaning c.loop-index.cx)
    (g.I.Interner.meaning c.instantiate_supertrait.new.cx) (take c.loop-index.index cs) cs c.args.list.now
    c.loop-index.list tt c.from_residual.result c.loop-index.invariant c.instantiate_supertrait.ensures.grown
    c.from_residual.ensures.0 c.from_residual.ensures.1

pub returns : goal.returns
returns g c =
    let m = g.I.Interner.meaning c.args.cx.now in
    let p = c.args.parent.now in
    let only = c.args.mode.0 in
    let sized = c.args.mode.1 in
    let goes = sym c.implies_nothing.ensures ∙ c.if-implies_nothing.false in
    let test = c.loop-index-test.false in
    let count = c.stated_count-count.ensures in
    let many = trait_count m m (stays_same m) (g.met.I.Interner.states c.args.cx.now) only sized p c.requires.known
    goes in
    pushed_end g.O.HasTree.tree g.O.HasTree.stays m (g.I.Interner.meaning c.loop-index.cx)
    (children (statements m) (mode_of only sized) (trait_clause_tree m p)) c.loop-index.index c.args.list.now
    c.loop-index.list (Ok tt) (omega (arith, test, count, many)) c.loop-index.invariant
