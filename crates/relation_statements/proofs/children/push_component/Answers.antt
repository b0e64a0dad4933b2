use Rattle.std.proofs.Common.{◌≡◌, ◌∙◌, ◌∷◌, [], sym, ap, subst, Some, None, IfSome, IsTrue}
use Rattle.std.specs.List.{filter_map}
use Rattle.std.specs.Option.{option_map}
use Rattle.relation_terms.specs.Trees.{known}
use Rattle.relation_terms.specs.Meaning.{arg_tree}
use Rattle.relation_terms.proofs.Stays.{stays_same, extends_on}
use Rattle.outlives_assumptions.specs.Assuming.{argument_of}
use Rattle.relation_statements.specs.Statements.{component_implied, outlives_tree}
use Rattle.elaboration_worklist.specs.Kept.{Pushed}
use Rattle.relation_statements.proofs.Making.{none_implied, never_none, one_implied}
use Rattle.elaboration_worklist.proofs.Worklists.{kept_on, pushed_start, pushed_still, pushed_lost, pushed_then}
use Rattle.relation_statements.proofs.children.push_component.Goals as goal

pub returns-in_default : goal.returns-in_default
returns-in_default g c =
    let m = g.I.Interner.meaning c.args.cx.now in
    let n = g.I.Interner.meaning c.assumed_argument.new.cx in
    let b = c.args.bound_vars.now in
    let r = c.args.region.now in
    let x = c.args.component.now in
    pushed_still g.O.HasTree.tree g.O.HasTree.stays m n c.assumed_argument.ensures.grown
    (filter_map (component_implied m b r) (x ∷ [])) c.args.list.now tt
    (none_implied m n b r x c.in_ok-arg.field-0 c.in_default.not-Some c.in_ok-arg.ensures.is) c.requires.kept

pub returns-in_err-clause : goal.returns-in_err-clause
returns-in_err-clause g c =
    let m = g.I.Interner.meaning c.args.cx.now in
    let o = g.I.Interner.meaning c.outlives_clause.new.cx in
    let w = c.args.list.now in
    pushed_lost g.O.HasTree.tree g.O.HasTree.stays m m o []
    (filter_map (component_implied m c.args.bound_vars.now c.args.region.now) (c.args.component.now ∷ [])) w w (tt {0})
    c.from_residual-in_err-clause.result
    (pushed_start g.O.HasTree.tree g.O.HasTree.stays m (stays_same m) w (tt {0}) c.requires.kept)
    (extends_on c.assumed_argument.ensures.grown c.outlives_clause.ensures.grown)
    c.from_residual-in_err-clause.ensures.0 c.from_residual-in_err-clause.ensures.1

pub returns-in_default-2 : goal.returns-in_default-2
returns-in_default-2 g c =
    let laws = g.met.I.Interner in
    let m = g.I.Interner.meaning c.args.cx.now in
    let n = g.I.Interner.meaning c.assumed_argument.new.cx in
    let o = g.I.Interner.meaning c.outlives_clause.new.cx in
    let b = c.args.bound_vars.now in
    let r = c.args.region.now in
    let x = c.args.component.now in
    let sure = subst (λ z. IfSome z (λ a. IsTrue (known (arg_tree n a)))) c.in-Some.is c.in_ok-arg.ensures.sure in
    let gives : Some (arg_tree n c.in-Some.arg) ≡ argument_of m x =
    sym (ap (option_map (arg_tree n)) c.in-Some.is) ∙ c.in_ok-arg.ensures.is in
    let none : None ≡ outlives_tree n b r c.in-Some.arg =
    sym (ap (option_map o.clause) c.in_default-2.is) ∙ c.in_ok-clause.ensures.made in
    absurd (never_none m n (laws.sorted c.args.cx.now) (laws.sorted c.assumed_argument.new.cx) b r x c.in-Some.arg
    c.requires.component sure gives none)

pub push_new-requires-clause-kept : goal.push_new-requires-clause-kept
push_new-requires-clause-kept g c =
    let w = c.args.list.now in
    kept_on g.O.HasTree.tree g.O.HasTree.stays
    (extends_on c.assumed_argument.ensures.grown c.outlives_clause.ensures.grown) w.stack.items w.visited.keys w.limit
    c.requires.kept

pub returns : goal.returns
returns g c =
    let m = g.I.Interner.meaning c.args.cx.now in
    let n = g.I.Interner.meaning c.assumed_argument.new.cx in
    let o = g.I.Interner.meaning c.outlives_clause.new.cx in
    let p = g.I.Interner.meaning c.push_new.new.cx in
    let b = c.args.bound_vars.now in
    let r = c.args.region.now in
    let x = c.args.component.now in
    let w = c.args.list.now in
    let v = c.push_new.new.list in
    let t = g.O.HasTree.tree o c.child.result in
    let e = c.assumed_argument.ensures.grown in
    let gives : Some (arg_tree n c.in-Some.arg) ≡ argument_of m x =
    sym (ap (option_map (arg_tree n)) c.in-Some.is) ∙ c.in_ok-arg.ensures.is in
    let made : Some t ≡ outlives_tree n b r c.in-Some.arg =
    ap (λ z. Some z) (c.child.ensures o) ∙ sym (ap (option_map o.clause) c.in-Some-2.is) ∙ c.in_ok-clause.ensures.made
    in
    subst (λ z. Pushed g.O.HasTree.tree m p z w v c.push_new.result)
    (one_implied m n e b r x c.in-Some.arg t c.requires.bound_vars c.requires.region gives made)
    (pushed_then g.O.HasTree.tree g.O.HasTree.stays {m = m} {n = m} {o = o} {p = p} [] (t ∷ []) w w v (tt {0})
    c.push_new.result (pushed_start g.O.HasTree.tree g.O.HasTree.stays m (stays_same m) w (tt {0}) c.requires.kept)
    (extends_on e c.outlives_clause.ensures.grown) c.push_new.ensures)
