use Rattle.std.proofs.Common.{◌≡◌, ◌∙◌, ◌∷◌, [], ap, sym, subst, IsTrue, IfSome, Some, None, List}
use Rattle.std.specs.List.{filter_map}
use Rattle.std.specs.Option.{option_map}
use Rattle.relation_terms.specs.Trees.{Tree, known}
use Rattle.relation_terms.specs.Meaning.{arg_tree}
use Rattle.relation_terms.proofs.Stays.{knows_region}
use Rattle.outlives_assumptions.specs.Assuming.{argument_of, pair_of}
use Rattle.outlives.proofs.Meeting.{ok_map}
use Rattle.outlives_assumptions.proofs.Assumptions.{gains_grown, gains_after, gains_as, pairs_some, pairs_none, same_as}
use Rattle.outlives_assumptions.proofs.assuming.add_component.Goals as goal

pub assumed_argument-requires : goal.assumed_argument-requires
assumed_argument-requires g c = c.requires.component

pub assume-requires-clause-known : goal.assume-requires-clause-known
assume-requires-clause-known g c =
    let n = g.I.Interner.meaning c.assumed_argument.new.cx in (
      subst (λ o. IfSome o (λ a. IsTrue (known (arg_tree n a)))) c.in-Some.is c.in_ok-found.ensures.sure,
      knows_region c.assumed_argument.ensures.grown c.args.region.now c.requires.region,
    )

pub assume-requires-clause-sure : goal.assume-requires-clause-sure
assume-requires-clause-sure g c = (gains_grown c.assumed_argument.ensures.grown c.args.collected.now.keys c.requires.sure).0

pub returns-in-Some-clause-grown : goal.returns-in-Some-clause-grown
returns-in-Some-clause-grown g c = c.assumed_argument.ensures.grown

pub returns-in-Some-clause-gains : goal.returns-in-Some-clause-gains
returns-in-Some-clause-gains g c =
    let m = g.I.Interner.meaning c.args.cx.now in
    let n = g.I.Interner.meaning c.assumed_argument.new.cx in
    let e = c.assumed_argument.ensures.grown in
    let xs = c.args.collected.now.keys in
    let zs = c.assume.new.collected.keys in
    let r = c.args.region.now in
    let t = arg_tree n c.in-Some.arg in
    let one : List (Tree × Tree) = (t, n.region r) ∷ [] in
    let gives : Some t ≡ argument_of m c.args.component.now =
    sym (ap (option_map (arg_tree n)) c.in-Some.is) ∙ c.in_ok-found.ensures.is in
    let pairs = pairs_some m c.args.component.now (m.region r) t (n.region r) gives (e.region r c.requires.region) in
    let all = filter_map (pair_of m (m.region r)) (c.args.component.now ∷ []) in
    ok_map c.assume.result
    (λ h. gains_as m n xs zs one all (same_as one all pairs)
    (gains_after m n n xs xs zs [] one (gains_grown e xs c.requires.sure) h))
    c.assume.ensures

pub returns-in-None-clause-grown : goal.returns-in-None-clause-grown
returns-in-None-clause-grown g c = c.assumed_argument.ensures.grown

pub returns-in-None-clause-gains : goal.returns-in-None-clause-gains
returns-in-None-clause-gains g c =
    let m = g.I.Interner.meaning c.args.cx.now in
    let n = g.I.Interner.meaning c.assumed_argument.new.cx in
    let xs = c.args.collected.now.keys in
    let r = c.args.region.now in
    let none : None ≡ argument_of m c.args.component.now =
    sym (ap (option_map (arg_tree n)) c.in-None.is) ∙ c.in_ok-found.ensures.is in
    let all = filter_map (pair_of m (m.region r)) (c.args.component.now ∷ []) in
    gains_as m n xs xs [] all (same_as [] all (pairs_none m c.args.component.now (m.region r) none))
    (gains_grown c.assumed_argument.ensures.grown xs c.requires.sure)
