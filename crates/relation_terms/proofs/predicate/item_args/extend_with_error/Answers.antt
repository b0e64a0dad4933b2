use Rattle.std.proofs.Common.{◌≡◌, ◌≤◌, ◌∙◌, ◌+◌, ◌++◌, IsTrue, sym, ap, subst, map, drop, length, arith}
use Rattle.relation_terms.specs.Trees.{known, list_tree}
use Rattle.relation_terms.specs.Meaning.{arg_tree}
use Rattle.relation_terms.specs.Owned.{param_of}
use Rattle.relation_terms.specs.Edits.{put_before, error_tree, error_trees}
use Rattle.relation_terms.proofs.Stays.{stays_same, extends_on, knows_as}
use Rattle.relation_terms.proofs.Members.{if_ok, known_with_last}
use Rattle.relation_terms.proofs.Edits.{stays_args, known_error}
use Rattle.relation_terms.proofs.Params.{stays_params, as_many, param_at, errors_next, errors_made}
use Rattle.relation_terms.proofs.predicate.item_args.extend_with_error.Goals as goal

pub loop-i-init : goal.loop-i-init
loop-i-init g c =
    let m = g.I.Interner.meaning c.args.cx.now in
    let ks = (m.tables).params (m.id (c.args.def_id.now).0) in
    let us = c.args.given.now in
    let all = c.in_ok-extend_from_slice.ensures.items ∙ ap (λ z. z ++ us) c.new-args.ensures.items in
    record {
      grown = stays_same m;
      sure = subst (λ z. IsTrue (known (list_tree (arg_tree m) z))) (sym all) c.requires;
      made = ap (λ z. put_before (list_tree (arg_tree m) z) (error_trees (drop (length us) ks))) all;
    }

pub offset_bounds-generics_of-i : goal.offset_bounds-generics_of-i
offset_bounds-generics_of-i g c =
    let m = g.I.Interner.meaning c.args.cx.now in
    let n = g.I.Interner.meaning c.loop-i.cx in
    let d = (c.args.def_id.now).0 in
    let ks = (m.tables).params (m.id d) in
    let a = as_many (param_of m) c.generics_of-count.result.now ks c.generics_of-count.ensures in
    let b = as_many (param_of n) c.generics_of.result.now ks
    (c.generics_of.ensures ∙ stays_params c.loop-i.invariant.grown d) in
    let t = c.loop-i-test.true in
    omega (arith, a, b, t)

pub loop-i-preserved : goal.loop-i-preserved
loop-i-preserved g c =
    let m = g.I.Interner.meaning c.args.cx.now in
    let n = g.I.Interner.meaning c.loop-i.cx in
    let o = g.I.Interner.meaning c.error_arg.new.cx in
    let e = c.loop-i.invariant.grown in
    let f = c.error_arg.ensures.grown in
    let d = (c.args.def_id.now).0 in
    let ks = (m.tables).params (m.id d) in
    let ps = c.generics_of.result.now in
    let p = c.index-generics_of-i.result in
    let k = param_of n p in
    let i = c.loop-i.i in
    let xs = c.loop-i.args.items in
    let x = c.in_ok-arg.arg in
    let a = as_many (param_of m) c.generics_of-count.result.now ks c.generics_of-count.ensures in
    let all : map (param_of n) ps ≡ ks = c.generics_of.ensures ∙ stays_params e d in
    let b = as_many (param_of n) ps ks all in
    let t = c.loop-i-test.true in
    let at = param_at (param_of n) ps ks i p all (omega (arith, a, b, t)) c.index-generics_of-i.is in
    let made : arg_tree o x ≡ error_tree k = c.in_ok-arg.ensures.made in
    let s = stays_args f xs c.loop-i.invariant.sure in
    let whole = put_before (list_tree (arg_tree m) c.args.given.now)
    (error_trees (drop (length c.args.given.now) ks)) in
    let pushed = c.in_ok-push.ensures.items in
    record {
      grown = extends_on e f;
      sure = subst (λ z. IsTrue (known (list_tree (arg_tree o) z))) (sym pushed)
          (known_with_last (arg_tree o) xs x
          (knows_as (list_tree (arg_tree n) xs) (list_tree (arg_tree o) xs) s c.loop-i.invariant.sure)
          (knows_as (error_tree k) (arg_tree o x) made (known_error k)));
      made = ap (λ z. put_before (list_tree (arg_tree o) z) (error_trees (drop (i + 1) ks))) pushed
          ∙ errors_next (arg_tree n) (arg_tree o) xs x i k ks whole s at made c.loop-i.invariant.made;
    }

pub returns-in_err-arg-clause-grown : goal.returns-in_err-arg-clause-grown
returns-in_err-arg-clause-grown g c = extends_on c.loop-i.invariant.grown c.error_arg.ensures.grown

pub returns-in_err-push-clause-grown : goal.returns-in_err-push-clause-grown
returns-in_err-push-clause-grown g c = extends_on c.loop-i.invariant.grown c.error_arg.ensures.grown

pub mk_args-requires : goal.mk_args-requires
mk_args-requires g c =
    let n = g.I.Interner.meaning c.loop-i.cx in
    subst (λ z. IsTrue (known (list_tree (arg_tree n) z))) (sym c.deref.ensures.value) c.loop-i.invariant.sure

pub returns-clause-grown : goal.returns-clause-grown
returns-clause-grown g c = extends_on c.loop-i.invariant.grown c.mk_args.ensures.grown

pub returns-clause-arguments : goal.returns-clause-arguments
returns-clause-arguments g c =
    let m = g.I.Interner.meaning c.args.cx.now in
    let n = g.I.Interner.meaning c.loop-i.cx in
    let ks = (m.tables).params (m.id (c.args.def_id.now).0) in
    let i = c.loop-i.i in
    let xs = c.loop-i.args.items in
    let a = as_many (param_of m) c.generics_of-count.result.now ks c.generics_of-count.ensures in
    let t = c.loop-i-test.false in
    let h : length ks ≤ i = omega (arith, a, t) in
    let whole = put_before (list_tree (arg_tree m) c.args.given.now)
    (error_trees (drop (length c.args.given.now) ks)) in
    let made = errors_made (arg_tree n) xs i ks whole h c.loop-i.invariant.made in
    if_ok c.mk_args.result
    (λ k q. q ∙ ap (list_tree (arg_tree n)) c.deref.ensures.value ∙ made) c.mk_args.ensures.made
