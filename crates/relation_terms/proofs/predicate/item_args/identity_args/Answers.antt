use Rattle.std.proofs.Common.{◌≡◌, ◌≤◌, ◌∙◌, ◌+◌, IsTrue, refl, sym, ap, subst, map, drop, length, arith}
use Rattle.relation_terms.specs.Trees.{known, list_tree}
use Rattle.relation_terms.specs.Meaning.{arg_tree}
use Rattle.relation_terms.specs.Owned.{param_of}
use Rattle.relation_terms.specs.Edits.{put_before, param_tree, params_from}
use Rattle.relation_terms.proofs.Stays.{stays_same, extends_on, knows_as}
use Rattle.relation_terms.proofs.Members.{if_ok, known_with_last}
use Rattle.relation_terms.proofs.Edits.{stays_args, known_param}
use Rattle.relation_terms.proofs.Params.{stays_params, as_many, param_at, identity_next, identity_made}
use Rattle.relation_terms.proofs.predicate.item_args.identity_args.Goals as goal

pub loop-i-init : goal.loop-i-init
loop-i-init g c =
    let m = g.I.Interner.meaning c.args.cx.now in
    let ks = (m.tables).params (m.id (c.args.def_id.now).0) in
    record {
      grown = stays_same m;
      sure = subst (λ z. IsTrue (known (list_tree (arg_tree m) z))) (sym c.new-args.ensures.items) refl;
      made = ap (λ z. put_before (list_tree (arg_tree m) z) (params_from 0 ks)) c.new-args.ensures.items;
    }

pub offset_bounds-generics_of-i : goal.offset_bounds-generics_of-i
offset_bounds-generics_of-i g c =
    let m = g.I.Interner.meaning c.args.cx.now in
    let n = g.I.Interner.meaning c.loop-i.cx in
    let d = (c.args.def_id.now).0 in
    let ks = (m.tables).params (m.id d) in
    let a = as_many (param_of m) c.generics_of-count.result.now ks c.generics_of-count.ensures in
    let b = as_many (param_of n) c.generics_of.result.now ks
    (c.generics_of.ensures ∙ stays_params c.loop-i.invariant.grown d) in
    let t = c.loop-i-test.true in
    omega (arith, a, b, t)

pub loop-i-preserved : goal.loop-i-preserved
loop-i-preserved g c =
    let m = g.I.Interner.meaning c.args.cx.now in
    let n = g.I.Interner.meaning c.loop-i.cx in
    let o = g.I.Interner.meaning c.param_arg.new.cx in
    let e = c.loop-i.invariant.grown in
    let f = c.param_arg.ensures.grown in
    let d = (c.args.def_id.now).0 in
    let ks = (m.tables).params (m.id d) in
    let ps = c.generics_of.result.now in
    let p = c.index-generics_of-i.result in
    let k = param_of n p in
    let i = c.loop-i.i in
    let xs = c.loop-i.args.items in
    let x = c.in_ok-arg.arg in
    let a = as_many (param_of m) c.generics_of-count.result.now ks c.generics_of-count.ensures in
    let all : map (param_of n) ps ≡ ks = c.generics_of.ensures ∙ stays_params e d in
    let b = as_many (param_of n) ps ks all in
    let t = c.loop-i-test.true in
    let at = param_at (param_of n) ps ks i p all (omega (arith, a, b, t)) c.index-generics_of-i.is in
    let made : arg_tree o x ≡ param_tree i k =
    c.in_ok-arg.ensures.made ∙ ap (λ j. param_tree j k) c.in_ok-index.ensures in
    let s = stays_args f xs c.loop-i.invariant.sure in
    let pushed = c.in_ok-push.ensures.items in
    record {
      grown = extends_on e f;
      sure = subst (λ z. IsTrue (known (list_tree (arg_tree o) z))) (sym pushed)
          (known_with_last (arg_tree o) xs x
          (knows_as (list_tree (arg_tree n) xs) (list_tree (arg_tree o) xs) s c.loop-i.invariant.sure)
          (knows_as (param_tree i k) (arg_tree o x) made (known_param i k)));
      made = ap (λ z. put_before (list_tree (arg_tree o) z) (params_from (i + 1) (drop (i + 1) ks))) pushed
          ∙ identity_next (arg_tree n) (arg_tree o) xs x i k ks (params_from 0 ks) s at made c.loop-i.invariant.made;
    }

pub returns-in_err-index-clause-grown : goal.returns-in_err-index-clause-grown
returns-in_err-index-clause-grown g c = c.loop-i.invariant.grown

pub returns-in_err-arg-clause-grown : goal.returns-in_err-arg-clause-grown
returns-in_err-arg-clause-grown g c = extends_on c.loop-i.invariant.grown c.param_arg.ensures.grown

pub returns-in_err-push-clause-grown : goal.returns-in_err-push-clause-grown
returns-in_err-push-clause-grown g c = extends_on c.loop-i.invariant.grown c.param_arg.ensures.grown

pub mk_args-requires : goal.mk_args-requires
mk_args-requires g c =
    let n = g.I.Interner.meaning c.loop-i.cx in
    subst (λ z. IsTrue (known (list_tree (arg_tree n) z))) (sym c.deref.ensures.value) c.loop-i.invariant.sure

pub returns-clause-grown : goal.returns-clause-grown
returns-clause-grown g c = extends_on c.loop-i.invariant.grown c.mk_args.ensures.grown

pub returns-clause-arguments : goal.returns-clause-arguments
returns-clause-arguments g c =
    let m = g.I.Interner.meaning c.args.cx.now in
    let n = g.I.Interner.meaning c.loop-i.cx in
    let ks = (m.tables).params (m.id (c.args.def_id.now).0) in
    let i = c.loop-i.i in
    let xs = c.loop-i.args.items in
    let a = as_many (param_of m) c.generics_of-count.result.now ks c.generics_of-count.ensures in
    let t = c.loop-i-test.false in
    let h : length ks ≤ i = omega (arith, a, t) in
    let made = identity_made (arg_tree n) xs i ks (params_from 0 ks) h c.loop-i.invariant.made in
    if_ok c.mk_args.result
    (λ k q. q ∙ ap (list_tree (arg_tree n)) c.deref.ensures.value ∙ made) c.mk_args.ensures.made
