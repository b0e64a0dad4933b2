use Rattle.std.proofs.Common.{◌≡◌, ◌+◌, ◌<◌, ◌≤◌, suc, refl, sym, ap, ◌∙◌, subst, arith, length, map, IsTrue}
use Rattle.std.specs.Prelude.{IsSome, Some, slice_get}
use Rattle.std.proofs.lemmas.List.{take_all}
use Rattle.relation_terms.specs.Trees.{known, list_tree}
use Rattle.relation_terms.specs.Meaning.{arg_tree, bound_kind_of}
use Rattle.relation_terms.proofs.Stays.{stays_same, extends_on}
use Rattle.relation_semantics.specs.Binders.{kinds_in}
use Rattle.relation_semantics.specs.Binders.{placeholders_from}
use Rattle.relation_reference.proofs.Binders.{placeholders_next, args_next, args_known}
use Rattle.relation_reference.proofs.context.binders.placeholders.Goals as goal

pub loop-place-init : goal.loop-place-init
loop-place-init g c =
    let m = g.I.Interner.meaning c.args.cx.now in
    record {
      grown = stays_same m;
      sure = subst (λ xs. IsTrue (known (list_tree (arg_tree m) xs))) (sym c.new-args.ensures.items) refl;
      made = ap (map (arg_tree m)) c.new-args.ensures.items;
    }

pub variable_at-variable-requires : goal.variable_at-variable-requires
variable_at-variable-requires g c =
    let m = g.I.Interner.meaning c.args.cx.now in
    let n = g.I.Interner.meaning c.loop-place.cx in
    let k = c.args.bound_vars.now in
    let e : n.bound_vars k ≡ m.bound_vars k = (c.loop-place.invariant.grown).bound_vars k c.requires in
    let counted = c.count_of-place-end.ensures in
    let test = c.loop-place-test.true in
    let below : c.loop-place.place < length (kinds_in (m.bound_vars k)) = omega (arith, counted, test) in
    record {
      known = subst IsSome (sym e) c.requires;
      there = subst (λ o. c.loop-place.place < length (kinds_in o)) (sym e) below;
    }

pub returns-in_err-arg-clause-grown : goal.returns-in_err-arg-clause-grown
returns-in_err-arg-clause-grown g c = extends_on c.loop-place.invariant.grown c.in_err-arg.ensures.grown

pub returns-in_err-push-clause-grown : goal.returns-in_err-push-clause-grown
returns-in_err-push-clause-grown g c = extends_on c.loop-place.invariant.grown c.in_ok-arg.ensures.grown

pub loop-place-preserved : goal.loop-place-preserved
loop-place-preserved g c =
    let m = g.I.Interner.meaning c.args.cx.now in
    let n = g.I.Interner.meaning c.loop-place.cx in
    let o = g.I.Interner.meaning c.placeholder.new.cx in
    let k = c.args.bound_vars.now in
    let v = c.variable_at-variable.result in
    let i = c.loop-place.place in
    let xs = c.loop-place.args.items in
    let y = c.in_ok-arg.arg in
    let r = c.in_ok-arg.ensures in
    let before = c.loop-place.invariant in
    let e : n.bound_vars k ≡ m.bound_vars k = (before.grown).bound_vars k c.requires in
    let next : i + 1 ≡ suc i = omega arith in
    let at : slice_get (kinds_in (m.bound_vars k)) i ≡ Some (bound_kind_of n v) =
    ap (λ z. slice_get (kinds_in z) i) (sym e) ∙ c.variable_at-variable.ensures in
    record {
      grown = extends_on before.grown r.grown;
      sure = args_known r.grown xs _ y c.in_ok-push.ensures.items before.sure r.sure;
      made = placeholders_next (c.args.universe).0 i (i + 1) (kinds_in (m.bound_vars k)) (bound_kind_of n v)
          (map (arg_tree n) xs) _ (arg_tree o y) next at before.made
          (args_next r.grown xs _ y c.in_ok-push.ensures.items before.sure) r.made;
    }

pub returns-clause-made : goal.returns-clause-made
returns-clause-made g c =
    let m = g.I.Interner.meaning c.args.cx.now in
    let ks = kinds_in (m.bound_vars c.args.bound_vars.now) in
    let counted = c.count_of-place-end.ensures in
    let test = c.loop-place-test.false in
    let all : length ks ≤ c.loop-place.place = omega (arith, counted, test) in
    c.loop-place.invariant.made ∙ ap (placeholders_from (c.args.universe).0 0) (take_all c.loop-place.place ks all)
