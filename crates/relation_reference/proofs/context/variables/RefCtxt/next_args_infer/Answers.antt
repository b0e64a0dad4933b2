use Rattle.std.proofs.Common.{◌≡◌, ◌+◌, ◌<◌, ◌≤◌, suc, refl, sym, ap, ◌∙◌, subst, arith, length, map, take, IsTrue}
use Rattle.std.specs.Prelude.{IsSome, Some, slice_get}
use Rattle.std.proofs.lemmas.List.{take_all}
use Rattle.relation_terms.specs.Trees.{known, list_tree}
use Rattle.relation_terms.specs.Meaning.{arg_tree, bound_kind_of}
use Rattle.relation_terms.proofs.Stays.{stays_same, extends_on}
use Rattle.relation_semantics.specs.Binders.{kinds_in, MakesEach}
use Rattle.relation_reference.specs.RefCtxt.{store_in, context_in}
use Rattle.relation_reference.proofs.Making.{on_err}
use Rattle.relation_reference.proofs.Binders.{each_none, each_next, args_next, args_known, rest_itself, rest_on}
use Rattle.relation_reference.proofs.context.variables.RefCtxt.next_args_infer.Goals as goal

pub loop-place-init : goal.loop-place-init
loop-place-init g c =
    let p = c.args.self.now in
    let m = g.I.Interner.meaning p.interner in
    let ks = kinds_in (m.bound_vars c.args.bound_vars.now) in
    record {
      lawful = c.requires.lawful;
      grown = stays_same m;
      sure = subst (λ xs. IsTrue (known (list_tree (arg_tree m) xs))) (sym c.new-args.ensures.items) refl;
      makes = each_none (p.inner.universe).0 (store_in g.I.Interner.meaning p) ks _
          (ap (map (arg_tree m)) c.new-args.ensures.items);
      rest = rest_itself (context_in g.I.Interner.meaning p);
    }

pub variable_at-variable-requires : goal.variable_at-variable-requires
variable_at-variable-requires g c =
    let m = g.I.Interner.meaning c.args.self.now.interner in
    let n = g.I.Interner.meaning c.loop-place.self.interner in
    let k = c.args.bound_vars.now in
    let e : n.bound_vars k ≡ m.bound_vars k = (c.loop-place.invariant.grown).bound_vars k c.requires.known in
    let counted = c.count_of-place-end.ensures in
    let test = c.loop-place-test.true in
    let below : c.loop-place.place < length (kinds_in (m.bound_vars k)) = omega (arith, counted, test) in
    record {
      known = subst IsSome (sym e) c.requires.known;
      there = subst (λ o. c.loop-place.place < length (kinds_in o)) (sym e) below;
    }

pub returns-in_err-arg-clause-grown : goal.returns-in_err-arg-clause-grown
returns-in_err-arg-clause-grown g c = extends_on c.loop-place.invariant.grown c.in_err-arg.ensures.grown

pub returns-in_err-arg-clause-refused : goal.returns-in_err-arg-clause-refused
returns-in_err-arg-clause-refused g c =
    let p = c.args.self.now in
    let n = g.I.Interner.meaning c.loop-place.self.interner in
    let ks = kinds_in ((g.I.Interner.meaning p.interner).bound_vars c.args.bound_vars.now) in
    on_err c.from_residual.result _ (
      c.loop-place.place,
      map (arg_tree n) c.loop-place.args.items,
      subst (MakesEach (p.inner.universe).0 (store_in g.I.Interner.meaning p) (take c.loop-place.place ks)
          (map (arg_tree n) c.loop-place.args.items)) (sym c.in_err-arg.ensures.refused) c.loop-place.invariant.makes,
    )

pub returns-in_err-arg-clause-rest : goal.returns-in_err-arg-clause-rest
returns-in_err-arg-clause-rest g c = rest_on c.loop-place.invariant.rest c.in_err-arg.ensures.rest

pub returns-in_err-push-clause-grown : goal.returns-in_err-push-clause-grown
returns-in_err-push-clause-grown g c = extends_on c.loop-place.invariant.grown c.in_ok-arg.ensures.grown

pub returns-in_err-push-clause-refused : goal.returns-in_err-push-clause-refused
returns-in_err-push-clause-refused g c =
    let meaning = g.I.Interner.meaning in
    let p = c.args.self.now in
    let m = meaning p.interner in
    let n = meaning c.loop-place.self.interner in
    let k = c.args.bound_vars.now in
    let v = c.variable_at-variable.result in
    let i = c.loop-place.place in
    let before = c.loop-place.invariant in
    let e : n.bound_vars k ≡ m.bound_vars k = (before.grown).bound_vars k c.requires.known in
    let at : slice_get (kinds_in (m.bound_vars k)) i ≡ Some (bound_kind_of n v) =
    ap (λ z. slice_get (kinds_in z) i) (sym e) ∙ c.variable_at-variable.ensures in
    on_err c.from_residual-in_err-push.result _ (
      suc i,
      _,
      each_next (p.inner.universe).0 (store_in meaning p)
          (store_in meaning c.loop-place.self) (store_in meaning c.next_arg_infer.new.self) (kinds_in (m.bound_vars k)) i
          (suc i)
          (bound_kind_of n v) (map (arg_tree n) c.loop-place.args.items) _ _ refl before.makes c.in_ok-arg.ensures.makes
          refl at refl,
    )

pub returns-in_err-push-clause-rest : goal.returns-in_err-push-clause-rest
returns-in_err-push-clause-rest g c = rest_on c.loop-place.invariant.rest c.in_ok-arg.ensures.rest

pub loop-place-preserved : goal.loop-place-preserved
loop-place-preserved g c =
    let meaning = g.I.Interner.meaning in
    let p = c.args.self.now in
    let m = meaning p.interner in
    let n = meaning c.loop-place.self.interner in
    let k = c.args.bound_vars.now in
    let v = c.variable_at-variable.result in
    let i = c.loop-place.place in
    let xs = c.loop-place.args.items in
    let y = c.in_ok-arg.arg in
    let r = c.in_ok-arg.ensures in
    let before = c.loop-place.invariant in
    let e : n.bound_vars k ≡ m.bound_vars k = (before.grown).bound_vars k c.requires.known in
    let next : i + 1 ≡ suc i = omega arith in
    let at : slice_get (kinds_in (m.bound_vars k)) i ≡ Some (bound_kind_of n v) =
    ap (λ z. slice_get (kinds_in z) i) (sym e) ∙ c.variable_at-variable.ensures in
    record {
      lawful = r.lawful;
      grown = extends_on before.grown r.grown;
      sure = args_known r.grown xs _ y c.in_ok-push.ensures.items before.sure r.sure;
      makes = each_next (p.inner.universe).0 (store_in meaning p) (store_in meaning c.loop-place.self)
          (store_in meaning c.next_arg_infer.new.self) (kinds_in (m.bound_vars k)) i (i + 1) (bound_kind_of n v)
          (map (arg_tree n) xs) _ _ refl before.makes r.makes next at
          (args_next r.grown xs _ y c.in_ok-push.ensures.items before.sure);
      rest = rest_on before.rest r.rest;
    }

pub returns-clause-makes : goal.returns-clause-makes
returns-clause-makes g c =
    let meaning = g.I.Interner.meaning in
    let p = c.args.self.now in
    let q = c.loop-place.self in
    let ks = kinds_in ((meaning p.interner).bound_vars c.args.bound_vars.now) in
    let counted = c.count_of-place-end.ensures in
    let test = c.loop-place-test.false in
    let all : length ks ≤ c.loop-place.place = omega (arith, counted, test) in
    subst (λ zs. MakesEach (p.inner.universe).0 (store_in meaning p) zs
    (map (arg_tree (meaning q.interner)) c.loop-place.args.items) (store_in meaning q))
    (take_all c.loop-place.place ks all) c.loop-place.invariant.makes
