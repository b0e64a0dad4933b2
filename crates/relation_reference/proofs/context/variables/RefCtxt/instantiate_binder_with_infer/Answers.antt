use Rattle.std.proofs.Common.{◌≡◌, refl, sym, ap, ap₂, ◌∙◌, arith, subst, length, map, take, IsTrue}
use Rattle.std.proofs.lemmas.List.{take_all}
use Rattle.relation_terms.specs.Trees.{known, list_tree}
use Rattle.relation_terms.specs.Meaning.{arg_tree}
use Rattle.relation_terms.proofs.Members.{if_ok}
use Rattle.relation_terms.proofs.Stays.{extends_on}
use Rattle.relation_folds.specs.Shifts.{opened}
use Rattle.relation_semantics.specs.Binders.{kinds_in, MakesEach}
use Rattle.relation_reference.specs.RefCtxt.{store_in, context_in}
use Rattle.variable_tables.proofs.Grows.{store_grows, lawful_grows}
use Rattle.relation_reference.proofs.Making.{on_err}
use Rattle.relation_reference.proofs.Binders.{binder_list, binder_body, instantiated_as, rest_on}
use Rattle.relation_reference.proofs.context.variables.RefCtxt.instantiate_binder_with_infer.Goals as goal

pub next_args_infer-requires-clause-known : goal.next_args_infer-requires-clause-known
next_args_infer-requires-clause-known g c =
    let m = g.I.Interner.meaning c.args.self.now.interner in
    binder_list (m.bound_vars c.args.value.bound_vars) (g.T.HasTree.tree m c.args.value.value) c.requires.value_known

pub returns-in_err-args-clause-refused : goal.returns-in_err-args-clause-refused
returns-in_err-args-clause-refused g c = on_err c.from_residual.result _ c.in_err-args.ensures.refused

pub instantiate_bound_vars-requires : goal.instantiate_bound_vars-requires
instantiate_bound_vars-requires g c =
    let m = g.I.Interner.meaning c.args.self.now.interner in
    let n = g.I.Interner.meaning c.next_args_infer.new.self.interner in
    let v = c.args.value.value in
    let k = binder_body (m.bound_vars c.args.value.bound_vars) (g.T.HasTree.tree m v) c.requires.value_known in
    let made = c.in_ok-args.ensures in
    record {
      known = subst (λ t. IsTrue (known t)) (sym (g.T.HasTree.stays m n made.grown v k)) k;
      args_known = subst (λ xs. IsTrue (known (list_tree (arg_tree n) xs))) (sym c.deref.ensures.value) made.sure;
    }

pub returns-clause-lawful : goal.returns-clause-lawful
returns-clause-lawful g c =
    lawful_grows c.instantiate_bound_vars.ensures.grown c.next_args_infer.new.self.inner c.in_ok-args.ensures.lawful

pub returns-clause-grown : goal.returns-clause-grown
returns-clause-grown g c = extends_on c.in_ok-args.ensures.grown c.instantiate_bound_vars.ensures.grown

pub returns-clause-instantiates : goal.returns-clause-instantiates
returns-clause-instantiates g c =
    let meaning = g.I.Interner.meaning in
    let p = c.args.self.now in
    let q = c.next_args_infer.new.self in
    let m = meaning p.interner in
    let n = meaning q.interner in
    let o = meaning c.instantiate_bound_vars.new.cx in
    let v = c.args.value.value in
    let list = m.bound_vars c.args.value.bound_vars in
    let t = g.T.HasTree.tree m v in
    let made = c.in_ok-args.ensures in
    let xs = map (arg_tree n) c.in_ok-args.args.items in
    let same : g.T.HasTree.tree n v ≡ t =
    g.T.HasTree.stays m n made.grown v (binder_body list t c.requires.value_known) in
    let r = record q { interner = c.instantiate_bound_vars.new.cx } in
    let still = store_grows c.instantiate_bound_vars.ensures.grown q.inner made.lawful in
    let each : MakesEach (p.inner.universe).0 (store_in meaning p) (kinds_in list) xs (store_in meaning r) =
    subst (MakesEach (p.inner.universe).0 (store_in meaning p) (kinds_in list) xs) (sym still) made.makes in
    if_ok c.instantiate_bound_vars.result (λ x e. instantiated_as (context_in meaning p) (context_in meaning r) list t
    (g.T.HasTree.tree o x) xs c.requires.value_known c.requires.value_binds each
    (e ∙ ap₂ opened (ap (map (arg_tree n)) c.deref.ensures.value) same)) c.instantiate_bound_vars.ensures.made

pub returns-clause-refused : goal.returns-clause-refused
returns-clause-refused g c =
    let meaning = g.I.Interner.meaning in
    let p = c.args.self.now in
    let q = c.next_args_infer.new.self in
    let still = store_grows c.instantiate_bound_vars.ensures.grown q.inner c.in_ok-args.ensures.lawful in
    let ks = kinds_in ((meaning p.interner).bound_vars c.args.value.bound_vars) in
    let xs = map (arg_tree (meaning q.interner)) c.in_ok-args.args.items in
    let each = MakesEach (p.inner.universe).0 (store_in meaning p) in
    on_err c.instantiate_bound_vars.result _ (
      length ks,
      xs,
      subst (each (take (length ks) ks) xs) (sym still)
          (subst (λ zs. each zs xs (store_in meaning q)) (sym (take_all (length ks) ks (omega arith)))
          c.in_ok-args.ensures.makes),
    )

pub returns-clause-rest : goal.returns-clause-rest
returns-clause-rest g c =
    rest_on c.in_ok-args.ensures.rest (record { setup = refl; outliving = refl; marks = λ n. refl })
