use Rattle.std.proofs.Common.{◌≡◌, ◌<◌, refl, sym, ap, ap₂, ◌∙◌, subst, arith, map, false, true, IsTrue}
use Rattle.std.proofs.lemmas.Grind.{common_steps}
use Rattle.relation_terms.specs.Trees.{known, list_tree}
use Rattle.relation_terms.specs.Meaning.{arg_tree}
use Rattle.relation_terms.proofs.Stays.{extends_on}
use Rattle.relation_folds.specs.Shifts.{opened}
use Rattle.relation_folds.specs.Visits.{bound_var_escapes}
use Rattle.relation_semantics.specs.Steps.{ChangesNothing}
use Rattle.variable_tables.specs.Tables.{store_of}
use Rattle.relation_reference.specs.RefCtxt.{context_in}
use Rattle.variable_tables.proofs.Grows.{store_grows, lawful_grows}
use Rattle.relation_reference.proofs.Making.{on_err}
use Rattle.relation_reference.proofs.Universes.{universe_alone, universe_lawful}
use Rattle.relation_reference.proofs.Binders.{binder_list, binder_body, left_as, entered_as, rest_itself}
use Rattle.relation_reference.proofs.context.variables.RefCtxt.enter_forall.Goals as goal

pub has_escaping_bound_vars-requires : goal.has_escaping_bound_vars-requires
has_escaping_bound_vars-requires g c =
    let m = g.I.Interner.meaning c.args.self.now.interner in
    binder_body (m.bound_vars c.args.value.bound_vars) (g.T.HasTree.tree m c.args.value.value) c.requires.value_known

pub returns-then-not-has_escaping_bound_vars-clause-sure : goal.returns-then-not-has_escaping_bound_vars-clause-sure
returns-then-not-has_escaping_bound_vars-clause-sure g c =
    let m = g.I.Interner.meaning c.args.self.now.interner in
    binder_body (m.bound_vars c.args.value.bound_vars) (g.T.HasTree.tree m c.args.value.value) c.requires.value_known

pub returns-then-not-has_escaping_bound_vars-clause-enters : goal.returns-then-not-has_escaping_bound_vars-clause-enters
returns-then-not-has_escaping_bound_vars-clause-enters g c =
    let p = c.args.self.now in
    let m = g.I.Interner.meaning p.interner in
    let t = g.T.HasTree.tree m c.args.value.value in
    let none : bound_var_escapes t ≡ false = grind (arith, common_steps) in
    left_as (context_in g.I.Interner.meaning p) (context_in g.I.Interner.meaning p)
    (m.bound_vars c.args.value.bound_vars) t t
    c.requires.value_known none refl refl

pub returns-then-not-has_escaping_bound_vars-clause-rest : goal.returns-then-not-has_escaping_bound_vars-clause-rest
returns-then-not-has_escaping_bound_vars-clause-rest g c = rest_itself (context_in g.I.Interner.meaning c.args.self.now)

pub returns-in_err-universe-clause-refused : goal.returns-in_err-universe-clause-refused
returns-in_err-universe-clause-refused g c = on_err c.from_residual.result _ refl

pub returns-in_err-universe-clause-rest : goal.returns-in_err-universe-clause-rest
returns-in_err-universe-clause-rest g c = rest_itself (context_in g.I.Interner.meaning c.args.self.now)

pub placeholders-requires : goal.placeholders-requires
placeholders-requires g c =
    let m = g.I.Interner.meaning c.args.self.now.interner in
    binder_list (m.bound_vars c.args.value.bound_vars) (g.T.HasTree.tree m c.args.value.value) c.requires.value_known

pub returns-in_err-args-clause-lawful : goal.returns-in_err-args-clause-lawful
returns-in_err-args-clause-lawful g c = lawful_grows c.in_err-args.ensures.grown c.args.self.now.inner c.requires.lawful

pub returns-in_err-args-clause-refused : goal.returns-in_err-args-clause-refused
returns-in_err-args-clause-refused g c = on_err c.from_residual-in_err-args.result _
    (store_grows c.in_err-args.ensures.grown c.args.self.now.inner c.requires.lawful)

pub returns-in_err-args-clause-rest : goal.returns-in_err-args-clause-rest
returns-in_err-args-clause-rest g c = record { setup = refl; outliving = refl; marks = λ n. refl }

pub instantiate_bound_vars-requires : goal.instantiate_bound_vars-requires
instantiate_bound_vars-requires g c =
    let m = g.I.Interner.meaning c.args.self.now.interner in
    let n = g.I.Interner.meaning c.placeholders.new.cx in
    let v = c.args.value.value in
    let k = binder_body (m.bound_vars c.args.value.bound_vars) (g.T.HasTree.tree m v) c.requires.value_known in
    let made = c.in_ok-args.ensures in
    record {
      known = subst (λ t. IsTrue (known t)) (sym (g.T.HasTree.stays m n made.grown v k)) k;
      args_known = subst (λ xs. IsTrue (known (list_tree (arg_tree n) xs))) (sym c.deref.ensures.value) made.sure;
    }

pub returns-in_err-entered-clause-lawful : goal.returns-in_err-entered-clause-lawful
returns-in_err-entered-clause-lawful g c =
    lawful_grows (extends_on c.in_ok-args.ensures.grown c.in_err-entered.ensures.grown) c.args.self.now.inner
    c.requires.lawful

pub returns-in_err-entered-clause-grown : goal.returns-in_err-entered-clause-grown
returns-in_err-entered-clause-grown g c = extends_on c.in_ok-args.ensures.grown c.in_err-entered.ensures.grown

pub returns-in_err-entered-clause-refused : goal.returns-in_err-entered-clause-refused
returns-in_err-entered-clause-refused g c = on_err c.from_residual-in_err-entered.result _
    (store_grows (extends_on c.in_ok-args.ensures.grown c.in_err-entered.ensures.grown) c.args.self.now.inner
    c.requires.lawful)

pub returns-in_err-entered-clause-rest : goal.returns-in_err-entered-clause-rest
returns-in_err-entered-clause-rest g c = record { setup = refl; outliving = refl; marks = λ n. refl }

pub returns-clause-lawful : goal.returns-clause-lawful
returns-clause-lawful g c =
    let next = c.in_ok-universe.ensures in
    let x = c.args.self.now.inner in
    universe_lawful (g.I.Interner.meaning c.instantiate_bound_vars.new.cx) x c.in_ok-universe.universe
    (omega (arith, next))
    (lawful_grows (extends_on c.in_ok-args.ensures.grown c.in_ok-entered.ensures.grown) x c.requires.lawful)

pub returns-clause-grown : goal.returns-clause-grown
returns-clause-grown g c = extends_on c.in_ok-args.ensures.grown c.in_ok-entered.ensures.grown

pub returns-clause-enters : goal.returns-clause-enters
returns-clause-enters g c =
    let p = c.args.self.now in
    let m = g.I.Interner.meaning p.interner in
    let n = g.I.Interner.meaning c.placeholders.new.cx in
    let o = g.I.Interner.meaning c.instantiate_bound_vars.new.cx in
    let v = c.args.value.value in
    let list = m.bound_vars c.args.value.bound_vars in
    let t = g.T.HasTree.tree m v in
    let made = c.in_ok-args.ensures in
    let put = c.in_ok-entered.ensures in
    let grown = extends_on made.grown put.grown in
    let next = c.in_ok-universe.ensures in
    let above : (p.inner.universe).0 < (c.in_ok-universe.universe).0 = omega (arith, next) in
    let y = record p.inner { universe = c.in_ok-universe.universe } in
    let ps = map (arg_tree n) c.in_ok-args.args.items in
    let some : bound_var_escapes t ≡ true = grind (arith, common_steps) in
    let same : g.T.HasTree.tree n v ≡ t =
    g.T.HasTree.stays m n made.grown v (binder_body list t c.requires.value_known) in
    let q = record p { interner = c.instantiate_bound_vars.new.cx; inner = y } in
    let changes : ChangesNothing (store_of m p.inner) (store_of o y) =
    subst (λ st. ChangesNothing st (store_of o y)) (store_grows grown p.inner c.requires.lawful)
    (universe_alone o p.inner c.in_ok-universe.universe above) in
    let is : g.T.HasTree.tree o c.in_ok-entered.entered ≡ opened ps t =
    put.made ∙ ap₂ opened (ap (map (arg_tree n)) c.deref.ensures.value) same in
    entered_as (context_in g.I.Interner.meaning p) (context_in g.I.Interner.meaning q) list t
    (g.T.HasTree.tree o c.in_ok-entered.entered) ps c.requires.value_known c.requires.value_binds some changes refl above
    made.made is

pub returns-clause-rest : goal.returns-clause-rest
returns-clause-rest g c = record { setup = refl; outliving = refl; marks = λ n. refl }
