use Rattle.std.proofs.Common.{◌≡◌, [], refl, ap, sym, subst, suc, arith, map, IsTrue, ◌-◌}
use Rattle.term_enums.specs.declared.Variance.TheVariants.{Invariant}
use Rattle.relation_terms.specs.declared.terms.part_kind.Part.TheVariants.{Const}
use Rattle.relation_terms.specs.Heads.{const_var}
use Rattle.relation_terms.specs.Trees.{known}
use Rattle.relation_terms.specs.Parts.{part_tree}
use Rattle.relation_terms.proofs.Stays.{extends_on, knows_as}
use Rattle.relation_folds.specs.declared.error.TypeError.TheVariants.{CyclicConst}
use Rattle.relation_semantics.specs.Lawful.{items_of}
use Rattle.relation_semantics.specs.Generalising.{Stage, outside, any_part, Generalised}
use Rattle.relation_semantics.proofs.Passing.{as_err}
use Rattle.relation_semantics.proofs.Standing.{term_context}
use Rattle.variable_tables.specs.declared.inner.InferCtxtInner.{InferCtxtInner}
use Rattle.variable_tables.specs.Tables.{setup_in, store_of}
use Rattle.relation_reference.proofs.Comes.{same_record}
use Rattle.relation_reference.proofs.Marking.{marks_none, marks_grow, marks_bound}
use Rattle.variable_tables.proofs.Beside.{consts_beside}
use Rattle.relation_reference.proofs.Instantiating.{resolved_lawful, out_of_memory, source_context, left_still, made_still, free_still, stopped, generalised_here, by_rules, bound_lawful, const_may}
use Rattle.variable_tables.proofs.Writing.{bound_entries, value_free, table_made, table_of_entries}
use Rattle.relation_reference.proofs.context.variables.RefCtxt.instantiate_const_var_raw.Goals as goal

pub resolve_const-requires-clause-const_in : goal.resolve_const-requires-clause-const_in
resolve_const-requires-clause-const_in g c =
    let m = g.I.Interner.meaning c.args.self.now.interner in
    term_context (store_of m c.args.self.now.inner) (m.const_ c.args.source.now) c.requires.source_in

pub returns-in_err-resolved-clause-grows : goal.returns-in_err-resolved-clause-grows
returns-in_err-resolved-clause-grows g c =
    let r = c.resolve_const.ensures in record {
      extends = r.grown;
      lawful = resolved_lawful r.grown c.args.self.now.inner c.resolve_const.new.self.inner r.inner c.requires.lawful;
      setup = ap setup_in r.inner;
      outliving = ap (λ x. x.ty_outlives.items) r.inner;
    }

pub returns-in_err-resolved-clause-rest : goal.returns-in_err-resolved-clause-rest
returns-in_err-resolved-clause-rest g c =
    let meaning = g.I.Interner.meaning in
    let r = c.resolve_const.ensures in
    let p = c.args.self.now in
    let w = c.resolve_const.new.self in
    marks_grow meaning p p w r.inner (same_record meaning p w r.grown r.inner c.requires.lawful) (marks_none meaning p c.requires.lawful)

pub returns-in_err-resolved-clause-instantiates : goal.returns-in_err-resolved-clause-instantiates
returns-in_err-resolved-clause-instantiates g c =
    let r = c.resolve_const.ensures in
    out_of_memory r.grown c.args.self.now.inner c.resolve_const.new.self.inner r.inner c.requires.lawful (λ z. z.const_) CyclicConst c.args.aliases const_var c.args.target.0 Invariant
    ((g.I.Interner.meaning c.args.self.now.interner).const_ c.args.source.now) (let d = c.if-self-eq0.false in λ e. omega (arith, d, e))
    c.from_residual.result c.from_residual.ensures.0 c.from_residual.ensures.1

pub generalise-requires-clause-lawful : goal.generalise-requires-clause-lawful
generalise-requires-clause-lawful g c =
    let r = c.resolve_const.ensures in
    resolved_lawful r.grown c.args.self.now.inner c.resolve_const.new.self.inner r.inner c.requires.lawful

pub generalise-requires-clause-universe : goal.generalise-requires-clause-universe
generalise-requires-clause-universe g c =
    sym c.universe_of.ensures

pub generalise-requires-clause-source_in : goal.generalise-requires-clause-source_in
generalise-requires-clause-source_in g c =
    let r = c.resolve_const.ensures in
    let m = g.I.Interner.meaning c.args.self.now.interner in
    let n = g.I.Interner.meaning c.resolve_const.new.self.interner in
    source_context r.grown c.args.self.now.inner c.resolve_const.new.self.inner r.inner c.requires.lawful (m.const_ c.args.source.now) (n.const_ c.in_ok-resolved.resolved)
    c.in_ok-resolved.ensures.resolves c.requires.source_in

pub returns-in_err-part-clause-rest : goal.returns-in_err-part-clause-rest
returns-in_err-part-clause-rest g c =
    let r = c.resolve_const.ensures in
    marks_bound g.I.Interner.meaning c.args.self.now c.resolve_const.new.self c.generalise.new.self c.generalise.new.self
    r.grown r.inner c.requires.lawful refl refl refl (λ n h. h) c.in_err-part.ensures.rest

pub returns-in_err-part-clause-grows : goal.returns-in_err-part-clause-grows
returns-in_err-part-clause-grows g c =
    let rest = returns-in_err-part-clause-rest g c in record {
      extends = extends_on c.resolve_const.ensures.grown c.in_err-part.ensures.grown;
      lawful = c.in_err-part.ensures.lawful;
      setup = rest.setup;
      outliving = rest.outliving;
    }

pub returns-in_err-part-clause-instantiates : goal.returns-in_err-part-clause-instantiates
returns-in_err-part-clause-instantiates g c =
    let m = g.I.Interner.meaning c.args.self.now.interner in
    let n = g.I.Interner.meaning c.resolve_const.new.self.interner in
    let o = g.I.Interner.meaning c.generalise.new.self.interner in
    let x = c.args.self.now.inner in
    let w = c.resolve_const.new.self.inner in
    let z = c.generalise.new.self.inner in
    let r = c.resolve_const.ensures in
    let i = c.args.target.0 in
    let l = c.requires.lawful in
    let universe = sym c.universe_of.ensures in
    let key = c.in_ok-resolved.resolved in
    let f = c.in_err-part.field-0.0 in
    let e = c.in_err-part.ensures in
    let u = c.universe_of.result.0 in
    let stay = e.grown.const_ key c.in_ok-resolved.ensures.sure in
    stopped o r.grown x w z r.inner l c.args.aliases const_var i u universe e.makes (λ a. a.const_) CyclicConst Invariant (m.const_ c.args.source.now)
    (let d = c.if-self-eq0.false in λ q. omega (arith, d, q)) (table_made m.const_ x.consts.items i c.requires.target_made) c.requires.target_unbound key c.in_ok-resolved.ensures.resolves
    (knows_as (n.const_ key) (o.const_ key) stay c.in_ok-resolved.ensures.sure) stay Invariant (Const key) refl f e.generalised c.from_residual-in_err-part.result
    (as_err c.from_residual-in_err-part.result f c.from_residual-in_err-part.ensures.0 c.from_residual-in_err-part.ensures.1)

pub bind-requires-clause-made : goal.bind-requires-clause-made
bind-requires-clause-made g c =
    let m = g.I.Interner.meaning c.args.self.now.interner in
    let n = g.I.Interner.meaning c.resolve_const.new.self.interner in
    let o = g.I.Interner.meaning c.generalise.new.self.interner in
    let x = c.args.self.now.inner in
    let w = c.resolve_const.new.self.inner in
    let z = c.generalise.new.self.inner in
    let r = c.resolve_const.ensures in
    let i = c.args.target.0 in
    let l = c.requires.lawful in
    let universe = sym c.universe_of.ensures in
    table_of_entries o.const_ z.consts.items i (made_still o r.grown x w z r.inner l c.args.aliases const_var i c.universe_of.result.0 universe c.in_ok-part.ensures.makes (table_made m.const_ x.consts.items i c.requires.target_made))

pub bind-requires-clause-free : goal.bind-requires-clause-free
bind-requires-clause-free g c =
    let m = g.I.Interner.meaning c.args.self.now.interner in
    let n = g.I.Interner.meaning c.resolve_const.new.self.interner in
    let o = g.I.Interner.meaning c.generalise.new.self.interner in
    let x = c.args.self.now.inner in
    let w = c.resolve_const.new.self.inner in
    let z = c.generalise.new.self.inner in
    let r = c.resolve_const.ensures in
    let i = c.args.target.0 in
    let l = c.requires.lawful in
    let universe = sym c.universe_of.ensures in
    value_free o.const_ z.consts.items i (free_still o r.grown x w z r.inner l c.args.aliases const_var i c.universe_of.result.0 universe c.in_ok-part.ensures.makes c.requires.target_unbound)

pub overflow_sub-self : goal.overflow_sub-self
overflow_sub-self g c =
    let m = g.I.Interner.meaning c.args.self.now.interner in
    let n = g.I.Interner.meaning c.resolve_const.new.self.interner in
    let o = g.I.Interner.meaning c.generalise.new.self.interner in
    let x = c.args.self.now.inner in
    let w = c.resolve_const.new.self.inner in
    let z = c.generalise.new.self.inner in
    let r = c.resolve_const.ensures in
    let i = c.args.target.0 in
    let l = c.requires.lawful in
    let universe = sym c.universe_of.ensures in
    let s = left_still o r.grown x w z r.inner l c.args.aliases const_var i c.universe_of.result.0 universe c.in_ok-part.ensures.makes in
    let d = c.if-self-eq0.false in
    omega (arith, s, d)

pub returns : goal.returns
returns g c =
    let m = g.I.Interner.meaning c.args.self.now.interner in
    let n = g.I.Interner.meaning c.resolve_const.new.self.interner in
    let o = g.I.Interner.meaning c.generalise.new.self.interner in
    let x = c.args.self.now.inner in
    let w = c.resolve_const.new.self.inner in
    let z = c.generalise.new.self.inner in
    let r = c.resolve_const.ensures in
    let i = c.args.target.0 in
    let l = c.requires.lawful in
    let universe = sym c.universe_of.ensures in
    let key = c.in_ok-resolved.resolved in
    let t = m.const_ c.args.source.now in
    let u = c.universe_of.result.0 in
    let e = c.in_ok-part.ensures in
    let s = left_still o r.grown x w z r.inner l c.args.aliases const_var i u universe e.makes in
    let left : z.budget ≡ suc (z.budget - 1) = (let d = c.if-self-eq0.false in omega (arith, s, d)) in
    let b = c.expect_const-bound.result in
    let is : part_tree o c.in_ok-part.part ≡ o.const_ b = sym (ap (part_tree o) c.expect_const-bound.ensures) in
    let sure = subst (λ a. IsTrue (known a)) is e.generalised.0 in
    let ts = c.bind.new.self in
    let y : InferCtxtInner g.row.I-Key.Denot = record z { consts = ts; budget = z.budget - 1 } in
    let beside = consts_beside o z ts (z.budget - 1) in
    let keys = ap (map o.const_) c.bind.ensures.keys in
    let entries = bound_entries o.const_ z.consts.items ts.items i b c.bind.ensures.values in
    let made = table_made m.const_ x.consts.items i c.requires.target_made in
    let sorted = (g.met.I.Interner.sorted c.args.self.now.interner).const_ c.args.source.now c.requires.source_known in
    let full = n.const_ key in
    let comes = c.in_ok-resolved.ensures.resolves in
    let gen : (last : Stage) × (last.store ≡ store_of o z) × Generalised c.args.aliases (items_of n) (store_of n w) const_var i (any_part outside Invariant) (record { store = store_of n w; met = [] }) full last (o.const_ b) = (e.generalised.2.0, e.generalised.2.1, subst (λ a. Generalised c.args.aliases (items_of n) (store_of n w) const_var i (any_part outside Invariant) (record { store = store_of n w; met = [] }) full e.generalised.2.0 a) is e.generalised.2.2) in
    let here = generalised_here o r.grown x w z r.inner l c.args.aliases const_var i u universe e.makes y (o.const_ b) full tt Invariant t made c.requires.target_unbound e.lawful beside keys entries c.bind.ensures.universes left comes gen c.requires.source_in sorted in
    let may = const_may m x l t here c.requires.source_by_lists sorted c.requires.source_no_variable c.requires.source_in ((g.met.I.Interner.sorted c.generalise.new.self.interner).const_ b sure) in
    let rest = marks_bound g.I.Interner.meaning c.args.self.now c.resolve_const.new.self c.generalise.new.self
    (record { interner = c.generalise.new.self.interner; inner = y }) r.grown r.inner l refl refl refl
    (λ j h. h) e.rest in
    record {
      grows = record {
        extends = extends_on r.grown e.grown;
        lawful = bound_lawful o r.grown x w z r.inner l c.args.aliases const_var i u universe e.makes y (o.const_ b) full tt Invariant t made c.requires.target_unbound e.lawful beside keys entries c.bind.ensures.universes left comes gen c.requires.source_in sorted may;
        setup = rest.setup;
        outliving = rest.outliving;
      };
      instantiates = (sure, by_rules o r.grown x w z r.inner l c.args.aliases const_var i u universe e.makes y (o.const_ b) full tt Invariant t made c.requires.target_unbound e.lawful beside keys entries c.bind.ensures.universes left comes gen c.requires.source_in sorted);
      rest = rest;
    }

pub returns-then-self-eq0-clause-rest : goal.returns-then-self-eq0-clause-rest
returns-then-self-eq0-clause-rest g c = marks_none g.I.Interner.meaning c.args.self.now c.requires.lawful
