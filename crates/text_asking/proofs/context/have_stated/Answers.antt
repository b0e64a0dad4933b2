use Rattle.std.proofs.Common.{subst, max, arith}
use Rattle.std.proofs.lemmas.Result.{on_ok_weaker}
use Rattle.relation_terms.specs.Heads.{type_var, const_var}
use Rattle.relation_terms.specs.Meaning.{Extends}
use Rattle.relation_terms.proofs.Stays.{extends_on}
use Rattle.text_asking.proofs.Universes.{entered_variables, stated_made}
use Rattle.text_asking.proofs.context.have_stated.Goals as goal

-- The interner has grown.
pub returns-in_err-make_variables-clause-grown : goal.returns-in_err-make_variables-clause-grown
returns-in_err-make_variables-clause-grown g c =
    let n = g.I.Interner.meaning c.make_variables.new.ctx.interner in
    subst (λ i. Extends (g.I.Interner.meaning i) n) c.enter_universe.ensures.interner c.make_variables.ensures.grown

pub returns-in_err-make_variables-2-clause-grown : goal.returns-in_err-make_variables-2-clause-grown
returns-in_err-make_variables-2-clause-grown g c =
    let n = g.I.Interner.meaning c.make_variables.new.ctx.interner in
    extends_on
    (subst (λ i. Extends (g.I.Interner.meaning i) n) c.enter_universe.ensures.interner c.make_variables.ensures.grown)
    c.make_variables-2.ensures.grown

pub returns-clause-grown : goal.returns-clause-grown
returns-clause-grown g c =
    let n = g.I.Interner.meaning c.make_variables.new.ctx.interner in
    extends_on
    (extends_on
    (subst (λ i. Extends (g.I.Interner.meaning i) n) c.enter_universe.ensures.interner c.make_variables.ensures.grown)
    c.make_variables-2.ensures.grown) c.make_variables-3.ensures.grown

-- No variable goes.
pub returns-in_err-make_variables-clause-kept : goal.returns-in_err-make_variables-clause-kept
returns-in_err-make_variables-clause-kept g c =
    λ k. let e = entered_variables c.args.ctx.now.inner c.enter_universe.new.ctx.inner c.enter_universe.ensures.rest k in
    let t = c.make_variables.ensures.kept k in
    omega (arith, e, t)

pub returns-in_err-make_variables-2-clause-kept : goal.returns-in_err-make_variables-2-clause-kept
returns-in_err-make_variables-2-clause-kept g c =
    λ k. let e = entered_variables c.args.ctx.now.inner c.enter_universe.new.ctx.inner c.enter_universe.ensures.rest k in
    let t = c.make_variables.ensures.kept k in
    let n = c.make_variables-2.ensures.kept k in
    omega (arith, e, t, n)

pub returns-clause-kept : goal.returns-clause-kept
returns-clause-kept g c =
    λ k. let e = entered_variables c.args.ctx.now.inner c.enter_universe.new.ctx.inner c.enter_universe.ensures.rest k in
    let t = c.make_variables.ensures.kept k in
    let n = c.make_variables-2.ensures.kept k in
    let r = c.make_variables-3.ensures.kept k in
    omega (arith, e, t, n, r)

-- What was made earlier is there still.
pub returns-clause-has : goal.returns-clause-has
returns-clause-has g c =
    let types = c.in_ok-make_variables.ensures.has in
    let consts = c.in_ok-make_variables-2.ensures.has in
    let t = c.make_variables-2.ensures.kept type_var in
    let t2 = c.make_variables-3.ensures.kept type_var in
    let n = c.make_variables-3.ensures.kept const_var in
    let enters = c.enter_universe.ensures.enters in
    let u = c.make_variables.ensures.universe in
    let u2 = c.make_variables-2.ensures.universe in
    let u3 = c.make_variables-3.ensures.universe in
    on_ok_weaker c.make_variables-3.result
    (λ regions. record {
      types = omega (arith, types, t, t2);
      consts = omega (arith, consts, n);
      regions = regions;
      universe = omega (arith, enters, u, u2, u3);
    }) c.make_variables-3.ensures.has

-- All were made in one universe.
pub returns-clause-makes : goal.returns-clause-makes
returns-clause-makes g c =
    let x = c.args.ctx.now.inner in
    let u = max (x.universe).0 c.args.variables.universe in
    on_ok_weaker c.make_variables-3.result
    (λ regions. stated_made u x c.enter_universe.new.ctx.inner c.make_variables.new.ctx.inner
    c.make_variables-2.new.ctx.inner c.make_variables-3.new.ctx.inner c.enter_universe.ensures.rest
    c.enter_universe.ensures.enters c.in_ok-make_variables.ensures.makes c.in_ok-make_variables.ensures.stays
    c.in_ok-make_variables-2.ensures.makes c.in_ok-make_variables-2.ensures.stays regions)
    c.make_variables-3.ensures.makes
