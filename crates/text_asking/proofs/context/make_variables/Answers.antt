use Rattle.std.proofs.Common.{sym, ◌∙◌, subst, refl, arith}
use Rattle.relation_terms.proofs.Stays.{stays_same, extends_on}
use Rattle.text_asking.specs.Asking.{MakesIn}
use Rattle.text_asking.proofs.Universes.{none_made, made_then}
use Rattle.text_asking.proofs.context.make_variables.Goals as goal

pub loop-init : goal.loop-init
loop-init g c =
    let x = c.args.ctx.now.inner in
    record {
      lawful = c.requires;
      grown = stays_same (g.I.Interner.meaning c.args.ctx.now.interner);
      kept = λ k. omega arith;
      universe = omega arith;
      same = refl;
      made = none_made (x.universe).0 x;
      as_many = sym c.variables_count-counter.ensures;
    }

pub loop-preserved : goal.loop-preserved
loop-preserved g c =
    let x = c.args.ctx.now.inner in
    let y = c.loop.ctx.inner in
    let z = c.make_variable.new.ctx.inner in
    let before = c.loop.invariant in
    let h = c.make_variable.ensures in
    let made = c.in_ok-make_variable.ensures in
    record {
      lawful = h.lawful;
      grown = extends_on before.grown h.grown;
      kept = λ k. let a = before.kept k in let b = h.kept k in omega (arith, a, b);
      universe = omega (arith, before.universe, h.universe);
      same = made.stays ∙ before.same;
      made = made_then (x.universe).0 x y z before.made (subst (λ u. MakesIn u y z) before.same made.makes);
      as_many = omega (arith, made.one_more, before.as_many);
    }
