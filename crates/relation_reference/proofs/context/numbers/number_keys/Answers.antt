use Rattle.std.proofs.Common.{◌<◌, IsTrue, refl, sym, ap, ◌∙◌, subst, arith, map, ◌+◌}
use Rattle.relation_terms.specs.Trees.{known}
use Rattle.relation_terms.proofs.Stays.{stays_same, extends_on}
use Rattle.variable_tables.specs.Numbers.{number_trees}
use Rattle.variable_tables.proofs.Grows.{each_known}
use Rattle.relation_reference.proofs.Numbers.{numbers_next}
use Rattle.relation_reference.proofs.context.numbers.number_keys.Goals as goal

pub loop-place-init : goal.loop-place-init
loop-place-init g c = record {
  grown = stays_same (g.I.Interner.meaning c.args.interner.now);
  means = ap (map (g.I.Interner.meaning c.args.interner.now).ty) c.new-keys.ensures.items;
}

pub mk_ty-requires : goal.mk_ty-requires
mk_ty-requires g c = subst (λ t. IsTrue (known t)) (sym (c.number_kind-kind.ensures (g.I.Interner.meaning c.loop-place.interner))) (each_known number_trees refl c.loop-place.place)

pub loop-place-preserved : goal.loop-place-preserved
loop-place-preserved g c =
    let i = c.loop-place.place in
    let below : i < 16 = (let t = c.loop-place-test.true in omega (arith, t)) in
    record {
      grown = extends_on c.loop-place.invariant.grown c.in_ok-key.ensures.grown;
      means = numbers_next c.in_ok-key.ensures.grown c.loop-place.keys.items c.push.new.self.items c.in_ok-key.key i (i + 1) below
          (omega arith) c.loop-place.invariant.means (c.in_ok-key.ensures.made ∙ c.number_kind-kind.ensures (g.I.Interner.meaning c.loop-place.interner)) c.in_ok-push.ensures.items;
    }
