use Rattle.std.proofs.Common.{ap, subst, map, length, ◌∷◌, [], arith, length-append, ◌∙◌}
use Rattle.std.proofs.lemmas.List.{take_all}
use Rattle.relation_terms.specs.Meaning.{arg_tree}
use Rattle.relation_terms.proofs.Stays.{stays_same, stays_arg, extends_on}
use Rattle.text_reading.specs.declared.naming.program.Term.TheVariants.{Bool}
use Rattle.text_terms.specs.Terms.{trees_of}
use Rattle.text_terms.specs.Built.{AreBuilt, inner_tree}
use Rattle.text_terms.proofs.BuildingLemmas.{none_known, none_built, next_key, inner_stays}
use Rattle.text_terms.proofs.building.build.Goals as goal

pub loop-term-init : goal.loop-term-init
loop-term-init g c =
    let m = g.I.Interner.meaning c.args.cx.now in
    let trees = trees_of (map m.id c.args.ids.now) (map m.name c.args.names.now) c.args.program.now.parts.items [] in
    record {
      grown = stays_same m;
      each = ap length c.in_ok-built.ensures.items;
      each_pat = ap length c.in_ok-inners.ensures.items;
      sure = none_known (arg_tree m) c.in_ok-built.built.items c.in_ok-built.ensures.items;
      sure_pats = none_known (inner_tree m) c.in_ok-inners.inners.items c.in_ok-inners.ensures.items;
      made = none_built (arg_tree m) trees c.in_ok-built.built.items c.in_ok-built.ensures.items;
      made_pats = none_built (inner_tree m) trees c.in_ok-inners.inners.items c.in_ok-inners.ensures.items;
    }

pub loop-term-preserved : goal.loop-term-preserved
loop-term-preserved g c =
    let p = g.I.Interner.meaning c.loop-term.cx in
    let n = g.I.Interner.meaning c.make_either-key.new.cx in
    let keys = c.loop-term.built.items in
    let pats = c.loop-term.inners.items in
    let parts = c.args.program.now.parts.items in
    let grown = c.make_either-key.ensures.grown in
    let made = c.make_either-key.result in
    let key = next_key c.loop-term.invariant.grown c.args.ids.now c.args.names.now parts keys pats c.deref-term-items.result.now c.loop-term.term-index Bool
    c.loop-term-test.true c.loop-term.invariant.made c.loop-term.invariant.made_pats (arg_tree p) (arg_tree n) keys _ made.0 _ _ _
    c.loop-term.invariant.each (stays_arg grown) c.loop-term.invariant.sure c.loop-term.invariant.made
    c.deref-in-loop-term.ensures.value c.deref-in-loop-term-2.ensures.value c.deref.ensures.value c.in_ok-push.ensures.items c.make_either-key.ensures.key in
    let pat = next_key c.loop-term.invariant.grown c.args.ids.now c.args.names.now parts keys pats c.deref-term-items.result.now c.loop-term.term-index Bool
    c.loop-term-test.true c.loop-term.invariant.made c.loop-term.invariant.made_pats (inner_tree p) (inner_tree n) pats _ made.1 _ _ _
    c.loop-term.invariant.each_pat (inner_stays grown) c.loop-term.invariant.sure_pats c.loop-term.invariant.made_pats
    c.deref-in-loop-term.ensures.value c.deref-in-loop-term-2.ensures.value c.deref.ensures.value c.in_ok-push-2.ensures.items c.make_either-key.ensures.inner in
    record {
      grown = extends_on c.loop-term.invariant.grown grown;
      each = omega (arith, ap length c.in_ok-push.ensures.items, length-append keys (made.0 ∷ []), c.loop-term.invariant.each);
      each_pat = omega (arith, ap length c.in_ok-push-2.ensures.items, length-append pats (made.1 ∷ []), c.loop-term.invariant.each_pat);
      sure = key.0;
      sure_pats = pat.0;
      made = key.1;
      made_pats = pat.1;
    }

pub returns-in_err-push-clause-grown : goal.returns-in_err-push-clause-grown
returns-in_err-push-clause-grown g c = extends_on c.loop-term.invariant.grown c.make_either-key.ensures.grown

pub returns-in_err-push-2-clause-grown : goal.returns-in_err-push-2-clause-grown
returns-in_err-push-2-clause-grown g c = extends_on c.loop-term.invariant.grown c.make_either-key.ensures.grown

pub returns : goal.returns
returns g c =
    let m = g.I.Interner.meaning c.args.cx.now in
    let n = g.I.Interner.meaning c.loop-term.cx in
    let value = c.deref-term-items.ensures.value in
    record {
      grown = c.loop-term.invariant.grown;
      each = omega (arith, c.loop-term.invariant.each, ap length value, c.loop-term-test.false, c.loop-term.auto.term-index-end);
      sure = c.loop-term.invariant.sure;
      made = subst (λ xs. AreBuilt n (trees_of (map m.id c.args.ids.now) (map m.name c.args.names.now) c.args.program.now.parts.items xs) c.loop-term.built.items)
          (take_all c.loop-term.term-index c.deref-term-items.result.now c.loop-term-test.false ∙ value) c.loop-term.invariant.made;
    }
