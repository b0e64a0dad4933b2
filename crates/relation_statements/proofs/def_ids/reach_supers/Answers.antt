use Rattle.std.proofs.Common.{◌∙◌, ◌∷◌, [], refl, ap, subst, take}
use Rattle.std.specs.List.{filter_map}
use Rattle.std.proofs.lemmas.List.{take_all}
use Rattle.outlives_assumptions.proofs.Assumptions.{filter_next}
use Rattle.relation_statements.specs.TraitClauses.{trait_named}
use Rattle.relation_statements.specs.Reach.{Spreads, numbers}
use Rattle.relation_statements.proofs.Reaching.{item_name, item_known, all_named, spreads_none, spreads_then}
use Rattle.relation_statements.proofs.def_ids.reach_supers.Goals as goal

pub loop-stated-init : goal.loop-stated-init
loop-stated-init g c =
    let m = g.I.Interner.meaning c.args.cx.now in
    spreads_none (numbers m c.args.stack.now.items) (numbers m c.args.reached.now.keys)

pub reach-requires : goal.reach-requires
reach-requires g c =
    let m = g.I.Interner.meaning c.args.cx.now in
    let items = c.explicit_super_predicates_of-supers.result.now in
    item_known m (m.id (c.args.trait_id.now).0) items c.explicit_super_predicates_of-supers.ensures
    (g.met.I.Interner.states c.args.cx.now) c.loop-stated.stated-index c.stated-item.result c.loop-stated-test.true
    c.stated-item.is

pub loop-stated-preserved : goal.loop-stated-preserved
loop-stated-preserved g c =
    let m = g.I.Interner.meaning c.args.cx.now in
    let items = c.explicit_super_predicates_of-supers.result.now in
    let i = c.loop-stated.stated-index in
    let x = c.stated-item.result in
    let st = numbers m c.args.stack.now.items in
    let ks = numbers m c.args.reached.now.keys in
    let st' = numbers m c.loop-stated.stack.items in
    let ks' = numbers m c.loop-stated.reached.keys in
    let st'' = numbers m c.reach.new.stack.items in
    let ks'' = numbers m c.reach.new.reached.keys in
    let qs = filter_map trait_named (m.clause x.0 ∷ []) in
    subst (λ z. Spreads z st ks st'' ks'') (filter_next (item_name m) items i x qs c.loop-stated-test.true
    c.stated-item.is refl)
    (spreads_then (filter_map (item_name m) (take i items)) qs st ks st' ks' st'' ks'' c.loop-stated.invariant
    c.in_ok-reach.ensures)

pub returns : goal.returns
returns g c =
    let m = g.I.Interner.meaning c.args.cx.now in
    let items = c.explicit_super_predicates_of-supers.result.now in
    let i = c.loop-stated.stated-index in
    subst (λ z. Spreads z (numbers m c.args.stack.now.items) (numbers m c.args.reached.now.keys)
    (numbers m c.loop-stated.stack.items) (numbers m c.loop-stated.reached.keys))
    (ap (filter_map (item_name m)) (take_all i items c.loop-stated-test.false)
    ∙ all_named m (m.id (c.args.trait_id.now).0) items c.explicit_super_predicates_of-supers.ensures)
    c.loop-stated.invariant
