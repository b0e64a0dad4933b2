use Rattle.std.proofs.Common.{◌∙◌, sym, ap, Some}
use Rattle.std.specs.Prelude.{option_map, map, nat_lt}
use Rattle.relation_terms.specs.Meaning.{arg_tree, region_tree}
use Rattle.relation_folds.specs.Shifts.{opens, shifted, knows_all, opened_stays}
use Rattle.relation_folds.proofs.Unmoved.{opens_here}
use Rattle.relation_folds.proofs.Shifting.{opens_region, region_known}
use Rattle.relation_folds.proofs.fold.bound.BoundVarReplacerKeyTypeFolder.fold_region.Goals as goal

pub moved_in-requires : goal.moved_in-requires
moved_in-requires g c =
    let m = g.I.Interner.meaning c.args.cx.now in
    let laws = g.met.I.Interner in
    let a = c.args.cx.now in
    record {
      known = region_known m ((laws.sorted a).ty) ((laws.sorted a).region) ((laws.sorted a).const_) c.args.self.now.args.now c.requires.ready
          (c.in-ReBound.index).0 (c.in-ReBound.bound.var).0 c.args.depth c.region_for.result c.in-Some.by c.region_for.ensures
          c.in-Some.is;
    }

pub returns-in_err-moved_in-in-Some-clause-steps : goal.returns-in_err-moved_in-in-Some-clause-steps
returns-in_err-moved_in-in-Some-clause-steps g c =
    let e = c.moved_in.ensures.grown in
    let xs = c.args.self.now.args.now in
    record { grown = e; ready = knows_all e xs c.requires.ready; kept = opened_stays e xs c.requires.ready }

pub returns-in_ok-moved_in-in-Some-clause-steps : goal.returns-in_ok-moved_in-in-Some-clause-steps
returns-in_ok-moved_in-in-Some-clause-steps g c =
    let e = c.moved_in.ensures.grown in
    let xs = c.args.self.now.args.now in
    record { grown = e; ready = knows_all e xs c.requires.ready; kept = opened_stays e xs c.requires.ready }

pub returns-in_ok-moved_in-in-Some-clause-made : goal.returns-in_ok-moved_in-in-Some-clause-made
returns-in_ok-moved_in-in-Some-clause-made g c =
    let m = g.I.Interner.meaning c.args.cx.now in
    let laws = g.met.I.Interner in
    let a = c.args.cx.now in
    let xs = c.args.self.now.args.now in
    opens_here (map (arg_tree m) xs) c.args.depth (m.region c.args.region.now)
    (sym (ap (λ f. nat_lt c.args.depth f.outer_exclusive_binder) c.region_flags.ensures)
    ∙ (sym c.escapes.ensures ∙ c.if-not-escapes.false))
    ∙ ap (opens (map (arg_tree m) xs) c.args.depth) (c.region_kind.ensures ∙ ap (region_tree m) c.in-ReBound.is)
    ∙ opens_region m ((laws.sorted a).ty) ((laws.sorted a).region) ((laws.sorted a).const_) xs c.requires.ready
    (m.name c.in-ReBound.bound.name) (c.in-ReBound.index).0 (c.in-ReBound.bound.var).0 c.args.depth
    ∙ ap (option_map (λ x. shifted c.args.depth (m.region x))) (sym c.region_for.ensures ∙ c.in-Some.is)
    ∙ ap Some (sym c.in_ok-moved_in-in-Some.ensures.made)

pub returns-in-None-clause-made : goal.returns-in-None-clause-made
returns-in-None-clause-made g c =
    let m = g.I.Interner.meaning c.args.cx.now in
    let laws = g.met.I.Interner in
    let a = c.args.cx.now in
    let xs = c.args.self.now.args.now in
    opens_here (map (arg_tree m) xs) c.args.depth (m.region c.args.region.now)
    (sym (ap (λ f. nat_lt c.args.depth f.outer_exclusive_binder) c.region_flags.ensures)
    ∙ (sym c.escapes.ensures ∙ c.if-not-escapes.false))
    ∙ ap (opens (map (arg_tree m) xs) c.args.depth) (c.region_kind.ensures ∙ ap (region_tree m) c.in-ReBound.is)
    ∙ opens_region m ((laws.sorted a).ty) ((laws.sorted a).region) ((laws.sorted a).const_) xs c.requires.ready
    (m.name c.in-ReBound.bound.name) (c.in-ReBound.index).0 (c.in-ReBound.bound.var).0 c.args.depth
    ∙ ap (option_map (λ x. shifted c.args.depth (m.region x))) (sym c.region_for.ensures ∙ c.in-None.is)
