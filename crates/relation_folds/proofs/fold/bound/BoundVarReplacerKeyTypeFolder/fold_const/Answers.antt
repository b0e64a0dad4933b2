use Rattle.std.proofs.Common.{◌∙◌, sym, ap, Some}
use Rattle.std.specs.Prelude.{option_map, map, nat_lt}
use Rattle.relation_terms.specs.Meaning.{arg_tree, const_tree}
use Rattle.relation_folds.specs.Shifts.{opens, shifted, knows_all, opened_stays}
use Rattle.relation_folds.proofs.Unmoved.{opens_here}
use Rattle.relation_folds.proofs.Shifting.{opens_const, const_known}
use Rattle.relation_folds.proofs.fold.bound.BoundVarReplacerKeyTypeFolder.fold_const.Goals as goal

pub moved_in-requires : goal.moved_in-requires
moved_in-requires g c =
    let m = g.I.Interner.meaning c.args.cx.now in
    let laws = g.met.I.Interner in
    let a = c.args.cx.now in
    record {
      known = const_known m ((laws.sorted a).ty) ((laws.sorted a).region) ((laws.sorted a).const_) c.args.self.now.args.now c.requires.ready
          (c.in-Bound.index).0 (c.in-Bound.bound.var).0 c.args.depth c.const_for.result c.in-Some.by c.const_for.ensures
          c.in-Some.is;
    }

pub returns-in_err-moved_in-in-Some-clause-steps : goal.returns-in_err-moved_in-in-Some-clause-steps
returns-in_err-moved_in-in-Some-clause-steps g c =
    let e = c.moved_in.ensures.grown in
    let xs = c.args.self.now.args.now in
    record { grown = e; ready = knows_all e xs c.requires.ready; kept = opened_stays e xs c.requires.ready }

pub returns-in_ok-moved_in-in-Some-clause-steps : goal.returns-in_ok-moved_in-in-Some-clause-steps
returns-in_ok-moved_in-in-Some-clause-steps g c =
    let e = c.moved_in.ensures.grown in
    let xs = c.args.self.now.args.now in
    record { grown = e; ready = knows_all e xs c.requires.ready; kept = opened_stays e xs c.requires.ready }

pub returns-in_ok-moved_in-in-Some-clause-made : goal.returns-in_ok-moved_in-in-Some-clause-made
returns-in_ok-moved_in-in-Some-clause-made g c =
    let m = g.I.Interner.meaning c.args.cx.now in
    let laws = g.met.I.Interner in
    let a = c.args.cx.now in
    let xs = c.args.self.now.args.now in
    opens_here (map (arg_tree m) xs) c.args.depth (m.const_ c.args.constant.now)
    (sym (ap (λ f. nat_lt c.args.depth f.outer_exclusive_binder) c.const_flags.ensures)
    ∙ (sym c.escapes.ensures ∙ c.if-not-escapes.false))
    ∙ ap (opens (map (arg_tree m) xs) c.args.depth) (c.const_kind.ensures ∙ ap (const_tree m) c.in-Bound.is)
    ∙ opens_const m ((laws.sorted a).ty) ((laws.sorted a).region) ((laws.sorted a).const_) xs c.requires.ready
    (m.name c.in-Bound.bound.name) (c.in-Bound.index).0 (c.in-Bound.bound.var).0 c.args.depth
    ∙ ap (option_map (λ x. shifted c.args.depth (m.const_ x))) (sym c.const_for.ensures ∙ c.in-Some.is)
    ∙ ap Some (sym c.in_ok-moved_in-in-Some.ensures.made)

pub returns-in-None-clause-made : goal.returns-in-None-clause-made
returns-in-None-clause-made g c =
    let m = g.I.Interner.meaning c.args.cx.now in
    let laws = g.met.I.Interner in
    let a = c.args.cx.now in
    let xs = c.args.self.now.args.now in
    opens_here (map (arg_tree m) xs) c.args.depth (m.const_ c.args.constant.now)
    (sym (ap (λ f. nat_lt c.args.depth f.outer_exclusive_binder) c.const_flags.ensures)
    ∙ (sym c.escapes.ensures ∙ c.if-not-escapes.false))
    ∙ ap (opens (map (arg_tree m) xs) c.args.depth) (c.const_kind.ensures ∙ ap (const_tree m) c.in-Bound.is)
    ∙ opens_const m ((laws.sorted a).ty) ((laws.sorted a).region) ((laws.sorted a).const_) xs c.requires.ready
    (m.name c.in-Bound.bound.name) (c.in-Bound.index).0 (c.in-Bound.bound.var).0 c.args.depth
    ∙ ap (option_map (λ x. shifted c.args.depth (m.const_ x))) (sym c.const_for.ensures ∙ c.in-None.is)
