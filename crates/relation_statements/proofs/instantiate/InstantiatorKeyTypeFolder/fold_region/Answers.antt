use Rattle.std.proofs.Common.{◌∙◌, ap, sym, Some}
use Rattle.std.specs.Prelude.{option_map}
use Rattle.relation_terms.specs.Heads.{region_kind}
use Rattle.relation_terms.specs.Meaning.{region_tree}
use Rattle.relation_folds.specs.Shifts.{standing, shifted}
use Rattle.relation_folds.proofs.Shifting.{standing_region}
use Rattle.relation_statements.specs.Stated.{stands_for}
use Rattle.relation_statements.proofs.instantiate.InstantiatorKeyTypeFolder.fold_region.Goals as goal

pub returns-in_ok-shift_vars-in-Some-clause-made : goal.returns-in_ok-shift_vars-in-Some-clause-made
returns-in_ok-shift_vars-in-Some-clause-made g c =
    let m = g.I.Interner.meaning c.args.cx.now in
    let sorted = g.met.I.Interner.sorted c.args.cx.now in
    let f = c.args.self.now in
    let args = m.args f.args in
    let depth = c.args.depth in
    ap (stands_for f.outer args depth) (c.region_kind.ensures ∙ ap (region_tree m) c.in-ReEarlyParam.is)
    ∙ ap (standing region_kind depth) (sym c.arg_at.ensures.is)
    ∙ standing_region m sorted.ty sorted.region sorted.const_ depth c.arg_at.result c.arg_at.ensures.sure
    ∙ ap (option_map (λ x. shifted depth (m.region x))) (sym c.as_region.ensures ∙ c.in-Some.is)
    ∙ ap (λ z. Some z) (sym c.in_ok-shift_vars-in-Some.ensures.made)

pub returns-in-None-clause-made : goal.returns-in-None-clause-made
returns-in-None-clause-made g c =
    let m = g.I.Interner.meaning c.args.cx.now in
    let sorted = g.met.I.Interner.sorted c.args.cx.now in
    let f = c.args.self.now in
    let args = m.args f.args in
    let depth = c.args.depth in
    ap (stands_for f.outer args depth) (c.region_kind.ensures ∙ ap (region_tree m) c.in-ReEarlyParam.is)
    ∙ ap (standing region_kind depth) (sym c.arg_at.ensures.is)
    ∙ standing_region m sorted.ty sorted.region sorted.const_ depth c.arg_at.result c.arg_at.ensures.sure
    ∙ ap (option_map (λ x. shifted depth (m.region x))) (sym c.as_region.ensures ∙ c.in-None.is)
