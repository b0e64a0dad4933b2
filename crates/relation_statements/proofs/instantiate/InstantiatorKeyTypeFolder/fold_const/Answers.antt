use Rattle.std.proofs.Common.{◌∙◌, ap, sym, Some}
use Rattle.std.specs.Prelude.{option_map}
use Rattle.relation_terms.specs.Heads.{const_kind}
use Rattle.relation_terms.specs.Meaning.{const_tree}
use Rattle.relation_folds.specs.Shifts.{standing, shifted}
use Rattle.relation_folds.proofs.Shifting.{standing_const}
use Rattle.relation_statements.specs.Stated.{stands_for}
use Rattle.relation_statements.proofs.instantiate.InstantiatorKeyTypeFolder.fold_const.Goals as goal

pub returns-in_ok-shift_vars-in-Some-clause-made : goal.returns-in_ok-shift_vars-in-Some-clause-made
returns-in_ok-shift_vars-in-Some-clause-made g c =
    let m = g.I.Interner.meaning c.args.cx.now in
    let sorted = g.met.I.Interner.sorted c.args.cx.now in
    let f = c.args.self.now in
    let args = m.args f.args in
    let depth = c.args.depth in
    ap (stands_for f.outer args depth) (c.const_kind.ensures ∙ ap (const_tree m) c.in-Param.is)
    ∙ ap (standing const_kind depth) (sym c.arg_at.ensures.is)
    ∙ standing_const m sorted.ty sorted.region sorted.const_ depth c.arg_at.result c.arg_at.ensures.sure
    ∙ ap (option_map (λ x. shifted depth (m.const_ x))) (sym c.as_const.ensures ∙ c.in-Some.is)
    ∙ ap (λ z. Some z) (sym c.in_ok-shift_vars-in-Some.ensures.made)

pub returns-in-None-clause-made : goal.returns-in-None-clause-made
returns-in-None-clause-made g c =
    let m = g.I.Interner.meaning c.args.cx.now in
    let sorted = g.met.I.Interner.sorted c.args.cx.now in
    let f = c.args.self.now in
    let args = m.args f.args in
    let depth = c.args.depth in
    ap (stands_for f.outer args depth) (c.const_kind.ensures ∙ ap (const_tree m) c.in-Param.is)
    ∙ ap (standing const_kind depth) (sym c.arg_at.ensures.is)
    ∙ standing_const m sorted.ty sorted.region sorted.const_ depth c.arg_at.result c.arg_at.ensures.sure
    ∙ ap (option_map (λ x. shifted depth (m.const_ x))) (sym c.as_const.ensures ∙ c.in-None.is)
