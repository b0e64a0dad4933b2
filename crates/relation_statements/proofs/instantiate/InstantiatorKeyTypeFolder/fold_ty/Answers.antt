use Rattle.std.proofs.Common.{◌∙◌, ap, sym, Some}
use Rattle.std.specs.Prelude.{option_map}
use Rattle.relation_terms.specs.Heads.{type_kind}
use Rattle.relation_terms.specs.Meaning.{kind_tree}
use Rattle.relation_folds.specs.Shifts.{standing, shifted}
use Rattle.relation_folds.proofs.Shifting.{standing_ty}
use Rattle.relation_statements.specs.Stated.{stands_for}
use Rattle.relation_statements.proofs.instantiate.InstantiatorKeyTypeFolder.fold_ty.Goals as goal

pub returns-in_ok-shift_vars-in-Some-clause-made : goal.returns-in_ok-shift_vars-in-Some-clause-made
returns-in_ok-shift_vars-in-Some-clause-made g c =
    let m = g.I.Interner.meaning c.args.cx.now in
    let sorted = g.met.I.Interner.sorted c.args.cx.now in
    let f = c.args.self.now in
    let args = m.args f.args in
    let depth = c.args.depth in
    ap (stands_for f.outer args depth) (c.ty_kind.ensures ∙ ap (kind_tree m) c.in-Param.is)
    ∙ ap (standing type_kind depth) (sym c.arg_at.ensures.is)
    ∙ standing_ty m sorted.ty sorted.region sorted.const_ depth c.arg_at.result c.arg_at.ensures.sure
    ∙ ap (option_map (λ x. shifted depth (m.ty x))) (sym c.as_ty.ensures ∙ c.in-Some.is)
    ∙ ap (λ z. Some z) (sym c.in_ok-shift_vars-in-Some.ensures.made)

pub returns-in-None-clause-made : goal.returns-in-None-clause-made
returns-in-None-clause-made g c =
    let m = g.I.Interner.meaning c.args.cx.now in
    let sorted = g.met.I.Interner.sorted c.args.cx.now in
    let f = c.args.self.now in
    let args = m.args f.args in
    let depth = c.args.depth in
    ap (stands_for f.outer args depth) (c.ty_kind.ensures ∙ ap (kind_tree m) c.in-Param.is)
    ∙ ap (standing type_kind depth) (sym c.arg_at.ensures.is)
    ∙ standing_ty m sorted.ty sorted.region sorted.const_ depth c.arg_at.result c.arg_at.ensures.sure
    ∙ ap (option_map (λ x. shifted depth (m.ty x))) (sym c.as_ty.ensures ∙ c.in-None.is)
