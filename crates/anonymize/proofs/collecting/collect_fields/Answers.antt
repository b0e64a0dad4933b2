use Rattle.std.proofs.Common.{sym, ap, ◌∙◌, append-nil}
use Rattle.relation_terms.specs.Fields.{field_tree, fields_tree}
use Rattle.anonymize.specs.Anonymous.{uses, with_vars}
use Rattle.std.proofs.lemmas.Result.{on_ok_weaker}
use Rattle.anonymize.proofs.UsedTrees.{used_two}
use Rattle.anonymize.proofs.collecting.collect_fields.Goals as goal

pub returns-in-Empty : goal.returns-in-Empty
returns-in-Empty g c =
    let m = g.I.Interner.meaning c.args.cx.now in
    let us = c.args.vars.now.items in
    ap (λ fs. with_vars us (uses 0 (fields_tree m fs))) (sym c.in-Empty.is)

pub returns-in-One : goal.returns-in-One
returns-in-One g c =
    let m = g.I.Interner.meaning c.args.cx.now in
    let us = c.args.vars.now.items in
    let xs = uses 0 (field_tree m c.in-One.field) in
    on_ok_weaker c.collect_field.result (λ e. e ∙ ap (with_vars us) (sym (append-nil xs))
    ∙ ap (λ fs. with_vars us (uses 0 (fields_tree m fs))) (sym c.in-One.is)) c.collect_field.ensures.collects

pub returns-in_ok-collect_field-in-Two : goal.returns-in_ok-collect_field-in-Two
returns-in_ok-collect_field-in-Two g c =
    let m = g.I.Interner.meaning c.args.cx.now in
    let us = c.args.vars.now.items in
    let xs = uses 0 (field_tree m c.in-Two.first) in
    let ys = uses 0 (field_tree m c.in-Two.second) in
    on_ok_weaker c.collect_field-in-Two-2.result
    (λ e. e ∙ ap (λ z. with_vars z ys) c.in_ok-collect_field-in-Two.ensures.collects ∙ used_two us xs ys
    ∙ ap (λ fs. with_vars us (uses 0 (fields_tree m fs))) (sym c.in-Two.is))
    c.collect_field-in-Two-2.ensures.collects
