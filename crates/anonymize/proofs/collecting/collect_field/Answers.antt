use Rattle.std.proofs.Common.{◌≡◌, OnOk, sym, subst}
use Rattle.relation_terms.specs.Heads.{trait_ref, alias_term}
use Rattle.relation_terms.specs.Predicates.{alias_term_kind, alias_term_id}
use Rattle.relation_terms.specs.Fields.{field_tree}
use Rattle.anonymize.specs.Anonymous.{uses, with_vars}
use Rattle.anonymize.proofs.UsedTrees.{uses_parts}
use Rattle.anonymize.proofs.collecting.collect_field.Goals as goal

pub returns-in-Region-clause-collects : goal.returns-in-Region-clause-collects
returns-in-Region-clause-collects g c =
    let m = g.I.Interner.meaning c.args.cx.now in
    subst (λ f. OnOk c.collect_part.result (c.collect_part.new.vars.items ≡
    with_vars c.args.vars.now.items (uses 0 (field_tree m f)))) (sym c.in-Region.is) c.collect_part.ensures.collects

pub returns-in-Ty-clause-collects : goal.returns-in-Ty-clause-collects
returns-in-Ty-clause-collects g c =
    let m = g.I.Interner.meaning c.args.cx.now in
    subst (λ f. OnOk c.collect_part-in-Ty.result (c.collect_part-in-Ty.new.vars.items ≡
    with_vars c.args.vars.now.items (uses 0 (field_tree m f)))) (sym c.in-Ty.is) c.collect_part-in-Ty.ensures.collects

pub returns-in-Const-clause-collects : goal.returns-in-Const-clause-collects
returns-in-Const-clause-collects g c =
    let m = g.I.Interner.meaning c.args.cx.now in
    subst (λ f. OnOk c.collect_part-in-Const.result (c.collect_part-in-Const.new.vars.items ≡
    with_vars c.args.vars.now.items (uses 0 (field_tree m f)))) (sym c.in-Const.is)
    c.collect_part-in-Const.ensures.collects

pub returns-in-TraitRef-clause-collects : goal.returns-in-TraitRef-clause-collects
returns-in-TraitRef-clause-collects g c =
    let m = g.I.Interner.meaning c.args.cx.now in
    let of = c.in-TraitRef.of in
    let used = uses_parts 0 (trait_ref (m.id (of.def_id).0)) (m.args of.args) c.collect_list.ensures.is_list in
    subst (λ f. OnOk c.collect_list.result (c.collect_list.new.vars.items ≡
    with_vars c.args.vars.now.items (uses 0 (field_tree m f)))) (sym c.in-TraitRef.is)
    (subst (λ z. OnOk c.collect_list.result (c.collect_list.new.vars.items ≡ with_vars c.args.vars.now.items z))
    (sym used) c.collect_list.ensures.collects)

pub returns-in-AliasTerm-clause-collects : goal.returns-in-AliasTerm-clause-collects
returns-in-AliasTerm-clause-collects g c =
    let m = g.I.Interner.meaning c.args.cx.now in
    let of = c.in-AliasTerm.of in
    let r = c.collect_list-in-AliasTerm.result in
    let new = c.collect_list-in-AliasTerm.new.vars.items in
    let used = uses_parts 0 (alias_term (alias_term_kind of.kind) (m.id (alias_term_id of.kind))) (m.args of.args)
    c.collect_list-in-AliasTerm.ensures.is_list in
    subst (λ f. OnOk r (new ≡ with_vars c.args.vars.now.items (uses 0 (field_tree m f)))) (sym c.in-AliasTerm.is)
    (subst (λ z. OnOk r (new ≡ with_vars c.args.vars.now.items z)) (sym used)
    c.collect_list-in-AliasTerm.ensures.collects)
