use Rattle.std.proofs.Common.{ap, sym, ◌∙◌, []}
use Rattle.relation_terms.specs.Fields.{fields_tree}
use Rattle.relation_terms.specs.Predicates.{predicate_kind_tree}
use Rattle.anonymize.specs.Anonymous.{uses, with_vars}
use Rattle.relation_folds.proofs.Remembering.{place_eq}
use Rattle.anonymize.proofs.UsedParts.{remembers_none}
use Rattle.anonymize.proofs.UsedTrees.{fields_known, uses_fields, none_used}
use Rattle.anonymize.proofs.collecting.used_vars.Goals as goal
use Rattle.anonymize.proofs.collecting.used_vars.Goals.{then-has_escaping_bound_vars+in_ok-collect_fields}
use Rattle.anonymize.proofs.collecting.used_vars.Goals.{else-has_escaping_bound_vars}

pub collect_fields-requires-clause-known : goal.collect_fields-requires-clause-known
collect_fields-requires-clause-known g c =
    fields_known (g.I.Interner.meaning c.args.cx.now) c.args.body.now c.predicate_fields.result
    c.predicate_fields.ensures c.requires

pub collect_fields-requires-clause-remembered : goal.collect_fields-requires-clause-remembered
collect_fields-requires-clause-remembered g c =
    remembers_none (g.I.Interner.meaning c.args.cx.now) c.new-vars.result.items (place_eq g.I.Key.PartialEq.eq)
    c.new-met.result.keys c.new-met.ensures.empty

pub returns : goal.returns
returns g c =
    let m = g.I.Interner.meaning c.args.cx.now in
    let t = predicate_kind_tree m c.args.body.now in
    elim c.if-has_escaping_bound_vars.branch [
      | then-has_escaping_bound_vars+in_ok-collect_fields w ↦
          let fs = w.predicate_fields.result in
          ap (λ v. v.items) w.vars-is ∙ w.in_ok-collect_fields.ensures
          ∙ ap (λ us. with_vars us (uses 0 (fields_tree m fs))) c.new-vars.ensures.items
          ∙ ap (with_vars []) (uses_fields m c.args.body.now fs w.predicate_fields.ensures)
      | else-has_escaping_bound_vars w ↦
          ap (λ v. v.items) w.vars-is ∙ c.new-vars.ensures.items
          ∙ ap (with_vars [])
          (sym (none_used 0 t (sym c.has_escaping_bound_vars.ensures ∙ w.if-has_escaping_bound_vars.false)))
    ]
