use Rattle.std.proofs.Common.{◌∙◌, ap}
use Rattle.relation_terms.specs.Fields.{fields_tree, parts_under}
use Rattle.relation_terms.proofs.Stays.{knows_as}
use Rattle.relation_terms.proofs.Fields.{predicate_seen, known_under_parts}
use Rattle.relation_terms.proofs.terms.parts.predicates.fields_of_predicate.Goals as goal

pub returns : goal.returns
returns g c =
    let m = g.I.Interner.meaning c.args.cx.now in
    let t = m.predicate c.args.predicate.now in
    let seen = ap (fields_tree m) c.predicate_fields.ensures
    ∙ predicate_seen m c.predicate_kind.result t c.predicate_kind.ensures c.requires in
    record {
      sure = knows_as (parts_under t) (fields_tree m c.predicate_fields.result) seen (known_under_parts t c.requires);
      means = seen;
    }
