use Rattle.std.proofs.Common.{rules, refl}
use Rattle.relation_terms.specs.Trees.{list_tree}
use Rattle.relation_terms.specs.Meaning.{arg_tree, kind_tree, object_predicate_tree}
use Rattle.text_terms.proofs.Parts.{part_of, range_of, over_part, has_size}
use Rattle.text_terms.proofs.printing.under.Under.+write_ty.Goals as goal

pub write_args-write_arg-requires : goal.write_args-write_arg-requires
write_args-write_arg-requires g t c κs within =
    let m = g.I.Interner.meaning c.args.self.now.cx.now in
    let d = c.decreases in
    let part =
    part_of (arg_tree m) (m.args c.args.args.now) c.args-arg-items.result.now c.loop-place.place c.arg-item.result
    c.arg-item.is c.args-arg-items.ensures c.loop-place-test.true c.requires in
    let sure = part.0 in
    let small = part.1 in
    search rules

pub write_expression-write_any_arg-requires : goal.write_expression-write_any_arg-requires
write_expression-write_any_arg-requires g t c κs within =
    let m = g.I.Interner.meaning c.args.self.now.cx.now in
    let d = c.decreases in
    let part =
    part_of (arg_tree m) (m.args c.args.args.now) c.args-arg-items.result.now c.loop-place.place c.arg-item.result
    c.arg-item.is c.args-arg-items.ensures c.loop-place-test.true c.requires in
    let sure = part.0 in
    let small = part.1 in
    search rules

pub write_trait-write_assigned-requires : goal.write_trait-write_assigned-requires
write_trait-write_assigned-requires g t c κs within =
    let m = g.I.Interner.meaning c.args.self.now.cx.now in
    let d = c.decreases in
    let part =
    part_of (object_predicate_tree m) (list_tree (object_predicate_tree m) c.args.assigned.now)
    c.args.assigned.now c.loop-place.place c.index-assigned-place.result c.index-assigned-place.is
    refl c.loop-place-test.true c.requires.assigned in
    let sure = part.0 in
    let small = part.1 in
    search rules

pub write_object_predicates-write_object_bound-requires : goal.write_object_predicates-write_object_bound-requires
write_object_predicates-write_object_bound-requires g t c κs within =
    let m = g.I.Interner.meaning c.args.self.now.cx.now in
    let d = c.decreases in
    let part =
    range_of (object_predicate_tree m) (m.existential_predicates c.args.predicates.now)
    c.existential_predicates-list.result.now c.in-Some.bound.now c.loop-place.place _ c.in-Some.ensures
    c.existential_predicates-list.ensures c.requires in
    let sure = part.0 in
    let small = part.1 in
    search rules

pub write_ty-write_item-requires : goal.write_ty-write_item-requires
write_ty-write_item-requires g t c κs within =
    let m = g.I.Interner.meaning c.args.self.now.cx.now in
    let d = c.decreases in
    let part =
    over_part (m.ty c.args.ty.now) (kind_tree m c.ty_kind-kind.result) (m.args c.in-Some.over.1) c.ty_kind-kind.ensures
    (c.in-Some.ensures m) c.requires in
    let sure = part.0 in
    let small = part.1 in
    search rules

pub write_projection-write_term-requires : goal.write_projection-write_term-requires
write_projection-write_term-requires g t c κs within =
    let m = g.I.Interner.meaning c.args.self.now.cx.now in
    let d = c.decreases in
    let sure = c.requires.term in
    let some = has_size (m.args (c.args.of.now).args) in
    search rules
