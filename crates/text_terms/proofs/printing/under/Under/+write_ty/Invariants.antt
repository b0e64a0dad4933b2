use Rattle.std.proofs.Common.{◌+◌, ◌*◌}
use Rattle.relation_terms.specs.Trees.{size, list_tree}
use Rattle.relation_terms.specs.Meaning.{arg_tree, under, sig_of, signature_tree, term_tree}
use Rattle.relation_terms.specs.Meaning.{object_predicate_tree}
use Rattle.text_terms.proofs.printing.under.Under.+write_ty.Given as goal

abbrev pub decreases-write_ty : goal.decreases-write_ty
decreases-write_ty g l = 4 * size ((g.I.Interner.meaning l.self.now.cx.now).ty l.ty.now)

abbrev pub decreases-write_array : goal.decreases-write_array
decreases-write_array g l =
    let m = g.I.Interner.meaning l.self.now.cx.now in
    4 * (size (m.ty l.element.now) + size (m.const_ l.length.now)) + 1

abbrev pub decreases-write_tuple : goal.decreases-write_tuple
decreases-write_tuple g l = 4 * size ((g.I.Interner.meaning l.self.now.cx.now).tys l.members.now)

abbrev pub decreases-write_item : goal.decreases-write_item
decreases-write_item g l = 4 * size ((g.I.Interner.meaning l.self.now.cx.now).args l.args.now) + 3

abbrev pub decreases-write_associated : goal.decreases-write_associated
decreases-write_associated g l = 4 * size ((g.I.Interner.meaning l.self.now.cx.now).args l.args.now) + 2

abbrev pub decreases-write_named : goal.decreases-write_named
decreases-write_named g l = 4 * size ((g.I.Interner.meaning l.self.now.cx.now).args l.args.now) + 1

abbrev pub decreases-write_expression : goal.decreases-write_expression
decreases-write_expression g l = 4 * size ((g.I.Interner.meaning l.self.now.cx.now).args l.args.now) + 1

abbrev pub decreases-write_args : goal.decreases-write_args
decreases-write_args g l = 4 * size ((g.I.Interner.meaning l.self.now.cx.now).args l.args.now)

abbrev pub decreases-write_arg : goal.decreases-write_arg
decreases-write_arg g l = 4 * size (arg_tree (g.I.Interner.meaning l.self.now.cx.now) l.arg.now) + 1

abbrev pub decreases-write_any_arg : goal.decreases-write_any_arg
decreases-write_any_arg g l = 4 * size (arg_tree (g.I.Interner.meaning l.self.now.cx.now) l.arg.now) + 2

abbrev pub decreases-write_pattern_type : goal.decreases-write_pattern_type
decreases-write_pattern_type g l =
    let m = g.I.Interner.meaning l.self.now.cx.now in
    4 * (size (m.ty l.base.now) + size (m.pat l.pat.now)) + 1

abbrev pub decreases-write_pattern : goal.decreases-write_pattern
decreases-write_pattern g l = 4 * size ((g.I.Interner.meaning l.self.now.cx.now).pat l.pat.now)

abbrev pub decreases-write_alternatives : goal.decreases-write_alternatives
decreases-write_alternatives g l = 4 * size ((g.I.Interner.meaning l.self.now.cx.now).alternatives l.alternatives.now)

abbrev pub decreases-write_alternative : goal.decreases-write_alternative
decreases-write_alternative g l = 4 * size ((g.I.Interner.meaning l.self.now.cx.now).pat l.pat.now) + 1

abbrev pub decreases-write_const : goal.decreases-write_const
decreases-write_const g l = 4 * size ((g.I.Interner.meaning l.self.now.cx.now).const_ l.constant.now)

abbrev pub decreases-write_value : goal.decreases-write_value
decreases-write_value g l =
    let m = g.I.Interner.meaning l.self.now.cx.now in
    4 * (size (m.ty l.ty.now) + size (m.valtree l.value.now)) + 1

abbrev pub decreases-write_valtree : goal.decreases-write_valtree
decreases-write_valtree g l = 4 * size ((g.I.Interner.meaning l.self.now.cx.now).valtree l.value.now)

abbrev pub decreases-write_operand : goal.decreases-write_operand
decreases-write_operand g l = 4 * size ((g.I.Interner.meaning l.self.now.cx.now).ty l.ty.now) + 1

abbrev pub decreases-write_fn_ptr : goal.decreases-write_fn_ptr
decreases-write_fn_ptr g l =
    let m = g.I.Interner.meaning l.self.now.cx.now in
    4 * size (under (m.bound_vars (l.types.now).bound_vars) (signature_tree m (sig_of (l.types.now).value l.header.now)))

abbrev pub decreases-write_signature : goal.decreases-write_signature
decreases-write_signature g l = 4 * size ((g.I.Interner.meaning l.self.now.cx.now).tys l.types.now)

abbrev pub decreases-write_unsafe_binder : goal.decreases-write_unsafe_binder
decreases-write_unsafe_binder g l =
    let m = g.I.Interner.meaning l.self.now.cx.now in
    4 * size (under (m.bound_vars (l.body.now).bound_vars) (m.ty (l.body.now).value))

abbrev pub decreases-write_object : goal.decreases-write_object
decreases-write_object g l =
    4 * size ((g.I.Interner.meaning l.self.now.cx.now).existential_predicates l.predicates.now) + 2

abbrev pub decreases-write_object_predicates : goal.decreases-write_object_predicates
decreases-write_object_predicates g l =
    4 * size ((g.I.Interner.meaning l.self.now.cx.now).existential_predicates l.predicates.now) + 1

abbrev pub decreases-write_object_bound : goal.decreases-write_object_bound
decreases-write_object_bound g l =
    let m = g.I.Interner.meaning l.self.now.cx.now in
    4 * size (list_tree (object_predicate_tree m) l.bound.now)

abbrev pub decreases-write_trait : goal.decreases-write_trait
decreases-write_trait g l =
    let m = g.I.Interner.meaning l.self.now.cx.now in
    4 * (size (m.args (l.of.now).args) + size (list_tree (object_predicate_tree m) l.assigned.now)) + 1

abbrev pub decreases-write_assigned : goal.decreases-write_assigned
decreases-write_assigned g l = 4 * size (object_predicate_tree (g.I.Interner.meaning l.self.now.cx.now) l.predicate.now)

abbrev pub decreases-write_projection : goal.decreases-write_projection
decreases-write_projection g l =
    let m = g.I.Interner.meaning l.self.now.cx.now in
    4 * (size (m.args (l.of.now).args) + size (term_tree m (l.of.now).term)) + 2

abbrev pub decreases-write_term : goal.decreases-write_term
decreases-write_term g l = 4 * size (term_tree (g.I.Interner.meaning l.self.now.cx.now) l.term.now) + 2
