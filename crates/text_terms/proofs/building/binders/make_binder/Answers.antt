use Rattle.std.proofs.Common.{sym, ap, ap₂, ◌∙◌, subst, IsTrue, Some, slice_range}
use Rattle.relation_terms.specs.Trees.{known, list_tree}
use Rattle.relation_terms.specs.Meaning.{arg_tree, bound_kinds}
use Rattle.relation_terms.specs.declared.terms.generic_arg.GenericArgKind.TheVariants.{Ty}
use Rattle.text_terms.specs.Terms.{text_term_tree, fn_ptr_tree, unsafe_binder_tree}
use Rattle.text_terms.proofs.BuildingLemmas.{known_list, built_list, makes}
use Rattle.text_terms.proofs.building.binders.make_binder.Goals as goal

pub make_fn_ptr-requires : goal.make_fn_ptr-requires
make_fn_ptr-requires g c =
    let m = g.I.Interner.meaning c.args.cx.now in
    subst (λ u. IsTrue (known u)) (sym (ap (list_tree (arg_tree m)) c.deref-in-FnPtr.ensures.value))
    (known_list (arg_tree m) c.args.built.now c.requires (slice_range c.args.numbers.now (c.in-FnPtr.types).first (c.in-FnPtr.types).behind) c.in_ok-types-in-FnPtr.types.items c.in_ok-types-in-FnPtr.ensures)

pub make_unsafe_binder-requires : goal.make_unsafe_binder-requires
make_unsafe_binder-requires g c = c.requires c.in-UnsafeBinder.ty (Ty c.in_ok-ty-in-UnsafeBinder.ty) c.in_ok-ty-in-UnsafeBinder.ensures

pub returns-in_ok-types-in-FnPtr-clause-made : goal.returns-in_ok-types-in-FnPtr-clause-made
returns-in_ok-types-in-FnPtr-clause-made g c items names =
    let m = g.I.Interner.meaning c.args.cx.now in
    makes m (g.I.Interner.meaning c.make_fn_ptr.new.cx) c.args.built.now (λ ts. text_term_tree items names c.args.numbers.now ts c.args.term)
    (fn_ptr_tree c.in-FnPtr.header (Some (bound_kinds m c.deref.result.now)) (list_tree (arg_tree m) c.deref-in-FnPtr.result.now)) c.make_fn_ptr.result c.make_fn_ptr.ensures.made
    (λ trees b. ap₂ (fn_ptr_tree c.in-FnPtr.header)
    (ap (λ vs. Some (bound_kinds m vs)) c.deref.ensures.value ∙ sym (c.in_ok-variables-in-FnPtr.ensures trees b))
    (ap (list_tree (arg_tree m)) c.deref-in-FnPtr.ensures.value
    ∙ built_list (arg_tree m) c.args.built.now trees b (slice_range c.args.numbers.now (c.in-FnPtr.types).first (c.in-FnPtr.types).behind) c.in_ok-types-in-FnPtr.types.items c.in_ok-types-in-FnPtr.ensures)
    ∙ sym (ap (text_term_tree items names c.args.numbers.now trees) c.in-FnPtr.is))

pub returns-in_ok-ty-in-UnsafeBinder-clause-made : goal.returns-in_ok-ty-in-UnsafeBinder-clause-made
returns-in_ok-ty-in-UnsafeBinder-clause-made g c items names =
    let m = g.I.Interner.meaning c.args.cx.now in
    makes m (g.I.Interner.meaning c.make_unsafe_binder.new.cx) c.args.built.now (λ ts. text_term_tree items names c.args.numbers.now ts c.args.term)
    (unsafe_binder_tree (Some (bound_kinds m c.deref-in-UnsafeBinder.result.now)) (m.ty c.in_ok-ty-in-UnsafeBinder.ty)) c.make_unsafe_binder.result c.make_unsafe_binder.ensures.made
    (λ trees b. ap₂ unsafe_binder_tree
    (ap (λ vs. Some (bound_kinds m vs)) c.deref-in-UnsafeBinder.ensures.value ∙ sym (c.in_ok-variables-in-UnsafeBinder.ensures trees b))
    (b c.in-UnsafeBinder.ty (Ty c.in_ok-ty-in-UnsafeBinder.ty) c.in_ok-ty-in-UnsafeBinder.ensures) ∙ sym (ap (text_term_tree items names c.args.numbers.now trees) c.in-UnsafeBinder.is))
