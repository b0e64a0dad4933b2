use Rattle.std.proofs.Common.{sym, ap, ap₂, ◌∙◌}
use Rattle.relation_terms.specs.Heads.{atom, array, slice, raw_ptr, ref, value_leaf}
use Rattle.relation_terms.specs.Trees.{leaf, node, nil, cons}
use Rattle.relation_terms.specs.declared.terms.generic_arg.GenericArgKind.TheVariants.{Lifetime, Ty, Const}
use Rattle.relation_terms.specs.Meaning.{value_tree}
use Rattle.text_terms.specs.Terms.{text_term_tree}
use Rattle.relation_folds.proofs.FieldFolding.{both_known}
use Rattle.text_terms.proofs.BuildingLemmas.{alone_known, makes}
use Rattle.text_terms.proofs.building.making.make_fixed.Goals as goal

pub make_ty-requires : goal.make_ty-requires
make_ty-requires g c = alone_known ((g.I.Interner.meaning c.args.cx.now).ty c.in_ok-element-in-Slice.element) (c.requires c.in-Slice.element (Ty c.in_ok-element-in-Slice.element) c.in_ok-element-in-Slice.ensures)

pub make_ty-requires-in-Array : goal.make_ty-requires-in-Array
make_ty-requires-in-Array g c =
    let m = g.I.Interner.meaning c.args.cx.now in
    both_known (m.ty c.in_ok-element-in-Array.element) (m.const_ c.in_ok-length-in-Array.length)
    (c.requires c.in-Array.element (Ty c.in_ok-element-in-Array.element) c.in_ok-element-in-Array.ensures)
    (c.requires c.in-Array.length (Const c.in_ok-length-in-Array.length) c.in_ok-length-in-Array.ensures)

pub make_ty-requires-in-RawPtr : goal.make_ty-requires-in-RawPtr
make_ty-requires-in-RawPtr g c = alone_known ((g.I.Interner.meaning c.args.cx.now).ty c.in_ok-pointee-in-RawPtr.pointee) (c.requires c.in-RawPtr.pointee (Ty c.in_ok-pointee-in-RawPtr.pointee) c.in_ok-pointee-in-RawPtr.ensures)

pub make_ty-requires-in-Ref : goal.make_ty-requires-in-Ref
make_ty-requires-in-Ref g c =
    let m = g.I.Interner.meaning c.args.cx.now in
    both_known (m.region c.in_ok-region-in-Ref.region) (m.ty c.in_ok-pointee-in-Ref.pointee)
    (c.requires c.in-Ref.region (Lifetime c.in_ok-region-in-Ref.region) c.in_ok-region-in-Ref.ensures)
    (c.requires c.in-Ref.pointee (Ty c.in_ok-pointee-in-Ref.pointee) c.in_ok-pointee-in-Ref.ensures)

pub make_value-requires-clause-ty_known : goal.make_value-requires-clause-ty_known
make_value-requires-clause-ty_known g c = c.requires c.in-Number.ty (Ty c.in_ok-ty-in-Number.ty) c.in_ok-ty-in-Number.ensures

pub returns-in_ok-element-in-Slice-clause-made : goal.returns-in_ok-element-in-Slice-clause-made
returns-in_ok-element-in-Slice-clause-made g c items names parts =
    makes (g.I.Interner.meaning c.args.cx.now) (g.I.Interner.meaning c.make_ty.new.cx) c.args.built.now (λ ts. text_term_tree items names parts ts c.args.term) _ c.make_ty.result
    c.make_ty.ensures.made
    (λ trees b. ap (λ z. node slice (cons z nil)) (b c.in-Slice.element (Ty c.in_ok-element-in-Slice.element) c.in_ok-element-in-Slice.ensures) ∙ sym (ap (text_term_tree items names parts trees) c.in-Slice.is))

pub returns-in_ok-length-in-Array-clause-made : goal.returns-in_ok-length-in-Array-clause-made
returns-in_ok-length-in-Array-clause-made g c items names parts =
    makes (g.I.Interner.meaning c.args.cx.now) (g.I.Interner.meaning c.make_ty-in-Array.new.cx) c.args.built.now (λ ts. text_term_tree items names parts ts c.args.term) _ c.make_ty-in-Array.result
    c.make_ty-in-Array.ensures.made
    (λ trees b. ap₂ (λ y z. node array (cons y (cons z nil))) (b c.in-Array.element (Ty c.in_ok-element-in-Array.element) c.in_ok-element-in-Array.ensures)
    (b c.in-Array.length (Const c.in_ok-length-in-Array.length) c.in_ok-length-in-Array.ensures) ∙ sym (ap (text_term_tree items names parts trees) c.in-Array.is))

pub returns-in_ok-pointee-in-RawPtr-clause-made : goal.returns-in_ok-pointee-in-RawPtr-clause-made
returns-in_ok-pointee-in-RawPtr-clause-made g c items names parts =
    makes (g.I.Interner.meaning c.args.cx.now) (g.I.Interner.meaning c.make_ty-in-RawPtr.new.cx) c.args.built.now (λ ts. text_term_tree items names parts ts c.args.term) _ c.make_ty-in-RawPtr.result
    c.make_ty-in-RawPtr.ensures.made
    (λ trees b. ap (λ z. node (raw_ptr c.in-RawPtr.mutability) (cons z nil)) (b c.in-RawPtr.pointee (Ty c.in_ok-pointee-in-RawPtr.pointee) c.in_ok-pointee-in-RawPtr.ensures) ∙ sym (ap (text_term_tree items names parts trees) c.in-RawPtr.is))

pub returns-in_ok-pointee-in-Ref-clause-made : goal.returns-in_ok-pointee-in-Ref-clause-made
returns-in_ok-pointee-in-Ref-clause-made g c items names parts =
    makes (g.I.Interner.meaning c.args.cx.now) (g.I.Interner.meaning c.make_ty-in-Ref.new.cx) c.args.built.now (λ ts. text_term_tree items names parts ts c.args.term) _ c.make_ty-in-Ref.result
    c.make_ty-in-Ref.ensures.made
    (λ trees b. ap₂ (λ y z. node (ref c.in-Ref.mutability) (cons y (cons z nil))) (b c.in-Ref.region (Lifetime c.in_ok-region-in-Ref.region) c.in_ok-region-in-Ref.ensures)
    (b c.in-Ref.pointee (Ty c.in_ok-pointee-in-Ref.pointee) c.in_ok-pointee-in-Ref.ensures) ∙ sym (ap (text_term_tree items names parts trees) c.in-Ref.is))

pub returns-in_ok-ty-in-Number-clause-made : goal.returns-in_ok-ty-in-Number-clause-made
returns-in_ok-ty-in-Number-clause-made g c items names parts =
    makes (g.I.Interner.meaning c.args.cx.now) (g.I.Interner.meaning c.make_value.new.cx) c.args.built.now (λ ts. text_term_tree items names parts ts c.args.term) _ c.make_value.result
    c.make_value.ensures.made
    (λ trees b. ap (λ z. value_tree z (leaf (atom (value_leaf c.in-Number.bits c.in-Number.size)))) (b c.in-Number.ty (Ty c.in_ok-ty-in-Number.ty) c.in_ok-ty-in-Number.ensures) ∙ sym (ap (text_term_tree items names parts trees) c.in-Number.is))
