use Rattle.std.proofs.Common.{sym, ap, ◌∙◌}
use Rattle.relation_terms.specs.Heads.{slice, ref}
use Rattle.relation_terms.specs.Meaning.{kind_tree}
use Rattle.relation_terms.specs.declared.terms.generic_arg.GenericArgKind.TheVariants.{Ty as TyArg}
use Rattle.relation_terms.specs.Interning.{Sorted}
use Rattle.walk.specs.Places.{places_under}
use Rattle.walk.proofs.Placing.{pushes_one, pushes_as, slice_places, ref_places}
use Rattle.walk.proofs.places.push_under_ty.Goals as goal

pub returns-in_ok-push-in-Slice : goal.returns-in_ok-push-in-Slice
returns-in_ok-push-in-Slice g c =
    let m = g.I.Interner.meaning c.args.cx.now in
    let sorted : Sorted m = g.met.I.Interner.sorted c.args.cx.now in
    let e = c.ty_kind-kind.ensures ∙ ap (kind_tree m) c.in-Slice.is in
    pushes_one m _ _ (TyArg c.in-Slice.element) _ c.in_ok-push-in-Slice.ensures.ok
    (slice_places m sorted (m.ty c.args.ty.now) slice c.in-Slice.element e c.requires)

pub returns-in_ok-push-in-Ref-2 : goal.returns-in_ok-push-in-Ref-2
returns-in_ok-push-in-Ref-2 g c =
    let m = g.I.Interner.meaning c.args.cx.now in
    let sorted : Sorted m = g.met.I.Interner.sorted c.args.cx.now in
    let e = c.ty_kind-kind.ensures ∙ ap (kind_tree m) c.in-Ref.is in
    ref_places m sorted (m.ty c.args.ty.now) (ref c.in-Ref.field-2) c.in-Ref.region c.in-Ref.pointee e c.requires _ _ _
    c.in_ok-push-in-Ref.ensures.ok c.in_ok-push-in-Ref-2.ensures.ok

pub returns-in_ok-push_tys-in-Tuple : goal.returns-in_ok-push_tys-in-Tuple
returns-in_ok-push_tys-in-Tuple g c =
    let m = g.I.Interner.meaning c.args.cx.now in
    let e = c.ty_kind-kind.ensures ∙ ap (kind_tree m) c.in-Tuple.is in
    pushes_as m _ _ _ _ (sym (ap places_under e)) c.in_ok-push_tys-in-Tuple.ensures
