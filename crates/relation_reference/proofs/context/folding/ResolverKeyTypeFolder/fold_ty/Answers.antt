use Rattle.std.proofs.Common.{◌∙◌, refl, ap}
use Rattle.relation_terms.specs.Heads.{type_var, int_var, float_var}
use Rattle.relation_terms.specs.Meaning.{kind_tree}
use Rattle.relation_terms.proofs.Stays.{stays_same}
use Rattle.relation_semantics.specs.Stores.{resolved}
use Rattle.variable_tables.specs.Tables.{store_of}
use Rattle.relation_reference.specs.Resolvers.{lawful_stays, values_stay}
use Rattle.relation_reference.proofs.Folding.{past_table, ty_value}
use Rattle.variable_tables.proofs.Writing.{table_made}
use Rattle.relation_reference.proofs.context.folding.ResolverKeyTypeFolder.fold_ty.Goals as goal

pub put_ty-requires-clause-lawful : goal.put_ty-requires-clause-lawful
put_ty-requires-clause-lawful g c =
    let m = g.I.Interner.meaning c.args.cx.now in
    (c.requires.ready m (stays_same m)).0

pub put_ty-requires-clause-variable : goal.put_ty-requires-clause-variable
put_ty-requires-clause-variable g c =
    let m = g.I.Interner.meaning c.args.cx.now in
    let x = c.args.self.now.inner.now in
    let v = c.in-Some.vid.0 in (
      type_var,
      v,
      c.ty_kind-kind.ensures ∙ ap (kind_tree m) c.in-Some.ensures.is,
      λ h. table_made m.ty x.types.items v (c.has-is_made.ensures.is h),
      λ h. past_table m.ty x.types.items v (c.has-is_made.ensures.is_not h),
    )

pub returns-in-Some-clause-steps : goal.returns-in-Some-clause-steps
returns-in-Some-clause-steps g c =
    let e = c.put_ty.ensures.grown in
    let x = c.args.self.now.inner.now in
    record { grown = e; ready = lawful_stays e x c.requires.ready; kept = λ d t. values_stay e x c.requires.ready t }

pub put_ty-requires-in-Some-int_vid-clause-lawful : goal.put_ty-requires-in-Some-int_vid-clause-lawful
put_ty-requires-in-Some-int_vid-clause-lawful g c =
    let m = g.I.Interner.meaning c.args.cx.now in
    (c.requires.ready m (stays_same m)).0

pub put_ty-requires-in-Some-int_vid-clause-variable : goal.put_ty-requires-in-Some-int_vid-clause-variable
put_ty-requires-in-Some-int_vid-clause-variable g c =
    let m = g.I.Interner.meaning c.args.cx.now in
    let x = c.args.self.now.inner.now in
    let v = c.in-Some-int_vid.vid.0 in (
      int_var,
      v,
      c.ty_kind-kind.ensures ∙ ap (kind_tree m) c.in-Some-int_vid.ensures.is,
      λ h. table_made m.ty x.ints.items v (c.has-is_made-in-Some-int_vid.ensures.is h),
      λ h. past_table m.ty x.ints.items v (c.has-is_made-in-Some-int_vid.ensures.is_not h),
    )

pub returns-in-Some-int_vid-clause-steps : goal.returns-in-Some-int_vid-clause-steps
returns-in-Some-int_vid-clause-steps g c =
    let e = c.put_ty-in-Some-int_vid.ensures.grown in
    let x = c.args.self.now.inner.now in
    record { grown = e; ready = lawful_stays e x c.requires.ready; kept = λ d t. values_stay e x c.requires.ready t }

pub put_ty-requires-in-Some-float_vid-clause-lawful : goal.put_ty-requires-in-Some-float_vid-clause-lawful
put_ty-requires-in-Some-float_vid-clause-lawful g c =
    let m = g.I.Interner.meaning c.args.cx.now in
    (c.requires.ready m (stays_same m)).0

pub put_ty-requires-in-Some-float_vid-clause-variable : goal.put_ty-requires-in-Some-float_vid-clause-variable
put_ty-requires-in-Some-float_vid-clause-variable g c =
    let m = g.I.Interner.meaning c.args.cx.now in
    let x = c.args.self.now.inner.now in
    let v = c.in-Some-float_vid.vid.0 in (
      float_var,
      v,
      c.ty_kind-kind.ensures ∙ ap (kind_tree m) c.in-Some-float_vid.ensures.is,
      λ h. table_made m.ty x.floats.items v (c.has-is_made-in-Some-float_vid.ensures.is h),
      λ h. past_table m.ty x.floats.items v (c.has-is_made-in-Some-float_vid.ensures.is_not h),
    )

pub returns-in-Some-float_vid-clause-steps : goal.returns-in-Some-float_vid-clause-steps
returns-in-Some-float_vid-clause-steps g c =
    let e = c.put_ty-in-Some-float_vid.ensures.grown in
    let x = c.args.self.now.inner.now in
    record { grown = e; ready = lawful_stays e x c.requires.ready; kept = λ d t. values_stay e x c.requires.ready t }

pub returns-clause-made : goal.returns-clause-made
returns-clause-made g c =
    let m = g.I.Interner.meaning c.args.cx.now in
    ty_value m (resolved (store_of m c.args.self.now.inner.now)) c.ty_kind-kind.result (m.ty c.args.ty.now) c.ty_kind-kind.ensures
    c.in_default.ensures.is_none c.in_default-int_vid.ensures.is_none c.in_default-float_vid.ensures.is_none

pub returns-clause-steps : goal.returns-clause-steps
returns-clause-steps g c =
    record { grown = stays_same (g.I.Interner.meaning c.args.cx.now); ready = c.requires.ready; kept = λ d t. refl }
