use Rattle.std.proofs.Common.{sym, ap, ◌∙◌, subst, subst₂}
use Rattle.relation_terms.specs.Heads.{int_var, float_var}
use Rattle.relation_semantics.specs.Steps.{IsNumberFor}
use Rattle.relation_semantics.specs.ContextCalls.{IsUnresolved, BindsNumber}
use Rattle.relation_combining.specs.NumberVars.{number_kind, number_of}
use Rattle.relation_combining.proofs.NumberVars.{int_is, float_is, no_int, no_float, int_known, float_known}
use Rattle.relation_combining.proofs.number_vars.bind_number.Goals as goal

pub instantiate_int_var_raw-requires-clause-unresolved : goal.instantiate_int_var_raw-requires-clause-unresolved
instantiate_int_var_raw-requires-clause-unresolved g c =
    subst (λ z. IsUnresolved (g.Infcx.InferCtxtLike.state c.args.infcx.now) (number_kind z) (number_of z)) c.in-Int.is
    c.requires.unresolved

pub instantiate_int_var_raw-requires-clause-value_known : goal.instantiate_int_var_raw-requires-clause-value_known
instantiate_int_var_raw-requires-clause-value_known g c = int_known c.ty_kind-kind.result c.in-Some.value c.in-Some.ensures.is

pub returns-in-Some-clause-binds : goal.returns-in-Some-clause-binds
returns-in-Some-clause-binds g c = λ _.
    let s = g.Infcx.InferCtxtLike.state c.args.infcx.now in
    let q = g.Infcx.InferCtxtLike.state c.instantiate_int_var_raw.new.self in
    let t = c.args.ty.now in
    subst (λ z. BindsNumber s q (number_kind z) (number_of z) ((s.meaning).ty t)) (sym c.in-Int.is)
    (subst (BindsNumber s q int_var c.in-Int.x.0)
    (int_is (g.Infcx.Interner.Interner.meaning c.cx.result.now) c.ty_kind-kind.result _ c.ty_kind-kind.ensures c.in-Some.value c.in-Some.ensures.is
    ∙ ap (λ m. m.ty t) c.cx.ensures) c.instantiate_int_var_raw.ensures.binds)

pub returns-in_default-clause-unlike : goal.returns-in_default-clause-unlike
returns-in_default-clause-unlike g c = λ _ h.
    no_int (g.Infcx.Interner.Interner.meaning c.cx.result.now) c.ty_kind-kind.result _ c.ty_kind-kind.ensures c.in_default.ensures.no_int c.in_default.ensures.no_uint
    (subst₂ (λ z m. IsNumberFor (number_kind z) (m.ty c.args.ty.now)) c.in-Int.is (sym c.cx.ensures) h)

pub instantiate_float_var_raw-requires-clause-unresolved : goal.instantiate_float_var_raw-requires-clause-unresolved
instantiate_float_var_raw-requires-clause-unresolved g c =
    subst (λ z. IsUnresolved (g.Infcx.InferCtxtLike.state c.args.infcx.now) (number_kind z) (number_of z)) c.in-Float.is
    c.requires.unresolved

pub instantiate_float_var_raw-requires-clause-value_known : goal.instantiate_float_var_raw-requires-clause-value_known
instantiate_float_var_raw-requires-clause-value_known g c = float_known c.ty_kind-kind.result c.in-Some-float_value.value c.in-Some-float_value.ensures.is

pub returns-in-Some-float_value-clause-binds : goal.returns-in-Some-float_value-clause-binds
returns-in-Some-float_value-clause-binds g c = λ _.
    let s = g.Infcx.InferCtxtLike.state c.args.infcx.now in
    let q = g.Infcx.InferCtxtLike.state c.instantiate_float_var_raw.new.self in
    let t = c.args.ty.now in
    subst (λ z. BindsNumber s q (number_kind z) (number_of z) ((s.meaning).ty t)) (sym c.in-Float.is)
    (subst (BindsNumber s q float_var c.in-Float.x.0)
    (float_is (g.Infcx.Interner.Interner.meaning c.cx.result.now) c.ty_kind-kind.result _ c.ty_kind-kind.ensures c.in-Some-float_value.value c.in-Some-float_value.ensures.is
    ∙ ap (λ m. m.ty t) c.cx.ensures) c.instantiate_float_var_raw.ensures.binds)

pub returns-in_default-float_value-clause-unlike : goal.returns-in_default-float_value-clause-unlike
returns-in_default-float_value-clause-unlike g c = λ _ h.
    no_float (g.Infcx.Interner.Interner.meaning c.cx.result.now) c.ty_kind-kind.result _ c.ty_kind-kind.ensures c.in_default-float_value.ensures.no_float
    (subst₂ (λ z m. IsNumberFor (number_kind z) (m.ty c.args.ty.now)) c.in-Float.is (sym c.cx.ensures) h)
