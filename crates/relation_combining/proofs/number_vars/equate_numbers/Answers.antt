use Rattle.std.proofs.Common.{◌≡◌, sym, ap, ◌∙◌, subst, subst₂}
use Rattle.relation_terms.specs.Heads.{int_var, float_var}
use Rattle.relation_semantics.specs.ContextCalls.{IsUnresolved, EquatesTwo}
use Rattle.relation_combining.specs.NumberVars.{number_kind, number_of}
use Rattle.relation_combining.proofs.number_vars.equate_numbers.Goals as goal

pub equate_int_vids_raw-requires-clause-a_unresolved : goal.equate_int_vids_raw-requires-clause-a_unresolved
equate_int_vids_raw-requires-clause-a_unresolved g c =
    subst (λ z. IsUnresolved (g.Infcx.InferCtxtLike.state c.args.infcx.now) (number_kind z) (number_of z)) c.in-Int.is
    c.requires.a_unresolved

pub equate_int_vids_raw-requires-clause-b_unresolved : goal.equate_int_vids_raw-requires-clause-b_unresolved
equate_int_vids_raw-requires-clause-b_unresolved g c =
    subst (λ z. IsUnresolved (g.Infcx.InferCtxtLike.state c.args.infcx.now) (number_kind z) (number_of z)) c.in-Int-b.is
    c.requires.b_unresolved

pub returns-in-Int-b-clause-one_kind : goal.returns-in-Int-b-clause-one_kind
returns-in-Int-b-clause-one_kind g c = λ _. ap number_kind c.in-Int-b.is ∙ sym (ap number_kind c.in-Int.is)

pub returns-in-Int-b-clause-equates : goal.returns-in-Int-b-clause-equates
returns-in-Int-b-clause-equates g c = λ _.
    let s = g.Infcx.InferCtxtLike.state c.args.infcx.now in
    let q = g.Infcx.InferCtxtLike.state c.equate_int_vids_raw.new.self in
    subst₂ (λ z w. EquatesTwo s q (number_kind z) (number_of z) (number_of w)) (sym c.in-Int.is) (sym c.in-Int-b.is)
    c.equate_int_vids_raw.ensures.equates

pub returns-in_default-clause-unlike : goal.returns-in_default-clause-unlike
returns-in_default-clause-unlike g c =
    λ _ e. (let h : float_var ≡ int_var = sym (ap number_kind c.in_default.is) ∙ e ∙ ap number_kind c.in-Int.is in cc)

pub equate_float_vids_raw-requires-clause-a_unresolved : goal.equate_float_vids_raw-requires-clause-a_unresolved
equate_float_vids_raw-requires-clause-a_unresolved g c =
    subst (λ z. IsUnresolved (g.Infcx.InferCtxtLike.state c.args.infcx.now) (number_kind z) (number_of z)) c.in-Float.is
    c.requires.a_unresolved

pub equate_float_vids_raw-requires-clause-b_unresolved : goal.equate_float_vids_raw-requires-clause-b_unresolved
equate_float_vids_raw-requires-clause-b_unresolved g c =
    subst (λ z. IsUnresolved (g.Infcx.InferCtxtLike.state c.args.infcx.now) (number_kind z) (number_of z)) c.in-Float-b.is
    c.requires.b_unresolved

pub returns-in-Float-b-clause-one_kind : goal.returns-in-Float-b-clause-one_kind
returns-in-Float-b-clause-one_kind g c = λ _. ap number_kind c.in-Float-b.is ∙ sym (ap number_kind c.in-Float.is)

pub returns-in-Float-b-clause-equates : goal.returns-in-Float-b-clause-equates
returns-in-Float-b-clause-equates g c = λ _.
    let s = g.Infcx.InferCtxtLike.state c.args.infcx.now in
    let q = g.Infcx.InferCtxtLike.state c.equate_float_vids_raw.new.self in
    subst₂ (λ z w. EquatesTwo s q (number_kind z) (number_of z) (number_of w)) (sym c.in-Float.is) (sym c.in-Float-b.is)
    c.equate_float_vids_raw.ensures.equates

pub returns-in_default-b-clause-unlike : goal.returns-in_default-b-clause-unlike
returns-in_default-b-clause-unlike g c =
    λ _ e. (let h : int_var ≡ float_var = sym (ap number_kind c.in_default-b.is) ∙ e ∙ ap number_kind c.in-Float.is in cc)
