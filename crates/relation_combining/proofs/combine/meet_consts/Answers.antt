use Rattle.std.proofs.Common.{refl, subst}
use Rattle.relation_terms.specs.Heads.{const_var}
use Rattle.relation_combining.specs.Combining.{roots_equated, left_root_bound, left_root_refused, right_root_bound, right_root_refused, formed_by_parts}
use Rattle.relation_semantics.specs.Parts.{IsFormedConst}
use Rattle.relation_combining.proofs.OverContext.{stands_grows}
use Rattle.relation_semantics.proofs.Passing.{as_err}
use Rattle.relation_semantics.proofs.Standing.{term_within}
use Rattle.relation_combining.proofs.Shallowly.{shallow_free_const, variable_made}
use Rattle.relation_combining.proofs.combine.meet_consts.Goals as goal

pub equate_const_vids_raw-requires-clause-a_unresolved : goal.equate_const_vids_raw-requires-clause-a_unresolved
equate_const_vids_raw-requires-clause-a_unresolved g c =
    let s = g.Infcx.InferCtxtLike.state c.args.infcx.now in
    let t = (s.meaning).const_ c.args.a.now in (
      variable_made s.store const_var c.in-Some.x.0 t c.in-Some.ensures.is c.requires.a_in,
      shallow_free_const s.store c.in-Some.x.0 t c.in-Some.ensures.is c.requires.a_shallow,
    )

pub equate_const_vids_raw-requires-clause-b_unresolved : goal.equate_const_vids_raw-requires-clause-b_unresolved
equate_const_vids_raw-requires-clause-b_unresolved g c =
    let s = g.Infcx.InferCtxtLike.state c.args.infcx.now in
    let t = (s.meaning).const_ c.args.b.now in (
      variable_made s.store const_var c.in-Some-const_var.y.0 t c.in-Some-const_var.ensures.is c.requires.b_in,
      shallow_free_const s.store c.in-Some-const_var.y.0 t c.in-Some-const_var.ensures.is c.requires.b_shallow,
    )

pub instantiate_const_var_raw-requires-clause-target_unresolved :
    goal.instantiate_const_var_raw-requires-clause-target_unresolved
instantiate_const_var_raw-requires-clause-target_unresolved g c =
    let s = g.Infcx.InferCtxtLike.state c.args.infcx.now in
    let t = (s.meaning).const_ c.args.a.now in (
      variable_made s.store const_var c.in-Some.x.0 t c.in-Some.ensures.is c.requires.a_in,
      shallow_free_const s.store c.in-Some.x.0 t c.in-Some.ensures.is c.requires.a_shallow,
    )

pub instantiate_const_var_raw-requires-in-Some-const_var-2-clause-target_unresolved :
    goal.instantiate_const_var_raw-requires-in-Some-const_var-2-clause-target_unresolved
instantiate_const_var_raw-requires-in-Some-const_var-2-clause-target_unresolved g c =
    let s = g.Infcx.InferCtxtLike.state c.args.infcx.now in
    let t = (s.meaning).const_ c.args.b.now in (
      variable_made s.store const_var c.in-Some-const_var-2.y.0 t c.in-Some-const_var-2.ensures.is c.requires.b_in,
      shallow_free_const s.store c.in-Some-const_var-2.y.0 t c.in-Some-const_var-2.ensures.is c.requires.b_shallow,
    )

pub instantiate_const_var_raw-requires-clause-source_no_variable :
    goal.instantiate_const_var_raw-requires-clause-source_no_variable
instantiate_const_var_raw-requires-clause-source_no_variable g c = λ n e.
    subst IsFormedConst e (c.in-None-const_var.ensures.formed
    (term_within (g.Infcx.InferCtxtLike.state c.args.infcx.now).store _ c.requires.b_in))

pub instantiate_const_var_raw-requires-in-Some-const_var-2-clause-source_no_variable :
    goal.instantiate_const_var_raw-requires-in-Some-const_var-2-clause-source_no_variable
instantiate_const_var_raw-requires-in-Some-const_var-2-clause-source_no_variable g c = λ n e.
    subst IsFormedConst e (c.in-None.ensures.formed
    (term_within (g.Infcx.InferCtxtLike.state c.args.infcx.now).store _ c.requires.a_in))

pub returns-in-Some-const_var-clause-grows : goal.returns-in-Some-const_var-clause-grows
returns-in-Some-const_var-clause-grows g c =
    stands_grows (g.Infcx.InferCtxtLike.state c.args.infcx.now)
    (g.Infcx.InferCtxtLike.state c.equate_const_vids_raw.new.self) c.equate_const_vids_raw.ensures.equates.stands

pub returns-in-Some-const_var-clause-combines : goal.returns-in-Some-const_var-clause-combines
returns-in-Some-const_var-clause-combines g c =
    let done = c.equate_const_vids_raw.ensures.equates in
    roots_equated c.in-Some.x.0 c.in-Some-const_var.y.0 c.in-Some.ensures.is c.in-Some-const_var.ensures.is
    (record { same = done.same; equates = done.equates }) done.stands.meaning refl

pub returns-in_err-value-in-None-const_var-clause-combines : goal.returns-in_err-value-in-None-const_var-clause-combines
returns-in_err-value-in-None-const_var-clause-combines g c =
    let f = c.in_err-value-in-None-const_var.field-0.0 in
    left_root_refused c.in-Some.x.0 f c.in-Some.ensures.is (c.in-None-const_var.ensures.formed
    (term_within (g.Infcx.InferCtxtLike.state c.args.infcx.now).store _ c.requires.b_in))
    c.in_err-value-in-None-const_var.ensures.instantiates
    (as_err c.from_residual.result f c.from_residual.ensures.0 c.from_residual.ensures.1)

pub returns-in_err-value-in-Some-const_var-2-clause-combines :
    goal.returns-in_err-value-in-Some-const_var-2-clause-combines
returns-in_err-value-in-Some-const_var-2-clause-combines g c =
    let f = c.in_err-value-in-Some-const_var-2.field-0.0 in
    let from = c.from_residual-in_err-value-in-Some-const_var-2 in
    right_root_refused c.in-Some-const_var-2.y.0 f c.in-Some-const_var-2.ensures.is
    (c.in-None.ensures.formed
    (term_within (g.Infcx.InferCtxtLike.state c.args.infcx.now).store _ c.requires.a_in)) c.in_err-value-in-Some-const_var-2.ensures.instantiates
    (as_err from.result f from.ensures.0 from.ensures.1)

pub returns-in_ok-value-in-None-const_var-clause-combines : goal.returns-in_ok-value-in-None-const_var-clause-combines
returns-in_ok-value-in-None-const_var-clause-combines g c =
    left_root_bound c.in-Some.x.0 c.in_ok-value-in-None-const_var.value c.in-Some.ensures.is
    (c.in-None-const_var.ensures.formed
    (term_within (g.Infcx.InferCtxtLike.state c.args.infcx.now).store _ c.requires.b_in)) c.in_ok-value-in-None-const_var.ensures.instantiates refl

pub returns-in_ok-value-in-Some-const_var-2-clause-combines :
    goal.returns-in_ok-value-in-Some-const_var-2-clause-combines
returns-in_ok-value-in-Some-const_var-2-clause-combines g c =
    right_root_bound c.in-Some-const_var-2.y.0 c.in_ok-value-in-Some-const_var-2.value c.in-Some-const_var-2.ensures.is
    (c.in-None.ensures.formed
    (term_within (g.Infcx.InferCtxtLike.state c.args.infcx.now).store _ c.requires.a_in)) c.in_ok-value-in-Some-const_var-2.ensures.instantiates refl

pub returns-in-None-const_var-2-clause-combines : goal.returns-in-None-const_var-2-clause-combines
returns-in-None-const_var-2-clause-combines g c = formed_by_parts (c.in-None.ensures.formed
    (term_within (g.Infcx.InferCtxtLike.state c.args.infcx.now).store _ c.requires.a_in))
    (c.in-None-const_var-2.ensures.formed
    (term_within (g.Infcx.InferCtxtLike.state c.args.infcx.now).store _ c.requires.b_in)) refl refl refl
