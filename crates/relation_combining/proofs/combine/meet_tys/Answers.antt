use Rattle.std.proofs.Common.{◌≡◌, refl, ap, ◌∙◌, Err}
use Rattle.relation_terms.specs.Heads.{variable}
use Rattle.relation_terms.specs.Trees.{leaf}
use Rattle.relation_combining.specs.Combining.{equated, left_bound, right_bound, ty_variable}
use Rattle.relation_combining.specs.NumberVars.{number_kind, number_of}
use Rattle.relation_combining.proofs.Shallowly.{variable_made}
use Rattle.relation_combining.proofs.NumberVars.{is_number}
use Rattle.relation_combining.proofs.combine.meet_tys.Goals as goal
use Rattle.relation_semantics.proofs.AliasSteps.{shallow_free}

pub equate_numbers-requires-clause-a_unresolved : goal.equate_numbers-requires-clause-a_unresolved
equate_numbers-requires-clause-a_unresolved g c =
    let s = g.Infcx.InferCtxtLike.state c.args.infcx.now in
    let v = c.in-Some.x in
    let t = (s.meaning).ty c.args.a.now in (
      variable_made s.store (number_kind v) (number_of v) t c.in-Some.ensures.is c.requires.a_in,
      shallow_free s.store (number_kind v) (number_of v) t c.in-Some.ensures.is c.requires.a_shallow,
    )

pub equate_numbers-requires-clause-b_unresolved : goal.equate_numbers-requires-clause-b_unresolved
equate_numbers-requires-clause-b_unresolved g c =
    let s = g.Infcx.InferCtxtLike.state c.args.infcx.now in
    let v = c.in-Some-number_var.y in
    let t = (s.meaning).ty c.args.b.now in (
      variable_made s.store (number_kind v) (number_of v) t c.in-Some-number_var.ensures.is c.requires.b_in,
      shallow_free s.store (number_kind v) (number_of v) t c.in-Some-number_var.ensures.is c.requires.b_shallow,
    )

pub bind_number-requires-clause-unresolved : goal.bind_number-requires-clause-unresolved
bind_number-requires-clause-unresolved g c =
    let s = g.Infcx.InferCtxtLike.state c.args.infcx.now in
    let v = c.in-Some.x in
    let t = (s.meaning).ty c.args.a.now in (
      variable_made s.store (number_kind v) (number_of v) t c.in-Some.ensures.is c.requires.a_in,
      shallow_free s.store (number_kind v) (number_of v) t c.in-Some.ensures.is c.requires.a_shallow,
    )

pub bind_number-requires-in-Some-number_var-2-clause-unresolved :
    goal.bind_number-requires-in-Some-number_var-2-clause-unresolved
bind_number-requires-in-Some-number_var-2-clause-unresolved g c =
    let s = g.Infcx.InferCtxtLike.state c.args.infcx.now in
    let v = c.in-Some-number_var-2.y in
    let t = (s.meaning).ty c.args.b.now in (
      variable_made s.store (number_kind v) (number_of v) t c.in-Some-number_var-2.ensures.is c.requires.b_in,
      shallow_free s.store (number_kind v) (number_of v) t c.in-Some-number_var-2.ensures.is c.requires.b_shallow,
    )

pub returns-then-not-are_no_ty_vars-clause-combines : goal.returns-then-not-are_no_ty_vars-clause-combines
returns-then-not-are_no_ty_vars-clause-combines g c =
    ty_variable (c.if-not-are_no_ty_vars.ensures.one refl) refl (ap Err c.unlike_numbers-then-not-are_no_ty_vars.ensures)

pub returns-else-not-equate_numbers-clause-combines : goal.returns-else-not-equate_numbers-clause-combines
returns-else-not-equate_numbers-clause-combines g c =
    let s = g.Infcx.InferCtxtLike.state c.args.infcx.now in
    let done = c.if-not-equate_numbers.ensures in
    let two = done.equates refl in
    let v = c.in-Some.x in
    let w = c.in-Some-number_var.y in
    let one : (s.meaning).ty c.args.b.now ≡ leaf (variable (number_kind v) (number_of w)) =
    c.in-Some-number_var.ensures.is ∙ ap (λ k. leaf (variable k (number_of w))) (done.one_kind refl) in
    equated (number_kind v) (number_of v) (number_of w) (is_number v) c.in-Some.ensures.is one
    (record { same = two.same; equates = two.equates }) refl

pub returns-else-not-bind_number-clause-combines : goal.returns-else-not-bind_number-clause-combines
returns-else-not-bind_number-clause-combines g c =
    let v = c.in-Some.x in
    left_bound (number_kind v) (number_of v) c.in-Some.ensures.is (c.if-not-bind_number.ensures.binds refl).binds refl

pub returns-else-not-bind_number-2-clause-combines : goal.returns-else-not-bind_number-2-clause-combines
returns-else-not-bind_number-2-clause-combines g c =
    let v = c.in-Some-number_var-2.y in
    right_bound (number_kind v) (number_of v) c.in-Some-number_var-2.ensures.is
    (c.if-not-bind_number-2.ensures.binds refl).binds refl
