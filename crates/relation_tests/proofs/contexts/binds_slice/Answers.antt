use Rattle.std.proofs.Common.{sym, ap, ◌∙◌, subst}
use Rattle.relation_terms.specs.Heads.{slice}
use Rattle.relation_terms.specs.Trees.{node, cons, nil}
use Rattle.relation_semantics.specs.Bound.{IsWellBound}
use Rattle.relation_tests.proofs.Atoms.{slice_made}
use Rattle.relation_tests.proofs.contexts.binds_slice.Goals as goal

pub instantiate_ty_var_raw-requires-clause-source_in : goal.instantiate_ty_var_raw-requires-clause-source_in
instantiate_ty_var_raw-requires-clause-source_in g c =
    let makes = c.in_ok-element.ensures.makes in
    slice_made _ _ _ _ _ _ _ makes.2 c.in_ok-source.ensures.store makes.1 c.in_ok-source.ensures.is

pub instantiate_ty_var_raw-requires-clause-source_by_lists : goal.instantiate_ty_var_raw-requires-clause-source_by_lists
instantiate_ty_var_raw-requires-clause-source_by_lists g c =
    let is = c.in_ok-source.ensures.is ∙ ap (λ t. node slice (cons t nil)) c.in_ok-element.ensures.makes.1 in
    subst IsWellBound (sym is) (tt, tt)

pub instantiate_ty_var_raw-requires-clause-source_no_variable : goal.instantiate_ty_var_raw-requires-clause-source_no_variable
instantiate_ty_var_raw-requires-clause-source_no_variable g c = λ n q.
    let e = sym c.in_ok-source.ensures.is ∙ q in
    cc
