use Rattle.relation_semantics.proofs.Erased.{erasure_assigns, forms_unify_by_parts, types_of_values_unify, lists_unify_by_items, unlike_forms_do_not_unify, erased_occurs_check, invariant_terms_are_alike}
use Rattle.relation_laws.proofs.laws.erasing.Goals as goal

pub returns : goal.returns
returns c = record { assigns = erasure_assigns; forms = forms_unify_by_parts; types_of_values = types_of_values_unify; lists = lists_unify_by_items; unlike = unlike_forms_do_not_unify; occurs = erased_occurs_check; alike = invariant_terms_are_alike }
