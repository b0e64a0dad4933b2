use Rattle.relation_laws.proofs.SmallTerms.{unlike_heads_are_unrelated, unlike_atoms_are_unrelated, atoms_are_no_forms, forms_by_parts, predicates_with_themselves_alone}
use Rattle.relation_laws.proofs.laws.forms.Goals as goal

pub returns : goal.returns
returns c = record { unlike_heads = unlike_heads_are_unrelated; unlike_atoms = unlike_atoms_are_unrelated; no_forms = atoms_are_no_forms; by_parts = forms_by_parts; predicates = predicates_with_themselves_alone }
