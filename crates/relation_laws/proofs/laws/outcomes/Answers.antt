use Rattle.relation_semantics.proofs.Composing.{relates_later, relates_under_more, no_parts_relate, parts_compose, forms_relate, front_begins, front_goes_on, front_ends}
use Rattle.relation_laws.proofs.laws.outcomes.Goals as goal

pub returns : goal.returns
returns c = record { later = relates_later; under_more = relates_under_more; no_parts = no_parts_relate; parts = parts_compose; forms = forms_relate; begins = front_begins; goes_on = front_goes_on; ends = front_ends }
