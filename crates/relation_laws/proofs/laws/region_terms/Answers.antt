use Rattle.context_relation.proofs.RegionTerms.{related_terms_agree, related_iff_agree}
use Rattle.relation_laws.proofs.laws.region_terms.Goals as goal

pub returns : goal.returns
returns c = record { agree = related_terms_agree; just_where = related_iff_agree }
