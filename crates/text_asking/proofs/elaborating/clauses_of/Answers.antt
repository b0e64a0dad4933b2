use Rattle.text_asking.proofs.elaborating.clauses_of.Goals as goal

pub build_clauses-requires : goal.build_clauses-requires
build_clauses-requires g c = c.requires
