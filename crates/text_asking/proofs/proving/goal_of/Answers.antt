use Rattle.text_asking.proofs.proving.goal_of.Goals as goal

pub build_clause-requires : goal.build_clause-requires
build_clause-requires g c = c.requires
