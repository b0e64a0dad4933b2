use Rattle.text_asking.proofs.elaborating.bound_of.Goals as goal

pub build_bound-requires : goal.build_bound-requires
build_bound-requires g c = c.requires
