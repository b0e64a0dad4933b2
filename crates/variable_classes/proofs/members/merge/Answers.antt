use Rattle.std.proofs.Common.{refl}
use Rattle.variable_classes.proofs.Rounds.{merged, merged_roots}
use Rattle.variable_classes.proofs.members.merge.Goals as goal

pub returns-clause-rings : goal.returns-clause-rings
returns-clause-rings c =
    let k = c.requires in
    merged c.args.members.now k.rings c.args.from c.args.into k.from_in k.into_in k.from_names k.into_names k.apart
    c.lead_all.new.members _ _ c.lead_all.ensures refl refl refl refl c.smaller.ensures

pub returns-clause-roots : goal.returns-clause-roots
returns-clause-roots c =
    let k = c.requires in
    merged_roots c.args.members.now k.rings c.args.from c.args.into k.from_in k.into_in k.from_names k.into_names k.apart
    c.lead_all.new.members _ _ c.lead_all.ensures refl refl refl refl c.smaller.ensures
