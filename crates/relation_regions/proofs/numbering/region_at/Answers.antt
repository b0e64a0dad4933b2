-- What is read at a number is its region.
use Rattle.std.proofs.Common.{refl}
use Rattle.relation_regions.proofs.NumbersFound.{region_is}
use Rattle.relation_regions.proofs.numbering.region_at.Goals as goal

pub returns : goal.returns
returns g c = region_is c.args.table.now c.args.number c.args.number c.node.result.now c.requires.below refl
    c.node.ensures
