use Rattle.relation_terms.specs.Parts.{part_tree}
use Rattle.occurs_check.specs.TermVids.{vid_kind, vid_number}
use Rattle.relation_reference.proofs.Clearing.{cycle_stops, beyond_stops}
use Rattle.relation_reference.proofs.context.variables.RefCtxt.is_obstacle.Goals as goal

pub returns-in-Cycle-clause-is : goal.returns-in-Cycle-clause-is
returns-in-Cycle-clause-is g c = λ h.
    cycle_stops (vid_kind c.args.target.now.vid) (vid_number c.args.target.now.vid) c.args.target.now.universe.0
    (part_tree (g.I.Interner.meaning c.args.self.now.interner) c.args.term.now) c.in-Cycle.ensures

pub returns-in-Beyond-clause-is : goal.returns-in-Beyond-clause-is
returns-in-Beyond-clause-is g c = λ h.
    let f = c.in-Beyond.ensures in
    beyond_stops (vid_kind c.args.target.now.vid) (vid_number c.args.target.now.vid) c.args.target.now.universe.0
    (part_tree (g.I.Interner.meaning c.args.self.now.interner) c.args.term.now) f.0 f.1 f.2 f.3 f.4 f.5
