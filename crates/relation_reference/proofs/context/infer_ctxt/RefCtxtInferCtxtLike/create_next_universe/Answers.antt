use Rattle.relation_reference.proofs.Calls.{stood}
use Rattle.relation_reference.proofs.Universes.{universe_entered, universe_rest}
use Rattle.relation_reference.proofs.context.infer_ctxt.RefCtxtInferCtxtLike.create_next_universe.Goals as goal

pub returns-clause-enters : goal.returns-clause-enters
returns-clause-enters g c =
    let done = c.create_next_universe.ensures in
    universe_entered g.I.Interner.meaning c.args.self.now c.create_next_universe.new.self done.interner c.requires.lawful done.lawful
    c.create_next_universe.result done.enters done.next done.refused

pub returns-clause-stands : goal.returns-clause-stands
returns-clause-stands g c =
    let done = c.create_next_universe.ensures in
    let rest = universe_rest g.I.Interner.meaning c.args.self.now c.create_next_universe.new.self
    c.create_next_universe.result done.enters done.refused in
    stood g.I.Interner.meaning c.args.self.now c.create_next_universe.new.self done.interner done.lawful rest.setup
    rest.outliving

pub returns-clause-marks : goal.returns-clause-marks
returns-clause-marks g c =
    let done = c.create_next_universe.ensures in
    (universe_rest g.I.Interner.meaning c.args.self.now c.create_next_universe.new.self c.create_next_universe.result
    done.enters done.refused).marks
