use Rattle.relation_semantics.specs.Stores.{equal_constraint}
use Rattle.relation_reference.proofs.Calls.{constrains, stood}
use Rattle.relation_reference.proofs.context.infer_ctxt.RefCtxtInferCtxtLike.equate_regions.Goals as goal

pub returns-clause-constrains : goal.returns-clause-constrains
returns-clause-constrains g c =
    let m = g.I.Interner.meaning c.args.self.now.interner in
    let done = c.equate_regions.ensures in
    constrains g.I.Interner.meaning c.args.self.now c.equate_regions.new.self done.interner
    (equal_constraint (m.region c.args.a.now) (m.region c.args.b.now)) c.equate_regions.result done.adds done.refused

pub returns-clause-stands : goal.returns-clause-stands
returns-clause-stands g c =
    let done = c.equate_regions.ensures in
    stood g.I.Interner.meaning c.args.self.now c.equate_regions.new.self done.interner done.lawful done.rest.setup
    done.rest.outliving

pub returns-clause-marks : goal.returns-clause-marks
returns-clause-marks g c = c.equate_regions.ensures.rest.marks
