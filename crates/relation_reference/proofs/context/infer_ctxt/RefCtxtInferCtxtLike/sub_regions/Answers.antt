use Rattle.relation_semantics.specs.Stores.{outlives_constraint}
use Rattle.relation_reference.proofs.Calls.{constrains, stood}
use Rattle.relation_reference.proofs.context.infer_ctxt.RefCtxtInferCtxtLike.sub_regions.Goals as goal

pub returns-clause-constrains : goal.returns-clause-constrains
returns-clause-constrains g c =
    let m = g.I.Interner.meaning c.args.self.now.interner in
    let done = c.sub_regions.ensures in
    constrains g.I.Interner.meaning c.args.self.now c.sub_regions.new.self done.interner
    (outlives_constraint (m.region c.args.sup.now) (m.region c.args.sub.now)) c.sub_regions.result done.adds done.refused

pub returns-clause-stands : goal.returns-clause-stands
returns-clause-stands g c =
    let done = c.sub_regions.ensures in
    stood g.I.Interner.meaning c.args.self.now c.sub_regions.new.self done.interner done.lawful done.rest.setup
    done.rest.outliving

pub returns-clause-marks : goal.returns-clause-marks
returns-clause-marks g c = c.sub_regions.ensures.rest.marks
