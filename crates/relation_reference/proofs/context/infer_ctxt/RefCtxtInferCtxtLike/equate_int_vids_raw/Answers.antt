use Rattle.relation_terms.specs.Heads.{int_var}
use Rattle.relation_reference.proofs.Calls.{equated}
use Rattle.relation_reference.proofs.context.infer_ctxt.RefCtxtInferCtxtLike.equate_int_vids_raw.Goals as goal

pub returns-clause-equates : goal.returns-clause-equates
returns-clause-equates g c =
    let done = c.equate_int_vids_raw.ensures in
    equated g.I.Interner.meaning c.args.self.now c.equate_int_vids_raw.new.self done.interner done.lawful
    done.rest.setup done.rest.outliving
    int_var c.args.a.0 c.args.b.0 done.same done.equates

pub returns-clause-marks : goal.returns-clause-marks
returns-clause-marks g c = c.equate_int_vids_raw.ensures.rest.marks
