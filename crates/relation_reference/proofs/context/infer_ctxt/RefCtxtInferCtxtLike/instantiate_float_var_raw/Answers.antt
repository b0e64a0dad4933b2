use Rattle.relation_terms.specs.Heads.{float_var}
use Rattle.relation_semantics.specs.NumberValues.{float_value_tree}
use Rattle.relation_reference.proofs.Calls.{number_bound}
use Rattle.relation_reference.proofs.context.infer_ctxt.RefCtxtInferCtxtLike.instantiate_float_var_raw.Goals as goal

pub returns-clause-binds : goal.returns-clause-binds
returns-clause-binds g c =
    let done = c.instantiate_float_var_raw.ensures in
    number_bound g.I.Interner.meaning c.args.self.now c.instantiate_float_var_raw.new.self done.interner done.lawful
    done.rest.setup done.rest.outliving
    float_var c.args.vid.0 (float_value_tree c.args.value) done.binds

pub returns-clause-marks : goal.returns-clause-marks
returns-clause-marks g c = c.instantiate_float_var_raw.ensures.rest.marks
