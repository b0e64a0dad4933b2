use Rattle.relation_reference.proofs.Calls.{stood}
use Rattle.std.proofs.Common.{ap, ◌∙◌}
use Rattle.variable_tables.specs.Tables.{store_of}
use Rattle.relation_reference.proofs.context.infer_ctxt.RefCtxtInferCtxtLike.sub_unify_ty_vids_raw.Goals as goal

pub returns-clause-same_record : goal.returns-clause-same_record
returns-clause-same_record g c =
    let done = c.sub_unify_ty_vids_raw.ensures in
    ap (λ i. store_of (g.I.Interner.meaning i) c.sub_unify_ty_vids_raw.new.self.inner) done.interner ∙ done.same_record

pub returns-clause-stands : goal.returns-clause-stands
returns-clause-stands g c =
    let done = c.sub_unify_ty_vids_raw.ensures in
    stood g.I.Interner.meaning c.args.self.now c.sub_unify_ty_vids_raw.new.self done.interner done.lawful done.setup
    done.outliving
