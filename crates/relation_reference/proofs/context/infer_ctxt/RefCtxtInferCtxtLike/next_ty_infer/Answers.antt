use Rattle.relation_terms.specs.Heads.{type_var}
use Rattle.relation_reference.proofs.Making.{entries_long}
use Rattle.relation_reference.proofs.Calls.{makes_next}
use Rattle.relation_reference.proofs.context.infer_ctxt.RefCtxtInferCtxtLike.next_ty_infer.Goals as goal

pub returns-clause-makes : goal.returns-clause-makes
returns-clause-makes g c =
    let p = c.args.self.now in
    let done = c.next_ty_infer.ensures in
    makes_next g.I.Interner.meaning p c.next_ty_infer.new.self type_var (λ m. m.ty) _
    (entries_long (g.I.Interner.meaning p.interner).ty p.inner.types.items) c.next_ty_infer.result done.sure done.means
    done.makes done.refused

pub returns-clause-grows : goal.returns-clause-grows
returns-clause-grows g c =
    let done = c.next_ty_infer.ensures in record {
      extends = done.grown;
      lawful = done.lawful;
      setup = done.rest.setup;
      outliving = done.rest.outliving;
    }

pub returns-clause-marks : goal.returns-clause-marks
returns-clause-marks g c = c.next_ty_infer.ensures.rest.marks
