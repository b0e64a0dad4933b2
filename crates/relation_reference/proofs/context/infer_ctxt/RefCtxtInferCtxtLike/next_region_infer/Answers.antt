use Rattle.relation_terms.specs.Heads.{region_var}
use Rattle.relation_reference.proofs.Making.{entries_long}
use Rattle.relation_reference.proofs.Calls.{makes_next}
use Rattle.relation_reference.proofs.context.infer_ctxt.RefCtxtInferCtxtLike.next_region_infer.Goals as goal

pub returns-clause-makes : goal.returns-clause-makes
returns-clause-makes g c =
    let p = c.args.self.now in
    let done = c.next_region_infer.ensures in
    makes_next g.I.Interner.meaning p c.next_region_infer.new.self region_var (λ m. m.region) _
    (entries_long (g.I.Interner.meaning p.interner).region p.inner.regions.items) c.next_region_infer.result done.sure done.means
    done.makes done.refused

pub returns-clause-grows : goal.returns-clause-grows
returns-clause-grows g c =
    let done = c.next_region_infer.ensures in record {
      extends = done.grown;
      lawful = done.lawful;
      setup = done.rest.setup;
      outliving = done.rest.outliving;
    }

pub returns-clause-marks : goal.returns-clause-marks
returns-clause-marks g c = c.next_region_infer.ensures.rest.marks
