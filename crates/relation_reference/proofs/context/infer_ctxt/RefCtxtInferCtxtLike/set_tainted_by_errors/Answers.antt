use Rattle.std.proofs.Common.{ap, sym, subst}
use Rattle.relation_semantics.specs.Steps.{Taints}
use Rattle.relation_reference.specs.RefCtxt.{store_in}
use Rattle.variable_classes.specs.Roots.{root_in}
use Rattle.variable_tables.specs.Tables.{setup_in, store_of}
use Rattle.relation_reference.proofs.Calls.{stood}
use Rattle.relation_reference.proofs.Tainting.{taints}
use Rattle.relation_reference.proofs.context.infer_ctxt.RefCtxtInferCtxtLike.set_tainted_by_errors.Goals as goal

pub returns-clause-stands : goal.returns-clause-stands
returns-clause-stands g c =
    let done = c.set_tainted_by_errors.ensures in
    stood g.I.Interner.meaning c.args.self.now c.set_tainted_by_errors.new.self done.interner done.lawful
    (ap setup_in done.sets) (ap (λ x. x.ty_outlives.items) done.sets)

pub returns-clause-taints : goal.returns-clause-taints
returns-clause-taints g c =
    let meaning = g.I.Interner.meaning in
    let p = c.args.self.now in
    let q = c.set_tainted_by_errors.new.self in
    let done = c.set_tainted_by_errors.ensures in
    subst (λ i. Taints (store_in meaning p) (store_of (meaning i) q.inner)) (sym done.interner)
    (subst (λ x. Taints (store_in meaning p) (store_of (meaning p.interner) x)) (sym done.sets)
    (taints (meaning p.interner) p.inner))

pub returns-clause-marks : goal.returns-clause-marks
returns-clause-marks g c = λ n. ap (λ x. root_in x.sub_roots.items n) c.set_tainted_by_errors.ensures.sets
