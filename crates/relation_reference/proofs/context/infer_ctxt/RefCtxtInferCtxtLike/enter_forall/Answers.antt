use Rattle.relation_semantics.specs.Binders.{binder_tree}
use Rattle.relation_reference.specs.RefCtxt.{context_in}
use Rattle.relation_reference.proofs.Binders.{entered_binder}
use Rattle.relation_reference.proofs.context.infer_ctxt.RefCtxtInferCtxtLike.enter_forall.Goals as goal

pub returns : goal.returns
returns g c =
    let meaning = g.I.Interner.meaning in
    let p = c.args.self.now in
    let q = c.enter_forall.new.self in
    let done = c.enter_forall.ensures in
    record {
      grows = record {
        extends = done.grown;
        lawful = done.lawful;
        setup = done.rest.setup;
        outliving = done.rest.outliving;
      };
      enters = entered_binder (context_in meaning p) (context_in meaning q) g.T.HasTree.tree
          (binder_tree g.T.HasTree.tree (meaning p.interner) c.args.value) c.enter_forall.result done.sure done.enters
          done.refused;
      marks = done.rest.marks;
    }
