use Rattle.std.proofs.Common.{subst}
use Rattle.std.specs.Prelude.{OnErr}
use Rattle.relation_semantics.specs.Binders.{binder_tree, MakesFirst}
use Rattle.relation_reference.specs.RefCtxt.{store_in, context_in}
use Rattle.relation_reference.proofs.Binders.{instantiated_binder, bound_kinds}
use Rattle.relation_reference.proofs.context.infer_ctxt.RefCtxtInferCtxtLike.instantiate_binder_with_infer.Goals as goal

pub returns : goal.returns
returns g c =
    let meaning = g.I.Interner.meaning in
    let p = c.args.self.now in
    let q = c.instantiate_binder_with_infer.new.self in
    let done = c.instantiate_binder_with_infer.ensures in
    record {
      grows = record {
        extends = done.grown;
        lawful = done.lawful;
        setup = done.rest.setup;
        outliving = done.rest.outliving;
      };
      instantiates = instantiated_binder (context_in meaning p) (context_in meaning q) g.T.HasTree.tree
          (binder_tree g.T.HasTree.tree (meaning p.interner) c.args.value) c.instantiate_binder_with_infer.result
          done.sure done.instantiates
          (subst (λ ks. OnErr c.instantiate_binder_with_infer.result (MakesFirst (p.inner.universe).0
          (store_in meaning p) ks (store_in meaning q))) (bound_kinds ((meaning p.interner).bound_vars
          c.args.value.bound_vars) (g.T.HasTree.tree (meaning p.interner) c.args.value.value)) done.refused);
      marks = done.rest.marks;
    }
