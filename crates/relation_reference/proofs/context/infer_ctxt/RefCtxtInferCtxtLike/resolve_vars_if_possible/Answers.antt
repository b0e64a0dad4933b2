use Rattle.relation_reference.proofs.Comes.{same_record, grows, comes, marks}
use Rattle.relation_reference.proofs.context.infer_ctxt.RefCtxtInferCtxtLike.resolve_vars_if_possible.Goals as goal

pub returns : goal.returns
returns g c =
    let p = c.args.self.now in
    let q = c.resolve_vars_if_possible.new.self in
    let done = c.resolve_vars_if_possible.ensures in
    record {
      grows = grows g.I.Interner.meaning p q done.grown done.inner c.requires.lawful;
      same_record = same_record g.I.Interner.meaning p q done.grown done.inner c.requires.lawful;
      comes = comes g.I.Interner.meaning p q g.T.HasTree.tree c.args.value.now c.resolve_vars_if_possible.result
          done.sure done.resolves;
      marks = marks g.I.Interner.meaning p q done.inner;
    }
