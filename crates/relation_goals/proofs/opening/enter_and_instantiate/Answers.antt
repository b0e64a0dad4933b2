use Rattle.std.proofs.Common.{sym, subst}
use Rattle.relation_semantics.specs.Stores.{IsTermIn}
use Rattle.relation_semantics.specs.Binders.{binder_tree}
use Rattle.relation_goals.proofs.Entering.{binder_stays, entered_changes, entered_keeps, refused_first}
use Rattle.relation_goals.proofs.opening.enter_and_instantiate.Goals as goal

pub returns-in_err-body-clause-opens : goal.returns-in_err-body-clause-opens
returns-in_err-body-clause-opens g c =
    let s = g.Infcx.InferCtxtLike.state c.args.infcx.now in
    refused_first s (g.Infcx.InferCtxtLike.state c.enter_forall.new.self) g.T.HasTree.tree
    (binder_tree g.T.HasTree.tree s.meaning c.args.entered.now)
    (binder_tree g.T.HasTree.tree s.meaning c.args.instantiated.now) c.from_residual.result c.from_residual.ensures.0
    c.in_err-body.ensures.enters

pub instantiate_binder_with_infer-requires-clause-value_in : goal.instantiate_binder_with_infer-requires-clause-value_in
instantiate_binder_with_infer-requires-clause-value_in g c =
    let tree = g.T.HasTree.tree in
    let s = g.Infcx.InferCtxtLike.state c.args.infcx.now in
    let d = g.Infcx.InferCtxtLike.state c.enter_forall.new.self in
    let done = c.in_ok-body.ensures in
    let a = c.args.entered.now in
    let b = c.args.instantiated.now in
    let same = binder_stays tree s.meaning d.meaning done.grows.extends b
    (g.T.HasTree.stays s.meaning d.meaning done.grows.extends b.value) c.requires.instantiated_known in
    subst (IsTermIn d.store) (sym same) (entered_keeps s.store d.store
    (entered_changes s d ((s.meaning).bound_vars a.bound_vars) (tree s.meaning a.value)
    (tree d.meaning c.in_ok-body.body) done.enters.1) (binder_tree tree s.meaning b) c.requires.instantiated_in)
