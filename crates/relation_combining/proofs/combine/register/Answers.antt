use Rattle.std.proofs.Common.{◌≡◌, sym, subst}
use Rattle.relation_goals.specs.Emitting.{dummy_predicate}
use Rattle.relation_semantics.specs.ContextCalls.{Grows}
use Rattle.relation_combining.proofs.Registering.{same_later, none_registered, predicate_known, one_registered}
use Rattle.relation_combining.proofs.combine.register.Goals as goal

pub returns-in_err-predicate : goal.returns-in_err-predicate
returns-in_err-predicate g c =
    let x = c.args.relation.now in
    let r = g.R.HasState.state x in
    let o = g.met.R.PredicateEmittingRelation.over x in
    let s = g.Infcx.InferCtxtLike.state (g.R.PredicateEmittingRelation.context x) in
    let z = c.dummy_predicate.new.infcx in
    let d = g.Infcx.InferCtxtLike.state z in
    let grows = subst (λ z. Grows (g.Infcx.InferCtxtLike.state z) d) c.infcx_mut.ensures.value c.dummy_predicate.ensures.grows in
    let same = subst (λ z. d.store ≡ (g.Infcx.InferCtxtLike.state z).store) c.infcx_mut.ensures.value
    c.dummy_predicate.ensures.same_store in
    let w = c.lemma_context_grows.ensures z grows (same_later s d same) c.requires.lawful in
    none_registered o w grows.extends same (dummy_predicate r.meaning c.args.kind) c.from_residual.result c.from_residual.ensures.0

pub register_one-requires-clause-lawful : goal.register_one-requires-clause-lawful
register_one-requires-clause-lawful g c =
    let x = c.args.relation.now in
    let s = g.Infcx.InferCtxtLike.state (g.R.PredicateEmittingRelation.context x) in
    let z = c.dummy_predicate.new.infcx in
    let d = g.Infcx.InferCtxtLike.state z in
    let grows = subst (λ z. Grows (g.Infcx.InferCtxtLike.state z) d) c.infcx_mut.ensures.value c.dummy_predicate.ensures.grows in
    let same = subst (λ z. d.store ≡ (g.Infcx.InferCtxtLike.state z).store) c.infcx_mut.ensures.value
    c.dummy_predicate.ensures.same_store in
    (c.lemma_context_grows.ensures z grows (same_later s d same) c.requires.lawful).lawful c.requires.lawful

pub register_one-requires-clause-known : goal.register_one-requires-clause-known
register_one-requires-clause-known g c =
    let x = c.args.relation.now in
    let r = g.R.HasState.state x in
    let o = g.met.R.PredicateEmittingRelation.over x in
    let s = g.Infcx.InferCtxtLike.state (g.R.PredicateEmittingRelation.context x) in
    let z = c.dummy_predicate.new.infcx in
    let d = g.Infcx.InferCtxtLike.state z in
    let grows = subst (λ z. Grows (g.Infcx.InferCtxtLike.state z) d) c.infcx_mut.ensures.value c.dummy_predicate.ensures.grows in
    let same = subst (λ z. d.store ≡ (g.Infcx.InferCtxtLike.state z).store) c.infcx_mut.ensures.value
    c.dummy_predicate.ensures.same_store in
    let w = c.lemma_context_grows.ensures z grows (same_later s d same) c.requires.lawful in
    let p = c.in_ok-predicate.predicate in
    predicate_known o w p (dummy_predicate r.meaning c.args.kind)
    (subst (λ m. (d.meaning).predicate p ≡ dummy_predicate m c.args.kind) (sym o.meaning)
    (subst (λ z. (d.meaning).predicate p ≡ dummy_predicate (g.Infcx.InferCtxtLike.state z).meaning c.args.kind)
    c.infcx_mut.ensures.value c.in_ok-predicate.ensures.made)) c.requires.kind_known

pub returns : goal.returns
returns g c =
    let x = c.args.relation.now in
    let r = g.R.HasState.state x in
    let o = g.met.R.PredicateEmittingRelation.over x in
    let s = g.Infcx.InferCtxtLike.state (g.R.PredicateEmittingRelation.context x) in
    let z = c.dummy_predicate.new.infcx in
    let d = g.Infcx.InferCtxtLike.state z in
    let grows = subst (λ z. Grows (g.Infcx.InferCtxtLike.state z) d) c.infcx_mut.ensures.value c.dummy_predicate.ensures.grows in
    let same = subst (λ z. d.store ≡ (g.Infcx.InferCtxtLike.state z).store) c.infcx_mut.ensures.value
    c.dummy_predicate.ensures.same_store in
    let w = c.lemma_context_grows.ensures z grows (same_later s d same) c.requires.lawful in
    let p = c.in_ok-predicate.predicate in
    one_registered o w grows.extends same p (dummy_predicate r.meaning c.args.kind)
    (subst (λ m. (d.meaning).predicate p ≡ dummy_predicate m c.args.kind) (sym o.meaning)
    (subst (λ z. (d.meaning).predicate p ≡ dummy_predicate (g.Infcx.InferCtxtLike.state z).meaning c.args.kind)
    c.infcx_mut.ensures.value c.in_ok-predicate.ensures.made)) c.register_one.result c.register_one.ensures
