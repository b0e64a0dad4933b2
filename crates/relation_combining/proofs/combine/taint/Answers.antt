use Rattle.std.proofs.Common.{subst}
use Rattle.relation_semantics.specs.ContextCalls.{Stands}
use Rattle.relation_semantics.specs.Steps.{Taints}
use Rattle.relation_combining.proofs.OpeningBoth.{changes_goes}
use Rattle.relation_combining.proofs.OverContext.{stands_grows}
use Rattle.relation_combining.proofs.Registering.{tainted_alone, all_kept}
use Rattle.relation_combining.proofs.combine.taint.Goals as goal

pub returns-clause-alone : goal.returns-clause-alone
returns-clause-alone g c =
    let x = c.args.relation.now in
    let r = g.R.HasState.state x in
    let o = g.met.R.PredicateEmittingRelation.over x in
    let y = g.R.PredicateEmittingRelation.context x in
    let s = g.Infcx.InferCtxtLike.state y in
    let z = c.set_tainted_by_errors.new.self in
    let d = g.Infcx.InferCtxtLike.state z in
    let stands = subst (λ z. Stands (g.Infcx.InferCtxtLike.state z) d) c.infcx_mut.ensures.value
    c.set_tainted_by_errors.ensures.stands in
    let taints = subst (λ z. Taints (g.Infcx.InferCtxtLike.state z).store d.store) c.infcx_mut.ensures.value
    c.set_tainted_by_errors.ensures.taints in
    let w = c.lemma_context_grows.ensures z (stands_grows s d stands) (changes_goes s.store d.store taints.nothing_else).later
    c.requires in
    tainted_alone o w stands taints

pub returns-clause-kept : goal.returns-clause-kept
returns-clause-kept g c =
    let x = c.args.relation.now in
    let r = g.R.HasState.state x in
    let o = g.met.R.PredicateEmittingRelation.over x in
    let y = g.R.PredicateEmittingRelation.context x in
    let s = g.Infcx.InferCtxtLike.state y in
    let z = c.set_tainted_by_errors.new.self in
    let d = g.Infcx.InferCtxtLike.state z in
    let stands = subst (λ z. Stands (g.Infcx.InferCtxtLike.state z) d) c.infcx_mut.ensures.value
    c.set_tainted_by_errors.ensures.stands in
    let taints = subst (λ z. Taints (g.Infcx.InferCtxtLike.state z).store d.store) c.infcx_mut.ensures.value
    c.set_tainted_by_errors.ensures.taints in
    let w = c.lemma_context_grows.ensures z (stands_grows s d stands) (changes_goes s.store d.store taints.nothing_else).later
    c.requires in
    all_kept o w
