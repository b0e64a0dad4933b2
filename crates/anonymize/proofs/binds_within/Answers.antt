use Rattle.std.proofs.Common.{◌∙◌, subst, IsTrue}
use Rattle.relation_terms.specs.Trees.{known}
use Rattle.relation_terms.specs.Predicates.{predicate_kind_tree}
use Rattle.relation_terms.proofs.Binders.{under_known}
use Rattle.anonymize.proofs.Within.{binds_below}
use Rattle.anonymize.proofs.binds_within.Goals as goal

pub bound_vars-requires : goal.bound_vars-requires
bound_vars-requires g c =
    let m = g.I.Interner.meaning c.args.cx.now in
    let form = c.predicate_kind-form.result in
    (under_known (m.bound_vars form.bound_vars) (predicate_kind_tree m form.value)
    (subst (λ x. IsTrue (known x)) c.predicate_kind-form.ensures c.requires)).0

pub returns : goal.returns
returns g c =
    let m = g.I.Interner.meaning c.args.cx.now in
    let form = c.predicate_kind-form.result in
    let within = binds_below m c.bound_vars.result.now (m.bound_vars form.bound_vars) (predicate_kind_tree m form.value)
    ((m.predicate) c.args.predicate.now) c.deref.result.now c.stand_below.result c.bound_vars.ensures
    c.predicate_kind-form.ensures (c.deref.ensures.value ∙ c.in_ok-used.ensures) c.stand_below.ensures in
    record { within = within }
