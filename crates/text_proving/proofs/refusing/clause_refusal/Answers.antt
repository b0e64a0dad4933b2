-- A clause under the binder of a rule, by what the interner of the context knows.
use Rattle.std.proofs.Common.{◌≡◌, IsTrue, sym, subst}
use Rattle.std.specs.Prelude.{IfNone}
use Rattle.relation_terms.specs.declared.predicate.kinds.ClauseKind.TheVariants.{Trait, Projection}
use Rattle.relation_terms.specs.Predicates.{clause_tree}
use Rattle.relation_terms.specs.Meaning.{under}
use Rattle.relation_terms.specs.Trees.{known}
use Rattle.relation_terms.proofs.Binders.{under_known}
use Rattle.may_relate.specs.Fitting.{MayBeRelated}
use Rattle.text_proving.proofs.Serving.{is_of}
use Rattle.text_proving.proofs.refusing.clause_refusal.Goals as goal

pub clause_kind-value-requires : goal.clause_kind-value-requires
clause_kind-value-requires g c =
    let m = (g.C.InferCtxtLike.state c.args.ctx.now).meaning in
    subst (λ n. IsTrue (known (n.clause c.args.clause.now))) (sym c.cx.ensures)
    (under_known (m.bound_vars c.args.around) (m.clause c.args.clause.now) c.requires).1

pub under_refusal-requires : goal.under_refusal-requires
under_refusal-requires g c =
    let m = (g.C.InferCtxtLike.state c.args.ctx.now).meaning in
    let k = c.args.clause.now in
    let b = c.clause_kind-value.result in
    subst (λ t. IsTrue (known (under (m.bound_vars c.args.around) t)))
    (is_of m k b (subst (λ n. n.clause k ≡ clause_tree n b) c.cx.ensures c.clause_kind-value.ensures) (Trait c.in-Trait.of)
    c.in-Trait.is) c.requires

pub returns-in-Trait : goal.returns-in-Trait
returns-in-Trait g c =
    let s = g.C.InferCtxtLike.state c.args.ctx.now in
    let m = s.meaning in
    let k = c.args.clause.now in
    let b = c.clause_kind-value.result in
    let says = is_of m k b (subst (λ n. n.clause k ≡ clause_tree n b) c.cx.ensures c.clause_kind-value.ensures)
    (Trait c.in-Trait.of) c.in-Trait.is in
    subst (λ t. IfNone c.under_refusal.result (MayBeRelated s.store (under (m.bound_vars c.args.around) t)))
    (sym says) c.under_refusal.ensures

pub under_refusal-requires-in-Projection : goal.under_refusal-requires-in-Projection
under_refusal-requires-in-Projection g c =
    let m = (g.C.InferCtxtLike.state c.args.ctx.now).meaning in
    let k = c.args.clause.now in
    let b = c.clause_kind-value.result in
    subst (λ t. IsTrue (known (under (m.bound_vars c.args.around) t)))
    (is_of m k b (subst (λ n. n.clause k ≡ clause_tree n b) c.cx.ensures c.clause_kind-value.ensures)
    (Projection c.in-Projection.of) c.in-Projection.is) c.requires

pub returns-in-Projection : goal.returns-in-Projection
returns-in-Projection g c =
    let s = g.C.InferCtxtLike.state c.args.ctx.now in
    let m = s.meaning in
    let k = c.args.clause.now in
    let b = c.clause_kind-value.result in
    let says = is_of m k b (subst (λ n. n.clause k ≡ clause_tree n b) c.cx.ensures c.clause_kind-value.ensures)
    (Projection c.in-Projection.of) c.in-Projection.is in
    subst (λ t. IfNone c.under_refusal-in-Projection.result (MayBeRelated s.store (under (m.bound_vars c.args.around) t)))
    (sym says) c.under_refusal-in-Projection.ensures
