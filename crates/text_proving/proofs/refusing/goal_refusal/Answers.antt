-- A goal, by what the interner of the context knows.
use Rattle.std.proofs.Common.{◌≡◌, IsTrue, sym, subst}
use Rattle.relation_terms.specs.declared.predicate.kinds.ClauseKind.TheVariants.{Trait, Projection}
use Rattle.relation_terms.specs.Predicates.{clause_tree}
use Rattle.relation_terms.specs.Trees.{known}
use Rattle.may_relate.specs.Fitting.{MayBeRelated}
use Rattle.text_proving.proofs.Serving.{if_none, is_of}
use Rattle.text_proving.proofs.refusing.goal_refusal.Goals as goal

pub clause_kind-value-requires : goal.clause_kind-value-requires
clause_kind-value-requires g c =
    subst (λ n. IsTrue (known (n.clause c.args.goal.now))) (sym c.cx.ensures) c.requires

pub term_refusal-requires : goal.term_refusal-requires
term_refusal-requires g c =
    let m = (g.C.InferCtxtLike.state c.args.ctx.now).meaning in
    let k = c.args.goal.now in
    subst (λ t. IsTrue (known t))
    (is_of m k c.clause_kind-value.result (subst (λ n. n.clause k ≡ clause_tree n c.clause_kind-value.result) c.cx.ensures
    c.clause_kind-value.ensures) (Trait c.in-Trait.value) c.in-Trait.is) c.requires

pub returns-in-Trait : goal.returns-in-Trait
returns-in-Trait g c =
    let s = g.C.InferCtxtLike.state c.args.ctx.now in
    let m = s.meaning in
    let k = c.args.goal.now in
    let says = is_of m k c.clause_kind-value.result (subst (λ n. n.clause k ≡ clause_tree n c.clause_kind-value.result)
    c.cx.ensures c.clause_kind-value.ensures) (Trait c.in-Trait.value) c.in-Trait.is in
    if_none c.term_refusal.result (λ h.
    let may = subst (MayBeRelated s.store) (sym says) h in
    record { is_known = c.requires; is_in = may.0; taken = may.1 }) c.term_refusal.ensures

pub term_refusal-requires-in-Projection : goal.term_refusal-requires-in-Projection
term_refusal-requires-in-Projection g c =
    let m = (g.C.InferCtxtLike.state c.args.ctx.now).meaning in
    let k = c.args.goal.now in
    subst (λ t. IsTrue (known t))
    (is_of m k c.clause_kind-value.result (subst (λ n. n.clause k ≡ clause_tree n c.clause_kind-value.result) c.cx.ensures
    c.clause_kind-value.ensures) (Projection c.in-Projection.value) c.in-Projection.is) c.requires

pub returns-in-Projection : goal.returns-in-Projection
returns-in-Projection g c =
    let s = g.C.InferCtxtLike.state c.args.ctx.now in
    let m = s.meaning in
    let k = c.args.goal.now in
    let says = is_of m k c.clause_kind-value.result (subst (λ n. n.clause k ≡ clause_tree n c.clause_kind-value.result)
    c.cx.ensures c.clause_kind-value.ensures) (Projection c.in-Projection.value) c.in-Projection.is in
    if_none c.term_refusal-in-Projection.result (λ h.
    let may = subst (MayBeRelated s.store) (sym says) h in
    record { is_known = c.requires; is_in = may.0; taken = may.1 }) c.term_refusal-in-Projection.ensures
