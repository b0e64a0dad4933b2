-- A goal, by what the interner of the context knows.
use Rattle.std.proofs.Common.{◌≡◌, sym, subst, IsTrue}
use Rattle.relation_terms.specs.declared.predicate.kinds.ClauseKind.TheVariants.{Trait, Projection}
use Rattle.relation_terms.specs.Predicates.{clause_tree}
use Rattle.relation_terms.specs.Trees.{known}
use Rattle.relation_proving.proofs.Checked.{goal_known, goal_passed, no_goal}
use Rattle.relation_proving.proofs.checking.goal_may_be_asked.Goals as goal

pub clause_kind-value-requires : goal.clause_kind-value-requires
clause_kind-value-requires g c =
    subst (λ m. IsTrue (known (m.clause c.args.goal.now))) (sym c.cx.ensures) c.requires

pub may_stand-requires : goal.may_stand-requires
may_stand-requires g c =
    let s = g.C.InferCtxtLike.state c.args.ctx.now in
    let b = c.clause_kind-value.result in
    let e = subst (λ m. m.clause c.args.goal.now ≡ clause_tree m b) c.cx.ensures c.clause_kind-value.ensures in
    goal_known s c.args.goal.now b e c.requires (Trait c.in-Trait.value) c.in-Trait.is

pub returns-in-Trait : goal.returns-in-Trait
returns-in-Trait g c =
    let s = g.C.InferCtxtLike.state c.args.ctx.now in
    let b = c.clause_kind-value.result in
    let e = subst (λ m. m.clause c.args.goal.now ≡ clause_tree m b) c.cx.ensures c.clause_kind-value.ensures in
    goal_passed s c.args.goal.now b e c.requires (Trait c.in-Trait.value) c.in-Trait.is tt c.may_stand.result
    c.may_stand.ensures

pub may_stand-requires-in-Projection : goal.may_stand-requires-in-Projection
may_stand-requires-in-Projection g c =
    let s = g.C.InferCtxtLike.state c.args.ctx.now in
    let b = c.clause_kind-value.result in
    let e = subst (λ m. m.clause c.args.goal.now ≡ clause_tree m b) c.cx.ensures c.clause_kind-value.ensures in
    goal_known s c.args.goal.now b e c.requires (Projection c.in-Projection.value) c.in-Projection.is

pub returns-in-Projection : goal.returns-in-Projection
returns-in-Projection g c =
    let s = g.C.InferCtxtLike.state c.args.ctx.now in
    let b = c.clause_kind-value.result in
    let e = subst (λ m. m.clause c.args.goal.now ≡ clause_tree m b) c.cx.ensures c.clause_kind-value.ensures in
    goal_passed s c.args.goal.now b e c.requires (Projection c.in-Projection.value) c.in-Projection.is tt c.may_stand-in-Projection.result
    c.may_stand-in-Projection.ensures

pub returns-in_default : goal.returns-in_default
returns-in_default g c =
    let s = g.C.InferCtxtLike.state c.args.ctx.now in
    let b = c.clause_kind-value.result in
    let e = subst (λ m. m.clause c.args.goal.now ≡ clause_tree m b) c.cx.ensures c.clause_kind-value.ensures in
    no_goal s c.args.goal.now b e c.requires c.in_default.not-Trait c.in_default.not-Projection
