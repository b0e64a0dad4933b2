-- A clause under the binder of a rule, by what the interner of the context knows.
use Rattle.std.proofs.Common.{◌≡◌, sym, subst, IsTrue}
use Rattle.relation_terms.specs.declared.predicate.kinds.ClauseKind.TheVariants.{Trait, Projection}
use Rattle.relation_terms.specs.Predicates.{clause_tree}
use Rattle.relation_terms.specs.Trees.{known}
use Rattle.relation_proving.proofs.Checked.{part_known, part_passed, no_part}
use Rattle.relation_proving.proofs.checking.clause_may_stand.Goals as goal

pub clause_kind-value-requires : goal.clause_kind-value-requires
clause_kind-value-requires g c =
    subst (λ m. IsTrue (known (m.clause c.args.clause.now))) (sym c.cx.ensures) c.requires.clause_known

pub may_stand-requires : goal.may_stand-requires
may_stand-requires g c =
    let s = g.C.InferCtxtLike.state c.args.ctx.now in
    let b = c.clause_kind-value.result in
    let e = subst (λ m. m.clause c.args.clause.now ≡ clause_tree m b) c.cx.ensures c.clause_kind-value.ensures in
    part_known s c.args.around c.args.clause.now b e c.requires.clause_known (Trait c.in-Trait.value) c.in-Trait.is c.requires.list_known

pub returns-in-Trait : goal.returns-in-Trait
returns-in-Trait g c =
    let s = g.C.InferCtxtLike.state c.args.ctx.now in
    let b = c.clause_kind-value.result in
    let e = subst (λ m. m.clause c.args.clause.now ≡ clause_tree m b) c.cx.ensures c.clause_kind-value.ensures in
    part_passed s c.args.around c.args.clause.now b e c.requires.clause_known (Trait c.in-Trait.value) c.in-Trait.is tt c.may_stand.result
    c.may_stand.ensures

pub may_stand-requires-in-Projection : goal.may_stand-requires-in-Projection
may_stand-requires-in-Projection g c =
    let s = g.C.InferCtxtLike.state c.args.ctx.now in
    let b = c.clause_kind-value.result in
    let e = subst (λ m. m.clause c.args.clause.now ≡ clause_tree m b) c.cx.ensures c.clause_kind-value.ensures in
    part_known s c.args.around c.args.clause.now b e c.requires.clause_known (Projection c.in-Projection.value) c.in-Projection.is c.requires.list_known

pub returns-in-Projection : goal.returns-in-Projection
returns-in-Projection g c =
    let s = g.C.InferCtxtLike.state c.args.ctx.now in
    let b = c.clause_kind-value.result in
    let e = subst (λ m. m.clause c.args.clause.now ≡ clause_tree m b) c.cx.ensures c.clause_kind-value.ensures in
    part_passed s c.args.around c.args.clause.now b e c.requires.clause_known (Projection c.in-Projection.value) c.in-Projection.is tt c.may_stand-in-Projection.result
    c.may_stand-in-Projection.ensures

pub returns-in_default : goal.returns-in_default
returns-in_default g c =
    let s = g.C.InferCtxtLike.state c.args.ctx.now in
    let b = c.clause_kind-value.result in
    let e = subst (λ m. m.clause c.args.clause.now ≡ clause_tree m b) c.cx.ensures c.clause_kind-value.ensures in
    no_part s c.args.around c.args.clause.now b e c.requires.clause_known c.in_default.not-Trait c.in_default.not-Projection
