-- By what both say.
use Rattle.std.proofs.Common.{sym, subst, IsTrue}
use Rattle.relation_terms.specs.Trees.{known}
use Rattle.relation_semantics.proofs.Going.{later_itself}
use Rattle.relation_proving.specs.Bodies.{TellsBodies}
use Rattle.relation_proving.proofs.Fitted.{may_fit, traits_told, one_item, first_may, second_may, items_told, two_told}
use Rattle.relation_proving.proofs.fitting.fit_clauses.Goals as goal

pub compare-requires : goal.compare-requires
compare-requires g c = record {
  goal_known = subst (λ m. IsTrue (known (m.clause c.args.goal.now))) (sym c.cx.ensures) c.requires.goal.is_known;
  given_known = subst (λ m. IsTrue (known (m.clause c.args.given.now))) (sym c.cx.ensures) c.requires.given.is_known;
}

pub fit-requires : goal.fit-requires
fit-requires g c =
    let s = g.C.InferCtxtLike.state c.args.ctx.now in
    let said = subst (TellsBodies s.meaning c.args.goal.now c.args.given.now) c.in-OfTrait.is
    (subst (λ m. TellsBodies m c.args.goal.now c.args.given.now c.compare.result) c.cx.ensures c.compare.ensures) in
    record {
      can = may_fit s c.args.param_env c.args.goal.now c.args.given.now c.requires.goal c.requires.given
          c.in-OfTrait.goal c.in-OfTrait.given said c.requires.lawful c.requires.env_known;
    }

pub returns-in-OfTrait-clause-tells : goal.returns-in-OfTrait-clause-tells
returns-in-OfTrait-clause-tells g c =
    let s = g.C.InferCtxtLike.state c.args.ctx.now in
    let said = subst (TellsBodies s.meaning c.args.goal.now c.args.given.now) c.in-OfTrait.is
    (subst (λ m. TellsBodies m c.args.goal.now c.args.given.now c.compare.result) c.cx.ensures c.compare.ensures) in
    traits_told s c.args.param_env c.args.goal.now c.args.given.now c.requires.goal c.requires.given c.in-OfTrait.goal
    c.in-OfTrait.given said (g.C.InferCtxtLike.state c.fit.new.ctx) c.fit.result c.fit.ensures.tells

pub fit_projection-requires : goal.fit_projection-requires
fit_projection-requires g c =
    let s = g.C.InferCtxtLike.state c.args.ctx.now in
    let said = subst (TellsBodies s.meaning c.args.goal.now c.args.given.now) c.in-OfItem.is
    (subst (λ m. TellsBodies m c.args.goal.now c.args.given.now c.compare.result) c.cx.ensures c.compare.ensures) in
    record {
      lawful = c.requires.lawful;
      env_known = c.requires.env_known;
      one_item = one_item s c.args.param_env c.args.goal.now c.args.given.now c.requires.goal c.requires.given
          c.in-OfItem.goal c.in-OfItem.given said;
      goal = first_may s c.args.param_env c.args.goal.now c.args.given.now c.requires.goal c.requires.given
          c.in-OfItem.goal c.in-OfItem.given said;
      given = second_may s c.args.param_env c.args.goal.now c.args.given.now c.requires.goal c.requires.given
          c.in-OfItem.goal c.in-OfItem.given said;
    }

pub returns-in-OfItem-clause-tells : goal.returns-in-OfItem-clause-tells
returns-in-OfItem-clause-tells g c =
    let s = g.C.InferCtxtLike.state c.args.ctx.now in
    let said = subst (TellsBodies s.meaning c.args.goal.now c.args.given.now) c.in-OfItem.is
    (subst (λ m. TellsBodies m c.args.goal.now c.args.given.now c.compare.result) c.cx.ensures c.compare.ensures) in
    items_told s c.args.param_env c.args.goal.now c.args.given.now c.requires.goal c.requires.given c.in-OfItem.goal
    c.in-OfItem.given said (g.C.InferCtxtLike.state c.fit_projection.new.ctx) c.fit_projection.result
    c.fit_projection.ensures.tells

pub returns-in-OfTwo-clause-tells : goal.returns-in-OfTwo-clause-tells
returns-in-OfTwo-clause-tells g c =
    let s = g.C.InferCtxtLike.state c.args.ctx.now in
    let said = subst (TellsBodies s.meaning c.args.goal.now c.args.given.now) c.in-OfTwo.is
    (subst (λ m. TellsBodies m c.args.goal.now c.args.given.now c.compare.result) c.cx.ensures c.compare.ensures) in
    two_told s c.args.param_env c.args.goal.now c.args.given.now c.requires.goal c.requires.given said

pub returns-in-OfTwo-clause-later : goal.returns-in-OfTwo-clause-later
returns-in-OfTwo-clause-later g c = later_itself (g.C.InferCtxtLike.state c.args.ctx.now).store

pub returns-in-Unclear-clause-later : goal.returns-in-Unclear-clause-later
returns-in-Unclear-clause-later g c = later_itself (g.C.InferCtxtLike.state c.args.ctx.now).store
