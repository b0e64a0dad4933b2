use Rattle.std.proofs.Common.{sym, subst, subst₂, ap, IsTrue}
use Rattle.relation_terms.specs.Meaning.{arg_tree}
use Rattle.relation_terms.specs.Trees.{known}
use Rattle.relation_semantics.specs.Stores.{IsTermIn}
use Rattle.relation_proving.specs.Barring.{Bars}
use Rattle.relation_proving.proofs.barring.arg_bars.Goals as goal

pub types_bar-requires : goal.types_bar-requires
types_bar-requires g c =
    let s = g.C.InferCtxtLike.state c.args.ctx.now in
    let f = arg_tree s.meaning in
    record {
      lawful = c.requires.lawful;
      goal_known = subst (λ a. IsTrue (known (f a))) c.in-Ty.is c.requires.goal_known;
      goal_in = subst (λ a. IsTermIn s.store (f a)) c.in-Ty.is c.requires.goal_in;
      given_known = subst (λ a. IsTrue (known (f a))) c.in-Ty-given.is c.requires.given_known;
    }

pub returns-in-Ty-given : goal.returns-in-Ty-given
returns-in-Ty-given g c = λ yes.
    let s = g.C.InferCtxtLike.state c.args.ctx.now in
    let f = arg_tree s.meaning in
    subst₂ (Bars s) (sym (ap f c.in-Ty.is)) (sym (ap f c.in-Ty-given.is)) (c.types_bar.ensures yes)
