use Rattle.std.proofs.Common.{sym, subst, IsTrue, false, true, arith}
use Rattle.relation_terms.specs.Trees.{known}
use Rattle.fast_reject.specs.Instances.{NoCommonInstance}
use Rattle.relation_proving.proofs.Barred.{is_false, types_apart}
use Rattle.relation_proving.proofs.barring.types_bar.Goals as goal

pub shallow_resolve-read-requires : goal.shallow_resolve-read-requires
shallow_resolve-read-requires g c =
    record { lawful = c.requires.lawful; ty_known = c.requires.goal_known; ty_in = c.requires.goal_in }

pub types_may_unify-requires : goal.types_may_unify-requires
types_may_unify-requires g c = (
  omega arith,
  (
    subst (λ m. IsTrue (known (m.ty c.shallow_resolve-read.result))) (sym c.cx-cx.ensures)
        c.shallow_resolve-read.ensures.reads.sure,
    subst (λ m. IsTrue (known (m.ty c.args.given.now))) (sym c.cx-cx.ensures) c.requires.given_known,
  ),
)

pub returns : goal.returns
returns g c = λ no.
    let s = g.C.InferCtxtLike.state c.args.ctx.now in
    types_apart s ((s.meaning).ty c.args.goal.now) ((s.meaning).ty c.shallow_resolve-read.result)
    ((s.meaning).ty c.args.given.now) c.requires.goal_in c.shallow_resolve-read.ensures.reads
    (subst (λ m. NoCommonInstance false true (m.ty c.shallow_resolve-read.result) (m.ty c.args.given.now))
    c.cx-cx.ensures (c.types_may_unify.ensures.apart (is_false c.types_may_unify.result no)))
