use Rattle.std.proofs.Common.{sym, subst, IsTrue, false, arith}
use Rattle.relation_terms.specs.Trees.{known}
use Rattle.fast_reject.specs.Instances.{NoCommonInstance}
use Rattle.relation_coherence.proofs.overlap.bodies_may_unify.Goals as goal

pub args_may_unify-requires : goal.args_may_unify-requires
args_may_unify-requires g c = (
  omega arith,
  (
    subst (λ m. IsTrue (known (m.args c.args.left.now))) (sym c.cx-cx.ensures) c.requires.left_known,
    subst (λ m. IsTrue (known (m.args c.args.right.now))) (sym c.cx-cx.ensures) c.requires.right_known,
  ),
)

pub returns : goal.returns
returns g c = λ no.
    subst (λ m. NoCommonInstance false false (m.args c.args.left.now) (m.args c.args.right.now)) c.cx-cx.ensures
    (c.args_may_unify.ensures.apart no)
