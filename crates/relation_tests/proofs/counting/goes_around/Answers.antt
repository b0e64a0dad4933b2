use Rattle.std.proofs.Common.{sym, subst}
use Rattle.relation_semantics.specs.Goals.{KnowsGoal}
use Rattle.relation_tests.proofs.counting.goes_around.Goals as goal

pub counts-requires : goal.counts-requires
counts-requires g c =
    subst (λ z. KnowsGoal (g.C.InferCtxtLike.state z).meaning c.args.goal) (sym c.new-inner.ensures.infcx) c.requires
