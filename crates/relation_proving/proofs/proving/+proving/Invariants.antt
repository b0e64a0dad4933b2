use Rattle.std.proofs.Common.{◌+◌, ◌*◌, vec_len}
use Rattle.relation_proving.specs.Remembering.{RemembersMore}
use Rattle.relation_proving.specs.Telling.{IsBack}
use Rattle.relation_proving.proofs.Answering.{AsksOn}
use Rattle.relation_proving.proofs.Searches.{Searches}
use Rattle.relation_proving.proofs.proving.+proving.Given as goal

abbrev pub decreases-follows : goal.decreases-follows
decreases-follows g l = 6 * l.depth

abbrev pub decreases-follows_by_some : goal.decreases-follows_by_some
decreases-follows_by_some g l = 6 * l.depth + 5

abbrev pub decreases-try_and_put_back : goal.decreases-try_and_put_back
decreases-try_and_put_back g l = 6 * l.depth + 4

abbrev pub decreases-follows_by : goal.decreases-follows_by
decreases-follows_by g l = 6 * l.depth + 3

abbrev pub decreases-all_follow : goal.decreases-all_follow
decreases-all_follow g l = 6 * l.depth + 2

abbrev pub decreases-one_follows : goal.decreases-one_follows
decreases-one_follows g l = 6 * l.depth + 1

-- By the rules so far this is known.
abbrev pub invariant-follows_by_some-loop-place : goal.invariant-follows_by_some-loop-place
invariant-follows_by_some-loop-place g l = Searches g.C.InferCtxtLike.state g.C.KeepsRecord.with_record
    (g.C.InferCtxtLike.state l.fn.ctx) l.rules l.param_env l.read.goal l.ctx l.place l.search ×
    RemembersMore (g.C.InferCtxtLike.state l.ctx) l.rules l.param_env l.fn.asked l.asked

-- What is left to ask answers the whole list.
abbrev pub invariant-all_follow-rounds : goal.invariant-all_follow-rounds
invariant-all_follow-rounds g l = AsksOn (g.C.InferCtxtLike.state l.initial.ctx) (g.C.InferCtxtLike.state l.ctx) l.rules
    l.param_env l.fn.asks.items l.left.items ×
    RemembersMore (g.C.InferCtxtLike.state l.ctx) l.rules l.param_env l.initial.asked l.asked

abbrev pub decreases-all_follow-rounds : goal.decreases-all_follow-rounds
decreases-all_follow-rounds g l = vec_len l.left

-- Of the goals so far it isn't told.
abbrev pub invariant-one_follows-loop-of_variable : goal.invariant-one_follows-loop-of_variable
invariant-one_follows-loop-of_variable g l =
    IsBack (g.C.InferCtxtLike.state l.fn.ctx) (g.C.InferCtxtLike.state l.ctx) ×
    RemembersMore (g.C.InferCtxtLike.state l.ctx) l.rules l.param_env l.fn.asked l.asked

abbrev pub invariant-one_follows-loop-place : goal.invariant-one_follows-loop-place
invariant-one_follows-loop-place g l =
    IsBack (g.C.InferCtxtLike.state l.fn.ctx) (g.C.InferCtxtLike.state l.ctx) ×
    RemembersMore (g.C.InferCtxtLike.state l.ctx) l.rules l.param_env l.fn.asked l.asked
