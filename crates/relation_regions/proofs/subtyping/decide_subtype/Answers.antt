-- What relating and solving promise of two values is what the answer says of them.
use Rattle.std.proofs.Common.{◌≡◌, sym, subst}
use Rattle.relation_terms.proofs.Stays.{extends_on}
use Rattle.relation_folds.specs.Faults.{IfSpent}
use Rattle.relation_semantics.specs.Steps.{IsLater}
use Rattle.relation_semantics.specs.Stores.{IsSound}
use Rattle.relation_regions.specs.Answers.{Decides, FollowsStill, IsCertain, IsClash, IsUnsaid, IsPossible}
use Rattle.relation_regions.proofs.Answering.{clash_decides, clash_follows, clash_certain, clash_is, clash_unsaid}
use Rattle.relation_regions.proofs.Answering.{clash_possible, clash_spent, told_decides, told_follows, told_certain}
use Rattle.relation_regions.proofs.Answering.{told_clash, told_unsaid, told_possible, told_spent, facts_as}
use Rattle.relation_regions.proofs.Staying.{facts_later}
use Rattle.relation_regions.proofs.subtyping.decide_subtype.Goals as goal

-- They aren't related.
pub returns-in-Err-clause-decides : goal.returns-in-Err-clause-decides
returns-in-Err-clause-decides g c =
    let state = g.C.InferCtxtLike.state in
    let over = g.T.Relate.over in
    let tree = g.T.HasTree.tree in
    subst (λ r. Decides state c.args.ctx.now c.relate.new.self c.args.facts.now
    over tree c.args.param_env c.args.variance c.args.lhs c.args.rhs r) (sym c.without_goals.ensures)
    (clash_decides state c.args.ctx.now c.relate.new.self c.args.facts.now
    over tree c.args.param_env c.args.variance c.args.lhs c.args.rhs c.in-Err.fault c.in-Err.ensures.complete)

pub returns-in-Err-clause-follows : goal.returns-in-Err-clause-follows
returns-in-Err-clause-follows g c =
    let state = g.C.InferCtxtLike.state in
    let over = g.T.Relate.over in
    let tree = g.T.HasTree.tree in
    subst (λ r. FollowsStill state c.args.ctx.now c.relate.new.self c.args.facts.now
    over tree c.args.param_env c.args.variance c.args.lhs c.args.rhs r) (sym c.without_goals.ensures)
    (clash_follows state c.args.ctx.now c.relate.new.self c.args.facts.now
    over tree c.args.param_env c.args.variance c.args.lhs c.args.rhs c.in-Err.fault)

pub returns-in-Err-clause-certain : goal.returns-in-Err-clause-certain
returns-in-Err-clause-certain g c =
    let state = g.C.InferCtxtLike.state in
    let over = g.T.Relate.over in
    let tree = g.T.HasTree.tree in
    subst (λ r. IsCertain state c.args.ctx.now c.relate.new.self c.args.facts.now
    over tree c.args.param_env c.args.variance c.args.lhs c.args.rhs r) (sym c.without_goals.ensures)
    (clash_certain state c.args.ctx.now c.relate.new.self c.args.facts.now
    over tree c.args.param_env c.args.variance c.args.lhs c.args.rhs c.in-Err.fault c.in-Err.ensures.complete)

pub returns-in-Err-clause-clash : goal.returns-in-Err-clause-clash
returns-in-Err-clause-clash g c =
    let state = g.C.InferCtxtLike.state in
    let over = g.T.Relate.over in
    let tree = g.T.HasTree.tree in
    subst (λ r. IsClash state c.args.ctx.now c.relate.new.self c.args.facts.now
    over tree c.args.param_env c.args.variance c.args.lhs c.args.rhs r) (sym c.without_goals.ensures)
    (clash_is state c.args.ctx.now c.relate.new.self c.args.facts.now
    over tree c.args.param_env c.args.variance c.args.lhs c.args.rhs c.in-Err.fault c.in-Err.ensures.fault.errors)

pub returns-in-Err-clause-unsaid : goal.returns-in-Err-clause-unsaid
returns-in-Err-clause-unsaid g c =
    let state = g.C.InferCtxtLike.state in
    let over = g.T.Relate.over in
    let tree = g.T.HasTree.tree in
    subst (λ r. IsUnsaid state c.args.ctx.now c.relate.new.self c.args.facts.now r) (sym c.without_goals.ensures)
    (clash_unsaid state c.args.ctx.now c.relate.new.self c.args.facts.now
    over tree c.args.param_env c.args.variance c.args.lhs c.args.rhs c.in-Err.fault)

pub returns-in-Err-clause-possible : goal.returns-in-Err-clause-possible
returns-in-Err-clause-possible g c =
    let state = g.C.InferCtxtLike.state in
    let over = g.T.Relate.over in
    let tree = g.T.HasTree.tree in
    subst (λ r. IsPossible state c.args.ctx.now c.relate.new.self c.args.facts.now
    over tree c.args.param_env c.args.variance c.args.lhs c.args.rhs r) (sym c.without_goals.ensures)
    (clash_possible state c.args.ctx.now c.relate.new.self c.args.facts.now
    over tree c.args.param_env c.args.variance c.args.lhs c.args.rhs c.in-Err.fault)

pub returns-in-Err-clause-spent : goal.returns-in-Err-clause-spent
returns-in-Err-clause-spent g c =
    let state = g.C.InferCtxtLike.state in
    let over = g.T.Relate.over in
    let tree = g.T.HasTree.tree in
    let none_left : Type 0 = (state c.relate.new.self).store.budget ≡ 0 in
    subst (λ r. IfSpent r none_left) (sym c.without_goals.ensures)
    (clash_spent state c.args.ctx.now c.relate.new.self c.args.facts.now over tree c.args.param_env c.args.variance
    c.args.lhs c.args.rhs c.in-Err.fault none_left c.in-Err.ensures.fault.spent)

-- Facts stay facts.
pub returns-in-Err-clause-facts_stay : goal.returns-in-Err-clause-facts_stay
returns-in-Err-clause-facts_stay g c =
    facts_later (g.C.InferCtxtLike.state c.args.ctx.now) (g.C.InferCtxtLike.state c.relate.new.self) c.args.facts.now
    c.in-Err.ensures.leaves.grown c.in-Err.ensures.leaves.later c.requires.facts_in

pub solve-requires-clause-facts_in : goal.solve-requires-clause-facts_in
solve-requires-clause-facts_in g c =
    facts_later (g.C.InferCtxtLike.state c.args.ctx.now) (g.C.InferCtxtLike.state c.relate.new.self) c.args.facts.now
    c.in-Ok.ensures.leaves.grown c.in-Ok.ensures.leaves.later c.requires.facts_in

pub returns-clause-facts_stay : goal.returns-clause-facts_stay
returns-clause-facts_stay g c =
    facts_as (g.C.InferCtxtLike.state c.args.ctx.now) (g.C.InferCtxtLike.state c.relate.new.self)
    (g.C.InferCtxtLike.state c.solve.new.ctx) c.args.facts.now c.requires.facts_in c.in-Ok.ensures.leaves.grown
    c.solve.ensures.grows.extends c.solve.ensures.same_record c.in-Ok.ensures.leaves.later

-- What the interner knew it knows.
pub returns-clause-grown : goal.returns-clause-grown
returns-clause-grown g c =
    extends_on c.in-Ok.ensures.leaves.grown c.solve.ensures.grows.extends

-- What is recorded was solved.
pub returns-clause-decides : goal.returns-clause-decides
returns-clause-decides g c =
    let state = g.C.InferCtxtLike.state in
    let over = g.T.Relate.over in
    let tree = g.T.HasTree.tree in
    subst (λ r. Decides state c.args.ctx.now c.solve.new.ctx c.args.facts.now
    over tree c.args.param_env c.args.variance c.args.lhs c.args.rhs r)
    (sym c.with_goals.ensures) (told_decides state c.args.ctx.now c.relate.new.self c.solve.new.ctx c.args.facts.now
    over tree c.args.param_env c.args.variance c.args.lhs c.args.rhs c.in-Ok.goals c.requires.facts_in
    c.in-Ok.ensures.leaves.grown c.solve.ensures.grows.extends c.solve.ensures.same_record
    c.in-Ok.ensures.asks.asked c.in-Ok.ensures.met
    c.solve.result c.solve.ensures.met c.solve.ensures.unmet)

pub returns-clause-follows : goal.returns-clause-follows
returns-clause-follows g c =
    let state = g.C.InferCtxtLike.state in
    let over = g.T.Relate.over in
    let tree = g.T.HasTree.tree in
    subst (λ r. FollowsStill state c.args.ctx.now c.solve.new.ctx c.args.facts.now
    over tree c.args.param_env c.args.variance c.args.lhs c.args.rhs r)
    (sym c.with_goals.ensures) (told_follows state c.args.ctx.now c.relate.new.self c.solve.new.ctx c.args.facts.now
    over tree c.args.param_env c.args.variance c.args.lhs c.args.rhs c.in-Ok.goals c.requires.facts_in
    c.in-Ok.ensures.leaves.grown c.solve.ensures.grows.extends c.solve.ensures.same_record
    c.in-Ok.ensures.asks.asked c.in-Ok.ensures.met
    c.solve.result c.solve.ensures.met c.in-Ok.ensures.leaves.later)

pub returns-clause-certain : goal.returns-clause-certain
returns-clause-certain g c =
    let state = g.C.InferCtxtLike.state in
    let over = g.T.Relate.over in
    let tree = g.T.HasTree.tree in
    subst (λ r. IsCertain state c.args.ctx.now c.solve.new.ctx c.args.facts.now
    over tree c.args.param_env c.args.variance c.args.lhs c.args.rhs r)
    (sym c.with_goals.ensures) (told_certain state c.args.ctx.now c.relate.new.self c.solve.new.ctx c.args.facts.now
    over tree c.args.param_env c.args.variance c.args.lhs c.args.rhs c.in-Ok.goals c.requires.facts_in
    c.in-Ok.ensures.leaves.grown c.solve.ensures.grows.extends c.solve.ensures.same_record
    c.in-Ok.ensures.asks.asked c.in-Ok.ensures.met
    c.solve.result c.solve.ensures.met c.in-Ok.ensures.no_goals)

pub returns-clause-clash : goal.returns-clause-clash
returns-clause-clash g c =
    let state = g.C.InferCtxtLike.state in
    let over = g.T.Relate.over in
    let tree = g.T.HasTree.tree in
    subst (λ r. IsClash state c.args.ctx.now c.solve.new.ctx c.args.facts.now
    over tree c.args.param_env c.args.variance c.args.lhs c.args.rhs r)
    (sym c.with_goals.ensures) (told_clash state c.args.ctx.now c.relate.new.self c.solve.new.ctx c.args.facts.now
    over tree c.args.param_env c.args.variance c.args.lhs c.args.rhs c.in-Ok.goals c.requires.facts_in
    c.in-Ok.ensures.leaves.grown c.solve.ensures.grows.extends c.solve.ensures.same_record
    c.solve.result)

pub returns-clause-unsaid : goal.returns-clause-unsaid
returns-clause-unsaid g c =
    let state = g.C.InferCtxtLike.state in
    let over = g.T.Relate.over in
    let tree = g.T.HasTree.tree in
    subst (λ r. IsUnsaid state c.args.ctx.now c.solve.new.ctx c.args.facts.now r)
    (sym c.with_goals.ensures) (told_unsaid state c.args.ctx.now c.relate.new.self c.solve.new.ctx c.args.facts.now
    over tree c.args.param_env c.args.variance c.args.lhs c.args.rhs c.in-Ok.goals c.requires.facts_in
    c.in-Ok.ensures.leaves.grown c.solve.ensures.grows.extends c.solve.ensures.same_record
    c.solve.result c.solve.ensures.unmet)

pub returns-clause-possible : goal.returns-clause-possible
returns-clause-possible g c =
    let state = g.C.InferCtxtLike.state in
    let over = g.T.Relate.over in
    let tree = g.T.HasTree.tree in
    subst (λ r. IsPossible state c.args.ctx.now c.solve.new.ctx c.args.facts.now
    over tree c.args.param_env c.args.variance c.args.lhs c.args.rhs r)
    (sym c.with_goals.ensures) (told_possible state c.args.ctx.now c.relate.new.self c.solve.new.ctx c.args.facts.now
    over tree c.args.param_env c.args.variance c.args.lhs c.args.rhs c.in-Ok.goals c.requires.facts_in
    c.in-Ok.ensures.leaves.grown c.solve.ensures.grows.extends c.solve.ensures.same_record
    c.solve.result c.solve.ensures.met c.in-Ok.ensures.asks.goals.0
    c.in-Ok.ensures.both.sound.0)

-- What is left where they aren't related.
pub returns-in-Err-clause-later : goal.returns-in-Err-clause-later
returns-in-Err-clause-later g c = c.in-Err.ensures.leaves.later

pub returns-in-Err-clause-sound : goal.returns-in-Err-clause-sound
returns-in-Err-clause-sound g c = c.in-Err.ensures.leaves.store_sound

pub returns-in-Err-clause-lawful : goal.returns-in-Err-clause-lawful
returns-in-Err-clause-lawful g c = c.in-Err.ensures.leaves.lawful

pub returns-in-Err-clause-grown : goal.returns-in-Err-clause-grown
returns-in-Err-clause-grown g c = c.in-Err.ensures.leaves.grown

-- What is left otherwise.
pub returns-clause-later : goal.returns-clause-later
returns-clause-later g c = subst (λ st. IsLater (g.C.InferCtxtLike.state c.args.ctx.now).store st)
    (sym c.solve.ensures.same_record) c.in-Ok.ensures.leaves.later

pub returns-clause-sound : goal.returns-clause-sound
returns-clause-sound g c = subst IsSound (sym c.solve.ensures.same_record) c.in-Ok.ensures.leaves.store_sound

pub returns-clause-lawful : goal.returns-clause-lawful
returns-clause-lawful g c = c.solve.ensures.grows.lawful

pub returns-clause-spent : goal.returns-clause-spent
returns-clause-spent g c =
    let state = g.C.InferCtxtLike.state in
    let over = g.T.Relate.over in
    let tree = g.T.HasTree.tree in
    let none_left : Type 0 = (state c.solve.new.ctx).store.budget ≡ 0 in
    subst (λ r. IfSpent r none_left) (sym c.with_goals.ensures)
    (told_spent state c.args.ctx.now c.relate.new.self c.solve.new.ctx c.args.facts.now over tree c.args.param_env
    c.args.variance c.args.lhs c.args.rhs c.in-Ok.goals c.requires.facts_in c.in-Ok.ensures.leaves.grown
    c.solve.ensures.grows.extends c.solve.ensures.same_record c.solve.result none_left)
