-- What stands asked for once the first header was opened, and what is opened then.
use Rattle.relation_semantics.proofs.Going.{later_through}
use Rattle.relation_coherence.proofs.BothOpened.{header_in, first_later, both_later, opens_headers}
use Rattle.relation_coherence.proofs.opening.open_both.Goals as goal
use Rattle.relation_semantics.proofs.MakingEach.{refused_later}

pub returns-in_err-lhs-clause-later : goal.returns-in_err-lhs-clause-later
returns-in_err-lhs-clause-later g c =
    refused_later c.opening.ensures.makes (g.C.InferCtxtLike.state c.args.ctx.now).store
    (g.C.InferCtxtLike.state c.instantiate_binder_with_infer.new.self).store _
    (g.met.C.InferCtxtLike.sound c.args.ctx.now c.requires.lawful) c.in_err-lhs.ensures.instantiates

pub instantiate_binder_with_infer-requires-2-clause-value_in :
    goal.instantiate_binder_with_infer-requires-2-clause-value_in
instantiate_binder_with_infer-requires-2-clause-value_in g c =
    let laws = c.opening.ensures in
    let before = g.C.InferCtxtLike.state c.args.ctx.now in
    let after = g.C.InferCtxtLike.state c.instantiate_binder_with_infer.new.self in
    header_in laws.opens laws.instantiated laws.instantiated_binds before after c.args.right
    c.in_ok-lhs.ensures.grows.extends
    (first_later laws.opens laws.instantiated laws.instantiated_binds before after c.args.left c.in_ok-lhs.lhs
    c.in_ok-lhs.ensures.instantiates.1 (g.met.C.InferCtxtLike.sound c.args.ctx.now c.requires.lawful)
    c.requires.left_in c.requires.left_taken)
    c.requires.right_known c.requires.right_in

pub returns-in_err-rhs-clause-later : goal.returns-in_err-rhs-clause-later
returns-in_err-rhs-clause-later g c =
    let laws = c.opening.ensures in
    let before = g.C.InferCtxtLike.state c.args.ctx.now in
    let middle = g.C.InferCtxtLike.state c.instantiate_binder_with_infer.new.self in
    let after = g.C.InferCtxtLike.state c.instantiate_binder_with_infer-2.new.self in
    later_through
    (first_later laws.opens laws.instantiated laws.instantiated_binds before middle c.args.left c.in_ok-lhs.lhs
    c.in_ok-lhs.ensures.instantiates.1 (g.met.C.InferCtxtLike.sound c.args.ctx.now c.requires.lawful)
    c.requires.left_in c.requires.left_taken)
    (refused_later laws.makes middle.store after.store _
    (g.met.C.InferCtxtLike.sound c.instantiate_binder_with_infer.new.self c.in_ok-lhs.ensures.grows.lawful)
    c.in_err-rhs.ensures.instantiates)

pub returns-clause-later : goal.returns-clause-later
returns-clause-later g c =
    let laws = c.opening.ensures in
    both_later laws.opens laws.instantiated laws.instantiated_binds (g.C.InferCtxtLike.state c.args.ctx.now)
    (g.C.InferCtxtLike.state c.instantiate_binder_with_infer.new.self)
    (g.C.InferCtxtLike.state c.instantiate_binder_with_infer-2.new.self) c.args.left c.args.right c.in_ok-lhs.lhs
    c.in_ok-rhs.rhs c.in_ok-lhs.ensures.grows.extends c.in_ok-rhs.ensures.grows.extends
    (g.met.C.InferCtxtLike.sound c.args.ctx.now c.requires.lawful)
    (g.met.C.InferCtxtLike.sound c.instantiate_binder_with_infer.new.self c.in_ok-lhs.ensures.grows.lawful)
    c.in_ok-lhs.ensures.instantiates.0 c.in_ok-rhs.ensures.instantiates.0 c.in_ok-lhs.ensures.instantiates.1
    c.in_ok-rhs.ensures.instantiates.1 c.requires.left_in c.requires.left_taken c.requires.right_known
    c.requires.right_in c.requires.right_taken

pub returns-clause-opens : goal.returns-clause-opens
returns-clause-opens g c =
    let laws = c.opening.ensures in
    opens_headers laws.opens laws.instantiated laws.instantiated_binds (g.C.InferCtxtLike.state c.args.ctx.now)
    (g.C.InferCtxtLike.state c.instantiate_binder_with_infer.new.self)
    (g.C.InferCtxtLike.state c.instantiate_binder_with_infer-2.new.self) c.args.left c.args.right c.in_ok-lhs.lhs
    c.in_ok-rhs.rhs c.in_ok-lhs.ensures.grows.extends c.in_ok-rhs.ensures.grows.extends
    (g.met.C.InferCtxtLike.sound c.args.ctx.now c.requires.lawful)
    (g.met.C.InferCtxtLike.sound c.instantiate_binder_with_infer.new.self c.in_ok-lhs.ensures.grows.lawful)
    c.in_ok-lhs.ensures.instantiates.0 c.in_ok-rhs.ensures.instantiates.0 c.in_ok-lhs.ensures.instantiates.1
    c.in_ok-rhs.ensures.instantiates.1 c.requires.left_in c.requires.left_taken c.requires.right_known
    c.requires.right_in c.requires.right_taken
