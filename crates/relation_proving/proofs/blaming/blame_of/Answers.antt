-- The store is what it was, and what the goal comes to is known.
use Rattle.relation_semantics.proofs.Going.{later_same}
use Rattle.relation_proving.proofs.GoingOn.{goes_itself}
use Rattle.relation_proving.proofs.blaming.blame_of.Goals as goal

pub resolve_vars_if_possible-requires : goal.resolve_vars_if_possible-requires
resolve_vars_if_possible-requires g c = record {
  lawful = c.requires.lawful;
  value_known = c.requires.goal.is_known;
  value_in = c.requires.goal.is_in;
}

pub returns-in-Some-clause-goes_on : goal.returns-in-Some-clause-goes_on
returns-in-Some-clause-goes_on g c = goes_itself (g.C.InferCtxtLike.state c.args.ctx.now) c.requires.lawful

pub returns-in_err-goal-clause-goes_on : goal.returns-in_err-goal-clause-goes_on
returns-in_err-goal-clause-goes_on g c =
    let s = g.C.InferCtxtLike.state c.args.ctx.now in
    let d = g.C.InferCtxtLike.state c.resolve_vars_if_possible.new.self in
    let e = c.resolve_vars_if_possible.ensures in
    record { later = later_same s.store d.store e.same_record; lawful = e.grows.lawful; grown = e.grows.extends }

pub returns-clause-goes_on : goal.returns-clause-goes_on
returns-clause-goes_on g c =
    let s = g.C.InferCtxtLike.state c.args.ctx.now in
    let d = g.C.InferCtxtLike.state c.resolve_vars_if_possible.new.self in
    let e = c.resolve_vars_if_possible.ensures in
    record { later = later_same s.store d.store e.same_record; lawful = e.grows.lawful; grown = e.grows.extends }
