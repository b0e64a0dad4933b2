-- What opening asks of two headers, relating of their bodies, and resolving of the left one; and what comes of it.
use Rattle.std.proofs.Common.{refl, sym, subst}
use Rattle.relation_terms.specs.Interning.{Sorted}
use Rattle.relation_terms.proofs.Stays.{extends_on, knows_args, knows_param_env}
use Rattle.relation_semantics.specs.Goals.{goals_of}
use Rattle.relation_semantics.proofs.Registered.{goals_known}
use Rattle.relation_semantics.proofs.Going.{later_itself, later_same, later_through}
use Rattle.relation_coherence.specs.Headers.{header_tree}
use Rattle.relation_coherence.proofs.BothOpened.{body_known}
use Rattle.relation_coherence.proofs.ByForm.{headers_by_form, apart_from_erased}
use Rattle.relation_coherence.proofs.Answering.{apart, apart_erased, bounded, opened_pair, opened_as_many}
use Rattle.relation_coherence.proofs.Meeting.{body_terms, body_list, left_after, meets_resolved, meets_covers, meets_common}
use Rattle.relation_coherence.proofs.overlap.overlap.Goals as goal

pub bodies_may_unify-requires-clause-left_known : goal.bodies_may_unify-requires-clause-left_known
bodies_may_unify-requires-clause-left_known g c =
    body_known (g.C.InferCtxtLike.state c.args.ctx.now).meaning c.args.left c.requires.left_known

pub bodies_may_unify-requires-clause-right_known : goal.bodies_may_unify-requires-clause-right_known
bodies_may_unify-requires-clause-right_known g c =
    body_known (g.C.InferCtxtLike.state c.args.ctx.now).meaning c.args.right c.requires.right_known

-- A quick test told the two apart.
pub returns-then-not-bodies_may_unify-clause-apart_erased : goal.returns-then-not-bodies_may_unify-clause-apart_erased
returns-then-not-bodies_may_unify-clause-apart_erased g c =
    let s = g.C.InferCtxtLike.state c.args.ctx.now in
    let sorted : Sorted s.meaning = subst Sorted (sym (g.met.C.InferCtxtLike.reads c.args.ctx.now))
    (g.met.C.Interner.Interner.sorted (g.C.InferCtxtLike.interner c.args.ctx.now)) in
    headers_by_form c.opening.ensures.instance s c.args.left c.args.right c.requires.left_taken c.requires.right_taken
    (body_terms s sorted c.args.left c.requires.left_known) (body_terms s sorted c.args.right c.requires.right_known)
    c.requires.left_closed c.requires.right_closed c.requires.names (c.if-not-bodies_may_unify.ensures refl)

pub returns-then-not-bodies_may_unify-clause-apart : goal.returns-then-not-bodies_may_unify-clause-apart
returns-then-not-bodies_may_unify-clause-apart g c =
    let s = g.C.InferCtxtLike.state c.args.ctx.now in
    let sorted : Sorted s.meaning = subst Sorted (sym (g.met.C.InferCtxtLike.reads c.args.ctx.now))
    (g.met.C.Interner.Interner.sorted (g.C.InferCtxtLike.interner c.args.ctx.now)) in
    let l = header_tree s.meaning c.args.left in
    let r = header_tree s.meaning c.args.right in
    apart_from_erased (s.store).universe l r
    (headers_by_form c.opening.ensures.instance s c.args.left c.args.right c.requires.left_taken
    c.requires.right_taken (body_terms s sorted c.args.left c.requires.left_known)
    (body_terms s sorted c.args.right c.requires.right_known) c.requires.left_closed c.requires.right_closed
    c.requires.names (c.if-not-bodies_may_unify.ensures refl))

-- What relating asks of the opened bodies.
pub relate-requires : goal.relate-requires
relate-requires g c =
    let s = g.C.InferCtxtLike.state c.args.ctx.now in
    let d = g.C.InferCtxtLike.state c.open_both.new.ctx in
    let sorted : Sorted s.meaning = subst Sorted (sym (g.met.C.InferCtxtLike.reads c.args.ctx.now))
    (g.met.C.Interner.Interner.sorted (g.C.InferCtxtLike.interner c.args.ctx.now)) in
    let o = c.in_ok-lhs.ensures.opens in
    record {
      can = record {
        lawful = c.in_ok-lhs.ensures.grows.lawful;
        decides = λ e. absurd cc;
        env_known = knows_param_env c.in_ok-lhs.ensures.grows.extends c.args.param_env c.requires.env_known;
        lhs_known = (o.left_relates).is_known;
        rhs_known = (o.right_relates).is_known;
        fits = opened_as_many s d c.args.left c.args.right c.in_ok-lhs.lhs c.in_ok-lhs.rhs o
            (body_list s sorted c.args.left c.requires.left_known) (body_list s sorted c.args.right c.requires.right_known)
            c.requires.fits;
        lhs_taken = (o.left_relates).taken;
        rhs_taken = (o.right_relates).taken;
        lhs_in = (o.left_relates).has;
        rhs_in = (o.right_relates).has;
      };
    }

-- What resolving asks.
pub resolve_vars_if_possible-requires-clause-value_known : goal.resolve_vars_if_possible-requires-clause-value_known
resolve_vars_if_possible-requires-clause-value_known g c =
    knows_args c.in-Ok.ensures.leaves.grown c.in_ok-lhs.lhs ((c.in_ok-lhs.ensures.opens).left_relates).is_known

pub resolve_vars_if_possible-requires-clause-value_in : goal.resolve_vars_if_possible-requires-clause-value_in
resolve_vars_if_possible-requires-clause-value_in g c =
    left_after (g.C.InferCtxtLike.state c.open_both.new.ctx) (g.C.InferCtxtLike.state c.relate.new.self)
    c.in_ok-lhs.lhs (c.in_ok-lhs.ensures.opens).left_relates c.in-Ok.ensures.leaves.grown c.in-Ok.ensures.leaves.later

-- They do not relate.
pub returns-in-Err-Unrelated-clause-apart : goal.returns-in-Err-Unrelated-clause-apart
returns-in-Err-Unrelated-clause-apart g c =
    let s = g.C.InferCtxtLike.state c.args.ctx.now in
    apart s (g.C.InferCtxtLike.state c.open_both.new.ctx) c.args.left c.args.right c.in_ok-lhs.lhs c.in_ok-lhs.rhs
    c.in_ok-lhs.ensures.opens c.assigning.ensures.instantiating c.requires.left_closed c.requires.right_closed
    c.stores.ensures.met (g.met.C.InferCtxtLike.sound c.args.ctx.now c.requires.lawful)
    (rw c.in-Err-Unrelated.field-0-is at c.in-Err-Unrelated.ensures.fault.apart)

pub returns-in-Err-Unrelated-clause-apart_erased : goal.returns-in-Err-Unrelated-clause-apart_erased
returns-in-Err-Unrelated-clause-apart_erased g c = λ l r first.
    let s = g.C.InferCtxtLike.state c.args.ctx.now in
    let d = g.C.InferCtxtLike.state c.open_both.new.ctx in
    let sorted : Sorted s.meaning = subst Sorted (sym (g.met.C.InferCtxtLike.reads c.args.ctx.now))
    (g.met.C.Interner.Interner.sorted (g.C.InferCtxtLike.interner c.args.ctx.now)) in
    let never = rw c.in-Err-Unrelated.field-0-is at c.in-Err-Unrelated.ensures.fault.no_unifier in
    apart_erased s d c.args.left c.args.right c.in_ok-lhs.lhs c.in_ok-lhs.rhs c.in_ok-lhs.ensures.opens
    c.assigning.ensures.instantiating c.requires.left_closed c.requires.right_closed c.stores.ensures.met
    (g.met.C.InferCtxtLike.sound c.args.ctx.now c.requires.lawful)
    (never refl
    (opened_pair s d c.args.left c.args.right c.in_ok-lhs.lhs c.in_ok-lhs.rhs c.in_ok-lhs.ensures.opens
    (body_list s sorted c.args.left c.requires.left_known)
    (body_list s sorted c.args.right c.requires.right_known) l r first))

-- No instantiation is left.
pub returns-in-Err-Budget-clause-bounded : goal.returns-in-Err-Budget-clause-bounded
returns-in-Err-Budget-clause-bounded g c =
    let s = g.C.InferCtxtLike.state c.args.ctx.now in
    let d = g.C.InferCtxtLike.state c.open_both.new.ctx in
    let sorted : Sorted s.meaning = subst Sorted (sym (g.met.C.InferCtxtLike.reads c.args.ctx.now))
    (g.met.C.Interner.Interner.sorted (g.C.InferCtxtLike.interner c.args.ctx.now)) in (
      rw c.in-Err-Budget.field-0-is at c.in-Err-Budget.ensures.fault.spent,
      λ l r first. bounded s d c.args.left c.args.right c.in_ok-lhs.lhs c.in_ok-lhs.rhs c.in_ok-lhs.ensures.opens (λ u p.
          let few = (c.in-Err-Budget.ensures.fault.budget_suffices refl
          (opened_pair s d c.args.left c.args.right c.in_ok-lhs.lhs c.in_ok-lhs.rhs c.in_ok-lhs.ensures.opens
          (body_list s sorted c.args.left c.requires.left_known)
          (body_list s sorted c.args.right c.requires.right_known) l r first) u p).1 in
          rw c.in-Err-Budget.field-0-is at few),
    )

-- They do, and the left one was resolved.
pub returns-in_ok-header-in-Ok-clause-covers : goal.returns-in_ok-header-in-Ok-clause-covers
returns-in_ok-header-in-Ok-clause-covers g c =
    let state = g.C.InferCtxtLike.state in
    let e = state c.relate.new.self in
    meets_covers (state c.args.ctx.now) (state c.open_both.new.ctx) e (state c.resolve_vars_if_possible.new.self) c.args.left
    c.args.right c.in_ok-lhs.lhs c.in_ok-lhs.rhs c.in_ok-header-in-Ok.header c.in_ok-lhs.ensures.opens
    c.in-Ok.ensures.leaves.grown c.in-Ok.ensures.leaves.store_sound c.in_ok-header-in-Ok.ensures.same_record
    c.in_ok-header-in-Ok.ensures.comes.1 c.assigning.ensures.instantiating c.stores.ensures.resolving
    c.requires.left_closed c.requires.right_closed c.stores.ensures.met
    (g.met.C.InferCtxtLike.sound c.args.ctx.now c.requires.lawful) (goals_of e.meaning c.in-Ok.goals.items)
    c.in-Ok.ensures.loses_none.keeps

pub returns-in_ok-header-in-Ok-clause-common : goal.returns-in_ok-header-in-Ok-clause-common
returns-in_ok-header-in-Ok-clause-common g c = λ l r first.
    let state = g.C.InferCtxtLike.state in
    let s = state c.args.ctx.now in
    let d = state c.open_both.new.ctx in
    let sorted : Sorted s.meaning = subst Sorted (sym (g.met.C.InferCtxtLike.reads c.args.ctx.now))
    (g.met.C.Interner.Interner.sorted (g.C.InferCtxtLike.interner c.args.ctx.now)) in
    meets_common s d (state c.relate.new.self) (state c.resolve_vars_if_possible.new.self) c.args.left c.args.right
    c.in_ok-lhs.lhs c.in_ok-lhs.rhs c.in_ok-header-in-Ok.header c.in_ok-lhs.ensures.opens c.in-Ok.ensures.leaves.grown
    c.in-Ok.ensures.leaves.store_sound c.in_ok-header-in-Ok.ensures.same_record c.in_ok-header-in-Ok.ensures.comes.1
    c.assigning.ensures.instantiating c.stores.ensures.resolving c.requires.left_closed c.requires.right_closed
    c.opening.ensures.fit
    (c.in-Ok.ensures.loses_none.most_general refl
    (opened_pair s d c.args.left c.args.right c.in_ok-lhs.lhs c.in_ok-lhs.rhs c.in_ok-lhs.ensures.opens
    (body_list s sorted c.args.left c.requires.left_known)
    (body_list s sorted c.args.right c.requires.right_known) l r first)).0

pub returns-in_ok-header-in-Ok-clause-resolved : goal.returns-in_ok-header-in-Ok-clause-resolved
returns-in_ok-header-in-Ok-clause-resolved g c =
    let state = g.C.InferCtxtLike.state in
    meets_resolved (state c.args.ctx.now) (state c.open_both.new.ctx) (state c.relate.new.self)
    (state c.resolve_vars_if_possible.new.self) c.args.left c.args.right c.in_ok-lhs.lhs c.in_ok-lhs.rhs c.in_ok-header-in-Ok.header
    c.in_ok-lhs.ensures.opens c.in-Ok.ensures.leaves.grown c.in-Ok.ensures.leaves.store_sound
    c.in_ok-header-in-Ok.ensures.same_record c.in_ok-header-in-Ok.ensures.comes.1

-- The interner knows what is answered.
pub returns-in_ok-header-in-Ok-clause-known : goal.returns-in_ok-header-in-Ok-clause-known
returns-in_ok-header-in-Ok-clause-known g c = (
  c.in_ok-header-in-Ok.ensures.comes.0,
  goals_known c.in_ok-header-in-Ok.ensures.grows.extends c.in-Ok.goals.items c.in-Ok.ensures.asks.goals.0,
)

pub returns-in-Err-Unrelated-clause-known : goal.returns-in-Err-Unrelated-clause-known
returns-in-Err-Unrelated-clause-known g c =
    rw c.in-Err-Unrelated.field-0-is (rw c.in-Err-Unrelated.field-0-is at c.in-Err-Unrelated.ensures.fault.fault_known)

-- What was recorded stands at each exit, and what the interner knew.
pub returns-then-not-bodies_may_unify-clause-later : goal.returns-then-not-bodies_may_unify-clause-later
returns-then-not-bodies_may_unify-clause-later g c = later_itself (g.C.InferCtxtLike.state c.args.ctx.now).store

pub returns-in_err-lhs-clause-sound : goal.returns-in_err-lhs-clause-sound
returns-in_err-lhs-clause-sound g c =
    g.met.C.InferCtxtLike.sound c.open_both.new.ctx c.in_err-lhs.ensures.grows.lawful

pub returns-in_err-header-in-Ok-clause-later : goal.returns-in_err-header-in-Ok-clause-later
returns-in_err-header-in-Ok-clause-later g c =
    later_through c.in_ok-lhs.ensures.later (later_through c.in-Ok.ensures.leaves.later
    (later_same (g.C.InferCtxtLike.state c.relate.new.self).store
    (g.C.InferCtxtLike.state c.resolve_vars_if_possible.new.self).store
    c.in_err-header-in-Ok.ensures.same_record))

pub returns-in_err-header-in-Ok-clause-grown : goal.returns-in_err-header-in-Ok-clause-grown
returns-in_err-header-in-Ok-clause-grown g c =
    extends_on c.in_ok-lhs.ensures.grows.extends
    (extends_on c.in-Ok.ensures.leaves.grown c.in_err-header-in-Ok.ensures.grows.extends)

pub returns-in_ok-header-in-Ok-clause-later : goal.returns-in_ok-header-in-Ok-clause-later
returns-in_ok-header-in-Ok-clause-later g c =
    later_through c.in_ok-lhs.ensures.later (later_through c.in-Ok.ensures.leaves.later
    (later_same (g.C.InferCtxtLike.state c.relate.new.self).store
    (g.C.InferCtxtLike.state c.resolve_vars_if_possible.new.self).store
    c.in_ok-header-in-Ok.ensures.same_record))

pub returns-in_ok-header-in-Ok-clause-grown : goal.returns-in_ok-header-in-Ok-clause-grown
returns-in_ok-header-in-Ok-clause-grown g c =
    extends_on c.in_ok-lhs.ensures.grows.extends
    (extends_on c.in-Ok.ensures.leaves.grown c.in_ok-header-in-Ok.ensures.grows.extends)

pub returns-in-Err-Unrelated-clause-later : goal.returns-in-Err-Unrelated-clause-later
returns-in-Err-Unrelated-clause-later g c =
    later_through c.in_ok-lhs.ensures.later c.in-Err-Unrelated.ensures.leaves.later

pub returns-in-Err-Budget-clause-later : goal.returns-in-Err-Budget-clause-later
returns-in-Err-Budget-clause-later g c =
    later_through c.in_ok-lhs.ensures.later c.in-Err-Budget.ensures.leaves.later

pub returns-in-Err-Memory-clause-later : goal.returns-in-Err-Memory-clause-later
returns-in-Err-Memory-clause-later g c =
    later_through c.in_ok-lhs.ensures.later c.in-Err-Memory.ensures.leaves.later
