use Rattle.std.proofs.Common.{rules, arith, sym, ap, ap₂, ◌∙◌, ◌≡◌, ◌<◌, ◌+◌, ◌*◌, suc, subst₂}
use Rattle.std.specs.declared.ops.ControlFlow.TheVariants.{Continue, Break}
use Rattle.relation_terms.specs.Trees.{size, count}
use Rattle.relation_terms.specs.Parts.{part_tree, parts_tree, parts_of, part_sort}
use Rattle.relation_terms.specs.Orders.{in_order, list_order}
use Rattle.relation_terms.proofs.Orders.{order_count, order_list, below_in_order, member_in_order}
use Rattle.relation_terms.specs.Interning.{Sorted}
use Rattle.relation_terms.proofs.Members.{member_small, parts_small}
use Rattle.relation_terms.proofs.Parts.{sort_known}
use Rattle.relation_folds.specs.Visits.{Walks, visited_sort}
use Rattle.relation_folds.proofs.Visiting.{visited_as, has_sort, when_entered, when_skipped, when_stopped}
use Rattle.relation_folds.proofs.Visiting.{over_next, over_last, over_end}
use Rattle.relation_folds.proofs.Depths.{told_known, told_inside}
use Rattle.relation_folds.proofs.visit.walk.+walk.Goals as goal

pub visit_list-loop-step-init : goal.visit_list-loop-step-init
visit_list-loop-step-init g t c = λ w r p. p

pub visit_list-visit_part-requires : goal.visit_list-visit_part-requires
visit_list-visit_part-requires g t' c κs within =
    let m = g.I.Interner.meaning c.args.cx.now in
    let ts = parts_tree m c.args.parts.now in
    let x = c.member-part.result in
    let counted = c.member_count-count.ensures.counts in
    let place = c.visited_place.result in
    let bound = c.visited_place.ensures.in_bounds in
    let below : place < count ts = omega (arith, counted, bound) in
    let d = c.decreases in
    let less = member_small ts place below in
    let is : size (part_tree m x) ≡ size _ = ap size c.member-part.ensures.means in
    let small : 2 * size (part_tree m x) + 1 < 2 * size ts = omega (arith, less, is) in
    let k = c.member-part.ensures.sure in
    search rules

pub visit_list-returns-in_err-visit_part : goal.visit_list-returns-in_err-visit_part
visit_list-returns-in_err-visit_part g t' c =
    let visits = g.V.TypeVisitor.visits c.args.cx.now in
    let m = g.I.Interner.meaning c.args.cx.now in
    let ts = parts_tree m c.args.parts.now in
    let o = list_order c.args.parts.now in
    let counted = c.member_count-count.ensures.counts in
    let test = c.loop-step-test.true in
    let below : c.loop-step.step < count ts = omega (arith, counted, test) in
    let broke : c.visit_part.result ≡ Break tt = search rules in
    let is = member_in_order o ts c.member_count-count.result c.loop-step.step c.visited_place.result
    (part_tree m c.member-part.result) counted below c.visited_place.ensures.place c.member-part.ensures.means in
    c.loop-step.invariant c.visit_part.new.visitor c.from_residual.result
    (over_last visits c.args.depth c.loop-step.visitor c.visit_part.new.visitor c.loop-step.step (in_order o ts)
    (part_tree m c.member-part.result) c.visit_part.result c.from_residual.result (below_in_order o ts c.loop-step.step below) is
    c.visit_part.ensures broke c.from_residual.ensures)

pub visit_list-loop-step-preserved : goal.visit_list-loop-step-preserved
visit_list-loop-step-preserved g t' c = λ w r p.
    let visits = g.V.TypeVisitor.visits c.args.cx.now in
    let m = g.I.Interner.meaning c.args.cx.now in
    let ts = parts_tree m c.args.parts.now in
    let o = list_order c.args.parts.now in
    let k = c.loop-step.step in
    let counted = c.member_count-count.ensures.counts in
    let test = c.loop-step-test.true in
    let below : k < count ts = omega (arith, counted, test) in
    let went : c.visit_part.result ≡ Continue tt = search rules in
    let next : k + 1 ≡ suc k = omega arith in
    let is = member_in_order o ts c.member_count-count.result k c.visited_place.result
    (part_tree m c.member-part.result) counted below c.visited_place.ensures.place c.member-part.ensures.means in
    c.loop-step.invariant w r
    (over_next visits c.args.depth c.loop-step.visitor c.visit_part.new.visitor w k (k + 1) (in_order o ts)
    (part_tree m c.member-part.result) c.visit_part.result r (below_in_order o ts k below) next is c.visit_part.ensures went p)

pub visit_list-returns : goal.visit_list-returns
visit_list-returns g t' c =
    let visits = g.V.TypeVisitor.visits c.args.cx.now in
    let m = g.I.Interner.meaning c.args.cx.now in
    let ts = parts_tree m c.args.parts.now in
    let o = list_order c.args.parts.now in
    let counted = c.member_count-count.ensures.counts in
    let test = c.loop-step-test.false in
    let end = (c.loop-step.auto).step-end in
    let same = order_count o ts in
    let all : c.loop-step.step ≡ count (in_order o ts) = omega (arith, counted, test, end, same) in
    c.loop-step.invariant c.loop-step.visitor (Continue tt)
    (over_end visits c.args.depth c.loop-step.visitor c.loop-step.step (in_order o ts)
    (order_list o ts c.member_count-count.ensures.is_list) all)

pub visit_part-visit_list-requires : goal.visit_part-visit_list-requires
visit_part-visit_list-requires g t' c κs within =
    let m = g.I.Interner.meaning c.args.cx.now in
    let t = part_tree m c.args.part.now in
    let ts = parts_tree m c.parts_of.result in
    let d = c.decreases in
    let less = parts_small t in
    let is : size ts ≡ size (parts_of t) = ap size c.parts_of.ensures.means in
    let small : 2 * size ts < 2 * size t + 1 = omega (arith, less, is) in
    let k = c.parts_of.ensures.sure in
    search rules

pub visit_part-returns-in-Enter : goal.visit_part-returns-in-Enter
visit_part-returns-in-Enter g t' c =
    let visits = g.V.TypeVisitor.visits c.args.cx.now in
    let m = g.I.Interner.meaning c.args.cx.now in
    let p = c.args.part.now in
    let t = part_tree m p in
    let sorted : Sorted m = g.met.I.Interner.sorted c.args.cx.now in
    let s = sort_known m sorted p c.requires in
    let deep : c.depth_inside.result ≡ told_inside t c.args.depth =
    c.depth_inside.ensures ∙ told_known m sorted p c.args.depth c.requires in
    let w = c.ask.new.visitor in
    let x = c.visit_list.new.visitor in
    when_entered visits c.args.depth (visited_sort (part_sort p)) c.args.visitor.now w x t c.ask.result
    c.visit_list.result (λ e. has_sort p (sym s ∙ e)) (visited_as t (part_sort p) s) c.ask.ensures c.in-Enter.is
    (subst₂ (λ d ts. Walks visits d w ts x c.visit_list.result) deep
    (ap₂ in_order c.parts_of.ensures.order c.parts_of.ensures.means) c.visit_list.ensures)

pub visit_part-returns-in-Skip : goal.visit_part-returns-in-Skip
visit_part-returns-in-Skip g t' c =
    let visits = g.V.TypeVisitor.visits c.args.cx.now in
    let m = g.I.Interner.meaning c.args.cx.now in
    let p = c.args.part.now in
    let t = part_tree m p in
    let sorted : Sorted m = g.met.I.Interner.sorted c.args.cx.now in
    when_skipped visits c.args.depth (visited_sort (part_sort p)) c.args.visitor.now c.ask.new.visitor t c.ask.result
    (visited_as t (part_sort p) (sort_known m sorted p c.requires)) c.ask.ensures c.in-Skip.is

pub visit_part-returns-in-Stop : goal.visit_part-returns-in-Stop
visit_part-returns-in-Stop g t' c =
    let visits = g.V.TypeVisitor.visits c.args.cx.now in
    let m = g.I.Interner.meaning c.args.cx.now in
    let p = c.args.part.now in
    let t = part_tree m p in
    let sorted : Sorted m = g.met.I.Interner.sorted c.args.cx.now in
    when_stopped visits c.args.depth (visited_sort (part_sort p)) c.args.visitor.now c.ask.new.visitor t c.ask.result
    (visited_as t (part_sort p) (sort_known m sorted p c.requires)) c.ask.ensures c.in-Stop.is
