use Rattle.std.proofs.Common.{rules, arith, refl, sym, ap, ◌∙◌, ◌≡◌, ◌<◌, ◌+◌, ◌*◌, suc, subst, OnOk}
use Rattle.std.proofs.Common.{[], ◌∷◌, MatchOption}
use Rattle.std.proofs.lemmas.Bool.{OnTrue_at}
use Rattle.relation_terms.specs.Trees.{size, count, IsList}
use Rattle.relation_terms.specs.Parts.{part_tree, parts_tree, parts_of}
use Rattle.relation_terms.specs.Orders.{in_order, list_order, order_of}
use Rattle.relation_terms.proofs.Orders.{order_count, order_list, below_in_order, member_in_order}
use Rattle.relation_terms.specs.Interning.{Sorted}
use Rattle.relation_terms.proofs.Members.{member_small, parts_small}
use Rattle.relation_terms.proofs.Parts.{sort_known}
use Rattle.anonymize.specs.Anonymous.{here, uses, with_vars}
use Rattle.anonymize.specs.UsedParts.{AllIn, Remembered}
use Rattle.relation_folds.proofs.Depths.{inside_known, inside}
use Rattle.std.proofs.lemmas.Result.{on_ok_weaker}
use Rattle.relation_folds.proofs.Remembering.{place_eq}
use Rattle.anonymize.proofs.UsedVars.{all_added, all_there}
use Rattle.anonymize.proofs.UsedTrees.{uses_itself, uses_inside, used_next, used_all}
use Rattle.anonymize.proofs.UsedParts.{remembers_later}
use Rattle.relation_folds.proofs.Visiting.{has_sort}
use Rattle.relation_folds.proofs.Folding.{on_ok}
use Rattle.anonymize.proofs.collecting.+collect.Goals as goal

pub collect_list-loop-step-init : goal.collect_list-loop-step-init
collect_list-loop-step-init g t' c = record { collects = refl; remembered = c.requires.remembered }

pub collect_list-collect_part-requires : goal.collect_list-collect_part-requires
collect_list-collect_part-requires g t' c κs within =
    let m = g.I.Interner.meaning c.args.cx.now in
    let ts = parts_tree m c.args.parts.now in
    let x = c.member-part.result in
    let counted = c.member_count-count.ensures.counts in
    let place = c.visited_place.result in
    let bound = c.visited_place.ensures.in_bounds in
    let below : place < count ts = omega (arith, counted, bound) in
    let d = c.decreases in
    let less = member_small ts place below in
    let is : size (part_tree m x) ≡ size _ = ap size c.member-part.ensures.means in
    let small : 3 * size (part_tree m x) + 2 < 3 * size ts = omega (arith, less, is) in
    let k = c.member-part.ensures.sure in
    let r = c.loop-step.invariant.remembered in
    search rules

pub collect_list-loop-step-preserved : goal.collect_list-loop-step-preserved
collect_list-loop-step-preserved g t' c =
    let m = g.I.Interner.meaning c.args.cx.now in
    let ts = parts_tree m c.args.parts.now in
    let o = list_order c.args.parts.now in
    let k = c.loop-step.step in
    let counted = c.member_count-count.ensures.counts in
    let test = c.loop-step-test.true in
    let below : k < count ts = omega (arith, counted, test) in
    let next : k + 1 ≡ suc k = omega arith in
    let is = member_in_order o ts c.member_count-count.result k c.visited_place.result
    (part_tree m c.member-part.result) counted below c.visited_place.ensures.place c.member-part.ensures.means in
    record {
      collects = used_next c.args.depth c.args.vars.now.items c.loop-step.vars.items k (in_order o ts)
          c.loop-step.invariant.collects c.collect_part.new.vars.items (k + 1) (part_tree m c.member-part.result)
          (below_in_order o ts k below) next is c.in_ok-collect_part.ensures.collects;
      remembered = c.in_ok-collect_part.ensures.kept;
    }

pub collect_list-returns-clause-is_list : goal.collect_list-returns-clause-is_list
collect_list-returns-clause-is_list g t' c = c.member_count-count.ensures.is_list

pub collect_list-returns-in_err-collect_part-clause-is_list : goal.collect_list-returns-in_err-collect_part-clause-is_list
collect_list-returns-in_err-collect_part-clause-is_list g t' c = c.member_count-count.ensures.is_list

pub collect_list-returns-clause-collects : goal.collect_list-returns-clause-collects
collect_list-returns-clause-collects g t' c =
    let m = g.I.Interner.meaning c.args.cx.now in
    let ts = parts_tree m c.args.parts.now in
    let o = list_order c.args.parts.now in
    let counted = c.member_count-count.ensures.counts in
    let test = c.loop-step-test.false in
    let end = (c.loop-step.auto).step-end in
    let same = order_count o ts in
    let all : c.loop-step.step ≡ count (in_order o ts) = omega (arith, counted, test, end, same) in
    used_all c.args.depth c.args.vars.now.items c.loop-step.vars.items c.loop-step.step (in_order o ts)
    c.loop-step.invariant.collects (order_list o ts c.member_count-count.ensures.is_list) all

pub collect_list-returns-clause-kept : goal.collect_list-returns-clause-kept
collect_list-returns-clause-kept g t' c = c.loop-step.invariant.remembered

pub collect_new-collect_list-requires : goal.collect_new-collect_list-requires
collect_new-collect_list-requires g t' c κs within =
    let m = g.I.Interner.meaning c.args.cx.now in
    let t = part_tree m c.args.part.now in
    let ts = parts_tree m c.parts_of.result in
    let d = c.decreases in
    let less = parts_small t in
    let is : size ts ≡ size (parts_of t) = ap size c.parts_of.ensures.means in
    let small : 3 * size ts < 3 * size t + 1 = omega (arith, less, is) in
    let k = c.parts_of.ensures.sure in
    let r = c.requires.remembered in
    search rules

pub collect_new-returns-in-Some-clause-collects : goal.collect_new-returns-in-Some-clause-collects
collect_new-returns-in-Some-clause-collects g t' c =
    let m = g.I.Interner.meaning c.args.cx.now in
    let t = part_tree m c.args.part.now in
    let d = c.args.depth in
    let is : here d t ≡ c.in-Some.var ∷ [] =
    subst (λ o. MatchOption o (here d t ≡ []) (λ var. here d t ≡ var ∷ [])) c.in-Some.is c.part_var.ensures in
    on_ok_weaker c.add.result (λ e. e ∙ ap (with_vars c.args.vars.now.items) (sym (uses_itself d t c.in-Some.var is)))
    c.add.ensures

pub collect_new-returns-in-Some-clause-kept : goal.collect_new-returns-in-Some-clause-kept
collect_new-returns-in-Some-clause-kept g t' c =
    let m = g.I.Interner.meaning c.args.cx.now in
    let eq = place_eq g.I.Key.PartialEq.eq in
    let us = c.args.vars.now.items in
    on_ok_weaker c.add.result (λ e. subst (λ z. Remembered m z eq c.args.met.now.keys) (sym e)
    (remembers_later m us eq (c.in-Some.var ∷ []) c.args.met.now.keys c.requires.remembered)) c.add.ensures

pub collect_new-returns-in_ok-inside-in-None-clause-collects : goal.collect_new-returns-in_ok-inside-in-None-clause-collects
collect_new-returns-in_ok-inside-in-None-clause-collects g t' c =
    let m = g.I.Interner.meaning c.args.cx.now in
    let p = c.args.part.now in
    let t = part_tree m p in
    let d = c.args.depth in
    let us = c.args.vars.now.items in
    let ps = c.parts_of.result in
    let sorted : Sorted m = g.met.I.Interner.sorted c.args.cx.now in
    let k = c.requires.known in
    let none : here d t ≡ [] =
    subst (λ o. MatchOption o (here d t ≡ []) (λ var. here d t ≡ var ∷ [])) c.in-None.is c.part_var.ensures in
    let deep : c.in_ok-inside-in-None.inside ≡ inside t d = c.in_ok-inside-in-None.ensures ∙ inside_known m sorted p d k in
    let list : IsList (parts_of t) = subst (λ z. IsList z) c.parts_of.ensures.means c.collect_list.ensures.is_list in
    let same : uses c.in_ok-inside-in-None.inside (in_order (list_order ps) (parts_tree m ps)) ≡ uses d t =
    ap (λ z. uses z (in_order (list_order ps) (parts_tree m ps))) deep
    ∙ ap (λ z. uses (inside t d) (in_order z (parts_tree m ps))) c.parts_of.ensures.order
    ∙ ap (λ z. uses (inside t d) (in_order (order_of t) z)) c.parts_of.ensures.means
    ∙ sym (uses_inside d t (λ e. has_sort p (sym (sort_known m sorted p k) ∙ e)) list none) in
    on_ok_weaker c.collect_list.result (λ e. e ∙ ap (with_vars us) same) c.collect_list.ensures.collects

pub collect_part-returns-then-was_met-clause-collects : goal.collect_part-returns-then-was_met-clause-collects
collect_part-returns-then-was_met-clause-collects g t' c =
    let m = g.I.Interner.meaning c.args.cx.now in
    let us = c.args.vars.now.items in
    let vs = uses c.args.depth (part_tree m c.args.part.now) in
    let all : AllIn c.deref.result.now vs = OnTrue_at c.if-was_met.true c.was_met.ensures in
    sym (all_there vs us (subst (λ z. AllIn z vs) c.deref.ensures.value all))

pub collect_part-returns-then-was_met-clause-kept : goal.collect_part-returns-then-was_met-clause-kept
collect_part-returns-then-was_met-clause-kept g t' c = c.requires.remembered

pub collect_part-collect_new-requires : goal.collect_part-collect_new-requires
collect_part-collect_new-requires g t' c κs within =
    let m = g.I.Interner.meaning c.args.cx.now in
    let x = c.args.part.now in
    let d = c.decreases in
    let small : 3 * size (part_tree m x) + 1 < 3 * size (part_tree m x) + 2 = omega arith in
    let k = c.requires.known in
    let r = c.requires.remembered in
    search rules

pub collect_part-keep_collected-requires-clause-collected : goal.collect_part-keep_collected-requires-clause-collected
collect_part-keep_collected-requires-clause-collected g t' c =
    let m = g.I.Interner.meaning c.args.cx.now in
    let us = c.args.vars.now.items in
    let vs = uses c.args.depth (part_tree m c.args.part.now) in
    subst (λ z. AllIn z vs) (sym (c.deref-2.ensures.value ∙ c.in_ok-collect_new.ensures.collects)) (all_added vs us)

pub collect_part-keep_collected-requires-clause-remembered : goal.collect_part-keep_collected-requires-clause-remembered
collect_part-keep_collected-requires-clause-remembered g t' c =
    let m = g.I.Interner.meaning c.args.cx.now in
    subst (λ z. Remembered m z (place_eq g.I.Key.PartialEq.eq) c.collect_new.new.met.keys)
    (sym c.deref-2.ensures.value) c.in_ok-collect_new.ensures.kept

pub collect_part-returns-clause-collects : goal.collect_part-returns-clause-collects
collect_part-returns-clause-collects g t' c = on_ok c.keep_collected.result _ c.in_ok-collect_new.ensures.collects

pub collect_part-returns-clause-kept : goal.collect_part-returns-clause-kept
collect_part-returns-clause-kept g t' c =
    let m = g.I.Interner.meaning c.args.cx.now in
    subst (λ z. OnOk c.keep_collected.result (Remembered m z (place_eq g.I.Key.PartialEq.eq) c.keep_collected.new.met.keys))
    c.deref-2.ensures.value c.keep_collected.ensures

pub collect_new-returns-in_ok-inside-in-None-clause-kept : goal.collect_new-returns-in_ok-inside-in-None-clause-kept
collect_new-returns-in_ok-inside-in-None-clause-kept g t' c = c.collect_list.ensures.kept
