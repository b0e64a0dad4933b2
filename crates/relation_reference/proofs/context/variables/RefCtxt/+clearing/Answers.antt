use Rattle.std.proofs.Common.{rules, arith, sym, ap, ◌∙◌, ◌≡◌, ◌<◌, ◌+◌, ◌*◌, subst, true, false}
use Rattle.relation_terms.specs.Trees.{size, count, nth}
use Rattle.relation_terms.specs.Parts.{part_tree, parts_of}
use Rattle.relation_terms.specs.Interning.{Sorted}
use Rattle.relation_terms.proofs.Parts.{sort_known}
use Rattle.relation_semantics.specs.Stores.{InContext}
use Rattle.variable_tables.specs.Tables.{store_of}
use Rattle.occurs_check.specs.TermVids.{vid_kind, vid_number}
use Rattle.relation_reference.proofs.Clearing.{told_clear, told_stops, parts_clear_next, part_stops, whole_clear}
use Rattle.relation_reference.proofs.Outside.{part_smaller}
use Rattle.relation_reference.proofs.Resolving.{context_part}
use Rattle.relation_reference.proofs.context.variables.RefCtxt.+clearing.Goals as goal
use Rattle.relation_folds.proofs.Visiting.{has_sort}

pub are_parts_clear-is_clear-requires : goal.are_parts_clear-is_clear-requires
are_parts_clear-is_clear-requires g t' c κs within =
    let m = g.I.Interner.meaning c.args.self.now.interner in
    let st = store_of m c.args.self.now.inner in
    let t = part_tree m c.args.term.now in
    let j = c.loop-i.i in
    let z = c.part-next.result in
    let counted = c.parts_count-i-end.ensures.counts in
    let test = c.loop-i-test.true in
    let below : j < count (parts_of t) = omega (arith, counted, test) in
    let at : part_tree m z ≡ nth j (parts_of t) = c.part-next.ensures.means in
    let d = c.decreases in
    let f = part_smaller t j below in
    let s = ap size at in
    let small : 2 * size (part_tree m z) + 1 < 2 * size t = omega (arith, f, s) in
    let lawful = c.requires.lawful in
    let there = c.part-next.ensures.sure in
    let is_in : InContext st (part_tree m z) =
    subst (InContext st) (sym at) (context_part st t j c.parts_count-i-end.ensures.is_list c.requires.term_in) in
    let found = c.loop-i.invariant.found in
    search rules

pub are_parts_clear-returns-then-not-branch-clause-tells : goal.are_parts_clear-returns-then-not-branch-clause-tells
are_parts_clear-returns-then-not-branch-clause-tells g t' c =
    let m = g.I.Interner.meaning c.args.self.now.interner in
    let t = part_tree m c.args.term.now in
    let j = c.loop-i.i in
    let z = part_tree m c.part-next.result in
    let k = vid_kind c.args.target.now.vid in
    let n = vid_number c.args.target.now.vid in
    let u = c.args.target.now.universe.0 in
    let counted = c.parts_count-i-end.ensures.counts in
    let test = c.loop-i-test.true in
    let below : j < count (parts_of t) = omega (arith, counted, test) in
    let no : c.in_ok-is_clear.field-0 ≡ false = search rules in
    part_stops k n u j t z below c.loop-i.invariant.firsts_clear c.part-next.ensures.means
    (told_stops k n u z c.in_ok-is_clear.field-0 c.in_ok-is_clear.ensures.tells no)

pub are_parts_clear-loop-i-preserved : goal.are_parts_clear-loop-i-preserved
are_parts_clear-loop-i-preserved g t' c =
    let m = g.I.Interner.meaning c.args.self.now.interner in
    let t = part_tree m c.args.term.now in
    let j = c.loop-i.i in
    let z = part_tree m c.part-next.result in
    let k = vid_kind c.args.target.now.vid in
    let n = vid_number c.args.target.now.vid in
    let u = c.args.target.now.universe.0 in
    let counted = c.parts_count-i-end.ensures.counts in
    let test = c.loop-i-test.true in
    let below : j < count (parts_of t) = omega (arith, counted, test) in
    let yes : c.in_ok-is_clear.field-0 ≡ true = search rules in
    record {
      firsts_clear = parts_clear_next k n u j (j + 1) (parts_of t) z below c.loop-i.invariant.firsts_clear
          c.part-next.ensures.means (told_clear k n u z c.in_ok-is_clear.field-0 c.in_ok-is_clear.ensures.tells yes)
          (omega arith);
      found = c.in_ok-is_clear.ensures.clear;
    }

pub are_parts_clear-returns-clause-tells : goal.are_parts_clear-returns-clause-tells
are_parts_clear-returns-clause-tells g t' c =
    let m = g.I.Interner.meaning c.args.self.now.interner in
    let p = c.args.term.now in
    let t = part_tree m p in
    let j = c.loop-i.i in
    let sorted : Sorted m = g.met.I.Interner.sorted c.args.self.now.interner in
    let counted = c.parts_count-i-end.ensures.counts in
    let test = c.loop-i-test.false in
    let end = c.loop-i.auto.i-end in
    let all : j ≡ count (parts_of t) = omega (arith, counted, test, end) in
    whole_clear (vid_kind c.args.target.now.vid) (vid_number c.args.target.now.vid) c.args.target.now.universe.0 j t
    (λ s. has_sort p (sym (sort_known m sorted p c.requires.term_known) ∙ s)) c.parts_count-i-end.ensures.is_list all
    (c.is_obstacle.ensures.is_not c.if-is_obstacle.false) c.loop-i.invariant.firsts_clear
