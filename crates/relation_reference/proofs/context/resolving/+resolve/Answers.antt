use Rattle.std.proofs.Common.{rules, arith, refl, sym, ap, ◌∙◌, ◌≡◌, ◌<◌, ◌≤◌, ◌+◌, ◌*◌}
use Rattle.std.proofs.Common.{suc, subst, IsTrue, IfSome}
use Rattle.std.proofs.lemmas.Bool.{false≢true}
use Rattle.relation_terms.specs.Trees.{nil, known, apply, count, nth, list_tree, IsList}
use Rattle.relation_terms.specs.Parts.{part_tree, parts_tree, parts_of, tree_sort, over, Fit}
use Rattle.relation_terms.proofs.Stays.{knows_as, extends_on, stays_same}
use Rattle.relation_terms.specs.Interning.{Sorted}
use Rattle.relation_terms.proofs.Members.{if_ok}
use Rattle.relation_terms.proofs.Parts.{sort_known, stays_part, stays_parts}
use Rattle.relation_semantics.specs.Stores.{weight, resolved, InContext}
use Rattle.variable_tables.specs.Tables.{store_of, IsLawful}
use Rattle.relation_reference.specs.Remembering.{ResolvesTo}
use Rattle.variable_tables.proofs.Grows.{store_grows}
use Rattle.relation_reference.proofs.Remembering.{key_eq, came, remembers_on}
use Rattle.relation_reference.proofs.Resolving.{lawful_now, part_was, part_in, part_falls, part_comes}
use Rattle.relation_reference.proofs.Resolving.{done_firsts, done_next, done_all, whole_comes}
use Rattle.relation_reference.proofs.Resolving.{unchanged_next, unchanged_all, whole_stays, weight_as}
use Rattle.relation_reference.proofs.context.resolving.+resolve.Goals as goal
use Rattle.relation_reference.proofs.context.resolving.+resolve.Goals.{resolve_inside-then-differs+in_ok-push}
use Rattle.relation_reference.proofs.context.resolving.+resolve.Goals.{resolve_inside-else-differs+else-not-is_same}
use Rattle.relation_reference.proofs.context.resolving.+resolve.Goals.{resolve_inside-else-differs+then-not-is_same+in_ok-parts+in_ok-push-2}
use Rattle.relation_folds.proofs.Folding.{on_ok}

pub resolve_inside-loop-i-init : goal.resolve_inside-loop-i-init
resolve_inside-loop-i-init g t' c =
    let m = g.I.Interner.meaning c.args.cx.now in
    record {
      grown = stays_same m;
      remembers = c.requires.remembers;
      done = λ h. absurd (false≢true h);
      unchanged = λ h. refl;
    }

pub resolve_inside-member-next-requires : goal.resolve_inside-member-next-requires
resolve_inside-member-next-requires g t' c =
    let m = g.I.Interner.meaning c.args.cx.now in
    let n = g.I.Interner.meaning c.loop-i.cx in
    let ps = c.args.own.now in
    let sure = c.requires.parts_known in
    let whole : parts_tree n ps ≡ parts_tree m ps = stays_parts c.loop-i.invariant.grown ps sure in
    let i = c.loop-i.i in
    let counted = c.member_count-i-end.ensures.counts in
    let test = c.loop-i-test.true in
    let below : i < count (parts_tree m ps) = omega (arith, counted, test) in
    record {
      list_known = knows_as (parts_tree m ps) (parts_tree n ps) whole sure;
      in_bounds = subst (λ z. i < count z) (sym whole) below;
    }

pub resolve_inside-resolve_part-requires : goal.resolve_inside-resolve_part-requires
resolve_inside-resolve_part-requires g t' c κs within =
    let x = c.args.inner.now in
    let m = g.I.Interner.meaning c.args.cx.now in
    let st = store_of m x in
    let p = c.args.term.now in
    let n = g.I.Interner.meaning c.loop-i.cx in
    let inv = c.loop-i.invariant in
    let e : part_tree n p ≡ part_tree m p = stays_part inv.grown p c.requires.term_known in
    let i = c.loop-i.i in
    let counted = c.member_count-i-end.ensures.counts ∙ ap count c.requires.parts in
    let test = c.loop-i-test.true in
    let below : i < count (parts_of (part_tree m p)) = omega (arith, counted, test) in
    let d = c.decreases in
    let z = c.member-next.result in
    let means = c.member-next.ensures.means
    ∙ ap (nth i) (stays_parts inv.grown c.args.own.now c.requires.parts_known
    ∙ c.requires.parts ∙ ap parts_of (sym e)) in
    let falls : weight (store_of n x) (part_tree n z) < weight st (part_tree m p) =
    part_falls inv.grown x x c.requires.lawful refl (part_tree m p) (part_tree n p) (part_tree n z) i e below means
    (part_tree m p) refl in
    let small : 2 * weight (store_of n x) (part_tree n z) + 1 < 2 * weight st (part_tree m p) = omega (arith, falls) in
    let lawful : IsLawful n x = lawful_now inv.grown x x c.requires.lawful refl in
    let remembers = inv.remembers in
    let sure : IsTrue (known (part_tree n z)) = c.member-next.ensures.sure in
    let is_in : InContext (store_of n x) (part_tree n z) =
    part_in inv.grown x x c.requires.lawful refl (part_tree m p) (part_tree n p) (part_tree n z) i e below means
    (subst IsList c.requires.parts c.member_count-i-end.ensures.is_list) c.requires.term_in in
    search rules

pub resolve_inside-returns-in_err-resolved-clause-grown : goal.resolve_inside-returns-in_err-resolved-clause-grown
resolve_inside-returns-in_err-resolved-clause-grown g t' c = extends_on c.loop-i.invariant.grown c.in_err-resolved.ensures.grown

pub resolve_inside-is_same-requires : goal.resolve_inside-is_same-requires
resolve_inside-is_same-requires g t' c =
    let n = g.I.Interner.meaning c.loop-i.cx in
    let o = g.I.Interner.meaning c.resolve_part.new.cx in
    let z = c.member-next.result in
    let r = c.in_ok-resolved.ensures in
    record {
      part_known = r.sure;
      other_known = knows_as (part_tree n z) (part_tree o z) (stays_part r.grown z c.member-next.ensures.sure)
          c.member-next.ensures.sure;
      same_sort = sym r.sort;
    }

pub resolve_inside-returns-in_err-push-clause-grown : goal.resolve_inside-returns-in_err-push-clause-grown
resolve_inside-returns-in_err-push-clause-grown g t' c = extends_on c.loop-i.invariant.grown c.in_ok-resolved.ensures.grown

pub resolve_inside-returns-in_err-parts-clause-grown : goal.resolve_inside-returns-in_err-parts-clause-grown
resolve_inside-returns-in_err-parts-clause-grown g t' c = extends_on c.loop-i.invariant.grown c.in_ok-resolved.ensures.grown

pub resolve_inside-returns-in_err-push-2-clause-grown : goal.resolve_inside-returns-in_err-push-2-clause-grown
resolve_inside-returns-in_err-push-2-clause-grown g t' c = extends_on c.loop-i.invariant.grown c.in_ok-resolved.ensures.grown

pub resolve_inside-first_members-requires : goal.resolve_inside-first_members-requires
resolve_inside-first_members-requires g t' c =
    let m = g.I.Interner.meaning c.args.cx.now in
    let o = g.I.Interner.meaning c.resolve_part.new.cx in
    let ps = c.args.own.now in
    let sure = c.requires.parts_known in
    let whole : parts_tree o ps ≡ parts_tree m ps =
    stays_parts (extends_on c.loop-i.invariant.grown c.in_ok-resolved.ensures.grown) ps sure in
    let i = c.loop-i.i in
    let counted = c.member_count-i-end.ensures.counts in
    let test = c.loop-i-test.true in
    let below : i ≤ count (parts_tree m ps) = omega (arith, counted, test) in
    record {
      list_known = knows_as (parts_tree m ps) (parts_tree o ps) whole sure;
      in_bounds = subst (λ z. i ≤ count z) (sym whole) below;
    }

pub resolve_inside-loop-i-preserved : goal.resolve_inside-loop-i-preserved
resolve_inside-loop-i-preserved g t' c =
    let x = c.args.inner.now in
    let m = g.I.Interner.meaning c.args.cx.now in
    let st = store_of m x in
    let p = c.args.term.now in
    let n = g.I.Interner.meaning c.loop-i.cx in
    let inv = c.loop-i.invariant in
    let e : part_tree n p ≡ part_tree m p = stays_part inv.grown p c.requires.term_known in
    let i = c.loop-i.i in
    let counted = c.member_count-i-end.ensures.counts ∙ ap count c.requires.parts in
    let test = c.loop-i-test.true in
    let below : i < count (parts_of (part_tree m p)) = omega (arith, counted, test) in
    let z = c.member-next.result in
    let means = c.member-next.ensures.means
    ∙ ap (nth i) (stays_parts inv.grown c.args.own.now c.requires.parts_known
    ∙ c.requires.parts ∙ ap parts_of (sym e)) in
    let o = g.I.Interner.meaning c.resolve_part.new.cx in
    let r = c.in_ok-resolved.ensures in
    let w = c.in_ok-resolved.resolved in
    let sorted : Sorted n = g.met.I.Interner.sorted c.loop-i.cx in
    let next : i + 1 ≡ suc i = omega arith in
    let was = part_was inv.grown x x c.requires.lawful refl (part_tree m p) (part_tree n p) (part_tree n z) i e
    below means in
    let comes = part_comes inv.grown x x c.requires.lawful refl (part_tree m p) (part_tree n p) (part_tree n z) i e
    below means (part_tree o w) r.resolves in
    let sort = r.sort ∙ sym (sort_known n sorted z c.member-next.ensures.sure) ∙ ap tree_sort was in
    let ps = c.args.own.now in
    let whole : parts_tree o ps ≡ parts_of (part_tree m p) =
    stays_parts (extends_on inv.grown r.grown) ps c.requires.parts_known ∙ c.requires.parts in
    let stays : part_tree o z ≡ part_tree n z = stays_part r.grown z c.member-next.ensures.sure in
    elim c.if-differs.branch [
      | resolve_inside-then-differs+in_ok-push y ↦
          record {
            grown = extends_on inv.grown r.grown;
            remembers = r.remembers;
            done = λ h. done_next (resolved st) (part_tree n) (part_tree o) (stays_part r.grown) w i (i + 1)
                (parts_of (part_tree m p)) c.loop-i.parts.items _ (inv.done y.if-differs.true) below next comes r.sure sort
                (ap (λ v. v.items) y.parts-is ∙ y.in_ok-push.ensures.items);
            unchanged = λ h. absurd (false≢true (sym h ∙ y.differs-is ∙ y.if-differs.true));
          }
      | resolve_inside-else-differs+then-not-is_same+in_ok-parts+in_ok-push-2 y ↦
          record {
            grown = extends_on inv.grown r.grown;
            remembers = r.remembers;
            done = λ h. done_next (resolved st) (part_tree o) (part_tree o) (λ v k. refl) w i (i + 1)
                (parts_of (part_tree m p)) y.in_ok-parts.parts.items _
                (done_firsts (resolved st) (part_tree o) i (parts_of (part_tree m p)) (parts_tree o ps)
                y.in_ok-parts.parts.items y.in_ok-parts.ensures whole (inv.unchanged y.if-differs.false)) below next comes
                r.sure sort (ap (λ v. v.items) y.parts-is ∙ y.in_ok-push-2.ensures.items);
            unchanged = λ h. absurd (false≢true (sym h ∙ y.differs-is));
          }
      | resolve_inside-else-differs+else-not-is_same y ↦
          record {
            grown = extends_on inv.grown r.grown;
            remembers = r.remembers;
            done = λ h. absurd (false≢true (sym y.if-differs.false ∙ sym y.differs-is ∙ h));
            unchanged = λ h. unchanged_next (resolved st) i (i + 1) (parts_of (part_tree m p)) below next
                (inv.unchanged y.if-differs.false)
                (sym comes ∙ y.is_same.ensures.one y.if-not-is_same.false ∙ stays ∙ was);
          }
    ]

pub resolve_inside-with_parts-requires-clause-term_known : goal.resolve_inside-with_parts-requires-clause-term_known
resolve_inside-with_parts-requires-clause-term_known g t' c =
    let m = g.I.Interner.meaning c.args.cx.now in
    let p = c.args.term.now in
    let n = g.I.Interner.meaning c.loop-i.cx in
    knows_as (part_tree m p) (part_tree n p)
    (stays_part c.loop-i.invariant.grown p c.requires.term_known) c.requires.term_known

pub resolve_inside-with_parts-requires-clause-parts_known : goal.resolve_inside-with_parts-requires-clause-parts_known
resolve_inside-with_parts-requires-clause-parts_known g t' c =
    let n = g.I.Interner.meaning c.loop-i.cx in
    subst (λ ys. IsTrue (known (list_tree (part_tree n) ys))) (sym c.as_slice.ensures.value)
    (c.loop-i.invariant.done c.if-differs-2.true).sure

pub resolve_inside-with_parts-requires-clause-fits : goal.resolve_inside-with_parts-requires-clause-fits
resolve_inside-with_parts-requires-clause-fits g t' c =
    let x = c.args.inner.now in
    let m = g.I.Interner.meaning c.args.cx.now in
    let st = store_of m x in
    let p = c.args.term.now in
    let n = g.I.Interner.meaning c.loop-i.cx in
    let inv = c.loop-i.invariant in
    let e : part_tree n p ≡ part_tree m p = stays_part inv.grown p c.requires.term_known in
    let i = c.loop-i.i in
    let counted = c.member_count-i-end.ensures.counts ∙ ap count c.requires.parts in
    let test = c.loop-i-test.false in
    let end = c.loop-i.auto.i-end in
    let all : i ≡ count (parts_of (part_tree m p)) = omega (arith, counted, test, end) in
    let done = done_all (resolved st) (part_tree n) i (parts_of (part_tree m p)) c.loop-i.parts.items
    (subst IsList c.requires.parts c.member_count-i-end.ensures.is_list) all (inv.done c.if-differs-2.true) in
    subst (λ ys. Fit ys (parts_of (part_tree n p))) (sym c.as_slice.ensures.value)
    (subst (λ z. Fit c.loop-i.parts.items (parts_of z)) (sym e) done.1)

pub resolve_inside-returns-then-differs-2-clause-grown : goal.resolve_inside-returns-then-differs-2-clause-grown
resolve_inside-returns-then-differs-2-clause-grown g t' c = extends_on c.loop-i.invariant.grown c.with_parts.ensures.grown

pub resolve_inside-returns-then-differs-2-clause-sort : goal.resolve_inside-returns-then-differs-2-clause-sort
resolve_inside-returns-then-differs-2-clause-sort g t' c =
    if_ok c.with_parts.result (λ y e. e ∙ refl) c.with_parts.ensures.sort

pub resolve_inside-returns-then-differs-2-clause-resolves : goal.resolve_inside-returns-then-differs-2-clause-resolves
resolve_inside-returns-then-differs-2-clause-resolves g t' c =
    let x = c.args.inner.now in
    let m = g.I.Interner.meaning c.args.cx.now in
    let st = store_of m x in
    let p = c.args.term.now in
    let n = g.I.Interner.meaning c.loop-i.cx in
    let inv = c.loop-i.invariant in
    let e : part_tree n p ≡ part_tree m p = stays_part inv.grown p c.requires.term_known in
    let i = c.loop-i.i in
    let counted = c.member_count-i-end.ensures.counts ∙ ap count c.requires.parts in
    let test = c.loop-i-test.false in
    let end = c.loop-i.auto.i-end in
    let all : i ≡ count (parts_of (part_tree m p)) = omega (arith, counted, test, end) in
    let done = done_all (resolved st) (part_tree n) i (parts_of (part_tree m p)) c.loop-i.parts.items
    (subst IsList c.requires.parts c.member_count-i-end.ensures.is_list) all (inv.done c.if-differs-2.true) in
    let whole : over (part_tree n p) (list_tree (part_tree n) c.as_slice.result.now) ≡
    apply (resolved st) (part_tree m c.args.term.now) =
    whole_comes (resolved st) (part_tree m p) (part_tree n p) (list_tree (part_tree n) c.as_slice.result.now)
    (part_tree m c.args.term.now) e (ap (list_tree (part_tree n)) c.as_slice.ensures.value ∙ done.0)
    c.requires.by_parts refl in
    if_ok c.with_parts.result (λ y q. q ∙ whole) c.with_parts.ensures.made

pub resolve_inside-returns : goal.resolve_inside-returns
resolve_inside-returns g t' c =
    let x = c.args.inner.now in
    let m = g.I.Interner.meaning c.args.cx.now in
    let st = store_of m x in
    let p = c.args.term.now in
    let n = g.I.Interner.meaning c.loop-i.cx in
    let inv = c.loop-i.invariant in
    let e : part_tree n p ≡ part_tree m p = stays_part inv.grown p c.requires.term_known in
    let i = c.loop-i.i in
    let counted = c.member_count-i-end.ensures.counts ∙ ap count c.requires.parts in
    let test = c.loop-i-test.false in
    let end = c.loop-i.auto.i-end in
    let all : i ≡ count (parts_of (part_tree m p)) = omega (arith, counted, test, end) in
    record {
      grown = inv.grown;
      remembers = inv.remembers;
      sure = knows_as (part_tree m p) (part_tree n p) e c.requires.term_known;
      sort = refl;
      resolves = whole_stays (resolved st) (part_tree m p) (part_tree n p) (part_tree m c.args.term.now) e
          (unchanged_all (resolved st) i (parts_of (part_tree m p)) (subst IsList c.requires.parts c.member_count-i-end.ensures.is_list) all
          (inv.unchanged c.if-differs-2.false)) c.requires.by_parts
          refl;
    }

pub resolve_part-returns-in-Empty : goal.resolve_part-returns-in-Empty
resolve_part-returns-in-Empty g t' c =
    let m = g.I.Interner.meaning c.args.cx.now in
    let st = store_of m c.args.inner.now in
    let t = part_tree m c.shallow_part-shallow.result in
    let s = c.shallow_part-shallow.ensures in
    let none : nil ≡ parts_of t = sym (ap (parts_tree m) c.in-Empty.is) ∙ c.parts_of-parts.ensures.means in
    record {
      grown = stays_same m;
      remembers = c.requires.remembers;
      sure = s.sure;
      sort = s.sort;
      resolves = whole_stays (resolved st) t t (part_tree m c.args.term.now) refl
          (subst (λ z. apply (resolved st) z ≡ z) none refl) s.by_parts s.resolves;
    }

pub resolve_part-returns-in-Some : goal.resolve_part-returns-in-Some
resolve_part-returns-in-Some g t' c =
    let m = g.I.Interner.meaning c.args.cx.now in
    let came_to : ResolvesTo m (store_of m c.args.inner.now) c.shallow_part-shallow.result c.in-Some.resolved =
    subst (λ o. IfSome o (ResolvesTo m (store_of m c.args.inner.now) c.shallow_part-shallow.result)) c.in-Some.is
    c.recall_resolved.ensures in
    record {
      grown = stays_same m;
      remembers = c.requires.remembers;
      sure = came_to.sure;
      sort = came_to.sort ∙ c.shallow_part-shallow.ensures.sort;
      resolves = came_to.comes ∙ c.shallow_part-shallow.ensures.resolves;
    }

pub resolve_part-resolve_inside-requires : goal.resolve_part-resolve_inside-requires
resolve_part-resolve_inside-requires g t' c κs within =
    let m = g.I.Interner.meaning c.args.cx.now in
    let st = store_of m c.args.inner.now in
    let p = c.shallow_part-shallow.result in
    let r = c.shallow_part-shallow.ensures in
    let d = c.decreases in
    let same = weight_as st (part_tree m p) (part_tree m c.args.term.now) r.resolves in
    let small : 2 * weight st (part_tree m p) < 2 * weight st (part_tree m c.args.term.now) + 1 = omega (arith, same) in
    let lawful = c.requires.lawful in
    let remembers = c.requires.remembers in
    let sure = r.sure in
    let is_in = r.is_in in
    let by_parts = r.by_parts in
    let parts_sure = c.parts_of-parts.ensures.sure in
    let parts = c.parts_of-parts.ensures.means in
    search rules

pub resolve_part-keep_resolved-requires : goal.resolve_part-keep_resolved-requires
resolve_part-keep_resolved-requires g t' c =
    let r = c.in_ok-resolved.ensures in
    let s = c.shallow_part-shallow.ensures in
    record {
      comes = came (store_of (g.I.Interner.meaning c.args.cx.now) c.args.inner.now)
          (store_of (g.I.Interner.meaning c.resolve_inside.new.cx) c.args.inner.now) r.grown
          (store_grows r.grown c.args.inner.now c.requires.lawful)
          c.shallow_part-shallow.result c.in_ok-resolved.resolved s.sure r.sure r.resolves r.sort;
      remembers = r.remembers;
    }

pub resolve_inside-returns-then-differs-2-clause-remembers : goal.resolve_inside-returns-then-differs-2-clause-remembers
resolve_inside-returns-then-differs-2-clause-remembers g t' c =
    let x = c.args.inner.now in
    let inv = c.loop-i.invariant in
    let n = g.I.Interner.meaning c.loop-i.cx in
    on_ok c.with_parts.result _ (remembers_on (store_of n x) (store_of (g.I.Interner.meaning c.with_parts.new.cx) x)
    c.with_parts.ensures.grown (store_grows c.with_parts.ensures.grown x (lawful_now inv.grown x x c.requires.lawful refl))
    (key_eq g.I.Key.PartialEq.eq) c.loop-i.memory inv.remembers)
