use Rattle.std.proofs.Common.{IfSome, rules, arith, refl, sym, ap, ◌∙◌, ◌≡◌, ◌<◌, ◌≤◌, ◌+◌, ◌*◌, suc, subst, IsTrue}
use Rattle.std.proofs.lemmas.Bool.{false≢true}
use Rattle.relation_terms.specs.Trees.{known, size, count, nth, nil, list_tree}
use Rattle.relation_terms.specs.Parts.{part_tree, parts_tree, parts_of, part_sort, tree_sort, Fit}
use Rattle.relation_terms.proofs.Stays.{knows_as}
use Rattle.relation_terms.specs.Interning.{Sorted}
use Rattle.relation_terms.proofs.Members.{member_small, parts_small, if_ok}
use Rattle.relation_terms.proofs.Parts.{sort_known, stays_part, stays_parts}
use Rattle.relation_folds.specs.Folds.{Folds, KnownAnswer, IsMade, folded, folded_parts}
use Rattle.relation_folds.proofs.Folding.{steps_none, steps_on, steps_grown, folded_later, parts_later, later, on_ok}
use Rattle.relation_folds.specs.declared.fold.memory.Memory.{Memory}
use Rattle.relation_folds.proofs.Remembering.{place_eq, remembers_on, remembers_as}
use Rattle.relation_folds.proofs.Members.{upon_firsts, upon_next, upon_all, upon_top, upon_left, upon_below}
use Rattle.relation_folds.proofs.Members.{stack_as, left_more, left_all, whole_made, whole_left}
use Rattle.relation_folds.proofs.Depths.{inside_known, inside}
use Rattle.relation_folds.proofs.fold.walk.+walk.Goals as goal
use Rattle.relation_folds.proofs.fold.walk.+walk.Goals.{fold_members-then-differs+in_ok-push}
use Rattle.relation_folds.proofs.fold.walk.+walk.Goals.{fold_members-else-differs+else-not-is_same}
use Rattle.relation_folds.proofs.fold.walk.+walk.Goals.{fold_members-else-differs+then-not-is_same+in_ok-push_firsts+in_ok-push-2}

pub fold_met-returns-in-Some : goal.fold_met-returns-in-Some
fold_met-returns-in-Some g t' c =
    let m = g.I.Interner.meaning c.args.cx.now in
    let p = g.F.TypeFolder.replaces m c.args.folder.now in
    let made : IsMade m p c.args.part.now c.args.depth c.in-Some.made =
    subst (λ o. IfSome o (λ by. IsMade m p c.args.part.now c.args.depth by)) c.in-Some.is c.recall.ensures in
    record {
      steps = steps_none m c.args.folder.now c.requires.ready;
      remembers = c.requires.remembers;
      stack = refl;
      sure = made.sure;
      made = made.made;
      sort = made.sort;
    }

pub fold_met-fold_new-requires : goal.fold_met-fold_new-requires
fold_met-fold_new-requires g t' c κs within =
    let m = g.I.Interner.meaning c.args.cx.now in
    let x = c.args.part.now in
    let d = c.decreases in
    let small : 4 * size (part_tree m x) + 2 < 4 * size (part_tree m x) + 3 = omega arith in
    let k = c.requires.known in
    let r = c.requires.ready in
    let o = c.requires.remembers in
    search rules

pub fold_met-keep-requires : goal.fold_met-keep-requires
fold_met-keep-requires g t' c =
    let m = g.I.Interner.meaning c.args.cx.now in
    let n = g.I.Interner.meaning c.fold_new.new.cx in
    let x = c.args.part.now in
    let p = g.F.TypeFolder.replaces m c.args.folder.now in
    let q = g.F.TypeFolder.replaces n c.fold_new.new.folder in
    let r = c.in_ok-made.ensures in
    let e : part_tree n x ≡ part_tree m x = stays_part r.steps.grown x c.requires.known in
    record {
      made = record {
        there = knows_as (part_tree m x) (part_tree n x) e c.requires.known;
        sure = r.sure;
        made = r.made ∙ sym (folded_later p q r.steps.kept c.args.depth (part_tree m x) (part_tree n x) e);
        sort = r.sort;
      };
      remembers = r.remembers;
    }

pub fold_met-returns-clause-stack : goal.fold_met-returns-clause-stack
fold_met-returns-clause-stack g t' c = c.in_ok-keep.ensures.stack ∙ c.in_ok-made.ensures.stack

pub fold_new-returns-in-Replace : goal.fold_new-returns-in-Replace
fold_new-returns-in-Replace g t' c =
    let m = g.I.Interner.meaning c.args.cx.now in
    let x = c.args.part.now in
    let n = g.I.Interner.meaning c.put_for.new.cx in
    let p = g.F.TypeFolder.replaces m c.args.folder.now in
    let r = c.in_ok-by.ensures in
    let made = subst (Folds p c.args.depth (part_tree m x) (part_tree n) (part_sort x)) c.in-Replace.is r.made in
    record {
      steps = r.steps;
      remembers = remembers_on r.steps (place_eq g.I.Key.PartialEq.eq) (c.args.memory.now).made c.requires.remembers;
      stack = refl;
      sure = subst (KnownAnswer (part_tree n)) c.in-Replace.is r.sure;
      made = made.0;
      sort = made.1;
    }

pub fold_new-returns-in_err-by-clause-remembers : goal.fold_new-returns-in_err-by-clause-remembers
fold_new-returns-in_err-by-clause-remembers g t' c =
    remembers_on c.in_err-by.ensures.steps (place_eq g.I.Key.PartialEq.eq) (c.args.memory.now).made c.requires.remembers

pub fold_new-fold_inside-requires : goal.fold_new-fold_inside-requires
fold_new-fold_inside-requires g t' c κs within =
    let m = g.I.Interner.meaning c.args.cx.now in
    let x = c.args.part.now in
    let n = g.I.Interner.meaning c.put_for.new.cx in
    let s = c.in_ok-by.ensures.steps in
    let d = c.decreases in
    let e : part_tree n x ≡ part_tree m x = stays_part s.grown x c.requires.known in
    let k : IsTrue (known (part_tree n x)) = knows_as (part_tree m x) (part_tree n x) e c.requires.known in
    let is : size (part_tree n x) ≡ size (part_tree m x) = ap size e in
    let small : 4 * size (part_tree n x) + 1 < 4 * size (part_tree m x) + 2 = omega (arith, is) in
    let r = s.ready in
    let o = remembers_on s (place_eq g.I.Key.PartialEq.eq) (c.args.memory.now).made c.requires.remembers in
    search rules

pub fold_new-returns-in-Descend : goal.fold_new-returns-in-Descend
fold_new-returns-in-Descend g t' c =
    let m = g.I.Interner.meaning c.args.cx.now in
    let x = c.args.part.now in
    let n = g.I.Interner.meaning c.put_for.new.cx in
    let p = g.F.TypeFolder.replaces m c.args.folder.now in
    let q = g.F.TypeFolder.replaces n c.put_for.new.folder in
    let i = c.args.depth in
    let r = c.in_ok-by.ensures in
    let o = c.fold_inside.ensures in
    let e = stays_part r.steps.grown x c.requires.known in
    let left : folded p i (part_tree m x) ≡ folded_parts p i (part_tree m x) =
    subst (Folds p i (part_tree m x) (part_tree n) (part_sort x)) c.in-Descend.is r.made in
    let parts : folded_parts q i (part_tree n x) ≡ folded_parts p i (part_tree m x) =
    parts_later p q r.steps.kept i (part_tree m x) (part_tree n x) e in
    record {
      steps = steps_on r.steps o.steps;
      remembers = o.remembers;
      stack = o.stack;
      sure = o.sure;
      made = if_ok c.fold_inside.result (λ y h. h ∙ (parts ∙ sym left)) o.made;
      sort = o.sort;
    }

pub fold_inside-returns-in-Empty : goal.fold_inside-returns-in-Empty
fold_inside-returns-in-Empty g t' c =
    let m = g.I.Interner.meaning c.args.cx.now in
    let p = g.F.TypeFolder.replaces m c.args.folder.now in
    let t = part_tree m c.args.part.now in
    let d = inside t c.args.depth in
    let none : nil ≡ parts_of t = sym (ap (parts_tree m) c.in-Empty.is) ∙ c.parts_of-parts.ensures.means in
    record {
      steps = steps_none m c.args.folder.now c.requires.ready;
      remembers = c.requires.remembers;
      stack = refl;
      sure = c.requires.known;
      made = whole_left p c.args.depth d t nil refl none (ap (folded p d) none);
      sort = refl;
    }

pub fold_inside-fold_members-requires : goal.fold_inside-fold_members-requires
fold_inside-fold_members-requires g t' c κs within =
    let m = g.I.Interner.meaning c.args.cx.now in
    let t = part_tree m c.args.part.now in
    let ts = parts_tree m c.parts_of-parts.result in
    let d = c.decreases in
    let less = parts_small t in
    let is : size ts ≡ size (parts_of t) = ap size c.parts_of-parts.ensures.means in
    let small : 4 * size ts < 4 * size t + 1 = omega (arith, less, is) in
    let o = c.requires.remembers in
    let k = c.parts_of-parts.ensures.sure in
    let r = c.requires.ready in
    search rules

pub fold_inside-top-requires : goal.fold_inside-top-requires
fold_inside-top-requires g t' c =
    let m = g.I.Interner.meaning c.args.cx.now in
    let n = g.I.Interner.meaning c.fold_members.new.cx in
    let p = g.F.TypeFolder.replaces m c.args.folder.now in
    let ts = parts_tree m c.parts_of-parts.result in
    let old = (c.args.memory.now).stack.items in
    upon_below (part_tree n) ts (folded p c.in_ok-inside.inside ts) old (c.fold_members.new.memory).stack.items
    c.len-start.result (c.in_ok-differs.ensures.members.made c.if-differs.true)
    (c.len-start.ensures ∙ (c.args.memory.now).stack.ok.0)

pub fold_inside-with_parts-whole-requires : goal.fold_inside-with_parts-whole-requires
fold_inside-with_parts-whole-requires g t' c =
    let m = g.I.Interner.meaning c.args.cx.now in
    let n = g.I.Interner.meaning c.fold_members.new.cx in
    let p = g.F.TypeFolder.replaces m c.args.folder.now in
    let x = c.args.part.now in
    let ts = parts_tree m c.parts_of-parts.result in
    let r = c.in_ok-differs.ensures in
    let e : part_tree n x ≡ part_tree m x = stays_part r.steps.grown x c.requires.known in
    let a = r.members.made c.if-differs.true in
    let top = upon_top (part_tree n) ts (folded p c.in_ok-inside.inside ts) (c.args.memory.now).stack.items
    (c.fold_members.new.memory).stack.items c.len-start.result a
    (c.len-start.ensures ∙ (c.args.memory.now).stack.ok.0) c.top.result.now c.top.ensures in
    record {
      term_known = knows_as (part_tree m x) (part_tree n x) e c.requires.known;
      parts_known = subst (λ ys. IsTrue (known (list_tree (part_tree n) ys))) (sym top) a.sure;
      fits = subst (λ ys. Fit ys (parts_of (part_tree n x))) (sym top)
          (subst (λ us. Fit a.parts us) (c.parts_of-parts.ensures.means ∙ ap parts_of (sym e)) a.fit);
    }

pub fold_inside-returns-then-differs : goal.fold_inside-returns-then-differs
fold_inside-returns-then-differs g t' c =
    let m = g.I.Interner.meaning c.args.cx.now in
    let n = g.I.Interner.meaning c.fold_members.new.cx in
    let p = g.F.TypeFolder.replaces m c.args.folder.now in
    let x = c.args.part.now in
    let sorted : Sorted m = g.met.I.Interner.sorted c.args.cx.now in
    let deep : c.in_ok-inside.inside ≡ inside (part_tree m x) c.args.depth =
    c.in_ok-inside.ensures ∙ inside_known m sorted x c.args.depth c.requires.known in
    let ts = parts_tree m c.parts_of-parts.result in
    let us = list_tree (part_tree n) c.top.result.now in
    let r = c.in_ok-differs.ensures in
    let o = c.with_parts-whole.ensures in
    let e : part_tree n x ≡ part_tree m x = stays_part r.steps.grown x c.requires.known in
    let a = r.members.made c.if-differs.true in
    let old = (c.args.memory.now).stack.items in
    let long = c.len-start.ensures ∙ (c.args.memory.now).stack.ok.0 in
    let top = upon_top (part_tree n) ts (folded p c.in_ok-inside.inside ts) old
    (c.fold_members.new.memory).stack.items c.len-start.result a long c.top.result.now c.top.ensures in
    let q : us ≡ folded p c.in_ok-inside.inside (parts_of (part_tree m x)) =
    ap (list_tree (part_tree n)) top ∙ (a.same ∙ ap (folded p c.in_ok-inside.inside) c.parts_of-parts.ensures.means) in
    record {
      steps = steps_grown g.met.F.TypeFolder.ready_on g.met.F.TypeFolder.replaces_on r.steps o.grown;
      remembers = remembers_on (steps_grown g.met.F.TypeFolder.ready_on g.met.F.TypeFolder.replaces_on
          (steps_none n c.fold_members.new.folder r.steps.ready) o.grown) (place_eq g.I.Key.PartialEq.eq)
          (c.fold_members.new.memory).made r.remembers;
      stack = on_ok c.with_parts-whole.result _ (c.truncate.ensures.items
          ∙ upon_left (part_tree n) ts (folded p c.in_ok-inside.inside ts) old (c.fold_members.new.memory).stack.items
          c.len-start.result a long);
      sure = o.sure;
      made = if_ok c.with_parts-whole.result (λ y h. h ∙ whole_made p c.args.depth c.in_ok-inside.inside (part_tree m x)
          (part_tree n x) us deep e q)
          o.made;
      sort = o.sort;
    }

pub fold_inside-returns-else-differs : goal.fold_inside-returns-else-differs
fold_inside-returns-else-differs g t' c =
    let m = g.I.Interner.meaning c.args.cx.now in
    let n = g.I.Interner.meaning c.fold_members.new.cx in
    let p = g.F.TypeFolder.replaces m c.args.folder.now in
    let x = c.args.part.now in
    let sorted : Sorted m = g.met.I.Interner.sorted c.args.cx.now in
    let deep : c.in_ok-inside.inside ≡ inside (part_tree m x) c.args.depth =
    c.in_ok-inside.ensures ∙ inside_known m sorted x c.args.depth c.requires.known in
    let ts = parts_tree m c.parts_of-parts.result in
    let r = c.in_ok-differs.ensures in
    let e : part_tree n x ≡ part_tree m x = stays_part r.steps.grown x c.requires.known in
    let a = r.members.left c.if-differs.false in
    record {
      steps = r.steps;
      remembers = r.remembers;
      stack = a.0;
      sure = knows_as (part_tree m x) (part_tree n x) e c.requires.known;
      made = e ∙ whole_left p c.args.depth c.in_ok-inside.inside (part_tree m x) ts deep
          c.parts_of-parts.ensures.means (a.1 ∙ ap (folded p c.in_ok-inside.inside) c.parts_of-parts.ensures.means);
      sort = refl;
    }

pub fold_members-loop-i-init : goal.fold_members-loop-i-init
fold_members-loop-i-init g t' c =
    let m = g.I.Interner.meaning c.args.cx.now in
    record {
      steps = steps_none m c.args.folder.now c.requires.ready;
      remembers = c.requires.remembers;
      made = λ h. absurd (false≢true h);
      left = λ h. (refl, refl);
    }

pub fold_members-member-old-requires : goal.fold_members-member-old-requires
fold_members-member-old-requires g t' c =
    let m = g.I.Interner.meaning c.args.cx.now in
    let n = g.I.Interner.meaning c.loop-i.cx in
    let ps = c.args.parts.now in
    let ts = parts_tree m ps in
    let e : parts_tree n ps ≡ ts = stays_parts (c.loop-i.invariant.steps).grown ps c.requires.known in
    let counted = c.member_count-i-end.ensures.counts in
    let test = c.loop-i-test.true in
    let below : c.loop-i.i < count ts = omega (arith, counted, test) in
    record {
      list_known = knows_as ts (parts_tree n ps) e c.requires.known;
      in_bounds = subst (λ z. c.loop-i.i < count z) (sym e) below;
    }

pub fold_members-fold_met-requires : goal.fold_members-fold_met-requires
fold_members-fold_met-requires g t' c κs within =
    let m = g.I.Interner.meaning c.args.cx.now in
    let n = g.I.Interner.meaning c.loop-i.cx in
    let ps = c.args.parts.now in
    let ts = parts_tree m ps in
    let s = c.loop-i.invariant.steps in
    let e : parts_tree n ps ≡ ts = stays_parts s.grown ps c.requires.known in
    let i = c.loop-i.i in
    let x = c.member-old.result in
    let counted = c.member_count-i-end.ensures.counts in
    let test = c.loop-i-test.true in
    let below : i < count ts = omega (arith, counted, test) in
    let d = c.decreases in
    let less = member_small ts i below in
    let is : size (part_tree n x) ≡ size (nth i ts) = ap size (c.member-old.ensures.means ∙ ap (nth i) e) in
    let small : 4 * size (part_tree n x) + 3 < 4 * size ts = omega (arith, less, is) in
    let o = c.loop-i.invariant.remembers in
    let k = c.member-old.ensures.sure in
    let r = s.ready in
    search rules

pub fold_members-is_same-requires : goal.fold_members-is_same-requires
fold_members-is_same-requires g t' c =
    let n = g.I.Interner.meaning c.loop-i.cx in
    let o = g.I.Interner.meaning c.fold_met.new.cx in
    let x = c.member-old.result in
    let r = c.in_ok-new.ensures in
    let e : part_tree o x ≡ part_tree n x = stays_part r.steps.grown x c.member-old.ensures.sure in
    record {
      part_known = r.sure;
      other_known = knows_as (part_tree n x) (part_tree o x) e c.member-old.ensures.sure;
      same_sort = sym r.sort;
    }

pub fold_members-returns-in_err-new-clause-steps : goal.fold_members-returns-in_err-new-clause-steps
fold_members-returns-in_err-new-clause-steps g t' c =
    steps_on c.loop-i.invariant.steps c.in_err-new.ensures.steps

pub fold_members-push_firsts-requires : goal.fold_members-push_firsts-requires
fold_members-push_firsts-requires g t' c =
    let m = g.I.Interner.meaning c.args.cx.now in
    let o = g.I.Interner.meaning c.fold_met.new.cx in
    let ps = c.args.parts.now in
    let ts = parts_tree m ps in
    let s = steps_on c.loop-i.invariant.steps c.in_ok-new.ensures.steps in
    let e : parts_tree o ps ≡ ts = stays_parts s.grown ps c.requires.known in
    let counted = c.member_count-i-end.ensures.counts in
    let test = c.loop-i-test.true in
    let below : c.loop-i.i ≤ count ts = omega (arith, counted, test) in
    record {
      list_known = knows_as ts (parts_tree o ps) e c.requires.known;
      in_bounds = subst (λ z. c.loop-i.i ≤ count z) (sym e) below;
    }

pub fold_members-returns-in_err-push-clause-steps : goal.fold_members-returns-in_err-push-clause-steps
fold_members-returns-in_err-push-clause-steps g t' c =
    steps_on c.loop-i.invariant.steps c.in_ok-new.ensures.steps

pub fold_members-returns-in_err-push-clause-remembers : goal.fold_members-returns-in_err-push-clause-remembers
fold_members-returns-in_err-push-clause-remembers g t' c = c.in_ok-new.ensures.remembers

pub fold_members-returns-in_err-push_firsts-clause-steps : goal.fold_members-returns-in_err-push_firsts-clause-steps
fold_members-returns-in_err-push_firsts-clause-steps g t' c =
    steps_on c.loop-i.invariant.steps c.in_ok-new.ensures.steps

pub fold_members-returns-in_err-push_firsts-clause-remembers : goal.fold_members-returns-in_err-push_firsts-clause-remembers
fold_members-returns-in_err-push_firsts-clause-remembers g t' c = c.in_ok-new.ensures.remembers

pub fold_members-returns-in_err-push-2-clause-steps : goal.fold_members-returns-in_err-push-2-clause-steps
fold_members-returns-in_err-push-2-clause-steps g t' c =
    steps_on c.loop-i.invariant.steps c.in_ok-new.ensures.steps

pub fold_members-returns-in_err-push-2-clause-remembers : goal.fold_members-returns-in_err-push-2-clause-remembers
fold_members-returns-in_err-push-2-clause-remembers g t' c = c.in_ok-new.ensures.remembers

pub fold_members-loop-i-preserved : goal.fold_members-loop-i-preserved
fold_members-loop-i-preserved g t' c =
    let m = g.I.Interner.meaning c.args.cx.now in
    let n = g.I.Interner.meaning c.loop-i.cx in
    let o = g.I.Interner.meaning c.fold_met.new.cx in
    let p = g.F.TypeFolder.replaces m c.args.folder.now in
    let q = g.F.TypeFolder.replaces o c.fold_met.new.folder in
    let eq = place_eq g.I.Key.PartialEq.eq in
    let d = c.args.depth in
    let ps = c.args.parts.now in
    let ts = parts_tree m ps in
    let s = c.loop-i.invariant.steps in
    let e : parts_tree n ps ≡ ts = stays_parts s.grown ps c.requires.known in
    let i = c.loop-i.i in
    let counted = c.member_count-i-end.ensures.counts in
    let test = c.loop-i-test.true in
    let below : i < count ts = omega (arith, counted, test) in
    let next : i + 1 ≡ suc i = omega arith in
    let x = c.member-old.result in
    let y = c.in_ok-new.new in
    let r = c.in_ok-new.ensures in
    let at : part_tree n x ≡ nth i ts = c.member-old.ensures.means ∙ ap (nth i) e in
    let made : part_tree o y ≡ folded p d (nth i ts) = later s d (nth i ts) (part_tree n x) (part_tree o y) at r.made in
    let stay : part_tree o x ≡ part_tree n x = stays_part r.steps.grown x c.member-old.ensures.sure in
    let sorted : Sorted n = g.met.I.Interner.sorted c.loop-i.cx in
    let sort = r.sort ∙ sym (sort_known n sorted x c.member-old.ensures.sure) ∙ ap tree_sort at in
    let whole : parts_tree o ps ≡ ts = stays_parts (steps_on s r.steps).grown ps c.requires.known in
    let base = (c.args.memory.now).stack.items in
    let was = (c.loop-i.memory).stack.items in
    let mid = (c.fold_met.new.memory).stack.items in
    elim c.if-differs.branch [
      | fold_members-then-differs+in_ok-push w ↦
          record {
            steps = steps_on s r.steps;
            remembers = remembers_as o q eq (ap (λ (v : Memory _ _). v.made) w.memory-is) r.remembers;
            made = λ h. upon_next p d (part_tree n) (part_tree o) (stays_part r.steps.grown) y i (i + 1) ts base was mid _
                (c.loop-i.invariant.made w.if-differs.true) r.stack (stack_as w.memory-is ∙ w.in_ok-push.ensures.items)
                below next made r.sure sort;
            left = λ h. absurd (false≢true (sym h ∙ w.differs-is ∙ w.if-differs.true));
          }
      | fold_members-else-differs+then-not-is_same+in_ok-push_firsts+in_ok-push-2 w ↦
          let kept = c.loop-i.invariant.left w.if-differs.false in
          record {
            steps = steps_on s r.steps;
            remembers = remembers_as o q eq (ap (λ (v : Memory _ _). v.made) w.memory-is) r.remembers;
            made = λ h. upon_next p d (part_tree o) (part_tree o) (λ z k. refl) y i (i + 1) ts base
                w.push_firsts.new.stack.items w.push_firsts.new.stack.items _
                (upon_firsts p d (part_tree o) i ts (parts_tree o ps) base mid w.push_firsts.new.stack.items
                w.in_ok-push_firsts.ensures whole (r.stack ∙ kept.0) kept.1) refl
                (stack_as w.memory-is ∙ w.in_ok-push-2.ensures.items) below next made r.sure sort;
            left = λ h. absurd (false≢true (sym h ∙ w.differs-is));
          }
      | fold_members-else-differs+else-not-is_same w ↦
          let kept = c.loop-i.invariant.left w.if-differs.false in
          record {
            steps = steps_on s r.steps;
            remembers = remembers_as o q eq (ap (λ (v : Memory _ _). v.made) w.memory-is) r.remembers;
            made = λ h. absurd (false≢true (sym w.if-differs.false ∙ sym w.differs-is ∙ h));
            left = λ h. (
              stack_as w.memory-is ∙ r.stack ∙ kept.0,
              left_more p d i (i + 1) ts (part_tree o x) (part_tree o y)
                  kept.1 (w.is_same.ensures.one w.if-not-is_same.false) made (stay ∙ at) next below,
            );
          }
    ]

pub fold_members-returns : goal.fold_members-returns
fold_members-returns g t' c =
    let m = g.I.Interner.meaning c.args.cx.now in
    let n = g.I.Interner.meaning c.loop-i.cx in
    let ts = parts_tree m c.args.parts.now in
    let p = g.F.TypeFolder.replaces m c.args.folder.now in
    let i = c.loop-i.i in
    let counted = c.member_count-i-end.ensures.counts in
    let listed = c.member_count-i-end.ensures.is_list in
    let test = c.loop-i-test.false in
    let end = (c.loop-i.auto).i-end in
    let all : i ≡ count ts = omega (arith, counted, test, end) in
    record {
      steps = c.loop-i.invariant.steps;
      remembers = c.loop-i.invariant.remembers;
      members = record {
        left = λ h.
            let kept = c.loop-i.invariant.left h in
            (kept.0, left_all p c.args.depth i ts listed all kept.1);
        made = λ h. upon_all p c.args.depth (part_tree n) i ts (c.args.memory.now).stack.items
            (c.loop-i.memory).stack.items listed all (c.loop-i.invariant.made h);
      };
    }
