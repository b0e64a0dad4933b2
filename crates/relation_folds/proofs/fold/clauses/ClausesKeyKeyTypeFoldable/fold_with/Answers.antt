use Rattle.std.proofs.Common.{arith, refl, sym, ap, ◌∙◌, ◌≡◌, ◌<◌, ◌+◌, suc, subst, IsTrue}
use Rattle.relation_terms.specs.Trees.{known, count, nth, list_tree}
use Rattle.relation_terms.proofs.Stays.{knows_as}
use Rattle.relation_terms.proofs.Members.{if_ok}
use Rattle.relation_folds.specs.Folds.{folded}
use Rattle.relation_folds.proofs.Folding.{steps_none, steps_on, steps_grown, later, if_ok_both}
use Rattle.relation_folds.proofs.ClauseLists.{listed_next, known_next, listed_all}
use Rattle.relation_folds.proofs.fold.clauses.ClausesKeyKeyTypeFoldable.fold_with.Goals as goal

pub loop-i-init : goal.loop-i-init
loop-i-init g c =
    let m = g.I.Interner.meaning c.args.cx.now in
    record {
      steps = steps_none m c.args.folder.now c.requires.ready;
      same = ap (list_tree m.clause) c.new-made.ensures.items;
      sure = subst (λ xs. IsTrue (known (list_tree m.clause xs))) (sym c.new-made.ensures.items) refl;
    }

pub clause_at-old-requires : goal.clause_at-old-requires
clause_at-old-requires g c =
    let m = g.I.Interner.meaning c.args.cx.now in
    let n = g.I.Interner.meaning c.loop-i.cx in
    let k = c.args.self.now in
    let e : n.clauses k ≡ m.clauses k = (c.loop-i.invariant.steps).grown.clauses k c.requires.known in
    let counted = c.clause_count-i-end.ensures.counts in
    let test = c.loop-i-test.true in
    let below : c.loop-i.i < count (m.clauses k) = omega (arith, counted, test) in
    record {
      list_known = knows_as (m.clauses k) (n.clauses k) e c.requires.known;
      in_bounds = subst (λ z. c.loop-i.i < count z) (sym e) below;
    }

pub returns-in_err-new-clause-steps : goal.returns-in_err-new-clause-steps
returns-in_err-new-clause-steps g c = steps_on c.loop-i.invariant.steps c.in_err-new.ensures.steps

pub returns-in_err-push-clause-steps : goal.returns-in_err-push-clause-steps
returns-in_err-push-clause-steps g c = steps_on c.loop-i.invariant.steps c.in_ok-new.ensures.steps

pub loop-i-preserved : goal.loop-i-preserved
loop-i-preserved g c =
    let m = g.I.Interner.meaning c.args.cx.now in
    let n = g.I.Interner.meaning c.loop-i.cx in
    let o = g.I.Interner.meaning c.fold_with.new.cx in
    let p = g.F.TypeFolder.replaces m c.args.folder.now in
    let k = c.args.self.now in
    let ts = m.clauses k in
    let s = c.loop-i.invariant.steps in
    let e : n.clauses k ≡ ts = s.grown.clauses k c.requires.known in
    let i = c.loop-i.i in
    let counted = c.clause_count-i-end.ensures.counts in
    let test = c.loop-i-test.true in
    let below : i < count ts = omega (arith, counted, test) in
    let next : i + 1 ≡ suc i = omega arith in
    let x = c.clause_at-old.result in
    let y = c.in_ok-new.new in
    let r = c.in_ok-new.ensures in
    let at : n.clause x ≡ nth i ts = c.clause_at-old.ensures.means ∙ ap (nth i) e in
    let made : o.clause y ≡ folded p 0 (nth i ts) = later s 0 (nth i ts) (n.clause x) (o.clause y) at r.made in
    record {
      steps = steps_on s r.steps;
      same = listed_next p n.clause o.clause r.steps.grown.clause y i (i + 1) ts c.loop-i.made.items _
          c.loop-i.invariant.sure c.in_ok-push.ensures.items c.loop-i.invariant.same below next made;
      sure = known_next p n.clause o.clause r.steps.grown.clause y i (i + 1) ts c.loop-i.made.items _
          c.loop-i.invariant.sure c.in_ok-push.ensures.items r.sure;
    }

pub mk_clauses-requires : goal.mk_clauses-requires
mk_clauses-requires g c =
    let n = g.I.Interner.meaning c.loop-i.cx in
    subst (λ xs. IsTrue (known (list_tree n.clause xs))) (sym c.deref.ensures.value) c.loop-i.invariant.sure

pub returns-clause-steps : goal.returns-clause-steps
returns-clause-steps g c =
    steps_grown g.met.F.TypeFolder.ready_on g.met.F.TypeFolder.replaces_on c.loop-i.invariant.steps
    c.mk_clauses.ensures.grown

pub returns-clause-made : goal.returns-clause-made
returns-clause-made g c =
    let m = g.I.Interner.meaning c.args.cx.now in
    let n = g.I.Interner.meaning c.loop-i.cx in
    let p = g.F.TypeFolder.replaces m c.args.folder.now in
    let ts = m.clauses c.args.self.now in
    let counted = c.clause_count-i-end.ensures.counts in
    let test = c.loop-i-test.false in
    let end = (c.loop-i.auto).i-end in
    let all : c.loop-i.i ≡ count ts = omega (arith, counted, test, end) in
    if_ok c.mk_clauses.result (λ k h. h ∙ ap (list_tree n.clause) c.deref.ensures.value
    ∙ listed_all p c.loop-i.i ts (list_tree n.clause c.loop-i.made.items) c.clause_count-i-end.ensures.is_list all
    c.loop-i.invariant.same) c.mk_clauses.ensures.made

pub returns-clause-same : goal.returns-clause-same
returns-clause-same g c =
    let m = g.I.Interner.meaning c.args.cx.now in
    let n = g.I.Interner.meaning c.loop-i.cx in
    let o = g.I.Interner.meaning c.mk_clauses.new.self in
    let p = g.F.TypeFolder.replaces m c.args.folder.now in
    let x = c.args.self.now in
    let ts = m.clauses x in
    let counted = c.clause_count-i-end.ensures.counts in
    let test = c.loop-i-test.false in
    let end = (c.loop-i.auto).i-end in
    let all : c.loop-i.i ≡ count ts = omega (arith, counted, test, end) in
    let grown = (steps_grown g.met.F.TypeFolder.ready_on g.met.F.TypeFolder.replaces_on c.loop-i.invariant.steps
    c.mk_clauses.ensures.grown).grown in
    let stay : o.clauses x ≡ ts = grown.clauses x c.requires.known in
    let here = knows_as ts (o.clauses x) stay c.requires.known in
    if_ok_both c.mk_clauses.result (λ k sure h q. ((g.met.I.Interner.same_clauses c.mk_clauses.new.self k x sure here).1
    (h ∙ ap (list_tree n.clause) c.deref.ensures.value
    ∙ listed_all p c.loop-i.i ts (list_tree n.clause c.loop-i.made.items) c.clause_count-i-end.ensures.is_list all
    c.loop-i.invariant.same ∙ q ∙ sym stay))) c.mk_clauses.ensures.sure c.mk_clauses.ensures.made
