use Rattle.std.proofs.Common.{◌∙◌, [], ◌∷◌, sym, ap, subst, arith, inr, length, length-append}
use Rattle.std.specs.List.{All}
use Rattle.std.proofs.lemmas.List.Elements.{All-nil, All-push}
use Rattle.text_elaboration.specs.Pulls.{KnowsPulled, AreReached}
use Rattle.text_elaboration.proofs.ReachLemmas.{StillReaches, reaches_first, reaches_more, reached_at_last}
use Rattle.text_elaboration.proofs.ReachLemmas.{reached_so_far}
use Rattle.text_elaboration.proofs.pulls.supertrait_ids_of.Goals as goal

pub loop-init : goal.loop-init
loop-init g c =
    let m = g.I.Interner.meaning c.args.cx.now in
    let s = c.in_ok-ids.ids in record {
      sure = λ n. subst (All (KnowsPulled n)) (sym c.new-all.ensures.items) (All-nil (KnowsPulled n));
      reaches = reaches_first g.I.Interner.meaning c.args.cx.now (m.id c.args.of) c.new-all.result.items s
          c.new-all.ensures.items c.in_ok-ids.ensures.cx c.in_ok-ids.ensures.by_reach;
      count = ap length c.new-all.ensures.items;
    }

pub loop-preserved : goal.loop-preserved
loop-preserved g c =
    let m = g.I.Interner.meaning c.args.cx.now in
    let ps = c.loop.all.items in
    let p = c.in_ok-pulled.pulled in
    let before = c.loop.invariant in
    let sum = ap length c.in_ok-push.ensures.items ∙ length-append ps (p ∷ []) in
    let count = before.count in record {
      sure = λ n. subst (All (KnowsPulled n)) (sym c.in_ok-push.ensures.items)
          (All-push (KnowsPulled n) ps p (before.sure n) (c.in_ok-pulled.ensures.sure n));
      reaches = subst (λ z. StillReaches g.I.Interner.meaning m (m.id c.args.of) z c.pull_id.new.ids)
          (sym c.in_ok-push.ensures.items)
          (reaches_more g.I.Interner.meaning m (m.id c.args.of) ps p c.loop.ids c.pull_id.new.ids before.reaches
          c.in_ok-pulled.ensures.reaches (sym c.is_last.ensures ∙ c.if-is_last.false));
      count = omega (arith, sum, count);
    }

pub returns-then-is_last-clause-sure : goal.returns-then-is_last-clause-sure
returns-then-is_last-clause-sure g c = λ m.
    subst (All (KnowsPulled m)) (sym c.in_ok-push.ensures.items)
    (All-push (KnowsPulled m) c.loop.all.items c.in_ok-pulled.pulled (c.loop.invariant.sure m)
    (c.in_ok-pulled.ensures.sure m))

pub returns-then-is_last-clause-reached : goal.returns-then-is_last-clause-reached
returns-then-is_last-clause-reached g c =
    let m = g.I.Interner.meaning c.args.cx.now in
    subst (AreReached m (m.id c.args.of) c.args.most) (sym c.in_ok-push.ensures.items)
    (reached_at_last g.I.Interner.meaning m (m.id c.args.of) c.args.most c.loop.all.items c.in_ok-pulled.pulled c.loop.ids
    c.pull_id.new.ids c.loop.invariant.reaches c.in_ok-pulled.ensures.reaches
    (sym c.is_last.ensures ∙ c.if-is_last.true))

pub returns-clause-sure : goal.returns-clause-sure
returns-clause-sure g c = c.loop.invariant.sure

pub returns-clause-reached : goal.returns-clause-reached
returns-clause-reached g c =
    let m = g.I.Interner.meaning c.args.cx.now in
    let count = c.loop.invariant.count in
    let most = c.saturating_add-end.ensures in
    reached_so_far g.I.Interner.meaning m (m.id c.args.of) c.args.most c.loop.all.items c.loop.ids
    c.loop.invariant.reaches (inr (inr (omega (arith, count, most))))
