use Rattle.std.proofs.Common.{◌∙◌, sym, ap, subst, map}
use Rattle.std.specs.List.{All}
use Rattle.std.proofs.lemmas.List.{take_all}
use Rattle.std.proofs.lemmas.List.Elements.{All-nil}
use Rattle.relation_terms.specs.Owned.{IsStated}
use Rattle.reference_interner.specs.Adding.{meaning_in}
use Rattle.text_elaboration.proofs.StatedLemmas.{stated_more}
use Rattle.text_elaboration.proofs.PutLemmas.{placed_more}
use Rattle.text_elaboration.proofs.stating.placed.Goals as goal

pub loop-clause-init : goal.loop-clause-init
loop-clause-init c =
    let m = meaning_in c.args.cx.now in
    record {
      sure = subst (λ ps. All (IsStated m) (map (λ p. p.0) ps)) (sym c.new-all.ensures.items) (All-nil (IsStated m));
      same = ap (map (λ p. p.0)) c.new-all.ensures.items;
    }

pub loop-clause-preserved : goal.loop-clause-preserved
loop-clause-preserved c =
    let m = meaning_in c.args.cx.now in
    let known = c.requires c.loop-clause.clause-index _ c.loop-clause-test.true in
    let own = c.in_ok-is_own.ensures c.if-not-branch.false in
    record {
      sure = subst (λ ps. All (IsStated m) (map (λ p. p.0) ps)) (sym c.in_ok-push.ensures.items)
          (stated_more m c.loop-clause.all.items _ _ (known, own) c.loop-clause.invariant.sure);
      same = placed_more c.loop-clause.all.items c.push.new.self.items c.args.clauses.now c.loop-clause.clause-index _ _
          c.loop-clause-test.true c.loop-clause.invariant.same c.in_ok-push.ensures.items;
    }

pub returns-clause-sure : goal.returns-clause-sure
returns-clause-sure c = c.loop-clause.invariant.sure

pub returns-clause-same : goal.returns-clause-same
returns-clause-same c = c.loop-clause.invariant.same ∙ take_all c.loop-clause.clause-index c.args.clauses.now c.loop-clause-test.false
