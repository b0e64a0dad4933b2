use Rattle.std.proofs.Common.{◌∙◌, [], ◌∷◌, sym, ap, subst, refl, arith, inl, inr, length, length-append}
use Rattle.std.specs.List.{All}
use Rattle.std.proofs.lemmas.List.Elements.{All-nil}
use Rattle.relation_terms.proofs.Stays.{stays_same, extends_on}
use Rattle.text_elaboration.specs.Pulls.{KnowsPulled, FindsEach, WentOn}
use Rattle.text_elaboration.proofs.PullLemmas.{pulls_more}
use Rattle.text_elaboration.proofs.ReachLemmas.{went_to_last}
use Rattle.text_elaboration.proofs.SupertraitLemmas.{each_more}
use Rattle.text_elaboration.proofs.pulls.pull_traits.Goals as goal

pub loop-init : goal.loop-init
loop-init g c =
    let m = g.I.Interner.meaning c.args.traits.now.cx in
    let none = c.new-all.ensures.items in record {
      same_reference = refl;
      grown = stays_same m;
      sure = subst (All (KnowsPulled m)) (sym none) (All-nil (KnowsPulled m));
      finds = ([], none, refl);
      count = ap length none;
    }

pub returns-in_err-pulled-clause-grown : goal.returns-in_err-pulled-clause-grown
returns-in_err-pulled-clause-grown g c = extends_on c.loop.invariant.grown c.pull_trait.ensures.grown

pub returns-in_err-push-clause-grown : goal.returns-in_err-push-clause-grown
returns-in_err-push-clause-grown g c = extends_on c.loop.invariant.grown c.pull_trait.ensures.grown

pub returns-then-is_last-clause-grown : goal.returns-then-is_last-clause-grown
returns-then-is_last-clause-grown g c = extends_on c.loop.invariant.grown c.pull_trait.ensures.grown

pub returns-then-is_last-clause-sure : goal.returns-then-is_last-clause-sure
returns-then-is_last-clause-sure g c =
    subst (All (KnowsPulled (g.I.Interner.meaning c.pull_trait.new.traits.cx))) (sym c.in_ok-push.ensures.items)
    (pulls_more c.pull_trait.ensures.grown c.loop.all.items c.in_ok-pulled.pulled c.loop.invariant.sure
    c.in_ok-pulled.ensures.sure)

pub returns-then-is_last-clause-finds : goal.returns-then-is_last-clause-finds
returns-then-is_last-clause-finds g c = inr (record {
  before = c.loop.all.items;
  last = c.in_ok-pulled.pulled;
  between = c.loop.traits;
  is = c.in_ok-push.ensures.items;
  ends = sym c.is_last.ensures ∙ c.if-is_last.true;
  finds = c.loop.invariant.finds;
  stops = c.in_ok-pulled.ensures.finds;
})

pub returns-then-is_last-clause-went_on : goal.returns-then-is_last-clause-went_on
returns-then-is_last-clause-went_on g c =
    subst (WentOn c.args.count) (sym c.in_ok-push.ensures.items)
    (went_to_last c.args.count c.loop.all.items c.in_ok-pulled.pulled (sym c.is_last.ensures ∙ c.if-is_last.true))

pub loop-preserved : goal.loop-preserved
loop-preserved g c =
    let ps = c.loop.all.items in
    let p = c.in_ok-pulled.pulled in
    let u = c.pull_trait.new.traits in
    let before = c.loop.invariant in
    let sum = ap length c.in_ok-push.ensures.items ∙ length-append ps (p ∷ []) in
    let count = before.count in record {
      same_reference = c.pull_trait.ensures.same_reference ∙ before.same_reference;
      grown = extends_on before.grown c.pull_trait.ensures.grown;
      sure = subst (All (KnowsPulled (g.I.Interner.meaning u.cx))) (sym c.in_ok-push.ensures.items)
          (pulls_more c.pull_trait.ensures.grown ps p before.sure c.in_ok-pulled.ensures.sure);
      finds = subst (λ z. FindsEach g.I.Interner.meaning c.args.traits.now z u) (sym c.in_ok-push.ensures.items)
          (each_more g.I.Interner.meaning ps p c.args.traits.now c.loop.traits u before.finds c.in_ok-pulled.ensures.finds
          (sym c.is_last.ensures ∙ c.if-is_last.false));
      count = omega (arith, sum, count);
    }

pub returns-clause-finds : goal.returns-clause-finds
returns-clause-finds g c = inl c.loop.invariant.finds

pub returns-clause-went_on : goal.returns-clause-went_on
returns-clause-went_on g c = let count = c.loop.invariant.count in inr (inr (omega (arith, count)))
