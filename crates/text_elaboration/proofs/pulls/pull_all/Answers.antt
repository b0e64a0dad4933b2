use Rattle.std.proofs.Common.{◌∙◌, sym, subst}
use Rattle.std.specs.List.{All}
use Rattle.relation_terms.proofs.Stays.{extends_on}
use Rattle.text_elaboration.specs.Pulls.{KnowsPulled, Answers}
use Rattle.text_elaboration.proofs.PullLemmas.{pulls_more, answers_more}
use Rattle.text_elaboration.proofs.pulls.pull_all.Goals as goal

pub returns-in_err-pulled-clause-grown : goal.returns-in_err-pulled-clause-grown
returns-in_err-pulled-clause-grown g c = extends_on c.loop.invariant.grown c.pull_one.ensures.grown

pub returns-in_err-push-clause-grown : goal.returns-in_err-push-clause-grown
returns-in_err-push-clause-grown g c = extends_on c.loop.invariant.grown c.pull_one.ensures.grown

pub returns-then-is_last-clause-grown : goal.returns-then-is_last-clause-grown
returns-then-is_last-clause-grown g c = extends_on c.loop.invariant.grown c.pull_one.ensures.grown

pub returns-then-is_last-clause-sure : goal.returns-then-is_last-clause-sure
returns-then-is_last-clause-sure g c =
    subst (All (KnowsPulled (g.I.Interner.meaning c.pull_one.new.elaborator.cx))) (sym c.in_ok-push.ensures.items)
    (pulls_more c.pull_one.ensures.grown c.loop.all.items c.in_ok-pulled.pulled c.loop.invariant.sure
    c.in_ok-pulled.ensures.sure)

pub returns-then-is_last-clause-answers : goal.returns-then-is_last-clause-answers
returns-then-is_last-clause-answers g c =
    subst (λ z. Answers g.I.Interner.meaning c.args.elaborator.now z c.pull_one.new.elaborator)
    (sym c.in_ok-push.ensures.items)
    (answers_more g.I.Interner.meaning c.loop.all.items c.args.elaborator.now c.loop.elaborator
    c.pull_one.new.elaborator c.in_ok-pulled.pulled c.loop.invariant.answers c.in_ok-pulled.ensures.answers)

pub loop-preserved : goal.loop-preserved
loop-preserved g c = record {
  same_reference = c.pull_one.ensures.same_reference ∙ c.loop.invariant.same_reference;
  grown = extends_on c.loop.invariant.grown c.pull_one.ensures.grown;
  sure = subst (All (KnowsPulled (g.I.Interner.meaning c.pull_one.new.elaborator.cx))) (sym c.in_ok-push.ensures.items)
      (pulls_more c.pull_one.ensures.grown c.loop.all.items c.in_ok-pulled.pulled c.loop.invariant.sure
      c.in_ok-pulled.ensures.sure);
  answers = subst (λ z. Answers g.I.Interner.meaning c.args.elaborator.now z c.pull_one.new.elaborator)
      (sym c.in_ok-push.ensures.items)
      (answers_more g.I.Interner.meaning c.loop.all.items c.args.elaborator.now c.loop.elaborator
      c.pull_one.new.elaborator c.in_ok-pulled.pulled c.loop.invariant.answers c.in_ok-pulled.ensures.answers);
}
