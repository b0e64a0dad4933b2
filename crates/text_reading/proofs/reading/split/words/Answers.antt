use Rattle.std.proofs.Common.{sym, ap, subst, is_ok}
use Rattle.std.proofs.ResultArms.{chosen}
use Rattle.text_reading.specs.Words.{LieBetween}
use Rattle.text_reading.proofs.WordLemmas.{lie_more, lies_each}
use Rattle.text_reading.proofs.reading.split.words.Goals as goal

-- words one behind another stand in the text
pub returns-then-start-text-clause-inside : goal.returns-then-start-text-clause-inside
returns-then-start-text-clause-inside c =
    lies_each c.args.text.now c.words.words.items 0 c.words.behind _ c.words.invariant.0 c.words.invariant.1

-- the next word stands right behind the blanks
pub words-preserved : goal.words-preserved
words-preserved c =
    let grown = chosen _ _ _ _ c.push.ensures.items (ap is_ok c.in_ok-push.was) in (
      subst (λ ws. LieBetween c.args.text.now ws 0 c.in_ok-kind.end) (sym grown)
          (lie_more c.args.text.now c.words.words.items _ 0 c.words.behind c.words.invariant.0
          c.blank_end-start.ensures.blank c.blank_end-start.ensures.behind c.in_ok-kind.ensures.behind),
      c.in_ok-kind.ensures.within,
    )
