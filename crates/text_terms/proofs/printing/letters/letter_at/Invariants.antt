use Rattle.std.proofs.Common.{◌≡◌}
use Rattle.text_terms.specs.Letters.{skipping}
use Rattle.text_terms.proofs.printing.letters.letter_at.Given as goal

abbrev pub invariant-loop-next : goal.invariant-loop-next
invariant-loop-next l =
    (goal.iterator-loop-next).can_next l.next-iterator ×
    (goal.iterator-loop-next).is_finite l.next-iterator ×
    (skipping l.next-iterator l.letter ≡ skipping l.taken.keys l.number)
