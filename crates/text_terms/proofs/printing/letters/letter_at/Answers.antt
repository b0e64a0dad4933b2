use Rattle.std.proofs.Common.{rules, ◌≡◌, ◌+◌, ◌≤◌, Contains, arith, ap, sym, subst, ◌∙◌}
use Rattle.text_terms.specs.Letters.{skipping}
use Rattle.text_terms.proofs.LetterLemmas.{skips_none, skips_one, stops, skipped_over}
use Rattle.text_terms.proofs.printing.letters.letter_at.Goals as goal

pub loop-next-init : goal.loop-next-init
loop-next-init c =
    let e = c.into_iter-next-iterator.ensures.into_iter_gives ∙ c.iter-next-items.ensures.rest in
    (search rules, search rules, ap (λ ks. skipping ks c.args.number) e)

pub returns-then-letter-next-clause-numbered : goal.returns-then-letter-next-clause-numbered
returns-then-letter-next-clause-numbered c =
    stops _ _ _ _ _ c.in-Some.ensures.steps c.if-letter-next.true c.loop-next.invariant.2

pub returns-then-letter-next-clause-free : goal.returns-then-letter-next-clause-free
returns-then-letter-next-clause-free c =
    let e = stops _ _ _ _ _ c.in-Some.ensures.steps c.if-letter-next.true c.loop-next.invariant.2 in
    subst (λ l. Contains c.args.taken.now.keys l → ⊥) (sym e)
    (skipped_over c.args.taken.now.keys c.args.number c.iter-next-items.ensures.ordered)

pub loop-next-preserved : goal.loop-next-preserved
loop-next-preserved c =
    let past : c.in-Some.next.now ≤ c.loop-next.letter = omega (arith, c.if-letter-next.false) in
    let next : c.in_ok-letter.letter ≡ c.loop-next.letter + 1 = search rules in
    (search rules, search rules, skips_one _ _ _ _ _ _ c.in-Some.ensures.steps past next c.loop-next.invariant.2)

pub returns-clause-numbered : goal.returns-clause-numbered
returns-clause-numbered c = skips_none _ _ _ c.in-None.ensures.steps.0 c.loop-next.invariant.2

pub returns-clause-free : goal.returns-clause-free
returns-clause-free c =
    let e = skips_none _ _ _ c.in-None.ensures.steps.0 c.loop-next.invariant.2 in
    subst (λ l. Contains c.args.taken.now.keys l → ⊥) (sym e)
    (skipped_over c.args.taken.now.keys c.args.number c.iter-next-items.ensures.ordered)
