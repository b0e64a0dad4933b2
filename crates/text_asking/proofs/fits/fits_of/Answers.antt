-- What was found of the terms so far stays, and what is found of the next is added.
use Rattle.std.proofs.Common.{Some, [], ◌∷◌, ◌∙◌, ap, sym, subst, arith, length, IfSome}
use Rattle.std.proofs.lemmas.Option.{slice_get-get_or}
use Rattle.std.proofs.lemmas.List.{length-append}
use Rattle.relation_terms.proofs.Stays.{stays_same, extends_on}
use Rattle.text_asking.specs.Fits.{AreFit, IsFit}
use Rattle.text_asking.proofs.AskingLemmas.{ready_stays}
use Rattle.text_asking.proofs.FitLemmas.{none_fit, fit_stays, fit_more, known_at, same_there}
use Rattle.text_asking.proofs.fits.fits_of.Goals as goal

pub loop-term-init : goal.loop-term-init
loop-term-init g c =
    let m = g.I.Interner.meaning c.args.ctx.interner in
    let fits = c.in_ok-fits.fits.items in
    record {
      lawful = c.requires.lawful;
      grown = stays_same m;
      many = ap length c.in_ok-fits.ensures.items;
      fit = none_fit m c.args.built.now fits c.in_ok-fits.ensures.items;
    }

pub fit_if-left-requires-clause-term_known : goal.fit_if-left-requires-clause-term_known
fit_if-left-requires-clause-term_known g c =
    let built = c.args.built.now in
    let i = c.loop-term.term-index in
    let there = slice_get-get_or built i c.term-item.result c.loop-term-test.true ∙ ap Some (sym c.term-item.is) in
    known_at (g.I.Interner.meaning c.loop-term.ctx.interner) built i c.term-item.result there
    (ready_stays c.loop-term.invariant.grown built c.requires.known)

pub loop-term-preserved : goal.loop-term-preserved
loop-term-preserved g c =
    let n = g.I.Interner.meaning c.fit_if-left.result.0.interner in
    let built = c.args.built.now in
    let fits = c.loop-term.fits.items in
    let before = c.loop-term.invariant in
    let h = c.fit_if-left.ensures in
    let pushed = c.in_ok-push.ensures.items in
    let more = ap length pushed in
    let i = c.loop-term.term-index in
    let there = slice_get-get_or built i c.term-item.result c.loop-term-test.true ∙ ap Some (sym c.term-item.is) in
    let added = length-append fits (c.fit_if-left.result.1 ∷ []) in
    record {
      lawful = h.lawful;
      grown = extends_on before.grown h.grown;
      many = omega (arith, before.many, more, added);
      fit = subst (AreFit n built) (sym pushed) (fit_more n built fits c.fit_if-left.result.1
          (λ key found. subst (λ o. IfSome o (λ t. IfSome c.fit_if-left.result.1 (IsFit n t)))
          (same_there built i (length fits) c.term-item.result key there before.many found)
          h.fit)
          (fit_stays h.grown built fits (ready_stays before.grown built c.requires.known) before.fit));
    }
