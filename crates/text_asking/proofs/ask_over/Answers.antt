-- The terms are known where they were built, and so in each context behind.
use Rattle.std.proofs.Common.{◌∙◌, sym, subst}
use Rattle.relation_terms.proofs.Stays.{extends_on}
use Rattle.text_terms.specs.Built.{AreKnown}
use Rattle.text_asking.specs.Fits.{AreFit}
use Rattle.text_asking.proofs.AskingLemmas.{ready_stays}
use Rattle.text_asking.proofs.ask_over.Goals as goal

pub fits_of-requires-clause-known : goal.fits_of-requires-clause-known
fits_of-requires-clause-known g c =
    subst (AreKnown (g.I.Interner.meaning c.in-Ok-new.made.interner)) (sym c.deref.ensures.value)
    (ready_stays c.in-Ok-new.ensures.grown c.in-Ok-build.built.items c.in-Ok-build.ensures.sure)

pub ask_built-requires-clause-ready : goal.ask_built-requires-clause-ready
ask_built-requires-clause-ready g c =
    subst (AreKnown (g.I.Interner.meaning c.in-Ok-fits_of.ctx.interner)) (sym c.deref-2.ensures.value)
    (ready_stays (extends_on c.in-Ok-new.ensures.grown c.in-Ok-fits_of.ensures.grown) c.in-Ok-build.built.items
    c.in-Ok-build.ensures.sure)

pub ask_built-requires-clause-fit : goal.ask_built-requires-clause-fit
ask_built-requires-clause-fit g c =
    let n = g.I.Interner.meaning c.in-Ok-fits_of.ctx.interner in
    subst (AreFit n c.deref-2.result.now) (sym c.deref-3.ensures.value)
    (subst (λ ks. AreFit n ks c.in-Ok-fits_of.fits.items) (c.deref.ensures.value ∙ sym c.deref-2.ensures.value)
    c.in-Ok-fits_of.ensures.fit)
