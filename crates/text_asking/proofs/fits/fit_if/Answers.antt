use Rattle.text_asking.proofs.FitLemmas.{if_each}
use Rattle.text_asking.proofs.fits.fit_if.Goals as goal

pub returns-in_default-clause-fit : goal.returns-in_default-clause-fit
returns-in_default-clause-fit g c = if_each c.args.term.now (λ t. tt)
