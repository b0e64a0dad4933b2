-- What was tested in one context is so in each that has as much.
use Rattle.std.proofs.lemmas.Result.{on_ok_weaker}
use Rattle.relation_terms.specs.Meaning.{arg_tree}
use Rattle.text_asking.proofs.FitLemmas.{fits_more}
use Rattle.text_asking.proofs.fits.fit_of.Goals as goal

pub returns-clause-fit : goal.returns-clause-fit
returns-clause-fit g c = λ p y has.
    let n = g.I.Interner.meaning c.enter_universe.new.ctx.interner in
    on_ok_weaker c.may_relate-fits.result
    (λ may. fits_more n c.enter_universe.new.ctx.inner c.had_by.result c.had_by.ensures.variables c.had_by.ensures.universe
    (arg_tree n c.args.term.now) may p y has) c.may_relate-fits.ensures.may
