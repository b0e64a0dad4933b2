use Rattle.std.proofs.Common.{◌≡◌, length}
use Rattle.relation_terms.specs.Meaning.{Extends}
use Rattle.variable_tables.specs.Tables.{IsLawful}
use Rattle.text_asking.specs.Fits.{AreFit}
use Rattle.text_asking.proofs.fits.fits_of.Given as goal

-- what was found so far is so of the terms so far
abbrev pub invariant-loop-term : goal.invariant-loop-term
invariant-loop-term g l =
    let m = g.I.Interner.meaning l.ctx.interner in
    record {
      lawful : IsLawful m l.ctx.inner;
      grown : Extends (g.I.Interner.meaning l.fn.ctx.interner) m;
      many : length l.fits.items ≡ l.term-index;
      fit : AreFit m l.built l.fits.items;
    }
