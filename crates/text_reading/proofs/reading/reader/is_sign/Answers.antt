use Rattle.std.proofs.Common.{◌≡◌, ap, sym, ◌∙◌, rules}
use denote.Enum.Bare.{same_true, true_same}
use Rattle.text_reading.specs.contracts.reading.signs.Sign.{the_type}
use Rattle.text_reading.specs.declared.reading.words.WordKind.TheVariants as word
use Rattle.text_reading.proofs.reading.reader.is_sign.Goals as goal

pub returns-in-Sign : goal.returns-in-Sign
returns-in-Sign c = (
  λ h. c.in-Sign.is ∙ ap (λ s. word.Sign s) (same_true the_type (search rules) _ _ (sym c.eq.ensures ∙ h)),
  λ e.
      let both : word.Sign c.in-Sign.found ≡ word.Sign c.args.sign = sym c.in-Sign.is ∙ e in
      let same : c.in-Sign.found ≡ c.args.sign = cc in
      c.eq.ensures ∙ true_same the_type _ _ same,
)
