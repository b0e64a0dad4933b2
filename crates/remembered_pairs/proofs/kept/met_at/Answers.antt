use Rattle.std.proofs.Common.{sym, ap, ◌∙◌}
use Rattle.std.proofs.lemmas.List.Folds.{list_any_at}
use Rattle.remembered_pairs.proofs.kept.met_at.Goals as goal

pub returns-then-eq : goal.returns-then-eq
returns-then-eq g c = λ found.
    let eq = g.P.PartialEq.eq c.args.value.now in
    let at = c.in-Some-get.ensures.lookup in
    list_any_at eq c.args.values.now c.in-Some.number.now c.in-Some-get.other.now at.3.0
    (ap eq (sym at.1) ∙ sym c.eq.ensures ∙ c.if-eq.true)
