use Rattle.std.proofs.Common.{ap, cond, ◌∙◌}
use Rattle.std.proofs.lemmas.Bool.{eq-eqb, eqb-true}
use Rattle.fast_reject.specs.declared.pairs.Pair.TheVariants.{Apart, Args}
use Rattle.fast_reject.proofs.Pairing.{one_truth}
use Rattle.fast_reject.proofs.pairs.items.Goals as goal

pub returns : goal.returns
returns g c =
    let m = g.I.Interner.meaning c.args.cx.now in
    let same = c.is_same_id.ensures in
    let one = one_truth c.is_same_id.result _ (λ i. eq-eqb _ _ (same.0 i), λ i. same.1 (eqb-true _ _ i)) in
    c.if_alike.ensures ∙ ap (λ w. cond w (Args c.args.args c.args.others) Apart) one
