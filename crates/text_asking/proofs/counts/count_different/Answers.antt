use Rattle.std.proofs.Common.{◌∙◌}
use Rattle.std.specs.HashSet as bag
use Rattle.std.proofs.lemmas.Iterator.{YieldsList-from_slice}
use Rattle.std.proofs.lemmas.Iterator.Adapters.{fact_from_collect}
use Rattle.std.proofs.lemmas.Iterator.Consumers.{YieldsList-from_copied}
use Rattle.std.proofs.lemmas.Map.Made.{hash_set_len-from_list}
use Rattle.std.proofs.lemmas.Result.{IfOk-at_ok}
use Rattle.text_asking.proofs.counts.count_different.Goals as goal

-- The set has the elements of the list, each once.
pub returns : goal.returns
returns g c =
    let eq = g.T.PartialEq.eq in
    let road = YieldsList-from_copied (YieldsList-from_slice c.args.items.now cc) in
    let got = fact_from_collect (λ ys s. bag.IsFromIterResult eq ys s) c.collect.result c.collect.ensures.ran road in
    let made = IfOk-at_ok (λ s. bag.IsFromIterResult eq c.args.items.now s) c.in_ok-set.was got in
    c.len.ensures.len ∙ hash_set_len-from_list g.met.T.Eq.laws c.args.items.now c.in_ok-set.set made
