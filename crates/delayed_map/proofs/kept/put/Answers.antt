use Rattle.std.proofs.Common.{◌≡◌, true, subst}
use Rattle.std.specs.List.{list_any}
use Rattle.std.specs.Map.{keys_of}
use Rattle.delayed_map.proofs.Finding.{any_key}
use Rattle.delayed_map.proofs.kept.put.Goals as goal

pub returns-in-At-clause-met : goal.returns-in-At-clause-met
returns-in-At-clause-met g c = λ e.
    let eq = g.K.PartialEq.eq in
    let n = c.in-At.field-0 in
    subst (λ es. list_any (eq c.args.key) (keys_of es) ≡ true) c.as_slice.ensures.value
    (any_key eq c.args.key c.as_slice.result.now n (c.find.ensures n c.in-At.is))
