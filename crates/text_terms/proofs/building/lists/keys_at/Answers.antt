use Rattle.std.proofs.Common.{◌∷◌, [], ◌++◌, Some, if◌then◌else◌, ap, ◌∙◌, slice_get}
use Rattle.text_terms.proofs.ListLemmas.{found_more}
use Rattle.text_terms.proofs.building.lists.keys_at.Goals as goal

pub loop-number-preserved : goal.loop-number-preserved
loop-number-preserved g c =
    let before = c.loop-number.keys.items in
    let next = c.in_ok-key.key in
    let pushed = c.push.ensures.items ∙ ap (λ b. if b then (before ++ next ∷ []) else before) c.if-is_err.ensures.negation in
    found_more (slice_get c.args.built.now) (λ key. Some (Some key)) c.in_ok-places.places.now before next
    c.loop-number.number-index c.push.new.self.items c.loop-number.invariant c.in_ok-key.ensures c.loop-number-test.true pushed
