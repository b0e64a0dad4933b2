use Rattle.std.proofs.Common.{◌≡◌, Some, map, take, slice_get}
use Rattle.text_terms.proofs.building.lists.keys_at.Given as goal

-- the keys so far are those of the first numbers
abbrev pub invariant-loop-number : goal.invariant-loop-number
invariant-loop-number g l =
    map (slice_get l.built) (take l.number-index l.places) ≡ map (λ key. Some (Some key)) l.keys.items
