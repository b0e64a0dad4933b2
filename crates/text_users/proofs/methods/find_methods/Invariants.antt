use Rattle.std.proofs.Common.{◌≡◌, map, take}
use Rattle.text_users.proofs.methods.find_methods.Given as goal

-- the names so far are those of the first entries
abbrev pub invariant-loop-entry : goal.invariant-loop-entry
invariant-loop-entry g l = l.names.items ≡ map (λ r. (r.now).value) (take l.entry-index l.entry-items)
