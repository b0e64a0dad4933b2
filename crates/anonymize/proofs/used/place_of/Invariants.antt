use Rattle.std.proofs.Common.{◌≡◌}
use Rattle.anonymize.specs.Anonymous.{place_in}
use Rattle.anonymize.proofs.UsedPlaces.{from, later_by}
use Rattle.anonymize.proofs.used.place_of.Given as goal

-- What is found from here on is what is found of all.
abbrev pub invariant-loop-place : goal.invariant-loop-place
invariant-loop-place l = place_in l.vars l.var ≡ later_by l.place (place_in (from l.place l.vars) l.var)
