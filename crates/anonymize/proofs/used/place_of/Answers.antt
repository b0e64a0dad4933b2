use Rattle.std.proofs.Common.{◌≡◌, length, arith}
use Rattle.anonymize.proofs.UsedPlaces.{place_nowhere}
use Rattle.anonymize.proofs.used.place_of.Goals as goal

pub returns : goal.returns
returns c =
    let test = c.loop-place-test.false in
    let end = (c.loop-place.auto).place-end in
    let all : c.loop-place.place ≡ length c.args.vars.now = omega (arith, test, end) in
    place_nowhere c.args.vars.now c.args.var.now c.loop-place.place all c.loop-place.invariant
