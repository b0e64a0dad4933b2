-- What asks for one more pair.
use Rattle.std.proofs.Common.{◌<◌, ◌∙◌, length, get_or, arith}
use Rattle.std.proofs.lemmas.Grind.{get_or_default_zero}
use Rattle.relation_regions.proofs.NumbersFound.{said_more}
use Rattle.relation_regions.proofs.solving.asked_by.Goals as goal

pub loop-place-preserved : goal.loop-place-preserved
loop-place-preserved c =
    let i = c.loop-place.place-index in
    let places = c.args.places.now in
    let said = c.args.pairs.now.asked_by.items in
    let lt : i < length places = omega arith in
    said_more said places i c.loop-place.by.items c.push.new.self.items c.index.result.now lt c.loop-place.invariant
    c.in_ok-push.ensures.items
    (c.index.ensures ∙ get_or_default_zero said (get_or places i 0) c.index.result.now (c.requires i 0 lt))
