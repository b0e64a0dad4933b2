-- Whether values are added.
use Rattle.std.proofs.Common.{length, ap, not, ◌∙◌}
use Rattle.relation_regions.specs.Deciding.{KnowsFound, IsFoundAgainst, AreValuesTo}
use Rattle.relation_regions.proofs.Deciding.{is_nothing, is_something}
use Rattle.relation_regions.proofs.decide.decide_found.Goals as goal

pub returns-in_ok-add_values : goal.returns-in_ok-add_values
returns-in_ok-add_values c =
    let s = c.args.standings.now in
    is_nothing (KnowsFound c.args.known.now s c.args.found.now c.args.target)
    (AreValuesTo s c.args.found.now c.args.target c.args.values.now.items c.add_values.new.values.items (length s))
    (IsFoundAgainst c.args.known.now s c.args.found.now c.args.target) c.in_ok-against.against
    (c.is_none.ensures ∙ ap not c.if-is_none.true) c.in_ok-against.ensures c.in_ok-add_values.ensures

pub returns-else-is_none : goal.returns-else-is_none
returns-else-is_none c =
    let s = c.args.standings.now in
    is_something (KnowsFound c.args.known.now s c.args.found.now c.args.target)
    (KnowsFound c.args.known.now s c.args.found.now c.args.target ×
    AreValuesTo s c.args.found.now c.args.target c.args.values.now.items c.args.values.now.items (length s))
    (IsFoundAgainst c.args.known.now s c.args.found.now c.args.target) c.in_ok-against.against
    (c.is_none.ensures ∙ ap not c.if-is_none.false) c.in_ok-against.ensures
