-- A target that is looked at.
use Rattle.std.proofs.Common.{sym, ◌∙◌}
use Rattle.relation_regions.proofs.Deciding.{found_decided, variable_passed}
use Rattle.relation_regions.proofs.decide.decide_target.Goals as goal

pub returns-then-not-is_given : goal.returns-then-not-is_given
returns-then-not-is_given c = variable_passed c.args.known.now c.args.wide.now c.args.standings.now c.args.target
    c.args.values.now.items (sym c.is_given.ensures ∙ c.if-not-is_given.true)

pub decide_found-requires-clause-found : goal.decide_found-requires-clause-found
decide_found-requires-clause-found c = c.in_ok-found.ensures.search.all_nodes ∙ c.requires.nodes

pub returns : goal.returns
returns c = found_decided c.args.known.now c.args.wide.now c.args.standings.now c.in_ok-found.found c.args.target
    c.args.values.now.items c.decide_found.new.values.items
    (c.requires.target, sym c.is_given.ensures ∙ c.if-not-is_given.false) c.in_ok-found.ensures.search
    c.in_ok-found.ensures.finds_all c.decide_found.result c.decide_found.ensures
