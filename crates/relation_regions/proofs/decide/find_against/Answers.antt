-- What is known is what was found of it.
use Rattle.relation_regions.proofs.Deciding.{found_against}
use Rattle.relation_regions.proofs.decide.find_against.Goals as goal

pub returns : goal.returns
returns c = found_against c.args.known.now c.args.standings.now c.args.found.now c.in_ok-stated.stated c.args.target
    c.find_unknown.result c.in_ok-stated.ensures.search c.in_ok-stated.ensures.finds_all c.find_unknown.ensures
