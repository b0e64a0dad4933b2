-- All that reach the target are found.
use Rattle.relation_regions.proofs.search.path_to.Goals as goal

pub path-requires-clause-found : goal.path-requires-clause-found
path-requires-clause-found c = c.in_ok-found.ensures.finds_all c.args.node c.requires.reaches
