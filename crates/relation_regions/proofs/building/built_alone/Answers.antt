-- Nothing is asked for.
use Rattle.relation_regions.proofs.EdgesAdded.{no_pair, alone_of}
use Rattle.relation_regions.proofs.building.built_alone.Goals as goal

pub built-requires-clause-asked : goal.built-requires-clause-asked
built-requires-clause-asked c =
    no_pair c.args.nodes c.new-none.result c.new-none.ensures.longer c.new-none.ensures.shorter

pub returns : goal.returns
returns c = alone_of c.args.nodes c.new-none.result c.args.known.now c.new-none.ensures.shorter c.built.result
    c.built.ensures
