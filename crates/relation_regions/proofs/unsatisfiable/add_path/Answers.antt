-- The path that was found, and what was added of it.
use Rattle.std.proofs.lemmas.Result.{on_ok_weaker}
use Rattle.relation_regions.proofs.Deciding.{path_asked}
use Rattle.relation_regions.proofs.unsatisfiable.add_path.Goals as goal

pub returns-clause-has : goal.returns-clause-has
returns-clause-has c = on_ok_weaker c.add_asked.result
    (path_asked c.args.graph.now c.args.asked c.args.node c.args.reached c.in_ok-path.path.items c.as_slice.result.now
    c.add_asked.new.by.items c.in_ok-path.ensures c.as_slice.ensures.value) c.add_asked.ensures.has
