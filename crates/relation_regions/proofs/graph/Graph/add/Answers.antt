-- The columns belong together after one more edge.
use Rattle.std.proofs.Common.{◌∙◌}
use Rattle.relation_regions.proofs.Columns.{columns_grow_like}
use Rattle.relation_regions.proofs.graph.Graph.add.Goals as goal

pub returns-clause-graph : goal.returns-clause-graph
returns-clause-graph c = columns_grow_like _ _ _ _ _ _ _ _ _ _ c.index-latest.result.now c.requires.graph c.requires.from
    c.requires.to (c.len.ensures ∙ c.push_row.new.second.ok.0) c.in_ok-push_row.ensures.first
    c.in_ok-push_row.ensures.second c.in_ok-push_row.ensures.third c.index-latest.ensures
