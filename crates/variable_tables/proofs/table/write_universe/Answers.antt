use Rattle.std.proofs.Common.{ap}
use Rattle.std.proofs.lemmas.List.{map-set}
use Rattle.std.proofs.Math.Seq.{map-set_same}
use Rattle.variable_tables.proofs.table.write_universe.Goals as goal

pub returns-clause-keys : goal.returns-clause-keys
returns-clause-keys g c =
    map-set_same (λ t. t.key) c.args.rows.now.items c.args.v _ c.index_mut-row.result.now (ap (λ t. t.key) c.index_mut-row.ensures.value)

pub returns-clause-terms : goal.returns-clause-terms
returns-clause-terms g c =
    map-set_same (λ t. t.term) c.args.rows.now.items c.args.v _ c.index_mut-row.result.now (ap (λ t. t.term) c.index_mut-row.ensures.value)

pub returns-clause-universes : goal.returns-clause-universes
returns-clause-universes g c = map-set (λ t. (t.universe).0) c.args.rows.now.items c.args.v _
