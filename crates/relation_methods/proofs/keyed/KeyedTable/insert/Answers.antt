-- The table has the numbers of one entry more.
use Rattle.std.proofs.Common.{◌≡◌, ◌∙◌, length, ap}
use Rattle.relation_methods.proofs.Indexing.{indexed_after}
use Rattle.relation_methods.proofs.keyed.KeyedTable.insert.Goals as goal

pub invariant_of-self-2 : goal.invariant_of-self-2
invariant_of-self-2 g c =
    let number : c.len-number.result ≡ length c.self.inside.entries.items = c.len-number.ensures ∙
    (c.reserve.new.self.ok.0 ∙ ap length c.reserve.ensures.items) in
    rw (c.in_ok-push.ensures.items, c.reserve.ensures.items)
    (indexed_after g.K.PartialEq.eq c.self.inside.by_key c.place_entry.new.by_key c.self.inside.blanket.items
    c.place_entry.new.blanket.items c.self.inside.entries.items c.args.entry
    c.len-number.result c.self.invariant number c.in_ok-place_entry.ensures.ok)
