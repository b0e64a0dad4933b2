use Rattle.reference_interner.specs.Adding.{meaning_in}
use Rattle.reference_interner.specs.Nodes.{meaning_of}
use Rattle.relation_rows.proofs.Arguments.{is_some}
use Rattle.relation_rows.proofs.calls.interning.add_associated.Goals as goal

pub returns : goal.returns
unfolding meaning_of
returns c =
    let m = meaning_in c.add_item-2.new.self in
    is_some (c.in_ok-of.of).0 ((m.tables).parent (c.in_ok-item.item).0) c.in_ok-item.ensures.parent
