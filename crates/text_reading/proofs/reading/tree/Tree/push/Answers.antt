use Rattle.std.proofs.Common.{is_ok, ap, ◌∙◌}
use Rattle.std.proofs.ResultArms.{chosen}
use Rattle.text_reading.proofs.TreeLemmas.{founded_either, stands_either}
use Rattle.text_reading.proofs.reading.tree.Tree.push.Goals as goal

-- the new node's parts are those that were added, and are nodes already
pub invariant_of-self-2-clause-founded : goal.invariant_of-self-2-clause-founded
invariant_of-self-2-clause-founded c =
    let grown = chosen _ _ _ _ c.extend_from_slice.ensures.items (ap is_ok c.in_ok-extend_from_slice.was) in
    founded_either (is_ok c.push.result) c.args.self.now.nodes.items c.push.new.self.items c.args.self.now.parts.items
    c.extend_from_slice.new.self.items c.args.parts.now _ c.push.ensures.items grown c.args.self.now.founded
    (c.len-first.ensures ∙ c.args.self.now.parts.ok.0) (c.len-behind.ensures ∙ c.extend_from_slice.new.self.ok.0)
    c.requires.there

-- the new node stands in the text
pub invariant_of-self-2-clause-stands : goal.invariant_of-self-2-clause-stands
invariant_of-self-2-clause-stands c =
    stands_either (is_ok c.push.result) c.args.self.now.nodes.items c.push.new.self.items c.args.self.now.text_len _
    c.push.ensures.items c.args.self.now.stands c.requires.forwards c.requires.inside
