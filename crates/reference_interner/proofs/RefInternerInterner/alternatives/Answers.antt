use Rattle.std.proofs.Common.{◌<◌, ap, sym, ◌∙◌, subst}
use Rattle.relation_terms.specs.Trees.{list_tree}
use Rattle.reference_interner.specs.Forms.{alternatives_form, form_of}
use Rattle.reference_interner.specs.Nodes.{alternatives_node, table_meaning}
use Rattle.reference_interner.proofs.TableLemmas.{key_in, key_sort, key_read, not_alternatives}
use Rattle.reference_interner.specs.Adding.{items_in}
use Rattle.reference_interner.proofs.RefInternerInterner.alternatives.Goals as goal

pub node-requires : goal.node-requires
node-requires c =
    let items = items_in c.args.self.now in
    let ns = c.args.self.now.nodes in
    key_in items ns alternatives_node (c.args.alternatives.now.0).0 c.requires

pub unreachable-requires : goal.unreachable-requires
unreachable-requires c =
    let items = items_in c.args.self.now in
    let ns = c.args.self.now.nodes in
    not_alternatives c.node.result.now c.in_default.not-Alternatives
    (key_sort items ns alternatives_node (c.args.alternatives.now.0).0 c.requires c.node.result.now c.node.ensures)

pub returns : goal.returns
returns c =
    let items = items_in c.args.self.now in
    let ns = c.args.self.now.nodes in
    key_read items ns alternatives_node (c.args.alternatives.now.0).0 c.requires c.node.result.now c.node.ensures
    (alternatives_form c.in-Alternatives.list.items) (ap form_of c.in-Alternatives.is) ∙
    ap (list_tree (table_meaning items ns).pat) (sym c.as_slice.ensures.value)
