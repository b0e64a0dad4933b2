use Rattle.std.proofs.Common.{refl, ◌<◌, ap, sym, ◌∙◌, subst}
use Rattle.relation_terms.specs.Meaning.{valtree_tree}
use Rattle.reference_interner.specs.Forms.{valtree_form, form_of}
use Rattle.reference_interner.specs.Nodes.{valtree_node, table_meaning}
use Rattle.reference_interner.proofs.TableLemmas.{key_in, key_sort, key_read, not_valtree}
use Rattle.reference_interner.specs.Adding.{items_in}
use Rattle.reference_interner.proofs.RefInternerInterner.valtree_kind.Goals as goal

pub node-requires : goal.node-requires
node-requires c =
    let items = items_in c.args.self.now in
    let ns = c.args.self.now.nodes in
    key_in items ns valtree_node (c.args.valtree.now.0).0 c.requires

pub unreachable-requires : goal.unreachable-requires
unreachable-requires c =
    let items = items_in c.args.self.now in
    let ns = c.args.self.now.nodes in
    not_valtree c.node.result.now c.in_default.not-ValTree
    (key_sort items ns valtree_node (c.args.valtree.now.0).0 c.requires c.node.result.now c.node.ensures)

pub returns : goal.returns
returns c =
    let items = items_in c.args.self.now in
    let ns = c.args.self.now.nodes in
    key_read items ns valtree_node (c.args.valtree.now.0).0 c.requires c.node.result.now c.node.ensures
    (valtree_form c.in-ValTree.kind) (ap form_of c.in-ValTree.is) ∙
    ap (valtree_tree (table_meaning items ns)) refl
