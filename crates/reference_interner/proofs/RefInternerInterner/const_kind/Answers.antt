use Rattle.std.proofs.Common.{refl, ◌<◌, ap, sym, ◌∙◌, subst}
use Rattle.relation_terms.specs.Meaning.{const_tree}
use Rattle.reference_interner.specs.Forms.{const_form, form_of}
use Rattle.reference_interner.specs.Nodes.{const_node, table_meaning}
use Rattle.reference_interner.proofs.TableLemmas.{key_in, key_sort, key_read, not_const}
use Rattle.reference_interner.specs.Adding.{items_in}
use Rattle.reference_interner.proofs.RefInternerInterner.const_kind.Goals as goal

pub node-requires : goal.node-requires
node-requires c =
    let items = items_in c.args.self.now in
    let ns = c.args.self.now.nodes in
    key_in items ns const_node (c.args.constant.now.0).0 c.requires

pub unreachable-requires : goal.unreachable-requires
unreachable-requires c =
    let items = items_in c.args.self.now in
    let ns = c.args.self.now.nodes in
    not_const c.node.result.now c.in_default.not-Const
    (key_sort items ns const_node (c.args.constant.now.0).0 c.requires c.node.result.now c.node.ensures)

pub returns : goal.returns
returns c =
    let items = items_in c.args.self.now in
    let ns = c.args.self.now.nodes in
    key_read items ns const_node (c.args.constant.now.0).0 c.requires c.node.result.now c.node.ensures
    (const_form c.in-Const.kind) (ap form_of c.in-Const.is) ∙
    ap (const_tree (table_meaning items ns)) refl
