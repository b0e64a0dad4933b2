use Rattle.std.proofs.Common.{◌<◌, ap, sym, ◌∙◌, subst}
use Rattle.relation_terms.specs.Meaning.{arg_tree}
use Rattle.relation_terms.specs.Trees.{list_tree}
use Rattle.reference_interner.specs.Forms.{args_form, form_of}
use Rattle.reference_interner.specs.Nodes.{args_node, table_meaning}
use Rattle.reference_interner.proofs.TableLemmas.{key_in, key_sort, key_read, not_args}
use Rattle.reference_interner.specs.Adding.{items_in}
use Rattle.reference_interner.specs.ShortLists.{members_of}
use Rattle.reference_interner.proofs.RefInternerInterner.args.Goals as goal

pub node-requires : goal.node-requires
node-requires c =
    let items = items_in c.args.self.now in
    let ns = c.args.self.now.nodes in
    key_in items ns args_node (c.args.args.now.0).0 c.requires

pub unreachable-requires : goal.unreachable-requires
unreachable-requires c =
    let items = items_in c.args.self.now in
    let ns = c.args.self.now.nodes in
    not_args c.node.result.now c.in_default.not-Args
    (key_sort items ns args_node (c.args.args.now.0).0 c.requires c.node.result.now c.node.ensures)

pub returns : goal.returns
returns c =
    let items = items_in c.args.self.now in
    let ns = c.args.self.now.nodes in
    key_read items ns args_node (c.args.args.now.0).0 c.requires c.node.result.now c.node.ensures
    (args_form (members_of c.in-Args.list)) (ap form_of c.in-Args.is) ∙
    ap (list_tree (arg_tree (table_meaning items ns))) (sym c.as_slice.ensures)
