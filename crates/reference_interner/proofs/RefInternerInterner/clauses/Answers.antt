use Rattle.std.proofs.Common.{◌<◌, ap, sym, ◌∙◌, subst}
use Rattle.relation_terms.specs.Trees.{list_tree}
use Rattle.reference_interner.specs.Forms.{clauses_form, form_of}
use Rattle.reference_interner.specs.Nodes.{clauses_node, table_meaning}
use Rattle.reference_interner.proofs.TableLemmas.{key_in, key_sort, key_read, not_clauses}
use Rattle.reference_interner.specs.Adding.{items_in}
use Rattle.reference_interner.proofs.RefInternerInterner.clauses.Goals as goal

pub node-requires : goal.node-requires
node-requires c =
    let items = items_in c.args.self.now in
    let ns = c.args.self.now.nodes in
    key_in items ns clauses_node (c.args.clauses.now.0).0 c.requires

pub unreachable-requires : goal.unreachable-requires
unreachable-requires c =
    let items = items_in c.args.self.now in
    let ns = c.args.self.now.nodes in
    not_clauses c.node.result.now c.in_default.not-Clauses
    (key_sort items ns clauses_node (c.args.clauses.now.0).0 c.requires c.node.result.now c.node.ensures)

pub returns : goal.returns
returns c =
    let items = items_in c.args.self.now in
    let ns = c.args.self.now.nodes in
    key_read items ns clauses_node (c.args.clauses.now.0).0 c.requires c.node.result.now c.node.ensures
    (clauses_form c.in-Clauses.list.items) (ap form_of c.in-Clauses.is) ∙
    ap (list_tree (table_meaning items ns).clause) (sym c.as_slice.ensures.value)
