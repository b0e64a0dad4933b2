use Rattle.std.proofs.Common.{◌<◌, ap, sym, ◌∙◌, subst}
use Rattle.relation_terms.specs.Trees.{list_tree}
use Rattle.relation_terms.specs.Meaning.{object_predicate_tree}
use Rattle.reference_interner.specs.Forms.{predicates_form, form_of}
use Rattle.reference_interner.specs.Nodes.{predicates_node, table_meaning}
use Rattle.reference_interner.proofs.TableLemmas.{key_in, key_sort, key_read, not_predicates}
use Rattle.reference_interner.specs.Adding.{items_in}
use Rattle.reference_interner.proofs.RefInternerInterner.existential_predicates.Goals as goal

pub node-requires : goal.node-requires
node-requires c =
    let items = items_in c.args.self.now in
    let ns = c.args.self.now.nodes in
    key_in items ns predicates_node (c.args.predicates.now.0).0 c.requires

pub unreachable-requires : goal.unreachable-requires
unreachable-requires c =
    let items = items_in c.args.self.now in
    let ns = c.args.self.now.nodes in
    not_predicates c.node.result.now c.in_default.not-ExistentialPredicates
    (key_sort items ns predicates_node (c.args.predicates.now.0).0 c.requires c.node.result.now c.node.ensures)

pub returns : goal.returns
returns c =
    let items = items_in c.args.self.now in
    let ns = c.args.self.now.nodes in
    key_read items ns predicates_node (c.args.predicates.now.0).0 c.requires c.node.result.now c.node.ensures
    (predicates_form c.in-ExistentialPredicates.list.items) (ap form_of c.in-ExistentialPredicates.is) ∙
    ap (list_tree (object_predicate_tree (table_meaning items ns))) (sym c.as_slice.ensures.value)
