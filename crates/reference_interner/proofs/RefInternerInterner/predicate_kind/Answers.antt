use Rattle.std.proofs.Common.{◌<◌, ap, sym, subst}
use Rattle.reference_interner.specs.Forms.{predicate_form, form_of}
use Rattle.reference_interner.specs.Nodes.{predicate_node}
use Rattle.reference_interner.proofs.TableLemmas.{key_in, key_sort, key_read, not_predicate}
use Rattle.reference_interner.specs.Adding.{items_in}
use Rattle.reference_interner.proofs.RefInternerInterner.predicate_kind.Goals as goal

pub node-requires : goal.node-requires
node-requires c =
    let items = items_in c.args.self.now in
    let ns = c.args.self.now.nodes in
    key_in items ns predicate_node (c.args.predicate.now.0).0 c.requires

pub unreachable-requires : goal.unreachable-requires
unreachable-requires c =
    let items = items_in c.args.self.now in
    let ns = c.args.self.now.nodes in
    not_predicate c.node.result.now c.in_default.not-Predicate
    (key_sort items ns predicate_node (c.args.predicate.now.0).0 c.requires c.node.result.now c.node.ensures)

pub returns : goal.returns
returns c =
    let items = items_in c.args.self.now in
    let ns = c.args.self.now.nodes in
    key_read items ns predicate_node (c.args.predicate.now.0).0 c.requires c.node.result.now c.node.ensures
    (predicate_form c.in-Predicate.kind) (ap form_of c.in-Predicate.is)
