use Rattle.std.proofs.Common.{refl, ◌<◌, ap, sym, ◌∙◌, subst}
use Rattle.relation_terms.specs.Meaning.{region_tree}
use Rattle.reference_interner.specs.Forms.{region_form, form_of}
use Rattle.reference_interner.specs.Nodes.{region_node, table_meaning}
use Rattle.reference_interner.proofs.TableLemmas.{key_in, key_sort, key_read, not_region}
use Rattle.reference_interner.specs.Adding.{items_in}
use Rattle.reference_interner.proofs.RefInternerInterner.region_kind.Goals as goal

pub node-requires : goal.node-requires
node-requires c =
    let items = items_in c.args.self.now in
    let ns = c.args.self.now.nodes in
    key_in items ns region_node (c.args.region.now.0).0 c.requires

pub unreachable-requires : goal.unreachable-requires
unreachable-requires c =
    let items = items_in c.args.self.now in
    let ns = c.args.self.now.nodes in
    not_region c.node.result.now c.in_default.not-Region
    (key_sort items ns region_node (c.args.region.now.0).0 c.requires c.node.result.now c.node.ensures)

pub returns : goal.returns
returns c =
    let items = items_in c.args.self.now in
    let ns = c.args.self.now.nodes in
    key_read items ns region_node (c.args.region.now.0).0 c.requires c.node.result.now c.node.ensures
    (region_form c.in-Region.kind) (ap form_of c.in-Region.is) ∙
    ap (region_tree (table_meaning items ns)) refl
