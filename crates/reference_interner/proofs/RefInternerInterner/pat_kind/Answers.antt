use Rattle.std.proofs.Common.{refl, ◌<◌, ap, sym, ◌∙◌, subst}
use Rattle.relation_terms.specs.Meaning.{pattern_tree}
use Rattle.reference_interner.specs.Forms.{pattern_form, form_of}
use Rattle.reference_interner.specs.Nodes.{pat_node, table_meaning}
use Rattle.reference_interner.proofs.TableLemmas.{key_in, key_sort, key_read, not_pat}
use Rattle.reference_interner.specs.Adding.{items_in}
use Rattle.reference_interner.proofs.RefInternerInterner.pat_kind.Goals as goal

pub node-requires : goal.node-requires
node-requires c =
    let items = items_in c.args.self.now in
    let ns = c.args.self.now.nodes in
    key_in items ns pat_node (c.args.pat.now.0).0 c.requires

pub unreachable-requires : goal.unreachable-requires
unreachable-requires c =
    let items = items_in c.args.self.now in
    let ns = c.args.self.now.nodes in
    not_pat c.node.result.now c.in_default.not-Pat
    (key_sort items ns pat_node (c.args.pat.now.0).0 c.requires c.node.result.now c.node.ensures)

pub returns : goal.returns
returns c =
    let items = items_in c.args.self.now in
    let ns = c.args.self.now.nodes in
    key_read items ns pat_node (c.args.pat.now.0).0 c.requires c.node.result.now c.node.ensures
    (pattern_form c.in-Pat.kind) (ap form_of c.in-Pat.is) ∙
    ap (pattern_tree (table_meaning items ns)) refl
