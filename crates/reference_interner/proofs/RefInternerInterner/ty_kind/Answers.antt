use Rattle.std.proofs.Common.{refl, ◌<◌, ap, sym, ◌∙◌, subst}
use Rattle.relation_terms.specs.Meaning.{kind_tree}
use Rattle.reference_interner.specs.Forms.{ty_form, form_of}
use Rattle.reference_interner.specs.Nodes.{ty_node, table_meaning}
use Rattle.reference_interner.proofs.TableLemmas.{key_in, key_sort, key_read, not_ty}
use Rattle.reference_interner.specs.Adding.{items_in}
use Rattle.reference_interner.proofs.RefInternerInterner.ty_kind.Goals as goal

pub node-requires : goal.node-requires
node-requires c =
    let items = items_in c.args.self.now in
    let ns = c.args.self.now.nodes in
    key_in items ns ty_node (c.args.ty.now.0).0 c.requires

pub unreachable-requires : goal.unreachable-requires
unreachable-requires c =
    let items = items_in c.args.self.now in
    let ns = c.args.self.now.nodes in
    not_ty c.node.result.now c.in_default.not-Ty
    (key_sort items ns ty_node (c.args.ty.now.0).0 c.requires c.node.result.now c.node.ensures)

pub returns : goal.returns
returns c =
    let items = items_in c.args.self.now in
    let ns = c.args.self.now.nodes in
    key_read items ns ty_node (c.args.ty.now.0).0 c.requires c.node.result.now c.node.ensures
    (ty_form c.in-Ty.kind) (ap form_of c.in-Ty.is) ∙
    ap (kind_tree (table_meaning items ns)) refl
