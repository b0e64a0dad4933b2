use Rattle.std.proofs.Common.{◌<◌, IsTrue, Some, refl, ap, sym, ◌∙◌, subst}
use Rattle.relation_terms.specs.Trees.{known, nil}
use Rattle.relation_terms.specs.Meaning.{bound_kinds, under}
use Rattle.relation_terms.proofs.Binders.{known_under}
use Rattle.reference_interner.specs.Forms.{bound_vars_form, form_of}
use Rattle.reference_interner.specs.Nodes.{bound_vars_node, table_meaning}
use Rattle.reference_interner.proofs.TableLemmas.{key_in, key_sort, key_read, not_bound_vars, list_under}
use Rattle.reference_interner.specs.Adding.{items_in}
use Rattle.reference_interner.proofs.RefInternerInterner.bound_vars.Goals as goal

pub node-requires : goal.node-requires
node-requires c =
    let items = items_in c.args.self.now in
    let ns = c.args.self.now.nodes in
    let o = (table_meaning items ns).bound_vars c.args.bound_vars.now in
    let k : IsTrue (known (under o nil)) = known_under o nil c.requires refl in
    key_in items ns bound_vars_node (c.args.bound_vars.now.0).0 k

pub unreachable-requires : goal.unreachable-requires
unreachable-requires c =
    let items = items_in c.args.self.now in
    let ns = c.args.self.now.nodes in
    let o = (table_meaning items ns).bound_vars c.args.bound_vars.now in
    let k : IsTrue (known (under o nil)) = known_under o nil c.requires refl in
    not_bound_vars c.node.result.now c.in_default.not-BoundVars
    (key_sort items ns bound_vars_node (c.args.bound_vars.now.0).0 k c.node.result.now c.node.ensures)

pub returns : goal.returns
returns c =
    let items = items_in c.args.self.now in
    let ns = c.args.self.now.nodes in
    let m = table_meaning items ns in
    let o = m.bound_vars c.args.bound_vars.now in
    let k : IsTrue (known (under o nil)) = known_under o nil c.requires refl in
    list_under o (bound_kinds m c.in-BoundVars.list.items)
    (key_read items ns bound_vars_node (c.args.bound_vars.now.0).0 k c.node.result.now c.node.ensures
    (bound_vars_form c.in-BoundVars.list.items) (ap form_of c.in-BoundVars.is)) ∙
    ap (λ xs. Some (bound_kinds m xs)) (sym c.as_slice.ensures.value)
