use Rattle.std.proofs.Common.{◌≡◌, ◌∙◌, ap, sym, refl, Some}
use Rattle.relation_terms.specs.Trees.{bind, nil}
use Rattle.relation_terms.specs.Meaning.{bound_kinds, under}
use Rattle.reference_interner.specs.Nodes.{bound_vars_node, table_meaning}
use Rattle.reference_interner.specs.declared.node.Node.TheVariants.{BoundVars}
use Rattle.reference_interner.proofs.TableLemmas.{list_under}
use Rattle.reference_interner.proofs.OnceLemmas.{grows, made, stands, same_meaning}
use Rattle.reference_interner.specs.Adding.{items_in}
use Rattle.reference_interner.proofs.RefInternerInterner.mk_bound_vars.Goals as goal

pub returns-clause-grown : goal.returns-clause-grown
returns-clause-grown c =
    let items = items_in c.args.self.now in
    let ns = c.args.self.now.nodes in
    let more = items_in c.intern.new.self in
    let ms = c.intern.new.self.nodes in
    grows items ns more ms (BoundVars c.in_ok-list.list)
    c.in_ok-number.ensures.items c.in_ok-number.ensures.added

pub returns-clause-made : goal.returns-clause-made
returns-clause-made c =
    let items = items_in c.args.self.now in
    let ns = c.args.self.now.nodes in
    let more = items_in c.intern.new.self in
    let ms = c.intern.new.self.nodes in
    let m = table_meaning items ns in
    let ks = bound_kinds m c.in_ok-list.list.items in
    list_under ((table_meaning more ms).bound_vars (record { 0 = c.in_ok-number.number })) ks
    (made more ms bound_vars_node (bind ks nil) (c.in_ok-number.number).0 c.in_ok-number.ensures.number) ∙
    ap (λ xs. Some (bound_kinds m xs)) c.in_ok-list.ensures

pub returns-clause-there : goal.returns-clause-there
returns-clause-there c =
    let items = items_in c.args.self.now in
    let ns = c.args.self.now.nodes in
    let more = items_in c.intern.new.self in
    let ms = c.intern.new.self.nodes in
    let m = table_meaning items ns in
    let ks = bound_kinds m c.in_ok-list.list.items in
    let same : Some (bound_kinds m c.args.bound_vars.now) ≡ Some ks =
    ap (λ xs. Some (bound_kinds m xs)) (sym c.in_ok-list.ensures) in
    λ k e.
    let at = stands items ns bound_vars_node (bind ks nil) (k.0).0 refl (ap (λ o. under o nil) (e ∙ same)) in
    same_meaning items ns more ms c.in_ok-number.ensures.items
    (c.in_ok-number.ensures.there (k.0).0 at).1
