use Rattle.std.proofs.Common.{◌≡◌, ◌∙◌, ap, subst, sym, IsTrue}
use Rattle.relation_terms.specs.Trees.{known, list_tree}
use Rattle.reference_interner.specs.Nodes.{tys_node, table_meaning}
use Rattle.reference_interner.specs.declared.node.Node.TheVariants.{Tys}
use Rattle.reference_interner.proofs.OnceLemmas.{grows, made, stands, same_meaning}
use Rattle.reference_interner.specs.Adding.{items_in}
use Rattle.reference_interner.specs.ShortLists.{members_of}
use Rattle.reference_interner.proofs.RefInternerInterner.mk_type_list.Goals as goal

pub returns-clause-grown : goal.returns-clause-grown
returns-clause-grown c =
    let items = items_in c.args.self.now in
    let ns = c.args.self.now.nodes in
    let more = items_in c.intern.new.self in
    let ms = c.intern.new.self.nodes in
    grows items ns more ms (Tys c.in_ok-list.list)
    c.in_ok-number.ensures.items c.in_ok-number.ensures.added

pub returns-clause-made : goal.returns-clause-made
returns-clause-made c =
    let items = items_in c.args.self.now in
    let ns = c.args.self.now.nodes in
    let more = items_in c.intern.new.self in
    let ms = c.intern.new.self.nodes in
    let read = (table_meaning items ns).ty in
    made more ms tys_node (list_tree read (members_of c.in_ok-list.list)) (c.in_ok-number.number).0
    c.in_ok-number.ensures.number ∙ ap (λ xs. list_tree read xs) c.in_ok-list.ensures

pub returns-clause-sure : goal.returns-clause-sure
returns-clause-sure c = subst (λ t. IsTrue (known t)) (sym (returns-clause-made c)) c.requires

pub returns-clause-there : goal.returns-clause-there
returns-clause-there c =
    let items = items_in c.args.self.now in
    let ns = c.args.self.now.nodes in
    let more = items_in c.intern.new.self in
    let ms = c.intern.new.self.nodes in
    let read = (table_meaning items ns).ty in
    let v = members_of c.in_ok-list.list in
    let same : list_tree read v ≡ list_tree read c.args.tys.now =
    ap (λ xs. list_tree read xs) c.in_ok-list.ensures in
    let sure : IsTrue (known (list_tree read v)) = subst (λ t. IsTrue (known t)) (sym same) c.requires in
    λ k e.
    let at = stands items ns tys_node (list_tree read v) (k.0).0 sure (e ∙ sym same) in
    same_meaning items ns more ms c.in_ok-number.ensures.items
    (c.in_ok-number.ensures.there (k.0).0 at).1
