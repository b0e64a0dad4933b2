use Rattle.std.proofs.Common.{subst, sym, refl, IsTrue}
use Rattle.std.proofs.lemmas.Bool.{false≢true}
use Rattle.relation_terms.specs.Trees.{known}
use Rattle.relation_terms.specs.Meaning.{region_tree}
use Rattle.relation_terms.proofs.Sorted.{region_known}
use Rattle.reference_interner.specs.Nodes.{region_node, table_meaning}
use Rattle.reference_interner.specs.declared.node.Node.TheVariants.{Region}
use Rattle.reference_interner.proofs.OnceLemmas.{grows, made, stands, same_meaning}
use Rattle.reference_interner.specs.Adding.{items_in}
use Rattle.reference_interner.proofs.RefInternerInterner.mk_region.Goals as goal

pub returns-clause-grown : goal.returns-clause-grown
returns-clause-grown c =
    let items = items_in c.args.self.now in
    let ns = c.args.self.now.nodes in
    let more = items_in c.intern.new.self in
    let ms = c.intern.new.self.nodes in
    grows items ns more ms (Region c.args.kind)
    c.in_ok-number.ensures.items c.in_ok-number.ensures.added

pub returns-clause-made : goal.returns-clause-made
returns-clause-made c =
    let items = items_in c.args.self.now in
    let ns = c.args.self.now.nodes in
    let more = items_in c.intern.new.self in
    let ms = c.intern.new.self.nodes in
    made more ms region_node (region_tree (table_meaning items ns) c.args.kind)
    (c.in_ok-number.number).0 c.in_ok-number.ensures.number

pub returns-clause-sure : goal.returns-clause-sure
returns-clause-sure c =
    let items = items_in c.args.self.now in
    let ns = c.args.self.now.nodes in
    subst (λ t. IsTrue (known t)) (sym (returns-clause-made c)) (region_known (table_meaning items ns) c.args.kind)

pub returns-clause-there : goal.returns-clause-there
returns-clause-there c =
    let items = items_in c.args.self.now in
    let ns = c.args.self.now.nodes in
    let more = items_in c.intern.new.self in
    let ms = c.intern.new.self.nodes in
    λ k e.
    let at = stands items ns region_node (region_tree (table_meaning items ns) c.args.kind)
    (k.0).0 (region_known (table_meaning items ns) c.args.kind) e in (
      refl,
      same_meaning items ns more ms c.in_ok-number.ensures.items
          (c.in_ok-number.ensures.there (k.0).0 at).1,
    )

pub returns-in_err-number-clause-there : goal.returns-in_err-number-clause-there
returns-in_err-number-clause-there c =
    let items = items_in c.args.self.now in
    let ns = c.args.self.now.nodes in
    λ k e.
    let at = stands items ns region_node (region_tree (table_meaning items ns) c.args.kind)
    (k.0).0 (region_known (table_meaning items ns) c.args.kind) e in
    absurd (false≢true (c.in_err-number.ensures.there (k.0).0 at).0)
