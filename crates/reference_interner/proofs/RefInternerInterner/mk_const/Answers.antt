use Rattle.std.proofs.Common.{subst, sym, refl, IsTrue}
use Rattle.std.proofs.lemmas.Bool.{false≢true}
use Rattle.relation_terms.specs.Trees.{known}
use Rattle.relation_terms.specs.Meaning.{const_tree}
use Rattle.reference_interner.specs.Nodes.{const_node, table_meaning}
use Rattle.reference_interner.specs.declared.node.Node.TheVariants.{Const}
use Rattle.reference_interner.proofs.OnceLemmas.{grows, made, stands, same_meaning}
use Rattle.reference_interner.specs.Adding.{items_in}
use Rattle.reference_interner.proofs.RefInternerInterner.mk_const.Goals as goal

pub returns-clause-grown : goal.returns-clause-grown
returns-clause-grown c =
    let items = items_in c.args.self.now in
    let ns = c.args.self.now.nodes in
    let more = items_in c.intern.new.self in
    let ms = c.intern.new.self.nodes in
    grows items ns more ms (Const c.args.kind)
    c.in_ok-number.ensures.items c.in_ok-number.ensures.added

pub returns-clause-made : goal.returns-clause-made
returns-clause-made c =
    let items = items_in c.args.self.now in
    let ns = c.args.self.now.nodes in
    let more = items_in c.intern.new.self in
    let ms = c.intern.new.self.nodes in
    made more ms const_node (const_tree (table_meaning items ns) c.args.kind)
    (c.in_ok-number.number).0 c.in_ok-number.ensures.number

pub returns-clause-sure : goal.returns-clause-sure
returns-clause-sure c = subst (λ t. IsTrue (known t)) (sym (returns-clause-made c)) c.requires

pub returns-clause-there : goal.returns-clause-there
returns-clause-there c =
    let items = items_in c.args.self.now in
    let ns = c.args.self.now.nodes in
    let more = items_in c.intern.new.self in
    let ms = c.intern.new.self.nodes in
    λ k e.
    let at = stands items ns const_node (const_tree (table_meaning items ns) c.args.kind)
    (k.0).0 c.requires e in (
      refl,
      same_meaning items ns more ms c.in_ok-number.ensures.items
          (c.in_ok-number.ensures.there (k.0).0 at).1,
    )

pub returns-in_err-number-clause-there : goal.returns-in_err-number-clause-there
returns-in_err-number-clause-there c =
    let items = items_in c.args.self.now in
    let ns = c.args.self.now.nodes in
    λ k e.
    let at = stands items ns const_node (const_tree (table_meaning items ns) c.args.kind)
    (k.0).0 c.requires e in
    absurd (false≢true (c.in_err-number.ensures.there (k.0).0 at).0)
