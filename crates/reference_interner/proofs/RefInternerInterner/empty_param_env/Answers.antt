use Rattle.std.proofs.Common.{◌≡◌, ◌∙◌, ap, subst, sym, refl, IsTrue}
use Rattle.std.proofs.lemmas.Bool.{false≢true}
use Rattle.relation_terms.specs.Heads.{environment}
use Rattle.relation_terms.specs.Trees.{known, node, nil, list_tree}
use Rattle.reference_interner.specs.Nodes.{clauses_node, table_meaning}
use Rattle.reference_interner.specs.Laws.{env_reads}
use Rattle.reference_interner.specs.declared.node.Node.TheVariants.{Clauses}
use Rattle.reference_interner.proofs.ClauseLemmas.{env_stands}
use Rattle.reference_interner.proofs.OnceLemmas.{grows, made, same_meaning}
use Rattle.reference_interner.specs.Adding.{items_in}
use Rattle.reference_interner.proofs.RefInternerInterner.empty_param_env.Goals as goal

pub returns-clause-grown : goal.returns-clause-grown
returns-clause-grown c =
    let items = items_in c.args.self.now in
    let ns = c.args.self.now.nodes in
    let more = items_in c.intern.new.self in
    let ms = c.intern.new.self.nodes in
    grows items ns more ms (Clauses c.new.result)
    c.in_ok-number.ensures.items c.in_ok-number.ensures.added

pub returns-clause-made : goal.returns-clause-made
returns-clause-made c =
    let items = items_in c.args.self.now in
    let ns = c.args.self.now.nodes in
    let more = items_in c.intern.new.self in
    let ms = c.intern.new.self.nodes in
    let read = list_tree (table_meaning items ns).clause in
    let i = (c.in_ok-number.number).0 in
    env_reads more ms i ∙
    ap (node environment) (made more ms clauses_node (read c.new.result.items) i c.in_ok-number.ensures.number ∙
    ap read c.new.ensures.items)

pub returns-clause-sure : goal.returns-clause-sure
returns-clause-sure c = subst (λ t. IsTrue (known t)) (sym (returns-clause-made c)) refl

pub returns-clause-there : goal.returns-clause-there
returns-clause-there c =
    let items = items_in c.args.self.now in
    let ns = c.args.self.now.nodes in
    let more = items_in c.intern.new.self in
    let ms = c.intern.new.self.nodes in
    let read = list_tree (table_meaning items ns).clause in
    let same : read c.new.result.items ≡ nil = ap read c.new.ensures.items in
    let sure : IsTrue (known (read c.new.result.items)) = subst (λ t. IsTrue (known t)) (sym same) refl in
    λ k e.
    let at = env_stands items ns (k.0).0 (read c.new.result.items) sure (e ∙ ap (node environment) (sym same)) in (
      refl,
      same_meaning items ns more ms c.in_ok-number.ensures.items
          (c.in_ok-number.ensures.there (k.0).0 at).1,
    )

pub returns-in_err-number-clause-there : goal.returns-in_err-number-clause-there
returns-in_err-number-clause-there c =
    let items = items_in c.args.self.now in
    let ns = c.args.self.now.nodes in
    let read = list_tree (table_meaning items ns).clause in
    let same : read c.new.result.items ≡ nil = ap read c.new.ensures.items in
    let sure : IsTrue (known (read c.new.result.items)) = subst (λ t. IsTrue (known t)) (sym same) refl in
    λ k e.
    let at = env_stands items ns (k.0).0 (read c.new.result.items) sure (e ∙ ap (node environment) (sym same)) in
    absurd (false≢true (c.in_err-number.ensures.there (k.0).0 at).0)
