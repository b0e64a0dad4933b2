use Rattle.std.proofs.Common.{IsTrue, ap, sym, ◌∙◌, subst}
use Rattle.relation_terms.specs.Trees.{known}
use Rattle.relation_terms.specs.Flags.{flags_of}
use Rattle.reference_interner.specs.Nodes.{predicate_node}
use Rattle.reference_interner.proofs.ClauseLemmas.{clause_predicate}
use Rattle.reference_interner.specs.Adding.{items_in}
use Rattle.reference_interner.proofs.flags.predicates.ClauseKeyNodeKeyFlagged.flags.Goals as goal

pub kept_flags-requires : goal.kept_flags-requires
kept_flags-requires c =
    let q = clause_predicate (items_in c.args.cx.now) c.args.cx.now.nodes (c.args.self.now.0).0 c.requires in
    (predicate_node, subst (λ t. IsTrue (known t)) (sym q) c.requires)

pub returns : goal.returns
returns c =
    let q = clause_predicate (items_in c.args.cx.now) c.args.cx.now.nodes (c.args.self.now.0).0 c.requires in
    c.kept_flags.ensures predicate_node (subst (λ t. IsTrue (known t)) (sym q) c.requires) ∙ ap flags_of q
