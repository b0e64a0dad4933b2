use Rattle.std.proofs.Common.{subst}
use Rattle.relation_terms.specs.Heads.{clause_sort}
use Rattle.relation_terms.specs.Trees.{IsBinder}
use Rattle.reference_interner.specs.Nodes.{table_meaning}
use Rattle.reference_interner.proofs.ClauseLemmas.{predicate_clause, no_clause}
use Rattle.reference_interner.specs.Adding.{items_in}
use Rattle.reference_interner.proofs.RefInternerInterner.predicate_as_clause.Goals as goal

pub returns-in-Clause : goal.returns-in-Clause
returns-in-Clause c =
    let items = items_in c.args.self.now in
    let ns = c.args.self.now.nodes in
    predicate_clause items ns (c.args.predicate.now.0).0 c.predicate_kind.result _ c.in-Clause.is c.predicate_kind.ensures

pub returns-in_default : goal.returns-in_default
returns-in_default c =
    let items = items_in c.args.self.now in
    let ns = c.args.self.now.nodes in
    λ h.
    no_clause (table_meaning items ns) c.predicate_kind.result c.in_default.not-Clause
    (subst (λ t. IsBinder clause_sort t) c.predicate_kind.ensures h)
