use Rattle.std.proofs.Common.{◌∙◌, ap, subst, sym, IsTrue}
use Rattle.relation_terms.specs.Trees.{known}
use Rattle.relation_terms.specs.Meaning.{under}
use Rattle.relation_terms.specs.Predicates.{predicate_kind_tree}
use Rattle.reference_interner.specs.Nodes.{table_meaning}
use Rattle.reference_interner.proofs.ClauseLemmas.{clause_predicate, clause_form}
use Rattle.reference_interner.specs.Adding.{items_in}
use Rattle.reference_interner.proofs.RefInternerInterner.clause_kind.Goals as goal

pub predicate_kind-value-requires : goal.predicate_kind-value-requires
predicate_kind-value-requires c =
    let items = items_in c.args.self.now in
    let ns = c.args.self.now.nodes in
    subst (λ t. IsTrue (known t)) (sym (clause_predicate items ns (c.args.clause.now.0).0 c.requires)) c.requires

pub unreachable-requires : goal.unreachable-requires
unreachable-requires c =
    let items = items_in c.args.self.now in
    let ns = c.args.self.now.nodes in
    clause_form items ns (c.args.clause.now.0).0 c.requires c.predicate_kind-value.result c.predicate_kind-value.ensures
    c.in_default.not-Clause

pub returns : goal.returns
returns c =
    let items = items_in c.args.self.now in
    let ns = c.args.self.now.nodes in
    let m = table_meaning items ns in
    sym (clause_predicate items ns (c.args.clause.now.0).0 c.requires) ∙ c.predicate_kind-value.ensures ∙
    ap (λ x. under (m.bound_vars c.predicate_kind-value.result.bound_vars) (predicate_kind_tree m x)) c.in-Clause.is
