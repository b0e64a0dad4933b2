use Rattle.std.proofs.Common.{sym, subst, ap, ◌∙◌, IsTrue}
use Rattle.relation_terms.specs.Trees.{known}
use Rattle.relation_terms.specs.Meaning.{under}
use Rattle.relation_terms.specs.Predicates.{clause_kind_tree}
use Rattle.relation_terms.proofs.Clauses.{no_trait}
use Rattle.relation_terms.proofs.predicate.trait_clause.as_trait_clause.Goals as goal

pub returns-in-Trait : goal.returns-in-Trait
returns-in-Trait g c =
    let m = g.I.Interner.meaning c.args.cx.now in
    c.clause_kind-value.ensures ∙
    ap (λ x. under (m.bound_vars c.clause_kind-value.result.bound_vars) (clause_kind_tree m x)) c.in-Trait.is

pub returns-in_default : goal.returns-in_default
returns-in_default g c =
    let m = g.I.Interner.meaning c.args.cx.now in
    λ b e.
    no_trait m c.clause_kind-value.result c.in_default.not-Trait
    (subst (λ t. IsTrue (known t)) c.clause_kind-value.ensures c.requires) b (sym c.clause_kind-value.ensures ∙ e)
