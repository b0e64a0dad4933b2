use Rattle.std.proofs.Common.{sym, ap₂, ◌∙◌, subst, IsTrue}
use Rattle.relation_terms.specs.Trees.{known}
use Rattle.relation_terms.specs.Meaning.{under}
use Rattle.relation_terms.proofs.Predicates.{stays_clause_kind}
use Rattle.text_clauses.proofs.building.making.make_clause.Goals as goal

pub mk_clause-requires : goal.mk_clause-requires
mk_clause-requires g c =
    let e = ap₂ under c.in-Ok.ensures.made (stays_clause_kind c.mk_bound_vars.ensures.grown c.args.value c.requires)
    in
    subst (λ t. IsTrue (known t)) (sym e) c.requires

pub returns-in-Ok-mk_clause-clause-made : goal.returns-in-Ok-mk_clause-clause-made
returns-in-Ok-mk_clause-clause-made g c =
    let e = ap₂ under c.in-Ok.ensures.made (stays_clause_kind c.mk_bound_vars.ensures.grown c.args.value c.requires)
    in
    (c.in-Ok-mk_clause.ensures.sure, c.in-Ok-mk_clause.ensures.made ∙ e)
