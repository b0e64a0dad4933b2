use Rattle.std.proofs.Common.{◌≡◌, ◌∙◌, sym, subst, ap, None}
use Rattle.relation_terms.specs.Meaning.{under}
use Rattle.relation_terms.specs.Predicates.{clause_kind_tree}
use Rattle.relation_terms.specs.declared.predicate.kinds.ClauseKind.TheVariants.{Trait}
use Rattle.relation_statements.specs.TraitClauses.{reference_of, trait_named}
use Rattle.relation_statements.proofs.TraitClauses.{reference_is, name_is, reference_sure, no_reference, no_name}
use Rattle.relation_statements.proofs.trait_clauses.trait_reference.Goals as goal

pub returns-in-Trait : goal.returns-in-Trait
returns-in-Trait g c =
    let m = g.I.Interner.meaning c.args.cx.now in
    let b = c.clause_kind-value.result.bound_vars in
    let p = c.in-Trait.predicate in
    let t = m.clause c.args.clause.now in
    let is : t ≡ under (m.bound_vars b) (clause_kind_tree m (Trait p)) = c.clause_kind-value.ensures ∙
    ap (λ x. under (m.bound_vars b) (clause_kind_tree m x)) c.in-Trait.is in
    record {
      is = reference_is m b p t is c.requires;
      sure = reference_sure m b p t is c.requires;
      names = name_is m b p t is c.requires;
    }

pub returns-in_default : goal.returns-in_default
returns-in_default g c =
    let m = g.I.Interner.meaning c.args.cx.now in
    let k = c.clause_kind-value.result in
    let is = c.clause_kind-value.ensures in
    record {
      is = subst (λ z. None ≡ reference_of z) (sym is)
          (no_reference m k.value c.in_default.not-Trait (m.bound_vars k.bound_vars));
      sure = tt;
      names = subst (λ z. None ≡ trait_named z) (sym is)
          (no_name m k.value c.in_default.not-Trait (m.bound_vars k.bound_vars));
    }
