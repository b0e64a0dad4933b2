use Rattle.std.proofs.Common.{Some, sym, ap, ap₂, ◌∙◌, subst, IsTrue}
use Rattle.relation_terms.specs.Trees.{known}
use Rattle.relation_terms.specs.Meaning.{under, bound_kinds}
use Rattle.relation_terms.proofs.Stays.{extends_on}
use Rattle.relation_terms.proofs.Predicates.{stays_trait_ref}
use Rattle.text_terms.proofs.BuildingLemmas.{kinds_stay}
use Rattle.text_clauses.proofs.building.build_bound.Goals as goal

pub returns-clause-grown : goal.returns-clause-grown
returns-clause-grown g c = extends_on c.make_implemented.ensures.grown c.mk_bound_vars.ensures.grown

pub returns-clause-sure : goal.returns-clause-sure
returns-clause-sure g c =
    let made = c.in_ok-value.ensures.made in
    let e = ap₂ under c.in-Ok.ensures.made (stays_trait_ref c.mk_bound_vars.ensures.grown c.in_ok-value.value made.0) in
    subst (λ t. IsTrue (known t)) (sym e) made.0

pub returns-clause-made : goal.returns-clause-made
returns-clause-made g c =
    let p = g.I.Interner.meaning c.make_implemented.new.cx in
    let made = c.in_ok-value.ensures.made in
    let e = ap₂ under c.in-Ok.ensures.made (stays_trait_ref c.mk_bound_vars.ensures.grown c.in_ok-value.value made.0) in
    let variables = c.in_ok-variables.variables.items in (
      subst (λ t. IsTrue (known t)) (sym e) made.0,
      λ trees b. e ∙ ap₂ under
          (ap (λ vs. Some (bound_kinds p vs)) c.deref.ensures.value
          ∙ (ap (λ ks. Some ks) (kinds_stay c.make_implemented.ensures.grown variables)
          ∙ sym (c.in_ok-variables.ensures trees b)))
          (made.1 trees b),
    )
