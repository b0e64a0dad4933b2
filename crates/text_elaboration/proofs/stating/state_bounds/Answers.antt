use Rattle.std.proofs.Common.{subst, map, IfSome}
use Rattle.std.specs.List.{All}
use Rattle.relation_terms.specs.Owned.{IsStatedBound}
use Rattle.reference_interner.specs.Adding.{meaning_in}
use Rattle.text_clauses.specs.Clauses.{bound_clause_tree}
use Rattle.text_elaboration.specs.Stating.{MakesBounds}
use Rattle.text_elaboration.proofs.SaidLemmas.{extends_stay, same_stay, stay_on, bounds_said_of}
use Rattle.text_elaboration.proofs.stating.state_bounds.Goals as goal

pub returns-in_err-bounds-clause-stays : goal.returns-in_err-bounds-clause-stays
returns-in_err-bounds-clause-stays c = extends_stay c.bounds_of.ensures.grown

pub returns-in_default-clause-stays : goal.returns-in_default-clause-stays
returns-in_default-clause-stays c = extends_stay c.bounds_of.ensures.grown

pub returns-clause-stays : goal.returns-clause-stays
returns-clause-stays c = stay_on (extends_stay c.bounds_of.ensures.grown) (same_stay c.set_const_bounds.ensures.terms)

pub returns-clause-stated : goal.returns-clause-stated
returns-clause-stated c h ts b d g =
    let x = c.args.cx.now in
    let z = c.bounds_of.new.cx in
    let ids = c.args.ids.now in
    let parts = c.args.parts.now in
    let said = c.args.said.now in
    let sure = subst (λ o. IfSome o (λ all. All (IsStatedBound (meaning_in z)) all.items)) c.in-Some.is
    c.in_ok-bounds.ensures.sure in
    let made = subst (MakesBounds ids parts c.args.built.now said x z) c.in-Some.is c.in_ok-bounds.ensures.made in
    bounds_said_of x z c.set_const_bounds.new.self c.args.id.0 (bound_clause_tree (map (meaning_in x).id ids) parts ts) said
    c.in-Some.bounds c.bounds_of.ensures.grown c.set_const_bounds.ensures.terms c.set_const_bounds.ensures.recorded sure
    (made ts b) d g
