-- The universe of a region variable, which has no term.
use Rattle.std.proofs.Common.{◌≡◌, ℕ, sym, ◌∙◌, ap, Some, None}
use Rattle.relation_terms.specs.declared.terms.numbers.UniverseIndex.{UniverseIndex}
use Rattle.relation_terms.specs.Heads.{region_var, variable}
use Rattle.relation_terms.specs.Trees.{Tree, leaf}
use Rattle.relation_semantics.specs.Stores.{Store, IsSound, unbound, same_as, bound_to, universe_of}
use Rattle.relation_semantics.specs.Steps.{LeadsTo, here, next}
use Rattle.relation_semantics.specs.Contexts.{Context}
use Rattle.relation_semantics.specs.ContextCalls.{HasUniverse}
use Rattle.relation_regions.specs.declared.standing.Standing.TheVariants.{Variable}
use Rattle.relation_regions.specs.Reading.{standing_in}

-- No entry leads from a region variable to another.
leads_nowhere : (st : Store) (n r : ℕ) → IsSound st → LeadsTo st region_var n r → n ≡ r
leads_nowhere st n r h (here e) = e
leads_nowhere st n r h (next {p = p} e l) =
    let f : same_as p ≡ unbound = sym e ∙ h.regions_unbound n in absurd cc

-- The universe that is answered is its own, and one is answered.
pub own_universe : {Key Id Name : Type 0} (c : Context Key Id Name) (n : ℕ) (u : UniverseIndex) → IsSound c.store →
    HasUniverse c region_var n (Some u) → u.0 ≡ universe_of c.store region_var n
own_universe c n u h (r, root, e, is) =
    is ∙ ap (universe_of c.store region_var) (sym (leads_nowhere c.store n r h root.leads))

pub some_universe : {Key Id Name : Type 0} (c : Context Key Id Name) (n : ℕ) → IsSound c.store →
    HasUniverse c region_var n None → ⊥
some_universe c n h (r, root, (t, e)) = let f : bound_to t ≡ unbound = sym e ∙ h.regions_unbound r in absurd cc

-- What a region variable counts as, by its universe.
pub variable_standing : {Key Id Name : Type 0} (c : Context Key Id Name) (t : Tree) (n : ℕ) (u : UniverseIndex) →
    IsSound c.store → t ≡ leaf (variable region_var n) → HasUniverse c region_var n (Some u) →
    Variable u.0 ≡ standing_in c.store t
variable_standing c t n u h e has = ap Variable (own_universe c n u h has) ∙ sym (ap (standing_in c.store) e)
