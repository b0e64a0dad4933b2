-- Which methods are found for a type.
use Rattle.std.specs.Prelude.{◌≡◌, ◌⊎◌, List, Contains}
use Rattle.relation_terms.specs.Meaning.{Meaning}
use Rattle.relation_terms.specs.declared.terms.keys.TyKey.{TyKey}
use Rattle.relation_methods.specs.Methods.{MethodEntry, AreApart}
use Rattle.text_users.specs.declared.methods.GenericMethod.{GenericMethod}

-- A table has an entry for a method: its type, and the name as the value.
abbrev pub Holds : {Key Id N : Type 0} → List (MethodEntry Key Id N) → GenericMethod Key N → Type 0
Holds {Key} {Id} {N} es x = (e : MethodEntry Key Id N) × Contains es e × (e.of ≡ x.of) × (e.value ≡ x.name)

-- A method is found by its name, or its type has no instance in common with the one that is asked about.
abbrev pub IsFoundOrApart : {Key Id Name N : Type 0} → Meaning Key Id Name → TyKey Key → List N → GenericMethod Key N → Type 0
IsFoundOrApart m t names x = Contains names x.name ⊎ AreApart m (x.of).value t
