-- Which trait a clause is of.
use Rattle.std.specs.Prelude.{◌≡◌, ℕ, Option, None, option_map}
use Rattle.relation_terms.specs.Heads.{Head, trait_ref, trait_clause}
use Rattle.relation_terms.specs.Trees.{Tree, node, bind}
use Rattle.relation_terms.specs.Meaning.{Meaning}
use Rattle.relation_terms.specs.declared.terms.binder.Binder.{Binder}
use Rattle.relation_terms.specs.declared.predicate.trait_ref.TraitRef.{TraitRef}
use Rattle.relation_statements.specs.Children.{trait_of}

-- The trait that a clause of a form over parts is of, in any polarity, and its arguments.
abbrev pub said_of : Head → Tree → Option (ℕ × Tree)
said_of (trait_clause p) ts = trait_of ts
said_of h ts = None

-- The trait reference of a trait clause, under the clause's binder.
abbrev pub reference_of : Tree → Option Tree
reference_of (bind ks (node h ts)) = option_map (λ t. bind ks (node (trait_ref t.0) t.1)) (said_of h ts)
reference_of t = None

-- The trait that it names.
abbrev pub trait_named : Tree → Option ℕ
trait_named (bind ks (node h ts)) = option_map (λ t. t.0) (said_of h ts)
trait_named t = None

-- The trait of a trait reference, by its number.
abbrev pub trait_number : {Key Id Name : Type 0} → Meaning Key Id Name → Binder Key (TraitRef Key Id) → ℕ
trait_number m b = m.id ((b.value).def_id).0

-- The trait reference, where there is one, names the trait that the clause does.
abbrev pub NamesTrait : {Key Id Name : Type 0} → Meaning Key Id Name → Option (Binder Key (TraitRef Key Id)) →
    Tree → Type 0
NamesTrait m b clause = option_map (trait_number m) b ≡ trait_named clause
