-- Which members of a list are gone into, place by place, and which places are looked at.
use Rattle.std.specs.Prelude.{◌-◌, ℕ, min, Bool, drop}
use Rattle.relation_terms.specs.Trees.{Tree, node}
use Rattle.relation_terms.specs.Meaning.{Meaning}
use Rattle.relation_terms.specs.Orders.{place_at, list_order}
use Rattle.relation_terms.specs.Parts.{part_tree}
use Rattle.relation_terms.specs.declared.terms.part_kind.Part.{Part}
use Rattle.relation_terms.specs.declared.terms.part_kind.Parts.{Parts}
use Rattle.component_parts.specs.Components.{Choice, every, no_member, no_region, last_types, not_bivariant, alias_choice, choice_of, takes}
use Rattle.component_parts.specs.declared.Chosen.{Chosen}
use Rattle.component_parts.specs.declared.Chosen.TheVariants.{Every, NoMember, NoRegion, LastTypes, NotBivariant}

-- What is chosen of the parts of a type.
abbrev pub choice_in : Tree → Choice
choice_in (node h ts) = choice_of h
choice_in t = every

-- The same choice, of the list behind its first so many members.
abbrev pub behind_all : ℕ → Choice → Choice
behind_all i (not_bivariant vs) = not_bivariant (drop i vs)
behind_all i c = c

-- How many of so many places are looked at: no member at another is chosen.
abbrev pub places_count : {Id : Type 0} → Chosen Id → ℕ → ℕ
places_count NoMember n = 0
places_count (LastTypes k) n = min k n
places_count c n = n

-- Of `n` places, the one that is looked at behind `k` others: of the last types the last one comes first.
abbrev pub chosen_at : {Key Id : Type 0} → Chosen Id → Parts Key Id → ℕ → ℕ → ℕ
chosen_at (LastTypes p) ps n k = n - 1 - k
chosen_at c ps n k = place_at (list_order ps) n k

module _ {Key Id Name : Type 0} (m : Meaning Key Id Name) where
  -- The choice in the code, as one of a tree's parts.
  abbrev pub meant : Chosen Id → Choice
  meant Every = every
  meant NoMember = no_member
  meant NoRegion = no_region
  meant (LastTypes n) = last_types n
  meant (NotBivariant d) = alias_choice (m.alias_variances (m.id d.0))

  -- The part, which stands before such a list, is chosen at a place.
  abbrev pub takes_part : Chosen Id → ℕ → Part Key Id → Tree → Bool
  takes_part c i p ts = takes (behind_all i (meant c)) (part_tree m p) ts
