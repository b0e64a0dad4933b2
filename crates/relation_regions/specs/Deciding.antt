-- What is decided of nodes: which given ones have to outlive which, and of which that wasn't known.
use Rattle.std.specs.Prelude.{◌≡◌, ◌⊎◌, ℕ, ◌<◌, List, All, length, get_or, Contains, IsTrue, IsFalse}
use Rattle.relation_regions.specs.declared.graph.Graph.{Graph}
use Rattle.relation_regions.specs.declared.search.Search.{Search}
use Rattle.relation_regions.specs.declared.standing.Standing.{Standing}
use Rattle.relation_regions.specs.declared.decide.Decision.{Decision}
use Rattle.relation_regions.specs.declared.decide.Decision.TheVariants.{Met, Unmet}
use Rattle.relation_regions.specs.Graphs.{IsGraph, IsPath, Reaches}
use Rattle.relation_regions.specs.Searches.{IsFound}
use Rattle.relation_regions.specs.Standings.{is_given, standing_of, IsForced, Any, Among}

-- The second list has all that the first has, and like it none but edges that are asked for.
pub record Adds (asked : ℕ) (old new : List ℕ) : Type 0 where
  pub kept : (i : ℕ) → Contains old i → Contains new i
  pub asked_for : All (λ i. i < asked) old → All (λ i. i < asked) new

-- Each of the first edges of a path that is asked for is one of a list.
abbrev pub HasAsked : ℕ → List ℕ → ℕ → List ℕ → Type 0
HasAsked asked path bound by = (k : ℕ) → k < bound → get_or path k 0 < asked → Contains by (get_or path k 0)

-- Some path leads from a node to another, and a list has those of its edges that are asked for.
pub record HasAskedPath (g : Graph) (asked a b : ℕ) (by : List ℕ) : Type 0 where
  pub path : List ℕ
  pub leads : IsPath g.from.items g.to.items path a b
  pub has : HasAsked asked path (length path) by

-- What an edge of the widened graph says is forced.
abbrev pub EdgeIsForced : Graph → Graph → ℕ → List Standing → (ℕ → Type 0) → ℕ → Type 0
EdgeIsForced g w asked standings chosen i =
    IsForced g.from.items g.to.items asked standings chosen (get_or w.from.items i 0) (get_or w.to.items i 0)

-- A node that is no variable.
abbrev pub IsGiven : List Standing → ℕ → Type 0
IsGiven standings a = (a < length standings) × IsTrue (is_given (standing_of standings a))

-- A node that is a variable.
abbrev pub IsVariable : List Standing → ℕ → Type 0
IsVariable standings a = (a < length standings) × IsFalse (is_given (standing_of standings a))

-- A given node was found, but isn't known.
pub record IsUnknown (standings : List Standing) (found known : Search) (a : ℕ) : Type 0 where
  pub given : IsGiven standings a
  pub reaches : IsFound found a
  pub unknown : IsFound known a → ⊥

-- Each given node below a bound that was found is known.
abbrev pub AllKnown : List Standing → Search → Search → ℕ → Type 0
AllKnown standings found known bound = (a : ℕ) → a < bound → IsTrue (is_given (standing_of standings a)) →
    IsFound found a → IsFound known a

-- Pairs with a target were added: just the variables below a bound that were found.
pub record AreValuesTo (standings : List Standing) (found : Search) (target : ℕ) (old new : List (ℕ × ℕ)) (bound : ℕ) :
    Type 0 where
  pub kept : (p : ℕ × ℕ) → Contains old p → Contains new p
  pub each : (a : ℕ) → a < bound → IsFalse (is_given (standing_of standings a)) → IsFound found a →
      Contains new (a, target)
  pub only : (a b : ℕ) → Contains new (a, b) →
      Contains old (a, b) ⊎ ((b ≡ target) × IsVariable standings a × IsFound found a)

-- Pairs with the given nodes below a bound: just the variables that reach these.
pub record AreValues (w : Graph) (standings : List Standing) (bound : ℕ) (values : List (ℕ × ℕ)) : Type 0 where
  pub each : (a b : ℕ) → b < bound → IsGiven standings b → IsVariable standings a → Reaches w a b →
      Contains values (a, b)
  pub only : (a b : ℕ) → Contains values (a, b) → IsVariable standings a × IsGiven standings b × Reaches w a b

-- Each given node that was found was known to reach the target.
abbrev pub KnowsFound : Graph → List Standing → Search → ℕ → Type 0
KnowsFound known standings found target = (a : ℕ) → IsGiven standings a → IsFound found a → Reaches known a target

-- A given node was found that wasn't.
pub record IsFoundAgainst (known : Graph) (standings : List Standing) (found : Search) (target a : ℕ) : Type 0 where
  pub given : IsGiven standings a
  pub reaches : IsFound found a
  pub unknown : Reaches known a target → ⊥

-- One more target: the given nodes that reach it were known to, and pairs with it were added, just of the variables that
-- reach it; none where it is a variable itself.
pub record IsPassed (known w : Graph) (standings : List Standing) (target : ℕ) (old new : List (ℕ × ℕ)) : Type 0 where
  pub known_to : (a : ℕ) → IsGiven standings target → IsGiven standings a → Reaches w a target → Reaches known a target
  pub kept : (p : ℕ × ℕ) → Contains old p → Contains new p
  pub each : (a : ℕ) → IsGiven standings target → IsVariable standings a → Reaches w a target → Contains new (a, target)
  pub only : (a b : ℕ) → Contains new (a, b) → Contains old (a, b) ⊎
      ((b ≡ target) × IsGiven standings target × IsVariable standings a × Reaches w a target)

-- A given node reaches another one, though that isn't known.
pub record IsAgainst (known w : Graph) (standings : List Standing) (target a : ℕ) : Type 0 where
  pub longer_given : IsGiven standings a
  pub shorter_given : IsGiven standings target
  pub reaches : Reaches w a target
  pub unknown : Reaches known a target → ⊥

-- What is known of the targets below one.
pub record IsDecidedTo (known w : Graph) (standings : List Standing) (target : ℕ) (values : List (ℕ × ℕ)) : Type 0 where
  pub known_to : (a b : ℕ) → b < target → IsGiven standings a → IsGiven standings b → Reaches w a b → Reaches known a b
  pub values_to : AreValues w standings target values

-- What is forced, by all that is asked.
abbrev pub Forced : Graph → ℕ → List Standing → ℕ → ℕ → Type 0
Forced g asked standings a b = IsForced g.from.items g.to.items asked standings Any a b

-- What is forced comes by the edges of a graph.
pub record ByEdges (g : Graph) (asked : ℕ) (standings : List Standing) : Type 0 where
  pub by : Graph
  pub graph : IsGraph by
  pub nodes : length by.latest.items ≡ length standings
  pub reached : (a b : ℕ) → Forced g asked standings a b → Reaches by a b
  pub forced : (a b : ℕ) → Reaches by a b → Forced g asked standings a b

-- Of given nodes just what is known is forced. What is forced comes by finitely many edges; of a variable the values
-- are the given nodes that it is forced to outlive.
pub record IsMet (known g : Graph) (asked : ℕ) (standings : List Standing) (values : List (ℕ × ℕ)) : Type 0 where
  pub all_known : (a b : ℕ) → IsGiven standings a → IsGiven standings b → Forced g asked standings a b →
      Reaches known a b
  pub edges : ByEdges g asked standings
  pub each : (a b : ℕ) → IsVariable standings a → IsGiven standings b → Forced g asked standings a b →
      Contains values (a, b)
  pub only : (a b : ℕ) → Contains values (a, b) →
      IsVariable standings a × IsGiven standings b × Forced g asked standings a b

-- One given node is forced to outlive another one by some of what is asked, though that isn't known.
pub record IsUnmet (known g : Graph) (asked : ℕ) (standings : List Standing) (longer shorter : ℕ) (by : List ℕ) :
    Type 0 where
  pub longer_given : IsGiven standings longer
  pub shorter_given : IsGiven standings shorter
  pub asked_for : All (λ i. i < asked) by
  pub forced : IsForced g.from.items g.to.items asked standings (Among by) longer shorter
  pub unknown : Reaches known longer shorter → ⊥

abbrev pub IsDecision : Graph → Graph → ℕ → List Standing → Decision → Type 0
IsDecision known g asked standings (Met values) = IsMet known g asked standings values.items
IsDecision known g asked standings (Unmet longer shorter by) = IsUnmet known g asked standings longer shorter by.items
