-- What can be said of the regions of a context, by its solutions.
use Rattle.std.specs.Prelude.{ℕ, ◌<◌, List, All, length, Contains}
use Rattle.std.specs.List.{HoldsAt}
use Rattle.relation_terms.specs.Trees.{Tree, Assign, apply}
use Rattle.relation_semantics.specs.Relation.{Interpretation, Outlives}
use Rattle.relation_semantics.specs.Stores.{Store, ConstraintHolds}
use Rattle.relation_regions.specs.Worlds.{IsGiven, IsVariable, FactsSay, IsWorld, IsSolution}

module _ (facts : List (Tree × Tree)) (st : Store) where
  -- There is a solution.
  abbrev pub HasSolution : Type 0
  HasSolution = (w : Interpretation) × ((s : Assign) × IsSolution facts st w s)

  -- In every solution the one outlives the other.
  abbrev pub AlwaysOutlives : Tree → Tree → Type 0
  AlwaysOutlives a b = (w : Interpretation) (s : Assign) → IsSolution facts st w s → Outlives w (apply s a) (apply s b)

  -- Pairs of a variable and a given region that it always outlives, and all of these.
  pub record AreLeast (values : List (Tree × Tree)) : Type 0 where
    pub all : (a b : Tree) → IsVariable facts st a → IsGiven facts st b → AlwaysOutlives a b → Contains values (a, b)
    pub only : (a b : Tree) → Contains values (a, b) →
        IsVariable facts st a × IsGiven facts st b × AlwaysOutlives a b

  -- In every world these constraints make the one given region outlive the other, though the facts don't say so.
  pub record IsUnmetBy (longer shorter : Tree) (by : List ℕ) : Type 0 where
    pub longer_given : IsGiven facts st longer
    pub shorter_given : IsGiven facts st shorter
    pub recorded : All (λ i. i < length st.constraints) by
    pub forced : (w : Interpretation) (s : Assign) → IsWorld facts st w s →
        ((i : ℕ) → Contains by i → HoldsAt (ConstraintHolds w s) st.constraints i) → Outlives w longer shorter
    pub unsaid : FactsSay facts longer shorter → ⊥
