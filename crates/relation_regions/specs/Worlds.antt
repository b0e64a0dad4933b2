-- When the regions of a context can be as it was recorded, and when not.
--
--   static                    the region 'static
--   IsMentioned facts st t    it, and the regions of constraints and facts
--   IsGiven facts st t        of these what is no variable
--   FactsSay facts a b        by facts alone a outlives b
--   CannotName st n p         p has a placeholder that the universe of the region variable n can't name
--   IsWorld facts st w s      the facts hold in a world, whatever else does
--   IsExactWorld facts st w s     of given regions nothing else holds in it
--   IsSolution facts st w s   and all that was recorded does
use Rattle.std.specs.Prelude.{◌≡◌, ◌⊎◌, ℕ, List, Contains}
use Rattle.relation_terms.specs.Heads.{region_var, static_region, atom, variable}
use Rattle.relation_terms.specs.Trees.{Tree, leaf, Leaves, Assign, apply}
use Rattle.relation_semantics.specs.Relation.{Interpretation, Outlives}
use Rattle.relation_semantics.specs.Stores.{Store, Constraint, outlives_constraint, equal_constraint, IsMade, IsNamable}
use Rattle.relation_semantics.specs.Stores.{universe_of, Satisfies}
use Rattle.relation_semantics.specs.ContextCalls.{IsNotVariable}

-- The region 'static.
abbrev pub static : Tree
static = leaf (atom static_region)

-- A constraint speaks of a region.
abbrev pub IsOf : Constraint → Tree → Type 0
IsOf (outlives_constraint a b) t = (t ≡ a) ⊎ (t ≡ b)
IsOf (equal_constraint a b) t = (t ≡ a) ⊎ (t ≡ b)

-- The region 'static, and those of constraints and facts.
pub data IsMentioned (facts : List (Tree × Tree)) (st : Store) (t : Tree) : Type 0 where
  is_static : t ≡ static → IsMentioned facts st t
  by_constraint : (q : Constraint) → Contains st.constraints q → IsOf q t → IsMentioned facts st t
  by_fact : (a b : Tree) → Contains facts (a, b) → (t ≡ a) ⊎ (t ≡ b) → IsMentioned facts st t

-- By facts alone the one outlives the other: the least relation with them, reflexive and transitive, in which 'static
-- outlives all regions.
pub data FactsSay (facts : List (Tree × Tree)) : Tree → Tree → Type 0 where
  stated : {a b : Tree} → Contains facts (a, b) → FactsSay facts a b
  from_static : {a b : Tree} → a ≡ static → FactsSay facts a b
  itself : {a b : Tree} → a ≡ b → FactsSay facts a b
  through : {a b c : Tree} → FactsSay facts a b → FactsSay facts b c → FactsSay facts a c

-- A region has a placeholder that a region variable's universe can't name.
abbrev pub CannotName : Store → ℕ → Tree → Type 0
CannotName st n p = Leaves (IsNamable (universe_of st region_var n)) p → ⊥

module _ (facts : List (Tree × Tree)) (st : Store) where
  -- A region that is mentioned and no variable.
  pub record IsGiven (t : Tree) : Type 0 where
    pub mentioned : IsMentioned facts st t
    pub no_variable : IsNotVariable region_var t

  -- A region variable that is mentioned.
  pub record IsVariable (t : Tree) : Type 0 where
    pub mentioned : IsMentioned facts st t
    pub number : ℕ
    pub is : t ≡ leaf (variable region_var number)

  -- A world, by what outlives what in it, and what the variables stand for. The facts hold in it, 'static outlives all
  -- that is mentioned, and a variable outlives what it can't name only where it outlives 'static.
  pub record IsWorld (w : Interpretation) (s : Assign) : Type 0 where
    pub facts_hold : (a b : Tree) → Contains facts (a, b) → Outlives w a b
    pub longest : (t : Tree) → IsMentioned facts st t → Outlives w static (apply s t)
    pub uniform : (n : ℕ) (p : Tree) → IsMade st region_var n → CannotName st n p → Outlives w (s region_var n) p →
        Outlives w (s region_var n) static

  -- A world in which of given regions nothing holds but what the facts say.
  pub record IsExactWorld (w : Interpretation) (s : Assign) : Type 0 where
    pub world : IsWorld w s
    pub nothing_else : (a b : Tree) → IsGiven a → IsGiven b → Outlives w a b → FactsSay facts a b

  -- One in which all holds that was recorded.
  pub record IsSolution (w : Interpretation) (s : Assign) : Type 0 where
    pub exact : IsExactWorld w s
    pub satisfies : Satisfies w st s
