-- What is demanded of numbered regions, what is known of them, and what solving answers.
--
--   IsDemanded standings asked known chosen a b   by the chosen ones of what is asked, and by what is known, a outlives b
--   IsKnown standings known a b                   by what is known alone
--   Meets standings asked known values            of given regions nothing else is demanded; the values are what each
--                                                 variable has to outlive
--   Refutes standings asked known a b by          these that are asked make a outlive b, though that isn't known
use Rattle.std.specs.Prelude.{◌≡◌, ℕ, ◌<◌, List, All, length, get_or, Contains}
use Rattle.relation_regions.specs.declared.building.Pairs.{Pairs}
use Rattle.relation_regions.specs.declared.standing.Standing.{Standing}
use Rattle.relation_regions.specs.declared.decide.Decision.{Decision}
use Rattle.relation_regions.specs.declared.decide.Decision.TheVariants.{Met, Unmet}
use Rattle.relation_regions.specs.Standings.{IsBeyond, Any, Among}
use Rattle.relation_regions.specs.Deciding.{IsGiven, IsVariable}

-- What outlives what by the chosen ones of the pairs that are asked, and by those that are known: the least relation
-- with them, reflexive and transitive, in which 'static, the region 0, outlives all, and what outlives a placeholder that
-- its universe can't name outlives 'static.
pub data IsDemanded (standings : List Standing) (asked known : Pairs) (chosen : ℕ → Type 0) : ℕ → ℕ → Type 0 where
  by_asked : {a b : ℕ} (k : ℕ) → k < length asked.shorter.items → chosen k → get_or asked.longer.items k 0 ≡ a →
      get_or asked.shorter.items k 0 ≡ b → IsDemanded standings asked known chosen a b
  by_known : {a b : ℕ} (k : ℕ) → k < length known.shorter.items → get_or known.longer.items k 0 ≡ a →
      get_or known.shorter.items k 0 ≡ b → IsDemanded standings asked known chosen a b
  from_static : {a b : ℕ} → a ≡ 0 → b < length standings → IsDemanded standings asked known chosen a b
  by_universe : {a b : ℕ} (p : ℕ) → b ≡ 0 → IsBeyond standings a p → IsDemanded standings asked known chosen a p →
      IsDemanded standings asked known chosen a b
  itself : {a b : ℕ} → a ≡ b → IsDemanded standings asked known chosen a b
  through : {a b c : ℕ} → IsDemanded standings asked known chosen a b → IsDemanded standings asked known chosen b c →
      IsDemanded standings asked known chosen a c

-- What outlives what by the known pairs alone: the least relation with them, reflexive and transitive, in which 'static
-- outlives all.
pub data IsKnown (standings : List Standing) (known : Pairs) : ℕ → ℕ → Type 0 where
  is_stated : {a b : ℕ} (k : ℕ) → k < length known.shorter.items → get_or known.longer.items k 0 ≡ a →
      get_or known.shorter.items k 0 ≡ b → IsKnown standings known a b
  static_first : {a b : ℕ} → a ≡ 0 → b < length standings → IsKnown standings known a b
  is_itself : {a b : ℕ} → a ≡ b → IsKnown standings known a b
  goes_through : {a b c : ℕ} → IsKnown standings known a b → IsKnown standings known b c → IsKnown standings known a c

module _ (standings : List Standing) (asked known : Pairs) where
  -- Of given regions just what is known is demanded; of a variable the values are the given regions that it has to
  -- outlive.
  pub record Meets (values : List (ℕ × ℕ)) : Type 0 where
    pub all_known : (a b : ℕ) → IsGiven standings a → IsGiven standings b →
        IsDemanded standings asked known Any a b → IsKnown standings known a b
    pub each : (a b : ℕ) → IsVariable standings a → IsGiven standings b → IsDemanded standings asked known Any a b →
        Contains values (a, b)
    pub only : (a b : ℕ) → Contains values (a, b) →
        IsVariable standings a × IsGiven standings b × IsDemanded standings asked known Any a b

  -- One given region has to outlive another one by some pairs that are asked, though that isn't known.
  pub record Refutes (longer shorter : ℕ) (by : List ℕ) : Type 0 where
    pub longer_given : IsGiven standings longer
    pub shorter_given : IsGiven standings shorter
    pub asked_for : All (λ k. k < length asked.shorter.items) by
    pub demanded : IsDemanded standings asked known (Among by) longer shorter
    pub unknown : IsKnown standings known longer shorter → ⊥

  -- After `Met` the one holds, after `Unmet` the other.
  abbrev pub IfMet : Decision → Type 0
  IfMet (Met values) = Meets values.items
  IfMet (Unmet longer shorter by) = Unit {0}

  abbrev pub IfUnmet : Decision → Type 0
  IfUnmet (Met values) = Unit {0}
  IfUnmet (Unmet longer shorter by) = Refutes longer shorter by.items
