-- What regions are, and what is forced among numbered ones.
use Rattle.std.specs.Prelude.{◌≡◌, ℕ, ◌<◌, Bool, true, false, nat_lt, List, length, get_or, IsTrue, Contains}
use Rattle.relation_regions.specs.declared.standing.Standing.{Standing}
use Rattle.relation_regions.specs.declared.standing.Standing.TheVariants.{Named, Placeholder, Variable}

-- No variable.
abbrev pub is_given : Standing → Bool
is_given Named = true
is_given (Placeholder u) = true
is_given (Variable u) = false

-- A placeholder.
abbrev pub is_placeholder : Standing → Bool
is_placeholder Named = false
is_placeholder (Placeholder u) = true
is_placeholder (Variable u) = false

-- A placeholder that a variable's universe can't name.
abbrev pub is_beyond : Standing → Standing → Bool
is_beyond (Variable u) (Placeholder v) = nat_lt u v
is_beyond (Variable u) Named = false
is_beyond (Variable u) (Variable v) = false
is_beyond Named p = false
is_beyond (Placeholder u) p = false

-- What the region of a number is.
abbrev pub standing_of : List Standing → ℕ → Standing
standing_of standings a = get_or standings a Named

-- One region is a variable that can't name another.
abbrev pub IsBeyond : List Standing → ℕ → ℕ → Type 0
IsBeyond standings a p = IsTrue (is_beyond (standing_of standings a) (standing_of standings p))

-- What outlives what by edges, of those before `asked` the chosen ones: the least relation with them, reflexive and
-- transitive, in which what outlives a placeholder that it can't name outlives the region 0, which is 'static.
pub data IsForced (from to : List ℕ) (asked : ℕ) (standings : List Standing) (chosen : ℕ → Type 0) :
    ℕ → ℕ → Type 0 where
  by_edge : {a b : ℕ} (i : ℕ) → i < length to → (i < asked → chosen i) → get_or from i 0 ≡ a → get_or to i 0 ≡ b →
      IsForced from to asked standings chosen a b
  by_universe : {a b : ℕ} (p : ℕ) → b ≡ 0 → IsBeyond standings a p → IsForced from to asked standings chosen a p →
      IsForced from to asked standings chosen a b
  itself : {a b : ℕ} → a ≡ b → IsForced from to asked standings chosen a b
  through : {a b c : ℕ} → IsForced from to asked standings chosen a b → IsForced from to asked standings chosen b c →
      IsForced from to asked standings chosen a c

-- Any edge.
abbrev pub Any : ℕ → Type 0
Any i = Unit {0}

-- One of a list.
abbrev pub Among : List ℕ → ℕ → Type 0
Among list i = Contains list i
