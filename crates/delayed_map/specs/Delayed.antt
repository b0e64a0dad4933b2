-- Delayed collections: how many of the first insertions were let go, and what was kept of those after them.
use Rattle.std.specs.Prelude.{◌≡◌, ℕ, Bool, List, Some, not, is_some, cond, ◌||◌, refl}
use Rattle.std.specs.Coded.{Coded, code_by, coded×, coded_ℕ, coded_list}
use Rattle.std.specs.List.{list_any}
use Rattle.std.specs.Map.{lookup}

-- How many insertions were let go, and what was kept.
pub record Delayed (X : Type 0) : Type 0 where
  pub ignored : ℕ
  pub kept : List X

-- It is stored as the pair of its fields.
abbrev pub delayed_code : {X : Type 0} → Coded X → Coded (Delayed X)
delayed_code {X} x = code_by (ℕ × List X) (coded× coded_ℕ (coded_list x)) (λ d. (d.ignored, d.kept))
    (λ p. record { ignored = p.0; kept = p.1 }) (λ _. refl)

-- The answer says whether no value is kept for the key.
abbrev pub TellsNewKey : {K V : Type 0} → (K → K → Bool) → K → Delayed (K × V) → Bool → Type 0
TellsNewKey eq key before answer = answer ≡ not (is_some (lookup (eq key) before.kept))

-- A look-up finds the new value by the new key, and by each other key what it found before.
abbrev pub PutsValue : {K V : Type 0} → (K → K → Bool) → K → V → Delayed (K × V) → Delayed (K × V) → Type 0
PutsValue {K} eq key value before after =
    (k : K) → lookup (eq k) after.kept ≡ cond (eq key k) (Some value) (lookup (eq k) before.kept)

-- The answer says whether no member equals the value.
abbrev pub TellsNew : {T : Type 0} → (T → T → Bool) → T → Delayed T → Bool → Type 0
TellsNew eq value before answer = answer ≡ not (list_any (eq value) before.kept)

-- What equals the new value is a member, and all else where it was one before.
abbrev pub PutsMember : {T : Type 0} → (T → T → Bool) → T → Delayed T → Delayed T → Type 0
PutsMember {T} eq value before after =
    (k : T) → list_any (eq k) after.kept ≡ eq value k || list_any (eq k) before.kept
