-- What a map finds by a key: what was kept for an equal one.
use Rattle.std.specs.Prelude.{ℕ, ◌<◌, Bool, List, length, Contains, HoldsAt, IsTrue}

-- The entry of that number has a key that equals this one.
pub record IsKeptAt {K V : Type 0} (eq : K → K → Bool) (q : K) (es : List (K × V)) (n : ℕ) : Type 0 where
  pub below : n < length es
  pub same : HoldsAt (λ e. IsTrue (eq q e.0)) es n

-- The value was kept for a key that equals this one.
pub record Finds {K V : Type 0} (eq : K → K → Bool) (q : K) (v : V) (es : List (K × V)) : Type 0 where
  pub key : K
  pub is_in : Contains es (key, v)
  pub same : IsTrue (eq q key)
