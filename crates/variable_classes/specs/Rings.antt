-- Classes as rings of their members.
use Rattle.std.specs.Prelude.{◌≡◌, ℕ, suc, ◌<◌, ◌≤◌, List, length, map, get_or}
use Rattle.variable_classes.specs.declared.members.Member.{Member}
use Rattle.variable_classes.specs.Roots.{led_root}

-- What is read beyond the table.
abbrev pub no_member : Member
no_member = record { of = 0; next = 0; least = 0; count = 0 }

-- Who names a member's class, who comes next in the ring, and which member of the class that it names is the smallest.
abbrev pub of_at : List Member → ℕ → ℕ
of_at ms n = (get_or ms n no_member).of

abbrev pub next_at : List Member → ℕ → ℕ
next_at ms n = (get_or ms n no_member).next

abbrev pub least_at : List Member → ℕ → ℕ
least_at ms n = (get_or ms n no_member).least

-- The roots of all.
abbrev pub roots_of : List Member → List ℕ
roots_of ms = map (λ m. least_at ms m.of) ms

-- A member whose class is named after another; so that where it was named after the first.
abbrev pub renamed : ℕ → Member → Member
renamed into m = record { of = into; next = m.next; least = m.least; count = m.count }

abbrev pub led_on : ℕ → ℕ → Member → Member
led_on from into m = renamed (led_root from into m.of) m

-- Who names a class names itself. From it the ring goes through the places from 1 on, of which each is one member's, and
-- ends with itself.
pub record Ring (n : ℕ) (of next least place : ℕ → ℕ) : Type 0 where
  pub named : (i : ℕ) → i < n → of i < n
  pub names_itself : (i : ℕ) → i < n → of (of i) ≡ of i
  pub within : (i : ℕ) → i < n → next i < n
  pub stays : (i : ℕ) → i < n → of (next i) ≡ of i
  pub first : (i : ℕ) → i < n → of i ≡ i → place (next i) ≡ 1
  pub goes_on : (i : ℕ) → i < n → (of i ≡ i → ⊥) → place (next i) ≡ suc (place i)
  pub counted : (i : ℕ) → i < n → 1 ≤ place i
  pub last : (i : ℕ) → i < n → place i ≤ place (of i)
  pub apart : (i j : ℕ) → i < n → j < n → of i ≡ of j → place i ≡ place j → i ≡ j
  pub least_below : (i : ℕ) → i < n → least (of i) ≤ i
  pub least_in : (i : ℕ) → i < n → of (least (of i)) ≡ of i

pub record AreRings (ms : List Member) : Type 0 where
  pub place : ℕ → ℕ
  pub ring : Ring (length ms) (of_at ms) (next_at ms) (least_at ms) place
