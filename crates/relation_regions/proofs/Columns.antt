-- What adding an edge does to the columns of a graph.
use borrow.Author.Count.{below_more}
use Rattle.std.proofs.Common.{◌≡◌, ℕ, ◌<◌, ◌≤◌, ◌+◌, ◌-◌, List, [], ◌∷◌, ◌++◌, length, get_or, arith, sym, ◌∙◌, ap}
use Rattle.std.proofs.Common.{refl, subst, length-append, inl, inr}
use Rattle.std.proofs.Math.ListN.{set}
use Rattle.std.proofs.lemmas.Bool.{cases_eq}
use Rattle.std.proofs.lemmas.Grind.{get_or_default_zero}
use Rattle.std.proofs.lemmas.List.{get_or_append_left, get_or_push, get_or-set_same, get_or-set_other, length-set}
use Rattle.relation_regions.specs.Graphs.{IsLatest, AreColumns}

-- One more is one longer.
pub length_more : {A : Type 0} (xs : List A) (x : A) → length (xs ++ x ∷ []) ≡ length xs + 1
length_more {A = A} xs x = omega (arith, length-append {A = A} xs (x ∷ []))

-- A column with one more number.
pub column_kept : (old new : List ℕ) (x i : ℕ) → new ≡ old ++ x ∷ [] → i < length old → get_or new i 0 ≡ get_or old i 0
column_kept old new x i is lt = ap (λ l. get_or l i 0) is ∙ get_or_append_left old (x ∷ []) 0 i lt

pub column_last : (old new : List ℕ) (x i : ℕ) → new ≡ old ++ x ∷ [] → length old ≡ i → get_or new i 0 ≡ x
column_last old new x i is e = ap (λ l. get_or l i 0) is ∙ get_or_push old x 0 i e

-- All numbers of a list are below a bound, and so is one more.
pub all_below_more : (xs : List ℕ) (x n : ℕ) → ((i : ℕ) → i < length xs → get_or xs i 0 < n) → x < n →
    (i : ℕ) → i < length (xs ++ x ∷ []) → get_or (xs ++ x ∷ []) i 0 < n
all_below_more xs x n h lt i q =
    let P : ℕ → Type 0 = λ k. get_or (xs ++ x ∷ []) k 0 < n in
    below_more P (length xs)
    (λ k r. subst (λ v. v < n) (sym (get_or_append_left xs (x ∷ []) 0 k r)) (h k r))
    (subst (λ v. v < n) (sym (get_or_push xs x 0 (length xs) refl)) lt)
    i (omega (arith, length_more xs x))

-- An edge behind those that count changes nothing.
pub latest_kept : (to : List ℕ) (x bound n h : ℕ) → bound ≤ length to → IsLatest to bound n h →
    IsLatest (to ++ x ∷ []) bound n h
latest_kept to x bound n h le l = record {
  within = l.within;
  leads = λ p. get_or_append_left to (x ∷ []) 0 (h - 1) (omega (arith, l.within)) ∙ l.leads p;
  none_later = λ j p q e. l.none_later j p q (sym (get_or_append_left to (x ∷ []) 0 j (omega arith)) ∙ e);
}

-- Nor does one that leads to another node.
pub latest_other : (to : List ℕ) (x n h : ℕ) → (n ≡ x → ⊥) → IsLatest to (length to) n h →
    IsLatest (to ++ x ∷ []) (length to + 1) n h
latest_other to x n h ne l =
    let P : ℕ → Type 0 = λ k. h ≤ k → get_or (to ++ x ∷ []) k 0 ≡ n → ⊥ in record {
      within = omega (arith, l.within);
      leads = λ p. get_or_append_left to (x ∷ []) 0 (h - 1) (omega (arith, l.within)) ∙ l.leads p;
      none_later = λ j p q. below_more P (length to)
          (λ k r u e. l.none_later k u r (sym (get_or_append_left to (x ∷ []) 0 k r) ∙ e))
          (λ u e. ne (sym e ∙ get_or_push to x 0 (length to) refl)) j q p;
    }

-- The new edge is the latest to its node.
pub latest_new : (to : List ℕ) (x : ℕ) → IsLatest (to ++ x ∷ []) (length to + 1) x (length to + 1)
latest_new to x = record {
  within = omega arith;
  leads = λ p. get_or_push to x 0 (length to + 1 - 1) (omega arith);
  none_later = λ j p q e. omega arith;
}

-- The latest edges to all nodes, after one more.
latest_all : (to latest : List ℕ) (b v : ℕ) → v ≡ length to + 1 →
    ((n : ℕ) → n < length latest → IsLatest to (length to) n (get_or latest n 0)) → (n : ℕ) → n < length latest →
    IsLatest (to ++ b ∷ []) (length to + 1) n (get_or (set latest b v) n 0)
latest_all to latest b v e h n lt = elim (cases_eq n b) [
  | inl same ↦
      let P : ℕ → Type 0 = λ m. IsLatest (to ++ b ∷ []) (length to + 1) m (get_or (set latest b v) m 0) in
      let lt_b : b < length latest = omega arith in
      let Q : ℕ → Type 0 = λ m. IsLatest (to ++ b ∷ []) (length to + 1) b m in
      subst P (sym same) (subst Q (sym (get_or-set_same latest b v 0 lt_b ∙ e)) (latest_new to b))
  | inr other ↦
      let Q : ℕ → Type 0 = λ m. IsLatest (to ++ b ∷ []) (length to + 1) n m in
      subst Q (sym (get_or-set_other latest b n v 0 other)) (latest_other to b n (get_or latest n 0) other (h n lt))
]

-- The edges before each, after one more.
earlier_all : (to earlier latest : List ℕ) (b : ℕ) → length earlier ≡ length to → b < length latest →
    ((n : ℕ) → n < length latest → IsLatest to (length to) n (get_or latest n 0)) →
    ((i : ℕ) → i < length to → IsLatest to i (get_or to i 0) (get_or earlier i 0)) →
    (i : ℕ) → i < length to + 1 →
    IsLatest (to ++ b ∷ []) i (get_or (to ++ b ∷ []) i 0) (get_or (earlier ++ get_or latest b 0 ∷ []) i 0)
earlier_all to earlier latest b len lt latest_ones h =
    let x = get_or latest b 0 in
    let P : ℕ → Type 0 = λ i. IsLatest (to ++ b ∷ []) i (get_or (to ++ b ∷ []) i 0) (get_or (earlier ++ x ∷ []) i 0) in
    let two : (i n m : ℕ) → IsLatest (to ++ b ∷ []) i n m → get_or (to ++ b ∷ []) i 0 ≡ n →
    get_or (earlier ++ x ∷ []) i 0 ≡ m → P i = λ i n m l e f.
    subst (λ u. IsLatest (to ++ b ∷ []) i u (get_or (earlier ++ x ∷ []) i 0)) (sym e)
    (subst (λ u. IsLatest (to ++ b ∷ []) i n u) (sym f) l) in
    below_more P (length to)
    (λ i q. two i (get_or to i 0) (get_or earlier i 0) (latest_kept to b i (get_or to i 0) (get_or earlier i 0)
    (omega arith) (h i q)) (get_or_append_left to (b ∷ []) 0 i q)
    (get_or_append_left earlier (x ∷ []) 0 i (omega arith)))
    (two (length to) b x (latest_kept to b (length to) b x (omega arith) (latest_ones b lt))
    (get_or_push to b 0 (length to) refl) (get_or_push earlier x 0 (length to) len))

-- One more edge.
pub columns_grow : (from to earlier latest : List ℕ) (a b v : ℕ) → AreColumns from to earlier latest →
    a < length latest → b < length latest → v ≡ length to + 1 →
    AreColumns (from ++ a ∷ []) (to ++ b ∷ []) (earlier ++ get_or latest b 0 ∷ []) (set latest b v)
columns_grow from to earlier latest a b v c lt_a lt_b e =
    let len : length (set latest b v) ≡ length latest = length-set latest b v in
    let x = get_or latest b 0 in
    record {
      same_length = omega (arith, length_more from a, length_more to b, c.same_length);
      each_earlier = omega (arith, length_more earlier x, length_more to b, c.each_earlier);
      from_nodes = all_below_more from a (length (set latest b v))
          (λ i q. omega (arith, c.from_nodes i q)) (omega arith);
      to_nodes = all_below_more to b (length (set latest b v))
          (λ i q. omega (arith, c.to_nodes i q)) (omega arith);
      latest_ones = λ n q. subst (λ u. IsLatest (to ++ b ∷ []) u n (get_or (set latest b v) n 0))
          (sym (length_more to b)) (latest_all to latest b v e c.latest_ones n (omega arith));
      earlier_ones = λ i q. earlier_all to earlier latest b c.each_earlier lt_b c.latest_ones c.earlier_ones i
          (omega (arith, length_more to b));
    }

-- The same of columns that are equal to these.
pub columns_grow_like : (from to earlier latest from' to' earlier' : List ℕ) (a b v y : ℕ) →
    AreColumns from to earlier latest → a < length latest → b < length latest → v ≡ length to' →
    from' ≡ from ++ a ∷ [] → to' ≡ to ++ b ∷ [] → earlier' ≡ earlier ++ y ∷ [] → y ≡ get_or latest b y →
    AreColumns from' to' earlier' (set latest b v)
columns_grow_like from to earlier latest from' to' earlier' a b v y c lt_a lt_b len e f g h =
    let k : y ≡ get_or latest b 0 = h ∙ get_or_default_zero latest b y lt_b in
    let n : v ≡ length to + 1 = len ∙ (ap (λ (l : List ℕ). length l) f ∙ length_more to b) in
    let x = columns_grow from to earlier latest a b v c lt_a lt_b n in
    subst (λ u. AreColumns u to' earlier' (set latest b v)) (sym e)
    (subst (λ u. AreColumns (from ++ a ∷ []) u earlier' (set latest b v)) (sym f)
    (subst (λ u. AreColumns (from ++ a ∷ []) (to ++ b ∷ []) u (set latest b v))
    (sym (g ∙ ap (λ z. earlier ++ z ∷ []) k)) x))
