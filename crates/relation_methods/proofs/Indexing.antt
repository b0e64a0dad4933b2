-- A table keeps the numbers of its entries as one comes to it, and by them finds what a key finds.
use Rattle.std.proofs.Common.{◌≡◌, ◌+◌, ℕ, Bool, true, false, cond, List, [], ◌∷◌, ◌++◌, Option, Some, None}
use Rattle.std.proofs.Common.{refl, sym, ap, ◌∙◌, arith, length}
use Rattle.std.specs.HashMap.{HashMap}
use Rattle.std.specs.Global.{Vec}
use Rattle.std.specs.List.{filter}
use Rattle.relation_methods.specs.declared.keyed.Entry.{Entry}
use Rattle.relation_methods.specs.Keyed.{merge, numbers_from, has_none, has_key, is_found, numbers_at, Picks}
use Rattle.relation_methods.specs.Keyed.{PlacesNumber, IsIndexed}
use Rattle.relation_methods.proofs.Merging.{merged_numbers, numbers_after, found_entries}

-- What has no key has not this one.

none_or_key : {K : Type 0} (eq : K → K → Bool) (q : K) (k : Option K) → has_none k ≡ true → has_key eq q k ≡ false
none_or_key eq q None h = refl
none_or_key eq q (Some k) h = absurd cc

module _ {K S T E : Type 0} (eq : K → K → Bool) where
  pub indexed_after : (m n : HashMap K (Vec ℕ) S) (old new : List ℕ) (entries : List (Entry K T E)) (r : Entry K T E) (number : ℕ) →
      IsIndexed eq m old entries → number ≡ length entries → PlacesNumber eq r.key number m n old new →
      IsIndexed eq n new (entries ++ r ∷ [])
  indexed_after m n old new entries r number i e p = let f : number ≡ 0 + length entries = omega arith in record {
    keyed = λ q. p.keyed q ∙ (ap (λ l. l ++ cond (has_key eq q r.key) (number ∷ []) []) (i.keyed q) ∙
        (ap (λ z. numbers_from (λ (x : Entry K T E). has_key eq q x.key) 0 entries ++ cond (has_key eq q r.key) (z ∷ []) []) f ∙
        sym (numbers_after (λ (x : Entry K T E). has_key eq q x.key) 0 entries r)));
    blankets = p.blankets ∙ (ap (λ l. l ++ cond (has_none r.key) (number ∷ []) []) i.blankets ∙
        (ap (λ z. numbers_from (λ (x : Entry K T E). has_none x.key) 0 entries ++ cond (has_none r.key) (z ∷ []) []) f ∙
        sym (numbers_after (λ (x : Entry K T E). has_none x.key) 0 entries r)));
  }

  pub found_numbers : (m : HashMap K (Vec ℕ) S) (blanket : List ℕ) (entries : List (Entry K T E)) (q : K) →
      IsIndexed eq m blanket entries →
      merge blanket (numbers_at eq m q) ≡ numbers_from (λ (r : Entry K T E). is_found eq (Some q) r.key) 0 entries
  found_numbers m blanket entries q i = ap (λ l. merge l (numbers_at eq m q)) i.blankets ∙
      (ap (λ l. merge (numbers_from (λ (r : Entry K T E). has_none r.key) 0 entries) l) (i.keyed q) ∙
      merged_numbers (λ (r : Entry K T E). has_none r.key) (λ (r : Entry K T E). has_key eq q r.key)
      (λ r. none_or_key eq q r.key) 0 entries)

  -- The same, as one comes to the lists.
  pub numbers_found : (m : HashMap K (Vec ℕ) S) (blanket bs ks ns : List ℕ) (entries rs : List (Entry K T E)) (q : K) →
      IsIndexed eq m blanket entries → bs ≡ blanket → ks ≡ numbers_at eq m q → ns ≡ merge bs ks → rs ≡ entries →
      ns ≡ numbers_from (λ (r : Entry K T E). is_found eq (Some q) r.key) 0 rs
  numbers_found m blanket bs ks ns entries rs q i b k n r = n ∙ (ap (λ l. merge l ks) b ∙ (ap (λ l. merge blanket l) k ∙
      (found_numbers m blanket entries q i ∙ ap (numbers_from (λ (x : Entry K T E). is_found eq (Some q) x.key) 0) (sym r))))

module _ {K T E : Type 0} (eq : K → K → Bool) where
  -- Without a key all is found.
  all_pass : (entries : List (Entry K T E)) → entries ≡ filter (λ (r : Entry K T E). is_found eq None r.key) entries
  all_pass [] = refl
  all_pass (r ∷ rs) = ap (λ l. r ∷ l) (all_pass rs)

  pub all_found : (key : Option K) (entries : List (Entry K T E)) → key ≡ None →
      entries ≡ filter (λ (r : Entry K T E). is_found eq key r.key) entries
  all_found key entries e = all_pass entries ∙ ap (λ k. filter (λ (r : Entry K T E). is_found eq k r.key) entries) (sym e)

  -- What was picked by the numbers that a key has is what it finds.
  pub entries_found : (key : Option K) (q : K) (entries rs ys : List (Entry K T E)) (ns : List ℕ) → key ≡ Some q → rs ≡ entries →
      ns ≡ numbers_from (λ (r : Entry K T E). is_found eq (Some q) r.key) 0 rs → Picks rs ns ys →
      ys ≡ filter (λ (r : Entry K T E). is_found eq key r.key) entries
  entries_found key q entries rs ys ns k r e p = found_entries (λ (x : Entry K T E). is_found eq (Some q) x.key) rs ys ns e p ∙
      (ap (λ l. filter (λ (x : Entry K T E). is_found eq (Some q) x.key) l) r ∙
      ap (λ z. filter (λ (x : Entry K T E). is_found eq z x.key) entries) (sym k))
