-- What the keys of a set of nodes say of a table of nodes.
use Rattle.std.proofs.Common.{ℕ, zero, suc, ◌<◌, ◌≡◌, Bool, true, false, List, [], ◌∷◌, ◌++◌, length, get_or, slice_get}
use Rattle.std.proofs.Common.{Some, if◌then◌else◌, refl, sym, ◌∙◌, ap, arith}
use Rattle.std.specs.List.{IsDistinct, AllByRecursion, list_any, position}
use Rattle.std.proofs.lemmas.Bool.{false≢true}
use Rattle.std.proofs.lemmas.List.Folds.{list_any_at, Any-from_list_any}
use Rattle.std.proofs.lemmas.Option.{get_or_from_slice_get}
use Rattle.std.proofs.lemmas.List.Quantifiers.{position-Some}
use Rattle.std.proofs.lemmas.Map.Keys.{IsDistinct-head, IsDistinct-tail}
use Rattle.std.specs.Cmp.{IsEquivalence}
use Rattle.indexmap.specs.IndexSet.{insert_key}
use Rattle.node_table.specs.Finding.{Lacks, HasAt, AllUnequal}

module _ {N : Type 0} (eq : N → N → Bool) (laws : IsEquivalence eq) where
  -- A node that is at a place is found.
  pub is_found : (ns : List N) (n : N) (i : ℕ) → HasAt eq ns n i → list_any (eq n) ns ≡ true
  is_found ns n i h = list_any_at (eq n) ns i n h.0 (laws.symm n (get_or ns i n) ∙ h.1 n)

  -- A node that is not found is at no place.
  pub is_lacking : (ns : List N) (n : N) → list_any (eq n) ns ≡ false → Lacks eq ns n
  is_lacking ns n e k d h p =
      false≢true (sym e ∙ list_any_at (eq n) ns k d h (laws.symm n (get_or ns k d) ∙ p))

  -- Of a node that is at no place none passes.
  pub none_passes : (ns : List N) (n : N) → Lacks eq ns n → list_any (eq n) ns ≡ false
  none_passes ns n a = by (list_any (eq n) ns) refl
    where
      by : (b : Bool) → list_any (eq n) ns ≡ b → list_any (eq n) ns ≡ false
      by false e = e
      by true e =
          let found = Any-from_list_any (eq n) ns e in
          let k = found.0 in
          let x = found.1 in
          absurd (a k x found.2 (ap (λ m. eq m n) found.3 ∙ laws.symm x n ∙ found.4))

  -- A node that is at a place is put nowhere, and one that is at none at the end.
  pub put_nowhere : (ns : List N) (n : N) (i : ℕ) → HasAt eq ns n i → insert_key eq ns n ≡ ns
  put_nowhere ns n i h = ap (λ b. if b then ns else ns ++ n ∷ []) (is_found ns n i h)

  pub put_last : (ns : List N) (n : N) → Lacks eq ns n → insert_key eq ns n ≡ ns ++ n ∷ []
  put_last ns n a = ap (λ b. if b then ns else ns ++ n ∷ []) (none_passes ns n a)

  -- The place of a node that equals the one there.
  pub has_equal : (ns : List N) (n k : N) (i : ℕ) → i < length ns → slice_get ns i ≡ Some k → eq n k ≡ true →
      HasAt eq ns n i
  has_equal ns n k i h e p =
      (h, λ d. laws.symm (get_or ns i d) n ∙ ap (eq n) (get_or_from_slice_get ns i k d e) ∙ p)

  -- The place that is found.
  pub has_position : (ns : List N) (n : N) (i : ℕ) → position (eq n) ns ≡ Some i → HasAt eq ns n i
  has_position ns n i e = (
    (position-Some (eq n) ns i n e).0,
    λ d. laws.symm (get_or ns i d) n ∙ (position-Some (eq n) ns i d e).1,
  )

  differs : (x : N) (ns : List N) (j : ℕ) (d : N) → AllByRecursion (λ y. eq x y ≡ false) ns → j < length ns →
      eq x (get_or ns j d) ≡ false
  differs x [] j d a h = absurd (omega arith)
  differs x (n ∷ ns) zero d a h = a.0
  differs x (n ∷ ns) (suc j) d a h = differs x ns j d a.1 (omega arith)

  -- Distinct nodes are unequal.
  pub all_unequal : (ns : List N) → IsDistinct eq ns → AllUnequal eq ns
  all_unequal [] s i j d p q e = absurd (omega arith)
  all_unequal (n ∷ ns) s zero zero d p q e = refl
  all_unequal (n ∷ ns) s zero (suc j) d p q e =
      absurd (false≢true (sym (differs n ns j d (IsDistinct-head eq n ns s) (omega arith)) ∙ e))
  all_unequal (n ∷ ns) s (suc i) zero d p q e =
      absurd (false≢true (sym (differs n ns i d (IsDistinct-head eq n ns s) (omega arith)) ∙ laws.symm n (get_or ns i d) ∙ e))
  all_unequal (n ∷ ns) s (suc i) (suc j) d p q e =
      ap suc (all_unequal ns (IsDistinct-tail eq n ns s) i j d (omega arith) (omega arith) e)
