-- What traits state where the item of one changes, and lists with one more.
use Rattle.std.proofs.Common.{◌≡◌, ◌≢◌, ◌<◌, ◌∙◌, ℕ, zero, suc, refl, sym, ap, subst, arith, length, get_or}
use Rattle.std.proofs.Common.{Bool, true, false, cond, List, [], ◌∷◌, ◌++◌, map, Option, Some, None}
use Rattle.std.specs.Prelude.{nat_eq}
use Rattle.std.specs.Global.{Vec}
use Rattle.std.proofs.lemmas.Bool.{eqb-true, eqb-false}
use Rattle.std.proofs.lemmas.List.{map-append, take_more}
use Rattle.std.proofs.lemmas.List.Folds.{list_any-append}
use Rattle.std.specs.List.{list_any}
use Rattle.std.specs.Prelude.{◌+◌, take, ◌||◌}
use Rattle.relation_terms.specs.declared.predicate.trait_ref.TraitRef.{TraitRef}
use Rattle.relation_terms.specs.declared.terms.binder.Binder.{Binder}
use Rattle.relation_terms.specs.declared.terms.keys.ClauseKey.{ClauseKey}
use Rattle.reference_interner.specs.declared.RefInterner.{RefInterner}
use Rattle.reference_interner.specs.declared.items.Item.{Item}
use Rattle.reference_interner.specs.declared.keys.ItemId.{ItemId}
use Rattle.reference_interner.specs.declared.keys.NodeKey.{NodeKey}
use Rattle.reference_interner.specs.declared.keys.NoSpan.{NoSpan}
use Rattle.reference_interner.specs.Adding.{meaning_in, items_of}
use Rattle.reference_interner.specs.Items.{changed_at, clauses_in, supers_of, implied_of, bounds_of, said_sized}
use Rattle.reference_interner.specs.Items.{with_supers, with_implied, with_bounds}
use Rattle.reference_interner.specs.Nodes.{meaning_of}
use Rattle.text_elaboration.specs.Stating.{put_for, where_said, Puts}
use Rattle.text_elaboration.specs.Stating.{KeepsStatements}

-- What is read of items where the one of a number changes.
module _ {A : Type 0} (reads : Item → A) (none : A) (f : Item → Item) where
  pub kept_at : ((x : Item) → reads (f x) ≡ reads x) → (xs : List Item) (n d : ℕ) →
      get_or (map reads (changed_at f xs n)) d none ≡ get_or (map reads xs) d none
  kept_at h [] n d = refl
  kept_at h (x ∷ xs) zero zero = h x
  kept_at h (x ∷ xs) zero (suc d) = refl
  kept_at h (x ∷ xs) (suc n) zero = refl
  kept_at h (x ∷ xs) (suc n) (suc d) = kept_at h xs n d

  other_at : (xs : List Item) (n d : ℕ) → n ≢ d →
      get_or (map reads (changed_at f xs n)) d none ≡ get_or (map reads xs) d none
  other_at [] n d h = refl
  other_at (x ∷ xs) zero zero h = absurd (h refl)
  other_at (x ∷ xs) zero (suc d) h = refl
  other_at (x ∷ xs) (suc n) zero h = refl
  other_at (x ∷ xs) (suc n) (suc d) h = other_at xs n d (λ e. h (ap suc e))

  changed_there : (v : A) → ((x : Item) → reads (f x) ≡ v) → (xs : List Item) (n : ℕ) → n < length xs →
      get_or (map reads (changed_at f xs n)) n none ≡ v
  changed_there v h [] n l = absurd (omega (arith, l))
  changed_there v h (x ∷ xs) zero l = h x
  changed_there v h (x ∷ xs) (suc n) l = changed_there v h xs n (omega (arith, l))

  pub put_at : (v : A) → ((x : Item) → reads (f x) ≡ v) → (xs : List Item) (n d : ℕ) → d < length xs →
      get_or (map reads (changed_at f xs n)) d none ≡ cond (nat_eq n d) v (get_or (map reads xs) d none)
  put_at v h xs n d l = decided (nat_eq n d) refl
    where
      decided : (b : Bool) → nat_eq n d ≡ b →
          get_or (map reads (changed_at f xs n)) d none ≡ cond b v (get_or (map reads xs) d none)
      decided true e =
          let same = eqb-true n d e in
          subst (λ z. get_or (map reads (changed_at f xs n)) z none ≡ v) same
          (changed_there v h xs n (subst (λ z. z < length xs) (sym same) l))
      decided false e = other_at xs n d (eqb-false n d e)

-- An item that has something of a list is there.
pub item_there : {A : Type 0} (reads : Item → List A) (xs : List Item) (d : ℕ) →
    0 < length (get_or (map reads xs) d []) → d < length xs
item_there r [] d h = absurd (omega (arith, h))
item_there r (x ∷ xs) zero h = omega arith
item_there r (x ∷ xs) (suc d) h = let k = item_there r xs d h in omega (arith, k)

-- What is put where an item changes.
module _ (x y : RefInterner) (n : ℕ) where
  there : (d : ℕ) → 0 < (meaning_in x).generics d → d < length (items_of x)
  unfolding meaning_of
  there d g = item_there (λ i. (i.variances).items) (items_of x) d g

  kept : {A : Type 0} (reads : Item → A) (none : A) (f : Item → Item) → ((i : Item) → reads (f i) ≡ reads i) →
      items_of y ≡ changed_at f (items_of x) n → (d : ℕ) →
      get_or (map reads (items_of y)) d none ≡ get_or (map reads (items_of x)) d none
  kept reads none f h e d = ap (λ xs. get_or (map reads xs) d none) e ∙ kept_at reads none f h (items_of x) n d

  put : {A : Type 0} (reads : Item → A) (none v : A) (f : Item → Item) → ((i : Item) → reads (f i) ≡ v) →
      items_of y ≡ changed_at f (items_of x) n → (d : ℕ) → d < length (items_of x) →
      get_or (map reads (items_of y)) d none ≡ cond (nat_eq n d) v (get_or (map reads (items_of x)) d none)
  put reads none v f h e d l =
      ap (λ xs. get_or (map reads xs) d none) e ∙ put_at reads none f v h (items_of x) n d l

  pub puts_supers : (cs : Vec (ClauseKey NodeKey × NoSpan)) → items_of y ≡ changed_at (with_supers cs) (items_of x) n →
      Puts x y n (Some (clauses_in cs)) None None
  unfolding meaning_of
  puts_supers cs e d g = record {
    generics = ap length (kept (λ i. (i.variances).items) [] (with_supers cs) (λ i. refl) e d);
    supers = put supers_of [] (clauses_in cs) (with_supers cs) (λ i. refl) e d (there d g);
    implied = kept implied_of [] (with_supers cs) (λ i. refl) e d;
    bounds = kept bounds_of [] (with_supers cs) (λ i. refl) e d;
  }

  pub puts_implied : (cs : Vec (ClauseKey NodeKey × NoSpan)) → items_of y ≡ changed_at (with_implied cs) (items_of x) n →
      Puts x y n None (Some (clauses_in cs)) None
  unfolding meaning_of
  puts_implied cs e d g = record {
    generics = ap length (kept (λ i. (i.variances).items) [] (with_implied cs) (λ i. refl) e d);
    supers = kept supers_of [] (with_implied cs) (λ i. refl) e d;
    implied = put implied_of [] (clauses_in cs) (with_implied cs) (λ i. refl) e d (there d g);
    bounds = kept bounds_of [] (with_implied cs) (λ i. refl) e d;
  }

  pub puts_bounds : (bs : Vec (Binder NodeKey (TraitRef NodeKey ItemId))) →
      items_of y ≡ changed_at (with_bounds bs) (items_of x) n → Puts x y n None None (Some bs.items)
  unfolding meaning_of
  puts_bounds bs e d g = record {
    generics = ap length (kept (λ i. (i.variances).items) [] (with_bounds bs) (λ i. refl) e d);
    supers = kept supers_of [] (with_bounds bs) (λ i. refl) e d;
    implied = kept implied_of [] (with_bounds bs) (λ i. refl) e d;
    bounds = put bounds_of [] bs.items (with_bounds bs) (λ i. refl) e d (there d g);
  }

  pub keeps_sized : items_of y ≡ changed_at said_sized (items_of x) n → KeepsStatements x y
  unfolding meaning_of
  keeps_sized e d g = record {
    generics = ap length (kept (λ i. (i.variances).items) [] said_sized (λ i. refl) e d);
    supers = kept supers_of [] said_sized (λ i. refl) e d;
    implied = kept implied_of [] said_sized (λ i. refl) e d;
    bounds = kept bounds_of [] said_sized (λ i. refl) e d;
  }

pub puts_on : (x y z : RefInterner) (n : ℕ) (s i : Option (List (ClauseKey NodeKey))) → Puts x y n s None None →
    Puts y z n None i None → Puts x z n s i None
puts_on x y z n s i p q d g =
    let a = p d g in
    let b = q d (subst (λ c. 0 < c) (sym a.generics) g) in
    record {
      generics = b.generics ∙ a.generics;
      supers = b.supers ∙ a.supers;
      implied = b.implied ∙ ap (put_for n d i) a.implied;
      bounds = b.bounds ∙ a.bounds;
    }

pub keeps_on : (x y z : RefInterner) → KeepsStatements x y → KeepsStatements y z → KeepsStatements x z
keeps_on x y z p q = puts_on x y z 0 None None p q

-- One more clause with its place.
pub placed_more : {K S : Type 0} (all new : List (K × S)) (xs : List K) (i : ℕ) (d : K) (s : S) → i < length xs →
    map (λ p. p.0) all ≡ take i xs → new ≡ all ++ (get_or xs i d, s) ∷ [] → map (λ p. p.0) new ≡ take (i + 1) xs
placed_more {K} {S} all new xs i d s h q e =
    ap (map (λ (p : K × S). p.0)) e
    ∙ (map-append (λ (p : K × S). p.0) all ((get_or xs i d, s) ∷ [])
    ∙ (ap (λ ks. ks ++ get_or xs i d ∷ []) q ∙ sym (take_more xs i d h)))

-- None of the first passes a test, nor does one more; or that one does.
pub none_more : {A : Type 0} (f : A → Bool) (xs : List A) (i : ℕ) (d : A) → i < length xs →
    list_any f (take i xs) ≡ false → f (get_or xs i d) ≡ false → list_any f (take (i + 1) xs) ≡ false
none_more f xs i d h q e =
    ap (list_any f) (take_more xs i d h) ∙ (list_any-append f (take i xs) (get_or xs i d ∷ [])
    ∙ (ap (λ b. b || (f (get_or xs i d) || false)) q ∙ ap (λ b. b || false) e))

pub one_passes : {A : Type 0} (f : A → Bool) (xs : List A) (i : ℕ) (d : A) → i < length xs →
    f (get_or xs i d) ≡ true → list_any f xs ≡ true
one_passes f [] i d h e = absurd (omega (arith, h))
one_passes f (x ∷ xs) zero d h e = ap (λ b. b || list_any f xs) e
one_passes f (x ∷ xs) (suc i) d h e = passes_or (f x) (list_any f xs) (one_passes f xs i d (omega (arith, h)) e)
  where
    passes_or : (a b : Bool) → b ≡ true → a || b ≡ true
    passes_or true b e = refl
    passes_or false b e = e

pub keeps_none : (x : RefInterner) → KeepsStatements x x
keeps_none x d g = record { generics = refl; supers = refl; implied = refl; bounds = refl }

-- Two things put of one list.
pub puts_both : (x y z : RefInterner) (n : ℕ) (b c : Bool) (ks ls ms : List (ClauseKey NodeKey)) → ks ≡ ms → ls ≡ ms →
    Puts x y n (where_said b ks) None None → Puts y z n None (where_said c ls) None →
    Puts x z n (where_said b ms) (where_said c ms) None
puts_both x y z n b c ks ls ms e f p q =
    puts_on x y z n (where_said b ms) (where_said c ms)
    (subst (λ u. Puts x y n (where_said b u) None None) e p) (subst (λ u. Puts y z n None (where_said c u) None) f q)
