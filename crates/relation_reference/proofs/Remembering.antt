-- What walks through terms remember, as they go on.
use Rattle.std.proofs.Common.{ℕ, ◌≡◌, ◌↔◌, IsTrue, Bool, cond, Option, Some, None, option_map, IfSome, sym, ap}
use Rattle.std.proofs.Common.{ap₂, ◌∙◌, ◌&&◌, eqb}
use Rattle.std.proofs.lemmas.Bool.{and_parts, eqb-true}
use Rattle.std.specs.HashMap.{HashMap, get, IsEmpty}
use Rattle.std.specs.Map.{lookup}
use Rattle.relation_terms.specs.Trees.{known, apply}
use Rattle.relation_terms.specs.Meaning.{Meaning, Extends}
use Rattle.relation_terms.specs.Parts.{part_tree, part_sort, part_key}
use Rattle.relation_terms.specs.declared.terms.part_kind.Part.{Part}
use Rattle.relation_folds.proofs.Remembering.{one_sort, one_more}
use Rattle.relation_terms.proofs.Stays.{knows_as}
use Rattle.relation_terms.proofs.Parts.{stays_part}
use Rattle.relation_semantics.specs.Stores.{Store, resolved}
use Rattle.relation_folds.specs.Folds.{part_rank}
use Rattle.relation_reference.specs.declared.context.memory.PartKey.{PartKey}
use Rattle.relation_reference.specs.Remembering.{key_of, ResolvesTo, IsKept, Remembers}

-- Parts are looked for by their sorts and their keys.
abbrev pub key_eq : {Key : Type 0} → (Key → Key → Bool) → PartKey Key → PartKey Key → Bool
key_eq eq x y = eqb x.sort y.sort && eq x.key y.key

-- What is looked for a part by: its key and its rank.
keyed : {Key : Type 0} (o : Option Key) (r : ℕ) (q : PartKey Key) →
    option_map (λ k. record { sort = r; key = k }) o ≡ Some q → (o ≡ Some q.key) × (r ≡ q.sort)
keyed (Some k) r q e =
    let h : record { sort = r; key = k } ≡ q = cc in
    (ap (λ x. Some x.key) h, ap (λ x. x.sort) h)
keyed None r q e = absurd (cc)

-- Known parts of equal keys are one tree, of one sort.
module _ {Key Id Name : Type 0} (m : Meaning Key Id Name) (eq : Key → Key → Bool)
    (same : (p q : Part Key Id) (x y : Key) → part_key p ≡ Some x → part_key q ≡ Some y → part_sort q ≡ part_sort p →
    IsTrue (known (part_tree m p)) → IsTrue (known (part_tree m q)) →
    (IsTrue (eq x y) ↔ (part_tree m p ≡ part_tree m q))) where
  found_sort : (p q : Part Key Id) (x y : PartKey Key) → key_of p ≡ Some x → key_of q ≡ Some y →
      IsTrue (key_eq eq x y) → part_sort p ≡ part_sort q
  found_sort p q x y a b h =
      let here = keyed (part_key p) (part_rank p) x a in
      let there = keyed (part_key q) (part_rank q) y b in
      one_sort p q x.key y.key here.0 there.0
      (here.1 ∙ eqb-true x.sort y.sort (and_parts (eqb x.sort y.sort) (eq x.key y.key) h).0 ∙ sym there.1)

  found_tree : (p q : Part Key Id) (x y : PartKey Key) → key_of p ≡ Some x → key_of q ≡ Some y →
      IsTrue (key_eq eq x y) → IsTrue (known (part_tree m p)) → IsTrue (known (part_tree m q)) →
      part_tree m p ≡ part_tree m q
  found_tree p q x y a b h k l =
      let here = keyed (part_key p) (part_rank p) x a in
      let there = keyed (part_key q) (part_rank q) y b in
      (same p q x.key y.key here.0 there.0 (sym (found_sort p q x y a b h)) k l).0
      (and_parts (eqb x.sort y.sort) (eq x.key y.key) h).1

-- What was resolved stays so while the interner grows, and what is recorded stands.
module _ {Key Id Name : Type 0} {m n : Meaning Key Id Name} (st now : Store) (grown : Extends m n) (same : now ≡ st) where
  pub came : (p by : Part Key Id) → IsTrue (known (part_tree m p)) → IsTrue (known (part_tree n by)) →
      part_tree n by ≡ apply (resolved st) (part_tree m p) → part_sort by ≡ part_sort p → ResolvesTo n now p by
  came p by k l q s =
      let e : part_tree n p ≡ part_tree m p = stays_part grown p k in
      record {
        there = knows_as (part_tree m p) (part_tree n p) e k;
        sure = l;
        comes = q ∙ sym (ap₂ (λ z t. apply (resolved z) t) same e);
        sort = s;
      }

  comes_on : (p by : Part Key Id) → ResolvesTo m st p by → ResolvesTo n now p by
  comes_on p by i =
      let b : part_tree n by ≡ part_tree m by = stays_part grown by i.sure in
      came p by i.there (knows_as (part_tree m by) (part_tree n by) b i.sure) (b ∙ i.comes) i.sort

  pub remembers_on : {S : Type 0} (eq : PartKey Key → PartKey Key → Bool)
      (memory : HashMap (PartKey Key) (Part Key Id) S) → Remembers m st eq memory → Remembers n now eq memory
  remembers_on eq memory r = λ q by e.
      let k = r q by e in
      record { part = k.part; key = k.key; stands = k.stands; same = k.same; is = comes_on k.part by k.is }

module _ {Key Id Name : Type 0} (m : Meaning Key Id Name) (st : Store) where
  pub remembers_more : {S : Type 0} (eq : PartKey Key → PartKey Key → Bool)
      (old new : HashMap (PartKey Key) (Part Key Id) S) (p by : Part Key Id) (key : PartKey Key) →
      key_of p ≡ Some key → ResolvesTo m st p by →
      ((q : PartKey Key) → get eq new q ≡ cond (eq key q) (Some by) (get eq old q)) →
      Remembers m st eq old → Remembers m st eq new
  remembers_more eq old new p by key o i u r = λ q x e.
      one_more (eq key q) x by (get eq old q) (IsKept m st eq q)
      (λ t. record { part = p; key = key; stands = o; same = t; is = i }) (r q) (sym (u q) ∙ e)

  pub remembers_none : {S : Type 0} (eq : PartKey Key → PartKey Key → Bool)
      (memory : HashMap (PartKey Key) (Part Key Id) S) → IsEmpty memory → Remembers m st eq memory
  remembers_none eq memory u = λ q x e.
      let h : Some x ≡ None = sym e ∙ ap (λ es. lookup (eq q) es) u in
      absurd (cc)

  -- What is found of a known part is what it comes to.
  module _ (eq : Key → Key → Bool)
      (same : (p q : Part Key Id) (x y : Key) → part_key p ≡ Some x → part_key q ≡ Some y → part_sort q ≡ part_sort p →
      IsTrue (known (part_tree m p)) → IsTrue (known (part_tree m q)) →
      (IsTrue (eq x y) ↔ (part_tree m p ≡ part_tree m q)))
    where
      kept_comes : (p by : Part Key Id) (key : PartKey Key) → key_of p ≡ Some key →
          IsTrue (known (part_tree m p)) → IsKept m st (key_eq eq) key by → ResolvesTo m st p by
      kept_comes p by key s k h = record {
        there = k;
        sure = h.is.sure;
        comes = h.is.comes ∙ ap (apply (resolved st))
            (found_tree m eq same h.part p h.key key h.stands s h.same h.is.there k);
        sort = h.is.sort ∙ found_sort m eq same h.part p h.key key h.stands s h.same;
      }

      pub recalled : {S : Type 0} (memory : HashMap (PartKey Key) (Part Key Id) S) →
          Remembers m st (key_eq eq) memory → (p : Part Key Id) (key : PartKey Key) → key_of p ≡ Some key →
          IsTrue (known (part_tree m p)) →
          (o : Option (Part Key Id)) → o ≡ get (key_eq eq) memory key → IfSome o (ResolvesTo m st p)
      recalled memory r p key s k None e = tt
      recalled memory r p key s k (Some by) e = kept_comes p by key s k (r key by (sym e))
