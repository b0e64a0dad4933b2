-- What a fold remembers, as it goes on.
use Rattle.std.proofs.Common.{ℕ, ◌≡◌, ◌↔◌, IsTrue, Bool, true, false, cond, Option, Some, None, option_map, IfSome, refl, sym, ap}
use Rattle.std.proofs.Common.{◌∙◌, ◌&&◌, eqb, subst, inl, inr, arith, List, [], ◌∷◌, ◌++◌, Contains, Result, Ok, Err, OnErr}
use Rattle.std.proofs.lemmas.Bool.{and_parts, eqb-true}
use Rattle.std.proofs.lemmas.List.Elements.{Contains-push_cases}
use Rattle.delayed_map.specs.Kept.{Finds}
use Rattle.relation_terms.specs.Trees.{Tree, known}
use Rattle.relation_terms.specs.Meaning.{Meaning}
use Rattle.relation_terms.specs.Parts.{part_tree, part_sort, part_key}
use Rattle.relation_terms.specs.declared.terms.part_kind.Part.{Part}
use Rattle.relation_terms.specs.declared.terms.part_kind.Part.TheVariants.{Region, Ty, Const, ValTree, Pat, ValueType}
use Rattle.relation_terms.specs.declared.terms.part_kind.Part.TheVariants.{Object}
use Rattle.relation_terms.proofs.Stays.{knows_as}
use Rattle.relation_terms.proofs.Parts.{stays_part}
use Rattle.relation_folds.specs.declared.fold.memory.Place.{Place}
use Rattle.relation_folds.specs.Folds.{Steps, folded, IsMade, IsKept, Remembers, place_of, part_rank}
use Rattle.relation_folds.proofs.Folding.{folded_later}

-- Places are equal where their sorts, their keys and their depths are.
abbrev pub place_eq : {Key : Type 0} → (Key → Key → Bool) → Place Key → Place Key → Bool
place_eq eq x y = eqb x.sort y.sort && (eq x.key y.key && eqb x.depth y.depth)

-- What stands at the place of a part: its key, its rank and the depth.
pub placed : {Key : Type 0} (o : Option Key) (r d : ℕ) (q : Place Key) →
    option_map (λ k. record { sort = r; key = k; depth = d }) o ≡ Some q →
    (o ≡ Some q.key) × ((r ≡ q.sort) × (d ≡ q.depth))
placed (Some k) r d q e =
    let h : record { sort = r; key = k; depth = d } ≡ q = cc in
    (ap (λ x. Some x.key) h, (ap (λ x. x.sort) h, ap (λ x. x.depth) h))
placed None r d q e = absurd (cc)

-- Parts of one rank that have keys are of one sort.
pub one_sort : {Key Id : Type 0} (p q : Part Key Id) (x y : Key) → part_key p ≡ Some x → part_key q ≡ Some y →
    part_rank p ≡ part_rank q → part_sort p ≡ part_sort q
one_sort (Region r) (Region s) x y a b e = refl
one_sort (Ty t) (Ty u) x y a b e = refl
one_sort (Const c) (Const d) x y a b e = refl
one_sort (ValTree v) (ValTree w) x y a b e = refl
one_sort (Pat o) (Pat p) x y a b e = refl
one_sort (ValueType t) (ValueType u) x y a b e = refl
one_sort (Object o) (Object p) x y a b e = refl
one_sort p q x y a b e = absurd (cc)

module _ {Key Id Name F : Type 0} {Ready : Meaning Key Id Name → F → Type 0}
    {puts : Meaning Key Id Name → F → ℕ → Tree → Option Tree} {m n : Meaning Key Id Name} {f g : F}
    (s : Steps Ready puts m f n g) where
  -- What was made stays so.
  made_on : (p : Part Key Id) (d : ℕ) (by : Part Key Id) → IsMade m (puts m f) p d by → IsMade n (puts n g) p d by
  made_on p d by i =
      let e : part_tree n p ≡ part_tree m p = stays_part s.grown p i.there in
      let b : part_tree n by ≡ part_tree m by = stays_part s.grown by i.sure in
      record {
        there = knows_as (part_tree m p) (part_tree n p) e i.there;
        sure = knows_as (part_tree m by) (part_tree n by) b i.sure;
        made = b ∙ i.made ∙ sym (folded_later (puts m f) (puts n g) s.kept d (part_tree m p) (part_tree n p) e);
        sort = i.sort;
      }

  pub remembers_on : (eq : Place Key → Place Key → Bool) (memory : List (Place Key × Part Key Id)) →
      Remembers m (puts m f) eq memory → Remembers n (puts n g) eq memory
  remembers_on eq memory r = λ q by e.
      let k = r q by e in
      record {
        part = k.part;
        depth = k.depth;
        place = k.place;
        stands = k.stands;
        same = k.same;
        is = made_on k.part k.depth by k.is;
      }

-- What is found among one more is that one, or was found before.
pub one_more : {A : Type 0} (b : Bool) (by new : A) (o : Option A) (P : A → Type 0) → (IsTrue b → P new) →
    ((x : A) → o ≡ Some x → P x) → cond b (Some new) o ≡ Some by → P by
one_more true by new o P f g e =
    let same : new ≡ by = cc in
    subst P same (f refl)
one_more false by new o P f g e = g by e

module _ {Key Id Name : Type 0} (m : Meaning Key Id Name) (puts : ℕ → Tree → Option Tree) where
  -- What is made of a part is made of each part of its tree and sort.
  pub made_same : (p q : Part Key Id) (d e : ℕ) (by : Part Key Id) → part_tree m p ≡ part_tree m q → part_sort p ≡ part_sort q →
      d ≡ e → IsMade m puts p d by → IsMade m puts q e by
  made_same p q d e by t s h i = record {
    there = knows_as (part_tree m p) (part_tree m q) (sym t) i.there;
    sure = i.sure;
    made = i.made ∙ ap (λ x. folded puts d x) t ∙ ap (λ x. folded puts x (part_tree m q)) h;
    sort = i.sort ∙ s;
  }

  pub remembers_as : (eq : Place Key → Place Key → Bool) {old new : List (Place Key × Part Key Id)} →
      new ≡ old → Remembers m puts eq old → Remembers m puts eq new
  remembers_as eq e r = subst (λ made. Remembers m puts eq made) (sym e) r

  pub remembers_more : {E : Type 0} (eq : Place Key → Place Key → Bool) (old new : List (Place Key × Part Key Id))
      (p : Part Key Id) (d : ℕ) (by : Part Key Id) (place : Place Key) (r : Result Bool E) → place_of p d ≡ Some place →
      IsMade m puts p d by → (r ≡ Ok true → new ≡ old ++ (place, by) ∷ []) → (r ≡ Ok false → new ≡ old) →
      OnErr r (new ≡ old) → Remembers m puts eq old → Remembers m puts eq new
  remembers_more eq old new p d by place (Ok true) o i put stays err r = λ q x f.
      elim (Contains-push_cases old (place, by) (f.key, x) (subst (λ es. Contains es (f.key, x)) (put refl) f.is_in)) [
        | inl h ↦ r q x (record { key = f.key; is_in = h; same = f.same })
        | inr e ↦ record {
          part = p;
          depth = d;
          place = place;
          stands = o;
          same = subst (λ k. IsTrue (eq q k)) (sym (ap (λ z. z.0) e)) f.same;
          is = subst (IsMade m puts p d) (ap (λ z. z.1) e) i;
        }
      ]
  remembers_more eq old new p d by place (Ok false) o i put stays err r = remembers_as eq (stays refl) r
  remembers_more eq old new p d by place (Err e) o i put stays err r = remembers_as eq err r

  pub remembers_none : (eq : Place Key → Place Key → Bool) (memory : List (Place Key × Part Key Id)) → memory ≡ [] →
      Remembers m puts eq memory
  remembers_none eq memory e = λ q x f.
      let lt = (subst (λ es. Contains es (f.key, x)) e f.is_in).1 in absurd (omega (arith, lt))

-- What is found of a known part is what is made of it.
module _ {Key Id Name : Type 0} (m : Meaning Key Id Name) (puts : ℕ → Tree → Option Tree) (eq : Key → Key → Bool)
    (same : (p q : Part Key Id) (x y : Key) → part_key p ≡ Some x → part_key q ≡ Some y → part_sort q ≡ part_sort p →
    IsTrue (known (part_tree m p)) → IsTrue (known (part_tree m q)) →
    (IsTrue (eq x y) ↔ (part_tree m p ≡ part_tree m q))) where
  kept_made : (p : Part Key Id) (d : ℕ) (place : Place Key) (by : Part Key Id) → place_of p d ≡ Some place →
      IsTrue (known (part_tree m p)) → IsKept m puts (place_eq eq) place by → IsMade m puts p d by
  kept_made p d place by e k h =
      let here = placed (part_key p) (part_rank p) d place e in
      let there = placed (part_key h.part) (part_rank h.part) h.depth (h.place) h.stands in
      let all = and_parts (eqb place.sort (h.place).sort)
      (eq place.key (h.place).key && eqb place.depth (h.place).depth) h.same in
      let rest = and_parts (eq place.key (h.place).key) (eqb place.depth (h.place).depth) all.1 in
      let rank = eqb-true place.sort (h.place).sort all.0 in
      let deep = eqb-true place.depth (h.place).depth rest.1 in
      let sort = one_sort p h.part place.key (h.place).key here.0 there.0 ((here.1).0 ∙ rank ∙ sym (there.1).0) in
      let tree = (same p h.part place.key (h.place).key here.0 there.0 (sym sort) k h.is.there).0 rest.0 in
      made_same m puts h.part p h.depth d by (sym tree) (sym sort) ((there.1).1 ∙ sym deep ∙ sym (here.1).1) h.is

  pub recalled : (memory : List (Place Key × Part Key Id)) → Remembers m puts (place_eq eq) memory →
      (p : Part Key Id) (d : ℕ) (place : Place Key) → place_of p d ≡ Some place → IsTrue (known (part_tree m p)) →
      (o : Option (Part Key Id)) → IfSome o (λ by. Finds (place_eq eq) place by memory) →
      IfSome o (λ by. IsMade m puts p d by)
  recalled memory r p d place s k None f = tt
  recalled memory r p d place s k (Some by) f = kept_made p d place by s k (r place by f)
