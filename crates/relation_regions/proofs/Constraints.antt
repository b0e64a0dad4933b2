-- Constraints on keys, and what they ask for, however these are read.
use Rattle.std.proofs.Common.{◌≡◌, ℕ, ◌<◌, ◌+◌, ◌⊎◌, inl, inr, List, [], ◌∷◌, ◌++◌, length, get_or, subst, sym, ◌∙◌, ap}
use Rattle.std.proofs.Common.{Bool, refl, map, Result, Ok, Err, OnOk}
use Rattle.std.proofs.lemmas.List.{get_or-map, length-map}
use Rattle.std.proofs.lemmas.Result.{on_ok_weaker}
use Rattle.relation_terms.specs.declared.terms.keys.RegionKey.{RegionKey}
use Rattle.relation_terms.specs.declared.terms.keys.TyKey.{TyKey}
use Rattle.relation_terms.specs.declared.terms.keys.ConstKey.{ConstKey}
use Rattle.relation_terms.specs.declared.terms.generic_arg.GenericArgKind.TheVariants.{Lifetime, Ty, Const}
use Rattle.relation_terms.specs.declared.terms.generic_arg.GenericArgKind.{GenericArgKind}
use Rattle.relation_terms.specs.declared.predicate.regions.RegionConstraint.{RegionConstraint}
use Rattle.relation_terms.specs.declared.predicate.regions.RegionConstraint.TheVariants.{Outlives, Eq}
use Rattle.relation_terms.specs.declared.predicate.regions.OutlivesPredicate.{OutlivesPredicate}
use Rattle.relation_terms.specs.Trees.{Tree}
use Rattle.relation_semantics.specs.Stores.{Constraint, ConstraintIn, outlives_constraint, equal_constraint}
use Rattle.relation_regions.specs.declared.building.Pairs.{Pairs}
use Rattle.relation_regions.specs.Worlds.{IsOf}
use Rattle.relation_regions.specs.Reading.{AddsPair, AddsAsked, AreNone, GrowsBy, IsOfOne, no_constraint, stating}
use Rattle.relation_regions.specs.Reading.{HaveNumbers, Reader, read_trees, GetsNumber, ReadsPair, ReadsConstraint}
use Rattle.relation_regions.specs.Reading.{IsNumbered, PairIsRead, ConstraintIsRead, AreRead, PutsPair}
use Rattle.relation_regions.proofs.ReadPairs.{grows_same, grows_through, none_read, read_more, more_of_one}

-- The constraint that is read at a place is the one that was recorded there.
pub at_index : {Key : Type 0} (f : RegionConstraint Key → Constraint) (xs : List (RegionConstraint Key))
    (qs : List Constraint) (i : ℕ) (r : RegionConstraint Key) → map f xs ≡ qs → i < length xs → r ≡ get_or xs i r →
    f r ≡ get_or qs i no_constraint
at_index f xs qs i r e lt is =
    ap f is ∙ (sym (get_or-map f xs i r no_constraint lt) ∙ ap (λ l. get_or l i no_constraint) e)

pub index_below : {Key : Type 0} (f : RegionConstraint Key → Constraint) (xs : List (RegionConstraint Key))
    (qs : List Constraint) (i : ℕ) → map f xs ≡ qs → i < length xs → i < length qs
index_below f xs qs i e lt = subst (λ l. i < length l) e (subst (λ n. i < n) (sym (length-map xs f)) lt)

-- The same of facts.
module _ {Key : Type 0} (pair : OutlivesPredicate Key (RegionKey Key) → Tree × Tree)
    (facts : List (OutlivesPredicate Key (RegionKey Key))) (i : ℕ) (lt : i < length facts) where
  pub fact_at : (f : OutlivesPredicate Key (RegionKey Key)) → f ≡ get_or facts i f →
      stating (pair f) ≡ get_or (map stating (map pair facts)) i no_constraint
  fact_at f is =
      let lt' : i < length (map pair facts) = subst (λ n. i < n) (sym (length-map facts pair)) lt in
      let p = pair f in
      ap (λ u. stating (pair u)) is ∙ (ap stating (sym (get_or-map pair facts i f p lt)) ∙
      sym (get_or-map stating (map pair facts) i p no_constraint lt'))

  pub fact_below : i < length (map stating (map pair facts))
  fact_below = subst (λ n. i < n) (sym (length-map (map pair facts) stating))
      (subst (λ n. i < n) (sym (length-map facts pair)) lt)

-- A constraint that a region outlives another one, by its parts.
outlives_is : {Key : Type 0} (q : RegionConstraint Key) (o : OutlivesPredicate Key (GenericArgKind Key))
    (u : GenericArgKind Key) → q ≡ Outlives o → o.0 ≡ u → q ≡ Outlives (record { 0 = u; 1 = o.1 })
outlives_is q o u e f = e ∙ ap (λ v. Outlives (record { 0 = v; 1 = o.1 })) f

-- A pair of regions is put behind the others, once both have numbers.
both_numbered : {Key : Type 0} (eq : RegionKey Key → RegionKey Key → Bool) (a b : RegionKey Key) (j : ℕ)
    (k0 k1 k2 : List (RegionKey Key)) (p : Pairs) (said : List ℕ) (q : Pairs) (said' : List ℕ) (first second : ℕ) →
    GetsNumber eq a k0 k1 first → GetsNumber eq b k1 k2 second → PutsPair first second j p said q said' →
    ReadsPair eq a b j k0 p said k2 q said'
both_numbered eq a b j k0 k1 k2 p said q said' first second at_a at_b puts r numbers a_in b_in =
    let g : IsNumbered r a k0 k1 first = at_a r numbers a_in in
    let h : IsNumbered r b k1 k2 second = at_b r g.numbers b_in in
    record {
      numbers = h.numbers;
      more = grows_through (λ t. t ≡ r.region a) (λ t. t ≡ r.region b) (λ t. (t ≡ r.region a) ⊎ (t ≡ r.region b))
          (read_trees r k0) (read_trees r k1) (read_trees r k2) g.more h.more (λ t e. inl e) (λ t e. inr e);
      adds = record {
        first = first;
        second = second;
        puts = puts;
        first_at = (h.more).kept first (r.region a) g.number_is;
        second_at = h.number_is;
      };
    }

pub pair_read : {Key F : Type 0} (eq : RegionKey Key → RegionKey Key → Bool) (result : Result (Unit {0}) F)
    (a b : RegionKey Key) (j : ℕ) (k0 k1 k2 : List (RegionKey Key)) (p : Pairs) (said : List ℕ) (q : Pairs)
    (said' : List ℕ) (first second : ℕ) → GetsNumber eq a k0 k1 first → GetsNumber eq b k1 k2 second →
    OnOk result (q.longer.items ≡ p.longer.items ++ first ∷ []) →
    OnOk result (q.shorter.items ≡ p.shorter.items ++ second ∷ []) → OnOk result (said' ≡ said ++ j ∷ []) →
    OnOk result (ReadsPair eq a b j k0 p said k2 q said')
pair_read eq (Ok u) a b j k0 k1 k2 p said q said' first second at_a at_b longer shorter says =
    both_numbered eq a b j k0 k1 k2 p said q said' first second at_a at_b
    (record { longer_is = longer; shorter_is = shorter; said_is = says })
pair_read eq (Err f) a b j k0 k1 k2 p said q said' first second at_a at_b longer shorter says = tt

module _ {Key : Type 0} {eq : RegionKey Key → RegionKey Key → Bool} (r : Reader eq) (a b : RegionKey Key) (j : ℕ)
    (k0 k1 k2 : List (RegionKey Key)) (p : Pairs) (said : List ℕ) (m : Pairs) (mid : List ℕ) (s : Pairs)
    (said' : List ℕ) where
  abbrev x : Tree
  x = r.region a

  abbrev y : Tree
  y = r.region b

  -- What one pair says, and what two do.
  pub pair_asked : PairIsRead r a b j k0 p said k2 s said' →
      ConstraintIsRead r (outlives_constraint x y) j k0 p said k2 s said'
  pair_asked h = record { numbers = h.numbers; more = h.more; adds = h.adds }

  swapped : (t : Tree) → (t ≡ y) ⊎ (t ≡ x) → (t ≡ x) ⊎ (t ≡ y)
  swapped t (inl e) = inr e
  swapped t (inr e) = inl e

  both_asked : PairIsRead r a b j k0 p said k1 m mid → PairIsRead r b a j k1 m mid k2 s said' →
      ConstraintIsRead r (equal_constraint x y) j k0 p said k2 s said'
  both_asked g h =
      let first = g.adds in
      let later : AddsPair (read_trees r k2) x y j p said m mid = record {
        first = first.first;
        second = first.second;
        puts = first.puts;
        first_at = (h.more).kept first.first x first.first_at;
        second_at = (h.more).kept first.second y first.second_at;
      } in
      record {
        numbers = h.numbers;
        more = grows_through (λ t. (t ≡ x) ⊎ (t ≡ y)) (λ t. (t ≡ y) ⊎ (t ≡ x)) (IsOf (equal_constraint x y))
            (read_trees r k0) (read_trees r k1) (read_trees r k2) g.more h.more (λ t o. o) swapped;
        adds = (m, (mid, later, h.adds));
      }

module _ {Key : Type 0} (eq : RegionKey Key → RegionKey Key → Bool) (q : RegionConstraint Key) (j : ℕ)
    (k0 k1 k2 : List (RegionKey Key)) (p : Pairs) (said : List ℕ) (m : Pairs) (mid : List ℕ) (s : Pairs)
    (said' : List ℕ) where
  abbrev Reads : Type 0
  Reads = ReadsConstraint eq q j k0 p said k2 s said'

  one_read : (a b : RegionKey Key) → q ≡ Outlives (record { 0 = Lifetime a; 1 = b }) →
      ReadsPair eq a b j k0 p said k2 s said' → Reads
  one_read a b e h r numbers asked_in =
      let is : r.asked q ≡ outlives_constraint (r.region a) (r.region b) = ap r.asked e ∙ r.of_outlives a b in
      let both : ConstraintIn r.store (outlives_constraint (r.region a) (r.region b)) =
      subst (ConstraintIn r.store) is asked_in in
      subst (λ z. ConstraintIsRead r z j k0 p said k2 s said') (sym is)
      (pair_asked r a b j k0 k1 k2 p said m mid s said' (h r numbers both.0 both.1))

  two_read : (a b : RegionKey Key) → q ≡ Eq (record { 0 = a; 1 = b }) → ReadsPair eq a b j k0 p said k1 m mid →
      ReadsPair eq b a j k1 m mid k2 s said' → Reads
  two_read a b e g h r numbers asked_in =
      let is : r.asked q ≡ equal_constraint (r.region a) (r.region b) = ap r.asked e ∙ r.of_equal a b in
      let both : ConstraintIn r.store (equal_constraint (r.region a) (r.region b)) =
      subst (ConstraintIn r.store) is asked_in in
      let first = g r numbers both.0 both.1 in
      subst (λ z. ConstraintIsRead r z j k0 p said k2 s said') (sym is)
      (both_asked r a b j k0 k1 k2 p said m mid s said' first (h r first.numbers both.1 both.0))

  module _ {F : Type 0} (result : Result (Unit {0}) F) where
    pub outlives_read : (o : OutlivesPredicate Key (GenericArgKind Key)) (a : RegionKey Key) → q ≡ Outlives o →
        o.0 ≡ Lifetime a → OnOk result (ReadsPair eq a o.1 j k0 p said k2 s said') → OnOk result Reads
    outlives_read o a e f h = on_ok_weaker result (one_read a o.1 (outlives_is q o (Lifetime a) e f)) h

    pub equal_read : (a b : RegionKey Key) → q ≡ Eq (record { 0 = a; 1 = b }) →
        ReadsPair eq a b j k0 p said k1 m mid → OnOk result (ReadsPair eq b a j k1 m mid k2 s said') → OnOk result Reads
    equal_read a b e g h = on_ok_weaker result (two_read a b e g) h

  -- A constraint on a type, or on a constant, is none of a context.
  pub no_type_read : (o : OutlivesPredicate Key (GenericArgKind Key)) (k : TyKey Key) → q ≡ Outlives o → o.0 ≡ Ty k →
      Reads
  no_type_read o k e f r numbers asked_in = absurd (r.no_type k o.1
      (subst (λ q. ConstraintIn r.store (r.asked q)) (outlives_is q o (Ty k) e f) asked_in))

  pub no_const_read : (o : OutlivesPredicate Key (GenericArgKind Key)) (k : ConstKey Key) → q ≡ Outlives o →
      o.0 ≡ Const k → Reads
  no_const_read o k e f r numbers asked_in = absurd (r.no_const k o.1
      (subst (λ q. ConstraintIn r.store (r.asked q)) (outlives_is q o (Const k) e f) asked_in))

module _ {Key : Type 0} {eq : RegionKey Key → RegionKey Key → Bool} (r : Reader eq) (qs : List Constraint)
    (keys : List (RegionKey Key)) where
  -- Nothing is read yet.
  pub none_are_read : (p : Pairs) (said : List ℕ) → HaveNumbers r.store (read_trees r keys) → AreNone p said →
      AreRead r qs 0 keys keys p said
  none_are_read p said h none = record {
    numbers = h;
    more = grows_same (IsOfOne qs) (read_trees r keys) (read_trees r keys) refl;
    read = none_read qs (read_trees r keys) p said none;
  }

  -- One more constraint is read.
  pub more_are_read : (j : ℕ) (q : Constraint) (k1 k2 : List (RegionKey Key)) (p : Pairs) (said : List ℕ) (p' : Pairs)
      (said' : List ℕ) → j < length qs → q ≡ get_or qs j no_constraint → AreRead r qs j keys k1 p said →
      ConstraintIsRead r q j k1 p said k2 p' said' → AreRead r qs (j + 1) keys k2 p' said'
  more_are_read j q k1 k2 p said p' said' lt e h g =
      let after = read_trees r k2 in
      let more : GrowsBy (IsOf (get_or qs j no_constraint)) (read_trees r k1) after =
      subst (λ q. GrowsBy (IsOf q) (read_trees r k1) after) e g.more in
      record {
        numbers = g.numbers;
        more = more_of_one qs j lt h.more more;
        read = read_more qs j p said p' said' lt more h.read (subst (λ q. AddsAsked after q j p said p' said') e g.adds);
      }
