-- The arguments that stand under a part, and what is put on a stack of them.
use Rattle.std.proofs.Common.{◌≡◌, ◌<◌, ◌≤◌, ◌+◌, ◌-◌, ℕ, suc, Bool, true, false, cond, IsTrue, refl, sym, ap}
use Rattle.std.proofs.Common.{ap₂, ◌∙◌, subst, arith, List, [], ◌∷◌, ◌++◌, Option, Some, None, append-nil}
use Rattle.std.specs.Cmp.Derive.{both_true}
use Rattle.std.proofs.lemmas.Bool.{and_parts}
use Rattle.std.proofs.lemmas.List.{map-append, append_assoc}
use Rattle.std.proofs.lemmas.List.Sums.{sum_by-cons, sum_by-append}
use Rattle.std.specs.List.{sum_by}
use Rattle.relation_terms.specs.Heads.{Head, value_sort, leaf_sort, head_sort, BoundKind, range_pattern}
use Rattle.relation_terms.specs.Trees.{Tree, leaf, node, bind, nil, cons, known, count, nth, IsList, size}
use Rattle.relation_terms.specs.Meaning.{Meaning, under, arg_tree}
use Rattle.relation_terms.specs.Parts.{parts_of, part_tree, tree_sort, part_sort, body_tree}
use Rattle.relation_terms.specs.declared.terms.generic_arg.GenericArgKind.{GenericArgKind}
use Rattle.relation_terms.specs.declared.terms.generic_arg.GenericArgKind.TheVariants.{Const as ConstArg, Ty as TyArg, Lifetime}
use Rattle.relation_terms.specs.declared.terms.keys.RegionKey.{RegionKey}
use Rattle.relation_terms.specs.declared.terms.keys.TyKey.{TyKey}
use Rattle.relation_terms.specs.declared.terms.keys.ConstKey.{ConstKey}
use Rattle.relation_terms.specs.declared.terms.keys.ValTreeKey.{ValTreeKey}
use Rattle.relation_terms.specs.declared.terms.keys.PatKey.{PatKey}
use Rattle.relation_terms.specs.declared.predicate.existential.ExistentialPredicate.TheVariants.{Trait, AutoTrait}
use Rattle.relation_terms.specs.declared.predicate.existential.ExistentialPredicate.TheVariants.{Projection}
use Rattle.relation_terms.specs.declared.terms.part_kind.Part.{Part}
use Rattle.relation_terms.specs.declared.terms.part_kind.Part.TheVariants.{Region, Ty, Const, ValTree, Pat, ValueType}
use Rattle.relation_terms.specs.declared.terms.part_kind.Part.TheVariants.{Binder, Signature, Inputs, Existential}
use Rattle.relation_terms.specs.declared.terms.part_kind.Part.TheVariants.{Object}
use Rattle.relation_terms.specs.Interning.{Sorted}
use Rattle.relation_terms.proofs.Parts.{sort_known, known_parts}
use Rattle.relation_folds.specs.Visits.{is_visited, visited_sort}
use Rattle.walk.specs.Places.{places, places_under, is_passed_over, goes_back, all_known, Pushes}
use Rattle.relation_folds.proofs.Visiting.{rest, rest_next, rest_end, visited_as}

-- An argument stands for itself.
pub place_itself : (b : Bool) (t : Tree) → is_visited t ≡ true → places b t ≡ t ∷ []
place_itself b (leaf l) e = ap (λ v. cond v (leaf l ∷ []) []) e
place_itself b (node h ts) e =
    ap (λ v. cond v (node h ts ∷ []) (cond (is_passed_over (head_sort h)) [] (places (goes_back h) ts))) e
place_itself b (bind ks t) e = absurd (cc)
place_itself b nil e = absurd (cc)
place_itself b (cons t ts) e = absurd (cc)

-- What a value is made of has none.
pub value_has_none : (b : Bool) (t : Tree) → tree_sort t ≡ value_sort → places b t ≡ []
value_has_none b (leaf l) e = ap (λ s. cond (visited_sort s) (leaf l ∷ []) []) e
value_has_none b (node h ts) e =
    ap (λ s. cond (visited_sort s) (node h ts ∷ []) (cond (is_passed_over s) [] (places (goes_back h) ts))) e
value_has_none b (bind ks t) e = absurd (cc)
value_has_none b nil e = absurd (cc)
value_has_none b (cons t ts) e = absurd (cc)

under_body : (o : Option (List BoundKind)) (t : Tree) → IsTrue (known (under o t)) →
    places false (parts_of (under o t)) ≡ places false (under o t)
under_body (Some ks) t k = append-nil (places false t)
under_body None t k = absurd (cc)

module _ {Key Id Name : Type 0} (m : Meaning Key Id Name) where
  -- What stands between arguments is gone through.
  pub gone_through : (p : Part Key Id) → IsTrue (known (part_tree m p)) →
      ((r : RegionKey Key) → p ≡ Region r → ⊥) → ((t : TyKey Key) → p ≡ Ty t → ⊥) →
      ((c : ConstKey Key) → p ≡ Const c → ⊥) → ((v : ValTreeKey Key) → p ≡ ValTree v → ⊥) →
      ((q : PatKey Key) → p ≡ Pat q → ⊥) → places false (parts_of (part_tree m p)) ≡ places false (part_tree m p)
  gone_through (Region r) k f1 f2 f3 f4 f5 = absurd (f1 r refl)
  gone_through (Ty t) k f1 f2 f3 f4 f5 = absurd (f2 t refl)
  gone_through (Const c) k f1 f2 f3 f4 f5 = absurd (f3 c refl)
  gone_through (ValTree v) k f1 f2 f3 f4 f5 = absurd (f4 v refl)
  gone_through (Pat q) k f1 f2 f3 f4 f5 = absurd (f5 q refl)
  gone_through (ValueType t) k f1 f2 f3 f4 f5 = refl
  gone_through (Binder vs b) k f1 f2 f3 f4 f5 = under_body (m.bound_vars vs) (body_tree m b) k
  gone_through (Signature g) k f1 f2 f3 f4 f5 = refl
  gone_through (Inputs t) k f1 f2 f3 f4 f5 = refl
  gone_through (Existential (Trait t)) k f1 f2 f3 f4 f5 = refl
  gone_through (Existential (Projection p)) k f1 f2 f3 f4 f5 = refl
  gone_through (Existential (AutoTrait d)) k f1 f2 f3 f4 f5 = refl
  gone_through (Object o) k f1 f2 f3 f4 f5 = refl

  -- The part of a known argument's sort is one.
  pub part_itself : Sorted m → (p : Part Key Id) → IsTrue (known (part_tree m p)) →
      visited_sort (part_sort p) ≡ true → places false (part_tree m p) ≡ part_tree m p ∷ []
  part_itself s p k v = place_itself false (part_tree m p) (visited_as (part_tree m p) (part_sort p) (sort_known m s p k) ∙ v)

  -- Nothing was put, one was, and more after others.
  pub pushes_none : (s : List (GenericArgKind Key)) (ts : List Tree) → ts ≡ [] → Pushes m ts s s
  pushes_none s ts e = ([], refl, sym e)

  pub pushes_one : (s0 s1 : List (GenericArgKind Key)) (x : GenericArgKind Key) (ts : List Tree) → s1 ≡ x ∷ s0 →
      ts ≡ arg_tree m x ∷ [] → Pushes m ts s0 s1
  pushes_one s0 s1 x ts e o = (x ∷ [], e, sym o)

  pub pushes_more : (s0 s1 s2 : List (GenericArgKind Key)) (us ts : List Tree) → Pushes m us s0 s1 →
      Pushes m ts s1 s2 → Pushes m (ts ++ us) s0 s2
  pushes_more s0 s1 s2 us ts p o = (
    o.0 ++ p.0,
    o.1 ∙ ap (λ z. o.0 ++ z) p.1 ∙ sym (append_assoc o.0 p.0 s0),
    map-append (arg_tree m) o.0 p.0 ∙ ap₂ (λ x y. x ++ y) o.2 p.2,
  )

  pub pushes_as : (s0 s1 : List (GenericArgKind Key)) (ts us : List Tree) → ts ≡ us → Pushes m ts s0 s1 →
      Pushes m us s0 s1
  pushes_as s0 s1 ts us e p = (p.0, p.1, p.2 ∙ e)

  -- The arguments of a range: its two ends.
  pub range_places : Sorted m → (t : Tree) (s e : ConstKey Key) →
      t ≡ node range_pattern (cons (m.const_ s) (cons (m.const_ e) nil)) → IsTrue (known t) →
      (s0 s1 s2 : List (GenericArgKind Key)) → s1 ≡ ConstArg e ∷ s0 → s2 ≡ ConstArg s ∷ s1 →
      Pushes m (places false t) s0 s2
  range_places o t s e is k s0 s1 s2 p q =
      let ks = subst (λ z. IsTrue (known z)) is k in
      let both = and_parts (known (m.const_ s)) (known (cons (m.const_ e) nil)) ks in
      let last = and_parts (known (m.const_ e)) true both.1 in
      let first : Part Key Id = Const s in
      let second : Part Key Id = Const e in
      let a = part_itself o first both.0 refl in
      let b = part_itself o second last.0 refl in
      pushes_as s0 s2 _ _ (sym (ap (places false) is ∙ ap₂ (λ x y. x ++ (y ++ [])) a b))
      (ConstArg s ∷ ConstArg e ∷ [], q ∙ ap (λ z. ConstArg s ∷ z) p, refl)

  -- The arguments under a form that is made of one type, and of a region and a type.
  pub slice_places : Sorted m → (t : Tree) (h : Head) (x : TyKey Key) → t ≡ node h (cons (m.ty x) nil) →
      IsTrue (known t) → places_under t ≡ m.ty x ∷ []
  slice_places o t h x is k =
      let ks = subst (λ z. IsTrue (known z)) is k in
      let one = and_parts (known (m.ty x)) true ks in
      let only : Part Key Id = Ty x in
      ap places_under is ∙ ap (λ z. z ++ []) (part_itself o only one.0 refl)

  pub ref_places : Sorted m → (t : Tree) (h : Head) (r : RegionKey Key) (x : TyKey Key) →
      t ≡ node h (cons (m.region r) (cons (m.ty x) nil)) → IsTrue (known t) →
      (s0 s1 s2 : List (GenericArgKind Key)) → s1 ≡ TyArg x ∷ s0 → s2 ≡ Lifetime r ∷ s1 →
      Pushes m (places_under t) s0 s2
  ref_places o t h r x is k s0 s1 s2 p q =
      let ks = subst (λ z. IsTrue (known z)) is k in
      let both = and_parts (known (m.region r)) (known (cons (m.ty x) nil)) ks in
      let last = and_parts (known (m.ty x)) true both.1 in
      let first : Part Key Id = Region r in
      let second : Part Key Id = Ty x in
      let a = part_itself o first both.0 refl in
      let b = part_itself o second last.0 refl in
      pushes_as s0 s2 _ _ (sym (ap places_under is ∙ ap₂ (λ x y. x ++ (y ++ [])) a b))
      (Lifetime r ∷ TyArg x ∷ [], q ∙ ap (λ z. Lifetime r ∷ z) p, refl)

  -- A type is an argument.
  pub type_places : Sorted m → (x : TyKey Key) → IsTrue (known (m.ty x)) → places false (m.ty x) ≡ m.ty x ∷ []
  type_places o x k = let one : Part Key Id = Ty x in part_itself o one k refl

  -- A list from its last part to its first.
  pub front_next : (s0 s1 s2 : List (GenericArgKind Key)) (n i k : ℕ) (ts t : Tree) → n ≡ count ts → i < n →
      k ≡ i + 1 → t ≡ nth (n - 1 - i) ts → Pushes m (places false (rest (n - i) ts)) s0 s1 →
      Pushes m (places false t) s1 s2 → Pushes m (places false (rest (n - k) ts)) s0 s2
  front_next s0 s1 s2 n i k ts t c h e q p o =
      let j = n - 1 - i in
      let below : j < count ts = omega (arith, c, h) in
      let here : n - k ≡ j = omega (arith, e, h) in
      let next : n - i ≡ suc j = omega (arith, h) in
      let is : rest (n - k) ts ≡ cons t (rest (n - i) ts) =
      ap (λ z. rest z ts) here ∙ rest_next j ts below ∙ ap₂ (λ x z. cons x (rest z ts)) (sym q) (sym next) in
      pushes_as s0 s2 _ _ (ap (places false) (sym is)) (pushes_more s0 s1 s2 _ _ p o)

  pub front_init : (s : List (GenericArgKind Key)) (n i : ℕ) (ts : Tree) → IsList ts → n ≡ count ts → i ≡ 0 →
      Pushes m (places false (rest (n - i) ts)) s s
  front_init s n i ts l c e =
      let end : n - i ≡ count ts = omega (arith, c, e) in
      pushes_none s _ (ap (places false) (rest_end (n - i) ts l end))

  pub front_end : (s0 s : List (GenericArgKind Key)) (n i : ℕ) (ts : Tree) → i ≡ n →
      Pushes m (places false (rest (n - i) ts)) s0 s → Pushes m (places false ts) s0 s
  front_end s0 s n i ts e p =
      let none : n - i ≡ 0 = omega (arith, e) in
      pushes_as s0 s _ _ (ap (λ z. places false (rest z ts)) none) p

  -- A list from its first part to its last.
  pub back_next : (s1 s2 new : List (GenericArgKind Key)) (i j : ℕ) (ts t : Tree) → i < count ts → j ≡ suc i →
      t ≡ nth i ts → Pushes m (places false t) s1 s2 → Pushes m (places true (rest j ts)) s2 new →
      Pushes m (places true (rest i ts)) s1 new
  back_next s1 s2 new i j ts t h e q o p =
      let is : rest i ts ≡ cons t (rest j ts) =
      rest_next i ts h ∙ ap₂ (λ x z. cons x (rest z ts)) (sym q) (sym e) in
      pushes_as s1 new _ _ (ap (places true) (sym is)) (pushes_more s1 s2 new _ _ o p)

  pub back_end : (s : List (GenericArgKind Key)) (i : ℕ) (ts : Tree) → IsList ts → i ≡ count ts →
      Pushes m (places true (rest i ts)) s s
  back_end s i ts l e = pushes_none s _ (ap (places true) (rest_end i ts l e))

-- What stands in a known tree is known.
pub all_known_both : (xs ys : List Tree) → IsTrue (all_known xs) → IsTrue (all_known ys) → IsTrue (all_known (xs ++ ys))
all_known_both [] ys h k = k
all_known_both (x ∷ xs) ys h k =
    let p = and_parts (known x) (all_known xs) h in
    both_true p.0 (all_known_both xs ys p.1 k)

known_if : (b : Bool) (xs ys : List Tree) → IsTrue (all_known xs) → IsTrue (all_known ys) →
    IsTrue (all_known (cond b xs ys))
known_if true xs ys h k = h
known_if false xs ys h k = k

pub places_known : (b : Bool) (t : Tree) → IsTrue (known t) → IsTrue (all_known (places b t))
places_known b (leaf l) k = known_if (visited_sort (leaf_sort l)) (leaf l ∷ []) [] (both_true k refl) refl
places_known b (node h ts) k =
    known_if (visited_sort (head_sort h)) (node h ts ∷ [])
    (cond (is_passed_over (head_sort h)) [] (places (goes_back h) ts)) (both_true k refl)
    (known_if (is_passed_over (head_sort h)) [] (places (goes_back h) ts) refl (places_known (goes_back h) ts k))
places_known b (bind ks t) k = places_known false t k
places_known b nil k = refl
places_known true (cons t ts) k =
    let p = and_parts (known t) (known ts) k in
    all_known_both (places true ts) (places false t) (places_known true ts p.1) (places_known false t p.0)
places_known false (cons t ts) k =
    let p = and_parts (known t) (known ts) k in
    all_known_both (places false t) (places false ts) (places_known false t p.0) (places_known false ts p.1)

pub under_known : (t : Tree) → IsTrue (known t) → IsTrue (all_known (places_under t))
under_known t k = places_known false (parts_of t) (known_parts t k)

-- They are no larger than the tree that they stand in, and smaller than one that they stand under.
size_if : (b : Bool) (xs ys : List Tree) (n : ℕ) → sum_by size xs ≤ n → sum_by size ys ≤ n →
    sum_by size (cond b xs ys) ≤ n
size_if true xs ys n h k = h
size_if false xs ys n h k = k

pub places_small : (b : Bool) (t : Tree) → sum_by size (places b t) ≤ size t
places_small b (leaf l) =
    let e = sum_by-cons size (leaf l) [] in
    size_if (visited_sort (leaf_sort l)) (leaf l ∷ []) [] (size (leaf l)) (omega (arith, e)) (omega arith)
places_small b (node h ts) =
    let e = sum_by-cons size (node h ts) [] in
    let i = places_small (goes_back h) ts in
    size_if (visited_sort (head_sort h)) (node h ts ∷ [])
    (cond (is_passed_over (head_sort h)) [] (places (goes_back h) ts)) (size (node h ts)) (omega (arith, e))
    (size_if (is_passed_over (head_sort h)) [] (places (goes_back h) ts) (size (node h ts)) (omega arith)
    (omega (arith, i)))
places_small b (bind ks t) = let i = places_small false t in omega (arith, i)
places_small b nil = omega arith
places_small true (cons t ts) =
    let i = places_small true ts in
    let j = places_small false t in
    let e = sum_by-append size (places true ts) (places false t) in
    omega (arith, i, j, e)
places_small false (cons t ts) =
    let i = places_small false t in
    let j = places_small false ts in
    let e = sum_by-append size (places false t) (places false ts) in
    omega (arith, i, j, e)

pub under_small : (t : Tree) → is_visited t ≡ true → sum_by size (places_under t) < size t
under_small (leaf l) e = omega arith
under_small (node h ts) e = let i = places_small false ts in omega (arith, i)
under_small (bind ks t) e = absurd (cc)
under_small nil e = absurd (cc)
under_small (cons t ts) e = absurd (cc)
