-- The parts of a list's tree.
use Rattle.std.proofs.Common.{ℕ, zero, suc, ◌<◌, ◌≡◌, IsTrue, List, [], ◌∷◌, length, get_or, arith, sym, subst, subst₂}
use Rattle.std.proofs.Common.{Option, Some, None, refl, ◌+◌, ◌≤◌, ◌&&◌, true, false, take, drop, slice_range}
use Rattle.std.proofs.Common.{◌-◌, ◌*◌, ◌∙◌, ap}
use Rattle.std.proofs.lemmas.Bool.{and_parts, false≢true}
use Rattle.std.specs.Cmp.Derive.{both_true}
use Rattle.relation_terms.specs.Heads.{BoundKind, Head}
use Rattle.relation_terms.specs.Trees.{Tree, leaf, node, bind, nil, cons, known, size, list_tree, front, last}
use Rattle.relation_terms.specs.Meaning.{under}
use Rattle.relation_terms.proofs.Binders.{under_known, front_known, known_if, front_one}

module _ {A : Type 0} (f : A → Tree) where
  -- A part is smaller than the whole.
  pub size_part : (xs : List A) (i : ℕ) (d : A) → i < length xs → size (f (get_or xs i d)) < size (list_tree f xs)
  size_part [] i d h = absurd (omega arith)
  size_part (x ∷ xs) zero d h = omega arith
  size_part (x ∷ xs) (suc i) d h = let k = size_part xs i d (omega arith) in omega (arith, k)

  -- A part of what is known is known.
  pub known_part : (xs : List A) (i : ℕ) (d : A) → i < length xs → IsTrue (known (list_tree f xs)) → IsTrue (known (f (get_or xs i d)))
  known_part [] i d h k = absurd (omega arith)
  known_part (x ∷ xs) zero d h k = (and_parts (known (f x)) (known (list_tree f xs)) k).0
  known_part (x ∷ xs) (suc i) d h k = known_part xs i d (omega arith) (and_parts (known (f x)) (known (list_tree f xs)) k).1

  -- The same of what is known to be a part, and of what is known to be the whole.
  pub part_of : (t : Tree) (xs : List A) (i : ℕ) (x : A) → x ≡ get_or xs i x → t ≡ list_tree f xs → i < length xs →
      IsTrue (known t) → IsTrue (known (f x)) × (size (f x) < size t)
  part_of t xs i x e q h k = (
    subst (λ y. IsTrue (known (f y))) (sym e) (known_part xs i x h (subst (λ u. IsTrue (known u)) q k)),
    subst₂ (λ y u. size (f y) < size u) (sym e) (sym q) (size_part xs i x h),
  )

  -- What stands between two places of a list that is known is known, and no larger than the list.
  known_drop : (n : ℕ) (xs : List A) → IsTrue (known (list_tree f xs)) → IsTrue (known (list_tree f (drop n xs)))
  known_drop zero xs k = k
  known_drop (suc n) [] k = k
  known_drop (suc n) (x ∷ xs) k = known_drop n xs (and_parts (known (f x)) (known (list_tree f xs)) k).1

  known_take : (n : ℕ) (xs : List A) → IsTrue (known (list_tree f xs)) → IsTrue (known (list_tree f (take n xs)))
  known_take zero xs k = refl
  known_take (suc n) [] k = k
  known_take (suc n) (x ∷ xs) k =
      let h = and_parts (known (f x)) (known (list_tree f xs)) k in
      both_true h.0 (known_take n xs h.1)

  pub known_range : (xs : List A) (a b : ℕ) → IsTrue (known (list_tree f xs)) →
      IsTrue (known (list_tree f (slice_range xs a b)))
  known_range xs a b k = known_take (b - a) (drop a xs) (known_drop a xs k)

  size_drop : (n : ℕ) (xs : List A) → size (list_tree f (drop n xs)) ≤ size (list_tree f xs)
  size_drop zero xs = omega arith
  size_drop (suc n) [] = omega arith
  size_drop (suc n) (x ∷ xs) = let h = size_drop n xs in omega (arith, h)

  size_take : (n : ℕ) (xs : List A) → size (list_tree f (take n xs)) ≤ size (list_tree f xs)
  size_take zero [] = omega arith
  size_take zero (x ∷ xs) = omega arith
  size_take (suc n) [] = omega arith
  size_take (suc n) (x ∷ xs) = let h = size_take n xs in omega (arith, h)

  pub size_range : (xs : List A) (a b : ℕ) → size (list_tree f (slice_range xs a b)) ≤ size (list_tree f xs)
  size_range xs a b =
      let h = size_take (b - a) (drop a xs) in
      let k = size_drop a xs in
      omega (arith, h, k)

  -- The same of what is known to stand there, and of what is known to be the list.
  pub range_of : (t : Tree) (xs ys : List A) (a b : ℕ) → ys ≡ slice_range xs a b → t ≡ list_tree f xs →
      IsTrue (known t) → IsTrue (known (list_tree f ys)) × (size (list_tree f ys) ≤ size t)
  range_of t xs ys a b e q k = (
    subst (λ zs. IsTrue (known (list_tree f zs))) (sym e) (known_range xs a b (subst (λ u. IsTrue (known u)) q k)),
    subst₂ (λ zs u. size (list_tree f zs) ≤ size u) (sym e) (sym q) (size_range xs a b),
  )

-- A known binder is larger than its body.
pub under_size : (o : Option (List BoundKind)) (t : Tree) → IsTrue (known (under o t)) → size t < size (under o t)
under_size (Some ks) t k = omega arith
under_size None t k = absurd (false≢true k)

-- A list is as large as its front and its last member.
pub front_size : (ts : Tree) → IsTrue (known (front ts)) → size ts ≤ size (front ts) + size (last ts) + 1
front_size (cons t nil) k =
    let e = front_one t (known_if (known t) k) in
    subst (λ f. size (cons t nil) ≤ size f + size t + 1) (sym e) (omega arith)
front_size (cons t (cons u us)) k =
    let h = front_size (cons u us) (and_parts (known t) (known (front (cons u us))) k).1 in
    omega (arith, h)
front_size (cons t (leaf l)) k = absurd (false≢true (and_parts (known t) false k).1)
front_size (cons t (node h us)) k = absurd (false≢true (and_parts (known t) false k).1)
front_size (cons t (bind ks u)) k = absurd (false≢true (and_parts (known t) false k).1)
front_size nil k = absurd (false≢true k)
front_size (leaf l) k = absurd (false≢true k)
front_size (node h us) k = absurd (false≢true k)
front_size (bind ks u) k = absurd (false≢true k)

-- The types of a known signature under its binder: they are known, and smaller than the whole.
pub signature_part : (o : Option (List BoundKind)) (s i : Head) (ts : Tree) →
    IsTrue (known (under o (node s (cons (node i (front ts)) (cons (last ts) nil))))) →
    IsTrue (known ts) × (size ts < size (under o (node s (cons (node i (front ts)) (cons (last ts) nil)))))
signature_part o s i ts k =
    let sig = node s (cons (node i (front ts)) (cons (last ts) nil)) in
    let k' = (under_known o sig k).1 in
    let f = (and_parts (known (front ts)) (known (last ts) && true) k').0 in
    let small = under_size o sig k in
    let sum = front_size ts f in
    (front_known ts f, omega (arith, small, sum))

-- All that stands in a known form is known, and smaller.
pub over_part : (t u v : Tree) → t ≡ u → (IsTrue (known u) → IsTrue (known v)) × (size u ≡ suc (size v)) →
    IsTrue (known t) → IsTrue (known v) × (4 * size v + 3 < 4 * size t)
over_part t u v e o k =
    let s : size t ≡ suc (size v) = ap size e ∙ o.1 in
    (o.0 (subst (λ x. IsTrue (known x)) e k), omega (arith, s))

-- Every tree has a size.
pub has_size : (t : Tree) → 0 < size t
has_size (leaf l) = omega arith
has_size (node h ts) = omega arith
has_size (bind ks t) = omega arith
has_size nil = omega arith
has_size (cons t ts) = omega arith
