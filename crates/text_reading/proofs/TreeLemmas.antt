-- Nodes that are added to a tree.
use Rattle.std.proofs.Common.{zero, ◌≡◌, ℕ, ◌-◌, ◌<◌, ◌≤◌, List, [], ◌∷◌, ◌++◌, Some, unwrap_or, ◌⊎◌, inl, inr, length, suc, refl, sym, ◌∙◌, ap, subst, arith, length-append}
use Rattle.std.specs.Prelude.{Bool, true, false, if◌then◌else◌}
use Rattle.std.specs.List.{slice_get}
use Rattle.std.proofs.lemmas.List.{append-nil, get_or_append_left, get_or-append_right}
use Rattle.std.proofs.lemmas.Grind.{flat_map-append}
use Rattle.text_reading.specs.declared.reading.tree.Node.{Node}
use Rattle.text_reading.specs.Trees.{HasPartsBelow, IsFounded, EachStands, EachBelow, kind_words, node_words}

-- what stands in a list with one more at its end
pub get_more : {X : Type 0} (xs : List X) (x y : X) (k : ℕ) → slice_get (xs ++ x ∷ []) k ≡ Some y → (slice_get xs k ≡ Some y) ⊎ ((k ≡ length xs) × (x ≡ y))
get_more [] x y zero h = inr (refl, ap (λ o. unwrap_or o x) h)
get_more [] x y (suc k) h = absurd cc
get_more (z ∷ zs) x y zero h = inl h
get_more (z ∷ zs) x y (suc k) h =
    elim (get_more zs x y k h) [ inl e ↦ inl e | inr p ↦ inr (ap suc p.0, p.1) ]

-- further parts leave those of a node
pub parts_further : (ps more : List ℕ) (k : ℕ) (n : Node) → HasPartsBelow ps k n → HasPartsBelow (ps ++ more) k n
parts_further ps more k n h = (
  h.0,
  omega (arith, h.1, length-append ps more),
  λ j a b.
      subst (λ x. x < k) (sym (get_or_append_left ps more 0 j (omega (arith, h.1, b)))) (h.2 j a b),
)

-- further parts leave a tree founded
pub founded_further : (ns : List Node) (ps more : List ℕ) → IsFounded ns ps → IsFounded ns (ps ++ more)
founded_further ns ps more f k n h = parts_further ps more k n (f k n h)

-- a node over further parts
pub parts_new : (ps more : List ℕ) (k : ℕ) (n : Node) → n.first ≡ length ps → n.behind ≡ length (ps ++ more) → EachBelow more k → HasPartsBelow (ps ++ more) k n
parts_new ps more k n a b below = (
  omega (arith, a, b, length-append ps more),
  omega (arith, b),
  λ j p q.
      subst (λ x. x < k) (sym (get_or-append_right ps more (length ps) j 0 refl (omega (arith, a, p))))
      (below (j - length ps) (omega (arith, a, b, p, q, length-append ps more))),
)

-- one more node over further parts
pub founded_more : (ns : List Node) (ps more : List ℕ) (n : Node) → IsFounded ns ps → n.first ≡ length ps → n.behind ≡ length (ps ++ more) → EachBelow more (length ns) → IsFounded (ns ++ n ∷ []) (ps ++ more)
founded_more ns ps more n f a b below k m h = elim (get_more ns n m k h) [
  | inl e ↦ founded_further ns ps more f k m e
  | inr p ↦ subst (HasPartsBelow (ps ++ more) k) p.1
      (subst (λ l. HasPartsBelow (ps ++ more) l n) (sym p.0) (parts_new ps more (length ns) n a b below))
]

-- one more node that stands in the text
pub stands_more : (ns : List Node) (len : ℕ) (n : Node) → EachStands ns len → n.start ≤ n.end → n.end ≤ len → EachStands (ns ++ n ∷ []) len
stands_more ns len n f a b k m h = elim (get_more ns n m k h) [
  | inl e ↦ f k m e
  | inr p ↦ subst (λ (x : Node). (x.start ≤ x.end) × (x.end ≤ len)) p.1 (a, b)
]

-- one more number in a list of numbers of nodes
pub below_one_more : (xs : List ℕ) (x n m : ℕ) → EachBelow xs n → n ≤ m → x < m → EachBelow (xs ++ x ∷ []) m
below_one_more [] x n m f a b zero h = b
below_one_more [] x n m f a b (suc k) h = absurd (omega (arith, h))
below_one_more (y ∷ ys) x n m f a b zero h = let p : y < n = f 0 (omega arith) in omega (arith, p, a)
below_one_more (y ∷ ys) x n m f a b (suc k) h =
    below_one_more ys x n m (λ i p. f (suc i) (omega (arith, p))) a b k (omega (arith, h))

-- the leaves of one more node
pub node_words_more : (ns : List Node) (n : Node) → node_words (ns ++ n ∷ []) ≡ node_words ns ++ kind_words n.kind n.start n.end
node_words_more ns n =
    flat_map-append (λ (m : Node). kind_words m.kind m.start m.end) ns (n ∷ [])
    ∙ ap (λ l. node_words ns ++ l) (append-nil (kind_words n.kind n.start n.end))

-- a node that was added or not
pub founded_either : (b : Bool) (ns ms : List Node) (ps qs more : List ℕ) (n : Node) → ms ≡ (if b then ns ++ n ∷ [] else ns) → qs ≡ ps ++ more → IsFounded ns ps → n.first ≡ length ps → n.behind ≡ length qs → EachBelow more (length ns) → IsFounded ms qs
founded_either true ns ms ps qs more n e g f a b below =
    subst (λ x. IsFounded x qs) (sym e)
    (subst (IsFounded (ns ++ n ∷ [])) (sym g) (founded_more ns ps more n f a (b ∙ ap length g) below))
founded_either false ns ms ps qs more n e g f a b below =
    subst (λ x. IsFounded x qs) (sym e) (subst (IsFounded ns) (sym g) (founded_further ns ps more f))

pub stands_either : (b : Bool) (ns ms : List Node) (len : ℕ) (n : Node) → ms ≡ (if b then ns ++ n ∷ [] else ns) → EachStands ns len → n.start ≤ n.end → n.end ≤ len → EachStands ms len
stands_either true ns ms len n e f a b = subst (λ x. EachStands x len) (sym e) (stands_more ns len n f a b)
stands_either false ns ms len n e f a b = subst (λ x. EachStands x len) (sym e) f
