-- The parts of types and constants: of the context, and smaller.
use Rattle.std.proofs.Common.{◌≡◌, ℕ, zero, suc, ◌<◌, refl, sym, ap, ◌∙◌, subst, arith, inl, inr}
use Rattle.std.proofs.Common.{IsTrue, List, length, get_or}
use Rattle.relation_terms.specs.Heads.{VarKind, Head}
use Rattle.relation_terms.specs.Heads.{unevaluated, expression}
use Rattle.relation_terms.specs.Heads.{value, value_branch}
use Rattle.relation_terms.specs.Trees.{Tree, leaf, node, bind, nil, cons, Assign, apply, Occurs, size, count}
use Rattle.relation_terms.specs.Trees.{nth}
use Rattle.relation_terms.specs.Trees.{known, list_tree, IsList}
use Rattle.relation_semantics.specs.Relation.{StaysWithin}
use Rattle.relation_semantics.specs.Stores.{Store, IsNamable, IsMadeLeaf, IsTermIn, InContext}
use Rattle.relation_semantics.specs.Parts.{direct_parts, const_parts_of}
use Rattle.relation_semantics.proofs.OneUniverse.{leaves_nth}
use Rattle.relation_terms.proofs.Members.{list_count, list_is, list_nth, item_known}
use Rattle.relation_semantics.specs.Making.{form_over}

-- A list of parts, as the slice that an interner reads.
module _ {K : Type 0} (f : K → Tree) (xs : List K) (u : Tree) (i : u ≡ list_tree f xs) where
  pub slice_counts : (w : Tree) → w ≡ u → length xs ≡ count w
  slice_counts w e = sym (list_count f xs) ∙ ap count (sym (e ∙ i))

  pub slice_list : (w : Tree) → w ≡ u → IsList w
  slice_list w e = subst IsList (sym (e ∙ i)) (list_is f xs)

  pub slice_below : (w : Tree) → w ≡ u → (n : ℕ) → n < count w → n < length xs
  slice_below w e n h = omega (arith, slice_counts w e)

  pub slice_sure : (w : Tree) → w ≡ u → IsTrue (known w) → (n : ℕ) (d x : K) → n < count w → x ≡ get_or xs n d →
      IsTrue (known (f x))
  slice_sure w e k n d x h q = subst (λ z. IsTrue (known (f z))) (sym q)
      (item_known f xs n d (slice_below w e n h) (subst (λ t. IsTrue (known t)) (e ∙ i) k))

  pub slice_nth : (w : Tree) → w ≡ u → (n : ℕ) (d x : K) → n < count w → x ≡ get_or xs n d → f x ≡ nth n w
  slice_nth w e n d x h q = ap f q ∙ sym (list_nth f xs n d (slice_below w e n h)) ∙ ap (nth n) (sym (e ∙ i))

-- What a constant's parts are of: of its own list, or of its value's.
pub data OverParts (c : Tree) : Type 0 where
  of_list : (h : Head) → c ≡ node h (const_parts_of c) → OverParts c
  of_branches : (t : Tree) → c ≡ node value (cons t (cons (node value_branch (const_parts_of c)) nil)) → OverParts c
  of_none : const_parts_of c ≡ nil → OverParts c

of_value : (t v : Tree) → OverParts (node value (cons t (cons v nil)))
of_value t (node value_branch ts) = of_branches t refl
of_value t v = of_none refl

pub over_parts : (c : Tree) → OverParts c
over_parts (node (unevaluated d) ts) = of_list (unevaluated d) refl
over_parts (node (expression k) ts) = of_list (expression k) refl
over_parts (node value (cons t (cons v nil))) = of_value t v
over_parts c = of_none refl

-- Parts of terms of a context are terms of it.
pub in_parts : (st : Store) (t : Tree) → IsTermIn st t → IsTermIn st (direct_parts t)
unfolding IsTermIn InContext
in_parts st (node h ts) p = p
in_parts st (leaf l) p = (tt, tt, tt)
in_parts st (bind ks t) p = (tt, tt, tt)
in_parts st nil p = p
in_parts st (cons t ts) p = (tt, tt, tt)

in_branches : (st : Store) (t u : Tree) → IsTermIn st (node value (cons t (cons (node value_branch u) nil))) →
    IsTermIn st u
unfolding IsTermIn InContext
in_branches st t u p = (p.0.1.0, p.1.1.0, p.2.1.0)

in_form : (st : Store) (h : Head) (u : Tree) → IsTermIn st (node h u) → IsTermIn st u
unfolding IsTermIn InContext
in_form st h u p = p

in_nil : (st : Store) → IsTermIn st nil
unfolding IsTermIn InContext
in_nil st = (tt, tt, tt)

in_over : (st : Store) (c : Tree) → OverParts c → IsTermIn st c → IsTermIn st (const_parts_of c)
in_over st c (of_list h e) p = in_form st h (const_parts_of c) (subst (IsTermIn st) e p)
in_over st c (of_branches t e) p = in_branches st t (const_parts_of c) (subst (IsTermIn st) e p)
in_over st c (of_none e) p = subst (IsTermIn st) (sym e) (in_nil st)

pub in_const_parts : (st : Store) (c : Tree) → IsTermIn st c → IsTermIn st (const_parts_of c)
in_const_parts st c p = in_over st c (over_parts c) p

within_nth : (ts : Tree) (i : ℕ) → i < count ts → StaysWithin 0 ts → StaysWithin 0 (nth i ts)
within_nth (cons t ts) zero h p = p.0
within_nth (cons t ts) (suc i) h p = within_nth ts i (omega arith) p.1
within_nth (leaf l) i h p = absurd (omega arith)
within_nth (node a l) i h p = absurd (omega arith)
within_nth (bind ks l) i h p = absurd (omega arith)
within_nth nil i h p = absurd (omega arith)

pub in_nth : (st : Store) (ts : Tree) (i : ℕ) → i < count ts → IsTermIn st ts → IsTermIn st (nth i ts)
unfolding IsTermIn InContext
in_nth st ts i h p = (
  leaves_nth (IsMadeLeaf st) ts i h p.0,
  within_nth ts i h p.1,
  leaves_nth
      (IsNamable st.universe) ts i h p.2,
)

pub in_part : (st : Store) (t : Tree) (i : ℕ) → i < count (direct_parts t) → IsTermIn st t →
    IsTermIn st (nth i (direct_parts t))
in_part st t i h p = in_nth st (direct_parts t) i h (in_parts st t p)

pub in_const_part : (st : Store) (c : Tree) (i : ℕ) → i < count (const_parts_of c) → IsTermIn st c →
    IsTermIn st (nth i (const_parts_of c))
in_const_part st c i h p = in_nth st (const_parts_of c) i h (in_const_parts st c p)

-- A part is smaller, and so is what it comes to.
pub nth_size : (s : Assign) (ts : Tree) (i : ℕ) → i < count ts → size (apply s (nth i ts)) < size (apply s ts)
nth_size s (cons t ts) zero h = omega arith
nth_size s (cons t ts) (suc i) h = let e = nth_size s ts i (omega arith) in omega arith
nth_size s (leaf l) i h = absurd (omega arith)
nth_size s (node a l) i h = absurd (omega arith)
nth_size s (bind ks l) i h = absurd (omega arith)
nth_size s nil i h = absurd (omega arith)

pub parts_size : (s : Assign) (t : Tree) → 0 < count (direct_parts t) → size (apply s (direct_parts t)) < size (apply s t)
parts_size s (node h ts) c = omega arith
parts_size s (leaf l) c = absurd (omega arith)
parts_size s (bind ks t) c = absurd (omega arith)
parts_size s nil c = absurd (omega arith)
parts_size s (cons t ts) c = absurd (omega arith)

over_size : (s : Assign) (c : Tree) → OverParts c → 0 < count (const_parts_of c) →
    size (apply s (const_parts_of c)) < size (apply s c)
over_size s c (of_list f e) h = let q = ap (λ u. size (apply s u)) e in omega arith
over_size s c (of_branches t e) h = let q = ap (λ u. size (apply s u)) e in omega arith
over_size s c (of_none e) h = let q = ap count e in absurd (omega arith)

pub const_parts_size : (s : Assign) (c : Tree) → 0 < count (const_parts_of c) →
    size (apply s (const_parts_of c)) < size (apply s c)
const_parts_size s c h = over_size s c (over_parts c) h

-- A variable that stands in no member of a list stands nowhere in it.
pub nowhere : (k : VarKind) (n : ℕ) (ts : Tree) → IsList ts → ((i : ℕ) → i < count ts → Occurs k n (nth i ts) → ⊥) →
    Occurs k n ts → ⊥
nowhere k n nil l h o = o
nowhere k n (cons t ts) l h (inl o) = h 0 (omega arith) o
nowhere k n (cons t ts) l h (inr o) = nowhere k n ts l (λ i j p. h (suc i) (omega arith) p) o
nowhere k n (leaf x) l h o = l
nowhere k n (node g ts) l h o = l
nowhere k n (bind ks t) l h o = l

-- A term over its own parts is itself.
pub over_itself : (t : Tree) → form_over t (direct_parts t) ≡ t
over_itself (leaf l) = refl
over_itself (node h ts) = refl
over_itself (bind ks t) = refl
over_itself nil = refl
over_itself (cons t ts) = refl
