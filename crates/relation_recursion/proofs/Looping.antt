-- The next parts of two forms: what is asked of them, and that they are smaller.
use Rattle.std.proofs.Common.{◌≡◌, ℕ, suc, ◌+◌, ◌*◌, ◌<◌, refl, sym, ap, ◌∙◌, subst, subst₂, arith, IsTrue, List, Option, Result, Ok, Err}
use Rattle.term_enums.specs.declared.Variance.{Variance}
use Rattle.relation_terms.specs.Heads.{Head, Leaf}
use Rattle.relation_terms.specs.Trees.{Tree, Leaves, known, count, nth}
use Rattle.relation_terms.specs.declared.terms.keys.ConstKey.{ConstKey}
use Rattle.relation_terms.specs.declared.terms.generic_arg.GenericArgKind.{GenericArgKind}
use Rattle.relation_folds.specs.declared.error.RelateFault.{RelateFault}
use Rattle.relation_semantics.specs.Relation.{Items, part_at, IsAlias}
use Rattle.relation_semantics.specs.Stores.{IsTermIn, weight}
use Rattle.relation_semantics.specs.Goals.{Goal}
use Rattle.relation_semantics.specs.Errors.{AreOfOneForm, over_parts, over_aliases, one_leaf, parameters, AreOfOneConst, values, expressions, over_arguments, const_parameters, one_const_leaf}
use Rattle.relation_semantics.specs.Parts.{direct_parts, const_parts_of, head_of, const_head_of, IsByParts}
use Rattle.part_variances.specs.PartErrors.{IsFaultOfTy, IsFaultOfConst, IsFaultOfPart, IsResultOfTy, IsResultOfConst, IsResultOfPart}
use Rattle.relation_semantics.specs.Lawful.{State, Manner, Manners, TakesParts, Takes, Asked, LeadsToParts, LeadsAgain, items_in}
use Rattle.relation_semantics.proofs.Going.{depth-mono, depth-strict, depth-spent, depth_later, depth}
use Rattle.relation_semantics.proofs.Standing.{later_term}
use Rattle.relation_semantics.proofs.Parts.{in_part, in_const_part}
use Rattle.relation_semantics.proofs.Bound.{part_by_lists, const_part_by_lists}
use Rattle.relation_semantics.proofs.Deferring.{by_parts_normal}
use Rattle.relation_recursion.proofs.PartSizes.{weight_parts, weight_const_parts}
use Rattle.relation_semantics.proofs.Passing.{manner_then}
use Rattle.relation_semantics.proofs.OneUniverse.{leaves_nth, leaves_parts, leaves_const_parts}
use Rattle.relation_semantics.proofs.Trees.{Leaves_map}
use Rattle.relation_steps.proofs.Fronts.{Fronted, part_small}

module _ (M : Manner) (is : (c : Items) (h : Head) (i : ℕ) (v : Variance) (l : Leaf) → M.takes v l →
    M.takes (part_at c h i v) l) (c : Items) (v : Variance) where
  -- What is taken at a variance has parts that are taken at theirs.
  takes_part : (h : Head) (ts : Tree) (i : ℕ) → i < count ts → Leaves (M.takes v) ts →
      Leaves (M.takes (part_at c h i v)) (nth i ts)
  takes_part h ts i l k =
      Leaves_map (M.takes v) (M.takes (part_at c h i v)) (λ x. is c h i v x) (nth i ts)
      (leaves_nth (M.takes v) ts i l k)

  takes_ty_part : (t : Tree) (i : ℕ) → i < count (direct_parts t) → Takes M v t →
      Takes M (part_at c (head_of t) i v) (nth i (direct_parts t))
  takes_ty_part t i l k =
      (takes_part (head_of t) (direct_parts t) i l (leaves_parts (M.takes v) t k.0), part_by_lists t i l k.1)

  takes_const_part : (t : Tree) (i : ℕ) → i < count (const_parts_of t) → Takes M v t →
      Takes M (part_at c (const_head_of t) i v) (nth i (const_parts_of t))
  takes_const_part t i l k = (
    takes_part (const_head_of t) (const_parts_of t) i l (leaves_const_parts (M.takes v) t k.0),
    const_part_by_lists t i l k.1,
  )

some_part : (i n : ℕ) → i < n → 0 < n
some_part i n h = omega (arith, h)

module _ {Key Id Name : Type 0} (M : Manners) (is : TakesParts M) (r q : State Key Id Name) (a b : Tree) (i : ℕ)
    (x y : Tree) (kx : IsTrue (known x)) (ky : IsTrue (known y)) (k : Asked M r r.ambient a b) where
  -- Of types.
  module _ (f : Fronted M r q (head_of a) r.ambient i (direct_parts a) (direct_parts b)) (lx : i < count (direct_parts a))
      (ly : i < count (direct_parts b)) (ex : x ≡ nth i (direct_parts a)) (ey : y ≡ nth i (direct_parts b)) where
    pub next_asked : (w : Variance) → w ≡ part_at (items_in r) (head_of a) i r.ambient →
        w ≡ part_at (items_in r) (head_of b) i r.ambient → Asked M q w x y
    next_asked w ew eu =
        let l = ((f.passes).goes).later in record {
          left_known = kx;
          right_known = ky;
          left_in = subst (IsTermIn q.store) (sym ex) (later_term r.store q.store l.grows l.universe_stands
              (nth i (direct_parts a)) (in_part r.store a i lx k.left_in));
          right_in = subst (IsTermIn q.store) (sym ey) (later_term r.store q.store l.grows l.universe_stands
              (nth i (direct_parts b)) (in_part r.store b i ly k.right_in));
          left_taken = manner_then M (λ z. Takes z w x) f.passes (subst₂ (Takes (M r.kept.settings)) (sym ew) (sym ex)
              (takes_ty_part (M r.kept.settings) (is r.kept.settings) (items_in r) r.ambient a i lx k.left_taken));
          right_taken = manner_then M (λ z. Takes z w y) f.passes (subst₂ (Takes (M r.kept.settings)) (sym eu) (sym ey)
              (takes_ty_part (M r.kept.settings) (is r.kept.settings) (items_in r) r.ambient b i ly k.right_taken));
        }

    pub next_under : 8 * depth (q.store).budget (weight q.store x + weight q.store y) + 4 <
        8 * depth (r.store).budget (weight r.store a + weight r.store b) + 1
    next_under =
        let small = part_small (head_of a) r.ambient i (direct_parts a) (direct_parts b) x y f lx ly ex ey in
        let d = depth_later (f.passes).goes (weight q.store x + weight q.store y)
        (weight r.store (direct_parts a) + weight r.store (direct_parts b)) small in
        let p = weight_parts r.store a (some_part i (count (direct_parts a)) lx) in
        let s = weight_parts r.store b (some_part i (count (direct_parts b)) ly) in
        let e = depth-strict (r.store).budget (weight r.store (direct_parts a) + weight r.store (direct_parts b))
        (weight r.store a + weight r.store b) (omega (arith, p, s)) in
        omega (arith, d, e)

  -- Of constants.
  module _ (f : Fronted M r q (const_head_of a) r.ambient i (const_parts_of a) (const_parts_of b))
      (lx : i < count (const_parts_of a)) (ly : i < count (const_parts_of b)) (ex : x ≡ nth i (const_parts_of a))
      (ey : y ≡ nth i (const_parts_of b)) where
    pub next_const_asked : (w : Variance) → w ≡ part_at (items_in r) (const_head_of a) i r.ambient →
        w ≡ part_at (items_in r) (const_head_of b) i r.ambient → Asked M q w x y
    next_const_asked w ew eu =
        let l = ((f.passes).goes).later in record {
          left_known = kx;
          right_known = ky;
          left_in = subst (IsTermIn q.store) (sym ex) (later_term r.store q.store l.grows l.universe_stands
              (nth i (const_parts_of a)) (in_const_part r.store a i lx k.left_in));
          right_in = subst (IsTermIn q.store) (sym ey) (later_term r.store q.store l.grows l.universe_stands
              (nth i (const_parts_of b)) (in_const_part r.store b i ly k.right_in));
          left_taken = manner_then M (λ z. Takes z w x) f.passes (subst₂ (Takes (M r.kept.settings)) (sym ew) (sym ex)
              (takes_const_part (M r.kept.settings) (is r.kept.settings) (items_in r) r.ambient a i lx k.left_taken));
          right_taken = manner_then M (λ z. Takes z w y) f.passes (subst₂ (Takes (M r.kept.settings)) (sym eu) (sym ey)
              (takes_const_part (M r.kept.settings) (is r.kept.settings) (items_in r) r.ambient b i ly k.right_taken));
        }

    pub next_const_under : 8 * depth (q.store).budget (weight q.store x + weight q.store y) + 4 <
        8 * depth (r.store).budget (weight r.store a + weight r.store b) + 1
    next_const_under =
        let small = part_small (const_head_of a) r.ambient i (const_parts_of a) (const_parts_of b) x y f lx ly ex ey in
        let d = depth_later (f.passes).goes (weight q.store x + weight q.store y)
        (weight r.store (const_parts_of a) + weight r.store (const_parts_of b)) small in
        let p = weight_const_parts r.store a (some_part i (count (const_parts_of a)) lx) in
        let s = weight_const_parts r.store b (some_part i (count (const_parts_of b)) ly) in
        let e = depth-strict (r.store).budget (weight r.store (const_parts_of a) + weight r.store (const_parts_of b))
        (weight r.store a + weight r.store b) (omega (arith, p, s)) in
        omega (arith, d, e)

module _ {Key Id Name : Type 0} {r q : State Key Id Name} (M : Manners) (a b : Tree) where
  -- After a step to parts, and after one to another pair.
  pub parts_under : (F : Tree → Type 0) (added : List Goal) (x y : Tree) → LeadsToParts M F r q added a b x y →
      8 * depth (q.store).budget (weight q.store x + weight q.store y) + 1 <
      8 * depth (r.store).budget (weight r.store a + weight r.store b) + 2
  parts_under F added x y l =
      let d = depth-mono (q.store).budget (weight q.store x + weight q.store y) (weight r.store a + weight r.store b)
      l.not_larger in
      let e = ap (λ n. depth n (weight r.store a + weight r.store b)) l.same_budget in
      omega (arith, d, e)

  pub again_under : (added : List Goal) (k l : Tree) (v : Variance) (x y u : Tree) → LeadsAgain M r q added a b k l v x y u →
      8 * depth (q.store).budget (weight q.store x + weight q.store y) + 4 <
      8 * depth (r.store).budget (weight r.store a + weight r.store b) + 2
  again_under added k l v x y u led =
      let d = depth-spent 1 (q.store).budget (weight q.store x + weight q.store y) (weight r.store a + weight r.store b)
      led.not_larger in
      let e = ap (λ n. depth n (weight r.store a + weight r.store b)) led.falls in
      let f = ap (λ n. depth n (weight r.store a + weight r.store b)) (one_more (q.store).budget) in
      omega (arith, d, e, f)
    where
      one_more : (n : ℕ) → 1 + n ≡ suc n
      one_more n = omega arith

-- What two parts answered, by what the whole answers.
module _ {A Key Id Name : Type 0} where
  pub failed_ty : (t : Tree) (x y : GenericArgKind Key) (a : Result A (RelateFault Key Id Name))
      (e : RelateFault Key Id Name) → IsResultOfTy t x y a (Err e) →
      (f : RelateFault Key Id Name) × (a ≡ Err f) × IsFaultOfTy t x y f e
  failed_ty t x y (Ok u) e h = absurd h
  failed_ty t x y (Err f) e h = (f, refl, h)

  pub failed_const : (t : Tree) (c d : ConstKey Key) (a : Result A (RelateFault Key Id Name))
      (e : RelateFault Key Id Name) → IsResultOfConst t c d a (Err e) →
      (f : RelateFault Key Id Name) × (a ≡ Err f) × IsFaultOfConst t c d f e
  failed_const t c d (Ok u) e h = absurd h
  failed_const t c d (Err f) e h = (f, refl, h)

  pub kept_ty : (t : Tree) (x y : GenericArgKind Key) (a : Result A (RelateFault Key Id Name)) (u : A) →
      IsResultOfTy t x y a (Ok u) → a ≡ Ok u
  kept_ty t x y (Ok v) u h = ap Ok (sym h)
  kept_ty t x y (Err f) u h = absurd h

  pub kept_const : (t : Tree) (c d : ConstKey Key) (a : Result A (RelateFault Key Id Name)) (u : A) →
      IsResultOfConst t c d a (Ok u) → a ≡ Ok u
  kept_const t c d (Ok v) u h = ap Ok (sym h)
  kept_const t c d (Err f) u h = absurd h

  pub failed_part : (place : Option ℕ) (a : Result A (RelateFault Key Id Name)) (e : RelateFault Key Id Name) →
      IsResultOfPart place a (Err e) → (f : RelateFault Key Id Name) × (a ≡ Err f) × IsFaultOfPart place f e
  failed_part place (Ok u) e h = absurd h
  failed_part place (Err f) e h = (f, refl, h)

  pub kept_part : (place : Option ℕ) (a : Result A (RelateFault Key Id Name)) (u : A) →
      IsResultOfPart place a (Ok u) → a ≡ Ok u
  kept_part place (Ok v) u h = ap Ok (sym h)
  kept_part place (Err f) u h = absurd h

-- Terms of one form that are no aliases have one form over their parts.
heads_alike : (a b : Tree) → (IsAlias a → ⊥) → AreOfOneForm a b → head_of a ≡ head_of b
heads_alike a b f (over_parts d e n) = ap head_of d ∙ sym (ap head_of e)
heads_alike a b f (over_aliases d e n) = absurd (f (subst IsAlias (sym d) tt))
heads_alike a b f (one_leaf d e) = ap head_of d ∙ sym (ap head_of e)
heads_alike a b f (parameters d e p) = ap head_of d ∙ sym (ap head_of e)

pub heads_one : (a b : Tree) → IsByParts a → AreOfOneForm a b → head_of a ≡ head_of b
heads_one a b o = heads_alike a b (by_parts_normal a o)

-- Terms of one form have parts at one variance: that doesn't look at the kind of an alias.
pub parts_alike : (c : Items) (a b : Tree) (i : ℕ) (v : Variance) → AreOfOneForm a b →
    part_at c (head_of a) i v ≡ part_at c (head_of b) i v
parts_alike c a b i v (over_parts d e n) = ap (λ h. part_at c h i v) (ap head_of d ∙ sym (ap head_of e))
parts_alike c a b i v (over_aliases d e n) =
    ap (λ t. part_at c (head_of t) i v) d ∙ sym (ap (λ t. part_at c (head_of t) i v) e)
parts_alike c a b i v (one_leaf d e) = ap (λ h. part_at c h i v) (ap head_of d ∙ sym (ap head_of e))
parts_alike c a b i v (parameters d e p) = ap (λ h. part_at c h i v) (ap head_of d ∙ sym (ap head_of e))

pub const_heads_alike : (a b : Tree) → AreOfOneConst a b → const_head_of a ≡ const_head_of b
const_heads_alike a b (values d e o) = ap const_head_of d ∙ sym (ap const_head_of e)
const_heads_alike a b (expressions d e n) = ap const_head_of d ∙ sym (ap const_head_of e)
const_heads_alike a b (over_arguments d e n) = ap const_head_of d ∙ sym (ap const_head_of e)
const_heads_alike a b (one_const_leaf d e) = ap const_head_of (d ∙ sym e)
const_heads_alike a b (const_parameters d e p) = ap const_head_of d ∙ sym (ap const_head_of e)
