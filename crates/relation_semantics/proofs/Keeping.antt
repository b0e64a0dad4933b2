-- A fault loses no solution: what made two things one, or unified two terms up to erasure, extends to what is recorded
-- after it.
use Rattle.std.proofs.Common.{◌≡◌, ℕ, suc, ◌<◌, ◌≤◌, refl, sym, ap, arith, subst, List, length}
use native.Mathlib.Decide.{dec_le}
use Rattle.term_enums.specs.declared.Variance.{Variance}
use Rattle.relation_terms.specs.Heads.{VarKind, type_var, int_var, float_var, const_var, region_var, Head, bool_type}
use Rattle.relation_terms.specs.Heads.{static_region, const_param, atom}
use Rattle.relation_terms.specs.Trees.{Tree, leaf, Assign, IsList, nth}
use Rattle.relation_terms.specs.Erasure.{erase}
use Rattle.relation_semantics.specs.Relation.{Items, Way, at, parts}
use Rattle.relation_semantics.specs.Stores.{Store, IsMade, InContext, IsSound, universe_of}
use Rattle.relation_semantics.specs.Goals.{Goal}
use Rattle.relation_semantics.specs.FirstOrder.{Unifies, IsErasedSolution}
use Rattle.relation_semantics.specs.Steps.{IsLater, IsNumberKind, AgreeOn, HasErasedExtension, ChangesNothing}
use Rattle.relation_semantics.specs.Generalising.{MakesUnbound}
use Rattle.relation_semantics.specs.Outcomes.{AreOneUnder, Outcome, StepsTo, ExactStep, Front, ExactFront, KeepsOne}
use Rattle.relation_semantics.specs.Outcomes.{KeepsUnified, KeepsAll}
use Rattle.relation_semantics.proofs.Composing.{agree_through, values_still, parts_one}
use Rattle.relation_semantics.proofs.Exactness.{erased_through, unifies_still, unified_parts}
use Rattle.relation_semantics.proofs.NewVariables.{Adds, adds, either_of, IsValueFor, satisfies_after, assigns_after}
use Rattle.relation_semantics.proofs.NewVariables.{erased_after, erased_agrees}
use Rattle.relation_semantics.proofs.StoreCalls.{nothing_is_seen}

-- Nothing was recorded.
pub one_itself : (way : Way) (st : Store) (a b : Tree) → KeepsOne way st st a b
one_itself way st a b w s sat one = (s, (λ k n m. refl), sat)

pub one_same : {before after : Store} (way : Way) (a b : Tree) → after ≡ before → KeepsOne way before after a b
one_same {before} way a b e = subst (λ st. KeepsOne way before st a b) (sym e) (one_itself way before a b)

pub unified_itself : (st : Store) (a b : Tree) → KeepsUnified st st a b
unified_itself st a b s sol one = (s, (λ k n m. refl), sol)

pub unified_same : {before after : Store} (a b : Tree) → after ≡ before → KeepsUnified before after a b
unified_same {before} a b e = subst (λ st. KeepsUnified before st a b) (sym e) (unified_itself before a b)

-- Where no solution is lost, none is that made two things one.
pub one_of_all : (way : Way) (before after : Store) (a b : Tree) → KeepsAll before after → KeepsOne way before after a b
one_of_all way before after a b f w s sat one = f w s sat

-- Two things were brought together, or a step led to two others.
pub one_outcome : {c : Items} {e : Tree} {way : Way} {before after : Store} {earlier added : List Goal} {a b : Tree} →
    Outcome c e way before after earlier added a b → KeepsOne way before after a b
one_outcome f w s sat one = let z = f.keeps w s sat one in (z.0, z.1, z.2.0)

pub one_led : {c : Items} {e : Tree} {way way' : Way} {before middle : Store} {earlier added : List Goal}
    {a b x y : Tree} (after : Store) → StepsTo c e before middle earlier added way a b way' x y →
    KeepsOne way' middle after x y → KeepsOne way before after a b
one_led after f g w s sat one =
    let z = f.keeps w s sat one in
    let y = g w z.0 z.2.0 z.2.2 in
    (y.0, agree_through f.later z.1 y.1, y.2)

pub unified_led : {before middle : Store} {a b x y : Tree} (after : Store) → ExactStep before middle a b x y →
    KeepsUnified middle after x y → KeepsUnified before after a b
unified_led {before} {middle} after f g s sol one =
    let z = f.keeps s sol one in
    erased_through before middle s z.0 (IsErasedSolution after) f.later z.1 (g z.0 z.2.0 z.2.1)

-- And then no solution at all was lost.
pub one_then_all : (way : Way) (before middle after : Store) (a b : Tree) → IsLater before middle →
    KeepsOne way before middle a b → KeepsAll middle after → KeepsOne way before after a b
one_then_all way before middle after a b l f g w s sat one =
    let z = f w s sat one in
    let y = g w z.0 z.2 in
    (y.0, agree_through l z.1 y.1, y.2)

-- Some of the parts of two lists were brought together, and then two more or none.
pub one_so_far : {c : Items} {e : Tree} {h : Head} {v : Variance} {i : ℕ} {before after : Store}
    {earlier added : List Goal} {xs ys : Tree} → Front c e h v i before after earlier added xs ys →
    KeepsOne (parts h 0 v) before after xs ys
one_so_far f w s sat one = let z = f.keeps w s sat one in (z.0, z.1, z.2.0)

pub one_front : {c : Items} {e : Tree} {h : Head} {v : Variance} {i : ℕ} {before middle : Store}
    {earlier added : List Goal} {xs ys : Tree} (u : Variance) (after : Store) → IsList xs → IsList ys →
    InContext before xs → InContext before ys → Front c e h v i before middle earlier added xs ys →
    KeepsOne (at u) middle after (nth i xs) (nth i ys) → KeepsOne (parts h 0 v) before after xs ys
one_front {i = i} {before = before} {xs = xs} {ys = ys} u after lx ly inx iny f g w s sat one =
    let z = f.keeps w s sat one in
    let y = g w z.0 z.2.0 (parts_one z.0 i xs ys lx ly (values_still before s z.0 xs ys z.1 inx iny one)) in
    (y.0, agree_through f.later z.1 y.1, y.2)

pub unified_front : {before middle : Store} {xs ys : Tree} (i : ℕ) (after : Store) → IsList xs → IsList ys →
    InContext before xs → InContext before ys → ExactFront i before middle xs ys →
    KeepsUnified middle after (nth i xs) (nth i ys) → KeepsUnified before after xs ys
unified_front {before} {middle} {xs} {ys} i after lx ly inx iny f g s sol one =
    let z = f.keeps s sol one in
    erased_through before middle s z.0 (IsErasedSolution after) f.later z.1
    (g z.0 z.2 (unified_parts z.0 i xs ys lx ly (unifies_still before s z.0 xs ys z.1 inx iny one)))

-- What is one, or unified, only where two others are.
pub one_inside : (way way' : Way) (before after : Store) (a b x y : Tree) →
    ((s : Assign) → AreOneUnder way s a b → AreOneUnder way' s x y) → KeepsOne way' before after x y →
    KeepsOne way before after a b
one_inside way way' before after a b x y inside g w s sat one = g w s sat (inside s one)

pub unified_inside : (before after : Store) (a b x y : Tree) → ((s : Assign) → Unifies s a b → Unifies s x y) →
    KeepsUnified before after x y → KeepsUnified before after a b
unified_inside before after a b x y inside g s sol one = g s sol (inside s one)

-- Some value of a kind, which names no placeholder.
some_for : VarKind → Tree
some_for type_var = leaf (atom bool_type)
some_for const_var = leaf (atom (const_param 0 0))
some_for region_var = leaf (atom static_region)
some_for k = leaf (atom bool_type)

some_for_fits : (u : ℕ) (k : VarKind) → (IsNumberKind k → ⊥) → IsValueFor k u (some_for k)
unfolding some_for
some_for_fits u type_var n = (tt, tt, tt, tt)
some_for_fits u const_var n = (tt, tt, tt, tt)
some_for_fits u region_var n = (tt, tt, tt, tt)
some_for_fits u int_var n = absurd (n tt)
some_for_fits u float_var n = absurd (n tt)

-- The assignment that gives each variable that is no store's such a value.
filled : Store → Assign → Assign
filled st s j m = either_of {A = IsMade st j m} (dec_le (suc m) (length (st.entries j))) (s j m) (some_for j)

filled_old : (st : Store) (s : Assign) (j : VarKind) (m : ℕ) → IsMade st j m → filled st s j m ≡ s j m
unfolding filled either_of
filled_old st s j m p = go (dec_le (suc m) (length (st.entries j)))
  where
    go : (d : Dec (suc m ≤ length (st.entries j))) → either_of {A = IsMade st j m} d (s j m) (some_for j) ≡ s j m
    go (yes h) = refl
    go (no o) = absurd (o p)

filled_new : (st : Store) (s : Assign) (j : VarKind) (m : ℕ) → (IsMade st j m → ⊥) → filled st s j m ≡ some_for j
unfolding filled either_of
filled_new st s j m o = go (dec_le (suc m) (length (st.entries j)))
  where
    go : (d : Dec (suc m ≤ length (st.entries j))) → either_of {A = IsMade st j m} d (s j m) (some_for j) ≡ some_for j
    go (yes h) = absurd (o h)
    go (no p) = refl

-- Variables were made of which nothing is recorded: each solution extends to them.
module _ (u : ℕ) (before after : Store) (g : IsSound before) (a : Adds u before after) where
  new_filled : (s : Assign) (j : VarKind) (m : ℕ) → IsMade after j m → (IsMade before j m → ⊥) →
      IsValueFor j u (filled before s j m)
  new_filled s j m made o = subst (IsValueFor j u) (sym (filled_new before s j m o))
      (some_for_fits u j (λ n. o (subst (λ z. m < z) (a.numbers j n) made)))

  still : (s : Assign) → AgreeOn before s (filled before s)
  still s j m p = sym (filled_old before s j m p)

  pub adding_keeps : KeepsAll before after
  adding_keeps w s sat = (
    filled before s,
    still s,
    satisfies_after u before after g a (filled before s) (new_filled s) w s sat (still s),
  )

  pub adding_keeps_erased : (s : Assign) → IsErasedSolution before s → HasErasedExtension before s (IsErasedSolution after)
  adding_keeps_erased s sol = (
    filled before s,
    (λ j m p. ap erase (still s j m p)),
    (
      assigns_after u before after g a (filled before s) (new_filled s)
          (λ j m p. subst (IsValueFor j (universe_of before j m)) (still s j m p) (sol.0 j m p)),
      erased_after u before after g a (filled before s) (new_filled s)
          (erased_agrees before s (filled before s) g (λ j m p. ap erase (still s j m p)) sol.1),
    ),
  )

-- So it does where a universe may have been made before.
pub opening_keeps : (before middle after : Store) → ChangesNothing before middle → IsSound before →
    MakesUnbound middle.universe middle after → KeepsAll before after
opening_keeps before middle after h g f w s sat =
    let seen = nothing_is_seen before middle h in
    let sound : IsSound middle = seen.0 g in
    let a : Adds middle.universe middle after = adds sound (omega arith) f in
    let z = adding_keeps middle.universe middle after sound a w s ((seen.1 w s).1 sat) in
    (z.0, (λ k n m. z.1 k n (subst (λ es. n < length es) (sym (h.same_entries k)) m)), z.2)
