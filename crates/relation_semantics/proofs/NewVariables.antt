-- Any number of new variables of a universe: what stands, and which assignments extend to them.
use Rattle.std.proofs.Common.{◌≡◌, ◌⊎◌, ℕ, suc, ◌≤◌, refl, sym, ap, ap₂, ◌∙◌, arith, inl, inr, subst, subst₂, All, length, get_or, [], ◌∷◌, ◌++◌}
use native.Mathlib.Decide.{dec_le}
use Rattle.relation_terms.specs.Heads.{VarKind, VarKind_discrete}
use Rattle.relation_terms.specs.Trees.{Tree, Assign, Leaves}
use Rattle.relation_semantics.specs.Relation.{Interpretation, Outlives, IsValueLeaf, StaysWithin}
use Rattle.relation_semantics.specs.Stores.{Store, entry_of, bound_term, universe_of, IsMade, MayStandFor, IsNamable, IsAssignment, MeetsBindings, IsSound, Satisfies, Constraint, outlives_constraint, equal_constraint, ConstraintHolds, ConstraintIn, all_bound, resolved, weight}
use Rattle.relation_semantics.specs.FirstOrder.{MeetsErased}
use Rattle.relation_semantics.specs.Steps.{MakesVariable, MakesNoNumber, IsNumberKind, IsLater, AgreeOn, AgreeErased}
use Rattle.relation_semantics.specs.Measures.{Goes}
use Rattle.relation_semantics.specs.Generalising.{MakesUnbound, makes_none, makes_one}
use Rattle.relation_semantics.proofs.Standing.{term_context}
use Rattle.relation_semantics.proofs.Values.{same_value}
use Rattle.relation_semantics.proofs.Going.{later_itself, later_through}
use Rattle.relation_semantics.proofs.Growing.{same_entries, same_terms, old_or_new, same_bound, resolved_still, weight_still, universes_stand, made_sound, made_is_later}
use Rattle.relation_semantics.proofs.Composing.{All_map₂}
use Rattle.relation_semantics.proofs.StoreCalls.{get_or_past}
use Rattle.relation_semantics.proofs.Exactness.{same_erased}

-- One after another.
pub makes_then : {u : ℕ} {a b d : Store} → MakesUnbound u a b → MakesUnbound u b d → MakesUnbound u a d
makes_then f makes_none = f
makes_then f (makes_one g o q) = makes_one (makes_then f g) o q

-- A new variable's universe.
pub new_universe : (before after : Store) (k : VarKind) (n u : ℕ) → IsSound before → MakesVariable before after k n u → universe_of after k n ≡ u
new_universe before after k n u g q = ap (λ us. get_or us n 0) q.universes_grow ∙ ap (λ m. get_or (before.universes k ++ u ∷ []) m 0) (q.number ∙ sym (g.one_universe_each k)) ∙ get_or_past (before.universes k) u

-- What new variables leave as it was.
pub record Adds (u : ℕ) (before after : Store) : Type 0 where
  pub sound : IsSound after
  pub later : IsLater before after
  pub entries : (j : VarKind) (m : ℕ) → entry_of after j m ≡ entry_of before j m
  pub terms : (j : VarKind) (m : ℕ) → bound_term before j m ≡ bound_term after j m
  pub universes : (j : VarKind) (m : ℕ) → IsMade before j m → universe_of after j m ≡ universe_of before j m
  pub new_universes : (j : VarKind) (m : ℕ) → IsMade after j m → (IsMade before j m → ⊥) → universe_of after j m ≡ u
  pub constraints : after.constraints ≡ before.constraints
  pub universe : after.universe ≡ before.universe
  pub tainted : after.tainted ≡ before.tainted
  pub budget : after.budget ≡ before.budget
  pub resolves : (j : VarKind) (m : ℕ) → resolved before j m ≡ resolved after j m
  pub weights : (t : Tree) → weight before t ≡ weight after t
  pub none_bound : all_bound after ≡ all_bound before
  pub numbers : MakesNoNumber before after

adds_none : (u : ℕ) (st : Store) → IsSound st → Adds u st st
adds_none u st g = record {
  sound = g;
  later = later_itself st;
  entries = λ j m. refl;
  terms = λ j m. refl;
  universes = λ j m h. refl;
  new_universes = λ j m h o. absurd (o h);
  constraints = refl;
  universe = refl;
  tainted = refl;
  budget = refl;
  resolves = λ j m. refl;
  weights = λ t. refl;
  none_bound = refl;
  numbers = λ j h. refl;
}

module _ (u : ℕ) (before middle after : Store) (k : VarKind) (n : ℕ) (a : Adds u before middle) (low : u ≤ before.universe) (no_number : IsNumberKind k → ⊥) (q : MakesVariable middle after k n u) where
  low_still : u ≤ middle.universe
  low_still = let e = a.universe in omega arith

  universes_still : (j : VarKind) (m : ℕ) → IsMade before j m → universe_of after j m ≡ universe_of before j m
  universes_still j m h = universes_stand middle after k n u q a.sound j m ((a.later).grows j m h) ∙ a.universes j m h

  universes_of_new : (j : VarKind) (m : ℕ) → IsMade after j m → (IsMade before j m → ⊥) → universe_of after j m ≡ u
  universes_of_new j m h o = go (old_or_new middle after k n u q j m h)
    where
      go : IsMade middle j m ⊎ ((j ≡ k) × (m ≡ n)) → universe_of after j m ≡ u
      go (inl p) = universes_stand middle after k n u q a.sound j m p ∙ a.new_universes j m p o
      go (inr p) = ap₂ (universe_of after) p.0 p.1 ∙ new_universe middle after k n u a.sound q

  numbers_still : MakesNoNumber before after
  numbers_still j h = go (VarKind_discrete j k)
    where
      go : Dec (j ≡ k) → length (after.entries j) ≡ length (before.entries j)
      go (yes e) = absurd (no_number (subst IsNumberKind e h))
      go (no o) = ap length (q.other_entries j o) ∙ a.numbers j h

  adds_one : Adds u before after
  adds_one = record {
    sound = made_sound middle after k n u q a.sound low_still;
    later = later_through a.later (made_is_later middle after k n u q a.sound);
    entries = λ j m. same_entries middle after k n u q j m ∙ a.entries j m;
    terms = λ j m. a.terms j m ∙ same_terms middle after k n u q j m;
    universes = universes_still;
    new_universes = universes_of_new;
    constraints = q.same_constraints ∙ a.constraints;
    universe = q.same_universe ∙ a.universe;
    tainted = q.same_taint ∙ a.tainted;
    budget = q.same_budget ∙ a.budget;
    resolves = λ j m. a.resolves j m ∙ resolved_still middle after k n u q j m;
    weights = λ t. a.weights t ∙ weight_still middle after k n u q t;
    none_bound = same_bound middle after k n u q ∙ a.none_bound;
    numbers = numbers_still;
  }

pub adds : {u : ℕ} {before after : Store} → IsSound before → u ≤ before.universe → MakesUnbound u before after → Adds u before after
adds {u} {before} g low makes_none = adds_none u before g
adds {u} {before} {after} g low (makes_one {middle = middle} {k = k} {n = n} f o q) = adds_one u before middle after k n (adds g low f) low o q

-- New variables cost nothing.
pub adds_goes : {u : ℕ} {before after : Store} → Adds u before after → Goes 0 before after
adds_goes {u} {before} {after} a = record {
  later = a.later;
  made = a.numbers;
  spent = 0;
  counts = let e = a.budget in omega arith;
  binds = let e = a.none_bound in omega arith;
  grows = λ m t above below. let e = a.weights t in omega (arith, e, below);
}

-- A constraint of the context holds under each assignment that agrees on its variables.
pub constraint_agrees : (w : Interpretation) (st : Store) (s s' : Assign) → AgreeOn st s s' → (q : Constraint) → ConstraintIn st q → ConstraintHolds w s q → ConstraintHolds w s' q
constraint_agrees w st s s' agree (outlives_constraint a b) i h = subst₂ (Outlives w) (same_value st s s' a agree (term_context st a i.0.1)) (same_value st s s' b agree (term_context st b i.1.1)) h
constraint_agrees w st s s' agree (equal_constraint a b) i h = (
  subst₂ (Outlives w) (same_value st s s' a agree (term_context st a i.0.1)) (same_value st s s' b agree (term_context st b i.1.1)) h.0,
  subst₂ (Outlives w) (same_value st s s' b agree (term_context st b i.1.1)) (same_value st s s' a agree (term_context st a i.0.1)) h.1,
)

-- One of two trees.
unfoldable pub either_of : {A : Type 0} → Dec A → Tree → Tree → Tree
either_of (yes h) x y = x
either_of (no o) x y = y

-- A value that a variable of a kind may have in a universe.
abbrev pub IsValueFor : VarKind → ℕ → Tree → Type 0
IsValueFor k u t = MayStandFor k t × Leaves IsValueLeaf t × StaysWithin 0 t × Leaves (IsNamable u) t

-- Assignments that give new variables such values.
module _ (u : ℕ) (before after : Store) (g : IsSound before) (a : Adds u before after) (s' : Assign)
    (new : (j : VarKind) (m : ℕ) → IsMade after j m → (IsMade before j m → ⊥) → IsValueFor j u (s' j m)) where
  pub assigns_after : IsAssignment before s' → IsAssignment after s'
  assigns_after h j m made = go (dec_le (suc m) (length (before.entries j)))
    where
      go : Dec (suc m ≤ length (before.entries j)) → IsValueFor j (universe_of after j m) (s' j m)
      go (yes p) = let v = h j m p in (v.0, v.1, v.2, subst (λ x. Leaves (IsNamable x) (s' j m)) (sym (a.universes j m p)) v.3)
      go (no o) = let v = new j m made o in (v.0, v.1, v.2, subst (λ x. Leaves (IsNamable x) (s' j m)) (sym (a.new_universes j m made o)) v.3)

  bindings_after : MeetsBindings before s' → MeetsBindings after s'
  bindings_after h j m t e = h j m t (a.terms j m ∙ e)

  pub erased_after : MeetsErased before s' → MeetsErased after s'
  erased_after h j m t e = h j m t (a.terms j m ∙ e)

  pub satisfies_after : (w : Interpretation) (s : Assign) → Satisfies w before s → AgreeOn before s s' → Satisfies w after s'
  satisfies_after w s sat agree = record {
    assigns = assigns_after (λ j m p. subst (IsValueFor j (universe_of before j m)) (agree j m p) (sat.assigns j m p));
    bindings = bindings_after (λ j m t e. let b = g.bindings j m t e in sym (agree j m b.made) ∙ sat.bindings j m t e ∙ same_value before s s' t agree (term_context before t b.is_in));
    regions = subst (All (ConstraintHolds w s')) (sym a.constraints) (All_map₂ (ConstraintIn before) (ConstraintHolds w s) (ConstraintHolds w s') (constraint_agrees w before s s' agree) before.constraints g.constraints_in sat.regions);
  }

-- What meets bindings up to erasure, for an assignment that agrees.
pub erased_agrees : (st : Store) (s s' : Assign) → IsSound st → AgreeErased st s s' → MeetsErased st s → MeetsErased st s'
erased_agrees st s s' g agree h j m t e = let b = g.bindings j m t e in sym (agree j m b.made) ∙ h j m t e ∙ same_erased st s s' t agree (term_context st t b.is_in)
