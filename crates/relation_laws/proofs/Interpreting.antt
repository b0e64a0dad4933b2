-- An interpretation in which what relating two terms asks of aliases is so: its pairs are all that are met.
use Rattle.std.proofs.Common.{◌≡◌, ◌⊎◌, ℕ, zero, suc, ◌<◌, refl, sym, ◌∙◌, inl, inr, subst, subst₂, arith, List, [], ◌∷◌, ◌++◌, Some, None, Contains}
use Rattle.std.proofs.lemmas.List.Elements.{Contains-append_left, Contains-append_right}
use Rattle.term_enums.specs.declared.Variance.{Variance}
use Rattle.term_enums.specs.declared.Variance.TheVariants.{Covariant, Contravariant, Invariant, Bivariant}
use Rattle.term_enums.specs.declared.AliasRelationDirection.{AliasRelationDirection}
use Rattle.term_enums.specs.declared.AliasRelationDirection.TheVariants.{Equate, Subtype}
use Rattle.relation_terms.specs.Heads.{Head}
use Rattle.relation_terms.specs.Trees.{Tree, node, cons, count, nth, Leaves, Assign, apply}
use Rattle.relation_semantics.specs.Relation.{Items, Interpretation, IsValueLeaf}
use Rattle.relation_semantics.specs.Goals.{goal_of, alias_relate_predicate, Holds}
use Rattle.relation_semantics.specs.AliasGoals.{alias_at}
use Rattle.relation_semantics.specs.Asking.{Wanted, a_constraint, a_goal, HaveAlias, AsksFor, of_regions, of_aliases, of_unevaluated, of_parts}
use Rattle.relation_semantics.proofs.Trees.{apply_ground}
use Rattle.relation_laws.specs.AskingLaws.{SomeInterpretation}
use Rattle.std.proofs.lemmas.Option.{same_Some}
use Rattle.relation_folds.proofs.Lists.{first_in}

-- Two terms are met where two others are related: as these, or as two of their parts at one place.
data Meets (x y : Tree) : Tree → Tree → Type 0 where
  as_these : {a b : Tree} → x ≡ a → y ≡ b → Meets x y a b
  as_parts : {h k : Head} {a b ts us : Tree} (i : ℕ) → a ≡ node h ts → b ≡ node k us → i < count ts → i < count us →
      Meets x y (nth i ts) (nth i us) → Meets x y a b

turned_round : {x y a b : Tree} → Meets x y a b → Meets y x b a
turned_round (as_these p q) = as_these q p
turned_round (as_parts i p q l m r) = as_parts i q p m l (turned_round r)

-- All that are met, in an environment.
mutual
  all_met : Tree → Tree → Tree → List (Tree × Tree × Tree)
  all_met e (node h ts) (node k us) = (e, node h ts, node k us) ∷ met_in e ts us
  all_met e a b = (e, a, b) ∷ []

  met_in : Tree → Tree → Tree → List (Tree × Tree × Tree)
  met_in e (cons t ts) (cons u us) = all_met e t u ++ met_in e ts us
  met_in e ts us = []

unfold_first : (e a b : Tree) → (xs : List (Tree × Tree × Tree)) × (all_met e a b ≡ (e, a, b) ∷ xs)
unfolding all_met
unfold_first e (node h ts) (node k us) = (met_in e ts us, refl)
unfold_first e a b = ([], refl)

themselves_met : (e a b : Tree) → Contains (all_met e a b) (e, a, b)
themselves_met e a b = let f = unfold_first e a b in subst (λ xs. Contains xs (e, a, b)) (sym f.1) (first_in (e, a, b) f.0)

part_met : (e : Tree) (q : Tree × Tree × Tree) (i : ℕ) (ts us : Tree) → i < count ts → i < count us →
    Contains (all_met e (nth i ts) (nth i us)) q → Contains (met_in e ts us) q
unfolding met_in
part_met e q zero (cons t ts) (cons u us) l m r = Contains-append_left (all_met e t u) (met_in e ts us) q r
part_met e q (suc i) (cons t ts) (cons u us) l m r = Contains-append_right (all_met e t u) (met_in e ts us) q
    (part_met e q i ts us (omega (arith, l)) (omega (arith, m)) r)
part_met e q i (cons t ts) us l m r = absurd (omega (arith, m))
part_met e q i ts us l m r = absurd (omega (arith, l))

form_met : (e : Tree) (q : Tree × Tree × Tree) (h k : Head) (ts us : Tree) → Contains (met_in e ts us) q →
    Contains (all_met e (node h ts) (node k us)) q
unfolding all_met
form_met e q h k ts us r = Contains-append_right ((e, node h ts, node k us) ∷ []) (met_in e ts us) q r

met_is_there : (e x y : Tree) {a b : Tree} → Meets x y a b → Contains (all_met e a b) (e, x, y)
met_is_there e x y {a} {b} (as_these p q) = subst₂ (λ t u. Contains (all_met e t u) (e, x, y)) p q (themselves_met e x y)
met_is_there e x y (as_parts {h = h} {k = k} {ts = ts} {us = us} i p q l m r) =
    subst₂ (λ t u. Contains (all_met e t u) (e, x, y)) (sym p) (sym q)
    (form_met e (e, x, y) h k ts us (part_met e (e, x, y) i ts us l m (met_is_there e x y r)))

-- What is met in terms without variables has none.
value_nth : (i : ℕ) (ts : Tree) → Leaves IsValueLeaf ts → Leaves IsValueLeaf (nth i ts)
value_nth zero (cons t ts) f = f.0
value_nth (suc i) (cons t ts) f = value_nth i ts f.1
value_nth i ts f = tt

met_values : {x y a b : Tree} → Meets x y a b → Leaves IsValueLeaf a → Leaves IsValueLeaf b → Leaves IsValueLeaf x × Leaves IsValueLeaf y
met_values (as_these p q) f g = (subst (Leaves IsValueLeaf) (sym p) f, subst (Leaves IsValueLeaf) (sym q) g)
met_values (as_parts {ts = ts} {us = us} i p q l m r) f g =
    met_values r (value_nth i ts (subst (Leaves IsValueLeaf) p f)) (value_nth i us (subst (Leaves IsValueLeaf) q g))

-- The goal of two that are met.
data GoalOfMet (a b p : Tree) : Type 0 where
  goal_of_met : (x y : Tree) (d : AliasRelationDirection) → p ≡ alias_relate_predicate d x y → HaveAlias x y →
      Meets x y a b ⊎ Meets x y b a → GoalOfMet a b p

other_side : (a b : Tree) → HaveAlias a b → HaveAlias b a
other_side a b (inl i) = inr i
other_side a b (inr i) = inl i

alias_goal : (v : Variance) (a b p : Tree) → HaveAlias a b → alias_at v a b ≡ Some p → GoalOfMet a b p
alias_goal Covariant a b p i r = goal_of_met a b Subtype (sym (same_Some _ _ r)) i (inl (as_these refl refl))
alias_goal Contravariant a b p i r = goal_of_met b a Subtype (sym (same_Some _ _ r)) (other_side a b i) (inr (as_these refl refl))
alias_goal Invariant a b p i r = goal_of_met a b Equate (sym (same_Some _ _ r)) i (inl (as_these refl refl))
alias_goal Bivariant a b p i r = absurd cc

goal_path : {p q : Tree} → a_goal p ≡ a_goal q → p ≡ q
goal_path e = cc

asked_met : {c : Items} {z : Wanted} {v : Variance} {a b : Tree} (p : Tree) → AsksFor c z v a b → z ≡ a_goal p → GoalOfMet a b p
asked_met p (of_regions q w s t r) e = absurd (let u : a_goal p ≡ a_constraint q = sym e ∙ w in cc)
asked_met {v = v} {a = a} {b = b} p (of_aliases o w i n s r) e =
    subst (GoalOfMet a b) (goal_path (sym w ∙ e)) (alias_goal v a b o i r)
asked_met {a = a} {b = b} p (of_unevaluated w i n s d) e =
    goal_of_met a b Equate (goal_path (sym e ∙ w)) i (inl (as_these refl refl))
asked_met {a = a} {b = b} p (of_parts {ts = ts} {us = us} i d g n rh pl l m r) e = go (asked_met p r e)
  where
    go : GoalOfMet (nth i ts) (nth i us) p → GoalOfMet a b p
    go (goal_of_met x y d' q j (inl f)) = goal_of_met x y d' q j (inl (as_parts i d g l m f))
    go (goal_of_met x y d' q j (inr f)) = goal_of_met x y d' q j (inr (as_parts i g d m l f))

module _ (e a b : Tree) (f : Leaves IsValueLeaf a) (g : Leaves IsValueLeaf b) where
  abbrev pairs : List (Tree × Tree × Tree)
  pairs = all_met e a b ++ all_met e b a

  interpretation : Interpretation
  interpretation = record { outlives = None; equal = pairs; ordered = pairs }

  either : (x y : Tree) → Meets x y a b ⊎ Meets x y b a → Contains pairs (e, x, y)
  either x y (inl r) = Contains-append_left (all_met e a b) (all_met e b a) (e, x, y) (met_is_there e x y r)
  either x y (inr r) = Contains-append_right (all_met e a b) (all_met e b a) (e, x, y) (met_is_there e x y r)

  values : (x y : Tree) → Meets x y a b ⊎ Meets x y b a → Leaves IsValueLeaf x × Leaves IsValueLeaf y
  values x y (inl r) = met_values r f g
  values x y (inr r) = met_values r g f

  goal_holds : (c : Items) (p : Tree) → GoalOfMet a b p → (s : Assign) → Holds c interpretation s (goal_of e p)
  unfolding interpretation
  goal_holds c p (goal_of_met x y d q i r) s = subst (λ z. Holds c interpretation s (goal_of e z)) (sym q) (go d)
    where
      left : apply s x ≡ x
      left = apply_ground s x (values x y r).0

      right : apply s y ≡ y
      right = apply_ground s y (values x y r).1

      there : Contains pairs (e, apply s x, apply s y)
      there = subst₂ (λ t u. Contains pairs (e, t, u)) (sym left) (sym right) (either x y r)

      is_alias : HaveAlias (apply s x) (apply s y)
      is_alias = subst₂ HaveAlias (sym left) (sym right) i

      go : (d : AliasRelationDirection) → Holds c interpretation s (goal_of e (alias_relate_predicate d x y))
      go Subtype = (there, is_alias)
      go Equate = (inl there, is_alias)

pub some_interpretation : SomeInterpretation
unfolding interpretation
some_interpretation c e v a b f g = (interpretation e a b f g, refl, λ p r. goal_holds e a b f g c p (asked_met p r refl))
