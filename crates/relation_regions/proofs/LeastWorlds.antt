-- Worlds in which nothing holds but what facts say, and what facts say in any world.
use Rattle.std.proofs.Common.{◌≡◌, List, [], ◌∷◌, ◌++◌, refl, ap, sym, subst, inl, inr, ◌⊎◌, Some, map, arith}
use Rattle.std.specs.List.{Contains}
use Rattle.std.proofs.lemmas.List.Elements.{Contains-append_left, Contains-append_right, Contains-append_cases}
use Rattle.std.proofs.lemmas.Option.{same_Some}
use Rattle.relation_terms.specs.Trees.{Tree, leaf, node, bind, nil, cons, Leaves, Assign, apply}
use Rattle.relation_semantics.specs.Relation.{Interpretation, Outlives, all_outlive, given, itself, through}
use Rattle.relation_semantics.specs.Stores.{Store, Constraint, outlives_constraint, equal_constraint}
use Rattle.relation_semantics.proofs.Trees.{Leaves_map}
use Rattle.relation_regions.specs.Worlds.{static, IsOf, IsMentioned, is_static, by_constraint, by_fact, FactsSay, stated}
use Rattle.relation_regions.specs.Worlds.{from_static, itself as said_itself, through as said_through, IsWorld}
use Rattle.relation_regions.proofs.Generated.{contains_map, from_map}
use Rattle.relation_regions.specs.Entailment.{IsModel}

-- What facts say holds in each world in which they do, if there 'static outlives the shorter region.
pub said_outlives : (facts : List (Tree × Tree)) (w : Interpretation) →
    ((x y : Tree) → Contains facts (x, y) → Outlives w x y) → (y : Tree) → Outlives w static y → (x m : Tree) →
    FactsSay facts x m → Outlives w m y → Outlives w x y
said_outlives facts w hold y longest x m (stated has) o = through (hold x m has) o
said_outlives facts w hold y longest x m (from_static e) o = subst (λ u. Outlives w u y) (sym e) longest
said_outlives facts w hold y longest x m (said_itself e) o = subst (λ u. Outlives w u y) (sym e) o
said_outlives facts w hold y longest x m (said_through {b = n} h k) o =
    said_outlives facts w hold y longest x n h (said_outlives facts w hold y longest n m k o)

-- The leaves of a tree.
abbrev pub leaves_of : Tree → List Tree
leaves_of (leaf l) = leaf l ∷ []
leaves_of (node h ts) = leaves_of ts
leaves_of (bind ks t) = leaves_of t
leaves_of nil = []
leaves_of (cons t ts) = leaves_of t ++ leaves_of ts

each_listed : (t : Tree) → Leaves (λ l. Contains (leaves_of t) (leaf l)) t
each_listed (leaf l) = (0, omega arith, refl)
each_listed (node h ts) = each_listed ts
each_listed (bind ks t) = each_listed t
each_listed nil = tt
each_listed (cons t ts) = (
  Leaves_map _ _ (λ l h. Contains-append_left (leaves_of t) (leaves_of ts) (leaf l) h) t (each_listed t),
  Leaves_map _ _ (λ l h. Contains-append_right (leaves_of t) (leaves_of ts) (leaf l) h) ts (each_listed ts),
)

-- Each variable stands for 'static.
abbrev pub all_static : Assign
all_static k n = static

abbrev first_value : Constraint → Tree
first_value (outlives_constraint x y) = apply all_static x
first_value (equal_constraint x y) = apply all_static x

abbrev second_value : Constraint → Tree
second_value (outlives_constraint x y) = apply all_static y
second_value (equal_constraint x y) = apply all_static y

value_of : (q : Constraint) (t : Tree) → IsOf q t →
    (apply all_static t ≡ first_value q) ⊎ (apply all_static t ≡ second_value q)
value_of (outlives_constraint x y) t (inl e) = inl (ap (apply all_static) e)
value_of (outlives_constraint x y) t (inr e) = inr (ap (apply all_static) e)
value_of (equal_constraint x y) t (inl e) = inl (ap (apply all_static) e)
value_of (equal_constraint x y) t (inr e) = inr (ap (apply all_static) e)

abbrev longer_value : Tree × Tree → Tree
longer_value f = apply all_static f.0

abbrev shorter_value : Tree × Tree → Tree
shorter_value f = apply all_static f.1

abbrev under_static : Tree → Tree × Tree
under_static t = (static, t)

module _ (facts : List (Tree × Tree)) (st : Store) (a b : Tree) where
  abbrev of_terms : List Tree
  of_terms = leaves_of a ++ leaves_of b

  abbrev of_facts : List Tree
  of_facts = map longer_value facts ++ map shorter_value facts

  abbrev of_constraints : List Tree
  of_constraints = map first_value st.constraints ++ map second_value st.constraints

  abbrev regions : List Tree
  regions = (static ∷ []) ++ (of_terms ++ (of_facts ++ of_constraints))

  abbrev pairs : List (Tree × Tree)
  pairs = facts ++ map under_static regions

  -- The facts hold, and 'static outlives all regions of facts and constraints, and all leaves of the two terms.
  abbrev pub least : Interpretation
  least = record { outlives = Some pairs; equal = []; ordered = [] }

  in_terms : (t : Tree) → Contains of_terms t → Contains regions t
  in_terms t h = Contains-append_right (static ∷ []) (of_terms ++ (of_facts ++ of_constraints)) t
      (Contains-append_left of_terms (of_facts ++ of_constraints) t h)

  in_facts : (t : Tree) → Contains of_facts t → Contains regions t
  in_facts t h = Contains-append_right (static ∷ []) (of_terms ++ (of_facts ++ of_constraints)) t
      (Contains-append_right of_terms (of_facts ++ of_constraints) t
      (Contains-append_left of_facts of_constraints t h))

  in_constraints : (t : Tree) → Contains of_constraints t → Contains regions t
  in_constraints t h = Contains-append_right (static ∷ []) (of_terms ++ (of_facts ++ of_constraints)) t
      (Contains-append_right of_terms (of_facts ++ of_constraints) t
      (Contains-append_right of_facts of_constraints t h))

  in_regions : (t : Tree) → IsMentioned facts st t → Contains regions (apply all_static t)
  in_regions t (is_static e) = subst (λ u. Contains regions u) (sym (ap (apply all_static) e))
      (Contains-append_left (static ∷ []) (of_terms ++ (of_facts ++ of_constraints)) static (0, omega arith, refl))
  in_regions t (by_constraint q has o) = elim (value_of q t o) [
    | inl e ↦ in_constraints (apply all_static t) (subst (λ u. Contains of_constraints u) (sym e)
        (Contains-append_left (map first_value st.constraints) (map second_value st.constraints) (first_value q)
        (contains_map first_value st.constraints q has)))
    | inr e ↦ in_constraints (apply all_static t) (subst (λ u. Contains of_constraints u) (sym e)
        (Contains-append_right (map first_value st.constraints) (map second_value st.constraints) (second_value q)
        (contains_map second_value st.constraints q has)))
  ]
  in_regions t (by_fact x y has (inl e)) = in_facts (apply all_static t)
      (subst (λ u. Contains of_facts u) (sym (ap (apply all_static) e))
      (Contains-append_left (map longer_value facts) (map shorter_value facts) (longer_value (x, y))
      (contains_map longer_value facts (x, y) has)))
  in_regions t (by_fact x y has (inr e)) = in_facts (apply all_static t)
      (subst (λ u. Contains of_facts u) (sym (ap (apply all_static) e))
      (Contains-append_right (map longer_value facts) (map shorter_value facts) (shorter_value (x, y))
      (contains_map shorter_value facts (x, y) has)))

  fact_outlives : (x y : Tree) → Contains facts (x, y) → Outlives least x y
  fact_outlives x y has = given pairs refl (Contains-append_left facts (map under_static regions) (x, y) has)

  static_outlives : (t : Tree) → Contains regions t → Outlives least static t
  static_outlives t has = given pairs refl
      (Contains-append_right facts (map under_static regions) (static, t) (contains_map under_static regions t has))

  -- Nothing else holds.
  pub only_said : (x y : Tree) → Outlives least x y → FactsSay facts x y
  only_said x y (all_outlive e) = absurd cc
  only_said x y (given list e has) = elim (Contains-append_cases facts (map under_static regions) (x, y)
      (subst (λ l. Contains l (x, y)) (sym (same_Some _ _ e)) has)) [
        | inl h ↦ stated h
        | inr h ↦ let p = from_map under_static regions static (x, y) h in from_static (sym (ap (λ u. u.0) p.2))
      ]
  only_said x y (itself e) = said_itself e
  only_said x y (through {b = m} h k) = said_through (only_said x m h) (only_said m y k)

  pub is_model : IsModel facts least a b
  is_model = record {
    facts_hold = fact_outlives;
    left_longest = Leaves_map _ _ (λ l h s. static_outlives (leaf l) (in_terms (leaf l)
        (Contains-append_left (leaves_of a) (leaves_of b) (leaf l) h))) a (each_listed a);
    right_longest = Leaves_map _ _ (λ l h s. static_outlives (leaf l) (in_terms (leaf l)
        (Contains-append_right (leaves_of a) (leaves_of b) (leaf l) h))) b (each_listed b);
  }

  -- It is a world of each store that mentions no more.
  pub is_world : (before : Store) → ((t : Tree) → IsMentioned facts before t → IsMentioned facts st t) →
      IsWorld facts before least all_static
  is_world before more = record {
    facts_hold = fact_outlives;
    longest = λ t m. static_outlives (apply all_static t) (in_regions t (more t m));
    uniform = λ n p made cannot h. itself refl;
  }
