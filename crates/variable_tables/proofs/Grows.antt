-- A context whose interner has grown is as lawful as it was, and has recorded what it had.
use Rattle.std.proofs.Common.{◌≡◌, ℕ, zero, suc, ◌<◌, ◌≤◌, IsTrue, refl, sym, ap, ap₂, ◌∙◌, subst, arith, List, [], ◌∷◌, length, map, get_or}
use Rattle.std.proofs.lemmas.Bool.{and_parts}
use Rattle.std.proofs.lemmas.List.{get_or-map, length-map, get_or_past}
use Rattle.std.proofs.Math.ListN.{get_or-map as at_map}
use native.Mathlib.Decide.{dec_le}
use Rattle.relation_terms.specs.Heads.{VarKind, type_var, int_var, float_var, const_var, region_var, variable, bound, placeholder, atom, unknown}
use Rattle.relation_terms.specs.Trees.{Tree, leaf, node, bind, nil, cons, known, list_tree}
use Rattle.relation_terms.specs.Meaning.{Meaning, Extends}
use Rattle.relation_terms.proofs.Stays.{stays_arg}
use Rattle.relation_terms.specs.declared.predicate.regions.RegionConstraint.{RegionConstraint}
use Rattle.relation_terms.specs.declared.predicate.regions.RegionConstraint.TheVariants.{Outlives, Eq}
use Rattle.relation_semantics.specs.Stores.{Store, Entry, unbound, same_as, bound_to, entry_of, entry_term, Constraint, outlives_constraint, equal_constraint, IsSound, InContext, IsMade, IsTermIn, ConstraintIn}
use Rattle.relation_semantics.specs.Constraints.{constraint_of}
use Rattle.relation_semantics.proofs.Standing.{term_context}
use Rattle.relation_semantics.proofs.Numbers.{made_of_leaf}
use Rattle.variable_tables.specs.declared.inner.Variable.{Variable}
use Rattle.variable_tables.specs.declared.inner.VariableValue.{VariableValue}
use Rattle.variable_tables.specs.declared.inner.VariableValue.TheVariants.{Unknown, SameAs, Known}
use Rattle.variable_tables.specs.declared.inner.InferCtxtInner.{InferCtxtInner}
use Rattle.variable_tables.specs.Variables.{keys_of, values_of, universes_of, value_at, entry_of_value, entries_of}
use Rattle.variable_tables.specs.Numbers.{number_trees}
use Rattle.variable_classes.specs.Roots.{root_in}
use Rattle.variable_tables.specs.Tables.{by_kind, store_of, keys_in, IsRooted, IsFilled, IsLawful}
use Rattle.std.specs.Cmp.Derive.{both_true}

-- A term of a context has no unknown part.
pub known_of_context : (st : Store) (t : Tree) → InContext st t → IsTrue (known t)
unfolding InContext
known_of_context st (leaf (variable k n)) h = refl
known_of_context st (leaf (bound k d i)) h = refl
known_of_context st (leaf (placeholder k u n)) h = refl
known_of_context st (leaf (atom x)) h = refl
known_of_context st (leaf unknown) h = absurd h
known_of_context st (node a ts) h = known_of_context st ts h
known_of_context st (bind ks t) h = known_of_context st t h
known_of_context st nil h = refl
known_of_context st (cons t ts) h = both_true (known_of_context st t h.0) (known_of_context st ts h.1)

pub known_of_term : (st : Store) (t : Tree) → IsTermIn st t → IsTrue (known t)
known_of_term st t h = known_of_context st t (term_context st t h)

map_at : {A B : Type 0} (f g : A → B) (xs : List A) → ((i : ℕ) (d : A) → i < length xs → f (get_or xs i d) ≡ g (get_or xs i d)) → map f xs ≡ map g xs
map_at f g [] h = refl
map_at f g (x ∷ xs) h = ap₂ ◌∷◌ (h 0 x (omega arith)) (map_at f g xs (λ i d p. h (suc i) d (omega arith)))

-- The entry of a variable is that of its value.
pub entry_at : {K : Type 0} (tree : K → Tree) (vs : List (Variable K)) (i : ℕ) → get_or (entries_of tree vs) i unbound ≡ entry_of_value tree (value_at vs i)
entry_at tree vs i = at_map (entry_of_value tree) (values_of vs) i Unknown

-- Trees of a list of known ones are known.
pub each_known : (ts : List Tree) → IsTrue (known (list_tree (λ t. t) ts)) → (i : ℕ) → IsTrue (known (get_or ts i nil))
each_known [] h i = refl
each_known (t ∷ ts) h zero = (and_parts (known t) (known (list_tree (λ z. z) ts)) h).0
each_known (t ∷ ts) h (suc i) = each_known ts (and_parts (known t) (known (list_tree (λ z. z) ts)) h).1 i

-- Keys that are known mean what they meant.
module _ {K : Type 0} (before after : K → Tree) (stay : (t : K) → IsTrue (known (before t)) → after t ≡ before t) where
  pub keys_stay : (ks : List K) → ((i : ℕ) → IsTrue (known (get_or (map before ks) i nil))) → map after ks ≡ map before ks
  keys_stay [] h = refl
  keys_stay (k ∷ ks) h = ap₂ ◌∷◌ (stay k (h 0)) (keys_stay ks (λ i. h (suc i)))

  pub values_stay : (vs : List (VariableValue K)) → ((i : ℕ) (t : Tree) → get_or (map (entry_of_value before) vs) i unbound ≡ bound_to t → IsTrue (known t)) →
      map (entry_of_value after) vs ≡ map (entry_of_value before) vs
  values_stay [] h = refl
  values_stay (Unknown ∷ vs) h = ap (λ es. unbound ∷ es) (values_stay vs (λ i. h (suc i)))
  values_stay (SameAs r ∷ vs) h = ap (λ es. same_as r ∷ es) (values_stay vs (λ i. h (suc i)))
  values_stay (Known t ∷ vs) h = ap₂ (λ u es. bound_to u ∷ es) (stay t (h 0 (before t) refl)) (values_stay vs (λ i. h (suc i)))

module _ {Key Id Name : Type 0} (m : Meaning Key Id Name) (x : InferCtxtInner Key) (l : IsLawful m x) where
  -- What variables are bound to is of the context, and so known.
  pub known_bound : (k : VarKind) (i : ℕ) (t : Tree) → entry_of (store_of m x) k i ≡ bound_to t → IsTermIn (store_of m x) t
  known_bound k i t e = (l.sound.bindings k i t (ap (entry_term k) e)).is_in

  pub bound_known : (k : VarKind) (i : ℕ) (t : Tree) → entry_of (store_of m x) k i ≡ bound_to t → IsTrue (known t)
  bound_known k i t e = known_of_term (store_of m x) t (known_bound k i t e)

  pub keys_known : (k : VarKind) (i : ℕ) → IsTrue (known (get_or (keys_in m x k) i nil))
  keys_known k i = go (dec_le (suc i) (length (keys_in m x k)))
    where
      go : Dec (suc i ≤ length (keys_in m x k)) → IsTrue (known (get_or (keys_in m x k) i nil))
      go (yes h) = subst (λ t. IsTrue (known t)) (sym (l.keyed k i (omega (arith, h)))) refl
      go (no o) = subst (λ t. IsTrue (known t)) (sym (get_or_past (keys_in m x k) i nil (omega (arith, o)))) refl

  pub numbers_known : (i : ℕ) → IsTrue (known (get_or (map m.ty x.numbers.items) i nil))
  numbers_known i = subst (λ ts. IsTrue (known (get_or ts i nil))) (sym l.numbers) (each_known number_trees refl i)

module _ {Key Id Name : Type 0} {m n : Meaning Key Id Name} (e : Extends m n) (x : InferCtxtInner Key) (l : IsLawful m x) where
  constraint_stays : (q : RegionConstraint Key) → ConstraintIn (store_of m x) (constraint_of m q) → constraint_of n q ≡ constraint_of m q
  constraint_stays (Outlives p) h = ap₂ outlives_constraint (stays_arg e p.0 (known_of_term (store_of m x) _ h.0.1)) (e.region p.1 (known_of_term (store_of m x) _ h.1.1))
  constraint_stays (Eq p) h = ap₂ equal_constraint (e.region p.0 (known_of_term (store_of m x) _ h.0.1)) (e.region p.1 (known_of_term (store_of m x) _ h.1.1))

  constraints_stay : map (constraint_of n) x.constraints.items ≡ map (constraint_of m) x.constraints.items
  constraints_stay = map_at (constraint_of n) (constraint_of m) x.constraints.items (λ i d p. constraint_stays (get_or x.constraints.items i d)
      (subst (ConstraintIn (store_of m x)) (get_or-map (constraint_of m) x.constraints.items i d (constraint_of m d) p) (l.sound.constraints_in i (constraint_of m d) (at i p))))
    where
      at : (i : ℕ) → i < length x.constraints.items → i < length (map (constraint_of m) x.constraints.items)
      at i p = subst (λ z. i < z) (sym (length-map x.constraints.items (constraint_of m))) p

  with_lists : List Entry → List Entry → List Entry → List Entry → List Entry → List Constraint → Store
  with_lists ts is fs ks rs cs = record {
    entries = by_kind ts is fs ks rs;
    universes = by_kind (universes_of x.types.items) (universes_of x.ints.items) (universes_of x.floats.items) (universes_of x.consts.items) (universes_of x.regions.items);
    universe = (x.universe).0;
    constraints = cs;
    tainted = x.tainted;
    budget = x.budget;
  }

  abbrev types_at : Meaning Key Id Name → List Entry
  types_at o = entries_of o.ty x.types.items

  abbrev ints_at : Meaning Key Id Name → List Entry
  ints_at o = entries_of o.ty x.ints.items

  abbrev floats_at : Meaning Key Id Name → List Entry
  floats_at o = entries_of o.ty x.floats.items

  abbrev consts_at : Meaning Key Id Name → List Entry
  consts_at o = entries_of o.const_ x.consts.items

  abbrev regions_at : Meaning Key Id Name → List Entry
  regions_at o = entries_of o.region x.regions.items

  pub store_grows : store_of n x ≡ store_of m x
  unfolding with_lists
  store_grows =
      ap (λ es. with_lists es (ints_at n) (floats_at n) (consts_at n) (regions_at n) (map (constraint_of n) x.constraints.items)) (values_stay m.ty n.ty e.ty (values_of x.types.items) (bound_known m x l type_var))
      ∙ ap (λ es. with_lists (types_at m) es (floats_at n) (consts_at n) (regions_at n) (map (constraint_of n) x.constraints.items)) (values_stay m.ty n.ty e.ty (values_of x.ints.items) (bound_known m x l int_var))
      ∙ ap (λ es. with_lists (types_at m) (ints_at m) es (consts_at n) (regions_at n) (map (constraint_of n) x.constraints.items)) (values_stay m.ty n.ty e.ty (values_of x.floats.items) (bound_known m x l float_var))
      ∙ ap (λ es. with_lists (types_at m) (ints_at m) (floats_at m) es (regions_at n) (map (constraint_of n) x.constraints.items)) (values_stay m.const_ n.const_ e.const_ (values_of x.consts.items) (bound_known m x l const_var))
      ∙ ap₂ (with_lists (types_at m) (ints_at m) (floats_at m) (consts_at m)) (values_stay m.region n.region e.region (values_of x.regions.items) (bound_known m x l region_var)) constraints_stay

  pub keys_grow : (k : VarKind) → keys_in n x k ≡ keys_in m x k
  keys_grow type_var = keys_stay m.ty n.ty e.ty (keys_of x.types.items) (keys_known m x l type_var)
  keys_grow int_var = keys_stay m.ty n.ty e.ty (keys_of x.ints.items) (keys_known m x l int_var)
  keys_grow float_var = keys_stay m.ty n.ty e.ty (keys_of x.floats.items) (keys_known m x l float_var)
  keys_grow const_var = keys_stay m.const_ n.const_ e.const_ (keys_of x.consts.items) (keys_known m x l const_var)
  keys_grow region_var = keys_stay m.region n.region e.region (keys_of x.regions.items) (keys_known m x l region_var)

  pub lawful_grows : IsLawful n x
  lawful_grows = record {
    sound = subst IsSound (sym store_grows) l.sound;
    rooted = subst IsRooted (sym store_grows) l.rooted;
    formed = subst IsFilled (sym store_grows) l.formed;
    numbers_name_nothing = l.numbers_name_nothing;
    keyed = λ k. subst (λ ts. (i : ℕ) → i < length ts → get_or ts i nil ≡ leaf (variable k i)) (sym (keys_grow k)) (l.keyed k);
    numbers = keys_stay m.ty n.ty e.ty x.numbers.items (numbers_known m x l) ∙ l.numbers;
    sub_rooted = record {
      count = subst (λ st. length (st.entries type_var) ≤ length x.sub_roots.items) (sym store_grows) l.sub_rooted.count;
      rooted = l.sub_rooted.rooted;
      fresh = subst (λ st. (i : ℕ) → length (st.entries type_var) ≤ i → root_in x.sub_roots.items i ≡ i) (sym store_grows)
          l.sub_rooted.fresh;
    };
  }

  pub term_grows : (t : Tree) → IsTermIn (store_of m x) t → IsTermIn (store_of n x) t
  term_grows t h = subst (λ st. IsTermIn st t) (sym store_grows) h

-- A variable of a context.
pub made_in_context : (st : Store) (k : VarKind) (t : Tree) (n : ℕ) → t ≡ leaf (variable k n) → InContext st t → IsMade st k n
made_in_context st k t n e h = made_of_leaf st k n (subst (InContext st) e h)
