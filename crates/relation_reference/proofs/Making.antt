-- New variables, new constraints, and growths that were refused.
use Rattle.std.proofs.Common.{◌≡◌, ℕ, zero, suc, ◌+◌, ◌<◌, ◌≤◌, refl, sym, ap, ap₂, ◌∙◌, arith, subst, List, [], ◌∷◌, ◌++◌, length, map, get_or, length-append, Bool, Option, Some}
use Rattle.std.proofs.lemmas.List.{map-append, length-map, get_or_append_left}
use Rattle.std.proofs.Math.Seq.{get_or-append_seam}
use Rattle.std.proofs.lemmas.Option.{same_Some}
use native.Mathlib.Decide.{ℕ_discrete}
use Rattle.std.specs.Global.{Vec}
use Rattle.relation_terms.specs.Heads.{VarKind, VarKind_discrete, type_var, int_var, float_var, const_var, region_var, variable}
use Rattle.relation_terms.specs.Trees.{Tree, leaf, nil}
use Rattle.relation_terms.specs.Meaning.{Meaning, Extends}
use Rattle.relation_terms.specs.declared.predicate.regions.RegionConstraint.{RegionConstraint}
use Rattle.relation_terms.specs.declared.terms.numbers.UniverseIndex.{UniverseIndex}
use Rattle.relation_semantics.specs.Stores.{Store, unbound, entry_of, IsSound, Constraint, ConstraintIn}
use Rattle.relation_semantics.specs.Steps.{IsNumberKind, MakesVariable, AddsConstraint, IsLater}
use Rattle.relation_semantics.specs.Measures.{Goes}
use Rattle.relation_semantics.proofs.Growing.{same_entries, made_sound, made_is_later, constraint_sound, constraint_is_later, constraint_bound, constraint_weight}
use Rattle.relation_semantics.proofs.Going.{goes_nowhere}
use Rattle.relation_terms.specs.declared.terms.keys.TyKey.{TyKey}
use Rattle.relation_terms.specs.declared.terms.keys.ConstKey.{ConstKey}
use Rattle.relation_terms.specs.declared.terms.keys.RegionKey.{RegionKey}
use Rattle.variable_tables.specs.declared.inner.VariableValue.TheVariants.{Unknown}
use Rattle.variable_tables.specs.declared.inner.Variable.{Variable}
use Rattle.variable_tables.specs.Tabled.{Table}
use Rattle.variable_tables.specs.declared.inner.InferCtxtInner.{InferCtxtInner}
use Rattle.variable_tables.specs.Variables.{keys_of, values_of, universes_of, entry_of_value, entries_of, trees_of}
use Rattle.variable_tables.specs.Tables.{by_kind, store_of, keys_in, IsRooted, IsFilled, IsLawful}
use Rattle.relation_semantics.specs.Generalising.{NumbersNameNothing}
use Rattle.relation_semantics.specs.Constraints.{constraint_of}
use Rattle.variable_tables.proofs.Grows.{store_grows, lawful_grows}
use Rattle.variable_tables.proofs.SubRoots.{roots_same}
use Rattle.variable_tables.proofs.Beside.{Beside, types_beside, ints_beside, floats_beside, consts_beside, regions_beside, lawful_beside, keyed_still}
pub use Rattle.relation_folds.proofs.Folding.{on_err}
pub use Rattle.relation_semantics.proofs.Going.{later_same}

-- Tables with the same lists.
pub record SameTables {Key : Type 0} (x y : InferCtxtInner Key) : Type 0 where
  pub types : y.types.items ≡ x.types.items
  pub ints : y.ints.items ≡ x.ints.items
  pub floats : y.floats.items ≡ x.floats.items
  pub consts : y.consts.items ≡ x.consts.items
  pub regions : y.regions.items ≡ x.regions.items
  pub constraints : y.constraints.items ≡ x.constraints.items
  pub universe : y.universe ≡ x.universe
  pub budget : y.budget ≡ x.budget
  pub tainted : y.tainted ≡ x.tainted
  pub numbers : y.numbers.items ≡ x.numbers.items
  pub sub_roots : y.sub_roots.items ≡ x.sub_roots.items

module _ {Key Id Name : Type 0} (m : Meaning Key Id Name) (x y : InferCtxtInner Key) (s : SameTables x y) where
  of_variables : List (Variable (TyKey Key)) → List (Variable (TyKey Key)) → List (Variable (TyKey Key)) → List (Variable (ConstKey Key)) → List (Variable (RegionKey Key)) → Store
  of_variables ts is fs cs rs = record {
    entries = by_kind (entries_of m.ty ts) (entries_of m.ty is) (entries_of m.ty fs) (entries_of m.const_ cs) (entries_of m.region rs);
    universes = by_kind (universes_of ts) (universes_of is) (universes_of fs) (universes_of cs) (universes_of rs);
    universe = (x.universe).0;
    constraints = map (constraint_of m) x.constraints.items;
    tainted = x.tainted;
    budget = x.budget;
  }

  of_rest : List (RegionConstraint Key) → UniverseIndex → Bool → ℕ → Store
  of_rest qs u t b = record {
    entries = (store_of m y).entries;
    universes = (store_of m y).universes;
    universe = u.0;
    constraints = map (constraint_of m) qs;
    tainted = t;
    budget = b;
  }

  pub same_store : store_of m y ≡ store_of m x
  unfolding of_variables of_rest
  same_store = ap (λ qs. of_rest qs y.universe y.tainted y.budget) s.constraints
      ∙ ap (λ u. of_rest x.constraints.items u y.tainted y.budget) s.universe
      ∙ ap₂ (of_rest x.constraints.items x.universe) s.tainted s.budget
      ∙ ap (λ ts. of_variables ts y.ints.items y.floats.items y.consts.items y.regions.items) s.types
      ∙ ap (λ is. of_variables x.types.items is y.floats.items y.consts.items y.regions.items) s.ints
      ∙ ap (λ fs. of_variables x.types.items x.ints.items fs y.consts.items y.regions.items) s.floats
      ∙ ap₂ (of_variables x.types.items x.ints.items x.floats.items) s.consts s.regions

  same_keys : (k : VarKind) → keys_in m y k ≡ keys_in m x k
  same_keys type_var = ap (trees_of m.ty) s.types
  same_keys int_var = ap (trees_of m.ty) s.ints
  same_keys float_var = ap (trees_of m.ty) s.floats
  same_keys const_var = ap (trees_of m.const_) s.consts
  same_keys region_var = ap (trees_of m.region) s.regions

  pub same_lawful : IsLawful m x → IsLawful m y
  same_lawful l = record {
    sound = subst IsSound (sym same_store) l.sound;
    rooted = subst IsRooted (sym same_store) l.rooted;
    formed = subst IsFilled (sym same_store) l.formed;
    numbers_name_nothing = subst NumbersNameNothing (sym same_store) l.numbers_name_nothing;
    keyed = λ k. keyed_still m x y k (same_keys k) l;
    numbers = ap (map m.ty) s.numbers ∙ l.numbers;
    sub_rooted = roots_same m x y (ap (λ st. length (st.entries type_var)) same_store) s.sub_roots l.sub_rooted;
  }

-- The entries, the universes and the keys of a table with one more variable.
pub made_entries : {K : Type 0} (tree : K → Tree) (xs ys : List (Variable K)) (v : Variable K) → ys ≡ xs ++ v ∷ [] → v.value ≡ Unknown → entries_of tree ys ≡ entries_of tree xs ++ unbound ∷ []
made_entries tree xs ys v e f = ap (entries_of tree) e ∙ ap (map (entry_of_value tree)) (map-append (λ w. w.value) xs (v ∷ [])) ∙ map-append (entry_of_value tree) (values_of xs) (v.value ∷ [])
    ∙ ap (λ w. entries_of tree xs ++ entry_of_value tree w ∷ []) f

pub made_universes : {K : Type 0} (xs ys : List (Variable K)) (v : Variable K) (u : ℕ) → ys ≡ xs ++ v ∷ [] → (v.universe).0 ≡ u → universes_of ys ≡ universes_of xs ++ u ∷ []
made_universes xs ys v u e f = ap universes_of e ∙ map-append (λ w. (w.universe).0) xs (v ∷ []) ∙ ap (λ z. universes_of xs ++ z ∷ []) f

pub made_keys : {K : Type 0} (tree : K → Tree) (xs ys : List (Variable K)) (v : Variable K) (t : Tree) → ys ≡ xs ++ v ∷ [] → tree v.key ≡ t → trees_of tree ys ≡ trees_of tree xs ++ t ∷ []
made_keys tree xs ys v t e f = ap (trees_of tree) e ∙ ap (map tree) (map-append (λ w. w.key) xs (v ∷ [])) ∙ map-append tree (keys_of xs) (v.key ∷ []) ∙ ap (λ z. trees_of tree xs ++ z ∷ []) f

pub entries_long : {K : Type 0} (tree : K → Tree) (vs : List (Variable K)) → length (entries_of tree vs) ≡ length vs
entries_long tree vs = length-map (values_of vs) (entry_of_value tree) ∙ length-map vs (λ v. v.value)

pub keys_long : {K : Type 0} (tree : K → Tree) (vs : List (Variable K)) → length (trees_of tree vs) ≡ length vs
keys_long tree vs = length-map (keys_of vs) tree ∙ length-map vs (λ v. v.key)

keyed_one : (ts : List Tree) (k : VarKind) → ((i : ℕ) → i < length ts → get_or ts i nil ≡ leaf (variable k i)) → (i : ℕ) → i < length (ts ++ leaf (variable k (length ts)) ∷ []) → get_or (ts ++ leaf (variable k (length ts)) ∷ []) i nil ≡ leaf (variable k i)
keyed_one ts k f i h = go (ℕ_discrete i (length ts))
  where
    go : Dec (i ≡ length ts) → get_or (ts ++ leaf (variable k (length ts)) ∷ []) i nil ≡ leaf (variable k i)
    go (yes e) = subst (λ j. get_or (ts ++ leaf (variable k (length ts)) ∷ []) j nil ≡ leaf (variable k j)) (sym e) (get_or-append_seam ts (leaf (variable k (length ts))) [] nil)
    go (no o) = let within : i < length ts = (let a = length-append ts (leaf (variable k (length ts)) ∷ []) in omega (arith, h, a, o)) in
        get_or_append_left ts (leaf (variable k (length ts)) ∷ []) nil i within ∙ f i within

-- One more universe, the first, in a list that has no other.
zero_more : (us : List ℕ) (u : ℕ) → u ≡ 0 → ((j : ℕ) → get_or us j 0 ≡ 0) → (i : ℕ) → get_or (us ++ u ∷ []) i 0 ≡ 0
zero_more [] u e f zero = e
zero_more [] u e f (suc i) = refl
zero_more (w ∷ us) u e f zero = f 0
zero_more (w ∷ us) u e f (suc i) = zero_more us u e (λ j. f (suc j)) i

-- A new variable of a kind. `y` has it, by what keys mean after its key was made.
module _ {Key Id Name : Type 0} {m n : Meaning Key Id Name} (e : Extends m n) (x y : InferCtxtInner Key) (l : IsLawful m x) (k : VarKind) (number u : ℕ) (below : u ≤ (x.universe).0) (b : Beside n x y k)
    (numbered : number ≡ length ((store_of m x).entries k))
    (entries : (store_of n y).entries k ≡ (store_of n x).entries k ++ unbound ∷ [])
    (universes : (store_of n y).universes k ≡ (store_of n x).universes k ++ u ∷ [])
    (budget : (store_of n y).budget ≡ (store_of n x).budget) where
  made_now : MakesVariable (store_of n x) (store_of n y) k number u
  made_now = record {
    number = numbered ∙ ap (λ st. length (st.entries k)) (sym (store_grows e x l));
    entries_grow = entries;
    universes_grow = universes;
    other_entries = b.entries;
    other_universes = b.universes;
    same_constraints = b.constraints;
    same_universe = b.universe;
    same_taint = b.tainted;
    same_budget = budget;
  }

  pub variable_made : MakesVariable (store_of m x) (store_of n y) k number u
  variable_made = subst (λ st. MakesVariable st (store_of n y) k number u) (store_grows e x l) made_now

  pub variable_later : IsLater (store_of m x) (store_of n y)
  variable_later = made_is_later (store_of m x) (store_of n y) k number u variable_made l.sound

  entry_still : (j : VarKind) (i : ℕ) → entry_of (store_of n y) j i ≡ entry_of (store_of m x) j i
  entry_still = same_entries (store_of m x) (store_of n y) k number u variable_made

  -- `keyed` says that the key beside each variable of the kind is its own.
  pub variable_lawful : (IsNumberKind k → u ≡ 0) → length ((store_of n y).entries type_var) ≤ length y.sub_roots.items →
      ((i : ℕ) → i < length (keys_in n y k) → get_or (keys_in n y k) i nil ≡ leaf (variable k i)) → IsLawful n y
  variable_lawful first roots keyed = lawful_beside n x y k b keyed
      (made_sound (store_of m x) (store_of n y) k number u variable_made l.sound below)
      (λ j i r p c d. l.rooted j i r p (sym (entry_still j i) ∙ c) (sym (entry_still j r) ∙ d))
      (λ j i t h. l.formed j i t (sym (entry_still j i) ∙ h))
      (λ f i. ap (λ us. get_or us i 0) universes ∙ zero_more ((store_of n x).universes k) u (first f) (λ j. (lawful_grows e x l).numbers_name_nothing k j f) i)
      roots (types_grow (VarKind_discrete type_var k)) (lawful_grows e x l)
    where
      types_grow : Dec (type_var ≡ k) →
          length ((store_of n x).entries type_var) ≤ length ((store_of n y).entries type_var)
      types_grow (yes c) = subst (λ j. length ((store_of n x).entries j) ≤ length ((store_of n y).entries j)) (sym c)
          (let long = ap length entries in
          let more = length-append ((store_of n x).entries k) (unbound ∷ []) in
          omega (arith, long, more))
      types_grow (no o) = let long = ap length (b.entries type_var o) in omega (arith, long)

  pub keyed_more : keys_in n y k ≡ keys_in n x k ++ leaf (variable k number) ∷ [] → number ≡ length (keys_in n x k) → (i : ℕ) → i < length (keys_in n y k) → get_or (keys_in n y k) i nil ≡ leaf (variable k i)
  keyed_more keys long = subst (λ ts. (i : ℕ) → i < length ts → get_or ts i nil ≡ leaf (variable k i))
      (sym (keys ∙ ap (λ z. keys_in n x k ++ leaf (variable k z) ∷ []) long)) (keyed_one (keys_in n x k) k ((lawful_grows e x l).keyed k))

-- A new variable in the table of `types`.
module _ {Key Id Name : Type 0} {m n : Meaning Key Id Name} (e : Extends m n) (x : InferCtxtInner Key) (l : IsLawful m x) (ts : Table (TyKey Key)) (v : Variable (TyKey Key))
    (more : ts.items ≡ x.types.items ++ v ∷ []) (free : v.value ≡ Unknown) (u : ℕ) (below : u ≤ (x.universe).0) (universe_is : (v.universe).0 ≡ u)
    (key : n.ty v.key ≡ leaf (variable type_var (length x.types.items))) where
  abbrev type_entries : (store_of n (record x { types = ts })).entries type_var ≡ (store_of n x).entries type_var ++ unbound ∷ []
  type_entries = made_entries n.ty x.types.items ts.items v more free

  abbrev type_universes : (store_of n (record x { types = ts })).universes type_var ≡ (store_of n x).universes type_var ++ u ∷ []
  type_universes = made_universes x.types.items ts.items v u more universe_is

  abbrev type_numbered : length x.types.items ≡ length ((store_of m x).entries type_var)
  type_numbered = sym (entries_long m.ty x.types.items)

  pub type_made : MakesVariable (store_of m x) (store_of n (record x { types = ts })) type_var (length x.types.items) u
  type_made = variable_made e x (record x { types = ts }) l type_var (length x.types.items) u below (types_beside n x ts x.budget) type_numbered type_entries type_universes refl

  pub type_made_later : IsLater (store_of m x) (store_of n (record x { types = ts }))
  type_made_later = variable_later e x (record x { types = ts }) l type_var (length x.types.items) u below (types_beside n x ts x.budget) type_numbered type_entries type_universes refl

  -- There is room for its root among those that are marked as related.
  pub type_made_lawful : length x.types.items + 1 ≤ length x.sub_roots.items → IsLawful n (record x { types = ts })
  type_made_lawful room =
      let keyed = keyed_more e x (record x { types = ts }) l type_var (length x.types.items) u below (types_beside n x ts x.budget) type_numbered type_entries type_universes refl
      (made_keys n.ty x.types.items ts.items v (leaf (variable type_var (length x.types.items))) more key) (sym (keys_long n.ty x.types.items)) in
      variable_lawful e x (record x { types = ts }) l type_var (length x.types.items) u below (types_beside n x ts x.budget) type_numbered type_entries type_universes refl (λ f. absurd f) (subst (λ z. z ≤ length x.sub_roots.items) (sym (entries_long n.ty ts.items ∙ ap length more ∙ length-append x.types.items (v ∷ []))) room) keyed

-- A new variable in the table of `ints`.
module _ {Key Id Name : Type 0} {m n : Meaning Key Id Name} (e : Extends m n) (x : InferCtxtInner Key) (l : IsLawful m x) (ts : Table (TyKey Key)) (v : Variable (TyKey Key))
    (more : ts.items ≡ x.ints.items ++ v ∷ []) (free : v.value ≡ Unknown) (universe_is : (v.universe).0 ≡ 0)
    (key : n.ty v.key ≡ leaf (variable int_var (length x.ints.items))) where
  abbrev int_entries : (store_of n (record x { ints = ts })).entries int_var ≡ (store_of n x).entries int_var ++ unbound ∷ []
  int_entries = made_entries n.ty x.ints.items ts.items v more free

  abbrev int_universes : (store_of n (record x { ints = ts })).universes int_var ≡ (store_of n x).universes int_var ++ 0 ∷ []
  int_universes = made_universes x.ints.items ts.items v 0 more universe_is

  abbrev int_numbered : length x.ints.items ≡ length ((store_of m x).entries int_var)
  int_numbered = sym (entries_long m.ty x.ints.items)

  pub int_made : MakesVariable (store_of m x) (store_of n (record x { ints = ts })) int_var (length x.ints.items) 0
  int_made = variable_made e x (record x { ints = ts }) l int_var (length x.ints.items) 0 (omega arith) (ints_beside n x ts x.budget) int_numbered int_entries int_universes refl

  pub int_made_later : IsLater (store_of m x) (store_of n (record x { ints = ts }))
  int_made_later = variable_later e x (record x { ints = ts }) l int_var (length x.ints.items) 0 (omega arith) (ints_beside n x ts x.budget) int_numbered int_entries int_universes refl

  pub int_made_lawful : IsLawful n (record x { ints = ts })
  int_made_lawful =
      let keyed = keyed_more e x (record x { ints = ts }) l int_var (length x.ints.items) 0 (omega arith) (ints_beside n x ts x.budget) int_numbered int_entries int_universes refl
      (made_keys n.ty x.ints.items ts.items v (leaf (variable int_var (length x.ints.items))) more key) (sym (keys_long n.ty x.ints.items)) in
      variable_lawful e x (record x { ints = ts }) l int_var (length x.ints.items) 0 (omega arith) (ints_beside n x ts x.budget) int_numbered int_entries int_universes refl (λ f. refl) (lawful_grows e x l).sub_rooted.count keyed

-- A new variable in the table of `floats`.
module _ {Key Id Name : Type 0} {m n : Meaning Key Id Name} (e : Extends m n) (x : InferCtxtInner Key) (l : IsLawful m x) (ts : Table (TyKey Key)) (v : Variable (TyKey Key))
    (more : ts.items ≡ x.floats.items ++ v ∷ []) (free : v.value ≡ Unknown) (universe_is : (v.universe).0 ≡ 0)
    (key : n.ty v.key ≡ leaf (variable float_var (length x.floats.items))) where
  abbrev float_entries : (store_of n (record x { floats = ts })).entries float_var ≡ (store_of n x).entries float_var ++ unbound ∷ []
  float_entries = made_entries n.ty x.floats.items ts.items v more free

  abbrev float_universes : (store_of n (record x { floats = ts })).universes float_var ≡ (store_of n x).universes float_var ++ 0 ∷ []
  float_universes = made_universes x.floats.items ts.items v 0 more universe_is

  abbrev float_numbered : length x.floats.items ≡ length ((store_of m x).entries float_var)
  float_numbered = sym (entries_long m.ty x.floats.items)

  pub float_made : MakesVariable (store_of m x) (store_of n (record x { floats = ts })) float_var (length x.floats.items) 0
  float_made = variable_made e x (record x { floats = ts }) l float_var (length x.floats.items) 0 (omega arith) (floats_beside n x ts x.budget) float_numbered float_entries float_universes refl

  pub float_made_later : IsLater (store_of m x) (store_of n (record x { floats = ts }))
  float_made_later = variable_later e x (record x { floats = ts }) l float_var (length x.floats.items) 0 (omega arith) (floats_beside n x ts x.budget) float_numbered float_entries float_universes refl

  pub float_made_lawful : IsLawful n (record x { floats = ts })
  float_made_lawful =
      let keyed = keyed_more e x (record x { floats = ts }) l float_var (length x.floats.items) 0 (omega arith) (floats_beside n x ts x.budget) float_numbered float_entries float_universes refl
      (made_keys n.ty x.floats.items ts.items v (leaf (variable float_var (length x.floats.items))) more key) (sym (keys_long n.ty x.floats.items)) in
      variable_lawful e x (record x { floats = ts }) l float_var (length x.floats.items) 0 (omega arith) (floats_beside n x ts x.budget) float_numbered float_entries float_universes refl (λ f. refl) (lawful_grows e x l).sub_rooted.count keyed

-- A new variable in the table of `consts`.
module _ {Key Id Name : Type 0} {m n : Meaning Key Id Name} (e : Extends m n) (x : InferCtxtInner Key) (l : IsLawful m x) (ts : Table (ConstKey Key)) (v : Variable (ConstKey Key))
    (more : ts.items ≡ x.consts.items ++ v ∷ []) (free : v.value ≡ Unknown) (u : ℕ) (below : u ≤ (x.universe).0) (universe_is : (v.universe).0 ≡ u)
    (key : n.const_ v.key ≡ leaf (variable const_var (length x.consts.items))) where
  abbrev const_entries : (store_of n (record x { consts = ts })).entries const_var ≡ (store_of n x).entries const_var ++ unbound ∷ []
  const_entries = made_entries n.const_ x.consts.items ts.items v more free

  abbrev const_universes : (store_of n (record x { consts = ts })).universes const_var ≡ (store_of n x).universes const_var ++ u ∷ []
  const_universes = made_universes x.consts.items ts.items v u more universe_is

  abbrev const_numbered : length x.consts.items ≡ length ((store_of m x).entries const_var)
  const_numbered = sym (entries_long m.const_ x.consts.items)

  pub const_made : MakesVariable (store_of m x) (store_of n (record x { consts = ts })) const_var (length x.consts.items) u
  const_made = variable_made e x (record x { consts = ts }) l const_var (length x.consts.items) u below (consts_beside n x ts x.budget) const_numbered const_entries const_universes refl

  pub const_made_later : IsLater (store_of m x) (store_of n (record x { consts = ts }))
  const_made_later = variable_later e x (record x { consts = ts }) l const_var (length x.consts.items) u below (consts_beside n x ts x.budget) const_numbered const_entries const_universes refl

  pub const_made_lawful : IsLawful n (record x { consts = ts })
  const_made_lawful =
      let keyed = keyed_more e x (record x { consts = ts }) l const_var (length x.consts.items) u below (consts_beside n x ts x.budget) const_numbered const_entries const_universes refl
      (made_keys n.const_ x.consts.items ts.items v (leaf (variable const_var (length x.consts.items))) more key) (sym (keys_long n.const_ x.consts.items)) in
      variable_lawful e x (record x { consts = ts }) l const_var (length x.consts.items) u below (consts_beside n x ts x.budget) const_numbered const_entries const_universes refl (λ f. absurd f) (lawful_grows e x l).sub_rooted.count keyed

-- A new variable in the table of `regions`.
module _ {Key Id Name : Type 0} {m n : Meaning Key Id Name} (e : Extends m n) (x : InferCtxtInner Key) (l : IsLawful m x) (ts : Table (RegionKey Key)) (v : Variable (RegionKey Key))
    (more : ts.items ≡ x.regions.items ++ v ∷ []) (free : v.value ≡ Unknown) (u : ℕ) (below : u ≤ (x.universe).0) (universe_is : (v.universe).0 ≡ u)
    (key : n.region v.key ≡ leaf (variable region_var (length x.regions.items))) where
  abbrev region_entries : (store_of n (record x { regions = ts })).entries region_var ≡ (store_of n x).entries region_var ++ unbound ∷ []
  region_entries = made_entries n.region x.regions.items ts.items v more free

  abbrev region_universes : (store_of n (record x { regions = ts })).universes region_var ≡ (store_of n x).universes region_var ++ u ∷ []
  region_universes = made_universes x.regions.items ts.items v u more universe_is

  abbrev region_numbered : length x.regions.items ≡ length ((store_of m x).entries region_var)
  region_numbered = sym (entries_long m.region x.regions.items)

  pub region_made : MakesVariable (store_of m x) (store_of n (record x { regions = ts })) region_var (length x.regions.items) u
  region_made = variable_made e x (record x { regions = ts }) l region_var (length x.regions.items) u below (regions_beside n x ts x.budget) region_numbered region_entries region_universes refl

  pub region_made_later : IsLater (store_of m x) (store_of n (record x { regions = ts }))
  region_made_later = variable_later e x (record x { regions = ts }) l region_var (length x.regions.items) u below (regions_beside n x ts x.budget) region_numbered region_entries region_universes refl

  pub region_made_lawful : IsLawful n (record x { regions = ts })
  region_made_lawful =
      let keyed = keyed_more e x (record x { regions = ts }) l region_var (length x.regions.items) u below (regions_beside n x ts x.budget) region_numbered region_entries region_universes refl
      (made_keys n.region x.regions.items ts.items v (leaf (variable region_var (length x.regions.items))) more key) (sym (keys_long n.region x.regions.items)) in
      variable_lawful e x (record x { regions = ts }) l region_var (length x.regions.items) u below (regions_beside n x ts x.budget) region_numbered region_entries region_universes refl (λ f. absurd f) (lawful_grows e x l).sub_rooted.count keyed

-- A new constraint.
module _ {Key Id Name : Type 0} (m : Meaning Key Id Name) (x : InferCtxtInner Key) (l : IsLawful m x) (r : RegionConstraint Key)
    (is_in : ConstraintIn (store_of m x) (constraint_of m r)) (qs : Vec (RegionConstraint Key)) (more : qs.items ≡ x.constraints.items ++ r ∷ []) where
  abbrev asked : Constraint
  asked = constraint_of m r

  abbrev y : InferCtxtInner Key
  y = record x { constraints = qs }

  pub constraint_added : AddsConstraint (store_of m x) (store_of m y) asked
  constraint_added = record {
    same_entries = λ k. refl;
    same_universes = λ k. refl;
    one_more = ap (map (constraint_of m)) more ∙ map-append (constraint_of m) x.constraints.items (r ∷ []);
    same_universe = refl;
    same_taint = refl;
    same_budget = refl;
  }

  pub constraint_lawful : IsLawful m y
  constraint_lawful = record {
    sound = constraint_sound (store_of m x) (store_of m y) asked constraint_added l.sound is_in;
    rooted = l.rooted;
    formed = l.formed;
    numbers_name_nothing = l.numbers_name_nothing;
    keyed = l.keyed;
    numbers = l.numbers;
    sub_rooted = record { count = l.sub_rooted.count; rooted = l.sub_rooted.rooted; fresh = l.sub_rooted.fresh };
  }

  pub constraint_goes : Goes 0 (store_of m x) (store_of m y)
  constraint_goes = record {
    later = constraint_is_later (store_of m x) (store_of m y) asked constraint_added;
    made = λ k h. refl;
    spent = 0;
    counts = omega arith;
    binds = let e = constraint_bound (store_of m x) (store_of m y) asked constraint_added in omega (arith, e);
    grows = λ k t above below. subst (λ z. z ≤ k) (constraint_weight (store_of m x) (store_of m y) asked constraint_added t) below;
  }

-- The interner may have grown before a growth of the tables was refused.
module _ {Key Id Name : Type 0} {m n : Meaning Key Id Name} (e : Extends m n) (x y : InferCtxtInner Key) (s : SameTables x y) (l : IsLawful m x) where
  pub refused_store : store_of n y ≡ store_of m x
  refused_store = same_store n x y s ∙ store_grows e x l

  pub refused_lawful : IsLawful n y
  refused_lawful = same_lawful n x y s (lawful_grows e x l)

  pub refused_later : IsLater (store_of m x) (store_of n y)
  refused_later = later_same (store_of m x) (store_of n y) refused_store

pub goes_same : (n : ℕ) (old new : Store) → new ≡ old → Goes n old new
goes_same n old new e = subst (λ st. Goes n old st) (sym e) (goes_nowhere n old)

-- A variable that was made is of the kind that was asked for.
pub made_as : (was now : Store) (u : ℕ) (x : Tree) (o : Option VarKind) (k : VarKind) (n : ℕ) → o ≡ Some k → MakesVariable was now k n u → x ≡ leaf (variable k n) →
    (j : VarKind) → o ≡ Some j → (m : ℕ) × MakesVariable was now j m u × (x ≡ leaf (variable j m))
made_as was now u x o k n e g q j f = let p : k ≡ j = same_Some _ _ (sym e ∙ f) in
    (n, subst (λ z. MakesVariable was now z n u) p g, q ∙ ap (λ z. leaf (variable z n)) p)
