-- Tables that differ in what is recorded of one kind of variables, and in the budget.
use Rattle.std.proofs.Common.{◌≡◌, ℕ, ◌<◌, ◌≤◌, refl, sym, ap, ◌∙◌, arith, subst, map, length, get_or}
use Rattle.relation_terms.specs.Heads.{VarKind, VarKind_discrete, type_var, int_var, float_var, const_var, region_var, variable}
use Rattle.relation_terms.specs.Trees.{leaf, nil}
use Rattle.relation_terms.specs.Meaning.{Meaning}
use Rattle.relation_terms.specs.declared.terms.keys.TyKey.{TyKey}
use Rattle.relation_terms.specs.declared.terms.keys.ConstKey.{ConstKey}
use Rattle.relation_terms.specs.declared.terms.keys.RegionKey.{RegionKey}
use Rattle.relation_semantics.specs.Stores.{IsSound, universe_of}
use Rattle.variable_tables.specs.Tabled.{Table}
use Rattle.variable_tables.specs.declared.inner.InferCtxtInner.{InferCtxtInner}
use Rattle.relation_semantics.specs.Steps.{IsNumberKind}
use Rattle.variable_classes.specs.Roots.{root_in, IsRootTable}
use Rattle.variable_tables.specs.Tables.{store_of, keys_in, IsRooted, IsFilled, IsLawful}

module _ {Key Id Name : Type 0} (m : Meaning Key Id Name) where
  -- All but the table of one kind, and the budget, stands.
  pub record Beside (x y : InferCtxtInner Key) (k : VarKind) : Type 0 where
    pub entries : (j : VarKind) → (j ≡ k → ⊥) → (store_of m y).entries j ≡ (store_of m x).entries j
    pub universes : (j : VarKind) → (j ≡ k → ⊥) → (store_of m y).universes j ≡ (store_of m x).universes j
    pub keys : (j : VarKind) → (j ≡ k → ⊥) → keys_in m y j ≡ keys_in m x j
    pub constraints : (store_of m y).constraints ≡ (store_of m x).constraints
    pub universe : (store_of m y).universe ≡ (store_of m x).universe
    pub tainted : (store_of m y).tainted ≡ (store_of m x).tainted
    pub numbers : map m.ty y.numbers.items ≡ map m.ty x.numbers.items
    pub sub_roots : y.sub_roots.items ≡ x.sub_roots.items

  module _ (x : InferCtxtInner Key) (ts : Table (TyKey Key)) (b : ℕ) where
    types_entries : (j : VarKind) → (j ≡ type_var → ⊥) → (store_of m (record x { types = ts; budget = b })).entries j ≡ (store_of m x).entries j
    types_entries type_var o = absurd (o refl)
    types_entries int_var o = refl
    types_entries float_var o = refl
    types_entries const_var o = refl
    types_entries region_var o = refl

    types_universes : (j : VarKind) → (j ≡ type_var → ⊥) → (store_of m (record x { types = ts; budget = b })).universes j ≡ (store_of m x).universes j
    types_universes type_var o = absurd (o refl)
    types_universes int_var o = refl
    types_universes float_var o = refl
    types_universes const_var o = refl
    types_universes region_var o = refl

    types_keys : (j : VarKind) → (j ≡ type_var → ⊥) → keys_in m (record x { types = ts; budget = b }) j ≡ keys_in m x j
    types_keys type_var o = absurd (o refl)
    types_keys int_var o = refl
    types_keys float_var o = refl
    types_keys const_var o = refl
    types_keys region_var o = refl

    pub types_beside : Beside x (record x { types = ts; budget = b }) type_var
    types_beside = record { entries = types_entries; universes = types_universes; keys = types_keys; constraints = refl; universe = refl; tainted = refl; numbers = refl; sub_roots = refl }

  module _ (x : InferCtxtInner Key) (ts : Table (TyKey Key)) (b : ℕ) where
    ints_entries : (j : VarKind) → (j ≡ int_var → ⊥) → (store_of m (record x { ints = ts; budget = b })).entries j ≡ (store_of m x).entries j
    ints_entries type_var o = refl
    ints_entries int_var o = absurd (o refl)
    ints_entries float_var o = refl
    ints_entries const_var o = refl
    ints_entries region_var o = refl

    ints_universes : (j : VarKind) → (j ≡ int_var → ⊥) → (store_of m (record x { ints = ts; budget = b })).universes j ≡ (store_of m x).universes j
    ints_universes type_var o = refl
    ints_universes int_var o = absurd (o refl)
    ints_universes float_var o = refl
    ints_universes const_var o = refl
    ints_universes region_var o = refl

    ints_keys : (j : VarKind) → (j ≡ int_var → ⊥) → keys_in m (record x { ints = ts; budget = b }) j ≡ keys_in m x j
    ints_keys type_var o = refl
    ints_keys int_var o = absurd (o refl)
    ints_keys float_var o = refl
    ints_keys const_var o = refl
    ints_keys region_var o = refl

    pub ints_beside : Beside x (record x { ints = ts; budget = b }) int_var
    ints_beside = record { entries = ints_entries; universes = ints_universes; keys = ints_keys; constraints = refl; universe = refl; tainted = refl; numbers = refl; sub_roots = refl }

  module _ (x : InferCtxtInner Key) (ts : Table (TyKey Key)) (b : ℕ) where
    floats_entries : (j : VarKind) → (j ≡ float_var → ⊥) → (store_of m (record x { floats = ts; budget = b })).entries j ≡ (store_of m x).entries j
    floats_entries type_var o = refl
    floats_entries int_var o = refl
    floats_entries float_var o = absurd (o refl)
    floats_entries const_var o = refl
    floats_entries region_var o = refl

    floats_universes : (j : VarKind) → (j ≡ float_var → ⊥) → (store_of m (record x { floats = ts; budget = b })).universes j ≡ (store_of m x).universes j
    floats_universes type_var o = refl
    floats_universes int_var o = refl
    floats_universes float_var o = absurd (o refl)
    floats_universes const_var o = refl
    floats_universes region_var o = refl

    floats_keys : (j : VarKind) → (j ≡ float_var → ⊥) → keys_in m (record x { floats = ts; budget = b }) j ≡ keys_in m x j
    floats_keys type_var o = refl
    floats_keys int_var o = refl
    floats_keys float_var o = absurd (o refl)
    floats_keys const_var o = refl
    floats_keys region_var o = refl

    pub floats_beside : Beside x (record x { floats = ts; budget = b }) float_var
    floats_beside = record { entries = floats_entries; universes = floats_universes; keys = floats_keys; constraints = refl; universe = refl; tainted = refl; numbers = refl; sub_roots = refl }

  module _ (x : InferCtxtInner Key) (ts : Table (ConstKey Key)) (b : ℕ) where
    consts_entries : (j : VarKind) → (j ≡ const_var → ⊥) → (store_of m (record x { consts = ts; budget = b })).entries j ≡ (store_of m x).entries j
    consts_entries type_var o = refl
    consts_entries int_var o = refl
    consts_entries float_var o = refl
    consts_entries const_var o = absurd (o refl)
    consts_entries region_var o = refl

    consts_universes : (j : VarKind) → (j ≡ const_var → ⊥) → (store_of m (record x { consts = ts; budget = b })).universes j ≡ (store_of m x).universes j
    consts_universes type_var o = refl
    consts_universes int_var o = refl
    consts_universes float_var o = refl
    consts_universes const_var o = absurd (o refl)
    consts_universes region_var o = refl

    consts_keys : (j : VarKind) → (j ≡ const_var → ⊥) → keys_in m (record x { consts = ts; budget = b }) j ≡ keys_in m x j
    consts_keys type_var o = refl
    consts_keys int_var o = refl
    consts_keys float_var o = refl
    consts_keys const_var o = absurd (o refl)
    consts_keys region_var o = refl

    pub consts_beside : Beside x (record x { consts = ts; budget = b }) const_var
    consts_beside = record { entries = consts_entries; universes = consts_universes; keys = consts_keys; constraints = refl; universe = refl; tainted = refl; numbers = refl; sub_roots = refl }

  module _ (x : InferCtxtInner Key) (ts : Table (RegionKey Key)) (b : ℕ) where
    regions_entries : (j : VarKind) → (j ≡ region_var → ⊥) → (store_of m (record x { regions = ts; budget = b })).entries j ≡ (store_of m x).entries j
    regions_entries type_var o = refl
    regions_entries int_var o = refl
    regions_entries float_var o = refl
    regions_entries const_var o = refl
    regions_entries region_var o = absurd (o refl)

    regions_universes : (j : VarKind) → (j ≡ region_var → ⊥) → (store_of m (record x { regions = ts; budget = b })).universes j ≡ (store_of m x).universes j
    regions_universes type_var o = refl
    regions_universes int_var o = refl
    regions_universes float_var o = refl
    regions_universes const_var o = refl
    regions_universes region_var o = absurd (o refl)

    regions_keys : (j : VarKind) → (j ≡ region_var → ⊥) → keys_in m (record x { regions = ts; budget = b }) j ≡ keys_in m x j
    regions_keys type_var o = refl
    regions_keys int_var o = refl
    regions_keys float_var o = refl
    regions_keys const_var o = refl
    regions_keys region_var o = absurd (o refl)

    pub regions_beside : Beside x (record x { regions = ts; budget = b }) region_var
    regions_beside = record { entries = regions_entries; universes = regions_universes; keys = regions_keys; constraints = refl; universe = refl; tainted = refl; numbers = refl; sub_roots = refl }

  -- So the context is lawful where its table is.
  pub lawful_beside : (x y : InferCtxtInner Key) (k : VarKind) → Beside x y k →
      ((n : ℕ) → n < length (keys_in m y k) → get_or (keys_in m y k) n nil ≡ leaf (variable k n)) →
      IsSound (store_of m y) → IsRooted (store_of m y) → IsFilled (store_of m y) →
      (IsNumberKind k → (n : ℕ) → universe_of (store_of m y) k n ≡ 0) →
      length ((store_of m y).entries type_var) ≤ length y.sub_roots.items →
      length ((store_of m x).entries type_var) ≤ length ((store_of m y).entries type_var) → IsLawful m x → IsLawful m y
  lawful_beside x y k b keyed sound rooted filled first roots grew l = record {
    sound = sound;
    rooted = rooted;
    formed = filled;
    numbers_name_nothing = λ j i f. below j i f (VarKind_discrete j k);
    keyed = λ j. go j (VarKind_discrete j k);
    numbers = b.numbers ∙ l.numbers;
    sub_rooted = record {
      count = roots;
      rooted = subst IsRootTable (sym b.sub_roots) l.sub_rooted.rooted;
      fresh = λ n h. ap (λ rs. root_in rs n) b.sub_roots ∙ l.sub_rooted.fresh n (omega (arith, h, grew));
    };
  }
    where
      go : (j : VarKind) → Dec (j ≡ k) → (n : ℕ) → n < length (keys_in m y j) → get_or (keys_in m y j) n nil ≡ leaf (variable j n)
      go j (yes e) = subst (λ i. (n : ℕ) → n < length (keys_in m y i) → get_or (keys_in m y i) n nil ≡ leaf (variable i n)) (sym e) keyed
      go j (no o) = subst (λ ts. (n : ℕ) → n < length ts → get_or ts n nil ≡ leaf (variable j n)) (sym (b.keys j o)) (l.keyed j)

      below : (j : VarKind) (i : ℕ) → IsNumberKind j → Dec (j ≡ k) → universe_of (store_of m y) j i ≡ 0
      below j i f (yes e) = subst (λ z. IsNumberKind z → universe_of (store_of m y) z i ≡ 0) (sym e) (λ g. first g i) f
      below j i f (no o) = ap (λ us. get_or us i 0) (b.universes j o) ∙ l.numbers_name_nothing j i f

  -- Where its keys stand, they are theirs.
  pub keyed_still : (x y : InferCtxtInner Key) (k : VarKind) → keys_in m y k ≡ keys_in m x k → IsLawful m x →
      (n : ℕ) → n < length (keys_in m y k) → get_or (keys_in m y k) n nil ≡ leaf (variable k n)
  keyed_still x y k e l = subst (λ ts. (n : ℕ) → n < length ts → get_or ts n nil ≡ leaf (variable k n)) (sym e) (l.keyed k)
