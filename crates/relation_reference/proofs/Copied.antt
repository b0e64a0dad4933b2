-- A copy of a context's tables records the same, and is lawful.
use Rattle.std.proofs.Common.{◌≡◌, ℕ, ◌<◌, ◌≤◌, sym, ◌∙◌, ap, ap₂, subst, List, length, get_or, map}
use Rattle.std.specs.Prelude.{IfOk, Result, Ok, Err}
use Rattle.relation_terms.specs.Heads.{VarKind, type_var, int_var, float_var, const_var, region_var, variable}
use Rattle.relation_terms.specs.Trees.{leaf, nil}
use Rattle.relation_terms.specs.Meaning.{Meaning}
use Rattle.relation_terms.specs.declared.terms.numbers.UniverseIndex.{UniverseIndex}
use Rattle.relation_terms.specs.declared.predicate.regions.RegionConstraint.{RegionConstraint}
use Rattle.relation_semantics.specs.Constraints.{constraint_of}
use Rattle.relation_semantics.specs.Generalising.{NumbersNameNothing}
use Rattle.relation_semantics.specs.Stores.{IsSound}
use Rattle.relation_reference.specs.declared.context.variables.RefCtxt.{RefCtxt}
use Rattle.relation_reference.specs.RefCtxt.{context_in}
use Rattle.variable_tables.specs.declared.inner.InferCtxtInner.{InferCtxtInner}
use Rattle.variable_classes.specs.Roots.{root_in, IsRootTable}
use Rattle.variable_tables.specs.Tables.{by_kind, store_of, keys_in, IsRooted, IsFilled, IsLawful, context_of}
use Rattle.variable_tables.specs.Variables.{entries_of, universes_of, trees_of}
use Rattle.kept_records.specs.Records.{SameRecord, IsRecordOf}
use Rattle.relation_reference.specs.Copies.{IsCopy}

module _ {Key Id Name : Type 0} (m : Meaning Key Id Name) (x y : InferCtxtInner Key) (c : IsCopy x y) where
  -- Each table of the copy in turn.
  store_types : store_of m y ≡ store_of m (record y { types = x.types })
  store_types = ap (λ z. record (store_of m y) {
    entries = by_kind (entries_of m.ty z) (entries_of m.ty y.ints.items) (entries_of m.ty y.floats.items)
        (entries_of m.const_ y.consts.items) (entries_of m.region y.regions.items);
    universes = by_kind (universes_of z) (universes_of y.ints.items) (universes_of y.floats.items)
        (universes_of y.consts.items) (universes_of y.regions.items);
  }) c.types

  store_ints : store_of m (record y { types = x.types }) ≡ store_of m (record y { types = x.types; ints = x.ints })
  store_ints = ap (λ z. record (store_of m y) {
    entries = by_kind (entries_of m.ty x.types.items) (entries_of m.ty z) (entries_of m.ty y.floats.items)
        (entries_of m.const_ y.consts.items) (entries_of m.region y.regions.items);
    universes = by_kind (universes_of x.types.items) (universes_of z) (universes_of y.floats.items)
        (universes_of y.consts.items) (universes_of y.regions.items);
  }) c.ints

  store_floats : store_of m (record y { types = x.types; ints = x.ints }) ≡
      store_of m (record y { types = x.types; ints = x.ints; floats = x.floats })
  store_floats = ap (λ z. record (store_of m y) {
    entries = by_kind (entries_of m.ty x.types.items) (entries_of m.ty x.ints.items) (entries_of m.ty z)
        (entries_of m.const_ y.consts.items) (entries_of m.region y.regions.items);
    universes = by_kind (universes_of x.types.items) (universes_of x.ints.items) (universes_of z)
        (universes_of y.consts.items) (universes_of y.regions.items);
  }) c.floats

  store_consts : store_of m (record y { types = x.types; ints = x.ints; floats = x.floats }) ≡
      store_of m (record y { types = x.types; ints = x.ints; floats = x.floats; consts = x.consts })
  store_consts = ap (λ z. record (store_of m y) {
    entries = by_kind (entries_of m.ty x.types.items) (entries_of m.ty x.ints.items) (entries_of m.ty x.floats.items)
        (entries_of m.const_ z) (entries_of m.region y.regions.items);
    universes = by_kind (universes_of x.types.items) (universes_of x.ints.items) (universes_of x.floats.items)
        (universes_of z) (universes_of y.regions.items);
  }) c.consts

  store_regions : store_of m (record y { types = x.types; ints = x.ints; floats = x.floats; consts = x.consts }) ≡
      record (store_of m x) {
        universe = (y.universe).0;
        constraints = map (constraint_of m) y.constraints.items;
        tainted = y.tainted;
        budget = y.budget;
      }
  store_regions = ap (λ z. record (store_of m y) {
    entries = by_kind (entries_of m.ty x.types.items) (entries_of m.ty x.ints.items) (entries_of m.ty x.floats.items)
        (entries_of m.const_ x.consts.items) (entries_of m.region z);
    universes = by_kind (universes_of x.types.items) (universes_of x.ints.items) (universes_of x.floats.items)
        (universes_of x.consts.items) (universes_of z);
  }) c.regions

  rest_same : record (store_of m x) {
    universe = (y.universe).0;
    constraints = map (constraint_of m) y.constraints.items;
    tainted = y.tainted;
    budget = y.budget;
  } ≡ store_of m x
  rest_same =
      ap₂ (λ (u : UniverseIndex) (q : List (RegionConstraint Key)). record (store_of m x) {
        universe = u.0;
        constraints = map (constraint_of m) q;
        tainted = y.tainted;
        budget = y.budget;
      }) c.universe c.constraints ∙
      ap₂ (λ t b. record (store_of m x) { tainted = t; budget = b }) c.tainted c.budget

  pub store_same : store_of m y ≡ store_of m x
  store_same = store_types ∙ (store_ints ∙ (store_floats ∙ (store_consts ∙ (store_regions ∙ rest_same))))

  keys_same : (k : VarKind) → keys_in m y k ≡ keys_in m x k
  keys_same type_var = ap (trees_of m.ty) c.types
  keys_same int_var = ap (trees_of m.ty) c.ints
  keys_same float_var = ap (trees_of m.ty) c.floats
  keys_same const_var = ap (trees_of m.const_) c.consts
  keys_same region_var = ap (trees_of m.region) c.regions

  pub lawful_same : IsLawful m x → IsLawful m y
  lawful_same l = record {
    sound = subst IsSound (sym store_same) l.sound;
    rooted = subst IsRooted (sym store_same) l.rooted;
    formed = subst IsFilled (sym store_same) l.formed;
    numbers_name_nothing = subst NumbersNameNothing (sym store_same) l.numbers_name_nothing;
    keyed = λ k. subst (λ ts. (i : ℕ) → i < length ts → get_or ts i nil ≡ leaf (variable k i)) (sym (keys_same k))
        (l.keyed k);
    numbers = ap (map m.ty) c.numbers ∙ l.numbers;
    sub_rooted = record {
      count = subst (λ st. length (st.entries type_var) ≤ length y.sub_roots.items) (sym store_same)
          (subst (λ rs. length ((store_of m x).entries type_var) ≤ length rs) (sym c.sub_roots) l.sub_rooted.count);
      rooted = subst IsRootTable (sym c.sub_roots) l.sub_rooted.rooted;
      fresh = subst (λ st. (i : ℕ) → length (st.entries type_var) ≤ i → root_in y.sub_roots.items i ≡ i)
          (sym store_same) (subst (λ rs. (i : ℕ) → length ((store_of m x).entries type_var) ≤ i → root_in rs i ≡ i)
          (sym c.sub_roots) l.sub_rooted.fresh);
    };
  }

  same_record : SameRecord (context_of m x) (context_of m y)
  same_record = record {
    store = store_same;
    setup = ap₂ (λ s t. record { is_next_solver = s; typing_mode = t }) c.next_solver c.mode;
    outliving = c.ty_outlives;
    marks = λ n. ap (λ rs. root_in rs n) c.sub_roots;
  }

  pub copy_is : IsLawful m x → IsRecordOf (context_of m x) (context_of m y)
  copy_is l = record { same = same_record; lawful = lawful_same l }

-- A copy is a record of the context.
pub kept_is : {I Key Id Name Span F : Type 0} (meaning : I → Meaning Key Id Name) (c : RefCtxt I Key Id Name Span)
    (result : Result (InferCtxtInner Key) F) → IfOk result (IsCopy c.inner) → IsLawful (meaning c.interner) c.inner →
    IfOk result (λ r. IsRecordOf (context_in meaning c) (context_in meaning (record c { inner = r })))
kept_is meaning c (Ok y) h l = copy_is (meaning c.interner) c.inner y h l
kept_is meaning c (Err f) h l = tt
