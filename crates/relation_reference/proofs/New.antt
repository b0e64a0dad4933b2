-- A context that has recorded nothing.
use Rattle.std.proofs.Common.{◌≡◌, refl, sym, ap, arith, subst, [], length, map, get_or, le_refl}
use Rattle.relation_terms.specs.Heads.{VarKind, type_var, int_var, float_var, const_var, region_var}
use Rattle.relation_terms.specs.Meaning.{Meaning}
use Rattle.relation_semantics.specs.Stores.{unbound}
use Rattle.relation_semantics.specs.Constraints.{constraint_of}
use Rattle.relation_semantics.proofs.Empty.{empty_sound}
use Rattle.variable_tables.specs.declared.inner.InferCtxtInner.{InferCtxtInner}
use Rattle.variable_tables.specs.Variables.{entries_of, universes_of, trees_of}
use Rattle.variable_tables.specs.Numbers.{number_trees}
use Rattle.variable_classes.specs.Roots.{root_in, IsRootTable}
use Rattle.variable_tables.specs.Tables.{store_of, keys_in, IsLawful}
use Rattle.relation_reference.specs.RefCtxt.{IsNew}

module _ {Key Id Name : Type 0} (m : Meaning Key Id Name) (x : InferCtxtInner Key) (n : IsNew x) where
  entries : (k : VarKind) → (store_of m x).entries k ≡ []
  entries type_var = ap (entries_of m.ty) n.types
  entries int_var = ap (entries_of m.ty) n.ints
  entries float_var = ap (entries_of m.ty) n.floats
  entries const_var = ap (entries_of m.const_) n.consts
  entries region_var = ap (entries_of m.region) n.regions

  universes : (k : VarKind) → (store_of m x).universes k ≡ []
  universes type_var = ap universes_of n.types
  universes int_var = ap universes_of n.ints
  universes float_var = ap universes_of n.floats
  universes const_var = ap universes_of n.consts
  universes region_var = ap universes_of n.regions

  keys : (k : VarKind) → keys_in m x k ≡ []
  keys type_var = ap (trees_of m.ty) n.types
  keys int_var = ap (trees_of m.ty) n.ints
  keys float_var = ap (trees_of m.ty) n.floats
  keys const_var = ap (trees_of m.const_) n.consts
  keys region_var = ap (trees_of m.region) n.regions

  pub new_lawful : map m.ty x.numbers.items ≡ number_trees → IsLawful m x
  new_lawful numbers = record {
    sound = empty_sound (store_of m x) entries universes (ap (map (constraint_of m)) n.constraints);
    rooted = λ k i r p h. absurd (let e = ap (λ es. get_or es i unbound) (entries k) in cc (e, h));
    formed = λ k i t h. absurd (let e = ap (λ es. get_or es i unbound) (entries k) in cc (e, h));
    numbers_name_nothing = λ k i h. ap (λ us. get_or us i 0) (universes k);
    keyed = λ k i h. absurd (let e = ap length (keys k) in omega (arith, h, e));
    numbers = numbers;
    sub_rooted = record {
      count = let e = ap length (entries type_var) in omega (arith, e);
      rooted = subst IsRootTable (sym n.sub_roots) (record { own = λ i. refl; below = λ i. le_refl i });
      fresh = λ i h. ap (λ rs. root_in rs i) n.sub_roots;
    };
  }
