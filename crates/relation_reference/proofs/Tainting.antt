-- An error was met in a context: nothing but the taint changes.
use Rattle.std.proofs.Common.{refl, true, le_refl}
use Rattle.relation_terms.specs.Meaning.{Meaning}
use Rattle.relation_semantics.specs.Steps.{ChangesNothing, Taints}
use Rattle.relation_semantics.proofs.StoreCalls.{nothing_is_seen}
use Rattle.variable_tables.specs.declared.inner.InferCtxtInner.{InferCtxtInner}
use Rattle.variable_tables.specs.Tables.{store_of, IsLawful}

module _ {Key Id Name : Type 0} (m : Meaning Key Id Name) (x : InferCtxtInner Key) where
  abbrev y : InferCtxtInner Key
  y = record x { tainted = true }

  taint_alone : ChangesNothing (store_of m x) (store_of m y)
  taint_alone = record {
    same_entries = λ k. refl;
    same_universes = λ k. refl;
    same_constraints = refl;
    universe_stands = le_refl (x.universe).0;
    taint_stands = λ h. refl;
    same_budget = refl;
  }

  pub taints : Taints (store_of m x) (store_of m y)
  taints = record { nothing_else = taint_alone; same_universe = refl; tainted = refl }

  pub taint_lawful : IsLawful m x → IsLawful m y
  taint_lawful l = record {
    sound = (nothing_is_seen (store_of m x) (store_of m y) taint_alone).0 l.sound;
    rooted = l.rooted;
    formed = l.formed;
    numbers_name_nothing = l.numbers_name_nothing;
    keyed = l.keyed;
    numbers = l.numbers;
    sub_rooted = record { count = l.sub_rooted.count; rooted = l.sub_rooted.rooted; fresh = l.sub_rooted.fresh };
  }
