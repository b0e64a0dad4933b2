-- The universes of variables, and the keys of region variables.
use Rattle.std.proofs.Common.{◌≡◌, ℕ, ◌<◌, sym, ap, ◌∙◌, subst, List, length, get_or, Option}
use Rattle.std.proofs.lemmas.List.{get_or-map}
use Rattle.relation_terms.specs.Heads.{VarKind, region_var, variable}
use Rattle.relation_terms.specs.Trees.{Tree, leaf, nil}
use Rattle.relation_terms.specs.Meaning.{Meaning}
use Rattle.relation_terms.specs.declared.terms.keys.RegionKey.{RegionKey}
use Rattle.relation_terms.specs.declared.terms.numbers.UniverseIndex.{UniverseIndex}
use Rattle.relation_semantics.specs.Contexts.{Context}
use Rattle.relation_semantics.specs.ContextCalls.{IsRootOf, HasUniverse}
use Rattle.relation_semantics.specs.Stores.{entry_of, IsMade, IsSound}
use Rattle.variable_tables.specs.declared.inner.Variable.{Variable}
use Rattle.variable_tables.specs.declared.inner.VariableValue.{VariableValue}
use Rattle.variable_tables.specs.declared.inner.VariableValue.TheVariants.{Unknown, SameAs, Known}
use Rattle.variable_tables.specs.declared.inner.InferCtxtInner.{InferCtxtInner}
use Rattle.variable_tables.specs.Variables.{keys_of, value_at, universe_at, root_at, free_universe}
use Rattle.variable_tables.specs.Variables.{entry_of_value, entries_of, universes_of}
use Rattle.variable_tables.specs.Tables.{IsRooted, IsLawful}
use Rattle.relation_reference.proofs.Reading.{entry_is, root_leads, root_stands, root_made, keys_reach, trees_reach}

-- What is found for a variable of a table of a context.
module _ {Key Id Name K : Type 0} (c : Context Key Id Name) (tree : K → Tree) (vs : List (Variable K)) (k : VarKind)
    (is : (c.store).entries k ≡ entries_of tree vs) (universes : (c.store).universes k ≡ universes_of vs) where
  by_value : (n r : ℕ) (v : VariableValue K) (o : Option UniverseIndex) → o ≡ free_universe (universe_at vs r) v →
      entry_of c.store k r ≡ entry_of_value tree v → IsRootOf c k n r → HasUniverse c k n o
  by_value n r Unknown o q e h = subst (HasUniverse c k n) (sym q) (r, h, e, sym (ap (λ us. get_or us r 0) universes))
  by_value n r (SameAs p) o q e h = absurd (h.root p e)
  by_value n r (Known t) o q e h = subst (HasUniverse c k n) (sym q) (r, h, (tree t, e))

  pub has_universe : IsSound c.store → IsRooted c.store → (n : ℕ) → IsMade c.store k n → (o : Option UniverseIndex) →
      o ≡ free_universe (universe_at vs (root_at vs n)) (value_at vs (root_at vs n)) → HasUniverse c k n o
  has_universe g rooted n made o q = by_value n (root_at vs n) (value_at vs (root_at vs n)) o q
      (entry_is tree vs c.store k is (root_at vs n)) (record {
        made = root_made tree vs c.store k is g n made;
        leads = root_leads tree vs c.store k is n;
        root = root_stands tree vs c.store k is rooted n;
      })

-- The key beside a region variable is its own.
pub region_key : {Key Id Name : Type 0} (m : Meaning Key Id Name) (x : InferCtxtInner Key) → IsLawful m x → (n : ℕ) →
    n < length x.regions.items → (r : RegionKey Key) → ((d : RegionKey Key) → r ≡ get_or (keys_of x.regions.items) n d) →
    m.region r ≡ leaf (variable region_var n)
region_key m x l n h r e = ap m.region (e r)
    ∙ sym (get_or-map m.region (keys_of x.regions.items) n r nil (keys_reach x.regions.items n h))
    ∙ l.keyed region_var n (trees_reach m.region x.regions.items n h)
