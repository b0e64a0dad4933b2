-- What contracts see of a `RefCtxt`, by what the keys of its interner mean.
use Rattle.std.specs.Prelude.{◌≡◌, ℕ, [], false}
use Rattle.relation_terms.specs.declared.terms.keys.TyKey.{TyKey}
use Rattle.relation_terms.specs.declared.terms.keys.ConstKey.{ConstKey}
use Rattle.relation_terms.specs.declared.terms.part_kind.Part.{Part}
use Rattle.relation_terms.specs.Trees.{Tree, apply}
use Rattle.relation_terms.specs.Meaning.{Meaning}
use Rattle.relation_terms.specs.Parts.{part_tree}
use Rattle.relation_semantics.specs.Stores.{Store, resolved}
use Rattle.relation_semantics.specs.Contexts.{Context}
use Rattle.relation_reference.specs.declared.context.variables.RefCtxt.{RefCtxt}
use Rattle.variable_tables.specs.declared.inner.InferCtxtInner.{InferCtxtInner}
use Rattle.variable_classes.specs.Roots.{root_in}
use Rattle.variable_tables.specs.Tables.{store_of, context_of}

-- It has no variable, no constraint, and no type that is to outlive a region; and no error was met.
pub record IsNew {Key : Type 0} (x : InferCtxtInner Key) : Type 0 where
  pub types : x.types.items ≡ []
  pub ints : x.ints.items ≡ []
  pub floats : x.floats.items ≡ []
  pub consts : x.consts.items ≡ []
  pub regions : x.regions.items ≡ []
  pub constraints : x.constraints.items ≡ []
  pub ty_outlives : x.ty_outlives.items ≡ []
  pub sub_roots : x.sub_roots.items ≡ []
  pub untainted : x.tainted ≡ false

module _ {Key : Type 0} where
  -- The root of each variable among those that are marked as related.
  abbrev pub sub_root_in : InferCtxtInner Key → ℕ → ℕ
  sub_root_in x = root_in x.sub_roots.items

module _ {I Key Id Name Span : Type 0} (meaning : I → Meaning Key Id Name) where
  -- The store that its tables record.
  abbrev pub store_in : RefCtxt I Key Id Name Span → Store
  store_in c = store_of (meaning c.interner) c.inner

  -- The context as it stands.
  abbrev pub context_in : RefCtxt I Key Id Name Span → Context Key Id Name
  context_in c = context_of (meaning c.interner) c.inner

  -- What the keys of types and constants mean in it, and the parts of terms.
  abbrev pub ty_term : RefCtxt I Key Id Name Span → TyKey Key → Tree
  ty_term c = (meaning c.interner).ty

  abbrev pub const_term : RefCtxt I Key Id Name Span → ConstKey Key → Tree
  const_term c = (meaning c.interner).const_

  abbrev pub part_term : RefCtxt I Key Id Name Span → Part Key Id → Tree
  part_term c = part_tree (meaning c.interner)

  -- What a term comes to in it, at every depth.
  abbrev pub resolved_in : RefCtxt I Key Id Name Span → Tree → Tree
  resolved_in c t = apply (resolved (store_in c)) t
