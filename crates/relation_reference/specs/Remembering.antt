-- What walks through terms remember of the parts that they have met.
use Rattle.std.specs.Prelude.{◌≡◌, ℕ, Bool, IsTrue, Option, Some, option_map}
use Rattle.std.specs.HashMap.{HashMap, get}
use Rattle.relation_terms.specs.Trees.{Tree, known, apply}
use Rattle.relation_terms.specs.Meaning.{Meaning}
use Rattle.relation_terms.specs.Parts.{part_sort, part_key, part_tree}
use Rattle.relation_terms.specs.declared.terms.part_kind.Part.{Part}
use Rattle.relation_folds.specs.Folds.{part_rank}
use Rattle.relation_reference.specs.declared.context.memory.PartKey.{PartKey}
use Rattle.variable_tables.specs.declared.inner.InferCtxtInner.{InferCtxtInner}
use Rattle.relation_semantics.specs.Stores.{Store, resolved}
use Rattle.variable_tables.specs.Tables.{store_of}

-- What a term comes to by what is recorded, at every depth.
abbrev pub resolved_by : Store → Tree → Tree
resolved_by st t = apply (resolved st) t

-- A part that has a key, as it is looked for.
abbrev pub key_of : {Key Id : Type 0} → Part Key Id → Option (PartKey Key)
key_of p = option_map (λ k. record { sort = part_rank p; key = k }) (part_key p)

module _ {Key Id Name : Type 0} (m : Meaning Key Id Name) (st : Store) where
  -- What a known part comes to by what is recorded, at every depth.
  pub record ResolvesTo (p by : Part Key Id) : Type 0 where
    pub there : IsTrue (known (part_tree m p))
    pub sure : IsTrue (known (part_tree m by))
    pub comes : part_tree m by ≡ apply (resolved st) (part_tree m p)
    pub sort : part_sort by ≡ part_sort p

  -- What is kept at a key is what a part of an equal key comes to.
  pub record IsKept (eq : PartKey Key → PartKey Key → Bool) (q : PartKey Key) (by : Part Key Id) : Type 0 where
    pub part : Part Key Id
    pub key : PartKey Key
    pub stands : key_of part ≡ Some key
    pub same : IsTrue (eq key q)
    pub is : ResolvesTo part by

  -- What is found is kept so.
  abbrev pub Remembers : {S : Type 0} → (PartKey Key → PartKey Key → Bool) →
      HashMap (PartKey Key) (Part Key Id) S → Type 0
  Remembers eq memory = (q : PartKey Key) (by : Part Key Id) → get eq memory q ≡ Some by → IsKept eq q by

module _ {I Key Id Name : Type 0} (meaning : I → Meaning Key Id Name) where
  -- A memory remembers what parts come to by the tables of a context.
  abbrev pub Caches : {S : Type 0} → I → InferCtxtInner Key → (PartKey Key → PartKey Key → Bool) →
      HashMap (PartKey Key) (Part Key Id) S → Type 0
  Caches cx x eq memory = Remembers (meaning cx) (store_of (meaning cx) x) eq memory

  -- What a part came to by the tables of a context, while its interner grew.
  abbrev pub IsResolvedPart : I → I → InferCtxtInner Key → Part Key Id → Part Key Id → Type 0
  IsResolvedPart before after x p by =
      part_tree (meaning after) by ≡ resolved_by (store_of (meaning before) x) (part_tree (meaning before) p)
