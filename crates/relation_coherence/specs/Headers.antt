-- Headers as trees, and two of them opened in a context.
use Rattle.std.specs.Prelude.{◌≡◌, ◌+◌, List, Some, IsTrue}
use Rattle.relation_terms.specs.declared.terms.binder.Binder.{Binder}
use Rattle.relation_terms.specs.declared.terms.keys.ArgsKey.{ArgsKey}
use Rattle.relation_terms.specs.Heads.{BoundKind, arguments}
use Rattle.relation_terms.specs.Trees.{Tree, Leaves, known, count}
use Rattle.relation_terms.specs.Meaning.{Meaning}
use Rattle.fast_reject.specs.Instances.{IsNoVariable, AgreeOnNames as NamesAgree}
use Rattle.relation_semantics.specs.Binders.{binder_tree}
use Rattle.relation_semantics.specs.Bound.{IsWellBound}
use Rattle.relation_semantics.specs.Contexts.{Context}
use Rattle.relation_semantics.specs.OneUniverse.{HasOneUniverse, all_unbound}
use Rattle.relation_semantics.specs.Steps.{InstantiatesBinder}
use Rattle.relation_semantics.specs.Stores.{Store, InContext, IsTermIn}
use Rattle.context_relation.specs.Relating.{term_in, KnowsTerm}
use Rattle.relation_coherence.specs.Bounds.{types_bound}

module _ {Key Id Name : Type 0} where
  -- The trees of a trait's arguments, and of a header, which is a binder over such.
  abbrev pub args_tree : Meaning Key Id Name → ArgsKey Key → Tree
  args_tree m a = m.args a

  abbrev pub header_tree : Meaning Key Id Name → Binder Key (ArgsKey Key) → Tree
  header_tree m h = binder_tree args_tree m h

  module _ (c : Context Key Id Name) where
    -- The interner knows the header; its binders bind by their lists; and what stands in it is the context's.
    abbrev pub KnowsHeader : Binder Key (ArgsKey Key) → Type 0
    KnowsHeader h = IsTrue (known (header_tree c.meaning h))

    abbrev pub TakesHeader : Binder Key (ArgsKey Key) → Type 0
    TakesHeader h = IsWellBound (header_tree c.meaning h)

    abbrev pub HasHeader : Binder Key (ArgsKey Key) → Type 0
    HasHeader h = IsTermIn c.store (header_tree c.meaning h)

    -- Two headers are over as many arguments.
    abbrev pub AreOfOneLength : Binder Key (ArgsKey Key) → Binder Key (ArgsKey Key) → Type 0
    AreOfOneLength a b = count ((c.meaning).args a.value) ≡ count ((c.meaning).args b.value)

    -- No inference variable stands in a header.
    abbrev pub IsClosedHeader : Binder Key (ArgsKey Key) → Type 0
    IsClosedHeader h = Leaves IsNoVariable (header_tree c.meaning h)

    -- Parameters, which are those of the environment that both stand in, have one name for one index.
    abbrev pub AgreeOnNames : Binder Key (ArgsKey Key) → Binder Key (ArgsKey Key) → Type 0
    AgreeOnNames a b = NamesAgree ((c.meaning).args a.value) ((c.meaning).args b.value)

    -- A list of arguments may be related in the context.
    pub record MayRelate (x : ArgsKey Key) : Type 0 where
      pub is_known : KnowsTerm c (Some arguments) args_tree x
      pub taken : IsWellBound (term_in c (Some arguments) args_tree x)
      pub has : IsTermIn c.store (term_in c (Some arguments) args_tree x)

  -- Two headers were opened, one after the other, with new variables for what they bind.
  pub record OpensHeaders (c d : Context Key Id Name) (left right : Binder Key (ArgsKey Key)) (x y : ArgsKey Key)
      : Type 0 where
    pub middle : Store
    pub left_binds : List BoundKind
    pub right_binds : List BoundKind
    pub left_list : (c.meaning).bound_vars left.bound_vars ≡ Some left_binds
    pub right_list : (c.meaning).bound_vars right.bound_vars ≡ Some right_binds
    pub first : InstantiatesBinder c.store middle left_binds ((c.meaning).args left.value) ((d.meaning).args x)
    pub second : InstantiatesBinder middle d.store right_binds ((c.meaning).args right.value) ((d.meaning).args y)
    pub left_in : InContext middle ((d.meaning).args x)
    pub one_universe : HasOneUniverse (c.store).universe c.store → HasOneUniverse (c.store).universe d.store
    pub unresolved : all_unbound d.store ≡ all_unbound c.store + (types_bound left_binds + types_bound right_binds)
    pub left_relates : MayRelate d x
    pub right_relates : MayRelate d y
