-- What components name is known, and the components that a type has.
use Rattle.std.specs.Prelude.{List, [], IsTrue}
use Rattle.relation_terms.specs.declared.terms.keys.TyKey.{TyKey}
use Rattle.relation_terms.specs.Trees.{known}
use Rattle.relation_terms.specs.Meaning.{Meaning}
use Rattle.component_parts.specs.Components.{every, components}
use Rattle.outlives.specs.Outliving.{EachIs, AddsSome, HasAll}
use Rattle.outlives.specs.declared.Component.{Component, Region, Param, Placeholder, UnresolvedInferenceVariable, Alias, EscapingAlias', Row_of-Component, end_of-Component, more_of-Component}

module _ {X D N : Type 0} (m : Meaning X D N) where
  abbrev mutual
    -- The region, or the arguments of the alias; of one that a variable escapes, what its components name.
    pub KnowsComponent : Component X D N → Type 0
    KnowsComponent (Region r) = IsTrue (known (m.region r))
    KnowsComponent (Param p) = Unit {0}
    KnowsComponent (Placeholder p) = Unit {0}
    KnowsComponent (UnresolvedInferenceVariable i) = Unit {0}
    KnowsComponent (Alias a) = IsTrue (known (m.args a.args))
    KnowsComponent (EscapingAlias' shape all) = KnowsInside all

    -- The same of each that is held in one.
    pub KnowsInside : {n : _} → Row_of-Component X D N n → Type 0
    KnowsInside end_of-Component = Unit {0}
    KnowsInside (more_of-Component c rest) = KnowsComponent c × KnowsInside rest

  -- The same of each of a list.
  abbrev pub KnowsComponents : List (Component X D N) → Type 0
  KnowsComponents cs = EachIs (λ c. KnowsComponent c) cs

  -- Each is a component of a type, or for each component of a type one is there.
  abbrev pub AreComponents : TyKey X → List (Component X D N) → Type 0
  AreComponents t cs = AddsSome m (components every (m.ty t)) [] cs

  abbrev pub HasComponents : TyKey X → List (Component X D N) → Type 0
  HasComponents t cs = HasAll m (components every (m.ty t)) cs
