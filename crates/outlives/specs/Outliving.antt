-- Which components a list has, of those that the tree of a type has.
use Rattle.std.specs.Prelude.{◌≡◌, ◌⊎◌, true, false, List, [], ◌∷◌, ◌++◌}
use Rattle.relation_terms.specs.Trees.{Tree}
use Rattle.relation_terms.specs.Meaning.{Meaning, kind_tree, infer_tree, ty_placeholder_tree}
use Rattle.relation_terms.specs.declared.terms.ty_kind.TyKind.TheVariants.{Param as TyParam, Alias as TyAlias}
use Rattle.relation_folds.specs.Visits.{bound_var_escapes}
use Rattle.component_parts.specs.Components.{inside_alias}
use Rattle.outlives.specs.declared.Component.{Component, Region, Param, Placeholder, UnresolvedInferenceVariable, Alias, EscapingAlias', Row_of-Component, end_of-Component, more_of-Component}

-- Some element has a property, and each has it.
abbrev pub SomeIs : {A : Type 0} → (A → Type 0) → List A → Type 0
SomeIs P [] = ⊥
SomeIs P (x ∷ xs) = P x ⊎ SomeIs P xs

abbrev pub EachIs : {A : Type 0} → (A → Type 0) → List A → Type 0
EachIs P [] = Unit {0}
EachIs P (x ∷ xs) = P x × EachIs P xs

module _ {X D N : Type 0} (m : Meaning X D N) where
  abbrev mutual
    -- The component stands for a tree. One of an alias that a variable escapes holds a list that stands, as a set, for
    -- the components of the alias's arguments.
    pub StandsFor : Component X D N → Tree → Type 0
    StandsFor (Region r) t = m.region r ≡ t
    StandsFor (Param p) t = kind_tree m (TyParam p) ≡ t
    StandsFor (Placeholder p) t = ty_placeholder_tree m p ≡ t
    StandsFor (UnresolvedInferenceVariable i) t = infer_tree i ≡ t
    StandsFor (Alias a) t = (bound_var_escapes t ≡ false) × (kind_tree m (TyAlias a) ≡ t)
    StandsFor (EscapingAlias' shape all) t = (bound_var_escapes t ≡ true) ×
        EachStands all (inside_alias m.alias_variances t) ×
        EachIs (λ u. SomeStands all u) (inside_alias m.alias_variances t)

    -- Each of them stands for one of the trees.
    pub EachStands : {n : _} → Row_of-Component X D N n → List Tree → Type 0
    EachStands end_of-Component ts = Unit {0}
    EachStands (more_of-Component c rest) ts = SomeIs (λ t. StandsFor c t) ts × EachStands rest ts

    -- One of them stands for the tree.
    pub SomeStands : {n : _} → Row_of-Component X D N n → Tree → Type 0
    SomeStands end_of-Component t = ⊥
    SomeStands (more_of-Component c rest) t = StandsFor c t ⊎ SomeStands rest t

  -- Behind what was there, each component stands for one of the trees.
  abbrev pub AddsSome : List Tree → List (Component X D N) → List (Component X D N) → Type 0
  AddsSome ts old new = (added : List (Component X D N)) × (new ≡ old ++ added) ×
      EachIs (λ c. SomeIs (λ t. StandsFor c t) ts) added

  -- For each of the trees a component stands.
  abbrev pub HasAll : List Tree → List (Component X D N) → Type 0
  HasAll ts cs = EachIs (λ t. SomeIs (λ c. StandsFor c t) cs) ts
