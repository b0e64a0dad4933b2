-- What a component gives of an assumption, and how a set of assumptions grows.
use Rattle.std.specs.Prelude.{◌≡◌, IsTrue, cond, List, ◌++◌, map, Option, Some, None}
use Rattle.std.specs.List.{All}
use Rattle.std.specs.Option.{option_map}
use Rattle.relation_terms.specs.Trees.{Tree, known}
use Rattle.relation_terms.specs.Meaning.{Meaning, arg_tree, kind_tree}
use Rattle.relation_terms.specs.declared.predicate.regions.OutlivesPredicate.{OutlivesPredicate}
use Rattle.relation_terms.specs.declared.terms.generic_arg.GenericArgKind.{GenericArgKind}
use Rattle.relation_terms.specs.declared.terms.ty_kind.TyKind.TheVariants.{Param as TyParam, Alias as TyAlias}
use Rattle.relation_terms.specs.declared.terms.ty_kind.TyKind.TheVariants.{Placeholder as TyPlaceholder}
use Rattle.outlives_assumptions.specs.Assumptions.{is_assumed, IsKnown, assumed, elaborated, HaveSame}
use Rattle.outlives.specs.declared.Component.{Component, Region, Param, Placeholder, Alias}

module _ {X D N : Type 0} (m : Meaning X D N) where
  -- The tree of the argument that a component is, if it is an assumption of its own.
  abbrev pub argument_of : Component X D N → Option Tree
  argument_of (Region r) = cond (is_assumed (m.region r)) (Some (m.region r)) None
  argument_of (Param p) = Some (kind_tree m (TyParam p))
  argument_of (Placeholder p) = Some (kind_tree m (TyPlaceholder p))
  argument_of (Alias a) = Some (kind_tree m (TyAlias a))
  argument_of c = None

  -- This is that argument, if there is one, in an interner that may have grown.
  abbrev pub IsArgumentOf : Meaning X D N → Component X D N → Option (GenericArgKind X) → Type 0
  IsArgumentOf n c arg = option_map (arg_tree n) arg ≡ argument_of c

  -- The tree of that argument, with that of the region that it outlives.
  abbrev pub pair_of : Tree → Component X D N → Option (Tree × Tree)
  pair_of r c = option_map (λ t. (t, r)) (argument_of c)

  -- The key of such a component is known.
  abbrev pub IsKnownComponent : Component X D N → Type 0
  IsKnownComponent (Region r) = IsTrue (known (m.region r))
  IsKnownComponent (Alias a) = IsTrue (known (kind_tree m (TyAlias a)))
  IsKnownComponent c = Unit {0}

-- From one set of assumptions to another that has these besides, and all known; the interner may have grown.
abbrev pub Gains : {X D N : Type 0} → Meaning X D N → Meaning X D N → List (OutlivesPredicate X (GenericArgKind X)) →
    List (OutlivesPredicate X (GenericArgKind X)) → List (Tree × Tree) → Type 0
Gains m n xs ys ps = All (IsKnown n) ys × HaveSame (map (assumed n) ys) (map (assumed m) xs ++ ps)

-- The same where these are what one assumption gives.
abbrev pub Assumes : {C X D N : Type 0} → (C → Meaning X D N) → C → C → List (OutlivesPredicate X (GenericArgKind X)) →
    List (OutlivesPredicate X (GenericArgKind X)) → OutlivesPredicate X (GenericArgKind X) → Type 0
Assumes meaning old new xs ys a =
    Gains (meaning old) (meaning new) xs ys (elaborated (arg_tree (meaning old) a.0) ((meaning old).region a.1))
