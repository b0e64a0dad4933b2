-- How a collection of components goes on, and what it has met.
use Rattle.std.specs.Prelude.{◌≡◌, ◌⊎◌, ◌<◌, ℕ, zero, suc, Bool, true, cond, List, [], ◌∷◌, ◌++◌, IsTrue}
use Rattle.std.specs.Prelude.{Option, Some, None}
use Rattle.std.specs.List.{list_any}
use Rattle.std.specs.Global.{Vec}
use Rattle.std.specs.Map.{keys_of}
use Rattle.relation_terms.specs.Trees.{Tree, cons, known, size}
use Rattle.relation_terms.specs.Meaning.{Meaning, arg_tree, kind_tree}
use Rattle.relation_terms.specs.Parts.{part_tree}
use Rattle.relation_terms.specs.declared.terms.alias.AliasTy.{AliasTy}
use Rattle.relation_terms.specs.declared.terms.generic_arg.GenericArgKind.{GenericArgKind}
use Rattle.relation_terms.specs.declared.terms.generic_arg.GenericArgKind.TheVariants.{Ty as TyArg, Const as ConstArg}
use Rattle.relation_terms.specs.declared.terms.part_kind.Part.{Part}
use Rattle.relation_terms.specs.declared.terms.part_kind.Part.TheVariants.{Ty as TyPart, Const as ConstPart}
use Rattle.relation_terms.specs.declared.terms.ty_kind.TyKind.TheVariants.{Alias as AliasForm}
use Rattle.component_parts.specs.Components.{Choice, every, takes, choice_behind, components}
use Rattle.component_parts.specs.Components.{inside_alias}
use Rattle.outlives.specs.Outliving.{AddsSome, HasAll}
use Rattle.outlives.specs.declared.Component.{Component}

-- The components of the member at a place, if it is chosen.
abbrev pub of_member : Choice → ℕ → Tree → List Tree
of_member c zero (cons t ts) = cond (takes c t ts) (components every t) []
of_member c (suc i) (cons t ts) = of_member (choice_behind c) i ts
of_member c i ts = []

-- What is kept of a part: a type or a constant.
abbrev pub kept_of : {Key Id : Type 0} → Part Key Id → Option (GenericArgKind Key)
kept_of (TyPart t) = Some (TyArg t)
kept_of (ConstPart c) = Some (ConstArg c)
kept_of p = None

module _ {Key Id Name : Type 0} (m : Meaning Key Id Name) where
  -- Behind what was there, each component stands for one of the components of the tree.
  abbrev pub AddsFrom : Tree → List (Component Key Id Name) → List (Component Key Id Name) → Type 0
  AddsFrom t old new = AddsSome m (components every t) old new

  -- For each of the components of the tree a component stands.
  abbrev pub HasAllOf : Tree → List (Component Key Id Name) → Type 0
  HasAllOf t cs = HasAll m (components every t) cs

  -- The components of the arguments of an alias.
  abbrev pub arg_components : AliasTy Key Id → List Tree
  arg_components a = inside_alias m.alias_variances (kind_tree m (AliasForm a))

  module _ (eq : GenericArgKind Key → GenericArgKind Key → Bool) where
    -- For whatever was met and is smaller than `n`, the list has all components.
    abbrev pub Settled : ℕ → List (GenericArgKind Key) → List (Component Key Id Name) → Type 0
    Settled n seen cs = (q : GenericArgKind Key) → IsTrue (known (arg_tree m q)) → list_any (eq q) seen ≡ true →
        size (arg_tree m q) < n → HasAll m (components every (arg_tree m q)) cs

    -- For whatever was met that was not met before, the list has all components.
    abbrev pub Meets : List (GenericArgKind Key) → List (GenericArgKind Key) → List (Component Key Id Name) → Type 0
    Meets old new cs = (q : GenericArgKind Key) → IsTrue (known (arg_tree m q)) → list_any (eq q) new ≡ true →
        (list_any (eq q) old ≡ true) ⊎ HasAll m (components every (arg_tree m q)) cs

-- For whatever was met and is no larger than the part, the list has all components.
abbrev pub Ready : {C Key Id Name V : Type 0} → (C → Meaning Key Id Name) → C →
    (GenericArgKind Key → GenericArgKind Key → Bool) → Part Key Id → List (GenericArgKind Key × V) →
    Vec (Component Key Id Name) → Type 0
Ready meaning cx eq p seen cs = Settled (meaning cx) eq (suc (size (part_tree (meaning cx) p))) (keys_of seen) cs.items

-- What is kept now stands behind what was met; or it was met, and nothing more is; or it is not kept at all.
abbrev pub Keeps : {T : Type 0} → (T → T → Bool) → Option T → Bool → List T → List T → Type 0
Keeps eq None new xs ys = (new ≡ true) × (ys ≡ xs)
Keeps eq (Some x) new xs ys = cond new (ys ≡ xs ++ x ∷ []) ((list_any (eq x) xs ≡ true) × (ys ≡ xs))
