-- Instances of a term with values put for what a binder around it binds.
use Rattle.std.specs.Prelude.{◌≡◌, ℕ, Bool, true, List}
use Rattle.relation_terms.specs.Heads.{BoundKind, Shape, bound}
use Rattle.relation_terms.specs.Trees.{Tree, leaf, inst, Fits, Leaves}
use Rattle.fast_reject.specs.Instances.{Instance, IsNoVariable}
use Rattle.relation_semantics.specs.Relation.{FitKinds}
use Rattle.relation_semantics.specs.Bound.{AreBoundAs}

-- A term without inference variables has, as an instance, itself with values of the kinds put for what a binder around
-- it binds, where bound variables are places.
abbrev pub OpenedIsInstance : Type 0
OpenedIsInstance = (places : Tree → Bool) (ks : List BoundKind) (values : List Tree) (x : Shape) (t : Tree) →
    ((k : BoundKind) (d i : ℕ) → places (leaf (bound k d i)) ≡ true) → FitKinds ks values → AreBoundAs ks 0 t →
    Fits x t → Leaves IsNoVariable t → Instance places t (inst values 0 t)
