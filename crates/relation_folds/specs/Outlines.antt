-- What the depth test reads of two types before it goes on to their parts.
use Rattle.std.specs.Prelude.{ℕ, Bool, cond, Option, Some, None}
use Rattle.relation_terms.specs.Trees.{Tree, node}
use Rattle.relation_folds.specs.Clashes.{flexible, may_stand, plain, outline}
use Rattle.relation_folds.specs.Forms.{Outline, Leaf}
use Rattle.relation_terms.specs.declared.predicate.existential.ExistentialPredicate.{ExistentialPredicate}
use Rattle.relation_terms.specs.declared.predicate.existential.ExistentialPredicate.TheVariants.{Trait, AutoTrait}
use Rattle.relation_terms.specs.declared.predicate.existential.ExistentialPredicate.TheVariants.{Projection}
use Rattle.relation_terms.specs.declared.terms.binder.Binder.{Binder}

-- The number of an id, where there is one.
abbrev pub id_number : {D : Type 0} → (D → ℕ) → Option D → Option ℕ
id_number number None = None
id_number number (Some d) = Some (number d)

-- The outline of a type.
abbrev pub tree_outline : Tree → Outline ℕ
tree_outline (node h ts) = outline h ts
tree_outline t = plain Leaf

-- Whether the first type may stand for the second, if it may stand for others at all.
abbrev pub stands : Bool → Tree → Tree → Option Bool
stands params a b = cond (flexible params a) (Some (may_stand a b)) None

-- The trait that a predicate of a trait object says is implemented.
abbrev pub trait_in_predicate : {X D : Type 0} → ExistentialPredicate X D → Option D
trait_in_predicate (Trait t) = Some ((t.def_id).0)
trait_in_predicate (Projection p) = None
trait_in_predicate (AutoTrait d) = None

abbrev pub trait_in : {X D : Type 0} → Binder X (ExistentialPredicate X D) → Option D
trait_in b = trait_in_predicate b.value
