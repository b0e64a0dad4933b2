-- What a clause implies.
use Rattle.std.specs.Prelude.{ℕ, Bool, true, false, ◌&&◌, not, cond, List, [], map, Option, Some, None}
use Rattle.term_enums.specs.declared.PredicatePolarity.TheVariants.{Positive}
use Rattle.term_enums.specs.declared.BoundConstness.{BoundConstness}
use Rattle.relation_terms.specs.Heads.{BoundKind, Head, bound, trait_ref, trait_clause, host_effect, region_outlives}
use Rattle.relation_terms.specs.Heads.{type_outlives}
use Rattle.relation_terms.specs.Trees.{Tree, leaf, node, bind, nil, cons}
use Rattle.relation_terms.specs.Parts.{tree_sort}
use Rattle.component_parts.specs.Components.{is_region_sort}
use Rattle.outlives_assumptions.specs.Assumptions.{assumed_parts}
use Rattle.relation_statements.specs.Stated.{stated_of}

-- What the items of an interner state: of the trait of a number its super-predicates, all that it implies, its const
-- bounds, and whether it is `Sized`.
pub record Statements : Type 0 where
  pub supers : ℕ → List Tree
  pub implied : ℕ → List Tree
  pub bounds : ℕ → List Tree
  pub is_sized : ℕ → Bool

-- How an elaboration goes: to super-predicates alone, and on from `Sized`.
pub record Mode : Type 0 where
  pub only_self : Bool
  pub sized : Bool

-- Whether an elaboration goes to super-predicates alone, and on from `Sized`, as a mode.
abbrev pub mode_of : Bool → Bool → Mode
mode_of only_self sized = record { only_self = only_self; sized = sized }

-- The trait and the arguments of a trait reference, and of the one that a clause has as its only part.
abbrev pub named_by : Head → Tree → Option (ℕ × Tree)
named_by (trait_ref d) args = Some (d, args)
named_by h args = None

abbrev pub trait_ref_of : Tree → Option (ℕ × Tree)
trait_ref_of (node h args) = named_by h args
trait_ref_of t = None

abbrev pub trait_of : Tree → Option (ℕ × Tree)
trait_of (cons t nil) = trait_ref_of t
trait_of ts = None

-- A bound in const contexts, as a clause.
abbrev pub effect_of : BoundConstness → Tree → Tree
effect_of c (bind cs t) = bind cs (node (host_effect c) (cons t nil))
effect_of c t = t

-- A region that a binder binds.
abbrev pub is_bound : Tree → Bool
is_bound (leaf (bound k d i)) = true
is_bound t = false

-- That a component outlives a region.
abbrev pub outlives : Tree → Tree → Tree
outlives u r = node (cond (is_region_sort (tree_sort u)) region_outlives type_outlives) (cons u (cons r nil))

module _ (s : Statements) (m : Mode) where
  -- What a trait implies of its arguments under a binder.
  abbrev pub of_trait : List BoundKind → Option (ℕ × Tree) → List Tree
  of_trait ks (Some t) = cond (s.is_sized t.0 && not m.sized) []
      (map (stated_of ks t.1) (cond m.only_self (s.supers t.0) (s.implied t.0)))
  of_trait ks None = []

  -- The same of its const bounds.
  abbrev pub of_effect : BoundConstness → List BoundKind → Option (ℕ × Tree) → List Tree
  of_effect c ks (Some t) = map (λ b. stated_of ks t.1 (effect_of c b)) (s.bounds t.0)
  of_effect c ks None = []

  -- What follows for the components of a type that outlives a region.
  abbrev pub of_outlives : List BoundKind → Tree → List Tree
  of_outlives ks (cons t (cons r nil)) = cond (is_bound r) [] (map (λ u. bind ks (outlives u r)) (assumed_parts t))
  of_outlives ks ts = []

  -- What a clause of a form over parts implies.
  abbrev pub of_form : List BoundKind → Head → Tree → List Tree
  of_form ks (trait_clause Positive) ts = of_trait ks (trait_of ts)
  of_form ks (host_effect c) ts = of_effect c ks (trait_of ts)
  of_form ks type_outlives ts = of_outlives ks ts
  of_form ks h ts = []

  -- What a predicate implies by one step.
  abbrev pub children : Tree → List Tree
  children (bind ks (node h ts)) = of_form ks h ts
  children p = []
