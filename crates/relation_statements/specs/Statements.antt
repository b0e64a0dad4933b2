-- What the items of an interner state, as trees.
use Rattle.std.specs.Prelude.{◌≡◌, ◌&&◌, ℕ, Bool, true, not, cond, List, map, Option, Some, None, option_map}
use Rattle.relation_terms.specs.Trees.{Tree}
use Rattle.relation_terms.specs.Meaning.{Meaning, Extends, under}
use Rattle.relation_terms.specs.Predicates.{clause_kind_tree}
use Rattle.relation_terms.specs.declared.predicate.kinds.ClauseKind.TheVariants.{TypeOutlives}
use Rattle.relation_terms.specs.declared.predicate.OutlivesPredicate.{OutlivesPredicate}
use Rattle.relation_terms.specs.declared.terms.generic_arg.GenericArgKind.{GenericArgKind}
use Rattle.relation_terms.specs.declared.terms.generic_arg.GenericArgKind.TheVariants.{Lifetime, Ty, Const}
use Rattle.relation_terms.specs.declared.terms.keys.BoundVarsKey.{BoundVarsKey}
use Rattle.relation_terms.specs.declared.terms.keys.RegionKey.{RegionKey}
use Rattle.relation_terms.specs.declared.terms.keys.TyKey.{TyKey}
use Rattle.outlives_assumptions.specs.Assuming.{argument_of}
use Rattle.outlives.specs.declared.Component.{Component}
use Rattle.term_enums.specs.declared.PredicatePolarity.{PredicatePolarity}
use Rattle.term_enums.specs.declared.PredicatePolarity.TheVariants.{Positive, Negative}
use Rattle.relation_terms.specs.Owned.{bound_tree, StatesItsOwn}
use Rattle.term_enums.specs.declared.SolverTraitLangItem.TheVariants.{Sized}
use Rattle.relation_statements.specs.Children.{Statements, Mode, children, outlives}

-- What the tables of a meaning say.
abbrev pub statements : {Key Id Name : Type 0} → Meaning Key Id Name → Statements
statements m = record {
  supers = λ d. map m.clause ((m.tables).super_predicates d);
  implied = λ d. map m.clause ((m.tables).implied_predicates d);
  bounds = λ d. map (bound_tree m) ((m.tables).const_bounds d);
  is_sized = λ d. (m.tables).is_lang_item d Sized;
}

-- What a trait states: its super-predicates alone, or all that it implies.
abbrev pub listed : Bool → Statements → ℕ → List Tree
listed only_self s d = cond only_self (s.supers d) (s.implied d)

-- Nothing is gone on from: a negative trait clause, or one of `Sized` where the mode does not say so.
abbrev pub is_left : Statements → Bool → PredicatePolarity → ℕ → Bool
is_left s sized Negative d = true
is_left s sized Positive d = s.is_sized d && not sized

module _ {Key Id Name : Type 0} (m : Meaning Key Id Name) where
  -- That a type outlives a region, under a binder; the same of an argument; and of a component, if it is a predicate of
  -- its own.
  abbrev pub type_outlives_tree : BoundVarsKey Key → OutlivesPredicate Key (TyKey Key) → Tree
  type_outlives_tree b p = under (m.bound_vars b) (clause_kind_tree m (TypeOutlives p))

  abbrev pub outlives_tree : BoundVarsKey Key → RegionKey Key → GenericArgKind Key → Option Tree
  outlives_tree b r (Lifetime x) = Some (under (m.bound_vars b) (outlives (m.region x) (m.region r)))
  outlives_tree b r (Ty x) = Some (under (m.bound_vars b) (outlives (m.ty x) (m.region r)))
  outlives_tree b r (Const x) = None

  abbrev pub component_implied : BoundVarsKey Key → RegionKey Key → Component Key Id Name → Option Tree
  component_implied b r c = option_map (λ u. under (m.bound_vars b) (outlives u (m.region r))) (argument_of m c)

-- While an interner grows each predicate implies what it did.
abbrev pub ImpliedStays : {Key Id Name : Type 0} → Meaning Key Id Name → Meaning Key Id Name → Type 0
ImpliedStays m n = Extends m n → StatesItsOwn m → (mode : Mode) (t : Tree) →
    children (statements n) mode t ≡ children (statements m) mode t
