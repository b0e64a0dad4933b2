-- The trees of goals, and of what is recorded of regions.
use Rattle.std.specs.Prelude.{◌≡◌, IsTrue}
use Rattle.std.proofs.Common.{ap₂, true}
use Rattle.std.proofs.lemmas.Bool.{and_parts}
use Rattle.relation_terms.specs.Trees.{Tree, nil, cons, known}
use Rattle.relation_terms.specs.Meaning.{Meaning, Extends, arg_tree}
use Rattle.relation_terms.specs.declared.predicate.regions.OutlivesPredicate.{OutlivesPredicate}
use Rattle.relation_terms.specs.declared.predicate.regions.RegionEqPredicate.{RegionEqPredicate}
use Rattle.relation_terms.specs.declared.predicate.regions.RegionConstraint.{RegionConstraint}
use Rattle.relation_terms.specs.declared.predicate.regions.RegionConstraint.TheVariants.{Outlives, Eq}
use Rattle.relation_terms.specs.declared.terms.generic_arg.GenericArgKind.{GenericArgKind}
use Rattle.relation_terms.specs.declared.terms.goal.Goal.{Goal}
use Rattle.relation_terms.proofs.Stays.{stays_arg}

-- Two trees, one after the other.
abbrev pub two_trees : Tree → Tree → Tree
two_trees t u = cons t (cons u nil)

-- What outlives which: an argument, then a region.
abbrev pub outlives_tree : {Key Id Name : Type 0} → Meaning Key Id Name → OutlivesPredicate Key (GenericArgKind Key) →
    Tree
outlives_tree m p = two_trees (arg_tree m p.0) (m.region p.1)

-- The two regions, one after the other.
abbrev pub region_eq_tree : {Key Id Name : Type 0} → Meaning Key Id Name → RegionEqPredicate Key → Tree
region_eq_tree m p = two_trees (m.region p.0) (m.region p.1)

-- What a constraint is about.
abbrev pub constraint_tree : {Key Id Name : Type 0} → Meaning Key Id Name → RegionConstraint Key → Tree
constraint_tree m (Outlives p) = outlives_tree m p
constraint_tree m (Eq p) = region_eq_tree m p

-- The environment, then the predicate.
abbrev pub goal_tree : {Key Id Name P : Type 0} → Meaning Key Id Name → (P → Tree) → Goal Key P → Tree
goal_tree m tree goal = two_trees (m.param_env goal.param_env) (tree goal.predicate)

-- What is known stays while an interner grows.
pub stays_two : (t u t' u' : Tree) → (IsTrue (known t) → t' ≡ t) → (IsTrue (known u) → u' ≡ u) →
    IsTrue (known (two_trees t u)) → two_trees t' u' ≡ two_trees t u
stays_two t u t' u' a b k =
    let p = and_parts (known t) _ k in
    ap₂ two_trees (a p.0) (b (and_parts (known u) true p.1).0)

pub stays_outlives : {Key Id Name : Type 0} {m n : Meaning Key Id Name} → Extends m n →
    (p : OutlivesPredicate Key (GenericArgKind Key)) → IsTrue (known (outlives_tree m p)) →
    outlives_tree n p ≡ outlives_tree m p
stays_outlives e p k = stays_two _ _ _ _ (stays_arg e p.0) (e.region p.1) k

pub stays_region_eq : {Key Id Name : Type 0} {m n : Meaning Key Id Name} → Extends m n →
    (p : RegionEqPredicate Key) → IsTrue (known (region_eq_tree m p)) → region_eq_tree n p ≡ region_eq_tree m p
stays_region_eq e p k = stays_two _ _ _ _ (e.region p.0) (e.region p.1) k

pub stays_constraint : {Key Id Name : Type 0} {m n : Meaning Key Id Name} → Extends m n →
    (p : RegionConstraint Key) → IsTrue (known (constraint_tree m p)) → constraint_tree n p ≡ constraint_tree m p
stays_constraint e (Outlives p) k = stays_outlives e p k
stays_constraint e (Eq p) k = stays_region_eq e p k

pub stays_goal : {Key Id Name P : Type 0} {m n : Meaning Key Id Name} → Extends m n → (f g : P → Tree) →
    (goal : Goal Key P) → ((x : P) → IsTrue (known (f x)) → g x ≡ f x) → IsTrue (known (goal_tree m f goal)) →
    goal_tree n g goal ≡ goal_tree m f goal
stays_goal e f g goal s k = stays_two _ _ _ _ (e.param_env goal.param_env) (s goal.predicate) k
