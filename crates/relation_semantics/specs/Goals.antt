-- Registered goals, what they ask of an assignment, and when they hold.
--
--   Goal                          a predicate in an environment; goal_of e p makes one
--   goals_of m gs                 what goals over keys mean, by m
--   KnowsGoal m g                 the interner knows both keys of a goal
--   asked p                       what a predicate asks of two terms, if anything: a Request
--   Holds c w s g                 assignment s makes goal g true under interpretation w; c declares items' variances
--   Relates c st gs e v a b       what satisfies st and makes the goals gs true relates a and b at v in e
--   MakesOneTree s g              s makes both sides of a subtype or alias goal one tree
--   IsQuiet g                     g asks nothing of two terms
--   GoalInContext st g            each variable of g's predicate is the context's
--   ByDeclared always v           items' arguments are related at the variances that items declare
--   Registered c k v e st st' g   g may be registered between two stores where terms are related at v, set up as k
use Rattle.std.specs.Prelude.{◌≡◌, ◌⊎◌, ℕ, Bool, List, [], All, IsTrue, map}
use Rattle.relation_terms.specs.Meaning.{Meaning}
use Rattle.relation_terms.specs.declared.terms.goal.Goal.{Goal as KeyedGoal}
use Rattle.relation_terms.specs.declared.terms.keys.PredicateKey.{PredicateKey}
use Rattle.term_enums.specs.declared.AliasRelationDirection.{AliasRelationDirection}
use Rattle.term_enums.specs.declared.AliasRelationDirection.TheVariants.{Equate, Subtype}
use Rattle.term_enums.specs.declared.Variance.{Variance}
use Rattle.term_enums.specs.declared.Variance.TheVariants.{Covariant, Contravariant, Bivariant}
use Rattle.relation_terms.specs.Heads.{type_var, ambiguous, subtype, well_formed, alias_relate, variable, atom}
use Rattle.relation_terms.specs.Trees.{Tree, leaf, node, bind, nil, cons, Assign, apply, known}
use Rattle.term_enums.specs.declared.StructurallyRelateAliases.TheVariants.{No}
use Rattle.relation_semantics.specs.Relation.{Items, Interpretation, IsAlias, IsEqualPair, IsOrderedPair, Rel, at, mode}
use Rattle.relation_semantics.specs.Settings.{Settings, LeavesOpaque}
use Rattle.relation_semantics.specs.Stores.{Store, unbound, entry_of, IsMade, Satisfies, InContext}

-- A registered goal: a predicate, whole, in the environment in which it is to hold.
pub record Goal : Type 0 where
  pub environment : Tree
  pub predicate : Tree

-- The goal of a predicate in an environment.
abbrev pub goal_of : Tree → Tree → Goal
goal_of e p = record { environment = e; predicate = p }

-- What goals over an interner's keys mean.
abbrev pub goals_of : {Key Id Name : Type 0} → Meaning Key Id Name → List (KeyedGoal Key (PredicateKey Key)) → List Goal
goals_of m gs = map (λ g. goal_of (m.param_env g.param_env) (m.predicate g.predicate)) gs

-- An interner knows a goal's environment and predicate.
abbrev pub KnowsGoal : {Key Id Name : Type 0} → Meaning Key Id Name → KeyedGoal Key (PredicateKey Key) → Type 0
KnowsGoal m g = IsTrue (known (m.param_env g.param_env)) × IsTrue (known (m.predicate g.predicate))

-- The predicates that relating registers. Each stands under a binder of no variables.
abbrev pub subtype_predicate : Bool → Tree → Tree → Tree
subtype_predicate a_is_expected a b = bind [] (node (subtype a_is_expected) (cons a (cons b nil)))

-- That two terms, one an alias, are one or in order.
abbrev pub alias_relate_predicate : AliasRelationDirection → Tree → Tree → Tree
alias_relate_predicate d a b = bind [] (node (alias_relate d) (cons a (cons b nil)))

-- That a type is well formed.
abbrev pub well_formed_predicate : Tree → Tree
well_formed_predicate t = bind [] (node well_formed (cons t nil))

-- That too much was met to tell.
abbrev pub ambiguous_predicate : Tree
ambiguous_predicate = bind [] (leaf (atom ambiguous))

-- What a predicate asks: that the first of two terms is a subtype of the second; that two terms, one of them an
-- alias, are one, or the first a subtype of the second; what is never so; or nothing that relating speaks of.
pub data Request : Type 0 where
  asks_subtype : Tree → Tree → Request
  asks_alias : AliasRelationDirection → Tree → Tree → Request
  asks_too_much : Request
  asks_nothing : Request

-- What a predicate asks.
abbrev pub asked : Tree → Request
asked (bind [] (node (subtype x) (cons a (cons b nil)))) = asks_subtype a b
asked (bind [] (node (alias_relate d) (cons a (cons b nil)))) = asks_alias d a b
asked (bind [] (leaf (atom ambiguous))) = asks_too_much
asked p = asks_nothing

-- When what is asked is so, in an environment. That a type is well formed is left open, and so asked of no assignment.
abbrev pub IsSo : Items → Interpretation → Assign → Tree → Request → Type 0
IsSo c w s e (asks_subtype a b) = Rel c w e (at Covariant) (apply s a) (apply s b)
IsSo c w s e (asks_alias Subtype a b) = IsOrderedPair w e (apply s a) (apply s b)
IsSo c w s e (asks_alias Equate a b) = IsEqualPair w e (apply s a) (apply s b)
IsSo c w s e asks_too_much = ⊥
IsSo c w s e asks_nothing = Unit {0}

-- A goal is so under an assignment.
abbrev pub Holds : Items → Interpretation → Assign → Goal → Type 0
Holds c w s g = IsSo c w s g.environment (asked g.predicate)

-- Each variable of a goal's predicate is the context's.
abbrev pub GoalInContext : Store → Goal → Type 0
GoalInContext st g = InContext st g.predicate

-- A type variable that was unbound before, or was made on the way.
abbrev pub IsOpen : Store → Store → ℕ → Type 0
IsOpen before after n = IsMade after type_var n × (entry_of before type_var n ≡ unbound)

-- A type of a form one of whose parts is declared bivariant.
abbrev pub HasBivariantPart : Items → Tree → Type 0
HasBivariantPart c (node h ts) = (i : ℕ) × (mode c h i ≡ Bivariant)
HasBivariantPart c t = ⊥

-- Covariance and contravariance.
abbrev pub IsDirected : Variance → Type 0
IsDirected Covariant = Unit {0}
IsDirected Contravariant = Unit {0}
IsDirected v = ⊥

-- Items' arguments are related at the variances that the items declare: at covariance and contravariance they are; else
-- where that is said.
abbrev pub ByDeclared : Bool → Variance → Type 0
ByDeclared always v = IsDirected v ⊎ IsTrue always

-- What relating at a variance registers between two stores, as a relation is set up: at covariance and contravariance,
-- that of two such variables the one is a subtype of the other; where items' arguments are related at declared variances,
-- that a type of the context with a bivariant part is well formed; where aliases aren't related by their items, that two
-- terms of the context, one an alias, are one, or at covariance and contravariance in order; and where opaque types are
-- left open, that too much was met.
pub data IsRegistered (c : Items) (k : Settings) (v : Variance) (before after : Store) (p : Tree) : Type 0 where
  of_variables : (x : Bool) (n m : ℕ) → IsDirected v →
      p ≡ subtype_predicate x (leaf (variable type_var n)) (leaf (variable type_var m)) → IsOpen before after n →
      IsOpen before after m → IsRegistered c k v before after p
  of_type : (t : Tree) → ByDeclared k.declared_at_invariance v → p ≡ well_formed_predicate t → InContext after t →
      HasBivariantPart c t → IsRegistered c k v before after p
  of_alias : (d : AliasRelationDirection) (a b : Tree) → k.structurally_relate_aliases ≡ No →
      p ≡ alias_relate_predicate d a b → IsAlias a ⊎ IsAlias b → (d ≡ Equate) ⊎ IsDirected v → InContext after a →
      InContext after b → IsRegistered c k v before after p
  of_too_much : LeavesOpaque k → p ≡ ambiguous_predicate → IsRegistered c k v before after p

-- A goal that relating at a variance registers between two stores, in an environment.
pub record Registered (c : Items) (k : Settings) (v : Variance) (e : Tree) (before after : Store) (g : Goal)
    : Type 0 where
  pub environment : g.environment ≡ e
  pub asks : IsRegistered c k v before after g.predicate

-- Both sides of a subtype or alias goal are one tree.
abbrev pub HasOneTree : Assign → Request → Type 0
HasOneTree s (asks_subtype a b) = apply s a ≡ apply s b
HasOneTree s (asks_alias d a b) = apply s a ≡ apply s b
HasOneTree s asks_too_much = Unit {0}
HasOneTree s asks_nothing = Unit {0}

-- The two sides of a goal are one tree, where it has two.
abbrev pub MakesOneTree : Assign → Goal → Type 0
MakesOneTree s g = HasOneTree s (asked g.predicate)

-- Neither a subtype nor an alias goal, nor one that is never so.
abbrev pub AsksNoPair : Request → Type 0
AsksNoPair (asks_subtype a b) = ⊥
AsksNoPair (asks_alias d a b) = ⊥
AsksNoPair asks_too_much = ⊥
AsksNoPair asks_nothing = Unit {0}

-- A goal that asks nothing of two terms.
abbrev pub IsQuiet : Goal → Type 0
IsQuiet g = AsksNoPair (asked g.predicate)

-- Each assignment that satisfies the store and makes the goals true puts the terms into the relation.
abbrev pub Relates : Items → Store → List Goal → Tree → Variance → Tree → Tree → Type 0
Relates c st goals e v a b = (w : Interpretation) (s : Assign) → Satisfies w st s → All (Holds c w s) goals →
    Rel c w e (at v) (apply s a) (apply s b)
