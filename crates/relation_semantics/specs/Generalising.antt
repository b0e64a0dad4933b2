-- What a variable is bound to when it is instantiated with a term: what the term comes to, generalised for what the
-- variable can name.
use Rattle.std.specs.Prelude.{◌≡◌, ◌≢◌, ℕ, suc, ◌<◌, ◌≤◌, List, [], ◌∷◌, Option, Some, None, Contains}
use Rattle.term_enums.specs.declared.Variance.{Variance}
use Rattle.term_enums.specs.declared.Variance.TheVariants.{Invariant}
use Rattle.relation_terms.specs.Heads.{region_sort, type_sort, region_kind, BoundKind, bound_kind, bound_sort}
use Rattle.relation_terms.specs.Heads.{VarKind, type_var, int_var, float_var, const_var, region_var}
use Rattle.relation_terms.specs.Heads.{static_region, early_region, AliasKind, Head, alias, Leaf, variable, bound}
use Rattle.relation_terms.specs.Heads.{placeholder, atom, unknown}
use Rattle.relation_terms.specs.Trees.{Tree, leaf, node, bind, nil, cons, apply, Leaves}
use Rattle.term_enums.specs.declared.StructurallyRelateAliases.{StructurallyRelateAliases}
use Rattle.term_enums.specs.declared.StructurallyRelateAliases.TheVariants.{Yes, No}
use Rattle.relation_semantics.specs.Relation.{Items, part_at, sort_of}
use Rattle.relation_semantics.specs.Stores.{Store, unbound, entry_of, universe_of, IsMade, resolved}
use Rattle.relation_semantics.specs.Steps.{MakesVariable, BindsTo, IsNumberKind}

-- A leaf of a term, seen at a variance, stands in the bound term too where the variable can name universes up to `u`.
-- Variables of types, and regions that no binder binds, do only at invariance; variables of numbers name nothing.
abbrev pub Stays : Store → ℕ → Variance → Leaf → Type 0
Stays st u v (variable type_var m) = (v ≡ Invariant) × (universe_of st type_var m ≤ u)
Stays st u v (variable int_var m) = Unit {0}
Stays st u v (variable float_var m) = Unit {0}
Stays st u v (variable const_var m) = universe_of st const_var m ≤ u
Stays st u v (variable region_var m) = (v ≡ Invariant) × (universe_of st region_var m ≤ u)
Stays st u v (bound q d i) = Unit {0}
Stays st u v (placeholder (bound_kind region_kind x) w i) = (v ≡ Invariant) × (w ≤ u)
Stays st u v (placeholder q w i) = w ≤ u
Stays st u v (atom static_region) = v ≡ Invariant
Stays st u v (atom (early_region i x)) = v ≡ Invariant
Stays st u v (atom x) = Unit {0}
Stays st u v unknown = Unit {0}

-- Of which kind the new variable is that takes the place of a leaf that does not stay; for a placeholder of a type or a
-- constant there is none.
abbrev pub gives_way_to : Leaf → Option VarKind
gives_way_to (variable type_var m) = Some type_var
gives_way_to (variable const_var m) = Some const_var
gives_way_to (variable region_var m) = Some region_var
gives_way_to (variable k m) = None
gives_way_to (bound q d i) = None
gives_way_to (placeholder (bound_kind region_kind x) w i) = Some region_var
gives_way_to (placeholder q w i) = None
gives_way_to (atom static_region) = Some region_var
gives_way_to (atom (early_region i x)) = Some region_var
gives_way_to (atom x) = None
gives_way_to unknown = None

-- On which side of an alias a term stands: outside of all that are left to goals, or inside one.
pub data Side : Type 0 where
  outside inside : Side

-- A type that was met: on which side, at which variance, and the term that it became.
pub record Met : Type 0 where
  pub side : Side
  pub variance : Variance
  pub type : Tree
  pub term : Tree

-- How far generalising has come: what is recorded, with the variables made so far, and the types met so far.
pub record Stage : Type 0 where
  pub store : Store
  pub met : List Met

-- A type was not met on a side at a variance.
abbrev pub IsNew : Stage → Side → Variance → Tree → Type 0
IsNew r e v t = (x : Tree) → Contains r.met (record { side = e; variance = v; type = t; term = x }) → ⊥

-- What is generalised, on a side: a part at a variance; one that is gone through, since it was not met; the parts of a
-- form at a variance, from a place on.
pub data Turn : Type 0 where
  any_part new_part : Side → Variance → Turn
  parts_from : Side → Head → ℕ → Variance → Turn

-- The variance of the part at a place of a form or a binder; a binder's body stands at its own.
abbrev pub variance_of_part : Items → Tree → ℕ → Variance → Variance
variance_of_part c (node h ts) i v = part_at c h i v
variance_of_part c t i v = v

-- Why a variable can't be bound to a term: the variable stands in it, or a placeholder of a type or a constant that it
-- can't name.
pub data Obstacle : Type 0 where
  cycle beyond : Obstacle

-- Neither of both.
abbrev pub IsNoObstacle : Store → VarKind → ℕ → Leaf → Type 0
IsNoObstacle st k n (variable j m) = variable j m ≢ variable k n
IsNoObstacle st k n (bound q d i) = Unit {0}
IsNoObstacle st k n (placeholder (bound_kind region_kind x) w i) = Unit {0}
IsNoObstacle st k n (placeholder q w i) = w ≤ universe_of st k n
IsNoObstacle st k n (atom x) = Unit {0}
IsNoObstacle st k n unknown = Unit {0}

-- A form that is gone into for obstacles: any but an alias type's where aliases are left to goals.
abbrev pub IsSeen : StructurallyRelateAliases → Head → Type 0
IsSeen No (alias k d) = ⊥
IsSeen g h = Unit {0}

-- No obstacle stands in a term, outside of the aliases that are not gone into.
abbrev pub IsClear : StructurallyRelateAliases → Store → VarKind → ℕ → Tree → Type 0
IsClear g st k n (leaf l) = IsNoObstacle st k n l
IsClear g st k n (node h ts) = IsSeen g h → IsClear g st k n ts
IsClear g st k n (bind ks t) = IsClear g st k n t
IsClear g st k n nil = Unit {0}
IsClear g st k n (cons t ts) = IsClear g st k n t × IsClear g st k n ts

-- The first obstacle in a term, in the order of its parts.
pub data StopsAt (g : StructurallyRelateAliases) (st : Store) (k : VarKind) (n : ℕ) (o : Obstacle) : Tree → Type 0 where
  at_itself : {l : Leaf} → o ≡ cycle → l ≡ variable k n → StopsAt g st k n o (leaf l)
  at_placeholder : {q : BoundKind} {w i : ℕ} → o ≡ beyond → bound_sort q ≢ region_sort → universe_of st k n < w →
      StopsAt g st k n o (leaf (placeholder q w i))
  in_parts : {h : Head} {ts : Tree} → IsSeen g h → StopsAt g st k n o ts → StopsAt g st k n o (node h ts)
  in_body : {ks : List BoundKind} {t : Tree} → StopsAt g st k n o t → StopsAt g st k n o (bind ks t)
  in_first : {t ts : Tree} → StopsAt g st k n o t → StopsAt g st k n o (cons t ts)
  in_others : {t ts : Tree} → IsClear g st k n t → StopsAt g st k n o ts → StopsAt g st k n o (cons t ts)

-- The side on which the parts of a form stand.
abbrev pub side_in : StructurallyRelateAliases → Side → Head → Side
side_in No e (alias k d) = inside
side_in g e h = e

-- Into an alias that is left to a goal, and stands in no other, generalising goes where no obstacle stands in it.
abbrev pub GoesInto : StructurallyRelateAliases → Store → VarKind → ℕ → Side → Head → Tree → Type 0
GoesInto g st k n e h ts = e ≡ outside → (IsSeen g h → ⊥) → Leaves (IsNoObstacle st k n) ts

-- From one stage to another a term was generalised for a variable, which stands for itself nowhere in it: the places of
-- its leaves that do not stay are taken by new variables, of the universe of the variable, and so is that of the
-- outermost alias in which an obstacle stands, where aliases are left to goals.
pub data Generalised (g : StructurallyRelateAliases) (c : Items) (start : Store) (k : VarKind) (n : ℕ) :
    Turn → Stage → Tree → Stage → Tree → Type 0 where
  -- equal types become one term on one side at one variance, with all that stands in it
  met_before : {e : Side} {v : Variance} {r : Stage} {t x : Tree} → sort_of t ≡ type_sort →
      Contains r.met (record { side = e; variance = v; type = t; term = x }) →
      Generalised g c start k n (any_part e v) r t r x
  met_first : {e : Side} {v : Variance} {r q p : Stage} {t x : Tree} → sort_of t ≡ type_sort → IsNew r e v t →
      Generalised g c start k n (new_part e v) r t q x → p.store ≡ q.store →
      p.met ≡ record { side = e; variance = v; type = t; term = x } ∷ q.met →
      Generalised g c start k n (any_part e v) r t p x
  -- regions and constants become one at each place
  no_type : {e : Side} {v : Variance} {r q : Stage} {t x : Tree} → sort_of t ≢ type_sort →
      Generalised g c start k n (new_part e v) r t q x → Generalised g c start k n (any_part e v) r t q x
  stays : {e : Side} {v : Variance} {r : Stage} {l : Leaf} → l ≢ variable k n →
      Stays start (universe_of start k n) v l → Generalised g c start k n (new_part e v) r (leaf l) r (leaf l)
  gives_way : {e : Side} {v : Variance} {r q : Stage} {l : Leaf} {j : VarKind} {m : ℕ} → l ≢ variable k n →
      (Stays start (universe_of start k n) v l → ⊥) → gives_way_to l ≡ Some j →
      MakesVariable r.store q.store j m (universe_of start k n) → q.met ≡ r.met →
      Generalised g c start k n (new_part e v) r (leaf l) q (leaf (variable j m))
  alias_gives_way : {v : Variance} {r q : Stage} {a : AliasKind} {d m : ℕ} {ts : Tree} {o : Obstacle} → g ≡ No →
      StopsAt Yes start k n o ts → MakesVariable r.store q.store type_var m (universe_of start k n) →
      q.met ≡ r.met →
      Generalised g c start k n (new_part outside v) r (node (alias a d) ts) q (leaf (variable type_var m))
  -- all else by its parts, each at its own variance
  by_parts : {e : Side} {v : Variance} {r q : Stage} {h : Head} {ts xs : Tree} → GoesInto g start k n e h ts →
      Generalised g c start k n (parts_from (side_in g e h) h 0 v) r ts q xs →
      Generalised g c start k n (new_part e v) r (node h ts) q (node h xs)
  in_binder : {e : Side} {v : Variance} {r q : Stage} {ks : List BoundKind} {t x : Tree} →
      Generalised g c start k n (any_part e v) r t q x →
      Generalised g c start k n (new_part e v) r (bind ks t) q (bind ks x)
  no_parts : {e : Side} {h : Head} {i : ℕ} {v : Variance} {r : Stage} →
      Generalised g c start k n (parts_from e h i v) r nil r nil
  next_part : {e : Side} {h : Head} {i : ℕ} {v : Variance} {r q p : Stage} {t x ts xs : Tree} →
      Generalised g c start k n (any_part e (part_at c h i v)) r t q x →
      Generalised g c start k n (parts_from e h (suc i) v) q ts p xs →
      Generalised g c start k n (parts_from e h i v) r (cons t ts) p (cons x xs)

-- The variance at which what a variable is instantiated with is generalised: for a constant always invariance.
abbrev pub variance_for : VarKind → Variance → Variance
variance_for const_var v = Invariant
variance_for k v = v

-- A variable of the context was bound, at a variance, to what a term comes to, generalised for it.
pub record InstantiatesBy (g : StructurallyRelateAliases) (c : Items) (before after : Store) (v : Variance)
    (k : VarKind) (n : ℕ) (source term : Tree) : Type 0 where
  pub made : IsMade before k n
  pub last : Stage
  pub generalised : Generalised g c before k n (any_part outside (variance_for k v))
      (record { store = before; met = [] }) (apply (resolved before) source) last term
  pub binds : BindsTo last.store after k n term

-- Variables of types, constants and regions, of a universe, were made one after another, or none.
pub data MakesUnbound (u : ℕ) (before : Store) : Store → Type 0 where
  makes_none : MakesUnbound u before before
  makes_one : {middle after : Store} {k : VarKind} {n : ℕ} → MakesUnbound u before middle →
      (IsNumberKind k → ⊥) → MakesVariable middle after k n u → MakesUnbound u before after

-- An unbound variable of the context was not bound to what a term comes to, since an obstacle stands in that, and not
-- for want of budget. Variables that were made on the way stay unbound.
pub record RefusesByObstacle (g : StructurallyRelateAliases) (before after : Store) (k : VarKind) (n : ℕ)
    (source : Tree) (o : Obstacle) : Type 0 where
  pub made : IsMade before k n
  pub was_unbound : entry_of before k n ≡ unbound
  pub may_spend : before.budget ≢ 0
  pub makes : MakesUnbound (universe_of before k n) before after
  pub stops : StopsAt g before k n o (apply (resolved before) source)

-- Variables of numbers name nothing: their universe is the first.
abbrev pub NumbersNameNothing : Store → Type 0
NumbersNameNothing st = (k : VarKind) (m : ℕ) → IsNumberKind k → universe_of st k m ≡ 0
