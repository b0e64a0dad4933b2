-- What each call of a lawful context does to what is recorded.
--
--   IsLater st st'                        st' comes of st: what was recorded stands, and only satisfying assignments
--                                         were lost
--   HasExtension st s P                   some assignment that agrees with s on the variables of st has the property P
--   HasErasedExtension st s P             the same up to erasure
--   AddsConstraint st st' q               one constraint was recorded
--   Equates st st' k child root           two unbound variables were made one
--   BindsTo st st' k n t                  an unbound variable was bound to t
--   InstantiatesNumber st st' k n t       a number variable was bound to a type of its kind
--   Instantiates st st' v k n a t         an unbound variable was bound, at v, to t: what a comes to, with new
--                                         variables at some places
--   RefusesToInstantiate st st' v k n a   or it was not, and no assignment gave it the value of a
--   MakesVariable st st' k n u            a variable of universe u was made
--   MakesVariables st st' u ks ts         one was for each variable of a binder
--   InstantiatesBinder st st' ks a b      a binder was opened with such
--   EntersForall st st' ks a b            or with placeholders; or it was left as it is, where its body uses none of
--                                         its variables
--   ChangesNothing st st'                 nothing changed that an assignment sees
--   Taints st st'                         it was recorded that an error was met
--   Resolves st t u                       u was answered for t, and comes to the same
--   StaysFullFor st st' a b               where no variable could be made for terms without binders, and a and b are
--                                         such, none was
--   MakesToInstantiate st st' a b         which variables and universes may have been made to relate a and b
use Rattle.std.specs.Prelude.{◌≡◌, ◌⊎◌, ℕ, suc, ◌<◌, ◌≤◌, min, List, [], ◌∷◌, ◌++◌, map, length, IsTrue}
use Rattle.term_enums.specs.declared.Variance.{Variance}
use Rattle.term_enums.specs.declared.Variance.TheVariants.{Invariant}
use Rattle.relation_terms.specs.Heads.{BoundKind, bound_sort, VarKind, int_var, float_var, var_sort, Head, Leaf, alias}
use Rattle.relation_terms.specs.Heads.{variable, placeholder, atom}
use Rattle.relation_terms.specs.Trees.{Tree, leaf, node, bind, nil, cons, Assign, apply, inst, Leaves}
use Rattle.relation_terms.specs.Erasure.{erase}
use Rattle.relation_semantics.specs.Relation.{Interpretation, sort_of, StaysWithin, FitKinds, AvoidsAll}
use Rattle.relation_semantics.specs.Stores.{Store, Entry, unbound, same_as, bound_to, entry_of, universe_of, IsMade}
use Rattle.relation_semantics.specs.Stores.{IsNamable, IsSound, IsIntegerAtom, IsFloatAtom, IsTermIn, Satisfies}
use Rattle.relation_semantics.specs.Stores.{OnlyShrinks, Constraint, resolved}
use Rattle.relation_semantics.specs.FirstOrder.{IsFirstOrder, IsFirstOrderStore, IsRegionLeaf, Unifies, IsErasedSolution}
use Rattle.relation_semantics.specs.ErasureLaws.{IsTypeOrConst}

-- The entries lead from a variable to another of its kind, or to itself.
pub data LeadsTo (st : Store) (k : VarKind) : ℕ → ℕ → Type 0 where
  here : {n m : ℕ} → n ≡ m → LeadsTo st k n m
  next : {n p m : ℕ} → entry_of st k n ≡ same_as p → LeadsTo st k p m → LeadsTo st k n m

-- Two variables are of one class: the entries lead from both to a common one.
abbrev pub AreEquated : Store → VarKind → ℕ → ℕ → Type 0
AreEquated st k n m = (r : ℕ) × LeadsTo st k n r × LeadsTo st k m r

-- What a later state has of an entry: of a term the same; of another variable one of that one's class.
abbrev pub EntryStands : Store → VarKind → Entry → Entry → Type 0
EntryStands after k unbound y = Unit {0}
EntryStands after k (same_as m) y = (n : ℕ) × (y ≡ same_as n) × AreEquated after k m n
EntryStands after k (bound_to t) y = y ≡ bound_to t

-- A later state: entries stand, but that an unbound variable may have got one, and that one variable of a class may
-- stand for another; constraints stand, and others may stand behind them; no variable's universe rises, and the current
-- one does not fall; a taint stays; and only satisfying assignments were lost.
pub record IsLater (before after : Store) : Type 0 where
  pub grows : (k : VarKind) (n : ℕ) → IsMade before k n → IsMade after k n
  pub entries_stand : (k : VarKind) (n : ℕ) → EntryStands after k (entry_of before k n) (entry_of after k n)
  pub constraints_stand : (more : List Constraint) × (after.constraints ≡ before.constraints ++ more)
  pub universes_fall : (k : VarKind) (n : ℕ) → IsMade before k n → universe_of after k n ≤ universe_of before k n
  pub universe_stands : before.universe ≤ after.universe
  pub taint_stands : IsTrue before.tainted → IsTrue after.tainted
  pub shrinks : OnlyShrinks before after

-- A kind of number variables.
abbrev pub IsNumberKind : VarKind → Type 0
IsNumberKind int_var = Unit {0}
IsNumberKind float_var = Unit {0}
IsNumberKind k = ⊥

-- No variable was made: there are as many of each kind.
abbrev pub MakesNone : Store → Store → Type 0
MakesNone before after = (k : VarKind) → length (after.entries k) ≡ length (before.entries k)

-- No variable of a number was made.
abbrev pub MakesNoNumber : Store → Store → Type 0
MakesNoNumber before after = (k : VarKind) → IsNumberKind k → length (after.entries k) ≡ length (before.entries k)

-- Nothing can be instantiated: nothing is left of the budget, or no variable of a type or a constant is unbound.
abbrev pub InstantiatesNone : Store → Type 0
InstantiatesNone st = (st.budget ≡ 0) ⊎
    ((k : VarKind) (n : ℕ) → IsTypeOrConst k → IsMade st k n → entry_of st k n ≡ unbound → ⊥)

-- No binder stands in a tree.
abbrev pub HasNoBinder : Tree → Type 0
HasNoBinder (leaf l) = Unit {0}
HasNoBinder (node h ts) = HasNoBinder ts
HasNoBinder (bind ks t) = ⊥
HasNoBinder nil = Unit {0}
HasNoBinder (cons t ts) = HasNoBinder t × HasNoBinder ts

-- No variable is bound to a term with a binder.
abbrev pub BindsNoBinder : Store → Type 0
BindsNoBinder st = (k : VarKind) (n : ℕ) (t : Tree) → entry_of st k n ≡ bound_to t → HasNoBinder t

-- No variable is made where terms without binders are related: nothing can be instantiated, and no variable is bound to
-- a term with a binder.
pub record IsFull (st : Store) : Type 0 where
  pub instantiates_none : InstantiatesNone st
  pub binds_no_binder : BindsNoBinder st

-- Where no variable could be made, none was, and none can be now.
abbrev pub StaysFull : Store → Store → Type 0
StaysFull before after = IsFull before → IsFull after × MakesNone before after

-- The same where no binder stands in either of two terms.
abbrev pub StaysFullFor : Store → Store → Tree → Tree → Type 0
StaysFullFor before after a b = HasNoBinder a → HasNoBinder b → StaysFull before after

-- No variable of a number was made; and where no binder stands in either of two terms or in what a variable was bound
-- to, no universe was, nor any variable if nothing could be instantiated.
pub record MakesToInstantiate (before after : Store) (a b : Tree) : Type 0 where
  pub no_number : MakesNoNumber before after
  pub none : HasNoBinder a → HasNoBinder b → BindsNoBinder before → InstantiatesNone before → MakesNone before after
  pub no_universe : HasNoBinder a → HasNoBinder b → BindsNoBinder before → after.universe ≡ before.universe

-- What comes of another variable's entry where a variable got one: it stands; or it was the same as that variable, and
-- is now the same as what that one is the same as.
pub data StandsBeside (before after : Store) (k : VarKind) (n : ℕ) (x : Entry) (j : VarKind) (m : ℕ) : Type 0 where
  as_it_was : entry_of after j m ≡ entry_of before j m → StandsBeside before after k n x j m
  led_on : (r : ℕ) → j ≡ k → entry_of before j m ≡ same_as n → x ≡ same_as r → entry_of after j m ≡ same_as r →
      StandsBeside before after k n x j m

-- One unbound variable got an entry. The entries of all others stand, though those that led to it may lead on to what
-- it is the same as now; so do the number of variables, the current universe, the constraints and the taint.
pub record WritesEntry (before after : Store) (k : VarKind) (n : ℕ) (x : Entry) : Type 0 where
  pub made : IsMade before k n
  pub was_unbound : entry_of before k n ≡ unbound
  pub written : entry_of after k n ≡ x
  pub others_stand : (j : VarKind) (m : ℕ) → (j ≡ k → m ≡ n → ⊥) → StandsBeside before after k n x j m
  pub as_many : (j : VarKind) → length (after.entries j) ≡ length (before.entries j)
  pub as_many_universes : (j : VarKind) → length (after.universes j) ≡ length (before.universes j)
  pub same_constraints : after.constraints ≡ before.constraints
  pub same_universe : after.universe ≡ before.universe
  pub same_taint : after.tainted ≡ before.tainted

-- Two unbound variables were made one: the one of the larger number leads to the other, which has the smaller of both
-- universes from then on.
pub record Equates (before after : Store) (k : VarKind) (child root : ℕ) : Type 0 where
  pub links : WritesEntry before after k child (same_as root)
  pub smaller : root < child
  pub root_unbound : entry_of before k root ≡ unbound
  pub lowered : universe_of after k root ≡ min (universe_of before k child) (universe_of before k root)
  pub other_universes : (j : VarKind) (i : ℕ) → (j ≡ k → i ≡ root → ⊥) →
      universe_of after j i ≡ universe_of before j i
  pub same_budget : after.budget ≡ before.budget

-- An unbound variable was bound to a term as it stands, for one of the budget.
pub record BindsTo (before after : Store) (k : VarKind) (n : ℕ) (t : Tree) : Type 0 where
  pub writes : WritesEntry before after k n (bound_to t)
  pub same_universes : (j : VarKind) (i : ℕ) → universe_of after j i ≡ universe_of before j i
  pub one_spent : before.budget ≡ suc after.budget

-- A new variable in a universe: nothing is recorded of it, and all that was recorded stands.
pub record MakesVariable (before after : Store) (k : VarKind) (n u : ℕ) : Type 0 where
  pub number : n ≡ length (before.entries k)
  pub entries_grow : after.entries k ≡ before.entries k ++ unbound ∷ []
  pub universes_grow : after.universes k ≡ before.universes k ++ u ∷ []
  pub other_entries : (j : VarKind) → (j ≡ k → ⊥) → after.entries j ≡ before.entries j
  pub other_universes : (j : VarKind) → (j ≡ k → ⊥) → after.universes j ≡ before.universes j
  pub same_constraints : after.constraints ≡ before.constraints
  pub same_universe : after.universe ≡ before.universe
  pub same_taint : after.tainted ≡ before.tainted
  pub same_budget : after.budget ≡ before.budget

-- One constraint was recorded, behind those that there were.
pub record AddsConstraint (before after : Store) (q : Constraint) : Type 0 where
  pub same_entries : (k : VarKind) → after.entries k ≡ before.entries k
  pub same_universes : (k : VarKind) → after.universes k ≡ before.universes k
  pub one_more : after.constraints ≡ before.constraints ++ q ∷ []
  pub same_universe : after.universe ≡ before.universe
  pub same_taint : after.tainted ≡ before.tainted
  pub same_budget : after.budget ≡ before.budget

-- The entries, the variables' universes, the constraints and the budget stand, and a taint does: what a new universe, a
-- mark that two variables are related, a type that is to outlive a region, or a taint changes is seen by no assignment.
pub record ChangesNothing (before after : Store) : Type 0 where
  pub same_entries : (k : VarKind) → after.entries k ≡ before.entries k
  pub same_universes : (k : VarKind) → after.universes k ≡ before.universes k
  pub same_constraints : after.constraints ≡ before.constraints
  pub universe_stands : before.universe ≤ after.universe
  pub taint_stands : IsTrue before.tainted → IsTrue after.tainted
  pub same_budget : after.budget ≡ before.budget

-- That an error was met was recorded, and nothing else was.
pub record Taints (before after : Store) : Type 0 where
  pub nothing_else : ChangesNothing before after
  pub same_universe : after.universe ≡ before.universe
  pub tainted : IsTrue after.tainted

-- A type for a kind of number variables.
abbrev pub IsNumberFor : VarKind → Tree → Type 0
IsNumberFor int_var (leaf (atom x)) = IsIntegerAtom x
IsNumberFor float_var (leaf (atom x)) = IsFloatAtom x
IsNumberFor k t = ⊥

-- A number variable was bound to a type of its kind, for nothing of the budget.
pub record InstantiatesNumber (before after : Store) (k : VarKind) (n : ℕ) (t : Tree) : Type 0 where
  pub writes : WritesEntry before after k n (bound_to t)
  pub fits : IsNumberFor k t
  pub same_universes : (j : VarKind) (i : ℕ) → universe_of after j i ≡ universe_of before j i
  pub same_budget : after.budget ≡ before.budget

-- A term was resolved: what it comes to, and so its value under each assignment that meets the bindings, stands.
pub record Resolves (st : Store) (t answer : Tree) : Type 0 where
  pub is_in : IsTermIn st t → IsTermIn st answer
  pub same_resolved : apply (resolved st) answer ≡ apply (resolved st) t
  pub same_value : (w : Interpretation) (s : Assign) → Satisfies w st s → apply s answer ≡ apply s t
  pub same_erased : (s : Assign) → IsErasedSolution st s → Unifies s answer t

-- The two assignments agree on the variables of a store.
abbrev pub AgreeOn : Store → Assign → Assign → Type 0
AgreeOn st s s' = (k : VarKind) (n : ℕ) → IsMade st k n → s k n ≡ s' k n

-- They agree up to erasure.
abbrev pub AgreeErased : Store → Assign → Assign → Type 0
AgreeErased st s s' = (k : VarKind) (n : ℕ) → IsMade st k n → erase (s k n) ≡ erase (s' k n)

-- What a property of later assignments says of an earlier one: some extension to the new variables has it.
abbrev pub HasExtension : Store → Assign → (Assign → Type 0) → Type 0
HasExtension before s P = (s' : Assign) × AgreeOn before s s' × P s'

-- The same up to erasure. Where two variables of different universes are made equal, the one of the larger universe
-- may have named regions that the other can't.
abbrev pub HasErasedExtension : Store → Assign → (Assign → Type 0) → Type 0
HasErasedExtension before s P = (s' : Assign) × AgreeErased before s s' × P s'

-- A list of values all of which a universe can name.
abbrev pub AllNamable : ℕ → List Tree → Type 0
AllNamable u [] = Unit {0}
AllNamable u (t ∷ ts) = Leaves (IsNamable u) t × AllNamable u ts

-- Pairwise different variables that were not there before, of a universe, for the variables of a binder.
abbrev pub AreNewVariables : Store → Store → ℕ → List BoundKind → List Tree → Type 0
AreNewVariables before after u [] [] = Unit {0}
AreNewVariables before after u (k ∷ ks) (x ∷ xs) = ((v : VarKind) × (n : ℕ) × (x ≡ leaf (variable v n)) ×
    (var_sort v ≡ bound_sort k) × (IsMade before v n → ⊥) × IsMade after v n × (universe_of after v n ≡ u)) ×
    AvoidsAll x xs × AreNewVariables before after u ks xs
AreNewVariables before after u [] (x ∷ xs) = ⊥
AreNewVariables before after u (k ∷ ks) [] = ⊥

-- New variables were made for the variables of a binder, in a universe. Nothing is recorded of them, so they may stand
-- for whatever the universe can name.
pub record MakesVariables (before after : Store) (u : ℕ) (ks : List BoundKind) (variables : List Tree) : Type 0 where
  pub later : IsLater before after
  pub stays_sound : IsSound before → IsSound after
  pub are_new : AreNewVariables before after u ks variables
  pub same_entries : (k : VarKind) (n : ℕ) → entry_of after k n ≡ entry_of before k n
  pub same_universes : (k : VarKind) (n : ℕ) → IsMade before k n → universe_of after k n ≡ universe_of before k n
  pub same_constraints : after.constraints ≡ before.constraints
  pub same_universe : after.universe ≡ before.universe
  pub same_budget : after.budget ≡ before.budget
  pub unconstrained : (w : Interpretation) (s : Assign) (values : List Tree) → Satisfies w before s →
      FitKinds ks values → AllNamable u values → HasExtension before s (λ s'. Satisfies w after s' ×
      (map (apply s') variables ≡ values))

-- Pairwise different placeholders of a universe for the variables of a binder.
abbrev pub ArePlaceholders : ℕ → List BoundKind → List Tree → Type 0
ArePlaceholders u [] [] = Unit {0}
ArePlaceholders u (k ∷ ks) (p ∷ ps) = ((n : ℕ) × (p ≡ leaf (placeholder k u n))) × AvoidsAll p ps ×
    ArePlaceholders u ks ps
ArePlaceholders u [] (p ∷ ps) = ⊥
ArePlaceholders u (k ∷ ks) [] = ⊥

-- A binder was opened with new variables of the current universe.
pub record InstantiatesBinder (before after : Store) (ks : List BoundKind) (body opened : Tree) : Type 0 where
  pub variables : List Tree
  pub makes : MakesVariables before after before.universe ks variables
  pub body_is : opened ≡ inst variables 0 body

-- A binder was opened with placeholders of a universe above all earlier ones, which is the current one from then on.
pub record EntersUniverse (before after : Store) (ks : List BoundKind) (body opened : Tree) : Type 0 where
  pub placeholders : List Tree
  pub are_placeholders : ArePlaceholders after.universe ks placeholders
  pub above : before.universe < after.universe
  pub body_is : opened ≡ inst placeholders 0 body

-- Or its body uses none of its variables and is answered as it is; no universe is made.
pub record LeavesBody (before after : Store) (body opened : Tree) : Type 0 where
  pub unused : StaysWithin 0 body
  pub body_is : opened ≡ body
  pub same_universe : after.universe ≡ before.universe

-- A binder was opened with placeholders, or left where its body uses none.
pub record EntersForall (before after : Store) (ks : List BoundKind) (body opened : Tree) : Type 0 where
  pub changes_nothing : ChangesNothing before after
  pub same_taint : after.tainted ≡ before.tainted
  pub opens : LeavesBody before after body opened ⊎ ((StaysWithin 0 body → ⊥) ×
      EntersUniverse before after ks body opened)

-- No alias type stands in a tree.
abbrev pub IsNoAlias : Head → Type 0
IsNoAlias (alias k d) = ⊥
IsNoAlias h = Unit {0}

abbrev pub LacksAliases : Tree → Type 0
LacksAliases (leaf l) = Unit {0}
LacksAliases (node h ts) = IsNoAlias h × LacksAliases ts
LacksAliases (bind ks t) = LacksAliases t
LacksAliases nil = Unit {0}
LacksAliases (cons t ts) = LacksAliases t × LacksAliases ts

-- A tree with some places replaced by new variables of their sort.
pub data IsGeneralised (before after : Store) : Tree → Tree → Type 0 where
  kept : {t u : Tree} → t ≡ u → IsGeneralised before after t u
  replaced : {t u : Tree} (k : VarKind) (n : ℕ) → u ≡ leaf (variable k n) → (IsMade before k n → ⊥) →
      IsMade after k n → sort_of t ≡ var_sort k → IsGeneralised before after t u
  in_form : {h : Head} {ts us : Tree} → IsGeneralised before after ts us →
      IsGeneralised before after (node h ts) (node h us)
  in_binder : {ks : List BoundKind} {t u : Tree} → IsGeneralised before after t u →
      IsGeneralised before after (bind ks t) (bind ks u)
  in_list : {t u ts us : Tree} → IsGeneralised before after t u → IsGeneralised before after ts us →
      IsGeneralised before after (cons t ts) (cons u us)

-- No part of a term but its regions is beyond what a universe can name.
abbrev pub IsNamedBy : Store → ℕ → Leaf → Type 0
IsNamedBy st u (variable k n) = IsRegionLeaf (variable k n) ⊎ (universe_of st k n ≤ u)
IsNamedBy st u (placeholder k v n) = IsRegionLeaf (placeholder k v n) ⊎ (v ≤ u)
IsNamedBy st u l = Unit {0}

-- An unbound variable was bound, at a variance, to what a term comes to with some places replaced by new variables,
-- for one of the budget. Each earlier assignment that gave the variable the term's value extends to the new variables.
-- At invariance, where all is first-order and the variable can name the term's types and constants, only regions are
-- replaced.
pub record Instantiates (before after : Store) (v : Variance) (k : VarKind) (n : ℕ) (source term : Tree) : Type 0 where
  pub later : IsLater before after
  pub made : IsMade before k n
  pub was_unbound : entry_of before k n ≡ unbound
  pub now_bound : entry_of after k n ≡ bound_to term
  pub others_stand : (j : VarKind) (i : ℕ) → (j ≡ k → i ≡ n → ⊥) → entry_of after j i ≡ entry_of before j i
  pub same_universes : (j : VarKind) (i : ℕ) → IsMade before j i → universe_of after j i ≡ universe_of before j i
  pub same_constraints : after.constraints ≡ before.constraints
  pub same_universe : after.universe ≡ before.universe
  pub same_taint : after.tainted ≡ before.tainted
  pub one_spent : before.budget ≡ suc after.budget
  pub term_in : IsTermIn after term
  pub generalised : IsGeneralised before after (apply (resolved before) source) term
  pub stays_sound : IsSound before → IsSound after
  pub keeps : (w : Interpretation) (s : Assign) → Satisfies w before s → s k n ≡ apply s source →
      HasExtension before s (λ s'. Satisfies w after s')
  pub keeps_erased : LacksAliases (apply (resolved before) source) → (s : Assign) → IsErasedSolution before s →
      Unifies s (leaf (variable k n)) source → HasErasedExtension before s (IsErasedSolution after)
  pub regions_alone : v ≡ Invariant → IsFirstOrder source → IsFirstOrderStore before →
      Leaves (IsNamedBy before (universe_of before k n)) (apply (resolved before) source) →
      erase term ≡ erase (apply (resolved before) source)

-- Or nothing was bound, and no earlier assignment gave the variable the term's value: nor up to erasure, at invariance
-- where all is first-order. Variables that were made on the way stay unbound.
pub record RefusesToInstantiate (before after : Store) (v : Variance) (k : VarKind) (n : ℕ)
    (source : Tree) : Type 0 where
  pub later : IsLater before after
  pub same_entries : (j : VarKind) (i : ℕ) → entry_of after j i ≡ entry_of before j i
  pub same_universes : (j : VarKind) (i : ℕ) → IsMade before j i → universe_of after j i ≡ universe_of before j i
  pub same_constraints : after.constraints ≡ before.constraints
  pub same_universe : after.universe ≡ before.universe
  pub same_taint : after.tainted ≡ before.tainted
  pub same_budget : after.budget ≡ before.budget
  pub stays_sound : IsSound before → IsSound after
  pub apart : (w : Interpretation) (s : Assign) → Satisfies w before s → s k n ≡ apply s source → ⊥
  pub apart_erased : v ≡ Invariant → IsFirstOrder source → IsFirstOrderStore before → (s : Assign) →
      IsErasedSolution before s → Unifies s (leaf (variable k n)) source → ⊥
