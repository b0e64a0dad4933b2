-- Goals that were registered.
use Rattle.std.proofs.Common.{◌≡◌, ◌≢◌, ◌⊎◌, ℕ, inl, inr, refl, sym, ap, ap₂, ◌∙◌, subst, subst₂, List, [], ◌∷◌, ◌++◌, All, IsTrue, Bool, true, false, IsFalse, Some}
use Rattle.std.proofs.lemmas.Bool.{and_from, false≢true}
use Rattle.term_enums.specs.declared.Variance.{Variance}
use Rattle.term_enums.specs.declared.Variance.TheVariants.{Covariant, Contravariant, Invariant, Bivariant}
use Rattle.term_enums.specs.declared.AliasRelationDirection.TheVariants.{Equate, Subtype as SubtypeOf}
use Rattle.term_enums.specs.Variances.{xform}
use Rattle.term_enums.specs.declared.StructurallyRelateAliases.TheVariants.{No}
use Rattle.relation_semantics.specs.AliasGoals.{alias_at}
use Rattle.relation_semantics.specs.Lawful.{State, RegisteredIn, items_in}
use Rattle.std.proofs.lemmas.List.Elements.{All-append, All-head, All-tail, All-weaker}
use Rattle.relation_terms.specs.declared.terms.goal.Goal.{Goal as KeyedGoal}
use Rattle.relation_terms.specs.declared.terms.keys.PredicateKey.{PredicateKey}
use Rattle.relation_terms.specs.declared.terms.keys.BoundVarsKey.{BoundVarsKey}
use Rattle.relation_terms.specs.declared.terms.keys.TyKey.{TyKey}
use Rattle.relation_terms.specs.declared.terms.binder.Binder.{Binder}
use Rattle.relation_terms.specs.declared.predicate.kinds.PredicateKind.{PredicateKind}
use Rattle.relation_terms.specs.declared.predicate.kinds.PredicateKind.TheVariants.{Subtype, Clause}
use Rattle.relation_terms.specs.declared.predicate.kinds.ClauseKind.TheVariants.{WellFormed}
use Rattle.relation_terms.specs.declared.terms.generic_arg.TermKind.TheVariants.{Ty as TyTerm}
use Rattle.relation_terms.specs.Heads.{type_var, Head, alias, unevaluated, subtype, well_formed, variable, bound, placeholder, atom, unknown}
use Rattle.relation_terms.specs.Trees.{Tree, leaf, node, bind, nil, cons, known}
use Rattle.relation_terms.specs.Meaning.{Meaning, Extends, under}
use Rattle.relation_terms.specs.Predicates.{predicate_tree}
use Rattle.relation_semantics.specs.Stores.{Store, Entry, unbound, same_as, bound_to, entry_of, entry_term, InContext}
use Rattle.relation_semantics.specs.Relation.{Items, IsAlias}
use Rattle.relation_semantics.specs.Settings.{Settings}
use Rattle.relation_semantics.specs.Alphabets.{Alphabet, IsBuiltOf, BindsBuiltOf, IsPredicateOf, IsGoalOf}
use Rattle.relation_semantics.specs.FirstOrder.{IsFirstOrderHead, IsFirstOrder, IsFirstOrderStore}
use Rattle.relation_semantics.specs.Goals.{Goal, goal_of, goals_of, KnowsGoal, subtype_predicate, well_formed_predicate, IsRegistered, of_variables, of_type, of_alias, of_too_much, Registered, GoalInContext, IsDirected, ByDeclared}
use Rattle.relation_semantics.specs.Steps.{IsLater}
use Rattle.relation_semantics.proofs.Classes.{stands_from}
use Rattle.relation_semantics.proofs.Standing.{later_context}

-- The variables of a registered goal are the later store's.
goal_in : {c : Items} {d : Settings} {v : Variance} (before after : Store) (p : Tree) → IsRegistered c d v before after p →
    InContext after p
unfolding InContext
goal_in before after p (of_variables x n m o e f g) = subst (InContext after) (sym e) (f.0, (g.0, tt))
goal_in before after p (of_type t o e i b) = subst (InContext after) (sym e) (i, tt)
goal_in before after p (of_alias d a b o e s h i j) = subst (InContext after) (sym e) (i, (j, tt))
goal_in before after p (of_too_much o e) = subst (InContext after) (sym e) tt

pub registered_in : {c : Items} {d : Settings} {v : Variance} {e : Tree} {before after : Store} (gs : List Goal) →
    All (Registered c d v e before after) gs → All (GoalInContext after) gs
registered_in {c = c} {d = d} {v = v} {e = e} {before = before} {after = after} gs h =
    All-weaker (Registered c d v e before after) (GoalInContext after) (λ g r. goal_in before after g.predicate r.asks) gs h

-- What was unbound later was unbound before.
was_unbound : (before after : Store) → IsLater before after → (n : ℕ) → entry_of after type_var n ≡ unbound → entry_of before type_var n ≡ unbound
was_unbound before after l n h = go (entry_of before type_var n) refl
  where
    go : (x : Entry) → entry_of before type_var n ≡ x → entry_of before type_var n ≡ unbound
    go unbound q = q
    go (same_as m) q = absurd (let s = stands_from before after l type_var n (same_as m) q in let e = s.1 in cc (e, h))
    go (bound_to u) q = absurd (let e : entry_of after type_var n ≡ bound_to u = stands_from before after l type_var n (bound_to u) q in cc (e, h))

-- Goals that were registered one after another.
still_asks : {c : Items} {d : Settings} {v : Variance} {before middle after : Store} {p : Tree} → IsLater middle after →
    IsRegistered c d v before middle p → IsRegistered c d v before after p
still_asks l (of_variables x n m o e f g) =
    of_variables x n m o e (l.grows type_var n f.0, f.1) (l.grows type_var m g.0, g.1)
still_asks {middle = middle} {after = after} l (of_type t o e i b) =
    of_type t o e (later_context middle after l.grows t i) b
still_asks {middle = middle} {after = after} l (of_alias d a b o e s h i j) =
    of_alias d a b o e s h (later_context middle after l.grows a i) (later_context middle after l.grows b j)
still_asks l (of_too_much o e) = of_too_much o e

asks_since : {c : Items} {d : Settings} {v : Variance} {before middle after : Store} {p : Tree} → IsLater before middle →
    IsRegistered c d v middle after p → IsRegistered c d v before after p
asks_since {before = before} {middle = middle} l (of_variables x n m o e f g) =
    of_variables x n m o e (f.0, was_unbound before middle l n f.1) (g.0, was_unbound before middle l m g.1)
asks_since l (of_type t o e i b) = of_type t o e i b
asks_since l (of_alias d a b o e s h i j) = of_alias d a b o e s h i j
asks_since l (of_too_much o e) = of_too_much o e

module _ {Key Id Name : Type 0} where
  pub registered_both : (r q : State Key Id Name) (after : Store) (first others : List Goal) → items_in q ≡ items_in r →
      q.kept.environment ≡ r.kept.environment → q.kept.settings ≡ r.kept.settings → q.ambient ≡ r.ambient → IsLater r.store q.store →
      IsLater q.store after → All (RegisteredIn r q.store) first → All (RegisteredIn q after) others →
      All (RegisteredIn r after) (first ++ others)
  registered_both r q after first others items same k v l t f g =
      All-append (RegisteredIn r after) first others
      (All-weaker (RegisteredIn r q.store) (RegisteredIn r after)
      (λ x y. record { environment = y.environment; asks = still_asks t y.asks }) first f)
      (All-weaker (Registered (items_in r) r.kept.settings r.ambient q.kept.environment q.store after)
      (RegisteredIn r after)
      (λ x y. record { environment = y.environment ∙ same; asks = asks_since l y.asks }) others
      (subst (λ z. All (Registered z r.kept.settings r.ambient q.kept.environment q.store after) others) items
      (subst₂ (λ z w. All (Registered (items_in q) z w q.kept.environment q.store after) others) k v g)))

  -- The same in other states that are alike.
  pub registered_as : (r q : State Key Id Name) (after now : Store) (gs : List Goal) → items_in r ≡ items_in q →
      r.kept.environment ≡ q.kept.environment → r.kept.settings ≡ q.kept.settings → (IsDirected r.ambient → IsDirected q.ambient) →
      r.store ≡ q.store → after ≡ now → All (RegisteredIn r after) gs → All (RegisteredIn q now) gs
  registered_as r q after now gs i p k v s t h =
      All-weaker (Registered (items_in q) q.kept.settings r.ambient q.kept.environment q.store now)
      (RegisteredIn q now) (λ x y. record { environment = y.environment; asks = seen_from y.asks }) gs
      (subst (λ z. All (Registered z q.kept.settings r.ambient q.kept.environment q.store now) gs) i
      (subst₂ (λ z y. All (Registered (items_in r) z r.ambient y q.store now) gs) k p
      (subst₂ (λ s t. All (Registered (items_in r) r.kept.settings r.ambient r.kept.environment s t) gs) s t
      h)))
    where
      by_declared : ByDeclared q.kept.settings.declared_at_invariance r.ambient →
          ByDeclared q.kept.settings.declared_at_invariance q.ambient
      by_declared (inl o) = inl (v o)
      by_declared (inr o) = inr o

      still_directed : {D : Type 0} → D ⊎ IsDirected r.ambient → D ⊎ IsDirected q.ambient
      still_directed (inl e) = inl e
      still_directed (inr o) = inr (v o)

      seen_from : {x : Tree} → IsRegistered (items_in q) q.kept.settings r.ambient q.store now x →
          IsRegistered (items_in q) q.kept.settings q.ambient q.store now x
      seen_from (of_variables x n m o e f g) = of_variables x n m (v o) e f g
      seen_from (of_type t o e i b) = of_type t (by_declared o) e i b
      seen_from (of_alias d a b o e s h i j) = of_alias d a b o e s (still_directed h) i j
      seen_from (of_too_much o e) = of_too_much o e

-- What is asked of two types, one an alias, is registered where aliases are left to goals, and speaks of the two.
pub alias_is : {x y : Tree} → Some x ≡ Some y → y ≡ x
alias_is e = cc

pub alias_registered : (c : Items) (k : Settings) (v : Variance) (before after : Store) (a b p : Tree) →
    k.structurally_relate_aliases ≡ No → alias_at v a b ≡ Some p → IsAlias a ⊎ IsAlias b → InContext after a →
    InContext after b → IsRegistered c k v before after p
alias_registered c k Covariant before after a b p is e o i j = of_alias SubtypeOf a b is (alias_is e) o (inr tt) i j
alias_registered c k Contravariant before after a b p is e (inl o) i j = of_alias SubtypeOf b a is (alias_is e) (inr o) (inr tt) j i
alias_registered c k Contravariant before after a b p is e (inr o) i j = of_alias SubtypeOf b a is (alias_is e) (inl o) (inr tt) j i
alias_registered c k Invariant before after a b p is e o i j = of_alias Equate a b is (alias_is e) o (inl refl) i j
alias_registered c k Bivariant before after a b p is e o i j = absurd cc

pub alias_built : (k : Alphabet) (v : Variance) (a b p : Tree) → alias_at v a b ≡ Some p → IsBuiltOf k a → IsBuiltOf k b →
    IsPredicateOf k p
alias_built k Covariant a b p e h i = subst (IsPredicateOf k) (sym (alias_is e)) (h, (i, tt))
alias_built k Contravariant a b p e h i = subst (IsPredicateOf k) (sym (alias_is e)) (i, (h, tt))
alias_built k Invariant a b p e h i = subst (IsPredicateOf k) (sym (alias_is e)) (h, (i, tt))
alias_built k Bivariant a b p e h i = absurd cc

-- What is directed where it is seen from a variance: the variance is.
pub directed_from : (v w : Variance) → IsDirected (xform v w) → IsDirected v
directed_from Covariant w h = tt
directed_from Contravariant w h = tt
directed_from Invariant w h = absurd h
directed_from Bivariant w h = absurd h

-- At a variance that decides, declared variances are used: it is directed, or that is said.
pub by_declared : (d : Bool) (v : Variance) → v ≢ Bivariant → (v ≡ Invariant → IsTrue d) → ByDeclared d v
by_declared d Covariant h k = inl tt
by_declared d Contravariant h k = inl tt
by_declared d Invariant h k = inr (k refl)
by_declared d Bivariant h k = absurd (h refl)

-- Where that is not said, at invariance only those goals are registered that aliases and opaque types call for: so none
-- where neither stands in the terms and in what is bound.
abbrev pub no_aliases : Head → Bool
no_aliases (alias k d) = false
no_aliases (unevaluated d) = false
no_aliases h = true

pub all_but_aliases : Alphabet
all_but_aliases = record { heads = no_aliases; atoms = λ x. true; binders = true; variables = true }

pub lacks_alias : (t : Tree) → IsBuiltOf all_but_aliases t → IsAlias t → ⊥
unfolding all_but_aliases
lacks_alias (node (alias k d) ts) h o = false≢true h.0
lacks_alias (node (unevaluated d) ts) h o = false≢true h.0
lacks_alias (node h ts) f o = o
lacks_alias t h o = o

first_order_head : (h : Head) → IsFirstOrderHead h → IsTrue (no_aliases h)
first_order_head (alias k d) o = absurd o
first_order_head (unevaluated d) o = absurd o
first_order_head h o = refl

pub first_order_built : (t : Tree) → IsFirstOrder t → IsBuiltOf all_but_aliases t
unfolding all_but_aliases
first_order_built (leaf (variable k n)) h = λ o. refl
first_order_built (leaf (bound k d i)) h = tt
first_order_built (leaf (placeholder k u n)) h = tt
first_order_built (leaf (atom x)) h = refl
first_order_built (leaf unknown) h = tt
first_order_built (node f ts) h = (first_order_head f h.0, first_order_built ts h.3)
first_order_built (bind ks t) h = absurd h
first_order_built nil h = tt
first_order_built (cons t u) h = (first_order_built t h.0, first_order_built u h.1)

pub first_order_bindings : (st : Store) → IsFirstOrderStore st → BindsBuiltOf all_but_aliases st
first_order_bindings st h = λ j may n t e. first_order_built t (h j n t (ap (entry_term j) e))

pub none_at_invariance : {c : Items} {k : Settings} {e : Tree} {before after : Store} (gs : List Goal) (v : Variance) →
    v ≡ Invariant → IsFalse k.declared_at_invariance → All (IsGoalOf all_but_aliases) gs →
    All (Registered c k v e before after) gs → gs ≡ []
unfolding all_but_aliases
none_at_invariance [] v is off asks h = refl
none_at_invariance {c = c} {k = k} {e = e} {before = before} {after = after} (g ∷ gs) v is off asks h =
    absurd (not_so g.predicate (All-head (IsGoalOf all_but_aliases) g gs asks)
    (All-head (Registered c k v e before after) g gs h).asks)
  where
    undirected : IsDirected v → ⊥
    undirected o = subst IsDirected is o

    not_so : (p : Tree) → IsPredicateOf all_but_aliases p → IsRegistered c k v before after p → ⊥
    not_so p s (of_variables x n m o e f g) = undirected o
    not_so p s (of_type t (inl o) e i b) = undirected o
    not_so p s (of_type t (inr o) e i b) = false≢true (sym off ∙ o)
    not_so p s (of_alias d a b o e (inl q) h i j) =
        let z = subst (IsPredicateOf all_but_aliases) e s in lacks_alias a z.0 q
    not_so p s (of_alias d a b o e (inr q) h i j) =
        let z = subst (IsPredicateOf all_but_aliases) e s in lacks_alias b z.1.0 q
    not_so p s (of_too_much o e) = let z = subst (IsPredicateOf all_but_aliases) e s in false≢true z.1

-- Goals over known keys mean what they meant.
pub goals_stay : {Key Id Name : Type 0} {m n : Meaning Key Id Name} → Extends m n → (gs : List (KeyedGoal Key (PredicateKey Key))) → All (KnowsGoal m) gs → goals_of n gs ≡ goals_of m gs
goals_stay grown [] h = refl
goals_stay {m = m} grown (g ∷ gs) h = let k = All-head (KnowsGoal m) g gs h in
    ap₂ ◌∷◌ (ap₂ goal_of (grown.param_env g.param_env k.0) (grown.predicate g.predicate k.1)) (goals_stay grown gs (All-tail (KnowsGoal m) g gs h))

pub goals_known : {Key Id Name : Type 0} {m n : Meaning Key Id Name} → Extends m n → (gs : List (KeyedGoal Key (PredicateKey Key))) → All (KnowsGoal m) gs → All (KnowsGoal n) gs
goals_known {m = m} {n = n} grown gs h = All-weaker (KnowsGoal m) (KnowsGoal n)
    (λ g k. (subst (λ t. IsTrue (known t)) (sym (grown.param_env g.param_env k.0)) k.0, subst (λ t. IsTrue (known t)) (sym (grown.predicate g.predicate k.1)) k.1)) gs h

-- The predicate that one type is a subtype of another, as an interner makes it.
module _ {Key Id Name : Type 0} {m n : Meaning Key Id Name} (grown : Extends m n) (vars : BoundVarsKey Key) (none : n.bound_vars vars ≡ Some []) (x : Bool) (a b : TyKey Key) (a_known : IsTrue (known (m.ty a))) (b_known : IsTrue (known (m.ty b))) where
  abbrev form : Binder Key (PredicateKind Key Id Name)
  form = record { value = Subtype (record { a_is_expected = x; a = a; b = b }); bound_vars = vars }

  pub subtype_tree : predicate_tree n form ≡ subtype_predicate x (m.ty a) (m.ty b)
  subtype_tree = ap (λ z. under z (node (subtype x) (cons (n.ty a) (cons (n.ty b) nil)))) none
      ∙ ap₂ (λ t u. bind [] (node (subtype x) (cons t (cons u nil)))) (grown.ty a a_known) (grown.ty b b_known)

  pub subtype_known : IsTrue (known (predicate_tree n form))
  subtype_known = subst (λ t. IsTrue (known t)) (sym subtype_tree) (and_from (known (m.ty a)) (known (cons (m.ty b) nil)) a_known
      (and_from (known (m.ty b)) true b_known refl))

-- The predicate that a type is well formed, as an interner makes it.
module _ {Key Id Name : Type 0} {m n : Meaning Key Id Name} (grown : Extends m n) (vars : BoundVarsKey Key) (none : n.bound_vars vars ≡ Some []) (a : TyKey Key) (a_known : IsTrue (known (m.ty a))) where
  abbrev well_formed_form : Binder Key (PredicateKind Key Id Name)
  well_formed_form = record { value = Clause (WellFormed (TyTerm a)); bound_vars = vars }

  pub well_formed_tree : predicate_tree n well_formed_form ≡ well_formed_predicate (m.ty a)
  well_formed_tree = ap (λ z. under z (node well_formed (cons (n.ty a) nil))) none
      ∙ ap well_formed_predicate (grown.ty a a_known)

  pub well_formed_known : IsTrue (known (predicate_tree n well_formed_form))
  well_formed_known = subst (λ t. IsTrue (known t)) (sym well_formed_tree) (and_from (known (m.ty a)) true a_known refl)
