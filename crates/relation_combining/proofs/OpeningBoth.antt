-- Opening two binders in a context, the one with placeholders and the other with new variables: what that does to the
-- context, and that the bodies may stand for the binders.
use Rattle.std.proofs.Common.{◌≡◌, ◌⊎◌, ℕ, ◌+◌, ◌<◌, refl, sym, ap, ap₂, ◌∙◌, arith, inl, inr, subst, subst₂, List}
use Rattle.std.proofs.Common.{[], ◌∷◌, ◌++◌, map, length, get_or}
use Rattle.term_enums.specs.declared.Variance.{Variance}
use Rattle.relation_terms.specs.Heads.{BoundKind, VarKind, type_var, const_var, Leaf, variable, bound, placeholder}
use Rattle.relation_terms.specs.Heads.{atom, unknown}
use Rattle.relation_terms.specs.Trees.{Tree, leaf, bind, apply, inst, size, Leaves}
use Rattle.relation_terms.specs.Meaning.{Meaning}
use Rattle.relation_folds.specs.declared.error.TypeError.{TypeError}
use Rattle.relation_semantics.specs.Relation.{Items, StaysWithin, at, second_opened, first_opened}
use Rattle.relation_semantics.specs.Stores.{Store, unbound, entry_of, entry_term, counts_term, counts_bound, sum_over}
use Rattle.relation_semantics.specs.Stores.{bound_term}
use Rattle.relation_semantics.specs.Stores.{all_bound, IsMadeLeaf, IsInScope, InContext, IsNamable, IsTermIn}
use Rattle.relation_semantics.specs.Stores.{IsSound, resolved, weight}
use Rattle.relation_semantics.specs.Goals.{Goal}
use Rattle.relation_semantics.specs.Steps.{ChangesNothing, EntersForall, LeavesBody, EntersUniverse, InstantiatesBinder}
use Rattle.relation_semantics.specs.Steps.{IsLater, ArePlaceholders}
use Rattle.relation_semantics.specs.Outcomes.{StepsTo}
use Rattle.relation_semantics.specs.Alphabets.{Alphabet, IsBuiltOf, StaysBuilt, BuiltFrom, MayBind}
use Rattle.relation_semantics.proofs.Building.{body_built}
use Rattle.relation_semantics.specs.Measures.{Goes}
use Rattle.relation_semantics.specs.Settings.{Settings}
use Rattle.relation_semantics.specs.Errors.{IsStandIn, StandFor, ErrorOf, of_bodies}
use Rattle.relation_semantics.specs.Bound.{AreBoundAs, IsWellBound}
use Rattle.relation_semantics.specs.Agreeing.{AgreeIn}
use Rattle.relation_semantics.proofs.AgreeingBefore.{opened_agreed, came_free}
use Rattle.relation_semantics.proofs.Growing.{same_entries, new_unbound}
use Rattle.relation_semantics.specs.Generalising.{MakesUnbound}
use Rattle.relation_semantics.specs.Binders.{variable_kind, MakesEach, makes_none, makes_next, InstantiatesEach, placeholders_from}
use Rattle.relation_semantics.proofs.Trees.{Leaves_map₂, inst_within, apply_alike}
use Rattle.relation_semantics.proofs.Standing.{later_term, term_context, term_namable}
use Rattle.relation_semantics.proofs.Values.{placeholders_are}
use Rattle.relation_semantics.proofs.Tallies.{all_alike}
use Rattle.relation_semantics.proofs.Resolved.{resolved_same}
use Rattle.relation_semantics.proofs.StoreCalls.{nothing_is_seen}
use Rattle.relation_semantics.proofs.NewVariables.{Adds, adds, adds_goes}
use Rattle.relation_semantics.proofs.MakingEach.{variable_sort, each_unbound, instantiating_each_opens}
use Rattle.relation_combining.proofs.OpenedTerms.{entered_body_is_in, instantiated_body_is_in, entered_body_binds}
use Rattle.relation_combining.proofs.OpenedTerms.{instantiated_body_binds}
use Rattle.relation_semantics.proofs.Opening.{changes_later, opening_steps}
use Rattle.relation_semantics.proofs.Going.{goes_then}
use Rattle.relation_semantics.proofs.BuildingSteps.{built_opened, each_writes}
use Rattle.relation_goals.proofs.Entering.{changes_made}

-- What changes nothing leaves sizes, costs nothing and stays sound.
module _ (before after : Store) (h : ChangesNothing before after) where
  changes_sound : IsSound before → IsSound after
  changes_sound = (nothing_is_seen before after h).0

  changes_weight : (t : Tree) → weight after t ≡ weight before t
  unfolding weight
  changes_weight t = ap size (apply_alike (resolved after) (resolved before) t (λ k n. sym
      (resolved_same before after same_terms (sym (all_alike counts_term before after h.same_entries)) k n)))
    where
      same_terms : (k : VarKind) (n : ℕ) → bound_term before k n ≡ bound_term after k n
      same_terms k n = ap (λ es. entry_term k (get_or es n unbound)) (sym (h.same_entries k))

  changes_bound : all_bound after ≡ all_bound before
  changes_bound = ap₂ (λ es ds. sum_over counts_bound es + sum_over counts_bound ds) (h.same_entries type_var)
      (h.same_entries const_var)

  pub changes_goes : Goes 0 before after
  changes_goes = record {
    later = changes_later before after h;
    made = λ k n. ap length (h.same_entries k);
    spent = 0;
    counts = let e = h.same_budget in omega (arith, e);
    binds = let e = changes_bound in omega (arith, e);
    grows = λ m t above below. let e = changes_weight t in omega (arith, e, below);
  }

-- A universe may have been made, and then variables that stay unbound.
module _ (before middle after : Store) (h : ChangesNothing before middle) (g : IsSound before)
    (f : MakesUnbound middle.universe middle after) where
  opened_adds : Adds middle.universe middle after
  opened_adds = adds (changes_sound before middle h g) (omega arith) f

  pub opened_goes : Goes 0 before after
  opened_goes = goes_then (changes_goes before middle h) (adds_goes opened_adds) (omega arith)

-- What stands under a binder of a term of the context names only what the current universe can.
pub body_scope : (st : Store) → IsSound st → (ks : List BoundKind) (t : Tree) → IsTermIn st (bind ks t) →
    Leaves (IsInScope st st.universe) t
unfolding InContext
body_scope st g ks t h = Leaves_map₂ (IsMadeLeaf st) (IsNamable st.universe) (IsInScope st st.universe) at_leaf t
    (term_context st (bind ks t) h) (term_namable st (bind ks t) h)
  where
    at_leaf : (l : Leaf) → IsMadeLeaf st l → IsNamable st.universe l → IsInScope st st.universe l
    at_leaf (variable k n) m u = (m, g.below_current k n)
    at_leaf (bound k d i) m u = tt
    at_leaf (placeholder k v n) m u = u
    at_leaf (atom x) m u = m
    at_leaf unknown m u = u

-- An opened body is the body with stand-ins put for what its binder binds, of which no record knew anything that what
-- there is now came of.
pub record StandIns (now : Store) (ks : List BoundKind) (t x : Tree) : Type 0 where
  pub trees : List Tree
  pub stand : StandFor ks trees
  pub put : x ≡ inst trees 0 t
  pub unknown_then : (st : Store) → IsSound st → IsLater st now → map (apply (resolved st)) trees ≡ trees

placeholders_stand_for : (u : ℕ) (ks : List BoundKind) (ps : List Tree) → ArePlaceholders u ks ps → StandFor ks ps
placeholders_stand_for u [] [] h = tt
placeholders_stand_for u [] (p ∷ ps) h = absurd h
placeholders_stand_for u (k ∷ ks) [] h = absurd h
placeholders_stand_for u (k ∷ ks) (p ∷ ps) h =
    (subst (IsStandIn k) (sym h.0.1) refl, placeholders_stand_for u ks ps h.2)

-- Placeholders come to themselves, and so do variables that stay unbound.
placeholders_stay : (st : Store) (u : ℕ) (ks : List BoundKind) (ps : List Tree) → ArePlaceholders u ks ps →
    map (apply (resolved st)) ps ≡ ps
placeholders_stay st u [] [] h = refl
placeholders_stay st u [] (p ∷ ps) h = absurd h
placeholders_stay st u (k ∷ ks) [] h = absurd h
placeholders_stay st u (k ∷ ks) (p ∷ ps) h =
    ap₂ ◌∷◌ (ap (apply (resolved st)) h.0.1 ∙ sym h.0.1) (placeholders_stay st u ks ps h.2)

abbrev AreUnbound : Store → List Tree → Type 0
AreUnbound st [] = Unit {0}
AreUnbound st (x ∷ xs) =
    ((k : VarKind) × (n : ℕ) × (x ≡ leaf (variable k n)) × (entry_of st k n ≡ unbound)) × AreUnbound st xs

unbound_more : (st : Store) (k : VarKind) (n : ℕ) (xs : List Tree) → AreUnbound st xs → entry_of st k n ≡ unbound →
    AreUnbound st (xs ++ leaf (variable k n) ∷ [])
unbound_more st k n [] h e = ((k, n, refl, e), tt)
unbound_more st k n (x ∷ xs) h e = (h.0, unbound_more st k n xs h.1 e)

unbound_still : (st now : Store) → ((k : VarKind) (n : ℕ) → entry_of now k n ≡ entry_of st k n) → (xs : List Tree) →
    AreUnbound st xs → AreUnbound now xs
unbound_still st now f [] h = tt
unbound_still st now f (x ∷ xs) h =
    ((h.0.0, h.0.1, h.0.2, f h.0.0 h.0.1 ∙ h.0.3), unbound_still st now f xs h.1)

each_is_unbound : {u : ℕ} {before now : Store} {ks : List BoundKind} {xs : List Tree} → MakesEach u before ks xs now →
    AreUnbound now xs
each_is_unbound {now = now} (makes_none p q) = subst (AreUnbound now) (sym q) tt
each_is_unbound {u} {now = now} (makes_next {middle = middle} {xs = xs} {n = n} k f q p e) =
    subst (AreUnbound now) (sym e) (unbound_more now (variable_kind k) n xs
    (unbound_still middle now (same_entries middle now (variable_kind k) n u q) xs (each_is_unbound f))
    (new_unbound middle now (variable_kind k) n u q))

unbound_stay : (st now : Store) → IsSound st → IsLater st now → (xs : List Tree) → AreUnbound now xs →
    map (apply (resolved st)) xs ≡ xs
unbound_stay st now g l [] h = refl
unbound_stay st now g l (x ∷ xs) h = ap₂ ◌∷◌
    (ap (apply (resolved st)) h.0.2 ∙ came_free st now g l h.0.0 h.0.1 h.0.3 ∙ sym h.0.2) (unbound_stay st now g l xs h.1)

stand_more : (k : BoundKind) (t : Tree) (ks : List BoundKind) (ts : List Tree) → StandFor ks ts → IsStandIn k t →
    StandFor (ks ++ k ∷ []) (ts ++ t ∷ [])
stand_more k t [] [] h s = (s, tt)
stand_more k t [] (x ∷ ts) h s = absurd h
stand_more k t (j ∷ ks) [] h s = absurd h
stand_more k t (j ∷ ks) (x ∷ ts) h s = (h.0, stand_more k t ks ts h.1 s)

variables_stand_for : {u : ℕ} {before after : Store} {ks : List BoundKind} {xs : List Tree} →
    MakesEach u before ks xs after → StandFor ks xs
variables_stand_for (makes_none p q) = subst₂ StandFor (sym p) (sym q) tt
variables_stand_for (makes_next {ks = ks} {xs = xs} {n = n} k f q p e) = subst₂ StandFor (sym p) (sym e)
    (stand_more k (leaf (variable (variable_kind k) n)) ks xs (variables_stand_for f) (variable_sort k))

-- Where a body uses nothing of its binder any stand-ins leave it.
pub unused_stand_ins : {now : Store} (ks : List BoundKind) (t : Tree) → StaysWithin 0 t → StandIns now ks t t
unused_stand_ins ks t h = record {
  trees = placeholders_from 0 0 ks;
  stand = placeholders_stand_for 0 ks (placeholders_from 0 0 ks) (placeholders_are 0 0 ks);
  put = sym (inst_within (placeholders_from 0 0 ks) 0 t h);
  unknown_then = λ st g l. placeholders_stay st 0 ks (placeholders_from 0 0 ks) (placeholders_are 0 0 ks);
}

entered_stand_ins : {now : Store} (before after : Store) (ks : List BoundKind) (t x : Tree) →
    EntersForall before after ks t x → StandIns now ks t x
entered_stand_ins {now} before after ks t x f = go f.opens
  where
    go : LeavesBody before after t x ⊎ ((StaysWithin 0 t → ⊥) × EntersUniverse before after ks t x) → StandIns now ks t x
    go (inl p) = subst (StandIns now ks t) (sym p.body_is) (unused_stand_ins ks t p.unused)
    go (inr p) = let e = p.1 in record {
      trees = e.placeholders;
      stand = placeholders_stand_for after.universe ks e.placeholders e.are_placeholders;
      put = e.body_is;
      unknown_then = λ st g l. placeholders_stay st after.universe ks e.placeholders e.are_placeholders;
    }

instantiated_stand_ins : (before after : Store) (ks : List BoundKind) (t x : Tree) →
    InstantiatesEach before after ks t x → StandIns after ks t x
instantiated_stand_ins before after ks t x f = record {
  trees = f.variables;
  stand = variables_stand_for f.makes;
  put = f.body_is;
  unknown_then = λ st g l. unbound_stay st after g l f.variables (each_is_unbound f.makes);
}

-- An error of two opened bodies is one of the binders.
pub bodies_error : {Key Id Name : Type 0} (m : Meaning Key Id Name) (k : Settings) (c : Items) (st : Store)
    (v : Variance) (e : TypeError Key Id Name) (ks ls : List BoundKind) (t u x y : Tree) {now : Store} →
    StandIns now ks t x → StandIns now ls u y → ErrorOf m k c st v e x y → ErrorOf m k c st v e (bind ks t) (bind ls u)
bodies_error m k c st v e ks ls t u x y p q o =
    of_bodies p.trees q.trees refl refl p.stand q.stand (subst₂ (ErrorOf m k c st v e) p.put q.put o)

-- Opened bodies are built of what the binders are.
pub bodies_built : (st : Store) (ks ls : List BoundKind) (t u x y : Tree) {now : Store} → StandIns now ks t x →
    StandIns now ls u y → BuiltFrom st (bind ks t) (bind ls u) x y
bodies_built st ks ls t u x y p q = λ k ha hb all.
    (body_built k ks p.trees t x p.stand p.put ha, body_built k ls q.trees u y q.stand q.put hb)

-- Two binders agree, by what there was, if the opened bodies do.
pub bodies_agree : (set : Settings) (c : Items) (v : Variance) {now : Store} (st : Store) → IsSound st → IsLater st now →
    (ks ls : List BoundKind) (t u x y : Tree) → StandIns now ks t x → StandIns now ls u y → AreBoundAs ks 0 t →
    AreBoundAs ls 0 u → AgreeIn set c st (at v) x y → AgreeIn set c st (at v) (bind ks t) (bind ls u)
bodies_agree set c v st g l ks ls t u x y p q f h z = inr (opened_agreed st g set c v ks ls p.trees q.trees t u p.stand
    q.stand (p.unknown_then st g l) (q.unknown_then st g l) f h (subst₂ (AgreeIn set c st (at v)) p.put q.put z))

-- What is shown of both bodies together, of which the first was entered and the second instantiated.
pub record BothOpened (before after : Store) (ks ls : List BoundKind) (t u x y : Tree) : Type 0 where
  pub goes : Goes 0 before after
  pub built : (a b : Tree) → ((k : Alphabet) → IsBuiltOf k a → IsBuiltOf k b → MayBind k ls) →
      StaysBuilt before after [] a b
  pub same_budget : after.budget ≡ before.budget
  pub entered_in : IsTermIn after x
  pub instantiated_in : IsTermIn after y
  pub entered_by_lists : IsWellBound x
  pub instantiated_by_lists : IsWellBound y
  pub entered_for : StandIns after ks t x
  pub instantiated_for : StandIns after ls u y
  pub smaller : weight after x + weight after y < weight before (bind ks t) + weight before (bind ls u)
  pub second : (c : Items) (e : Tree) (v : Variance) (earlier : List Goal) →
      StepsTo c e before after earlier [] (second_opened ls ks v) u t (at v) y x
  pub first : (c : Items) (e : Tree) (v : Variance) (earlier : List Goal) →
      StepsTo c e before after earlier [] (first_opened ks ls v) t u (at v) x y

-- A binder is larger than its body by two.
binder_weight : (st : Store) (ks : List BoundKind) (t : Tree) → weight st t + 2 ≡ weight st (bind ks t)
unfolding weight
binder_weight st ks t = omega arith

pub bodies_smaller : (st : Store) (ks ls : List BoundKind) (t u : Tree) →
    weight st t + weight st u < weight st (bind ks t) + weight st (bind ls u)
bodies_smaller st ks ls t u = let i = binder_weight st ks t in let j = binder_weight st ls u in omega (arith, i, j)

module _ (before middle after : Store) (g : IsSound before) (ks ls : List BoundKind) (t u x y : Tree)
    (enters : EntersForall before middle ks t x) (makes : InstantiatesEach middle after ls u y)
    (in_t : IsTermIn before (bind ks t)) (in_u : IsTermIn before (bind ls u))
    (t_by_lists : IsWellBound (bind ks t)) (u_by_lists : IsWellBound (bind ls u)) where
  sound : IsSound middle
  sound = changes_sound before middle enters.changes_nothing g

  added : Adds middle.universe middle after
  added = opened_adds before middle after enters.changes_nothing g (each_unbound makes.makes)

  entered_there : IsTermIn middle x × (weight middle x ≡ weight before t)
  entered_there = entered_body_is_in before middle ks t x enters g in_t t_by_lists.0

  instantiated_there : IsTermIn after y × (weight after y ≡ weight middle u)
  instantiated_there = instantiated_body_is_in middle after ls u y makes sound
      (later_term before middle (changes_made before middle enters.changes_nothing)
      enters.changes_nothing.universe_stands (bind ls u) in_u) u_by_lists.0

  opens : InstantiatesBinder middle after ls u y
  opens = instantiating_each_opens middle after ls u y makes sound

  pub both_opened : BothOpened before after ks ls t u x y
  both_opened = record {
    goes = opened_goes before middle after enters.changes_nothing g (each_unbound makes.makes);
    built = λ a b has. built_opened before after ls a b enters.changes_nothing enters.same_taint
        (each_unbound makes.makes) (each_writes makes.makes) has;
    same_budget = added.budget ∙ enters.changes_nothing.same_budget;
    entered_in = let e = added.universe in
        later_term middle after (added.later).grows (omega (arith, e)) x entered_there.0;
    instantiated_in = instantiated_there.0;
    entered_by_lists = entered_body_binds before middle ks t x enters t_by_lists.1;
    instantiated_by_lists = instantiated_body_binds middle after ls u y makes u_by_lists.1;
    entered_for = entered_stand_ins before middle ks t x enters;
    instantiated_for = instantiated_stand_ins middle after ls u y makes;
    smaller =
        let p = sym (added.weights x) ∙ entered_there.1 in
        let q = instantiated_there.1 ∙ changes_weight before middle enters.changes_nothing u in
        let i = binder_weight before ks t in
        let j = binder_weight before ls u in
        omega (arith, p, q, i, j);
    second = λ c e v earlier. (opening_steps c e v before middle after earlier ls ks u t y x
        (body_scope before g ls u in_u) (body_scope before g ks t in_t)).0 enters opens;
    first = λ c e v earlier. (opening_steps c e v before middle after earlier ks ls t u x y
        (body_scope before g ks t in_t) (body_scope before g ls u in_u)).1 enters opens;
  }
