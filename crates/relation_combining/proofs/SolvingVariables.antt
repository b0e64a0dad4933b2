-- Binding a variable, as a step of a relation over a context, and being refused.
use Rattle.std.proofs.Common.{◌≡◌, ◌≢◌, ◌⊎◌, ℕ, suc, ◌+◌, ◌<◌, ◌≤◌, refl, sym, ap, ◌∙◌, arith, inl, inr, subst, subst₂, [], ◌∷◌, IsTrue, Some}
use Rattle.std.proofs.Common.{Ok, Err}
use Rattle.std.proofs.lemmas.List.Elements.{All-nil, All-cons}
use Rattle.term_enums.specs.declared.Variance.{Variance}
use Rattle.term_enums.specs.declared.Variance.TheVariants.{Covariant, Contravariant, Invariant, Bivariant}
use Rattle.term_enums.specs.Variances.{xform}
use Rattle.relation_terms.specs.Heads.{region_var, type_sort, const_sort, VarKind, type_var, const_var, atom, variable, bound, placeholder, unknown}
use Rattle.relation_terms.specs.Trees.{Tree, leaf, node, bind, nil, cons, Assign, apply, known, IsTerm, Leaves}
use Rattle.relation_terms.specs.Meaning.{Meaning, Extends}
use Rattle.relation_folds.specs.declared.error.TypeError.{TypeError}
use Rattle.relation_folds.specs.declared.error.RelateFault.{RelateFault}
use Rattle.relation_folds.specs.declared.error.RelateFault.TheVariants.{Memory, Budget, Unrelated}
use Rattle.relation_semantics.specs.declared.relate.Step.TheVariants.{Done, Again}
use Rattle.relation_semantics.specs.AliasGoals.{alias_at}
use Rattle.relation_semantics.specs.AskedAlone.{AsksAlone, of_variables, of_alias, AsksNoneAlone, IsNoTyVar}
use Rattle.relation_semantics.specs.Goals.{Goal, goal_of}
use Rattle.relation_semantics.specs.Relation.{Items, Interpretation, Rel, at, sort_of, IsAlias, same as same_rel}
use Rattle.relation_semantics.specs.Stores.{Store, unbound, entry_of, entry_term, IsMade, IsTermIn, IsSound, Satisfies}
use Rattle.relation_semantics.specs.Stores.{InContext, MayStandFor, universe_of, all_bound, resolved, weight}
use Rattle.relation_semantics.specs.Headline.{IsFirstOrderPair}
use Rattle.relation_semantics.specs.Steps.{IsLater, Instantiates, RefusesToInstantiate, InstantiatesNone, StaysFull}
use Rattle.relation_semantics.specs.Alphabets.{Alphabet, IsBuiltOf, BindsBuiltOf, IsPredicateOf, IsGoalOf, Builds, StaysBuilt}
use Rattle.relation_combining.proofs.BoundInPlace.{bound_left, bound_right}
use Rattle.relation_semantics.proofs.Passing.{passes_then}
use Rattle.relation_semantics.proofs.Registered.{alias_registered, alias_built}
use Rattle.relation_semantics.specs.Outcomes.{Outcome, StepsTo, CarriesOver, ExactStep, KeepsOne}
use Rattle.relation_semantics.specs.Measures.{Goes, grown as squared}
use Rattle.term_enums.specs.declared.StructurallyRelateAliases.{StructurallyRelateAliases}
use Rattle.term_enums.specs.declared.StructurallyRelateAliases.TheVariants.{No}
use Rattle.relation_semantics.specs.Settings.{Settings}
use Rattle.relation_semantics.specs.Errors.{ErrorOf, BindingError, of_binding, of_binding_back, of_entries, IsReadAs, itself, by_binding}
use Rattle.relation_semantics.specs.ErasureLaws.{IsTypeOrConst}
use Rattle.relation_semantics.specs.Parts.{IsRigid}
use Rattle.relation_semantics.specs.FirstOrder.{IsFirstOrder, IsFirstOrderStore}
use Rattle.relation_semantics.specs.Generalising.{Obstacle, cycle, beyond, InstantiatesBy, RefusesByObstacle, MakesUnbound}
use Rattle.relation_semantics.specs.Generalising.{NumbersNameNothing}
use Rattle.relation_semantics.specs.Bound.{IsWellBound}
use Rattle.relation_semantics.specs.Resolving.{IsShallow, root as shallow_root, stays_bound, formed, IsShallowConst, const_root, no_variable}
use Rattle.relation_semantics.specs.Lawful.{Passes, Asked, MayAnswer, Stepped, Leads, LeadsAgain, items_of, State}
use Rattle.relation_semantics.specs.Contexts.{Context}
use Rattle.relation_semantics.specs.ContextCalls.{Instantiated, ObstacleError, BindingsAreWellBound}
use Rattle.relation_combining.specs.Solving.{solver_manner}
use Rattle.relation_goals.specs.Emitting.{RegistersGoal}
use Rattle.relation_combining.proofs.GoalPasses.{goal_passes, no_goal_passes, begins_asking}
use Rattle.relation_semantics.proofs.Answering.{covariantly, may_itself}
use Rattle.relation_combining.proofs.Constants.{fixed, constants_at_each_variance}
use Rattle.relation_combining.proofs.ConstErrors.{const_error_alike}
use Rattle.relation_combining.proofs.Turning.{turned}
use Rattle.relation_semantics.proofs.Going.{goes_nowhere, goes_within, grown-mono, later_itself}
use Rattle.relation_semantics.proofs.Keeping.{one_same, one_of_all, unified_same, adding_keeps, adding_keeps_erased}
use Rattle.relation_semantics.proofs.ReadAs.{read_later}
use Rattle.relation_semantics.proofs.Resolved.{resolved_free, resolved_weight}
use Rattle.relation_semantics.proofs.Standing.{later_term, later_context, term_context, term_of_made}
use Rattle.relation_semantics.proofs.AgreeingBefore.{root_agreed, root_agreed_back}
use Rattle.relation_semantics.proofs.Beginning.{begins_by}
use Rattle.relation_semantics.proofs.Opening.{instantiating_steps}
use Rattle.relation_semantics.proofs.Exactness.{instantiating_is_exact_step}
use Rattle.relation_semantics.proofs.AliasSteps.{no_larger}
use Rattle.relation_semantics.proofs.Instantiating.{resolved_first_order}
use Rattle.relation_semantics.proofs.BindingGeneralised.{generalised_instantiates, generalised_goes, generalised_weights, generalised_first_order}
use Rattle.relation_combining.proofs.BindingRefused.{generalising_refuses, refused}
use Rattle.relation_combining.proofs.GeneralisingErrors.{beyond_error}
use Rattle.relation_semantics.proofs.NewVariables.{Adds, adds, adds_goes}
use Rattle.relation_semantics.proofs.Full.{full_same, full_could, instantiates_one}
use Rattle.relation_combining.proofs.OverContext.{standing, over_passes, all_taken}
use Rattle.relation_semantics.specs.OneUniverse.{NamesTypesTo, HasOneUniverse, all_roots, StaysOf, LeadsInUniverse, BindsFewer}
use Rattle.relation_semantics.proofs.OneUniverse.{binds_none, bound_fewer}
use Rattle.relation_combining.proofs.GeneralisingInOne.{instantiates_in_one}
use Rattle.relation_semantics.proofs.Erased.{alias_not_first}
use Rattle.relation_semantics.proofs.BuildingSteps.{term_built, builds_instantiated, builds_noting, built_same, built_unbound}
use Rattle.relation_semantics.proofs.GeneralisedLeaves.{first_order_lacks}
use Rattle.relation_combining.proofs.Binding.{no_region}

-- What a term comes to is a variable only where the term is one.
variable_alone : (s : Assign) (t : Tree) (k : VarKind) (n : ℕ) → ((j : VarKind) (m : ℕ) → t ≡ leaf (variable j m) → ⊥) →
    apply s t ≢ leaf (variable k n)
variable_alone s (leaf (variable j m)) k n f h = f j m refl
variable_alone s (leaf (bound q d i)) k n f h = cc
variable_alone s (leaf (placeholder q u i)) k n f h = cc
variable_alone s (leaf (atom x)) k n f h = cc
variable_alone s (leaf unknown) k n f h = cc
variable_alone s (node i ts) k n f h = cc
variable_alone s (bind ks t) k n f h = cc
variable_alone s nil k n f h = cc
variable_alone s (cons t ts) k n f h = cc

-- A type that was resolved shallowly to no type variable comes to none.
pub type_comes_to_none : (st : Store) (t : Tree) (n : ℕ) → IsShallow st t →
    ((m : ℕ) → t ≢ leaf (variable type_var m)) → apply (resolved st) t ≢ leaf (variable type_var n)
type_comes_to_none st t n (shallow_root k m e f) o h =
    o n (e ∙ sym (resolved_free st k m f) ∙ sym (ap (apply (resolved st)) e) ∙ h)
type_comes_to_none st t n (stays_bound k d i e) o h =
    let z : leaf (bound k d i) ≡ leaf (variable type_var n) = sym (ap (apply (resolved st)) e) ∙ h in cc
type_comes_to_none st t n (formed f) o h =
    variable_alone (resolved st) t type_var n (λ j m e. subst IsRigid e f) h

-- The same of a constant.
pub const_comes_to_none : (st : Store) (t : Tree) (n : ℕ) → IsShallowConst st t →
    ((m : ℕ) → t ≢ leaf (variable const_var m)) → apply (resolved st) t ≢ leaf (variable const_var n)
const_comes_to_none st t n (const_root m e f) o h = o m e
const_comes_to_none st t n (no_variable f) o h = variable_alone (resolved st) t const_var n f h

-- No goal is asked alone of a variable of types and a type that is none, nor of one of constants.
root_asks_none : (k : VarKind) → IsTypeOrConst k → (j : Settings) (v : Variance) (n : ℕ) (t : Tree) →
    (k ≡ type_var → IsNoTyVar t) → AsksNoneAlone j v (leaf (variable k n)) t × AsksNoneAlone j v t (leaf (variable k n))
root_asks_none type_var h j v n t other = (λ s u p a. left p a, λ s u p a. right p a)
  where
    left : (p : Tree) → AsksAlone j v (leaf (variable type_var n)) t p → ⊥
    left p (of_variables x y e) = other refl y.0 y.1
    left p (of_alias l o clean x y e) = x n refl

    right : (p : Tree) → AsksAlone j v t (leaf (variable type_var n)) p → ⊥
    right p (of_variables x y e) = other refl x.0 x.1
    right p (of_alias l o clean x y e) = y n refl
root_asks_none const_var h j v n t other = (λ s u p a. no_type s, λ s u p a. no_type u)
  where
    no_type : sort_of (leaf (variable const_var n)) ≡ type_sort → ⊥
    no_type e = let z : const_sort ≡ type_sort = e in cc
root_asks_none k h j v n t other = absurd h

-- What is recorded is later when a variable was bound, and when binding was refused.
module _ {Key Id Name : Type 0} (al : StructurallyRelateAliases) (c d : Context Key Id Name) (before : IsSound c.store)
    (k : VarKind) (counted : IsTypeOrConst k) (target : ℕ) (t : Tree) (x : Variance) where
  pub bound_later : NumbersNameNothing c.store → (u : Tree) → IsTermIn c.store t → MayStandFor k t →
      InstantiatesBy al (items_of c.meaning) c.store d.store x k target t u → IsLater c.store d.store
  bound_later numbers u t_in stands f =
      (generalised_instantiates al (items_of c.meaning) c.store d.store x k target t u counted f numbers before t_in stands).later

  pub refused_later : {X : Type 0} (means : Meaning Key Id Name → X → Tree) (cyclic : X → TypeError Key Id Name) →
      apply (resolved c.store) t ≢ leaf (variable k target) → (f : RelateFault Key Id Name) →
      Instantiated c d al x k target t means cyclic (Err f) → IsLater c.store d.store
  refused_later means cyclic other (Unrelated g) h =
      ((generalising_refuses al c.store d.store x k target t h.1.0 counted h.1.1 before other).1).later
  refused_later means cyclic other Budget h = subst (IsLater c.store) (sym h.1) (later_itself c.store)
  refused_later means cyclic other Memory h = (adds_goes (adds before (before.below_current k target) h.1)).later

-- Two terms that are related at one variance are related at another, and so are their errors.
record Lifts (Key Id Name : Type 0) (st : Store) (w v : Variance) (x y : Tree) : Type 0 where
  relates : (c : Items) (i : Interpretation) (e : Tree) (s : Assign) → Satisfies i st s →
      Rel c i e (at w) (apply s x) (apply s y) → Rel c i e (at v) (apply s x) (apply s y)
  errors : (m : Meaning Key Id Name) (j : Settings) (c : Items) (now : Store) (f : TypeError Key Id Name) → IsSound now →
      ErrorOf m j c now w f x y → ErrorOf m j c now v f x y

lifts_itself : {Key Id Name : Type 0} (st : Store) (v : Variance) (x y : Tree) → Lifts Key Id Name st v v x y
lifts_itself st v x y = record { relates = λ c i e s sat r. r; errors = λ m j c now f g o. o }

-- Constants from invariance to each variance.
invariant_decides : Invariant ≢ Bivariant
invariant_decides e = cc

twice_back : (v : Variance) → v ≢ Bivariant →
    (xform v Contravariant ≢ Bivariant) × (xform (xform v Contravariant) Contravariant ≡ v)
twice_back Covariant d = ((λ e. cc), refl)
twice_back Contravariant d = ((λ e. cc), refl)
twice_back Invariant d = ((λ e. cc), refl)
twice_back Bivariant d = absurd (d refl)

const_lifts : {Key Id Name : Type 0} (st : Store) (v : Variance) → v ≢ Bivariant → (x y : Tree) → IsTerm const_sort x →
    ((i : Interpretation) (s : Assign) → Satisfies i st s → IsTerm const_sort (apply s x)) →
    Lifts Key Id Name st Invariant v x y
const_lifts st v d x y k f = record {
  relates = λ c i e s sat r. constants_at_each_variance c i e Invariant v const_sort (apply s x) (apply s y) tt (f i s sat)
      invariant_decides d r;
  errors = λ m j c now f g o. const_error_alike m j c now g invariant_decides d k o;
}

const_lifts_back : {Key Id Name : Type 0} (st : Store) (v : Variance) → v ≢ Bivariant → (x y : Tree) →
    IsTerm const_sort x → ((i : Interpretation) (s : Assign) → Satisfies i st s → IsTerm const_sort (apply s y)) →
    Lifts Key Id Name st Invariant v x y
const_lifts_back st v d x y k f = record {
  relates = λ c i e s sat r. let b = twice_back v d in
      subst (λ z. Rel c i e (at z) (apply s x) (apply s y)) b.1 (turned (constants_at_each_variance c i e Invariant
      (xform v Contravariant) const_sort (apply s y) (apply s x) tt (f i s sat) invariant_decides b.0 (turned r)));
  errors = λ m j c now f g o. const_error_alike m j c now g invariant_decides d k o;
}

module _ {Key Id Name : Type 0} (r0 : State Key Id Name) (L K : Type 0) (lawful : L → K) where
  abbrev al : StructurallyRelateAliases
  al = r0.kept.settings.structurally_relate_aliases

  -- A variable was bound to what a term comes to.
  module _ (k : VarKind) (counted : IsTypeOrConst k) (c d : Context Key Id Name) (grown : Extends c.meaning d.meaning)
      (before : IsSound c.store) (numbers : NumbersNameNothing c.store) (all : BindingsAreWellBound d.store) (target : ℕ) (t u : Tree)
      (by_lists : IsWellBound t) (t_in : IsTermIn c.store t) (t_known : IsTrue (known t)) (stands : MayStandFor k t)
      (x : Variance) (seen : r0.ambient ≡ Invariant → x ≡ Invariant) (u_known : IsTrue (known u))
      (f : InstantiatesBy al (items_of c.meaning) c.store d.store x k target t u) where
    abbrev v : Variance
    v = r0.ambient

    abbrev was : Store
    was = c.store

    abbrev now : Store
    now = d.store

    abbrev root : Tree
    root = leaf (variable k target)

    steps : Instantiates was now x k target t u
    steps = generalised_instantiates al (items_of c.meaning) was now x k target t u counted f numbers before t_in stands

    goes : (N : ℕ) → weight was t ≤ N → Goes N was now
    goes N small =
        goes_within small (generalised_goes al (items_of c.meaning) was now x k target t u counted f numbers before t_in stands)

    could : InstantiatesNone was → ⊥
    could = instantiates_one was k target counted steps.made steps.was_unbound
        (λ e. let o = steps.one_spent in omega (arith, e, o))

    -- The pair that is left is no larger than the square of a pair that is larger than the term.
    squares : (N : ℕ) → weight was t + 1 ≤ N → weight now u + weight now t ≤ squared 1 N
    squares N h =
        let w = generalised_weights al (items_of c.meaning) was now x k target t u counted f numbers before t_in stands in
        let i = no_larger (weight now u) (weight now t) (weight was t) w.0 w.1 in
        let j = grown-mono 1 (suc (weight was t)) N (omega (arith, h)) in omega (arith, i, j)

    first_order : IsFirstOrder t → IsFirstOrderStore was → IsFirstOrder u × IsFirstOrderStore now
    first_order = generalised_first_order al (items_of c.meaning) was now x k target t u counted f numbers before t_in stands

    u_in : IsTermIn now u
    u_in = steps.term_in

    u_by_lists : IsWellBound u
    u_by_lists = all k target u steps.now_bound

    later : (z : Tree) → IsTermIn was z → IsTermIn now z
    later z h = later_term was now (steps.later).grows (steps.later).universe_stands z h

    root_in : IsTermIn now root
    root_in = later root (term_of_made was k target steps.made)

    root_reads : IsReadAs now root u
    root_reads = by_binding k target refl steps.now_bound (itself refl)

    root_weight : weight was root ≡ 1
    root_weight = resolved_weight was k target (ap (entry_term k) steps.was_unbound)

    root_value : (w : Interpretation) (s : Assign) → Satisfies w now s → apply s root ≡ apply s u
    root_value w s sat = sat.bindings k target u (ap (entry_term k) steps.now_bound)

    abbrev r : State Key Id Name
    r = standing r0 c.meaning was L

    abbrev q : State Key Id Name
    q = standing r0 d.meaning now K

    asked_now : (w : Variance) (a b : Tree) → IsTrue (known a) → IsTrue (known b) → IsTermIn now a → IsTermIn now b →
        IsWellBound a → IsWellBound b → Asked solver_manner q w a b
    asked_now w a b k l h i c d = record {
      left_known = k;
      right_known = l;
      left_in = h;
      right_in = i;
      left_taken = all_taken w a c;
      right_taken = all_taken w b d;
    }

    left_above : weight was t + 1 ≤ weight was root + weight was t
    left_above = let h = root_weight in omega (arith, h)

    right_above : weight was t + 1 ≤ weight was t + weight was root
    right_above = let h = root_weight in omega (arith, h)

    both : StepsTo (items_of c.meaning) r0.kept.environment was now r0.goals [] (at v) root t (at v) u t ×
        StepsTo (items_of c.meaning) r0.kept.environment was now r0.goals [] (at v) t root (at v) t u
    both = instantiating_steps (items_of c.meaning) r0.kept.environment v x was now r0.goals k target t u
        (term_context was t t_in) steps

    left_leads : (w : Variance) → Lifts Key Id Name now w v u t → Leads r q [] root t w u t
    left_leads w l = record {
      steps = record {
        later = (both.0).later;
        goals_in = (both.0).goals_in;
        relates = λ i s sat all o. (both.0).relates i s sat all
            (l.relates (items_of c.meaning) i r0.kept.environment s sat o);
        keeps = (both.0).keeps;
      };
      errors = λ i j c st f h g o. of_entries (read_later now st h root u root_reads) (itself refl) (l.errors i j c st f g o);
      agrees = λ st began. (
        λ z. root_agreed st was began.sound began.later r0.kept.settings (items_of c.meaning) v k target root t
            steps.was_unbound refl stands,
        begins_by r q grown steps.later refl refl st began,
      );
    }

    right_leads : (w : Variance) → Lifts Key Id Name now w v t u → Leads r q [] t root w t u
    right_leads w l = record {
      steps = record {
        later = (both.1).later;
        goals_in = (both.1).goals_in;
        relates = λ i s sat all o. (both.1).relates i s sat all
            (l.relates (items_of c.meaning) i r0.kept.environment s sat o);
        keeps = (both.1).keeps;
      };
      errors = λ i j c st f h g o. of_entries (itself refl) (read_later now st h root u root_reads) (l.errors i j c st f g o);
      agrees = λ st began. (
        λ z. root_agreed_back st was began.sound began.later r0.kept.settings (items_of c.meaning) v k target t root
            steps.was_unbound refl stands,
        begins_by r q grown steps.later refl refl st began,
      );
    }

    exactly : IsFirstOrder t → IsFirstOrderStore was → ExactStep was now root t u t × ExactStep was now t root t u
    exactly h simple = instantiating_is_exact_step x was now k target t u (λ j i z e. (before.bindings j i z e).made)
        (term_context was t t_in)
        (first_order_lacks (apply (resolved was) t) (resolved_first_order was before simple t h)) steps

    pair_left : IsFirstOrderStore was → IsFirstOrder t → IsFirstOrderPair now u t
    pair_left f h = let stays = first_order h f in record { left = stays.0; right = h; bindings = stays.1 }

    -- At invariance both stay in their universe.
    in_one : v ≡ Invariant → IsFirstOrder t → IsFirstOrderStore was → (w : ℕ) → HasOneUniverse w was →
        Leaves (NamesTypesTo w) t → StaysOf w was now × Leaves (NamesTypesTo w) u
    in_one same h simple =
        instantiates_in_one al (items_of c.meaning) was now x k target t u counted f numbers before t_in stands (seen same) h simple

    left_universe : v ≡ Invariant → IsFirstOrder t → IsFirstOrderStore was → LeadsInUniverse was now root t u t
    left_universe same h simple w p = let z = in_one same h simple w p.variables p.right in
        (record { variables = z.0.0; left = z.1; right = p.right }, z.0.1)

    right_universe : v ≡ Invariant → IsFirstOrder t → IsFirstOrderStore was → LeadsInUniverse was now t root t u
    right_universe same h simple w p = let z = in_one same h simple w p.variables p.left in
        (record { variables = z.0.0; left = p.left; right = z.1 }, z.0.1)

    -- A pair of a variance that relates another.
    abbrev Answers : Variance → Tree → Tree → Tree → Tree → Type 0
    Answers w x y a an =
        CarriesOver (items_of d.meaning) r0.kept.environment now r0.goals (at w) x y (at v) a an

    left_again : (b w : Variance) (an : Tree) → xform v b ≡ w → Lifts Key Id Name now w v u t → IsTrue (known an) →
        AsksNoneAlone r0.kept.settings v root t → Answers w u t root an →
        LeadsAgain solver_manner r q [] root t root t b u t an
    left_again b w an seen l sure none answers = record {
      leads = subst (λ z. Leads r q [] root t z u t) (sym seen) (left_leads w l);
      read_leads = subst (λ z. Leads r q [] root t z u t) (sym seen) (left_leads w l);
      read_exactly = λ o same pair. (pair_left pair.bindings pair.right, (exactly pair.right pair.bindings).0);
      asks_none = none;
      read_asked = asked_now v root t refl t_known root_in (later t t_in) tt by_lists;
      asked = asked_now (xform v b) u t u_known t_known u_in (later t t_in) u_by_lists by_lists;
      answers = subst (λ z. Answers z u t root an) (sym seen) answers;
      answer_known = sure;
      falls = steps.one_spent;
      may_instantiate = could;
      built = λ j ha hb all. (term_built steps j (ha (no_region k counted)) all hb, hb);
      read_built = λ j ha hb all. (ha, hb);
      not_larger = squares (weight was root + weight was t) left_above;
    }

    right_again : (b w : Variance) (an : Tree) → xform v b ≡ w → Lifts Key Id Name now w v t u → IsTrue (known an) →
        AsksNoneAlone r0.kept.settings v t root → Answers w t u t an →
        LeadsAgain solver_manner r q [] t root t root b t u an
    right_again b w an seen l sure none answers = record {
      leads = subst (λ z. Leads r q [] t root z t u) (sym seen) (right_leads w l);
      read_leads = subst (λ z. Leads r q [] t root z t u) (sym seen) (right_leads w l);
      read_exactly = λ o same pair. let f = pair_left pair.bindings pair.left in
          (record { left = f.right; right = f.left; bindings = f.bindings }, (exactly pair.left pair.bindings).1);
      asks_none = none;
      read_asked = asked_now v t root t_known refl (later t t_in) root_in by_lists tt;
      asked = asked_now (xform v b) t u t_known u_known (later t t_in) u_in by_lists u_by_lists;
      answers = subst (λ z. Answers z t u t an) (sym seen) answers;
      answer_known = sure;
      falls = steps.one_spent;
      may_instantiate = could;
      built = λ j ha hb all. (ha, term_built steps j (hb (no_region k counted)) all ha);
      read_built = λ j ha hb all. (ha, hb);
      not_larger = let i = squares (weight was t + weight was root) right_above in omega (arith, i);
    }

    module _ {X : Type 0} (F : Tree → Type 0) (y z i l a : X) (tree : X → Tree) where
      sure : (tree a ≡ root) ⊎ (tree a ≡ t) → IsTrue (known (tree a))
      sure (inl h) = subst (λ x. IsTrue (known x)) (sym h) refl
      sure (inr h) = subst (λ x. IsTrue (known x)) (sym h) t_known

      to_root : (w : Variance) → Lifts Key Id Name now w v u t → (tree a ≡ root) ⊎ (tree a ≡ t) →
          Answers w u t root (tree a)
      to_root w o (inl h) i s sat holds f = same_rel (ap (apply s) (sym h))
      to_root w o (inr h) i s sat holds f = subst₂ (Rel (items_of d.meaning) i r0.kept.environment (at v))
          (sym (root_value i s sat)) (ap (apply s) (sym h))
          (o.relates (items_of d.meaning) i r0.kept.environment s sat f)

      to_term : (w : Variance) → Lifts Key Id Name now w v t u → (tree a ≡ root) ⊎ (tree a ≡ t) →
          Answers w t u t (tree a)
      to_term w o (inl h) i s sat holds f = subst (Rel (items_of d.meaning) i r0.kept.environment (at v)
          (apply s t)) (sym (root_value i s sat) ∙ ap (apply s) (sym h))
          (o.relates (items_of d.meaning) i r0.kept.environment s sat f)
      to_term w o (inr h) i s sat holds f = same_rel (ap (apply s) (sym h))

      left_by : (b w : Variance) → xform v b ≡ w → Lifts Key Id Name now w v u t → (k ≡ type_var → IsNoTyVar t) →
          tree y ≡ root → tree z ≡ t →
          tree i ≡ u → tree l ≡ t → (tree a ≡ root) ⊎ (tree a ≡ t) →
          Stepped solver_manner F r q root t tree (Ok (Again y z i l b a))
      unfolding over_passes
      left_by b w seen o other ey ez ei el ea = record {
        passes = over_passes r0 grown
            (goes (weight was root + weight was t) (let h = left_above in omega (arith, h))) lawful;
        verdict = subst₂ (λ f g. LeadsAgain solver_manner r q [] root t f g b (tree i) (tree l) (tree a)) (sym ey)
            (sym ez) (subst₂ (λ f g. LeadsAgain solver_manner r q [] root t root t b f g (tree a)) (sym ei) (sym el)
            (left_again b w (tree a) seen o (sure ea) (root_asks_none k counted r0.kept.settings v target t other).0
            (to_root w o ea)));
        exact = λ o same pair. subst₂ (λ f g. IsFirstOrderPair now f g × ExactStep was now root t f g ×
            LeadsInUniverse was now root t f g) (sym ei) (sym el) (
              pair_left pair.bindings pair.right,
              (exactly pair.right pair.bindings).0,
              left_universe same pair.right pair.bindings,
            );
        full = λ ha hb. full_could could;
        built = λ j ha hb all. builds_instantiated steps j (ha (no_region k counted)) all hb;
      }

      right_by : (b w : Variance) → xform v b ≡ w → Lifts Key Id Name now w v t u → (k ≡ type_var → IsNoTyVar t) →
          tree y ≡ t → tree z ≡ root →
          tree i ≡ t → tree l ≡ u → (tree a ≡ root) ⊎ (tree a ≡ t) →
          Stepped solver_manner F r q t root tree (Ok (Again y z i l b a))
      unfolding over_passes
      right_by b w seen o other ey ez ei el ea = record {
        passes = over_passes r0 grown
            (goes (weight was t + weight was root) (let h = right_above in omega (arith, h))) lawful;
        verdict = subst₂ (λ f g. LeadsAgain solver_manner r q [] t root f g b (tree i) (tree l) (tree a)) (sym ey)
            (sym ez) (subst₂ (λ f g. LeadsAgain solver_manner r q [] t root t root b f g (tree a)) (sym ei) (sym el)
            (right_again b w (tree a) seen o (sure ea) (root_asks_none k counted r0.kept.settings v target t other).1
            (to_term w o ea)));
        exact = λ o same pair. subst₂ (λ f g. IsFirstOrderPair now f g × ExactStep was now t root f g ×
            LeadsInUniverse was now t root f g) (sym ei) (sym el) (
              back (pair_left pair.bindings pair.left),
              (exactly pair.left pair.bindings).1,
              right_universe same pair.left pair.bindings,
            );
        full = λ ha hb. full_could could;
        built = λ j ha hb all. builds_instantiated steps j (hb (no_region k counted)) all ha;
      }
        where
          back : IsFirstOrderPair now u t → IsFirstOrderPair now t u
          back f = record { left = f.right; right = f.left; bindings = f.bindings }

      -- The variable stood on the left, or on the right, and the pair is related again as it was.
      pub left_step : (k ≡ type_var → IsNoTyVar t) → tree y ≡ root → tree z ≡ t → tree i ≡ u → tree l ≡ t →
          (tree a ≡ root) ⊎ (tree a ≡ t) → Stepped solver_manner F r q root t tree (Ok (Again y z i l Covariant a))
      left_step = left_by Covariant v (covariantly v) (lifts_itself now v u t)

      pub right_step : (k ≡ type_var → IsNoTyVar t) → tree y ≡ t → tree z ≡ root → tree i ≡ t → tree l ≡ u →
          (tree a ≡ root) ⊎ (tree a ≡ t) → Stepped solver_manner F r q t root tree (Ok (Again y z i l Covariant a))
      right_step = right_by Covariant v (covariantly v) (lifts_itself now v t u)

      -- The same of a variable of constants, and at invariance.
      module _ (is : k ≡ const_var) (decides : v ≢ Bivariant) where
        u_value : (i : Interpretation) (s : Assign) → Satisfies i now s → IsTerm const_sort (apply s u)
        u_value i s sat = subst (IsTerm const_sort) (root_value i s sat) (subst (λ o. MayStandFor o (s k target)) is
            (sat.assigns k target ((steps.later).grows k target steps.made)).0)

        u_sorted : IsTerm const_sort u
        u_sorted = subst (λ o. MayStandFor o u) is
            ((steps.stays_sound before).bindings k target u (ap (entry_term k) steps.now_bound)).stands

        t_sorted : IsTerm const_sort t
        t_sorted = subst (λ o. MayStandFor o t) is stands

        no_types : k ≡ type_var → IsNoTyVar t
        no_types e = let z : const_var ≡ type_var = sym is ∙ e in absurd cc

        pub const_left_step : tree y ≡ root → tree z ≡ t → tree i ≡ u → tree l ≡ t → (tree a ≡ root) ⊎ (tree a ≡ t) →
            Stepped solver_manner F r q root t tree (Ok (Again y z i l Invariant a))
        const_left_step = left_by Invariant Invariant (fixed v decides) (const_lifts now v decides u t u_sorted u_value)
            no_types

        pub const_right_step : tree y ≡ t → tree z ≡ root → tree i ≡ t → tree l ≡ u → (tree a ≡ root) ⊎ (tree a ≡ t) →
            Stepped solver_manner F r q t root tree (Ok (Again y z i l Invariant a))
        const_right_step =
            right_by Invariant Invariant (fixed v decides) (const_lifts_back now v decides t u t_sorted u_value) no_types

  -- A type variable was bound to another one in the place of an alias.
  module _ (c d : Context Key Id Name) (grown : Extends c.meaning d.meaning) (before : IsSound c.store)
      (numbers : NumbersNameNothing c.store) (all : BindingsAreWellBound d.store) (target m : ℕ) (t u : Tree)
      (by_lists : IsWellBound t) (t_in : IsTermIn c.store t) (t_known : IsTrue (known t)) (stands : IsTerm type_sort t)
      (x : Variance) (seen : r0.ambient ≡ Invariant → x ≡ Invariant) (u_known : IsTrue (known u))
      (f : InstantiatesBy al (items_of c.meaning) c.store d.store x type_var target t u)
      (is : u ≡ leaf (variable type_var m)) (no_sides : al ≡ No) (left : IsAlias t) (p : State Key Id Name) (pred : Tree) where
    abbrev ra : State Key Id Name
    ra = standing r0 c.meaning c.store L

    abbrev qa : State Key Id Name
    qa = standing r0 d.meaning d.store K

    abbrev lone : Tree
    lone = leaf (variable type_var target)

    abbrev the_goal : Goal
    the_goal = goal_of r0.kept.environment pred

    is_bound : Instantiates c.store d.store x type_var target t u
    is_bound = steps type_var tt c d grown before numbers all target t u by_lists t_in t_known stands x seen u_known f

    bound_to_it : Instantiates c.store d.store x type_var target t (leaf (variable type_var m))
    bound_to_it = subst (Instantiates c.store d.store x type_var target t) is is_bound

    spends : (N : ℕ) → weight c.store t ≤ N → Goes N c.store d.store
    spends N small =
        goes type_var tt c d grown before numbers all target t u by_lists t_in t_known stands x seen u_known f N small

    instantiates : InstantiatesNone c.store → ⊥
    instantiates = could type_var tt c d grown before numbers all target t u by_lists t_in t_known stands x seen u_known f

    first_weight : weight c.store t ≤ weight c.store lone + weight c.store t
    first_weight = omega arith

    second_weight : weight c.store t ≤ weight c.store t + weight c.store lone
    second_weight = omega arith

    now_in : InContext d.store t
    now_in = later_context c.store d.store (is_bound.later).grows t (term_context c.store t t_in)

    u_context : InContext d.store u
    u_context = term_context d.store u is_bound.term_in

    not_first : IsFirstOrder t → ⊥
    not_first = alias_not_first t left

    built_then : (k : Alphabet) → IsTrue k.variables → IsBuiltOf k t → BindsBuiltOf k c.store → IsPredicateOf k pred →
        p.store ≡ d.store → Builds k c.store p.store (the_goal ∷ [])
    built_then k may h binds asks same = builds_noting k [] (the_goal ∷ []) same (builds_instantiated is_bound k may binds h)
        (All-cons (IsGoalOf k) the_goal [] asks (All-nil (IsGoalOf k)))

    module _ {A E : Type 0} {z : A} (h : RegistersGoal {F = E} qa p pred (Ok z)) {X : Type 0} (F : Tree → Type 0) (tree : X → Tree) (a : X) where
      -- What is asked of that one and the alias was registered.
      pub left_asks : alias_at r0.ambient u t ≡ Some pred → tree a ≡ lone →
          Stepped solver_manner F ra p lone t tree (Ok (Done a))
      unfolding over_passes passes_then goal_passes
      left_asks e answer = record {
        passes = passes_then (over_passes r0 grown (spends (weight c.store lone + weight c.store t) first_weight) lawful)
            (goal_passes pred h (alias_registered (items_of d.meaning) r0.kept.settings r0.ambient d.store d.store u t pred no_sides e
            (inr left) u_context now_in) 0) (omega arith);
        verdict = record {
          outcome = subst (λ st. Outcome (items_of c.meaning) r0.kept.environment (at r0.ambient) c.store st r0.goals (the_goal ∷ [])
              lone t) (sym h.store) (bound_left (items_of c.meaning) r0.kept.environment x r0.ambient c.store d.store r0.goals
              target m t (term_context c.store t t_in) stands bound_to_it pred
              (subst (λ z. alias_at r0.ambient z t ≡ Some pred) is e));
          answer = subst (MayAnswer solver_manner p r0.ambient lone) (sym answer) (may_itself solver_manner p r0.ambient lone);
          known = subst (λ z. IsTrue (known z)) (sym answer) refl;
          agrees = λ o st began. (
            root_agreed st c.store began.sound began.later r0.kept.settings (items_of c.meaning) r0.ambient type_var target
                lone t is_bound.was_unbound refl stands,
            begins_asking pred h st (begins_by ra qa grown is_bound.later refl refl st began),
          );
        };
        exact = λ o same pair. absurd (not_first pair.right);
        full = λ ha hb. full_could instantiates;
        built = λ k ha hb binds. let may = ha (no_region type_var tt) in built_then k may hb binds
            (alias_built k r0.ambient u t pred e (subst (IsBuiltOf k) (sym is) (λ o. may)) hb) h.store;
      }

      pub right_asks : alias_at r0.ambient t u ≡ Some pred → tree a ≡ t →
          Stepped solver_manner F ra p t lone tree (Ok (Done a))
      unfolding over_passes passes_then goal_passes
      right_asks e answer = record {
        passes = passes_then (over_passes r0 grown (spends (weight c.store t + weight c.store lone) second_weight) lawful)
            (goal_passes pred h (alias_registered (items_of d.meaning) r0.kept.settings r0.ambient d.store d.store t u pred no_sides e
            (inl left) now_in u_context) 0) (omega arith);
        verdict = record {
          outcome = subst (λ st. Outcome (items_of c.meaning) r0.kept.environment (at r0.ambient) c.store st r0.goals (the_goal ∷ [])
              t lone) (sym h.store) (bound_right (items_of c.meaning) r0.kept.environment x r0.ambient c.store d.store r0.goals
              target m t (term_context c.store t t_in) stands bound_to_it pred
              (subst (λ z. alias_at r0.ambient t z ≡ Some pred) is e));
          answer = subst (MayAnswer solver_manner p r0.ambient t) (sym answer) (may_itself solver_manner p r0.ambient t);
          known = subst (λ z. IsTrue (known z)) (sym answer) t_known;
          agrees = λ o st began. (
            root_agreed_back st c.store began.sound began.later r0.kept.settings (items_of c.meaning) r0.ambient type_var
                target t lone is_bound.was_unbound refl stands,
            begins_asking pred h st (begins_by ra qa grown is_bound.later refl refl st began),
          );
        };
        exact = λ o same pair. absurd (not_first pair.left);
        full = λ ha hb. full_could instantiates;
        built = λ k ha hb binds. let may = hb (no_region type_var tt) in built_then k may ha binds
            (alias_built k r0.ambient t u pred e ha (subst (IsBuiltOf k) (sym is) (λ o. may))) h.store;
      }

    -- Or it was not, since a growth was refused.
    module _ {A E : Type 0} {e : E} (h : RegistersGoal {A = A} qa p pred (Err e)) {X : Type 0} (F : Tree → Type 0) (tree : X → Tree) where
      unasked_built : (k : Alphabet) → IsTrue k.variables → IsBuiltOf k t → BindsBuiltOf k c.store →
          Builds k c.store p.store []
      unasked_built k may i binds =
          subst (λ st. Builds k c.store st []) (sym h.store) (builds_instantiated is_bound k may binds i)

      pub left_unasked : Stepped solver_manner F ra p lone t tree (Err Memory)
      unfolding over_passes passes_then no_goal_passes
      left_unasked = record {
        passes = passes_then (over_passes r0 grown (spends (weight c.store lone + weight c.store t) first_weight) lawful)
            (no_goal_passes pred h 0) (omega arith);
        verdict = subst (λ st. KeepsOne (at r0.ambient) c.store st lone t) (sym h.store)
            (λ w s sat one. is_bound.keeps w s sat one);
        exact = λ o same pair. absurd (not_first pair.right);
        full = λ ha hb. full_could instantiates;
        built = λ k ha hb binds. unasked_built k (ha (no_region type_var tt)) hb binds;
      }

      pub right_unasked : Stepped solver_manner F ra p t lone tree (Err Memory)
      unfolding over_passes passes_then no_goal_passes
      right_unasked = record {
        passes = passes_then (over_passes r0 grown (spends (weight c.store t + weight c.store lone) second_weight) lawful)
            (no_goal_passes pred h 0) (omega arith);
        verdict = subst (λ st. KeepsOne (at r0.ambient) c.store st t lone) (sym h.store)
            (λ w s sat one. is_bound.keeps w s sat (sym one));
        exact = λ o same pair. absurd (not_first pair.left);
        full = λ ha hb. full_could instantiates;
        built = λ k ha hb binds. unasked_built k (hb (no_region type_var tt)) ha binds;
      }

  -- Nothing was bound.
  module _ {X : Type 0} (F : Tree → Type 0) (c d : Context Key Id Name) (grown : Extends c.meaning d.meaning)
      (decides : r0.ambient ≢ Bivariant) (before : IsSound c.store) (k : VarKind) (counted : IsTypeOrConst k) (target : ℕ) (t : Tree)
      (unresolved : IsMade c.store k target × (entry_of c.store k target ≡ unbound))
      (other : apply (resolved c.store) t ≢ leaf (variable k target)) (means : Meaning Key Id Name → X → Tree)
      (cyclic : X → TypeError Key Id Name) (x : Variance) (tree : X → Tree)
      (cycles : (o : Obstacle) → RefusesByObstacle al c.store d.store k target t o → o ≡ cycle → (y : X) →
      means d.meaning y ≡ apply (resolved c.store) t →
      BindingError d.meaning al d.store (leaf (variable k target)) t (cyclic y)) where
    free : k ≢ region_var
    free = no_region k counted

    refusing : (N : ℕ) (f : RelateFault Key Id Name) → Instantiated c d al x k target t means cyclic (Err f) → Goes N c.store d.store
    refusing N (Unrelated g) h = goes_within (omega arith)
        (generalising_refuses al c.store d.store x k target t h.1.0 counted h.1.1 before other).1
    refusing N Budget h = subst (Goes N c.store) (sym h.1) (goes_nowhere N c.store)
    refusing N Memory h = goes_within (omega arith)
        (adds_goes (adds before (before.below_current k target) h.1))

    unfoldable passes : (N : ℕ) (f : RelateFault Key Id Name) → Instantiated c d al x k target t means cyclic (Err f) →
        Passes N (standing r0 c.meaning c.store L) (standing r0 d.meaning d.store K)
    passes N f h = over_passes r0 grown (refusing N f h) lawful

    full : (f : RelateFault Key Id Name) → Instantiated c d al x k target t means cyclic (Err f) → StaysFull c.store d.store
    full (Unrelated g) h = full_could (instantiates_one c.store k target counted unresolved.0 unresolved.1 (h.1.1).may_spend)
    full Budget h = full_same h.1
    full Memory h = full_could (instantiates_one c.store k target counted unresolved.0 unresolved.1 h.0)

    none_built : (a b : Tree) → ((j : Alphabet) → IsBuiltOf j a → IsBuiltOf j b → IsTrue j.variables) → (f : RelateFault Key Id Name) →
        Instantiated c d al x k target t means cyclic (Err f) → StaysBuilt c.store d.store [] a b
    none_built a b may (Unrelated g) h = built_unbound a b (h.1.1).makes may
    none_built a b may Budget h = built_same a b h.1
    none_built a b may Memory h = built_unbound a b h.1 may

    -- The error is that of the obstacle.
    binding_error : (g : TypeError Key Id Name) (o : Obstacle) → RefusesByObstacle al c.store d.store k target t o →
        ObstacleError (means d.meaning) cyclic (apply (resolved c.store) t) g o →
        BindingError d.meaning al d.store (leaf (variable k target)) t g
    binding_error g o f h = go o refl h
      where
        go : (p : Obstacle) → o ≡ p → ObstacleError (means d.meaning) cyclic (apply (resolved c.store) t) g p →
            BindingError d.meaning al d.store (leaf (variable k target)) t g
        go cycle i h = subst (BindingError d.meaning al d.store (leaf (variable k target)) t) (sym h.2) (cycles o f i h.0 h.1)
        go beyond i h = subst (BindingError d.meaning al d.store (leaf (variable k target)) t) (sym h)
            (beyond_error d.meaning al c.store d.store target t before k o f i)

    refuses : (g : TypeError Key Id Name) → Instantiated c d al x k target t means cyclic (Err (Unrelated g)) →
        RefusesToInstantiate c.store d.store Invariant k target t
    refuses g h = refused al c.store d.store Invariant k target t h.1.0 counted h.1.1 before other

    -- No further variable is bound.
    none_bound : MakesUnbound (universe_of c.store k target) c.store d.store → all_bound d.store ≡ all_bound c.store
    none_bound h = (adds before (before.below_current k target) h).none_bound

    -- Variables that were made on the way may have any value.
    new_ones : MakesUnbound (universe_of c.store k target) c.store d.store →
        Adds (universe_of c.store k target) c.store d.store
    new_ones h = adds before (before.below_current k target) h

    fewer : (a b : Tree) → d.store ≡ c.store → BindsFewer c.store d.store a b
    fewer a b h w p = subst (λ st. all_bound st < all_roots c.store) (sym h)
        (bound_fewer c.store k target counted unresolved.0 unresolved.1)

    pub left_refused : (f : RelateFault Key Id Name) → Instantiated c d al x k target t means cyclic (Err f) →
        Stepped solver_manner F (standing r0 c.meaning c.store L) (standing r0 d.meaning d.store K)
        (leaf (variable k target)) t tree (Err f)
    unfolding passes over_passes
    left_refused (Unrelated g) h = record {
      passes = passes _ (Unrelated g) h;
      verdict = ((refuses g h).apart, of_binding decides (binding_error g h.1.0 h.1.1 h.1.2), h.0);
      exact = λ o is pair. (
        (refuses g h).apart_erased refl pair.right pair.bindings,
        binds_none c.store d.store (leaf (variable k target)) t (none_bound (h.1.1).makes),
      );
      full = λ ha hb. full (Unrelated g) h;
      built = none_built (leaf (variable k target)) t (λ j ha hb. ha free) (Unrelated g) h;
    }
    left_refused Budget h = record {
      passes = passes _ Budget h;
      verdict = (
        ap (λ st. st.budget) h.1 ∙ h.0,
        λ j ha hb all. ha free,
        one_same (at r0.ambient) (leaf (variable k target)) t h.1,
      );
      exact = λ o is pair. (fewer (leaf (variable k target)) t h.1, unified_same (leaf (variable k target)) t h.1);
      full = λ ha hb. full Budget h;
      built = none_built (leaf (variable k target)) t (λ j ha hb. ha free) Budget h;
    }
    left_refused Memory h = record {
      passes = passes _ Memory h;
      verdict = one_of_all (at r0.ambient) c.store d.store (leaf (variable k target)) t
          (adding_keeps (universe_of c.store k target) c.store d.store before (new_ones h.1));
      exact = λ o is pair. (
        binds_none c.store d.store (leaf (variable k target)) t (none_bound h.1),
        λ s sol one. adding_keeps_erased (universe_of c.store k target) c.store d.store before (new_ones h.1) s sol,
      );
      full = λ ha hb. full Memory h;
      built = none_built (leaf (variable k target)) t (λ j ha hb. ha free) Memory h;
    }

    pub right_refused : (f : RelateFault Key Id Name) → Instantiated c d al x k target t means cyclic (Err f) →
        Stepped solver_manner F (standing r0 c.meaning c.store L) (standing r0 d.meaning d.store K)
        t (leaf (variable k target)) tree (Err f)
    unfolding passes over_passes
    right_refused (Unrelated g) h = record {
      passes = passes _ (Unrelated g) h;
      verdict = (
        λ w s sat one. (refuses g h).apart w s sat (sym one),
        of_binding_back decides (binding_error g h.1.0 h.1.1 h.1.2),
        h.0,
      );
      exact = λ o is pair. (
        λ s sol one. (refuses g h).apart_erased refl pair.left pair.bindings s sol (sym one),
        binds_none c.store d.store t (leaf (variable k target)) (none_bound (h.1.1).makes),
      );
      full = λ ha hb. full (Unrelated g) h;
      built = none_built t (leaf (variable k target)) (λ j ha hb. hb free) (Unrelated g) h;
    }
    right_refused Budget h = record {
      passes = passes _ Budget h;
      verdict = (
        ap (λ st. st.budget) h.1 ∙ h.0,
        λ j ha hb all. hb free,
        one_same (at r0.ambient) t (leaf (variable k target)) h.1,
      );
      exact = λ o is pair. (fewer t (leaf (variable k target)) h.1, unified_same t (leaf (variable k target)) h.1);
      full = λ ha hb. full Budget h;
      built = none_built t (leaf (variable k target)) (λ j ha hb. hb free) Budget h;
    }
    right_refused Memory h = record {
      passes = passes _ Memory h;
      verdict = one_of_all (at r0.ambient) c.store d.store t (leaf (variable k target))
          (adding_keeps (universe_of c.store k target) c.store d.store before (new_ones h.1));
      exact = λ o is pair. (
        binds_none c.store d.store t (leaf (variable k target)) (none_bound h.1),
        λ s sol one. adding_keeps_erased (universe_of c.store k target) c.store d.store before (new_ones h.1) s sol,
      );
      full = λ ha hb. full Memory h;
      built = none_built t (leaf (variable k target)) (λ j ha hb. hb free) Memory h;
    }
