-- That two types are well formed was registered by a relation that registers goals.
use Rattle.std.proofs.Common.{◌≡◌, ◌⊎◌, ℕ, refl, sym, ap, ◌∙◌, subst, subst₂, true, List, [], ◌∷◌, ◌++◌, All, IsTrue, map, Result, Ok}
use Rattle.std.proofs.lemmas.Bool.{and_from}
use Rattle.std.proofs.lemmas.List.Elements.{All-nil, All-cons, All-head, All-tail}
use Rattle.relation_terms.specs.declared.terms.keys.PredicateKey.{PredicateKey}
use Rattle.relation_terms.specs.Trees.{Tree, known}
use Rattle.relation_terms.specs.Meaning.{Meaning, Extends}
use Rattle.relation_folds.specs.declared.error.RelateFault.{RelateFault}
use Rattle.relation_steps.specs.Arguments.{AreOverItem}
use Rattle.relation_steps.specs.Bivariance.{HasOpenArgument, RegistersWellFormed}
use Rattle.relation_goals.specs.Emitting.{AddsGoals, KnowsPredicate, goals_in, with_goals}
use Rattle.relation_semantics.specs.Goals.{Goal, ByDeclared, IsQuiet, goal_of, well_formed_predicate, HasBivariantPart, of_type}
use Rattle.relation_semantics.specs.Alphabets.{Alphabet, IsBuiltOf, BindsBuiltOf, IsGoalOf}
use Rattle.relation_semantics.specs.Lawful.{State, Noted, OnlyMemory, WithMeaning, RegisteredIn, RelatesByDeclared, items_in}
use Rattle.relation_semantics.specs.Stores.{InContext, IsSound, IsTermIn}
use Rattle.relation_combining.proofs.ClosedTerms.{plain_terms_never_need}
use Rattle.relation_combining.proofs.Bivariance.{bivariant_parts, open_in_alphabet}
use Rattle.relation_combining.proofs.Noting.{noted_with, noted_then, noted_added}
use Rattle.relation_semantics.proofs.Standing.{term_context}
use Rattle.relation_semantics.proofs.Answering.{same_environment, same_settings, items_stay}

-- Predicates of known trees are known.
pub listed_known : {Key Id Name : Type 0} (m : Meaning Key Id Name) (ps : List (PredicateKey Key)) →
    All (λ t. IsTrue (known t)) (map m.predicate ps) → All (KnowsPredicate m) ps
listed_known m [] h = All-nil (KnowsPredicate m)
listed_known m (p ∷ ps) h = All-cons (KnowsPredicate m) p ps
    (All-head (λ t. IsTrue (known t)) (m.predicate p) (map m.predicate ps) h)
    (listed_known m ps (All-tail (λ t. IsTrue (known t)) (m.predicate p) (map m.predicate ps) h))

-- That known types are well formed is known.
pub both_known : (a b : Tree) → IsTrue (known a) → IsTrue (known b) →
    All (λ t. IsTrue (known t)) (well_formed_predicate a ∷ well_formed_predicate b ∷ [])
both_known a b k l = All-cons (λ t. IsTrue (known t)) (well_formed_predicate a) (well_formed_predicate b ∷ [])
    (and_from (known a) true k refl) (All-cons (λ t. IsTrue (known t)) (well_formed_predicate b) []
    (and_from (known b) true l refl) (All-nil (λ t. IsTrue (known t))))

-- The goals of predicates, by the trees of these.
goals_over : {Key : Type 0} (e : Tree) (f : PredicateKey Key → Tree) (ps : List (PredicateKey Key)) →
    map (λ p. goal_of e (f p)) ps ≡ map (goal_of e) (map f ps)
goals_over e f [] = refl
goals_over e f (p ∷ ps) = ap (λ gs. goal_of e (f p) ∷ gs) (goals_over e f ps)

module _ {Key Id Name : Type 0} (r q p : State Key Id Name) (d : ℕ) (a b ts us : Tree) (e : Extends r.meaning q.meaning)
    (w : WithMeaning r q.meaning q) (f : Extends q.meaning p.meaning) (v : WithMeaning q p.meaning p)
    (over : AreOverItem d a b ts us) (declared : RelatesByDeclared r)
    (h : HasOpenArgument (items_in r) r.store d ts ⊎ HasOpenArgument (items_in r) r.store d us) (a_in : IsTermIn r.store a)
    (b_in : IsTermIn r.store b) (ps : List (PredicateKey Key))
    (made : map (p.meaning).predicate ps ≡ well_formed_predicate a ∷ well_formed_predicate b ∷ []) where
  abbrev both : Tree → List Goal
  both z = goal_of z (well_formed_predicate a) ∷ goal_of z (well_formed_predicate b) ∷ []

  listed : goals_in p ps ≡ both p.kept.environment
  listed = goals_over p.kept.environment (p.meaning).predicate ps ∙ ap (map (goal_of p.kept.environment)) made

  by_declared : RelatesByDeclared p
  by_declared = subst₂ (λ k u. ByDeclared k.declared_at_invariance u) (sym (same_settings (v.kept ∙ w.kept)))
      (sym (v.ambient ∙ w.ambient)) declared

  registered : (t : Tree) → IsTermIn r.store t → HasBivariantPart (items_in r) t →
      RegisteredIn p p.store (goal_of p.kept.environment (well_formed_predicate t))
  registered t i bivariant = record {
    environment = refl;
    asks = of_type t by_declared refl
        (subst (λ st. InContext st t) (sym (v.store ∙ w.store)) (term_context r.store t i))
        (subst (λ c. HasBivariantPart c t) (sym (items_stay f ∙ items_stay e)) bivariant);
  }

  asks : All (RegisteredIn p p.store) (both p.kept.environment)
  asks =
      let P = RegisteredIn p p.store in
      let parts = bivariant_parts (items_in r) r.store d a b ts us over h in
      All-cons P (goal_of p.kept.environment (well_formed_predicate a)) (goal_of p.kept.environment (well_formed_predicate b) ∷ [])
      (registered a a_in parts.0) (All-cons P (goal_of p.kept.environment (well_formed_predicate b)) []
      (registered b b_in parts.1) (All-nil P))

  quiet : All IsQuiet (both p.kept.environment)
  quiet = All-cons IsQuiet (goal_of p.kept.environment (well_formed_predicate a))
      (goal_of p.kept.environment (well_formed_predicate b) ∷ []) tt
      (All-cons IsQuiet (goal_of p.kept.environment (well_formed_predicate b)) [] tt (All-nil IsQuiet))

  both_built : (k : Alphabet) → IsBuiltOf k a → IsBuiltOf k b → BindsBuiltOf k r.store →
      All (IsGoalOf k) (both p.kept.environment)
  both_built k ha hb all =
      let has = open_in_alphabet k (items_in r) r.store d a b ts us over h all ha hb in
      All-cons (IsGoalOf k) (goal_of p.kept.environment (well_formed_predicate a))
      (goal_of p.kept.environment (well_formed_predicate b) ∷ []) (has, (ha, tt))
      (All-cons (IsGoalOf k) (goal_of p.kept.environment (well_formed_predicate b)) [] (has, (hb, tt))
      (All-nil (IsGoalOf k)))

  module _ {A F : Type 0} (u : State Key Id Name) (result : Result A F) (adds : AddsGoals p u (goals_in p ps) result) where
    -- Nothing is left open of two bare ones.
    pub noted_both : IsSound r.store → (x : Result (Unit {0}) (RelateFault Key Id Name)) → OnlyMemory x → Noted r u a b x
    noted_both sound x fault =
        noted_then (Ok (tt {0})) x (noted_with e w (Ok (tt {0})) tt)
        (noted_then (Ok (tt {0})) x (noted_with f v (Ok (tt {0})) tt)
        (noted_added (goals_in p ps) result adds
        (subst (All (RegisteredIn p p.store)) (sym listed) asks)
        (subst (All IsQuiet) (sym listed) quiet) (λ k ha hb all. subst (All (IsGoalOf k)) (sym listed)
        (both_built k ha hb (subst (BindsBuiltOf k) (v.store ∙ w.store) all)))
        (λ bare. absurd (plain_terms_never_need r.store sound a b bare.left_plain bare.right_plain
        (λ k ha hb all. open_in_alphabet k (items_in r) r.store d a b ts us over h all ha hb)))
        x fault))

    pub both_registered : (y : A) → result ≡ Ok y →
        RegistersWellFormed (items_in r) r.store r.kept.environment d a b ts us r.goals u.goals
    both_registered y is = record {
      both = λ o. adds.goals ∙ ap (with_goals p.goals (goals_in p ps)) is ∙ ap (λ gs. p.goals ++ gs) listed
          ∙ ap (λ gs. gs ++ both p.kept.environment) (v.goals ∙ w.goals)
          ∙ ap (λ z. r.goals ++ both z) (same_environment (v.kept ∙ w.kept));
      none = λ closed. absurd (closed h);
    }
