-- While an interner grows its items state what they did.
use Rattle.std.proofs.Common.{◌≡◌, refl, ap, ap₂, ◌∙◌, ℕ, IsTrue, List, [], ◌∷◌, map}
use Rattle.std.specs.List.{All, Contains}
use Rattle.std.proofs.lemmas.List.Elements.{All-head, All-tail, All-map, All-weaker, All-contains}
use Rattle.relation_terms.specs.Trees.{Tree, known}
use Rattle.relation_terms.specs.Meaning.{Meaning, Extends}
use Rattle.relation_terms.specs.Owned.{bound_tree, StatesItsOwn, IsStated, IsStatedBound, BindsWithin}
use Rattle.relation_terms.specs.Predicates.{trait_ref_tree}
use Rattle.relation_terms.proofs.Predicates.{stays_trait_ref}
use Rattle.relation_terms.proofs.Binders.{under_stays}
use Rattle.relation_terms.specs.declared.terms.binder.Binder.{Binder}
use Rattle.relation_terms.specs.declared.predicate.trait_ref.TraitRef.{TraitRef}
use Rattle.relation_statements.specs.Children.{Statements, children}
use Rattle.relation_statements.specs.Runs.{StatesWithin}
use Rattle.term_enums.specs.declared.SolverTraitLangItem.TheVariants.{Sized}
use Rattle.relation_statements.specs.Statements.{statements, ImpliedStays}
use Rattle.elaboration_worklist.proofs.Members.{map_alike}

-- What is stated alike of each trait.
same_statements : (s t : Statements) → ((d : ℕ) → s.supers d ≡ t.supers d) → ((d : ℕ) → s.implied d ≡ t.implied d) →
    ((d : ℕ) → s.bounds d ≡ t.bounds d) → ((d : ℕ) → s.is_sized d ≡ t.is_sized d) → s ≡ t
same_statements s t p q r b = λ i. record {
  supers = λ d. p d i;
  implied = λ d. q d i;
  bounds = λ d. r d i;
  is_sized = λ d. b d i;
}

module _ {Key Id Name : Type 0} {m n : Meaning Key Id Name} (e : Extends m n) where
  -- A const bound keeps its tree.
  pub stays_bound : (b : Binder Key (TraitRef Key Id)) → IsTrue (known (bound_tree m b)) →
      bound_tree n b ≡ bound_tree m b
  stays_bound b h = under_stays (m.bound_vars b.bound_vars) (n.bound_vars b.bound_vars)
      (trait_ref_tree m b.value) (trait_ref_tree n b.value) (e.bound_vars b.bound_vars) (stays_trait_ref e b.value) h

  pub states_stay : StatesItsOwn m → statements n ≡ statements m
  states_stay s = same_statements (statements n) (statements m)
      (λ d. ap (λ t. map n.clause (t.super_predicates d)) e.tables
      ∙ map_alike (IsStated m) m.clause n.clause (λ k h. e.clause k h.0) ((m.tables).super_predicates d) (s.supers d))
      (λ d. ap (λ t. map n.clause (t.implied_predicates d)) e.tables
      ∙ map_alike (IsStated m) m.clause n.clause (λ k h. e.clause k h.0) ((m.tables).implied_predicates d) (s.implied
      d))
      (λ d. ap (λ t. map (bound_tree n) (t.const_bounds d)) e.tables
      ∙ map_alike (IsStatedBound m) (bound_tree m) (bound_tree n) (λ b h. stays_bound b h.0)
      ((m.tables).const_bounds d) (s.bounds d))
      (λ d. ap (λ t. t.is_lang_item d Sized) e.tables)

pub implied_stays : {Key Id Name : Type 0} (m n : Meaning Key Id Name) → ImpliedStays m n
implied_stays m n e s mode t = ap (λ z. children z mode t) (states_stay e s)

-- What traits state binds at places of its lists.
module _ {Key Id Name : Type 0} (m : Meaning Key Id Name) (s : StatesItsOwn m) where
  within : {A : Type 0} (P : A → Type 0) (f : A → Tree) → ((x : A) → P x → BindsWithin (f x)) → (xs : List A) →
      All P xs → (c : Tree) → Contains (map f xs) c → BindsWithin c
  within P f h xs a c k = All-contains BindsWithin (map f xs) c
      (All-map BindsWithin f xs (All-weaker P (λ x. BindsWithin (f x)) h xs a)) k

  pub states_within : StatesWithin (statements m)
  states_within = record {
    supers = λ d. within (IsStated m) m.clause (λ x h. h.1.0) ((m.tables).super_predicates d) (s.supers d);
    implied = λ d. within (IsStated m) m.clause (λ x h. h.1.0) ((m.tables).implied_predicates d) (s.implied d);
    bounds = λ d. within (IsStatedBound m) (bound_tree m) (λ x h. h.1.0) ((m.tables).const_bounds d) (s.bounds d);
  }
