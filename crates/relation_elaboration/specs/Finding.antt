-- What is found among clauses that come one by one: those of traits, as trait references.
use Rattle.std.specs.Prelude.{◌≡◌, ℕ, true, false, IsTrue, List, [], ◌∷◌, map, Option, Some, None, Result, Ok, Err}
use Rattle.std.specs.List.{filter_map}
use Rattle.term_enums.specs.declared.PredicatePolarity.TheVariants.{Positive}
use Rattle.relation_terms.specs.Trees.{Tree, known}
use Rattle.relation_terms.specs.Meaning.{Meaning}
use Rattle.relation_terms.specs.Owned.{bound_tree}
use Rattle.relation_terms.specs.Conversions.{trait_clause_tree}
use Rattle.relation_terms.specs.declared.predicate.trait_ref.TraitRef.{TraitRef}
use Rattle.relation_terms.specs.declared.terms.binder.Binder.{Binder}
use Rattle.relation_terms.specs.declared.terms.keys.ClauseKey.{ClauseKey}
use Rattle.elaboration_worklist.specs.declared.faults.ElabFault.{ElabFault}
use Rattle.relation_statements.specs.Children.{Statements, mode_of}
use Rattle.relation_statements.specs.Statements.{statements}
use Rattle.relation_statements.specs.Runs.{Standing, Closes}
use Rattle.relation_elaboration.specs.Pulling.{Elaboration, Pulls, standing, named}
use Rattle.relation_statements.specs.TraitClauses.{reference_of}

-- By the interner that a source has, and by what its calls may give.
module _ {Key Id Name I S : Type 0} (meaning : I → Meaning Key Id Name) (interner : S → I)
    (steps : S → Option (Result (ClauseKey Key) ElabFault) → S → Type 0) where
  -- From one source to another by these clauses, which are of no trait.
  abbrev pub PassesOver : S → List (ClauseKey Key) → S → Type 0
  PassesOver s [] t = t ≡ s
  PassesOver s (c ∷ cs) t = (u : S) × steps s (Some (Ok c)) u ×
      (reference_of ((meaning (interner u)).clause c) ≡ None) × PassesOver u cs t

  -- The interner knows each clause that comes.
  abbrev pub KnowsWhatComes : Type 0
  KnowsWhatComes = (s t : S) (c : ClauseKey Key) → steps s (Some (Ok c)) t →
      IsTrue (known ((meaning (interner t)).clause c))

  -- A clause of a trait, as its trait reference; or the end, or a fault.
  abbrev pub Stops : S → Option (Result (Binder Key (TraitRef Key Id)) ElabFault) → S → Type 0
  Stops s None t = steps s None t
  Stops s (Some (Err f)) t = steps s (Some (Err f)) t
  Stops s (Some (Ok b)) t = (c : ClauseKey Key) × steps s (Some (Ok c)) t ×
      (reference_of ((meaning (interner t)).clause c) ≡ Some (bound_tree (meaning (interner t)) b)) ×
      IsTrue (known (bound_tree (meaning (interner t)) b))

  -- What comes behind all clauses that are of no trait.
  abbrev pub Finds : S → Option (Result (Binder Key (TraitRef Key Id)) ElabFault) → S → Type 0
  Finds s r t = (cs : List (ClauseKey Key)) × (u : S) × PassesOver s cs u × Stops u r t

-- Of an elaboration that goes to super-predicates alone these trait references were found: they are, in order, those of
-- the trait clauses among all predicates that were pulled, and those are what follows.
pub record FindsClosed (name : ℕ) (s : Statements) (given found : List Tree) (v : Standing) : Type 0 where
  pub pulled : List Tree
  pub found_is : filter_map reference_of pulled ≡ found
  pub closes : Closes name s (mode_of true false) given pulled v

module _ {I Key Id Name : Type 0} (meaning : I → Meaning Key Id Name) where
  -- How an elaboration begins that goes to super-predicates alone.
  pub record BeginsInItself (limit : ℕ) (e : Elaboration I (ClauseKey Key) Key Name) : Type 0 where
    pub limit_is : e.limit ≡ limit
    pub mode : e.mode ≡ mode_of true false
    pub fault : e.fault ≡ None

  -- A call that finds the next trait clause of an elaboration.
  abbrev pub FindsNext : Elaboration I (ClauseKey Key) Key Name →
      Option (Result (Binder Key (TraitRef Key Id)) ElabFault) → Elaboration I (ClauseKey Key) Key Name → Type 0
  FindsNext s r t = Finds meaning (λ e. e.cx) (Pulls meaning (λ m c. m.clause c)) s r t

  -- From one elaboration to another by calls that find these, in order.
  abbrev pub FindsAll : Elaboration I (ClauseKey Key) Key Name → List (Binder Key (TraitRef Key Id)) →
      Elaboration I (ClauseKey Key) Key Name → Type 0
  FindsAll e [] f = f ≡ e
  FindsAll e (b ∷ bs) f = (g : Elaboration I (ClauseKey Key) Key Name) × FindsNext e (Some (Ok b)) g × FindsAll g bs f

  -- What was found, by the meaning at the end.
  abbrev pub FoundClosed : Meaning Key Id Name → Binder Key (TraitRef Key Id) → Elaboration I (ClauseKey Key) Key Name →
      List (Binder Key (TraitRef Key Id)) → Elaboration I (ClauseKey Key) Key Name → Type 0
  FoundClosed m b e bs f = FindsClosed (named meaning (λ m c. m.clause c) e) (statements m)
      (trait_clause_tree m Positive b ∷ []) (map (bound_tree (meaning f.cx)) bs)
      (standing meaning (λ m c. m.clause c) f)

  -- Whatever is found of an elaboration of a trait reference is so closed; and where no more is found, nothing is left.
  pub record TraitsByClosure (m : Meaning Key Id Name) (b : Binder Key (TraitRef Key Id))
      (e : Elaboration I (ClauseKey Key) Key Name) : Type 0 where
    pub found : (bs : List (Binder Key (TraitRef Key Id))) (f : Elaboration I (ClauseKey Key) Key Name) →
        FindsAll e bs f → FoundClosed m b e bs f
    pub ended : (bs : List (Binder Key (TraitRef Key Id))) (f g : Elaboration I (ClauseKey Key) Key Name) →
        FindsAll e bs f → FindsNext f None g → FoundClosed m b e bs g × (g.stack ≡ [])
