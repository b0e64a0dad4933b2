-- What is said of two values that were not related, as the fault is handed on; and what two spend.
use Rattle.std.proofs.Common.{◌≡◌, ◌+◌, ℕ, sym, subst, arith, Result, Ok, Err, IfOk, IfErr}
use Rattle.relation_terms.specs.Trees.{Tree}
use Rattle.relation_folds.specs.declared.error.RelateFault.{RelateFault}
use Rattle.relation_folds.specs.declared.error.RelateFault.TheVariants.{Memory, Budget, Unrelated}
use Rattle.relation_folds.specs.declared.error.TypeError.{TypeError}
use Rattle.relation_folds.specs.Faults.{KnowsError, KnowsFault, IfUnrelated}
use Rattle.relation_semantics.specs.Errors.{ErrorAs, Meeting}
use Rattle.relation_semantics.specs.Lawful.{State, RefusesAs, items_in}
use Rattle.relation_semantics.specs.Measures.{Goes}
use Rattle.relation_semantics.specs.Stores.{Store, all_bound}
use Rattle.relation_semantics.specs.Outcomes.{NeverOne}
use Rattle.relation_semantics.specs.Relation.{Way}

-- Of an error nothing is said that is said of an answer.
pub none_answered : {X F : Type 0} (P : X → Type 0) (result : Result X F) (f : F) → result ≡ Err f → IfOk result P
none_answered P result f is = subst (λ z. IfOk z P) (sym is) tt

module _ {Key Id Name : Type 0} (x : Meeting) (r q : State Key Id Name) (way : Way) (a b : Tree) where
  -- What a type error says of the two, of which a fault says what it has to.
  pub told : (f : RelateFault Key Id Name) → RefusesAs x r q way a b f → (e : TypeError Key Id Name) →
      f ≡ Unrelated e → RefusesAs x r q way a b (Unrelated e)
  told f h e is = subst (RefusesAs x r q way a b) is h

  -- So it does where it is handed on.
  pub unrelated : {X : Type 0} (P : TypeError Key Id Name → Type 0) (result : Result X (RelateFault Key Id Name))
      (f : RelateFault Key Id Name) → result ≡ Err f → RefusesAs x r q way a b f →
      ((e : TypeError Key Id Name) → RefusesAs x r q way a b (Unrelated e) → P e) → IfUnrelated result P
  unrelated {X} P result f is h says = subst (λ z. IfUnrelated z P) (sym is) (go f h)
    where
      go : (f : RelateFault Key Id Name) → RefusesAs x r q way a b f → IfUnrelated {A = X} (Err f) P
      go Memory h = tt
      go Budget h = tt
      go (Unrelated e) h = says e h

  -- The interner knows the fault.
  pub fault_known : {X : Type 0} (result : Result X (RelateFault Key Id Name)) (f : RelateFault Key Id Name) →
      result ≡ Err f → RefusesAs x r q way a b f → IfErr result (λ f. KnowsFault q.meaning f)
  fault_known result f is h = subst (λ z. IfErr z (λ f. KnowsFault q.meaning f)) (sym is) (go f h)
    where
      go : (f : RelateFault Key Id Name) → RefusesAs x r q way a b f → KnowsFault q.meaning f
      go Memory h = tt
      go Budget h = tt
      go (Unrelated e) h = h.2

-- What is spent is bound.
pub pays : {n : ℕ} {before after : Store} → Goes n before after →
    before.budget + all_bound before ≡ after.budget + all_bound after
pays g =
    let counts = g.counts in
    let binds = g.binds in
    omega (arith, counts, binds)
