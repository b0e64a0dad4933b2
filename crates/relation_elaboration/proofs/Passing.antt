-- What was passed over on the way to what is found.
use Rattle.std.proofs.Common.{◌≡◌, ◌≤◌, refl, sym, subst, arith, IsTrue, List, [], ◌∷◌, ◌++◌, Option, Some, None}
use Rattle.std.proofs.Common.{Result, Ok, Err}
use Rattle.std.specs.Iterator.{Count, IsFinite, size, MakesProgress}
use Rattle.relation_terms.specs.Trees.{known}
use Rattle.relation_terms.specs.Meaning.{Meaning}
use Rattle.relation_terms.specs.Owned.{bound_tree}
use Rattle.relation_terms.specs.declared.predicate.trait_ref.TraitRef.{TraitRef}
use Rattle.relation_terms.specs.declared.terms.binder.Binder.{Binder}
use Rattle.relation_terms.specs.declared.terms.keys.ClauseKey.{ClauseKey}
use Rattle.elaboration_worklist.specs.declared.faults.ElabFault.{ElabFault}
use Rattle.relation_statements.specs.TraitClauses.{reference_of}
use Rattle.relation_elaboration.specs.Finding.{PassesOver, Finds}

module _ {Key Id Name I S : Type 0} (meaning : I → Meaning Key Id Name) (interner : S → I)
    (steps : S → Option (Result (ClauseKey Key) ElabFault) → S → Type 0) (can : S → Type 0) (left : S → Count) where
  -- From one source to another clauses were passed over; it may be called on, and no more of it is left than was.
  pub record Passed (s t : S) : Type 0 where
    pub clauses : List (ClauseKey Key)
    pub over : PassesOver meaning interner steps s clauses t
    pub can_go : can t
    pub fewer : IsFinite (left s) → IsFinite (left t) × (size (left t) ≤ size (left s))

  pub passed_none : (s : S) → can s → Passed s s
  passed_none s c = record { clauses = []; over = refl; can_go = c; fewer = λ f. (f, omega arith) }

  over_one : (s t u : S) (cs : List (ClauseKey Key)) (c : ClauseKey Key) → PassesOver meaning interner steps s cs t →
      steps t (Some (Ok c)) u → reference_of ((meaning (interner u)).clause c) ≡ None →
      PassesOver meaning interner steps s (cs ++ c ∷ []) u
  over_one s t u [] c p h none = (u, subst (λ z. steps z (Some (Ok c)) u) p h, none, refl)
  over_one s t u (d ∷ ds) c p h none = (p.0, p.1, p.2, over_one p.0 t u ds c p.3 h none)

  module _ (s t u : S) (c : ClauseKey Key) (p : Passed s t) (h : steps t (Some (Ok c)) u) where
    pub passed_one : MakesProgress {A = Result (ClauseKey Key) ElabFault} can left t (Some (Ok c)) u →
        reference_of ((meaning (interner u)).clause c) ≡ None → Passed s u
    passed_one goes none = record {
      clauses = p.clauses ++ c ∷ [];
      over = over_one s t u p.clauses c p.over h none;
      can_go = goes.keeps;
      fewer = λ f.
          let k = p.fewer f in
          let o = goes.on k.0 in
          let a = k.1 in
          let b = o.2 in
          (o.1, omega (arith, a, b));
    }

    pub found_one : (b : Binder Key (TraitRef Key Id)) →
        Some (bound_tree (meaning (interner u)) b) ≡ reference_of ((meaning (interner u)).clause c) →
        IsTrue (known (bound_tree (meaning (interner u)) b)) → Finds meaning interner steps s (Some (Ok b)) u
    found_one b is sure = (p.clauses, t, p.over, (c, h, sym is, sure))

  -- What a source answers that is passed on.
  module _ (s t u : S) (p : Passed s t) where
    pub found_none : steps t None u → Finds meaning interner steps s None u
    found_none h = (p.clauses, t, p.over, h)

    pub found_fault : (f : ElabFault) → steps t (Some (Err f)) u → Finds meaning interner steps s (Some (Err f)) u
    found_fault f h = (p.clauses, t, p.over, h)

    -- So much is left behind it.
    pub goes_on : {A B : Type 0} (a : A) (b : B) → MakesProgress can left t (Some a) u →
        MakesProgress can left s (Some b) u
    goes_on a b goes = record {
      on = λ f.
          let k = p.fewer f in
          let o = goes.on k.0 in
          let x = k.1 in
          let y = o.2 in
          (o.0, o.1, omega (arith, x, y));
      keeps = goes.keeps;
      rests = λ f. tt;
    }

    pub goes_out : {A B : Type 0} → MakesProgress {A = A} can left t None u → MakesProgress {A = B} can left s None u
    goes_out goes = record {
      on = λ f. tt;
      keeps = tt;
      rests = λ f. goes.rests (p.fewer f).0;
    }
