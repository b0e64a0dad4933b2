-- What the calls of a reference context show, as the trait of contexts asks it.
use Rattle.std.proofs.Common.{◌≡◌, ℕ, sym, ap, ◌∙◌, subst, max, min, length, IsTrue, Result, Ok, Err, IfOk, OnOk, OnErr}
use Rattle.relation_terms.specs.Heads.{VarKind, variable}
use Rattle.relation_terms.specs.Trees.{Tree, leaf, known}
use Rattle.relation_terms.specs.Meaning.{Meaning}
use Rattle.relation_semantics.specs.Contexts.{Context}
use Rattle.relation_semantics.specs.ContextCalls.{Reads, MakesNext, EquatesTwo, BindsNumber, Constrains, Stands, KeepsSetup, KeepsOutliving}
use Rattle.relation_semantics.specs.Errors.{IsReadAs}
use Rattle.relation_semantics.specs.Steps.{Equates, InstantiatesNumber, MakesVariable, AddsConstraint}
use Rattle.relation_semantics.specs.Stores.{Constraint}
use Rattle.relation_semantics.proofs.ReadAs.{read_resolves}
use Rattle.relation_reference.specs.declared.context.variables.RefCtxt.{RefCtxt}
use Rattle.variable_tables.specs.Tables.{store_of, context_of, IsLawful}
use Rattle.relation_reference.specs.RefCtxt.{store_in, context_in}

module _ {I Key Id Name Span : Type 0} (meaning : I → Meaning Key Id Name) (p : RefCtxt I Key Id Name Span) where
  pub read : (t u : Tree) → IsLawful (meaning p.interner) p.inner → IsTrue (known u) → IsReadAs (store_in meaning p) t u →
      Reads (context_in meaning p) t u
  read t u l sure reads = record {
    sure = sure;
    reads = reads;
    resolves = read_resolves (store_in meaning p) l.sound t u reads;
  }

module _ {I Key Id Name Span : Type 0} (meaning : I → Meaning Key Id Name) (p q : RefCtxt I Key Id Name Span) where
  -- A variable was made, and it has the number of those before it.
  pub makes_next : {K F : Type 0} (k : VarKind) (tree : Meaning Key Id Name → K → Tree) (n : ℕ) →
      length ((store_in meaning p).entries k) ≡ n → (r : Result K F) →
      IfOk r (λ t. IsTrue (known (tree (meaning q.interner) t))) →
      IfOk r (λ t. tree (meaning q.interner) t ≡ leaf (variable k n)) →
      OnOk r (MakesVariable (store_in meaning p) (store_in meaning q) k n ((p.inner).universe).0) →
      OnErr r (store_in meaning q ≡ store_in meaning p) →
      MakesNext (context_in meaning p) (context_in meaning q) k tree r
  makes_next k tree n e (Ok t) sure means makes refused = (
    sure,
    means ∙ ap (λ i. leaf (variable k i)) (sym e),
    subst (λ i. MakesVariable (store_in meaning p) (store_in meaning q) k i ((p.inner).universe).0) (sym e) makes,
  )
  makes_next k tree n e (Err f) sure means makes refused = refused

  -- The interner is the one that it was.
  module _ (same : q.interner ≡ p.interner) where
    back : (P : Context Key Id Name → Type 0) → P (context_of (meaning p.interner) q.inner) → P (context_in meaning q)
    back P h = subst (λ i. P (context_of (meaning i) q.inner)) (sym same) h

    pub constrains : {A F : Type 0} (c : Constraint) (r : Result A F) →
        OnOk r (AddsConstraint (store_in meaning p) (store_of (meaning p.interner) q.inner) c) →
        OnErr r (store_of (meaning p.interner) q.inner ≡ store_in meaning p) →
        Constrains (context_in meaning p) (context_in meaning q) c r
    constrains c (Ok x) adds refused = back (λ d. AddsConstraint (store_in meaning p) d.store c) adds
    constrains c (Err f) adds refused = back (λ d. d.store ≡ store_in meaning p) refused

    module _ (l : IsLawful (meaning p.interner) q.inner)
        (setup : KeepsSetup (context_in meaning p) (context_in meaning q))
        (outliving : KeepsOutliving (context_in meaning p) (context_in meaning q)) where
      pub stood : Stands (context_in meaning p) (context_in meaning q)
      stood = record {
        meaning = ap meaning same;
        lawful = back (λ d. d.lawful) l;
        setup = setup;
        outliving = outliving;
      }

      pub equated : (k : VarKind) (a b : ℕ) → (a ≡ b → q.inner ≡ p.inner) →
          ((a ≡ b → ⊥) → Equates (store_in meaning p) (store_of (meaning p.interner) q.inner) k (max a b) (min a b)) →
          EquatesTwo (context_in meaning p) (context_in meaning q) k a b
      equated k a b one two = record {
        stands = stood;
        same = λ h. back (λ d. d.store ≡ store_in meaning p) (ap (store_of (meaning p.interner)) (one h));
        equates = λ h. back (λ d. Equates (store_in meaning p) d.store k (max a b) (min a b)) (two h);
      }

      pub number_bound : (k : VarKind) (n : ℕ) (t : Tree) →
          InstantiatesNumber (store_in meaning p) (store_of (meaning p.interner) q.inner) k n t →
          BindsNumber (context_in meaning p) (context_in meaning q) k n t
      number_bound k n t binds = record {
        stands = stood;
        binds = back (λ d. InstantiatesNumber (store_in meaning p) d.store k n t) binds;
      }
