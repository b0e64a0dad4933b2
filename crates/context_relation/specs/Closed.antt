-- Closed terms, in which no variable stands but of regions: relating them binds and spends nothing.
use Rattle.std.specs.Prelude.{◌≡◌, [], Option, Result, IfOk}
use Rattle.std.specs.Global.{Vec}
use Rattle.relation_terms.specs.declared.terms.goal.Goal.{Goal}
use Rattle.relation_terms.specs.declared.terms.keys.PredicateKey.{PredicateKey}
use Rattle.relation_terms.specs.Heads.{Head, region_var, variable}
use Rattle.relation_terms.specs.Trees.{Tree}
use Rattle.relation_terms.specs.Meaning.{Meaning}
use Rattle.relation_folds.specs.declared.error.RelateFault.{RelateFault}
use Rattle.relation_folds.specs.Faults.{IfSpent}
use Rattle.relation_semantics.specs.Asking.{HasNoAlias}
use Rattle.relation_semantics.specs.Contexts.{Context}
use Rattle.relation_semantics.specs.Alphabets.{WritesNothing, NeedsVariable}
use Rattle.relation_semantics.specs.Steps.{HasNoBinder}
use Rattle.context_relation.specs.Relating.{term_in}
use Rattle.relation_combining.specs.ClosedTerms.{IsClosed}

-- Between what a context is before the call and after it, which `state` shows.
module _ {S Key Id Name A : Type 0} (state : S → Context Key Id Name) (old new : S) (over : Option Head)
    (tree : Meaning Key Id Name → A → Tree) where
  abbrev term : A → Tree
  term x = term_in (state old) over tree x

  -- Nothing is bound and spent, and no variable is made but of regions, where two closed terms are related, nor one of
  -- regions where these have no binder; nor does it fail for want of instantiations.
  abbrev pub LeavesClosed : {X : Type 0} → A → A → Result X (RelateFault Key Id Name) → Type 0
  LeavesClosed a b result = IsClosed (term a) → IsClosed (term b) →
      WritesNothing (state old).store (state new).store × IfSpent result ⊥ × (HasNoBinder (term a) →
      HasNoBinder (term b) → ((state new).store).entries region_var ≡ ((state old).store).entries region_var)

  -- No goal is answered of two closed terms in which no alias stands.
  abbrev pub AsksNothing : A → A → Result (Vec (Goal Key (PredicateKey Key))) (RelateFault Key Id Name) → Type 0
  AsksNothing a b result = IsClosed (term a) → IsClosed (term b) → HasNoAlias (term a) → HasNoAlias (term b) →
      IfOk result (λ goals. goals.items ≡ [])

  -- It fails for want of instantiations only where a variable but of a region stands in one of two terms.
  abbrev pub SpendsForVariables : {X : Type 0} → A → A → Result X (RelateFault Key Id Name) → Type 0
  SpendsForVariables a b result = IfSpent result (NeedsVariable (state old).store (term a) (term b))
