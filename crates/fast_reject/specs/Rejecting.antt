-- What a depth test tells of two terms: whether parameters stand for others on each side is part of the test's type, as
-- a number that is 0 where they do not.
use Rattle.std.specs.Prelude.{ℕ, Bool, not, nat_eq}
use Rattle.relation_terms.specs.Trees.{Tree}
use Rattle.relation_terms.specs.Meaning.{Meaning}
use Rattle.relation_terms.specs.declared.terms.keys.ArgsKey.{ArgsKey}
use Rattle.relation_terms.specs.declared.terms.keys.TyKey.{TyKey}
use Rattle.relation_folds.specs.Clashes.{Clash}
use Rattle.fast_reject.specs.Instances.{NoCommonInstance}
use Rattle.fast_reject.specs.declared.deep.DeepRejectCtxt.{DeepRejectCtxt}

-- The truth value of such a number.
abbrev pub is_on : ℕ → Bool
is_on n = not (nat_eq n 0)

module _ {I : Type 0} {l r : ℕ} (test : DeepRejectCtxt I l r) where
  -- The test bars two types within a depth: they clash.
  abbrev pub Bars : {C Key Id Name : Type 0} → ℕ → (C → Meaning Key Id Name) → C → TyKey Key → TyKey Key → Type 0
  Bars d meaning cx a b = Clash (is_on l) (is_on r) d ((meaning cx).ty a) ((meaning cx).ty b)

  -- The same of two lists of arguments.
  abbrev pub BarsArgs : {C Key Id Name : Type 0} → ℕ → (C → Meaning Key Id Name) → C → ArgsKey Key → ArgsKey Key →
      Type 0
  BarsArgs d meaning cx a b = Clash (is_on l) (is_on r) d ((meaning cx).args a) ((meaning cx).args b)

  -- Two terms have no common instance by their trees.
  abbrev pub AreApart : {K : Type 0} → (K → Tree) → K → K → Type 0
  AreApart tree a b = NoCommonInstance (is_on l) (is_on r) (tree a) (tree b)
