-- What a folder puts that resolves variables by the tables of a context.
use Rattle.std.specs.Prelude.{◌≡◌, ℕ, Bool, IsTrue, IsFalse, Option, Some, None}
use Rattle.std.proofs.Common.{sym, ap, ◌∙◌}
use Rattle.relation_terms.specs.Heads.{VarKind, variable}
use Rattle.relation_terms.specs.Trees.{Tree, leaf, Assign}
use Rattle.relation_terms.specs.Meaning.{Meaning, Extends}
use Rattle.relation_terms.proofs.Stays.{extends_on}
use Rattle.relation_semantics.specs.Stores.{Store, unbound, entry_of, IsMade, resolved}
use Rattle.variable_tables.specs.declared.inner.InferCtxtInner.{InferCtxtInner}
use Rattle.variable_tables.specs.Tables.{store_of, IsLawful}

-- What a variable comes to; of any other term there is none.
abbrev pub variable_value : Assign → Tree → Option Tree
variable_value s (leaf (variable k n)) = Some (s k n)
variable_value s t = None

-- A term is a variable that is made, or one of which nothing is recorded.
abbrev pub IsVariable : Store → Tree → Bool → Type 0
IsVariable st t made = (k : VarKind) × (n : ℕ) × (t ≡ leaf (variable k n)) × (IsTrue made → IsMade st k n) ×
    (IsFalse made → entry_of st k n ≡ unbound)

-- The tables are lawful, and record the same, however the interner grows.
abbrev pub StaysLawful : {Key Id Name : Type 0} → Meaning Key Id Name → InferCtxtInner Key → Type 0
StaysLawful {Key} {Id} {Name} m x = (n : Meaning Key Id Name) → Extends m n →
    IsLawful n x × (store_of n x ≡ store_of m x)

module _ {Key Id Name : Type 0} {m n : Meaning Key Id Name} (e : Extends m n) (x : InferCtxtInner Key)
    (h : StaysLawful m x) where
  -- So they do after it grew, and variables come to what they came to.
  pub lawful_stays : StaysLawful n x
  lawful_stays = λ o f. let q = h o (extends_on e f) in (q.0, q.1 ∙ sym (h n e).1)

  pub values_stay : (t : Tree) →
      variable_value (resolved (store_of n x)) t ≡ variable_value (resolved (store_of m x)) t
  values_stay t = ap (λ st. variable_value (resolved st) t) (h n e).1
