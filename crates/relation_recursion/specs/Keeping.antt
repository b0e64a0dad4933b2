-- What is kept of the answers for the parts of a term.
use Rattle.std.specs.Prelude.{◌≡◌, ◌<◌, ◌≤◌, ℕ, IsTrue, IfOk, Result, Ok, Err, List, [], ◌∷◌, ◌++◌, length}
use Rattle.relation_terms.specs.declared.terms.keys.ConstKey.{ConstKey}
use Rattle.relation_terms.specs.declared.terms.keys.TyKey.{TyKey}
use Rattle.relation_terms.specs.declared.terms.part_kind.Part.{Part}
use Rattle.relation_terms.specs.Meaning.{Meaning}
use Rattle.relation_terms.specs.Parts.{part_tree, part_sort}
use Rattle.relation_terms.specs.Trees.{Tree, known, list_tree, count}
use Rattle.relation_folds.specs.declared.error.RelateFault.{RelateFault}
use Rattle.relation_folds.specs.declared.error.RelateFault.TheVariants.{Memory}
use Rattle.relation_folds.specs.Firsts.{firsts}
use Rattle.relation_semantics.specs.Parts.{direct_parts, const_parts_of, IsByParts}

-- Known terms are so many members of a list of trees, and of the sorts of these.
pub record AreFirstParts {K : Type 0} (tree : K → Tree) (fits : List K → Tree → Type 0) (i : ℕ) (ts : Tree) (xs : List K)
    : Type 0 where
  pub same : list_tree tree xs ≡ firsts i ts
  pub sure : IsTrue (known (list_tree tree xs))
  pub fit : fits xs (firsts i ts)

-- Of the answers for parts, of which the one at place `i` has answered `x`: none is kept still; it is kept behind those
-- that were; or none was, and it is kept behind the parts before it.
pub data KeepsAnswer {K : Type 0} (tree : K → Tree) (fits : List K → Tree → Type 0) (i : ℕ) (ts : Tree) (x : K)
    (old new : List K) : Type 0 where
  none_kept : new ≡ [] → KeepsAnswer tree fits i ts x old new
  one_more : 0 < length old → new ≡ old ++ x ∷ [] → KeepsAnswer tree fits i ts x old new
  first_kept : (xs : List K) → AreFirstParts tree fits i ts xs → new ≡ xs ++ x ∷ [] → KeepsAnswer tree fits i ts x old new

-- What is asked of the left one of two types whose parts at a place have answered: it is known, over arguments, and has
-- the parts before that place. Of a constant the same.
pub record HasPartsTo {Key Id Name : Type 0} (m : Meaning Key Id Name) (ty : TyKey Key) (i : ℕ) : Type 0 where
  pub sure : IsTrue (known (m.ty ty))
  pub over_args : IsByParts (m.ty ty) → ⊥
  pub within : i ≤ count (direct_parts (m.ty ty))

pub record HasConstPartsTo {Key Id Name : Type 0} (m : Meaning Key Id Name) (constant : ConstKey Key) (i : ℕ) : Type 0
  where
    pub sure : IsTrue (known (m.const_ constant))
    pub within : i ≤ count (const_parts_of (m.const_ constant))

-- The same of a term that is related by its parts; and the part and its answer are known, and of one sort.
pub record HasTermPartsTo {Key Id Name : Type 0} (m : Meaning Key Id Name) (term : Part Key Id) (i : ℕ) (x : Part Key Id)
    (related : Result (Part Key Id) (RelateFault Key Id Name)) : Type 0 where
  pub sure : IsTrue (known (part_tree m term))
  pub form : IsByParts (part_tree m term)
  pub within : i ≤ count (direct_parts (part_tree m term))
  pub part_known : IsTrue (known (part_tree m x))
  pub answer_known : IfOk related (λ k. IsTrue (known (part_tree m k)))
  pub sort : IfOk related (λ k. part_sort k ≡ part_sort x)

-- What two terms answer by what two of their parts have answered is kept; or their error is handed on; or no memory was
-- left to keep what they answer.
pub data KeepsResult {K Key Id Name : Type 0} (answers : Result K (RelateFault Key Id Name) → Type 0)
    (keeps : K → Type 0) (result : Result (Unit {0}) (RelateFault Key Id Name)) : Type 0 where
  answer_kept : (x : K) → answers (Ok x) → keeps x → result ≡ Ok tt → KeepsResult answers keeps result
  error_handed : (e : RelateFault Key Id Name) → answers (Err e) → result ≡ Err e → KeepsResult answers keeps result
  no_memory : (x : K) → answers (Ok x) → result ≡ Err Memory → KeepsResult answers keeps result
