-- Which variable a term of a context is.
use Rattle.std.specs.Prelude.{◌≡◌, ◌||◌, ℕ, Bool}
use Rattle.relation_terms.specs.declared.terms.keys.ConstKey.{ConstKey}
use Rattle.relation_terms.specs.declared.terms.keys.TyKey.{TyKey}
use Rattle.relation_terms.specs.Flags.{has_non_region_infer}
use Rattle.relation_terms.specs.Heads.{type_var, const_var, variable}
use Rattle.relation_terms.specs.Meaning.{Meaning}
use Rattle.relation_terms.specs.Trees.{leaf}
use Rattle.relation_semantics.specs.Contexts.{Context}
use Rattle.relation_semantics.specs.Parts.{IsRigid, IsFormedConst}
use Rattle.relation_semantics.specs.Relation.{StaysWithin}

module _ {Key Id Name : Type 0} where
  -- Whether a variable, but of regions, stands in one of two types.
  abbrev pub one_has_variable : Meaning Key Id Name → TyKey Key → TyKey Key → Bool
  one_has_variable m a b = has_non_region_infer (m.ty a) || has_non_region_infer (m.ty b)

  -- A type is the type variable of that number, or a constant the constant variable.
  abbrev pub MeansTyVar : Context Key Id Name → TyKey Key → ℕ → Type 0
  MeansTyVar c t n = (c.meaning).ty t ≡ leaf (variable type_var n)

  abbrev pub MeansConstVar : Context Key Id Name → ConstKey Key → ℕ → Type 0
  MeansConstVar c t n = (c.meaning).const_ t ≡ leaf (variable const_var n)

  -- A type, or a constant, has a form if nothing in it escapes a binder.
  abbrev pub IsFormedWithin : Meaning Key Id Name → TyKey Key → Type 0
  IsFormedWithin m t = StaysWithin 0 (m.ty t) → IsRigid (m.ty t)

  abbrev pub IsFormedConstWithin : Meaning Key Id Name → ConstKey Key → Type 0
  IsFormedConstWithin m t = StaysWithin 0 (m.const_ t) → IsFormedConst (m.const_ t)
