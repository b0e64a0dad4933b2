-- What terms need of a context that they are related in.
use Rattle.std.specs.Prelude.{◌≡◌, ℕ, ◌≤◌, List, Option, Some, OnOk, slice_get}
use Rattle.relation_terms.specs.Heads.{VarKind, type_var, int_var, float_var, const_var, region_var}
use Rattle.relation_terms.specs.Meaning.{Meaning, arg_tree}
use Rattle.relation_terms.specs.declared.terms.generic_arg.GenericArgKind.{GenericArgKind}
use Rattle.may_relate.specs.Fitting.{MayBeRelated}
use Rattle.variable_tables.specs.declared.inner.InferCtxtInner.{InferCtxtInner}
use Rattle.variable_tables.specs.Tables.{store_of}
use Rattle.text_asking.specs.declared.fits.Needs.{Needs}
use Rattle.text_asking.specs.declared.fits.Fit.{Fit}
use Rattle.text_asking.specs.declared.question.Ready.{Ready}
use Rattle.text_asking.specs.Asking.{variables_in}

-- How many variables of a kind are needed.
abbrev pub needed : Needs → VarKind → ℕ
needed n type_var = n.types
needed n int_var = n.ints
needed n float_var = n.floats
needed n const_var = n.consts
needed n region_var = n.regions

-- A context has what is needed.
pub record HasNeeds {Key : Type 0} (x : InferCtxtInner Key) (n : Needs) : Type 0 where
  pub variables : (k : VarKind) → needed n k ≤ variables_in x k
  pub universe : n.universe ≤ (x.universe).0

module _ {Key Id Name : Type 0} (m : Meaning Key Id Name) where
  -- Unless it is told why not, a term may be related in each context that has what it needs.
  abbrev pub IsFit : GenericArgKind Key → Fit → Type 0
  IsFit key f = (n : Meaning Key Id Name) (x : InferCtxtInner Key) → HasNeeds x f.needs →
      OnOk f.fits (MayBeRelated (store_of n x) (arg_tree m key))

  -- So each term whose key is there, by the numbers of terms.
  abbrev pub AreFit : List (Option (GenericArgKind Key)) → List (Option Fit) → Type 0
  AreFit keys fits = (i : ℕ) (key : GenericArgKind Key) (f : Fit) → slice_get keys i ≡ Some (Some key) →
      slice_get fits i ≡ Some (Some f) → IsFit key f

-- So each term that questions are put over.
abbrev pub AllFit : {I Key Id Name Span : Type 0} → Meaning Key Id Name → Ready I Key Id Name Span → Type 0
AllFit m terms = AreFit m terms.built.now terms.fits.now
