-- The keys of types, by their forms.
use Rattle.std.proofs.Common.{◌≡◌, ℕ, Bool, true, false, refl}
use Rattle.relation_terms.specs.Heads.{pattern_type}
use Rattle.relation_terms.specs.Trees.{Tree, node, cons}
use Rattle.relation_terms.specs.Meaning.{Meaning, kind_tree}
use Rattle.relation_terms.specs.declared.terms.keys.TyKey.{TyKey}
use Rattle.relation_terms.specs.declared.terms.keys.PatKey.{PatKey}
use Rattle.relation_terms.specs.declared.terms.ty_kind.TyKind.{TyKind}
use Rattle.relation_terms.specs.declared.terms.ty_kind.TyKind.TheVariants.{Pat, Infer}
use Rattle.relation_terms.specs.declared.terms.ty_kind.InferTy.TheVariants.{TyVar, IntVar, FloatVar}
use Rattle.relation_terms.specs.declared.terms.ty_kind.InferTy.TheVariants.{FreshTy, FreshIntTy, FreshFloatTy}
use Rattle.fast_reject.specs.HeadKeys.{form_key, head_key, numbered_key, alias_key, plain_type}
use Rattle.fast_reject.specs.declared.simplify.TreatParams.TheVariants.{AsRigid, InstantiateWithInfer}
use Rattle.fast_reject.specs.declared.simplify.TreatParams.{TreatParams}

-- A type's key is that of the outermost form under its patterns.
pub plain_keyed : (autos : ℕ → Bool) (solver : Bool) (treat : TreatParams) (t : Tree) →
    form_key autos solver treat (plain_type t) ≡ head_key autos solver treat t
plain_keyed autos solver treat (node pattern_type (cons t us)) = plain_keyed autos solver treat t
plain_keyed autos solver treat t = refl

-- What is no pattern type has none.
pub plain_itself : {Key Id Name : Type 0} (m : Meaning Key Id Name) (k : TyKind Key Id Name) →
    ((t : TyKey Key) (p : PatKey Key) → k ≡ Pat t p → ⊥) → plain_type (kind_tree m k) ≡ kind_tree m k
plain_itself m (Pat t p) n = absurd (n t p refl)
plain_itself m (Infer (TyVar v)) n = refl
plain_itself m (Infer (IntVar v)) n = refl
plain_itself m (Infer (FloatVar v)) n = refl
plain_itself m (Infer (FreshTy v)) n = refl
plain_itself m (Infer (FreshIntTy v)) n = refl
plain_itself m (Infer (FreshFloatTy v)) n = refl
plain_itself m k n = refl

-- The key of an alias names no item.
pub alias_numbered : {D : Type 0} (number : D → ℕ) (treat : TreatParams) (solver stands : Bool) →
    numbered_key number (alias_key {D = D} treat solver stands) ≡ alias_key {D = ℕ} treat solver stands
alias_numbered number AsRigid true true = refl
alias_numbered number AsRigid true false = refl
alias_numbered number AsRigid false true = refl
alias_numbered number AsRigid false false = refl
alias_numbered number InstantiateWithInfer true true = refl
alias_numbered number InstantiateWithInfer true false = refl
alias_numbered number InstantiateWithInfer false true = refl
alias_numbered number InstantiateWithInfer false false = refl
