-- Types as they stand to relating, and pairs that are left to goals.
use Rattle.std.proofs.Common.{◌≡◌, ◌≢◌, ◌⊎◌, ℕ, refl, sym, ap, ◌∙◌, inl, inr, subst, true, false}
use Rattle.std.proofs.lemmas.Bool.{false≢true}
use Rattle.relation_terms.specs.Heads.{type_var, int_var, float_var, alias, opaque_alias, variable}
use Rattle.relation_terms.specs.Trees.{Tree, leaf, node}
use Rattle.relation_terms.specs.Meaning.{Meaning, kind_tree, const_tree, alias_kind}
use Rattle.relation_terms.specs.declared.terms.alias.AliasTy.{AliasTy}
use Rattle.relation_terms.specs.declared.terms.alias.AliasTyKind.{AliasTyKind}
use Rattle.relation_terms.specs.declared.terms.alias.AliasTyKind.TheVariants.{Opaque as OpaqueKind}
use Rattle.relation_terms.specs.declared.terms.alias.ErrorGuaranteed.{ErrorGuaranteed}
use Rattle.relation_terms.specs.declared.terms.const_kind.ConstKind.{ConstKind}
use Rattle.relation_terms.specs.declared.terms.const_kind.ConstKind.TheVariants.{Infer as ConstInfer, Unevaluated}
use Rattle.relation_terms.specs.declared.terms.const_kind.InferConst.TheVariants.{Var, Fresh}
use Rattle.relation_terms.specs.declared.terms.ty_kind.InferTy.{InferTy}
use Rattle.relation_terms.specs.declared.terms.ty_kind.InferTy.TheVariants.{TyVar, IntVar, FloatVar, FreshTy, FreshIntTy, FreshFloatTy}
use Rattle.relation_terms.specs.declared.terms.ty_kind.TyKind.{TyKind}
use Rattle.relation_terms.specs.declared.terms.ty_kind.TyKind.TheVariants.{Error as ErrorKind, Infer, Alias as AliasForm}
use Rattle.relation_semantics.specs.Errors.{IsOpaque, IsOpaqueBeside, IsDeferred}
use Rattle.relation_semantics.specs.Parts.{IsFormedConst}
use Rattle.relation_semantics.specs.Relation.{IsError, IsAlias}
use Rattle.relation_semantics.specs.Settings.{Settings, DefersAliases, LeavesOpaque}
use Rattle.relation_semantics.proofs.Deferring.{opaque_is_alias, beside_is_opaque}
use Rattle.relation_semantics.specs.Lawful.{State}
use Rattle.relation_terms.specs.declared.terms.keys.TyKey.{TyKey}
use Rattle.relation_combining.specs.Deferring.{IsVariable, IsOrdinary, StandsAs, LeftAs, AreByParts}
use Rattle.relation_combining.specs.declared.deferring.Standing.{Standing}
use Rattle.relation_combining.specs.declared.deferring.Standing.TheVariants.{Error, Variable, Opaque, Alias, Other}
use Rattle.relation_combining.specs.declared.deferring.Deferring.TheVariants.{ToNone}

-- An ordinary type stands as nothing else.
pub other_alone : (w : Standing) (t : Tree) → StandsAs w t → IsOrdinary t → w ≡ Other
other_alone Error t s o = absurd (o.0 s)
other_alone Variable t s o = absurd (o.1 s)
other_alone Opaque t s o = absurd (o.2 (opaque_is_alias t s))
other_alone Alias t s o = absurd (o.2 s.0)
other_alone Other t s o = refl

-- A form that is neither an error, a variable nor an alias.
no_variable_tree : (t : Tree) → ((k : _) (n : ℕ) → t ≡ leaf (variable k n) → ⊥) → IsVariable t → ⊥
no_variable_tree t f v = f v.0 v.1 v.2

module _ {Key Id Name : Type 0} (m : Meaning Key Id Name) where
  pub other_kind : (k : TyKind Key Id Name) → ((e : ErrorGuaranteed) → k ≡ ErrorKind e → ⊥) →
      ((i : InferTy) → k ≡ Infer i → ⊥) → ((a : AliasTy Key Id) → k ≡ AliasForm a → ⊥) → StandsAs Other (kind_tree m k)
  other_kind (ErrorKind e) f g h = absurd (f e refl)
  other_kind (Infer i) f g h = absurd (g i refl)
  other_kind (AliasForm a) f g h = absurd (h a refl)
  other_kind k f g h = ((λ o. o), no_variable_tree (kind_tree m k) (λ j n e. cc), (λ o. o))

  -- An inference variable, or a stand-in for one.
  pub variable_kind : (i : InferTy) → ((n : ℕ) → i ≡ FreshTy n → ⊥) → ((n : ℕ) → i ≡ FreshIntTy n → ⊥) →
      ((n : ℕ) → i ≡ FreshFloatTy n → ⊥) → StandsAs Variable (kind_tree m (Infer i))
  variable_kind (TyVar v) f g h = (_, _, refl)
  variable_kind (IntVar v) f g h = (_, _, refl)
  variable_kind (FloatVar v) f g h = (_, _, refl)
  variable_kind (FreshTy n) f g h = absurd (f n refl)
  variable_kind (FreshIntTy n) f g h = absurd (g n refl)
  variable_kind (FreshFloatTy n) f g h = absurd (h n refl)

  pub fresh_kind : (i : InferTy) → ((v : _) → i ≡ TyVar v → ⊥) → ((v : _) → i ≡ IntVar v → ⊥) →
      ((v : _) → i ≡ FloatVar v → ⊥) → StandsAs Other (kind_tree m (Infer i))
  fresh_kind (TyVar v) f g h = absurd (f v refl)
  fresh_kind (IntVar v) f g h = absurd (g v refl)
  fresh_kind (FloatVar v) f g h = absurd (h v refl)
  fresh_kind (FreshTy n) f g h = ((λ o. o), no_variable_tree (kind_tree m (Infer (FreshTy n))) (λ j n e. cc), (λ o. o))
  fresh_kind (FreshIntTy n) f g h = ((λ o. o), no_variable_tree (kind_tree m (Infer (FreshIntTy n))) (λ j n e. cc), (λ o. o))
  fresh_kind (FreshFloatTy n) f g h =
      ((λ o. o), no_variable_tree (kind_tree m (Infer (FreshFloatTy n))) (λ j n e. cc), (λ o. o))

  -- A variable.
  pub ty_variable : (k : TyKind Key Id Name) (i : InferTy) (x : _) → k ≡ Infer i → i ≡ TyVar x → IsVariable (kind_tree m k)
  ty_variable k i x e f = subst (λ z. IsVariable (kind_tree m z)) (sym (e ∙ ap Infer f)) (type_var, _, refl)

  pub int_variable : (k : TyKind Key Id Name) (i : InferTy) (x : _) → k ≡ Infer i → i ≡ IntVar x → IsVariable (kind_tree m k)
  int_variable k i x e f = subst (λ z. IsVariable (kind_tree m z)) (sym (e ∙ ap Infer f)) (int_var, _, refl)

  pub float_variable : (k : TyKind Key Id Name) (i : InferTy) (x : _) → k ≡ Infer i → i ≡ FloatVar x → IsVariable (kind_tree m k)
  float_variable k i x e f = subst (λ z. IsVariable (kind_tree m z)) (sym (e ∙ ap Infer f)) (float_var, _, refl)

  -- An alias, and of which kind.
  opaque_kind : (k : AliasTyKind Id) (d : ℕ) (ts : Tree) → ((x : _) → k ≡ OpaqueKind x → ⊥) →
      IsOpaque (node (alias (alias_kind k) d) ts) → ⊥
  opaque_kind (OpaqueKind x) d ts f o = f x refl
  opaque_kind k d ts f o = o

  pub alias_form : (a : AliasTy Key Id) → ((x : _) → a.kind ≡ OpaqueKind x → ⊥) → StandsAs Alias (kind_tree m (AliasForm a))
  alias_form a f = (tt, opaque_kind a.kind _ _ f)

  pub opaque_form : (a : AliasTy Key Id) (x : _) → a.kind ≡ OpaqueKind x → StandsAs Opaque (kind_tree m (AliasForm a))
  opaque_form a x e = form a.kind e
    where
      form : (k : AliasTyKind Id) → k ≡ OpaqueKind x →
          StandsAs Opaque (kind_tree m (AliasForm (record { kind = k; args = a.args })))
      form (OpaqueKind y) i = tt
      form k i = absurd cc

  -- A constant that isn't evaluated, and no opaque type is a constant.
  pub evaluated_kind : (k : ConstKind Key Id Name) → ((u : _) → k ≡ Unevaluated u → ⊥) → IsAlias (const_tree m k) → ⊥
  evaluated_kind (Unevaluated u) f o = f u refl
  evaluated_kind (ConstInfer (Var v)) f o = o
  evaluated_kind (ConstInfer (Fresh n)) f o = o
  evaluated_kind k f o = o

  pub const_no_opaque : (k : ConstKind Key Id Name) → IsOpaque (const_tree m k) → ⊥
  const_no_opaque (ConstInfer (Var v)) o = o
  const_no_opaque (ConstInfer (Fresh n)) o = o
  const_no_opaque k o = o

-- An opaque type beside another type.
pub opaque_beside : (t u : Tree) → IsOpaque t → (IsVariable u → ⊥) → IsOpaqueBeside t u
opaque_beside t (leaf (variable k n)) o f = absurd (f (k, n, refl))
opaque_beside t u o f = o

pub beside_no_variable : (t u : Tree) → IsOpaqueBeside t u → IsVariable u → ⊥
beside_no_variable t u o v = subst (IsOpaqueBeside t) v.2 o

-- What stands so is no error, or an alias, or none.
error_no_alias : (t : Tree) → IsError t → IsAlias t → ⊥
error_no_alias (leaf l) e a = a
error_no_alias t e a = e

variable_no_alias : (t : Tree) → IsVariable t → IsAlias t → ⊥
variable_no_alias t v a = subst IsAlias v.2 a

pub clean : (s : Standing) (t : Tree) → StandsAs s t → (s ≡ Error → ⊥) → IsError t → ⊥
clean Error t h f e = f refl
clean Variable t h f e = subst IsError h.2 e
clean Opaque t h f e = error_no_alias t e (opaque_is_alias t h)
clean Alias t h f e = error_no_alias t e h.0
clean Other t h f e = h.0 e

-- What comes of two, by how a relation is set up.
pub no_goal_kept : (k : Settings) (a b : Tree) → DefersAliases k → (IsAlias a → ⊥) → (IsAlias b → ⊥) → LeftAs k a b ToNone
no_goal_kept k a b l f g (inl (_, inl o)) = f o
no_goal_kept k a b l f g (inl (_, inr o)) = g o
no_goal_kept k a b l f g (inr (o, _)) = false≢true (sym o.0 ∙ l.0)

pub no_goal_open : (k : Settings) (a b : Tree) → (DefersAliases k → ⊥) → (IsOpaqueBeside a b → ⊥) →
    (IsOpaqueBeside b a → ⊥) → LeftAs k a b ToNone
no_goal_open k a b l f g (inl (o, _)) = l o
no_goal_open k a b l f g (inr (_, inl o)) = f o
no_goal_open k a b l f g (inr (_, inr o)) = g o

pub no_goal_ever : (k : Settings) (a b : Tree) → (DefersAliases k → ⊥) → (LeavesOpaque k → ⊥) → LeftAs k a b ToNone
no_goal_ever k a b l f (inl (o, _)) = l o
no_goal_ever k a b l f (inr (o, _)) = f o

-- Aliases that are no opaque types are left to their parts, where aliases are left to no goals.
pub aliases_by_parts : {Key Id Name : Type 0} (r : State Key Id Name) (a b : TyKey Key) →
    (DefersAliases r.kept.settings → ⊥) → StandsAs Alias ((r.meaning).ty a) → StandsAs Alias ((r.meaning).ty b) →
    AreByParts r a b
aliases_by_parts r a b n s o = let t = (r.meaning).ty a in let u = (r.meaning).ty b in (
  (λ e. error_no_alias t e s.0, λ v. variable_no_alias t v s.0),
  (λ e. error_no_alias u e o.0, λ v. variable_no_alias u v o.0),
  no_goal_open r.kept.settings t u n (λ h. s.1 (beside_is_opaque t u h)) (λ h. o.1 (beside_is_opaque u t h)),
)

-- A constant with an outermost form is no opaque type.
pub formed_no_opaque : (t u : Tree) → IsFormedConst t → IsOpaqueBeside t u → ⊥
formed_no_opaque t u f o = no_opaque t f (beside_is_opaque t u o)
  where
    no_opaque : (t : Tree) → IsFormedConst t → IsOpaque t → ⊥
    no_opaque (node (alias opaque_alias d) ts) f o = f
    no_opaque t f o = o

pub const_not_left : (k : Settings) (a b : Tree) → IsFormedConst a → IsFormedConst b →
    (DefersAliases k × (IsAlias a ⊎ IsAlias b) → ⊥) → IsDeferred k a b → ⊥
const_not_left k a b f g n (inl o) = n o
const_not_left k a b f g n (inr (l, inl o)) = formed_no_opaque a b f o
const_not_left k a b f g n (inr (l, inr o)) = formed_no_opaque b a g o
