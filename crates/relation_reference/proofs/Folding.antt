-- Resolving by a fold: what is put for each variable is what it comes to.
use Rattle.std.proofs.Common.{◌≡◌, ℕ, suc, refl, sym, ap, ap₂, ◌∙◌, subst, ◌≤◌, arith, Some, None, List, length, get_or}
use Rattle.std.proofs.lemmas.List.{get_or_past}
use Rattle.relation_terms.specs.Heads.{VarKind, type_var, int_var, float_var, const_var, region_var, variable, bound, placeholder, atom, unknown, leaf_sort, head_sort}
use Rattle.relation_terms.specs.Trees.{Tree, leaf, node, bind, nil, cons, Assign, apply}
use Rattle.relation_terms.specs.Meaning.{Meaning, kind_tree, infer_tree, const_tree, region_tree}
use Rattle.relation_terms.specs.declared.terms.ty_kind.TyKind.{TyKind}
use Rattle.relation_terms.specs.declared.terms.ty_kind.TyKind.TheVariants.{Infer}
use Rattle.relation_terms.specs.declared.terms.ty_kind.InferTy.{InferTy}
use Rattle.relation_terms.specs.declared.terms.ty_kind.InferTy.TheVariants.{TyVar, IntVar, FloatVar, FreshTy, FreshIntTy, FreshFloatTy}
use Rattle.relation_terms.specs.declared.terms.const_kind.ConstKind.{ConstKind}
use Rattle.relation_terms.specs.declared.terms.const_kind.ConstKind.TheVariants.{Infer as ConstInfer}
use Rattle.relation_terms.specs.declared.terms.const_kind.InferConst.TheVariants.{Var, Fresh}
use Rattle.relation_terms.specs.declared.terms.region_kind.RegionKind.{RegionKind}
use Rattle.relation_terms.specs.declared.terms.region_kind.RegionKind.TheVariants.{ReVar}
use Rattle.relation_terms.specs.declared.terms.numbers.RegionVid.{RegionVid}
use Rattle.relation_terms.specs.declared.terms.numbers.TyVid.{TyVid}
use Rattle.relation_terms.specs.declared.terms.numbers.IntVid.{IntVid}
use Rattle.relation_terms.specs.declared.terms.numbers.FloatVid.{FloatVid}
use Rattle.relation_terms.specs.declared.terms.numbers.ConstVid.{ConstVid}
use Rattle.relation_folds.specs.Folds.{asks, folded}
use Rattle.relation_semantics.specs.Stores.{Store, IsMade, InContext, entry_of, entry_term, unbound}
use Rattle.relation_folds.proofs.Folding.{put_none}
use Rattle.relation_semantics.proofs.Resolved.{resolved_free}
use Rattle.variable_tables.specs.declared.inner.InferCtxtInner.{InferCtxtInner}
use Rattle.variable_tables.specs.declared.inner.Variable.{Variable}
use Rattle.variable_tables.specs.Variables.{entries_of}
use Rattle.variable_tables.specs.Tables.{IsLawful}
use Rattle.relation_reference.specs.Remembering.{resolved_by}
use Rattle.relation_reference.specs.Resolvers.{variable_value, StaysLawful}
use Rattle.variable_tables.proofs.Grows.{store_grows, lawful_grows}
use Rattle.relation_reference.proofs.Making.{entries_long}

-- So the fold makes of a tree what the tree comes to.
pub fold_resolves : (s : Assign) (d : ℕ) (t : Tree) → folded (λ e u. variable_value s u) d t ≡ apply s t
fold_resolves s d (leaf (variable type_var n)) = refl
fold_resolves s d (leaf (variable int_var n)) = refl
fold_resolves s d (leaf (variable float_var n)) = refl
fold_resolves s d (leaf (variable const_var n)) = refl
fold_resolves s d (leaf (variable region_var n)) = refl
fold_resolves s d (leaf (bound q e i)) = put_none (asks (leaf_sort (bound q e i))) (leaf (bound q e i))
fold_resolves s d (leaf (placeholder q w i)) = put_none (asks (leaf_sort (placeholder q w i))) (leaf (placeholder q w i))
fold_resolves s d (leaf (atom x)) = put_none (asks (leaf_sort (atom x))) (leaf (atom x))
fold_resolves s d (leaf unknown) = put_none (asks (leaf_sort unknown)) (leaf unknown)
fold_resolves s d (node h ts) = put_none (asks (head_sort h)) (node h (folded (λ e u. variable_value s u) d ts))
    ∙ ap (node h) (fold_resolves s d ts)
fold_resolves s d (bind ks t) = ap (bind ks) (fold_resolves s (suc d) t)
fold_resolves s d nil = refl
fold_resolves s d (cons t ts) = ap₂ cons (fold_resolves s d t) (fold_resolves s d ts)

-- Lawful tables stay so, and record the same, while the interner grows.
pub stays_lawful : {Key Id Name : Type 0} (m : Meaning Key Id Name) (x : InferCtxtInner Key) → IsLawful m x →
    StaysLawful m x
stays_lawful m x l = λ n e. (lawful_grows e x l, store_grows e x l)

-- What a variable comes to; one of which nothing is recorded comes to itself.
pub value_of : (s : Assign) (k : VarKind) (n : ℕ) (t : Tree) → t ≡ leaf (variable k n) →
    variable_value s t ≡ Some (apply s t)
value_of s k n t e = ap (variable_value s) e ∙ ap (λ u. Some (apply s u)) (sym e)

pub unbound_itself : (st : Store) (k : VarKind) (n : ℕ) (t : Tree) → t ≡ leaf (variable k n) →
    entry_of st k n ≡ unbound → resolved_by st t ≡ t
unbound_itself st k n t e o = ap (resolved_by st) e ∙ resolved_free st k n (ap (entry_term k) o) ∙ sym e

pub context_made : (st : Store) (k : VarKind) (n : ℕ) → IsMade st k n → InContext st (leaf (variable k n))
unfolding InContext
context_made st k n h = h

pub variable_context : (st : Store) (k : VarKind) (n : ℕ) (t : Tree) → t ≡ leaf (variable k n) → IsMade st k n →
    InContext st t
variable_context st k n t e h = subst (InContext st) (sym e) (context_made st k n h)

-- A number past the end of a table has no entry.
pub past_table : {K : Type 0} (tree : K → Tree) (vs : List (Variable K)) (n : ℕ) → length vs ≤ n →
    get_or (entries_of tree vs) n unbound ≡ unbound
past_table tree vs n h = get_or_past (entries_of tree vs) n unbound
    (let a = entries_long tree vs in omega (arith, h, a))

-- What is no variable has no value.
infer_value : (s : Assign) (i : InferTy) → ((v : TyVid) → i ≡ TyVar v → ⊥) → ((v : IntVid) → i ≡ IntVar v → ⊥) →
    ((v : FloatVid) → i ≡ FloatVar v → ⊥) → variable_value s (infer_tree i) ≡ None
infer_value s (TyVar v) a b c = absurd (a v refl)
infer_value s (IntVar v) a b c = absurd (b v refl)
infer_value s (FloatVar v) a b c = absurd (c v refl)
infer_value s (FreshTy n) a b c = refl
infer_value s (FreshIntTy n) a b c = refl
infer_value s (FreshFloatTy n) a b c = refl

module _ {Key Id Name : Type 0} (m : Meaning Key Id Name) (s : Assign) where
  kind_value : (k : TyKind Key Id Name) → ((v : TyVid) → k ≡ Infer (TyVar v) → ⊥) →
      ((v : IntVid) → k ≡ Infer (IntVar v) → ⊥) → ((v : FloatVid) → k ≡ Infer (FloatVar v) → ⊥) →
      variable_value s (kind_tree m k) ≡ None
  kind_value (Infer i) a b c = infer_value s i (λ v e. a v (ap Infer e)) (λ v e. b v (ap Infer e)) (λ v e. c v (ap Infer e))
  kind_value k a b c = refl

  pub ty_value : (k : TyKind Key Id Name) (t : Tree) → t ≡ kind_tree m k → ((v : TyVid) → k ≡ Infer (TyVar v) → ⊥) →
      ((v : IntVid) → k ≡ Infer (IntVar v) → ⊥) → ((v : FloatVid) → k ≡ Infer (FloatVar v) → ⊥) →
      variable_value s t ≡ None
  ty_value k t e a b c = ap (variable_value s) e ∙ kind_value k a b c

  const_kind_value : (k : ConstKind Key Id Name) → ((v : ConstVid) → k ≡ ConstInfer (Var v) → ⊥) →
      variable_value s (const_tree m k) ≡ None
  const_kind_value (ConstInfer (Var v)) a = absurd (a v refl)
  const_kind_value (ConstInfer (Fresh n)) a = refl
  const_kind_value k a = refl

  pub const_value : (k : ConstKind Key Id Name) (t : Tree) → t ≡ const_tree m k →
      ((v : ConstVid) → k ≡ ConstInfer (Var v) → ⊥) → variable_value s t ≡ None
  const_value k t e a = ap (variable_value s) e ∙ const_kind_value k a

  region_kind_value : (k : RegionKind Name) → ((v : RegionVid) → k ≡ ReVar v → ⊥) → variable_value s (region_tree m k) ≡ None
  region_kind_value (ReVar v) a = absurd (a v refl)
  region_kind_value k a = refl

  pub region_value : (k : RegionKind Name) (t : Tree) → t ≡ region_tree m k → ((v : RegionVid) → k ≡ ReVar v → ⊥) →
      variable_value s t ≡ None
  region_value k t e a = ap (variable_value s) e ∙ region_kind_value k a
