-- Which variable a form is, and which a type or a constant is by its form.
use Rattle.std.proofs.Common.{◌≡◌, ℕ, Option, Some, None, IfSome, IfNone, refl, sym, ap, ◌∙◌, arith}
use Rattle.relation_terms.specs.Heads.{const_sort, bound_sort, atom_sort, head_sort, Head, VarKind}
use Rattle.relation_terms.specs.Heads.{type_var, const_var, expression, value, unevaluated}
use Rattle.relation_terms.specs.Heads.{variable, bound, placeholder, atom, unknown}
use Rattle.relation_terms.specs.Trees.{Tree, leaf, node, bind, nil, cons, IsTerm}
use Rattle.relation_terms.specs.Meaning.{Meaning, kind_tree, infer_tree, const_tree, infer_const_tree}
use Rattle.relation_terms.specs.declared.terms.ty_kind.TyKind.{TyKind}
use Rattle.relation_terms.specs.declared.terms.ty_kind.TyKind.TheVariants.{Infer}
use Rattle.relation_terms.specs.declared.terms.ty_kind.InferTy.{InferTy}
use Rattle.relation_terms.specs.declared.terms.ty_kind.InferTy.TheVariants.{TyVar, IntVar, FloatVar, FreshTy, FreshIntTy, FreshFloatTy}
use Rattle.relation_terms.specs.declared.terms.const_kind.ConstKind.{ConstKind}
use Rattle.relation_terms.specs.declared.terms.const_kind.ConstKind.TheVariants.{Infer as ConstInfer}
use Rattle.relation_terms.specs.declared.terms.const_kind.InferConst.{InferConst}
use Rattle.relation_terms.specs.declared.terms.const_kind.InferConst.TheVariants.{Var, Fresh}
use Rattle.relation_terms.specs.declared.terms.numbers.TyVid.{TyVid}
use Rattle.relation_terms.specs.declared.terms.numbers.ConstVid.{ConstVid}
use Rattle.relation_semantics.specs.Relation.{StaysWithin}
use Rattle.relation_semantics.specs.Parts.{IsFormedConst}
use Rattle.relation_terms.proofs.Members.{const_only}

-- A constant that is no variable and no bound one is of a form.
form_of_const : (h : Head) (ts : Tree) → head_sort h ≡ const_sort → IsFormedConst (node h ts)
form_of_const (expression k) ts e = tt
form_of_const value ts e = tt
form_of_const (unevaluated d) ts e = tt
form_of_const h ts e = absurd (cc)

pub const_is_formed : (t : Tree) → IsTerm const_sort t → StaysWithin 0 t →
    ((k : VarKind) (n : ℕ) → t ≡ leaf (variable k n) → ⊥) → IsFormedConst t
const_is_formed (leaf (variable k n)) s w o = absurd (o k n refl)
const_is_formed (leaf (bound k d i)) s w o = absurd (omega (arith, w))
const_is_formed (leaf (placeholder k u n)) s w o = const_only (bound_sort k) s
const_is_formed (leaf (atom x)) s w o = const_only (atom_sort x) s
const_is_formed (leaf unknown) s w o = absurd s
const_is_formed (node h ts) s w o = form_of_const h ts (const_only (head_sort h) s.0)
const_is_formed (bind ks t) s w o = absurd s
const_is_formed nil s w o = absurd s
const_is_formed (cons t ts) s w o = absurd s

-- A type variable is the form of none but a type variable, and a type is no variable of a constant.
infer_variable : (i : InferTy) (n : ℕ) → ((v : TyVid) → i ≡ TyVar v → ⊥) → infer_tree i ≡ leaf (variable type_var n) → ⊥
infer_variable (TyVar v) n h e = h v refl
infer_variable (IntVar v) n h e = cc
infer_variable (FloatVar v) n h e = cc
infer_variable (FreshTy k) n h e = cc
infer_variable (FreshIntTy k) n h e = cc
infer_variable (FreshFloatTy k) n h e = cc

infer_no_const : (i : InferTy) (n : ℕ) → infer_tree i ≡ leaf (variable const_var n) → ⊥
infer_no_const (TyVar v) n e = cc
infer_no_const (IntVar v) n e = cc
infer_no_const (FloatVar v) n e = cc
infer_no_const (FreshTy k) n e = cc
infer_no_const (FreshIntTy k) n e = cc
infer_no_const (FreshFloatTy k) n e = cc

pub kind_variable : {Key Id Name : Type 0} (m : Meaning Key Id Name) (k : TyKind Key Id Name) (n : ℕ) →
    ((v : TyVid) → k ≡ Infer (TyVar v) → ⊥) → kind_tree m k ≡ leaf (variable type_var n) → ⊥
kind_variable m (Infer i) n h e = infer_variable i n (λ v q. h v (ap Infer q)) e
kind_variable m k n h e = cc

pub kind_no_const : {Key Id Name : Type 0} (m : Meaning Key Id Name) (k : TyKind Key Id Name) (n : ℕ) → kind_tree m k ≡ leaf (variable const_var n) → ⊥
kind_no_const m (Infer i) n e = infer_no_const i n e
kind_no_const m k n e = cc

-- A variable is the form of no constant but a constant variable.
infer_const_variable : (i : InferConst) (j : VarKind) (n : ℕ) → ((v : ConstVid) → i ≡ Var v → ⊥) → infer_const_tree i ≡ leaf (variable j n) → ⊥
infer_const_variable (Var v) j n h e = h v refl
infer_const_variable (Fresh k) j n h e = cc

pub const_no_variable : {Key Id Name : Type 0} (m : Meaning Key Id Name) (k : ConstKind Key Id Name) (j : VarKind) (n : ℕ) →
    ((v : ConstVid) → k ≡ ConstInfer (Var v) → ⊥) → const_tree m k ≡ leaf (variable j n) → ⊥
const_no_variable m (ConstInfer i) j n h e = infer_const_variable i j n (λ v q. h v (ap ConstInfer q)) e
const_no_variable m k j n h e = cc

-- What a type is by whether its form is a type variable.
module _ {Key Id Name : Type 0} (m : Meaning Key Id Name) (k : TyKind Key Id Name) (t : Tree) (e : t ≡ kind_tree m k) where
  pub some_variable : (o : Option TyVid) → IfSome o (λ v. k ≡ Infer (TyVar v)) →
      IfSome o (λ v. t ≡ leaf (variable type_var v.0))
  some_variable (Some v) h = e ∙ ap (kind_tree m) h
  some_variable None h = h

  pub no_type_variable : (o : Option TyVid) → IfNone o ((v : TyVid) → k ≡ Infer (TyVar v) → ⊥) →
      IfNone o ((n : ℕ) → t ≡ leaf (variable type_var n) → ⊥)
  no_type_variable (Some v) h = h
  no_type_variable None h = λ n q. kind_variable m k n h (sym e ∙ q)

-- What a constant is by whether its form is a constant variable.
module _ {Key Id Name : Type 0} (m : Meaning Key Id Name) (k : ConstKind Key Id Name) (t : Tree) (e : t ≡ const_tree m k) where
  pub some_const_variable : (o : Option ConstVid) → IfSome o (λ v. k ≡ ConstInfer (Var v)) →
      IfSome o (λ v. t ≡ leaf (variable const_var v.0))
  some_const_variable (Some v) h = e ∙ ap (const_tree m) h
  some_const_variable None h = h

  pub no_const_variable : IsTerm const_sort t → (o : Option ConstVid) → IfNone o ((v : ConstVid) → k ≡ ConstInfer (Var v) → ⊥) →
      IfNone o (StaysWithin 0 t → IsFormedConst t)
  no_const_variable s (Some v) h = h
  no_const_variable s None h = λ w. const_is_formed t s w (λ j n q. const_no_variable m k j n h (sym e ∙ q))
