-- Parts that are no types or no constants, and terms that are no variables for these.
use Rattle.std.proofs.Common.{◌≡◌, refl, sym, ap, ◌∙◌}
use Rattle.relation_terms.specs.Heads.{variable, type_sort, const_sort}
use Rattle.relation_terms.specs.Trees.{Tree, leaf}
use Rattle.relation_terms.specs.Meaning.{Meaning, kind_tree, const_tree}
use Rattle.relation_terms.specs.Parts.{part_tree, part_sort, tree_sort}
use Rattle.relation_terms.specs.declared.terms.keys.TyKey.{TyKey}
use Rattle.relation_terms.specs.declared.terms.keys.ConstKey.{ConstKey}
use Rattle.relation_terms.specs.declared.terms.part_kind.Part.{Part}
use Rattle.relation_terms.specs.declared.terms.part_kind.Part.TheVariants.{Region, Ty, Const, ValTree, Pat, ValueType}
use Rattle.relation_terms.specs.declared.terms.part_kind.Part.TheVariants.{Binder, Signature, Inputs, Existential, Object}
use Rattle.relation_terms.specs.declared.terms.ty_kind.TyKind.{TyKind}
use Rattle.relation_terms.specs.declared.terms.ty_kind.TyKind.TheVariants.{Infer}
use Rattle.relation_terms.specs.declared.terms.ty_kind.InferTy.TheVariants.{TyVar}
use Rattle.relation_terms.specs.declared.terms.const_kind.ConstKind.{ConstKind}
use Rattle.relation_terms.specs.declared.terms.const_kind.ConstKind.TheVariants.{Infer as ConstInfer}
use Rattle.relation_terms.specs.declared.terms.const_kind.InferConst.TheVariants.{Var}
use Rattle.relation_terms.specs.declared.terms.numbers.TyVid.{TyVid}
use Rattle.relation_terms.specs.declared.terms.numbers.ConstVid.{ConstVid}
use Rattle.relation_semantics.proofs.Variables.{kind_variable, kind_no_const, const_no_variable}
use Rattle.occurs_check.specs.declared.term_vid.TermVid.{TermVid}
use Rattle.occurs_check.specs.declared.term_vid.TermVid.TheVariants.{Ty as TyTerm, Const as ConstTerm}
use Rattle.occurs_check.specs.TermVids.{vid_kind, vid_number}

-- A part that is no type, or no constant, is of another sort.
module _ {Key Id : Type 0} where
  pub not_type : (p : Part Key Id) → ((t : TyKey Key) → p ≡ Ty t → ⊥) → part_sort p ≡ type_sort → ⊥
  not_type (Ty t) n e = n t refl
  not_type (Region r) n e = cc
  not_type (Const c) n e = cc
  not_type (ValTree v) n e = cc
  not_type (Pat v) n e = cc
  not_type (ValueType t) n e = cc
  not_type (Binder vs b) n e = cc
  not_type (Signature s) n e = cc
  not_type (Inputs t) n e = cc
  not_type (Existential p) n e = cc
  not_type (Object k) n e = cc

  pub not_const : (p : Part Key Id) → ((c : ConstKey Key) → p ≡ Const c → ⊥) → part_sort p ≡ const_sort → ⊥
  not_const (Const c) n e = n c refl
  not_const (Ty t) n e = cc
  not_const (Region r) n e = cc
  not_const (ValTree v) n e = cc
  not_const (Pat v) n e = cc
  not_const (ValueType t) n e = cc
  not_const (Binder vs b) n e = cc
  not_const (Signature s) n e = cc
  not_const (Inputs t) n e = cc
  not_const (Existential p) n e = cc
  not_const (Object k) n e = cc

-- A type whose form is no type variable, and a constant whose form is no constant variable.
module _ {Key Id Name : Type 0} (m : Meaning Key Id Name) (k : TyKind Key Id Name) (t : Tree) (e : t ≡ kind_tree m k) where
  pub type_no_vid : ((v : TyVid) → k ≡ Infer (TyVar v) → ⊥) → (v : TermVid) → t ≡ leaf (variable (vid_kind v) (vid_number v)) → ⊥
  type_no_vid h (TyTerm v) q = kind_variable m k v.0 h (sym e ∙ q)
  type_no_vid h (ConstTerm v) q = kind_no_const m k v.0 (sym e ∙ q)

module _ {Key Id Name : Type 0} (m : Meaning Key Id Name) (k : ConstKind Key Id Name) (t : Tree) (e : t ≡ const_tree m k) where
  pub const_no_vid : ((v : ConstVid) → k ≡ ConstInfer (Var v) → ⊥) → (v : TermVid) → t ≡ leaf (variable (vid_kind v) (vid_number v)) → ⊥
  const_no_vid h v q = const_no_variable m k (vid_kind v) (vid_number v) h (sym e ∙ q)

-- A part that is neither a type nor a constant.
module _ {Key Id Name : Type 0} (m : Meaning Key Id Name) (p : Part Key Id) (no_type : (t : TyKey Key) → p ≡ Ty t → ⊥) (no_const : (c : ConstKey Key) → p ≡ Const c → ⊥)
    (e : tree_sort (part_tree m p) ≡ part_sort p) where
  pub other_no_vid : (v : TermVid) → part_tree m p ≡ leaf (variable (vid_kind v) (vid_number v)) → ⊥
  other_no_vid (TyTerm v) q = not_type p no_type (sym e ∙ ap tree_sort q)
  other_no_vid (ConstTerm v) q = not_const p no_const (sym e ∙ ap tree_sort q)
