-- What stands in a type that is written: as an item over its arguments, or over a binder.
use Rattle.std.specs.Prelude.{◌≡◌, IsTrue, suc}
use Rattle.relation_terms.specs.Trees.{Tree, known, size}
use Rattle.relation_terms.specs.Meaning.{Meaning, kind_tree, signature_tree, sig_of, under}
use Rattle.relation_terms.specs.declared.terms.binder.Binder.{Binder}
use Rattle.term_enums.specs.declared.FnHeader.{FnHeader}
use Rattle.relation_terms.specs.declared.terms.fn_sig.FnSigTys.{FnSigTys}
use Rattle.relation_terms.specs.declared.terms.keys.TyKey.{TyKey}
use Rattle.relation_terms.specs.declared.terms.ty_kind.TyKind.{TyKind}
use Rattle.relation_terms.specs.declared.terms.keys.ArgsKey.{ArgsKey}

-- the arguments are all that stands in the type
abbrev pub IsOver : {Key Id Name : Type 0} → TyKind Key Id Name → ArgsKey Key → Type 0
IsOver {Key} {Id} {Name} kind args = (m : Meaning Key Id Name) →
    (IsTrue (known (kind_tree m kind)) → IsTrue (known (m.args args)))
    × (size (kind_tree m kind) ≡ suc (size (m.args args)))

module _ {Key Id Name : Type 0} (m : Meaning Key Id Name) where
  -- the signature of these types and this header, under their binder
  abbrev pub bound_signature : Binder Key (FnSigTys Key) → FnHeader → Tree
  bound_signature b h = under (m.bound_vars b.bound_vars) (signature_tree m (sig_of b.value h))

  -- the type, under its binder
  abbrev pub bound_type : Binder Key (TyKey Key) → Tree
  bound_type b = under (m.bound_vars b.bound_vars) (m.ty b.value)
