-- Terms of projections are equal exactly where their trees are.
use Rattle.std.proofs.Common.{◌≡◌, Bool, false, IsTrue, refl, sym, ◌∙◌}
use Rattle.std.proofs.lemmas.Bool.{false≢true}
use Rattle.relation_terms.specs.declared.terms.keys.TyKey.{TyKey}
use Rattle.relation_terms.specs.declared.terms.keys.ConstKey.{ConstKey}
use Rattle.relation_terms.specs.declared.terms.generic_arg.GenericArgKind.{GenericArgKind}
use Rattle.relation_terms.specs.declared.terms.generic_arg.GenericArgKind.TheVariants.{Lifetime, Ty as TyArg, Const as ConstArg}
use Rattle.relation_terms.specs.declared.terms.generic_arg.TermKind.{TermKind}
use Rattle.relation_terms.specs.declared.terms.generic_arg.TermKind.TheVariants.{Ty, Const}
use Rattle.relation_terms.specs.Trees.{known}
use Rattle.relation_terms.specs.Meaning.{Meaning, arg_tree, term_tree}
use Rattle.relation_terms.specs.Interning.{AreEqualAsTrees, Sorted}
use Rattle.relation_folds.proofs.Arguments.{arg_same}

-- Of the equality of terms this is used: what it is of each two forms.
module _ {Key Id Name : Type 0} (m : Meaning Key Id Name) (eq : Key → Key → Bool)
    (terms : TermKind Key → TermKind Key → Bool)
    (of_tys : (a b : TyKey Key) → terms (Ty a) (Ty b) ≡ eq a.0 b.0)
    (of_consts : (a b : ConstKey Key) → terms (Const a) (Const b) ≡ eq a.0 b.0)
    (ty_const : (a : TyKey Key) (b : ConstKey Key) → terms (Ty a) (Const b) ≡ false)
    (const_ty : (a : ConstKey Key) (b : TyKey Key) → terms (Const a) (Ty b) ≡ false)
    (same_region : AreEqualAsTrees m.region (λ k l. eq k.0 l.0)) (same_ty : AreEqualAsTrees m.ty (λ k l. eq k.0 l.0))
    (same_const : AreEqualAsTrees m.const_ (λ k l. eq k.0 l.0)) (s : Sorted m) where
  abbrev args : GenericArgKind Key → GenericArgKind Key → Bool
  args (Lifetime a) (Lifetime b) = eq a.0 b.0
  args (TyArg a) (TyArg b) = eq a.0 b.0
  args (ConstArg a) (ConstArg b) = eq a.0 b.0
  args (Lifetime a) (TyArg b) = false
  args (Lifetime a) (ConstArg b) = false
  args (TyArg a) (Lifetime b) = false
  args (TyArg a) (ConstArg b) = false
  args (ConstArg a) (Lifetime b) = false
  args (ConstArg a) (TyArg b) = false

  as_args : (x y : GenericArgKind Key) → IsTrue (known (arg_tree m x)) → IsTrue (known (arg_tree m y)) →
      (IsTrue (args x y) → arg_tree m x ≡ arg_tree m y) × (arg_tree m x ≡ arg_tree m y → IsTrue (args x y))
  as_args x y = arg_same m eq args (λ a b. refl) (λ a b. refl) (λ a b. refl) (λ a b. refl) (λ a b. refl)
      (λ a b. refl) (λ a b. refl) (λ a b. refl) (λ a b. refl) same_region same_ty same_const s x y

  pub term_same : (x y : TermKind Key) → IsTrue (known (term_tree m x)) → IsTrue (known (term_tree m y)) →
      (IsTrue (terms x y) → term_tree m x ≡ term_tree m y) × (term_tree m x ≡ term_tree m y → IsTrue (terms x y))
  term_same (Ty a) (Ty b) k l = (λ i. (same_ty a b k l).0 (sym (of_tys a b) ∙ i), λ e. of_tys a b ∙ (same_ty a b k l).1 e)
  term_same (Const a) (Const b) k l =
      (λ i. (same_const a b k l).0 (sym (of_consts a b) ∙ i), λ e. of_consts a b ∙ (same_const a b k l).1 e)
  term_same (Ty a) (Const b) k l = (
    λ i. absurd (false≢true (sym (ty_const a b) ∙ i)),
    λ e. absurd (false≢true ((as_args (TyArg a) (ConstArg b) k l).1 e)),
  )
  term_same (Const a) (Ty b) k l = (
    λ i. absurd (false≢true (sym (const_ty a b) ∙ i)),
    λ e. absurd (false≢true ((as_args (ConstArg a) (TyArg b) k l).1 e)),
  )
