-- Lists of known assumptions.
use Rattle.std.proofs.Common.{◌≡◌, IsTrue, List, [], ◌∷◌, ◌++◌, ◌<◌, ℕ, zero, suc, arith, get_or, length, sym, subst}
use Rattle.std.proofs.lemmas.List.Elements.{All-append}
use Rattle.std.specs.List.{All}
use Rattle.relation_terms.specs.Trees.{known}
use Rattle.relation_terms.specs.Meaning.{Meaning, arg_tree}
use Rattle.relation_terms.specs.declared.terms.generic_arg.GenericArgKind.{GenericArgKind}
use Rattle.relation_terms.proofs.Members.{item_known}
use Rattle.text_asking.specs.Meets.{AllKnown}

-- What stands at a place of a list of known terms is known.
pub at_known : {X D N : Type 0} (m : Meaning X D N) (xs : List (GenericArgKind X)) (i : ℕ) (x : GenericArgKind X) →
    i < length xs → x ≡ get_or xs i x → AllKnown m xs → IsTrue (known (arg_tree m x))
at_known m xs i x h p k = subst (λ y. IsTrue (known (arg_tree m y))) (sym p) (item_known (arg_tree m) xs i x h k)

-- Of a list of which all are so, with one more that is, all are.
pub all_with : {A : Type 0} (P : A → Type 0) (xs ys : List A) (x : A) → All P xs → P x → ys ≡ xs ++ x ∷ [] → All P ys
all_with P xs ys x a p e = subst (All P) (sym e) (All-append P xs (x ∷ []) a (one p))
  where
    one : P x → All P (x ∷ [])
    one p zero d h = p
    one p (suc i) d h = absurd (omega arith)
