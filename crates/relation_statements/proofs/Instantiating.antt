-- What is put for a trait's parameters, and for the variables of a clause's own binder.
use Rattle.std.proofs.Common.{◌≡◌, ap, ap₂, refl, ◌∙◌, sym, arith}
use Rattle.std.specs.Prelude.{ℕ, zero, suc, List, [], ◌∷◌, ◌++◌, Option, Some, None}
use Rattle.std.specs.Prelude.{option_map, IsSome, slice_get, length}
use Rattle.std.proofs.lemmas.Bool.{false≢true}
use Rattle.relation_terms.specs.Heads.{BoundKind}
use Rattle.relation_terms.specs.Trees.{Tree, list_tree}
use Rattle.relation_terms.specs.Meaning.{Meaning, bound_kind_of, bound_kinds, under}
use Rattle.relation_terms.specs.declared.terms.binder.BoundVariableKind.{BoundVariableKind}
use Rattle.relation_folds.specs.Folds.{folded}
use Rattle.relation_statements.specs.Stated.{member, stands_for, stated_of}

-- The member at a place of a list of trees is that of the value there.
pub member_list : {A : Type 0} (f : A → Tree) (xs : List A) (i : ℕ) →
    option_map f (slice_get xs i) ≡ member (list_tree f xs) i
member_list f [] i = refl
member_list f (x ∷ xs) zero = refl
member_list f (x ∷ xs) (suc i) = member_list f xs i

-- Kinds of two lists of variables.
pub kinds_both : {Key Id Name : Type 0} (m : Meaning Key Id Name) (xs ys : List (BoundVariableKind Name)) →
    bound_kinds m (xs ++ ys) ≡ bound_kinds m xs ++ bound_kinds m ys
kinds_both m [] ys = refl
kinds_both m (x ∷ xs) ys = ap (λ z. bound_kind_of m x ∷ z) (kinds_both m xs ys)

-- The list of a binder that is there is one.
abbrev pub held_list : Option (List BoundKind) → List BoundKind
held_list None = []
held_list (Some ks) = ks

pub some_list : (o : Option (List BoundKind)) → IsSome o → o ≡ Some (held_list o)
some_list (Some ks) i = refl
some_list None i = absurd (false≢true i)

pub kinds_length : {Key Id Name : Type 0} (m : Meaning Key Id Name) (xs : List (BoundVariableKind Name)) →
    length (bound_kinds m xs) ≡ length xs
kinds_length m [] = refl
kinds_length m (x ∷ xs) = ap suc (kinds_length m xs)

-- A list of no variables is empty.
pub no_list : (ks : List BoundKind) → length ks ≡ 0 → [] ≡ ks
no_list [] e = refl
no_list (k ∷ ks) e = absurd (omega (arith, e))

-- Lists that are there are one.
pub same_list : (ks ls : List BoundKind) → Some ks ≡ Some ls → ks ≡ ls
same_list ks ls e = ap held_list e

-- What is made of a clause under a binder, by its binder and its body.
pub stated_under : (ks ls : List BoundKind) (args : Tree) (o q : Option (List BoundKind)) (t u : Tree) (count : ℕ) →
    q ≡ Some ls → o ≡ Some (ks ++ ls) → count ≡ length ks → u ≡ folded (stands_for count args) 0 t →
    under o u ≡ stated_of ks args (under q t)
stated_under ks ls args o q t u count there made long body =
    ap₂ (λ x y. under x y) made (body ∙ ap (λ z. folded (stands_for z args) 0 t) long)
    ∙ ap (λ z. stated_of ks args (under z t)) (sym there)
