-- Terms made anew, of one's form over other parts.
use Rattle.std.proofs.Common.{◌≡◌, ℕ, suc, ◌<◌, refl, sym, ap, ◌∙◌, subst, subst₂, IsTrue, true, ◌&&◌}
use Rattle.std.proofs.Common.{List, [], ◌∷◌, ◌++◌, ◌+◌}
use Rattle.std.proofs.lemmas.Bool.{and_parts, and_from}
use Rattle.relation_terms.specs.declared.terms.generic_arg.GenericArgKind.{GenericArgKind}
use Rattle.relation_terms.specs.declared.terms.generic_arg.GenericArgKind.TheVariants.{Lifetime, Ty, Const}
use Rattle.relation_terms.specs.Trees.{Tree, leaf, node, bind, nil, cons, known, count, nth, IsList, IsTerm}
use Rattle.relation_terms.specs.Meaning.{Meaning, arg_tree, value_tree}
use Rattle.relation_terms.specs.Interning.{Sorted}
use Rattle.relation_semantics.specs.Making.{arg_sort, FitArgs}
use Rattle.relation_semantics.proofs.Lists.{firsts, snoc, firsts_more, firsts_all}

module _ {Key : Type 0} where
  -- One more argument for one more part.
  pub fit_next : (xs : List (GenericArgKind Key)) (ts : Tree) (x : GenericArgKind Key) (t : Tree) → FitArgs xs ts →
      IsTerm (arg_sort x) t → FitArgs (xs ++ x ∷ []) (snoc ts t)
  fit_next [] nil x t f k = (k, tt)
  fit_next (y ∷ xs) (cons u ts) x t f k = (f.0, fit_next xs ts x t f.1 k)
  fit_next [] (cons u ts) x t f k = absurd f
  fit_next [] (leaf l) x t f k = absurd f
  fit_next [] (node h ts) x t f k = absurd f
  fit_next [] (bind ks u) x t f k = absurd f
  fit_next (y ∷ xs) nil x t f k = absurd f
  fit_next (y ∷ xs) (leaf l) x t f k = absurd f
  fit_next (y ∷ xs) (node h ts) x t f k = absurd f
  fit_next (y ∷ xs) (bind ks u) x t f k = absurd f

  pub fit_pushed : (xs : List (GenericArgKind Key)) (x : GenericArgKind Key) (ts : Tree) (i : ℕ) → i < count ts →
      FitArgs xs (firsts i ts) → IsTerm (arg_sort x) (nth i ts) → FitArgs (xs ++ x ∷ []) (firsts (suc i) ts)
  fit_pushed xs x ts i l f k = subst (FitArgs (xs ++ x ∷ [])) (sym (firsts_more i ts l)) (fit_next xs (firsts i ts) x (nth i ts) f k)

  pub fit_end : (xs : List (GenericArgKind Key)) (ts : Tree) (i : ℕ) → IsList ts → i ≡ count ts → FitArgs xs (firsts i ts) →
      FitArgs xs ts
  fit_end xs ts i l e f = subst (FitArgs xs) (ap (λ j. firsts j ts) e ∙ firsts_all ts l) f

-- A known argument is a term of the sort that its kind says.
pub arg_is : {Key Id Name : Type 0} (m : Meaning Key Id Name) → Sorted m → (x : GenericArgKind Key) →
    IsTrue (known (arg_tree m x)) → IsTerm (arg_sort x) (arg_tree m x)
arg_is m s (Lifetime r) k = s.region r k
arg_is m s (Ty t) k = s.ty t k
arg_is m s (Const c) k = s.const_ c k

-- What is of the kind of a part fits its place.
pub fits_place : {Key Id Name : Type 0} (m : Meaning Key Id Name) → Sorted m → (x z : GenericArgKind Key) (ts : Tree)
    (i : ℕ) → IsTrue (known (arg_tree m x)) → arg_tree m x ≡ nth i ts → arg_sort z ≡ arg_sort x →
    IsTerm (arg_sort z) (nth i ts)
fits_place m s x z ts i k e same = subst₂ (λ a t. IsTerm a t) (sym same) e (arg_is m s x k)

-- A value of a type, taken apart and put together with other branches.
pub value_type_known : (c t v : Tree) → c ≡ value_tree t v → IsTrue (known c) → IsTrue (known t)
value_type_known c t v e k = (and_parts (known t) true (and_parts (known t && true) (known v && true)
    (subst (λ z. IsTrue (known z)) e k)).0).0

pub value_tree_known : (c t v : Tree) → c ≡ value_tree t v → IsTrue (known c) → IsTrue (known v)
value_tree_known c t v e k = (and_parts (known v) true (and_parts (known t && true) (known v && true)
    (subst (λ z. IsTrue (known z)) e k)).1).0

pub value_known : (t v : Tree) → IsTrue (known t) → IsTrue (known v) → IsTrue (known (value_tree t v))
value_known t v k l = and_from (known t && true) (known v && true) (and_from (known t) true k refl)
    (and_from (known v) true l refl)
