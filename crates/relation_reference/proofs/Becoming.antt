-- What the parts of a term became: the parts themselves until one became another, then the list that is made.
use Rattle.std.proofs.Common.{◌≡◌, ℕ, suc, ◌<◌, Bool, true, false, cond, IsTrue, List, [], ◌∷◌, ◌++◌, sym, ap, ap₂, ◌∙◌}
use Rattle.std.proofs.Common.{subst, subst₂}
use Rattle.relation_terms.specs.Trees.{Tree, known, list_tree, count, nth}
use Rattle.relation_terms.specs.Parts.{part_sort, tree_sort, Fit}
use Rattle.relation_terms.specs.declared.terms.part_kind.Part.{Part}
use Rattle.relation_terms.proofs.Members.{known_with_last}
use Rattle.relation_folds.proofs.Members.{fit_next}
use Rattle.relation_semantics.proofs.Lists.{firsts, firsts_more, snoc, list_push}

-- One more in the list that is made.
module _ {Key Id : Type 0} (f : Part Key Id → Tree) (y : Part Key Id) where
  pub pushed_kept : (i j : ℕ) (ts : Tree) (xs ys : List (Part Key Id)) → i < count ts → j ≡ suc i → ys ≡ xs ++ y ∷ [] →
      IsTrue (known (list_tree f xs)) → Fit xs (firsts i ts) → IsTrue (known (f y)) → part_sort y ≡ tree_sort (nth i ts) →
      IsTrue (known (list_tree f ys)) × Fit ys (firsts j ts)
  pushed_kept i j ts xs ys h e r k a s q = (
    subst (λ zs. IsTrue (known (list_tree f zs))) (sym r) (known_with_last f xs y k s),
    subst₂ (λ zs n. Fit zs (firsts n ts)) (sym r) (sym e) (fit_next y i ts xs h a q),
  )

  pub pushed_tree : {made : Bool} (xs ys : List (Part Key Id)) (us fs : Tree) → ys ≡ xs ++ y ∷ [] → made ≡ true →
      list_tree f xs ≡ us → cond made (list_tree f ys) fs ≡ snoc us (f y)
  pushed_tree xs ys us fs r d e =
      ap (λ b. cond b (list_tree f ys) fs) d ∙ ap (list_tree f) r ∙ list_push f xs y ∙ ap (λ z. snoc z (f y)) e

-- One more that is as it was, where none is made.
pub same_tree : {made : Bool} (list : Tree) (i j : ℕ) (ts us u : Tree) → i < count ts → j ≡ suc i → us ≡ firsts i ts →
    u ≡ nth i ts → made ≡ false → cond made list (firsts j ts) ≡ snoc us u
same_tree list i j ts us u h e p q d =
    ap (λ b. cond b list (firsts j ts)) d ∙ ap (λ n. firsts n ts) e ∙ firsts_more i ts h ∙ ap₂ snoc (sym p) (sym q)
