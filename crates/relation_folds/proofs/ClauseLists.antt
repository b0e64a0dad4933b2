-- The members of a list of keys folded one after another.
use Rattle.std.proofs.Common.{◌≡◌, ℕ, zero, suc, ◌<◌, refl, sym, ap, ap₂, ◌∙◌, subst, arith, IsTrue, Option}
use Rattle.std.proofs.Common.{List, [], ◌∷◌, ◌++◌}
use Rattle.relation_terms.specs.Trees.{Tree, leaf, node, bind, nil, cons, known, list_tree, count, nth, IsList}
use Rattle.relation_terms.specs.Orders.{behind}
use Rattle.relation_terms.proofs.Members.{known_with_last}
use Rattle.relation_terms.proofs.Stays.{stays_list, knows_as}
use Rattle.relation_folds.specs.Folds.{folded}
use Rattle.relation_folds.proofs.Members.{firsts, firsts_all}

-- One more member stands behind all others.
list_behind : {K : Type 0} (g : K → Tree) (xs : List K) (y : K) →
    list_tree g (xs ++ y ∷ []) ≡ behind (g y) (list_tree g xs)
list_behind g [] y = refl
list_behind g (x ∷ xs) y = ap (λ z. cons (g x) z) (list_behind g xs y)

firsts_next : (i : ℕ) (ts : Tree) → i < count ts → firsts (suc i) ts ≡ behind (nth i ts) (firsts i ts)
firsts_next zero (cons t ts) h = refl
firsts_next (suc i) (cons t ts) h = ap (λ z. cons t z) (firsts_next i ts (omega arith))
firsts_next i (leaf l) h = absurd (omega arith)
firsts_next i (node g ts) h = absurd (omega arith)
firsts_next i (bind ks t) h = absurd (omega arith)
firsts_next i nil h = absurd (omega arith)

pub firsts_list : (i : ℕ) (ts : Tree) → IsList (firsts i ts)
firsts_list zero ts = tt
firsts_list (suc i) (cons t ts) = firsts_list i ts
firsts_list (suc i) (leaf l) = tt
firsts_list (suc i) (node g ts) = tt
firsts_list (suc i) (bind ks t) = tt
firsts_list (suc i) nil = tt

folded_behind : (p : ℕ → Tree → Option Tree) (d : ℕ) (t us : Tree) → IsList us →
    folded p d (behind t us) ≡ behind (folded p d t) (folded p d us)
folded_behind p d t (cons u us) l = ap (λ z. cons (folded p d u) z) (folded_behind p d t us l)
folded_behind p d t nil l = refl
folded_behind p d t (leaf x) l = absurd l
folded_behind p d t (node g us) l = absurd l
folded_behind p d t (bind ks u) l = absurd l

-- One more is folded, in an interner that has grown.
module _ {K : Type 0} (p : ℕ → Tree → Option Tree) (f g : K → Tree)
    (stay : (x : K) → IsTrue (known (f x)) → g x ≡ f x) (y : K) (i j : ℕ) (ts : Tree) (xs ys : List K)
    (sure : IsTrue (known (list_tree f xs))) (is : ys ≡ xs ++ y ∷ []) where
  pub listed_next : list_tree f xs ≡ folded p 0 (firsts i ts) → i < count ts → j ≡ suc i →
      g y ≡ folded p 0 (nth i ts) → list_tree g ys ≡ folded p 0 (firsts j ts)
  listed_next e h n q =
      ap (list_tree g) is ∙ list_behind g xs y ∙ ap₂ behind q (stays_list f g xs stay sure ∙ e)
      ∙ sym (folded_behind p 0 (nth i ts) (firsts i ts) (firsts_list i ts))
      ∙ ap (folded p 0) (sym (firsts_next i ts h)) ∙ ap (λ k. folded p 0 (firsts k ts)) (sym n)

  pub known_next : IsTrue (known (g y)) → IsTrue (known (list_tree g ys))
  known_next k =
      subst (λ zs. IsTrue (known (list_tree g zs))) (sym is)
      (known_with_last g xs y (knows_as (list_tree f xs) (list_tree g xs) (stays_list f g xs stay sure) sure) k)

-- All are folded.
pub listed_all : (p : ℕ → Tree → Option Tree) (i : ℕ) (ts us : Tree) → IsList ts → i ≡ count ts →
    us ≡ folded p 0 (firsts i ts) → us ≡ folded p 0 ts
listed_all p i ts us l e q = q ∙ ap (folded p 0) (ap (λ n. firsts n ts) e ∙ firsts_all ts l)
