-- Arguments that are made one after another for the generic parameters of an item.
use Rattle.std.proofs.Common.{◌≡◌, ℕ, zero, suc, ◌+◌, ◌<◌, ◌≤◌, List, [], ◌∷◌, ◌++◌, map, drop, length, get_or}
use Rattle.std.proofs.Common.{sym, ap, ap₂, ◌∙◌, add-one, arith}
use Rattle.std.proofs.lemmas.List.{drop_all, length-map}
use Rattle.relation_terms.specs.Heads.{BoundKind}
use Rattle.relation_terms.specs.Trees.{Tree, cons, list_tree}
use Rattle.relation_terms.specs.Meaning.{Meaning, Extends}
use Rattle.relation_terms.specs.Edits.{put_before, param_tree, params_from, error_tree, error_trees}
use Rattle.relation_terms.proofs.Edits.{list_nothing_before}

-- An item's parameters stay while an interner grows, and are as many as were read.
pub stays_params : {Key Id Name : Type 0} {m n : Meaning Key Id Name} → Extends m n → (d : Id) →
    (n.tables).params (n.id d) ≡ (m.tables).params (m.id d)
stays_params e d = ap₂ (λ t i. t.params i) e.tables (e.id d)

pub as_many : {N : Type 0} (f : N → BoundKind) (ps : List N) (ks : List BoundKind) → map f ps ≡ ks →
    length ks ≡ length ps
as_many f ps ks m = ap length (sym m) ∙ length-map ps f

-- One more argument, before what is still to come.
pub next_before : {A : Type 0} (f : A → Tree) (xs : List A) (x : A) (t rest : Tree) → f x ≡ t →
    put_before (list_tree f (xs ++ x ∷ [])) rest ≡ put_before (list_tree f xs) (cons t rest)
next_before f [] x t rest e = ap (λ z. cons z rest) e
next_before f (y ∷ ys) x t rest e = ap (cons (f y)) (next_before f ys x t rest e)

-- The parameters from a place on are that one and those behind it.
after_first : {N : Type 0} (f : N → BoundKind) (ps : List N) (i : ℕ) (p : N) → i < length ps → p ≡ get_or ps i p →
    drop i (map f ps) ≡ f p ∷ drop (suc i) (map f ps)
after_first f [] i p h e = absurd (omega arith)
after_first f (q ∷ ps) zero p h e = ap (λ z. f z ∷ map f ps) (sym e)
after_first f (q ∷ ps) (suc i) p h e = after_first f ps i p (omega arith) e

pub param_at : {N : Type 0} (f : N → BoundKind) (ps : List N) (ks : List BoundKind) (i : ℕ) (p : N) → map f ps ≡ ks →
    i < length ps → p ≡ get_or ps i p → drop i ks ≡ f p ∷ drop (i + 1) ks
param_at f ps ks i p m h e =
    ap (drop i) (sym m) ∙ after_first f ps i p h e ∙ ap (λ z. f p ∷ drop (suc i) z) m
    ∙ ap (λ j. f p ∷ drop j ks) (sym (add-one i))

-- What is made, while an interner grows, of the arguments so far and one more: a parameter as itself, or an error.
module _ {A : Type 0} (f g : A → Tree) (xs : List A) (x : A) (i : ℕ) (k : BoundKind) (ks : List BoundKind) (w : Tree)
    (s : list_tree g xs ≡ list_tree f xs) (d : drop i ks ≡ k ∷ drop (i + 1) ks) where
  pub identity_next : g x ≡ param_tree i k → put_before (list_tree f xs) (params_from i (drop i ks)) ≡ w →
      put_before (list_tree g (xs ++ x ∷ [])) (params_from (i + 1) (drop (i + 1) ks)) ≡ w
  identity_next e o =
      let rest = params_from (i + 1) (drop (i + 1) ks) in
      next_before g xs x (param_tree i k) rest e
      ∙ ap (λ z. put_before z (cons (param_tree i k) rest)) s
      ∙ ap (λ j. put_before (list_tree f xs) (cons (param_tree i k) (params_from j (drop (i + 1) ks)))) (add-one i)
      ∙ ap (λ z. put_before (list_tree f xs) (params_from i z)) (sym d) ∙ o

  pub errors_next : g x ≡ error_tree k → put_before (list_tree f xs) (error_trees (drop i ks)) ≡ w →
      put_before (list_tree g (xs ++ x ∷ [])) (error_trees (drop (i + 1) ks)) ≡ w
  errors_next e o =
      let rest = error_trees (drop (i + 1) ks) in
      next_before g xs x (error_tree k) rest e
      ∙ ap (λ z. put_before z (cons (error_tree k) rest)) s
      ∙ ap (λ z. put_before (list_tree f xs) (error_trees z)) (sym d) ∙ o

-- At the end nothing is still to come.
module _ {A : Type 0} (f : A → Tree) (xs : List A) (i : ℕ) (ks : List BoundKind) (w : Tree) (h : length ks ≤ i) where
  pub identity_made : put_before (list_tree f xs) (params_from i (drop i ks)) ≡ w → list_tree f xs ≡ w
  identity_made o = sym (list_nothing_before f xs)
      ∙ ap (λ z. put_before (list_tree f xs) (params_from i z)) (sym (drop_all i ks h)) ∙ o

  pub errors_made : put_before (list_tree f xs) (error_trees (drop i ks)) ≡ w → list_tree f xs ≡ w
  errors_made o = sym (list_nothing_before f xs)
      ∙ ap (λ z. put_before (list_tree f xs) (error_trees z)) (sym (drop_all i ks h)) ∙ o
