-- What a folder makes of a term, part by part, in an interner that grows meanwhile.
use Rattle.std.proofs.Common.{ℕ, suc, ◌≡◌, IsTrue, Bool, true, false, OnOk, OnErr}
use Rattle.std.proofs.Common.{Option, Some, None, Result, Ok, Err, IfOk, refl}
use Rattle.std.proofs.Common.{ap, ap₂, sym, ◌∙◌}
use Rattle.relation_terms.specs.Heads.{Sort, no_sort, region_sort, type_sort, const_sort, Admits, leaf_sort, head_sort}
use Rattle.relation_terms.specs.Trees.{Tree, leaf, node, bind, nil, cons, IsTerm}
use Rattle.relation_terms.specs.Meaning.{Meaning, Extends}
use Rattle.relation_terms.proofs.Stays.{extends_on, stays_same}
use Rattle.relation_terms.specs.Parts.{tree_sort}
use Rattle.relation_folds.specs.declared.fold.Fold.{Fold}
use Rattle.relation_folds.specs.declared.fold.Fold.TheVariants.{Replace, Descend}
use Rattle.relation_folds.specs.Folds.{Steps, asks, put_or, folded, folded_parts, answered}

-- Where nothing is put, a tree stands as it is.
pub put_none : (a : Bool) (t : Tree) → put_or a None t ≡ t
put_none true t = refl
put_none false t = refl

-- Folders that put the same make the same.
pub folded_alike : (f g : ℕ → Tree → Option Tree) → ((d : ℕ) (t : Tree) → g d t ≡ f d t) → (d : ℕ) (t : Tree) →
    folded g d t ≡ folded f d t
folded_alike f g e d (leaf l) = ap (λ x. put_or (asks (leaf_sort l)) x (leaf l)) (e d (leaf l))
folded_alike f g e d (node h ts) =
    ap₂ (λ x y. put_or (asks (head_sort h)) x (node h y)) (e d (node h ts)) (folded_alike f g e d ts)
folded_alike f g e d (bind ks t) = ap (λ x. bind ks x) (folded_alike f g e (suc d) t)
folded_alike f g e d nil = refl
folded_alike f g e d (cons t ts) = ap₂ (λ x y. cons x y) (folded_alike f g e d t) (folded_alike f g e d ts)

-- What is made later of a tree that stayed is what was made of it first.
pub folded_later : (f g : ℕ → Tree → Option Tree) → ((d : ℕ) (t : Tree) → g d t ≡ f d t) → (d : ℕ) (t u : Tree) →
    u ≡ t → folded g d u ≡ folded f d t
folded_later f g e d t u p = ap (folded g d) p ∙ folded_alike f g e d t

pub parts_later : (f g : ℕ → Tree → Option Tree) → ((d : ℕ) (t : Tree) → g d t ≡ f d t) → (d : ℕ) (t u : Tree) →
    u ≡ t → folded_parts g d u ≡ folded_parts f d t
parts_later f g e d t u p = ap (folded_parts g d) p ∙ parts_alike t
  where
    parts_alike : (t : Tree) → folded_parts g d t ≡ folded_parts f d t
    parts_alike (leaf l) = refl
    parts_alike (node h ts) = ap (λ x. node h x) (folded_alike f g e d ts)
    parts_alike (bind ks t) = ap (λ x. bind ks x) (folded_alike f g e (suc d) t)
    parts_alike nil = refl
    parts_alike (cons t ts) = refl

-- The sorts at whose terms a folder is asked.
asks_of : (s : Sort) → IsTrue (asks s) → (x : Sort) → Admits s x → IsTrue (asks x)
asks_of region_sort a region_sort p = refl
asks_of type_sort a type_sort p = refl
asks_of const_sort a const_sort p = refl
asks_of region_sort a x p = absurd p
asks_of type_sort a x p = absurd p
asks_of const_sort a x p = absurd p
asks_of s a x p = absurd (cc)

-- What is put, and what is left to its parts.
put : (a : Bool) (o : Option Tree) (t by : Tree) → IsTrue a → o ≡ Some by → put_or a o t ≡ by
put true o t by a e = ap (λ x. put_or true x t) e
put false o t by a e = absurd (cc)

left : (a : Bool) (o : Option Tree) (t : Tree) → o ≡ None → put_or a o t ≡ t
left true o t e = ap (λ x. put_or true x t) e
left false o t e = refl

pub folded_put : (s : Sort) → IsTrue (asks s) → (f : ℕ → Tree → Option Tree) (d : ℕ) (t by : Tree) → IsTerm s t →
    f d t ≡ Some by → folded f d t ≡ by
folded_put s a f d (leaf l) by h e =
    put (asks (leaf_sort l)) (f d (leaf l)) (leaf l) by (asks_of s a (leaf_sort l) h) e
folded_put s a f d (node g ts) by h e =
    put (asks (head_sort g)) (f d (node g ts)) (node g (folded f d ts)) by (asks_of s a (head_sort g) h.0) e
folded_put s a f d t by h e = absurd h

pub folded_left : (s : Sort) (f : ℕ → Tree → Option Tree) (d : ℕ) (t : Tree) → IsTerm s t → f d t ≡ None →
    folded f d t ≡ folded_parts f d t
folded_left s f d (leaf l) h e = left (asks (leaf_sort l)) (f d (leaf l)) (leaf l) e
folded_left s f d (node g ts) h e = left (asks (head_sort g)) (f d (node g ts)) (node g (folded f d ts)) e
folded_left s f d t h e = absurd h

-- What is made where an answer is given at a term: what is put, or the term over its folded parts.
module _ {K : Type 0} (s : Sort) (f : ℕ → Tree → Option Tree) (d : ℕ) (t : Tree) (tree : K → Tree) (a : Fold K)
    (is : IsTerm s t) (answers : f d t ≡ answered tree a) where
  pub put_made : IsTrue (asks s) → (by : K) → a ≡ Replace by → tree by ≡ folded f d t
  put_made q by e = sym (folded_put s q f d t (tree by) is (answers ∙ ap (answered tree) e))

  pub left_made : a ≡ Descend → folded f d t ≡ folded_parts f d t
  left_made e = folded_left s f d t is (answers ∙ ap (answered tree) e)

-- A tree at which no folder is asked is left to its parts.
pub unasked_made : (f : ℕ → Tree → Option Tree) (d : ℕ) (t : Tree) → asks (tree_sort t) ≡ false →
    (tree_sort t ≡ no_sort → ⊥) → folded f d t ≡ folded_parts f d t
unasked_made f d (leaf l) a n = ap (λ x. put_or x (f d (leaf l)) (leaf l)) a
unasked_made f d (node h ts) a n = ap (λ x. put_or x (f d (node h ts)) (node h (folded f d ts))) a
unasked_made f d (bind ks t) a n = refl
unasked_made f d nil a n = refl
unasked_made f d (cons t ts) a n = absurd (n refl)

-- One step after another, a growth of the interner after steps, and no step.
module _ {Key Id Name F : Type 0} {Ready : Meaning Key Id Name → F → Type 0}
    {puts : Meaning Key Id Name → F → ℕ → Tree → Option Tree} where
  pub steps_on : {m n o : Meaning Key Id Name} {f g h : F} → Steps Ready puts m f n g → Steps Ready puts n g o h →
      Steps Ready puts m f o h
  steps_on s t = record {
    grown = extends_on s.grown t.grown;
    ready = t.ready;
    kept = λ d x. t.kept d x ∙ s.kept d x;
  }

  pub steps_grown : ((m n : Meaning Key Id Name) → Extends m n → (f : F) → Ready m f → Ready n f) →
      ((m n : Meaning Key Id Name) → Extends m n → (f : F) → Ready m f → (d : ℕ) (t : Tree) →
      puts n f d t ≡ puts m f d t) →
      {m n o : Meaning Key Id Name} {f g : F} → Steps Ready puts m f n g → Extends n o → Steps Ready puts m f o g
  steps_grown r p {n = n} {o = o} {g = g} s e = record {
    grown = extends_on s.grown e;
    ready = r n o e g s.ready;
    kept = λ d x. p n o e g s.ready d x ∙ s.kept d x;
  }

  pub steps_none : (m : Meaning Key Id Name) (f : F) → Ready m f → Steps Ready puts m f m f
  steps_none m f r = record { grown = stays_same m; ready = r; kept = λ d x. refl }

-- What holds anyway holds where a call succeeds, and after a fault.
pub on_ok : {A E : Type 0} (r : Result A E) (P : Type 0) → P → OnOk r P
on_ok (Ok x) P p = p
on_ok (Err e) P p = tt

pub on_err : {A E : Type 0} (r : Result A E) (P : Type 0) → P → OnErr r P
on_err (Ok x) P p = tt
on_err (Err e) P p = p

-- What is said of a success follows from two things that are said of it otherwise.
pub if_ok_both : {A E : Type 0} {P Q R : A → Type 0} (r : Result A E) → ((x : A) → P x → Q x → R x) → IfOk r P →
    IfOk r Q → IfOk r R
if_ok_both (Ok x) f p q = f x p q
if_ok_both (Err e) f p q = p

-- What is made of a part after the steps is what is made of it before them.
pub later : {Key Id Name F : Type 0} {Ready : Meaning Key Id Name → F → Type 0}
    {puts : Meaning Key Id Name → F → ℕ → Tree → Option Tree} {m n : Meaning Key Id Name} {f g : F} →
    Steps Ready puts m f n g → (d : ℕ) (t u v : Tree) → u ≡ t → v ≡ folded (puts n g) d u → v ≡ folded (puts m f) d t
later {puts = puts} {m = m} {n = n} {f = f} {g = g} s d t u v p q =
    q ∙ folded_later (puts m f) (puts n g) s.kept d t u p

-- What the steps before leave as it is, those after leave too.
pub left_later : {Key Id Name F : Type 0} {Ready : Meaning Key Id Name → F → Type 0}
    {puts : Meaning Key Id Name → F → ℕ → Tree → Option Tree} {m n : Meaning Key Id Name} {f g : F} →
    Steps Ready puts m f n g → (d : ℕ) (t u : Tree) → u ≡ t → folded (puts m f) d t ≡ t → folded (puts n g) d u ≡ u
left_later {puts = puts} {m = m} {n = n} {f = f} {g = g} s d t u p q =
    folded_later (puts m f) (puts n g) s.kept d t u p ∙ (q ∙ sym p)
