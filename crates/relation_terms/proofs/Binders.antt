-- Trees under binders, and lists without their last members.
use Rattle.std.proofs.Common.{◌≡◌, ℕ, zero, suc, ◌<◌, Bool, true, false, cond, refl, sym, ap, ap₂, ◌∙◌, subst, arith}
use Rattle.std.proofs.Common.{IsTrue, IsSome, List, [], ◌∷◌, ◌++◌, Option, Some, None}
use Rattle.std.proofs.lemmas.Bool.{and_parts, false≢true}
use Rattle.std.specs.Cmp.Derive.{both_true}
use Rattle.relation_terms.specs.Heads.{Sort, BoundKind, unknown, binder_sort}
use Rattle.relation_terms.specs.Trees.{Tree, leaf, node, bind, nil, cons, known, list_tree, front, last, count, nth, IsList}
use Rattle.relation_terms.specs.Trees.{IsTerm, IsBinder, AreTerms}
use Rattle.relation_terms.specs.Meaning.{under}
use Rattle.relation_terms.specs.Parts.{tree_sort, parts_of, over}
use Rattle.std.proofs.Common.{length, take, ◌-◌}

-- What is known under a binder.
pub under_known : (o : Option (List BoundKind)) (t : Tree) → IsTrue (known (under o t)) → IsSome o × IsTrue (known t)
under_known (Some ks) t k = (refl, k)
under_known None t k = absurd (false≢true k)

pub known_under : (o : Option (List BoundKind)) (t : Tree) → IsSome o → IsTrue (known t) → IsTrue (known (under o t))
known_under (Some ks) t i k = k
known_under None t i k = absurd (false≢true i)

-- Binders of one tree have one list and one body.
pub under_once : (o q : Option (List BoundKind)) (t u : Tree) → IsTrue (known (under o t)) → under o t ≡ under q u →
    (o ≡ q) × (t ≡ u)
under_once (Some ks) (Some ls) t u k e =
    let lists : ks ≡ ls = cc in
    let bodies : t ≡ u = cc in
    (ap (λ x. Some x) lists, bodies)
under_once (Some ks) None t u k e = absurd (cc)
under_once None q t u k e = absurd (false≢true k)

-- The part of a known binder, and the binder over another.
pub under_parts : (o : Option (List BoundKind)) (t : Tree) → IsTrue (known (under o t)) → parts_of (under o t) ≡ cons t nil
under_parts (Some ks) t k = refl
under_parts None t k = absurd (false≢true k)

pub under_over : (o : Option (List BoundKind)) (t u : Tree) → IsTrue (known (under o t)) →
    over (under o t) (cons u nil) ≡ under o u
under_over (Some ks) t u k = refl
under_over None t u k = absurd (false≢true k)

-- A known binder stays where its list and its body do.
pub under_stays : (o q : Option (List BoundKind)) (t u : Tree) → (IsSome o → q ≡ o) → (IsTrue (known t) → u ≡ t) →
    IsTrue (known (under o t)) → under q u ≡ under o t
under_stays o q t u e f k =
    let p = under_known o t k in
    ap₂ (λ x y. under x y) (e p.0) (f p.1)

-- A known binder over a term of a sort.
pub under_sorted : (s : Sort) (o : Option (List BoundKind)) (t : Tree) → IsTrue (known (under o t)) →
    (IsTrue (known t) → IsTerm s t) → IsBinder s (under o t)
under_sorted s (Some ks) t k h = h k
under_sorted s None t k h = absurd (false≢true k)

pub under_sort : (s : Sort) (o : Option (List BoundKind)) (t : Tree) → IsTrue (known (under o t)) →
    (IsTrue (known t) → tree_sort t ≡ s) → tree_sort (under o t) ≡ binder_sort s
under_sort s (Some ks) t k h = ap binder_sort (h k)
under_sort s None t k h = absurd (false≢true k)

pub known_if : (b : Bool) → IsTrue (known (cond b nil (leaf unknown))) → IsTrue b
known_if true k = refl
known_if false k = k

-- Where the front is known, so is the whole list.
pub front_known : (ts : Tree) → IsTrue (known (front ts)) → IsTrue (known ts)
front_known (cons t nil) k = both_true (known_if (known t) k) refl
front_known (cons t (cons u us)) k =
    let p = and_parts (known t) (known (front (cons u us))) k in
    both_true p.0 (front_known (cons u us) p.1)
front_known (cons t (leaf l)) k = absurd (false≢true (and_parts (known t) false k).1)
front_known (cons t (node h us)) k = absurd (false≢true (and_parts (known t) false k).1)
front_known (cons t (bind ks u)) k = absurd (false≢true (and_parts (known t) false k).1)
front_known nil k = absurd (false≢true k)
front_known (leaf l) k = absurd (false≢true k)
front_known (node h us) k = absurd (false≢true k)
front_known (bind ks u) k = absurd (false≢true k)

pub last_known : (ts : Tree) → IsTrue (known (front ts)) → IsTrue (known (last ts))
last_known (cons t nil) k = known_if (known t) k
last_known (cons t (cons u us)) k = last_known (cons u us) (and_parts (known t) (known (front (cons u us))) k).1
last_known (cons t (leaf l)) k = absurd (false≢true (and_parts (known t) false k).1)
last_known (cons t (node h us)) k = absurd (false≢true (and_parts (known t) false k).1)
last_known (cons t (bind ks u)) k = absurd (false≢true (and_parts (known t) false k).1)
last_known nil k = absurd (false≢true k)
last_known (leaf l) k = absurd (false≢true k)
last_known (node h us) k = absurd (false≢true k)
last_known (bind ks u) k = absurd (false≢true k)

-- A known list's front where its last member is all of it.
pub front_one : (t : Tree) → IsTrue (known t) → front (cons t nil) ≡ nil
front_one t k = ap (λ b. cond b nil (leaf unknown)) k

-- A list and one more member.
abbrev pub with_last : Tree → Tree → Tree
with_last (cons t ts) u = cons t (with_last ts u)
with_last ts u = cons u nil

-- A list is its front and its last member.
pub front_and_last : (ts : Tree) → IsTrue (known (front ts)) → with_last (front ts) (last ts) ≡ ts
front_and_last (cons t nil) k = ap (λ x. with_last x t) (front_one t (known_if (known t) k))
front_and_last (cons t (cons u us)) k =
    ap (λ x. cons t x) (front_and_last (cons u us) (and_parts (known t) (known (front (cons u us))) k).1)
front_and_last (cons t (leaf l)) k = absurd (false≢true (and_parts (known t) false k).1)
front_and_last (cons t (node h us)) k = absurd (false≢true (and_parts (known t) false k).1)
front_and_last (cons t (bind ks u)) k = absurd (false≢true (and_parts (known t) false k).1)
front_and_last nil k = absurd (false≢true k)
front_and_last (leaf l) k = absurd (false≢true k)
front_and_last (node h us) k = absurd (false≢true k)
front_and_last (bind ks u) k = absurd (false≢true k)

-- Lists of one front and one last member are one.
pub front_last_once : (ts us : Tree) → IsTrue (known (front ts)) → front ts ≡ front us → last ts ≡ last us → ts ≡ us
front_last_once ts us k e f =
    let l : IsTrue (known (front us)) = subst (λ x. IsTrue (known x)) e k in
    sym (front_and_last ts k) ∙ ap₂ (λ x y. with_last x y) e f ∙ front_and_last us l

-- The front of a list, as its members but the last.
pub front_list : {A : Type 0} (f : A → Tree) (xs : List A) → IsTrue (known (front (list_tree f xs))) →
    list_tree f (take (length xs - 1) xs) ≡ front (list_tree f xs)
front_list f [] k = absurd (false≢true k)
front_list f (x ∷ []) k = sym (front_one (f x) (known_if (known (f x)) k))
front_list f (x ∷ y ∷ ys) k =
    let p = and_parts (known (f x)) (known (front (list_tree f (y ∷ ys)))) k in
    let e : length (x ∷ y ∷ ys) - 1 ≡ suc (length (y ∷ ys) - 1) = omega arith in
    ap (λ n. list_tree f (take n (x ∷ y ∷ ys))) e ∙ ap (λ z. cons (f x) z) (front_list f (y ∷ ys) p.1)

-- The front has one member fewer, those of the list but for the last.
pub front_count : (ts : Tree) → IsTrue (known (front ts)) → suc (count (front ts)) ≡ count ts
front_count (cons t nil) k = ap (λ x. suc (count x)) (front_one t (known_if (known t) k))
front_count (cons t (cons u us)) k =
    ap suc (front_count (cons u us) (and_parts (known t) (known (front (cons u us))) k).1)
front_count (cons t (leaf l)) k = absurd (false≢true (and_parts (known t) false k).1)
front_count (cons t (node h us)) k = absurd (false≢true (and_parts (known t) false k).1)
front_count (cons t (bind ks u)) k = absurd (false≢true (and_parts (known t) false k).1)
front_count nil k = absurd (false≢true k)
front_count (leaf l) k = absurd (false≢true k)
front_count (node h us) k = absurd (false≢true k)
front_count (bind ks u) k = absurd (false≢true k)

pub front_is : (ts : Tree) → IsTrue (known (front ts)) → IsList (front ts)
front_is (cons t nil) k = subst IsList (sym (front_one t (known_if (known t) k))) tt
front_is (cons t (cons u us)) k = front_is (cons u us) (and_parts (known t) (known (front (cons u us))) k).1
front_is (cons t (leaf l)) k = absurd (false≢true (and_parts (known t) false k).1)
front_is (cons t (node h us)) k = absurd (false≢true (and_parts (known t) false k).1)
front_is (cons t (bind ks u)) k = absurd (false≢true (and_parts (known t) false k).1)
front_is nil k = absurd (false≢true k)
front_is (leaf l) k = absurd (false≢true k)
front_is (node h us) k = absurd (false≢true k)
front_is (bind ks u) k = absurd (false≢true k)

pub front_nth : (ts : Tree) (i : ℕ) → IsTrue (known (front ts)) → i < count (front ts) → nth i (front ts) ≡ nth i ts
front_nth (cons t nil) i k h =
    let e = ap count (front_one t (known_if (known t) k)) in
    absurd (omega (arith, h, e))
front_nth (cons t (cons u us)) zero k h = refl
front_nth (cons t (cons u us)) (suc i) k h =
    front_nth (cons u us) i (and_parts (known t) (known (front (cons u us))) k).1 (omega (arith, h))
front_nth (cons t (leaf l)) i k h = absurd (false≢true (and_parts (known t) false k).1)
front_nth (cons t (node g us)) i k h = absurd (false≢true (and_parts (known t) false k).1)
front_nth (cons t (bind ks u)) i k h = absurd (false≢true (and_parts (known t) false k).1)
front_nth nil i k h = absurd (false≢true k)
front_nth (leaf l) i k h = absurd (false≢true k)
front_nth (node g us) i k h = absurd (false≢true k)
front_nth (bind ks u) i k h = absurd (false≢true k)

pub last_nth : (ts : Tree) → IsTrue (known (front ts)) → last ts ≡ nth (count (front ts)) ts
last_nth (cons t nil) k = ap (λ x. nth (count x) (cons t nil)) (sym (front_one t (known_if (known t) k)))
last_nth (cons t (cons u us)) k = last_nth (cons u us) (and_parts (known t) (known (front (cons u us))) k).1
last_nth (cons t (leaf l)) k = absurd (false≢true (and_parts (known t) false k).1)
last_nth (cons t (node h us)) k = absurd (false≢true (and_parts (known t) false k).1)
last_nth (cons t (bind ks u)) k = absurd (false≢true (and_parts (known t) false k).1)
last_nth nil k = absurd (false≢true k)
last_nth (leaf l) k = absurd (false≢true k)
last_nth (node h us) k = absurd (false≢true k)
last_nth (bind ks u) k = absurd (false≢true k)

-- A list and one more: that one is the last, and the list is the front.
pub list_with_last : {A : Type 0} (f : A → Tree) (xs : List A) (x : A) →
    list_tree f (xs ++ x ∷ []) ≡ with_last (list_tree f xs) (f x)
list_with_last f [] x = refl
list_with_last f (y ∷ ys) x = ap (λ z. cons (f y) z) (list_with_last f ys x)

pub front_made : {A : Type 0} (f : A → Tree) (xs : List A) (x : A) → IsTrue (known (f x)) →
    front (list_tree f (xs ++ x ∷ [])) ≡ list_tree f xs
front_made f [] x k = front_one (f x) k
front_made f (y ∷ []) x k = ap (λ z. cons (f y) z) (front_one (f x) k)
front_made f (y ∷ z ∷ zs) x k = ap (λ w. cons (f y) w) (front_made f (z ∷ zs) x k)

pub last_made : {A : Type 0} (f : A → Tree) (xs : List A) (x : A) → last (list_tree f (xs ++ x ∷ [])) ≡ f x
last_made f [] x = refl
last_made f (y ∷ []) x = refl
last_made f (y ∷ z ∷ zs) x = last_made f (z ∷ zs) x

-- The front and the last of a list of terms of a sort.
pub front_terms : (s : Sort) (ts : Tree) → IsTrue (known (front ts)) → AreTerms s ts → AreTerms s (front ts)
front_terms s (cons t nil) k h = subst (AreTerms s) (sym (front_one t (known_if (known t) k))) tt
front_terms s (cons t (cons u us)) k h =
    (h.0, front_terms s (cons u us) (and_parts (known t) (known (front (cons u us))) k).1 h.1)
front_terms s (cons t (leaf l)) k h = absurd h.1
front_terms s (cons t (node g us)) k h = absurd h.1
front_terms s (cons t (bind ks u)) k h = absurd h.1
front_terms s nil k h = absurd (false≢true k)
front_terms s (leaf l) k h = absurd h
front_terms s (node g us) k h = absurd h
front_terms s (bind ks u) k h = absurd h

pub last_term : (s : Sort) (ts : Tree) → IsTrue (known (front ts)) → AreTerms s ts → IsTerm s (last ts)
last_term s (cons t nil) k h = h.0
last_term s (cons t (cons u us)) k h = last_term s (cons u us) (and_parts (known t) (known (front (cons u us))) k).1 h.1
last_term s (cons t (leaf l)) k h = absurd h.1
last_term s (cons t (node g us)) k h = absurd h.1
last_term s (cons t (bind ks u)) k h = absurd h.1
last_term s nil k h = absurd (false≢true k)
last_term s (leaf l) k h = absurd h
last_term s (node g us) k h = absurd h
last_term s (bind ks u) k h = absurd h
