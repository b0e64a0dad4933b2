-- What traits state, and lists of it, as they are made.
use Rattle.std.proofs.Common.{◌≡◌, ℕ, IsTrue, List, [], ◌∷◌, ◌++◌, map, Option, Some, refl, sym, ap, ◌∙◌, subst}
use Rattle.std.specs.List.{All}
use Rattle.std.proofs.lemmas.List.Elements.{All-nil, All-push}
use Rattle.relation_terms.specs.Heads.{BoundKind, atom, unstable_feature}
use Rattle.relation_terms.specs.Trees.{Tree, leaf, known}
use Rattle.relation_terms.specs.Meaning.{under}
use Rattle.relation_terms.specs.Owned.{IsOwn}

-- That a feature is allowed, under a binder that binds nothing, binds nothing itself.
pub feature_is_stated : (o : Option (List BoundKind)) (t : Tree) (n : ℕ) → o ≡ Some [] →
    t ≡ under o (leaf (atom (unstable_feature n))) → IsTrue (known t) × IsOwn t
feature_is_stated o t n e f =
    subst (λ u. IsTrue (known u) × IsOwn u) (sym (f ∙ ap (λ q. under q (leaf (atom (unstable_feature n)))) e))
    (refl, (tt, refl))

-- What holds of the one thing that was put into a list holds of all in it, and what holds of a part of it of all parts.
pub all_of_one : {A : Type 0} (P : A → Type 0) (xs ys : List A) (x : A) → ys ≡ [] → xs ≡ ys ++ x ∷ [] → P x → All P xs
all_of_one P xs ys x e f p =
    subst (All P) (sym (f ∙ ap (λ zs. zs ++ x ∷ []) e)) (All-push P [] x (All-nil P) p)

pub all_parts_of_one : {A B : Type 0} (P : B → Type 0) (part : A → B) (xs ys : List A) (x : A) → ys ≡ [] →
    xs ≡ ys ++ x ∷ [] → P (part x) → All P (map part xs)
all_parts_of_one P part xs ys x e f p =
    subst (λ zs. All P (map part zs)) (sym (f ∙ ap (λ zs. zs ++ x ∷ []) e)) (All-push P [] (part x) (All-nil P) p)
