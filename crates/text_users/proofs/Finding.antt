-- What a table holds of methods, and finds.
use Rattle.std.proofs.Common.{◌≡◌, ℕ, ◌+◌, ◌<◌, List, [], ◌∷◌, ◌++◌, map, take, get_or, length, refl, sym, ap, ◌∙◌, subst, Contains}
use Rattle.std.specs.List.{All}
use Rattle.std.proofs.lemmas.List.{take_more, map-append}
use Rattle.std.proofs.lemmas.List.Elements.{All-push, All-weaker, Contains-push, Contains-append_left}
use Rattle.relation_terms.specs.Meaning.{Meaning}
use Rattle.relation_terms.specs.declared.terms.keys.TyKey.{TyKey}
use Rattle.relation_methods.specs.Methods.{MethodEntry, Appends, LeavesOutApart}
use Rattle.relation_methods.proofs.Finding.{value_found}
use Rattle.text_users.specs.Found.{Holds, IsFoundOrApart}
use Rattle.text_users.specs.declared.methods.GenericMethod.{GenericMethod}

module _ {Key Id Name N : Type 0} (m : Meaning Key Id Name) where
  -- The next method was inserted.
  pub held_more : (x : GenericMethod Key N) (old new : List (MethodEntry Key Id N)) (ms : List (GenericMethod Key N))
      (i : ℕ) → Appends m x.of x.name old new → x ≡ get_or ms i x → i < length ms → All (Holds old) (take i ms) →
      All (Holds new) (take (i + 1) ms)
  held_more x old new ms i a e h so_far =
      subst (All (Holds new)) (ap (λ y. take i ms ++ y ∷ []) e ∙ sym (take_more ms i x h))
      (All-push (Holds new) (take i ms) x (All-weaker (Holds old) (Holds new) older (take i ms) so_far)
      (a.entry, subst (λ es. Contains es a.entry) (sym a.last) (Contains-push old a.entry), a.of_type, a.has_value))
    where
      older : (y : GenericMethod Key N) → Holds old y → Holds new y
      older y p = (p.0, subst (λ es. Contains es p.0) (sym a.last) (Contains-append_left old (a.entry ∷ []) p.0 p.1), p.2, p.3)

  -- What a table finds of the methods that it holds.
  pub all_found : (t : TyKey Key) (ms : List (GenericMethod Key N)) (es found : List (MethodEntry Key Id N))
      (names : List N) → All (Holds es) ms → LeavesOutApart m t es found → names ≡ map (λ (e : MethodEntry Key Id N). e.value) found →
      All (IsFoundOrApart m t names) ms
  all_found t ms es found names held leaves n =
      All-weaker (Holds es) (IsFoundOrApart m t names)
      (λ x p. value_found m t es found names x.of x.name p.0 leaves p.1 p.2 p.3 n) ms held

-- One more name, of the next member of a list.
pub named_more : {E N : Type 0} (xs : List E) (f : E → N) (x : E) (i : ℕ) (before after : List N) → x ≡ get_or xs i x →
    i < length xs → before ≡ map f (take i xs) → after ≡ before ++ f x ∷ [] → after ≡ map f (take (i + 1) xs)
named_more xs f x i before after e h b a =
    a ∙ ap (λ ys. ys ++ f x ∷ []) b ∙ sym (map-append f (take i xs) (x ∷ []))
    ∙ sym (ap (map f) (take_more xs i x h ∙ ap (λ y. take i xs ++ y ∷ []) (sym e)))

-- One function behind another.
pub mapped_twice : {E F N : Type 0} (xs : List E) (g : E → F) (f : F → N) → map (λ x. f (g x)) xs ≡ map f (map g xs)
mapped_twice [] g f = refl
mapped_twice (x ∷ xs) g f = ap (λ ys. f (g x) ∷ ys) (mapped_twice xs g f)
