-- What calls on a walk do to it.
use Rattle.std.proofs.Common.{◌≡◌, ◌-◌, ℕ, zero, suc, Bool, true, false, cond, IsTrue, refl, sym, ap, ap₂, ◌∙◌, subst}
use Rattle.std.proofs.Common.{arith, List, [], ◌∷◌, ◌++◌, map, length, take, drop, Option, Some, None, Ok}
use Rattle.std.specs.List.{list_any}
use Rattle.std.specs.Option.{unwrap_or}
use Rattle.std.proofs.lemmas.Bool.{and_parts}
use Rattle.std.proofs.lemmas.List.{map-append, length-append, length-drop, take-append-drop, take_at, drop_at}
use Rattle.relation_terms.specs.Trees.{Tree, known}
use Rattle.relation_terms.specs.Meaning.{Meaning, arg_tree}
use Rattle.relation_terms.specs.declared.terms.generic_arg.GenericArgKind.{GenericArgKind}
use Rattle.walk.specs.Places.{places_under, all_known, Pushes}
use Rattle.traversal.specs.Keeping.{Adds}
use Rattle.traversal.specs.Unseen.{first_unseen, Pops}
use Rattle.walk.specs.Walking.{Walk, walk_of, Pull}
use Rattle.walk.proofs.Placing.{all_known_both, under_known}

-- Of the first that was not seen, what is known of all.
pub at_head : {T : Type 0} (y : T) (ys : List T) (o : Option (T × List T)) (x : T) (rest : List T) (b : Bool)
    (A : Type 0) → cond b o (Some (y, ys)) ≡ Some (x, rest) → (b ≡ true → o ≡ Some (x, rest) → A) →
    (b ≡ false → y ≡ x → ys ≡ rest → A) → A
at_head {T} y ys o x rest true A e f k = f refl e
at_head {T} y ys o x rest false A e f k =
    k refl (ap (λ (q : Option (T × List T)). (unwrap_or q (y, ys)).0) e) (ap (λ (q : Option (T × List T)). (unwrap_or q (y, ys)).1) e)

pub unseen_known : {T : Type 0} (f : T → Tree) (p : T → Bool) (xs : List T) (x : T) (rest : List T) →
    first_unseen p xs ≡ Some (x, rest) → IsTrue (all_known (map f xs)) →
    IsTrue (known (f x)) × IsTrue (all_known (map f rest))
unseen_known f p [] x rest e k = absurd (cc)
unseen_known {T} f p (y ∷ ys) x rest e k =
    let o = and_parts (known (f y)) (all_known (map f ys)) k in
    at_head y ys (first_unseen p ys) x rest (p y) (IsTrue (known (f x)) × IsTrue (all_known (map f rest))) e
    (λ b h. unseen_known f p ys x rest h o.1)
    (λ b h i. (subst (λ z. IsTrue (known (f z))) h o.0, subst (λ z. IsTrue (all_known (map f z))) i o.1))

pub known_drop : {T : Type 0} (f : T → Tree) (n : ℕ) (xs : List T) → IsTrue (all_known (map f xs)) →
    IsTrue (all_known (map f (drop n xs)))
known_drop f zero xs k = k
known_drop f (suc n) [] k = k
known_drop f (suc n) (x ∷ xs) k = known_drop f n xs (and_parts (known (f x)) (all_known (map f xs)) k).1

take_none : {T : Type 0} (xs : List T) (n : ℕ) → xs ≡ [] → take n xs ≡ []
take_none [] zero e = refl
take_none [] (suc n) e = refl
take_none (x ∷ xs) n e = absurd (cc)

drop_none : {T : Type 0} (xs : List T) (n : ℕ) → xs ≡ [] → drop n xs ≡ []
drop_none [] zero e = refl
drop_none [] (suc n) e = refl
drop_none (x ∷ xs) n e = absurd (cc)

abbrev walk_with : {I Arg : Type 0} → I → List Arg → List Arg → List Arg → Bool → Walk I Arg
walk_with cx inside after visited failed =
    record { cx = cx; inside = inside; after = after; visited = visited; failed = failed }

-- A walk of which nothing is left, and one whose last subtree was skipped.
walk_ended : {I Arg : Type 0} (cx : I) (t : List Arg) (b : ℕ) (vs : List Arg) (f : Bool) → t ≡ [] →
    walk_of cx t b vs f ≡ walk_with cx [] [] vs f
walk_ended cx t b vs f e =
    ap₂ (λ i a. walk_with cx i a vs f) (take_none t (length t - b) e) (drop_none t (length t - b) e)

pub walk_skipped : {I Arg : Type 0} (cx : I) (s t : List Arg) (b : ℕ) (vs : List Arg) (f : Bool) →
    t ≡ drop (length s - b) s → walk_of cx t b vs f ≡ record (walk_of cx s b vs f) { inside = [] }
walk_skipped cx s t b vs f e =
    let n = length-drop (length s - b) s in
    let m : length t ≡ length (drop (length s - b) s) = ap length e in
    let z : length t - b ≡ 0 = omega (arith, n, m) in
    ap₂ (λ i a. walk_with cx i a vs f) (ap (λ k. take k t) z) (ap (λ k. drop k t) z ∙ e)

todo_is : {T : Type 0} (s : List T) (b : ℕ) → take (length s - b) s ++ drop (length s - b) s ≡ s
todo_is s b = take-append-drop (length s - b) s

pub pulled_none : {I A : Type 0} (eq : A → A → Bool) (cx : I) (s t vs us : List A) (f : Bool) (b c : ℕ) → f ≡ false →
    Pops eq vs s None t us →
    (f ≡ false)
    × (first_unseen (λ q. list_any (eq q) vs) (take (length s - b) s ++ drop (length s - b) s) ≡ None)
    × (walk_of cx t c us f ≡ walk_with cx [] [] vs f)
pulled_none eq cx s t vs us f b c held p = (
  held,
  ap (first_unseen (λ q. list_any (eq q) vs)) (todo_is s b) ∙ p.0,
  walk_ended cx t c us f p.1 ∙ ap (λ z. walk_with cx [] [] z f) p.2,
)

module _ {Key Id Name : Type 0} (m : Meaning Key Id Name) (eq : GenericArgKind Key → GenericArgKind Key → Bool)
    (s t vs : List (GenericArgKind Key)) (x : GenericArgKind Key) (rest : List (GenericArgKind Key))
    (n : first_unseen (λ q. list_any (eq q) vs) s ≡ Some (x, rest)) where
  pub pulled_one : {I : Type 0} (E : Type 0) (cx : I) (us : List (GenericArgKind Key)) (f : Bool) (b c : ℕ) → f ≡ false →
      IsTrue (known (arg_tree m x)) → c ≡ length rest → Pushes m (places_under (arg_tree m x)) rest t →
      Adds eq vs x us → Pull m eq {E = E} (walk_of cx s b vs f) (Some (Ok x)) (walk_of cx t c us f)
  pulled_one E cx us f b c held k h p a =
      let len = length-append p.0 rest in
      let is = ap length p.1 in
      let cut : length p.0 ≡ length t - c = omega (arith, len, is, h) in
      let taken : take (length t - c) t ≡ p.0 =
      ap (take (length t - c)) p.1 ∙ take_at p.0 rest (length t - c) cut in
      let dropped : drop (length t - c) t ≡ rest =
      ap (drop (length t - c)) p.1 ∙ drop_at p.0 rest (length t - c) cut in (
        held,
        held,
        refl,
        k,
        ap (first_unseen (λ q. list_any (eq q) vs)) (todo_is s b) ∙ n ∙ ap (λ z. Some (x, z)) (sym dropped),
        ap (map (arg_tree m)) taken ∙ p.2,
        a,
      )

  pub known_after : IsTrue (all_known (map (arg_tree m) s)) → Pushes m (places_under (arg_tree m x)) rest t →
      IsTrue (all_known (map (arg_tree m) t))
  known_after k p =
      let o = unseen_known (arg_tree m) (λ q. list_any (eq q) vs) s x rest n k in
      subst (λ z. IsTrue (all_known z)) (sym (ap (map (arg_tree m)) p.1 ∙ map-append (arg_tree m) p.0 rest))
      (all_known_both (map (arg_tree m) p.0) (map (arg_tree m) rest)
      (subst (λ z. IsTrue (all_known z)) (sym p.2) (under_known (arg_tree m x) o.0)) o.1)
