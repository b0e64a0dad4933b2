-- Pushing predicates one by one.
use Rattle.std.proofs.Common.{ℕ, suc, ◌+◌, ◌<◌, ◌≤◌, ◌≡◌, ◌⊎◌, refl, sym, ap, ◌∙◌, subst, arith, inl, inr}
use Rattle.std.proofs.Common.{Bool, true, false, IsTrue, List, [], ◌∷◌, ◌++◌, map, length, length-append}
use Rattle.std.proofs.lemmas.Bool.{or_cases, or_parts, false≢true}
use Rattle.std.proofs.lemmas.List.{append_assoc}
use Rattle.std.proofs.lemmas.List.Elements.{All-head, All-tail, Contains-append_cases, Contains-append_left}
use Rattle.std.proofs.lemmas.List.Elements.{Contains-append_right}
use Rattle.std.proofs.lemmas.List.Sorted.{Contains-permutation, IsPermutation-sym}
use Rattle.std.specs.List.{All, Contains, list_any}
use Rattle.std.specs.List.Sorted.{IsPermutation}
use Rattle.relation_terms.specs.Trees.{Tree, known}
use Rattle.relation_terms.specs.Interning.{AreEqualAsTrees}
use Rattle.elaboration_worklist.specs.Pushes.{anon, IsDistinct, Pushes, IsFull}
use Rattle.elaboration_worklist.proofs.Members.{none_in}
use Rattle.elaboration_worklist.proofs.Members.{later_in, in_cases, from_map, map_both}
use Rattle.elaboration_worklist.proofs.Distinct.{distinct_both}
use Rattle.relation_folds.proofs.Lists.{first_in}

-- A list of trees with one more behind.
pub map_push : {A : Type 0} (f : A → Tree) (xs : List A) (x : A) → map f (xs ++ x ∷ []) ≡ map f xs ++ f x ∷ []
map_push f [] x = refl
map_push f (y ∷ ys) x = ap (λ z. f y ∷ z) (map_push f ys x)

pub map_count : {A : Type 0} (f : A → Tree) (xs : List A) → length (map f xs) ≡ length xs
map_count f [] = refl
map_count f (x ∷ xs) = ap suc (map_count f xs)

-- Known keys that are equal exactly where their trees are.
module _ {K : Type 0} (eq : K → K → Bool) (tree : K → Tree) (same : AreEqualAsTrees tree eq) (k : K)
    (sure : IsTrue (known (tree k))) where
  abbrev Sure : K → Type 0
  Sure l = IsTrue (known (tree l))

  pub any_in : (ks : List K) → All Sure ks → list_any (eq k) ks ≡ true → Contains (map tree ks) (tree k)
  any_in [] a h = absurd (false≢true h)
  any_in (l ∷ ls) a h = elim (or_cases (eq k l) (list_any (eq k) ls) h) [
    | inl e ↦ subst (λ z. Contains (tree l ∷ map tree ls) z) (sym ((same k l sure (All-head Sure l ls a)).0 e))
        (first_in (tree l) (map tree ls))
    | inr later ↦ later_in (tree l) (map tree ls) (tree k) (any_in ls (All-tail Sure l ls a) later)
  ]

  pub none_any : (ks : List K) → All Sure ks → list_any (eq k) ks ≡ false → Contains (map tree ks) (tree k) → ⊥
  none_any [] a h c = none_in (tree k) c
  none_any (l ∷ ls) a h c =
      let p = or_parts (eq k l) (list_any (eq k) ls) h in
      elim (in_cases (tree l) (map tree ls) (tree k) c) [
        | inl e ↦ false≢true (sym p.0 ∙ (same k l sure (All-head Sure l ls a)).1 (sym e))
        | inr later ↦ none_any ls (All-tail Sure l ls a) p.1 later
      ]

module _ (name : ℕ) where
  pub pushes_none : (stack visited : List Tree) (limit : ℕ) → length visited ≤ limit →
      Pushes name [] stack visited (stack ++ []) visited limit
  pushes_none stack visited limit h = record {
    new = [];
    stack_is = refl;
    of_them = λ x k. k;
    fresh = λ x k l. none_in x k;
    once = tt;
    all = λ c k. absurd (none_in c k);
    old = λ q k. k;
    only = λ q k. inl k;
    added = omega arith;
    fits = h;
  }

  -- One that was visited is not pushed.
  pub pushed_none : (t : Tree) (stack visited stack' visited' : List Tree) (limit : ℕ) → stack' ≡ stack ++ [] →
      visited' ≡ visited → Contains visited ((anon name) t) → length visited ≤ limit →
      Pushes name (t ∷ []) stack visited stack' visited' limit
  pushed_none t stack visited stack' visited' limit s v c h = record {
    new = [];
    stack_is = s;
    of_them = λ x k. absurd (none_in x k);
    fresh = λ x k l. none_in x k;
    once = tt;
    all = λ x k. elim (in_cases t [] x k) [
      | inl e ↦ subst (λ z. Contains z ((anon name) x)) (sym v) (subst (λ z. Contains visited ((anon name) z)) e c)
      | inr n ↦ absurd (none_in x n)
    ];
    old = λ q k. subst (λ z. Contains z q) (sym v) k;
    only = λ q k. inl (subst (λ z. Contains z q) v k);
    added = (let e = ap length v in omega (arith, e));
    fits = (let e = ap length v in omega (arith, e, h));
  }

  -- One that was not visited is pushed, and is visited from then on.
  pub pushed_one : (t : Tree) (stack visited stack' visited' : List Tree) (limit : ℕ) → stack' ≡ stack ++ t ∷ [] →
      IsPermutation ((anon name) t ∷ visited) visited' → (Contains visited ((anon name) t) → ⊥) →
      length visited' ≡ length visited + 1 → length visited < limit → Pushes name (t ∷ []) stack visited stack'
      visited' limit
  pushed_one t stack visited stack' visited' limit s v c n h = record {
    new = t ∷ [];
    stack_is = s;
    of_them = λ x k. k;
    fresh = λ x k l. elim (in_cases ((anon name) t) [] x k) [
      | inl e ↦ c (subst (λ z. Contains visited z) (sym e) l)
      | inr m ↦ none_in x m
    ];
    once = ((λ k. none_in ((anon name) t) k), tt);
    all = λ x k. elim (in_cases t [] x k) [
      | inl e ↦ Contains-permutation ((anon name) t ∷ visited) visited' ((anon name) x) v
          (subst (λ z. Contains ((anon name) t ∷ visited) ((anon name) z)) e (first_in ((anon name) t) visited))
      | inr m ↦ absurd (none_in x m)
    ];
    old = λ q k. Contains-permutation ((anon name) t ∷ visited) visited' q v (later_in ((anon name) t) visited q k);
    only = λ q k. elim (in_cases ((anon name) t) visited q
        (Contains-permutation visited' ((anon name) t ∷ visited) q (IsPermutation-sym ((anon name) t ∷ visited)
        visited' v) k)) [
          | inl e ↦ inr (subst (λ z. Contains ((anon name) t ∷ []) z) e (first_in ((anon name) t) []))
          | inr l ↦ inl l
        ];
    added = omega (arith, n);
    fits = omega (arith, n, h);
  }

  -- Some are pushed, and then others.
  pub pushes_then : (cs ds s v s' v' s'' v'' : List Tree) (limit : ℕ) → Pushes name cs s v s' v' limit →
      Pushes name ds s' v' s'' v'' limit → Pushes name (cs ++ ds) s v s'' v'' limit
  pushes_then cs ds s v s' v' s'' v'' limit h k = record {
    new = h.new ++ k.new;
    stack_is = k.stack_is ∙ ap (λ z. z ++ k.new) h.stack_is ∙ append_assoc s h.new k.new;
    of_them = λ x m. elim (Contains-append_cases h.new k.new x m) [
      | inl a ↦ Contains-append_left cs ds x (h.of_them x a)
      | inr b ↦ Contains-append_right cs ds x (k.of_them x b)
    ];
    fresh = λ x m l. elim (new_cases x m) [ inl a ↦ h.fresh x a l | inr b ↦ k.fresh x b (h.old x l) ];
    once = subst IsDistinct (sym (map_both (anon name) h.new k.new)) (distinct_both (map (anon name) h.new)
        (map (anon name) k.new) h.once k.once
        (λ q a b. k.fresh q b (first_new q a)));
    all = λ c m. elim (Contains-append_cases cs ds c m) [
      | inl a ↦ k.old ((anon name) c) (h.all c a)
      | inr b ↦ k.all c b
    ];
    old = λ q m. k.old q (h.old q m);
    only = λ q m. elim (k.only q m) [
      | inl a ↦ elim (h.only q a) [
        | inl before ↦ inl before
        | inr new ↦ inr (subst (λ z. Contains z q) (sym (map_both (anon name) h.new k.new))
            (Contains-append_left (map (anon name) h.new) (map (anon name) k.new) q new))
      ]
      | inr b ↦ inr (subst (λ z. Contains z q) (sym (map_both (anon name) h.new k.new))
          (Contains-append_right (map (anon name) h.new) (map (anon name) k.new) q b))
    ];
    added = (let a = h.added in let b = k.added in let l = length-append h.new k.new in omega (arith, a, b, l));
    fits = k.fits;
  }
    where
      new_cases : (x : Tree) → Contains (map (anon name) (h.new ++ k.new)) x → Contains (map (anon name) h.new) x ⊎
          Contains (map (anon name) k.new) x
      new_cases x m = Contains-append_cases (map (anon name) h.new) (map (anon name) k.new) x
          (subst (λ z. Contains z x) (map_both (anon name) h.new k.new) m)

      first_new : (q : Tree) → Contains (map (anon name) h.new) q → Contains v' q
      first_new q a =
          let r = from_map (anon name) h.new q a in
          subst (λ z. Contains v' z) r.2 (h.all r.0 (h.of_them r.0 r.1))

  -- For another list with the same members.
  pub pushes_as : (cs ds s v s' v' : List Tree) (limit : ℕ) → ((x : Tree) → Contains cs x → Contains ds x) →
      ((x : Tree) → Contains ds x → Contains cs x) → Pushes name cs s v s' v' limit → Pushes name ds s v s' v' limit
  pushes_as cs ds s v s' v' limit there back h = record {
    new = h.new;
    stack_is = h.stack_is;
    of_them = λ x k. there x (h.of_them x k);
    fresh = h.fresh;
    once = h.once;
    all = λ c k. h.all c (back c k);
    old = h.old;
    only = h.only;
    added = h.added;
    fits = h.fits;
  }

  -- There is no room for one that was not visited.
  pub full_one : (t : Tree) (visited : List Tree) (limit : ℕ) → (Contains visited (anon name t) → ⊥) →
      limit ≤ length visited → IsFull name (t ∷ []) visited limit
  full_one t visited limit absent room = record {
    more = t ∷ [];
    of_them = λ x m. m;
    fresh = λ x m l. elim (in_cases (anon name t) [] x m) [
      | inl e ↦ absent (subst (λ z. Contains visited z) (sym e) l)
      | inr n ↦ none_in x n
    ];
    once = ((λ m. none_in (anon name t) m), tt);
    too_many = omega (arith, room);
  }

  -- Nor for a list that has these.
  pub full_in : (cs ds visited : List Tree) (limit : ℕ) → ((x : Tree) → Contains cs x → Contains ds x) →
      IsFull name cs visited limit → IsFull name ds visited limit
  full_in cs ds visited limit there h = record {
    more = h.more;
    of_them = λ x m. there x (h.of_them x m);
    fresh = h.fresh;
    once = h.once;
    too_many = h.too_many;
  }

  -- Nor for those and others that were pushed before.
  pub full_then : (cs ds s v s' v' : List Tree) (limit : ℕ) → Pushes name cs s v s' v' limit → IsFull name ds v' limit →
      IsFull name (cs ++ ds) v limit
  full_then cs ds s v s' v' limit h k = record {
    more = h.new ++ k.more;
    of_them = λ x m. elim (Contains-append_cases h.new k.more x m) [
      | inl a ↦ Contains-append_left cs ds x (h.of_them x a)
      | inr b ↦ Contains-append_right cs ds x (k.of_them x b)
    ];
    fresh = λ x m l. elim (Contains-append_cases (map (anon name) h.new) (map (anon name) k.more) x
        (subst (λ z. Contains z x) (map_both (anon name) h.new k.more) m)) [
          | inl a ↦ h.fresh x a l
          | inr b ↦ k.fresh x b (h.old x l)
        ];
    once = subst IsDistinct (sym (map_both (anon name) h.new k.more))
        (distinct_both (map (anon name) h.new) (map (anon name) k.more) h.once k.once
        (λ q a b. k.fresh q b (visited q a)));
    too_many = (
        let a = h.added in
        let b = k.too_many in
        let l = length-append h.new k.more in
        omega (arith, a, b, l)
        );
  }
    where
      visited : (q : Tree) → Contains (map (anon name) h.new) q → Contains v' q
      visited q a =
          let r = from_map (anon name) h.new q a in
          subst (λ z. Contains v' z) r.2 (h.all r.0 (h.of_them r.0 r.1))
