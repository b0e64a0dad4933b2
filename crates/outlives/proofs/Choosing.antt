-- The components of a list are those of the members that are chosen, place by place.
use Rattle.std.proofs.Common.{◌≡◌, ◌<◌, ◌≤◌, ◌+◌, ◌-◌, ◌∙◌, ℕ, zero, suc, Bool, true, false, cond, nat_lt, ◌&&◌, refl, sym, ap, ap₂, subst, arith}
use Rattle.std.proofs.Common.{List, [], ◌∷◌, ◌++◌}
use Rattle.std.proofs.lemmas.Bool.{lt-ltb, le-ltb, ltb-true, ltb-false}
use Rattle.relation_terms.specs.Trees.{Tree, leaf, node, bind, nil, cons, count, nth, IsList}
use Rattle.relation_terms.specs.Meaning.{Meaning}
use Rattle.relation_terms.specs.Orders.{Order, in_turn, first_last, place_at, list_order}
use Rattle.relation_terms.specs.Parts.{tree_sort}
use Rattle.relation_terms.specs.Closures.{is_type_sort}
use Rattle.relation_terms.specs.declared.terms.part_kind.Parts.{Parts}
use Rattle.component_parts.specs.Components.{Choice, every, no_member, no_region, last_types, not_bivariant, takes, choice_behind, components}
use Rattle.outlives.specs.Outliving.{SomeIs, HasAll}
use Rattle.component_parts.specs.Choosing.{behind_all, meant, places_count, chosen_at}
use Rattle.component_parts.specs.declared.Chosen.{Chosen}
use Rattle.component_parts.specs.declared.Chosen.TheVariants.{Every, NoMember, NoRegion, LastTypes, NotBivariant}
use Rattle.outlives.specs.Collecting.{of_member}
use Rattle.outlives.specs.declared.Component.{Component}
use Rattle.outlives.proofs.Outliving.{in_left, in_right, has_both}
use Rattle.relation_folds.proofs.Visiting.{rest}

behind_none : (c : Choice) → behind_all 0 c ≡ c
behind_none (not_bivariant vs) = refl
behind_none every = refl
behind_none no_member = refl
behind_none no_region = refl
behind_none (last_types n) = refl

behind_one : (i : ℕ) (c : Choice) → behind_all (suc i) c ≡ behind_all i (choice_behind c)
behind_one zero (not_bivariant []) = refl
behind_one (suc i) (not_bivariant []) = refl
behind_one i (not_bivariant (v ∷ vs)) = refl
behind_one i every = refl
behind_one i no_member = refl
behind_one i no_region = refl
behind_one i (last_types n) = refl

-- The components of the member at a place, by what was read there.
pub member_is : (c : Choice) (i : ℕ) (ts x : Tree) (b : Bool) → i < count ts → x ≡ nth i ts →
    b ≡ takes (behind_all i c) x (rest (suc i) ts) → of_member c i ts ≡ cond b (components every x) []
member_is c zero (cons t ts) x b l e f =
    ap (λ z. cond (takes c z ts) (components every z) []) (sym e)
    ∙ ap (λ z. cond z (components every x) []) (sym (f ∙ ap (λ z. takes z x ts) (behind_none c)))
member_is c (suc i) (cons t ts) x b l e f =
    member_is (choice_behind c) i ts x b (omega (arith, l)) e (f ∙ ap (λ z. takes z x (rest (suc i) ts)) (behind_one i c))
member_is c i (leaf y) x b l e f = absurd (omega (arith, l))
member_is c i (node h ts) x b l e f = absurd (omega (arith, l))
member_is c i (bind ks t) x b l e f = absurd (omega (arith, l))
member_is c i nil x b l e f = absurd (omega (arith, l))

-- Those of a member are among those of the list.
pub member_in : (c : Choice) (i : ℕ) (ts : Tree) (P : Tree → Type 0) → SomeIs P (of_member c i ts) →
    SomeIs P (components c ts)
member_in c zero (cons t ts) P s = in_left (cond (takes c t ts) (components every t) []) (components (choice_behind c) ts) P s
member_in c (suc i) (cons t ts) P s =
    in_right (cond (takes c t ts) (components every t) []) (components (choice_behind c) ts) P (member_in (choice_behind c) i ts P s)
member_in c zero (leaf y) P s = absurd s
member_in c zero (node h ts) P s = absurd s
member_in c zero (bind ks t) P s = absurd s
member_in c zero nil P s = absurd s
member_in c (suc i) (leaf y) P s = absurd s
member_in c (suc i) (node h ts) P s = absurd s
member_in c (suc i) (bind ks t) P s = absurd s
member_in c (suc i) nil P s = absurd s

-- A list that has those of each member has those of all.
pub has_members : {X D N : Type 0} (m : Meaning X D N) (cs : List (Component X D N)) (c : Choice) (ts : Tree) → IsList ts →
    ((i : ℕ) → i < count ts → HasAll m (of_member c i ts) cs) → HasAll m (components c ts) cs
has_members m cs c nil l f = tt
has_members m cs c (cons t ts) l f =
    has_both m (cond (takes c t ts) (components every t) []) (components (choice_behind c) ts) cs (f 0 (omega arith))
    (has_members m cs (choice_behind c) ts l (λ i h. f (suc i) (omega (arith, h))))
has_members m cs c (leaf x) l f = absurd l
has_members m cs c (node h ts) l f = absurd l
has_members m cs c (bind ks t) l f = absurd l

-- Whatever the order, each place is come to.
pub each_place : (o : Order) (n : ℕ) (Q : ℕ → Type 0) → ((k : ℕ) → k < n → Q (place_at o n k)) → (i : ℕ) → i < n → Q i
each_place in_turn n Q f i l = f i l
each_place first_last n Q f zero l =
    let last : nat_lt (suc (n - 1)) n ≡ false = le-ltb (suc (n - 1)) n (omega (arith, l)) in
    subst Q (ap (λ b. cond b (suc (n - 1)) 0) last) (f (n - 1) (omega (arith, l)))
each_place first_last n Q f (suc i) l =
    subst Q (ap (λ b. cond b (suc i) 0) (lt-ltb (suc i) n l)) (f i (omega (arith, l)))

and_false : (b : Bool) → b && false ≡ false
and_false true = refl
and_false false = refl

-- No member that so many others stand behind is among the last types.
behind_last : (n i : ℕ) (ts : Tree) → n + suc i ≤ count ts → of_member (last_types n) i ts ≡ []
behind_last n zero (cons t ts) l =
    ap (λ z. cond z (components every t) [])
    (ap (λ z. is_type_sort (tree_sort t) && z) (le-ltb (count ts) n (omega (arith, l)))
    ∙ and_false (is_type_sort (tree_sort t)))
behind_last n (suc i) (cons t ts) l = behind_last n i ts (omega (arith, l))
behind_last n i (leaf x) l = absurd (omega (arith, l))
behind_last n i (node h ts) l = absurd (omega (arith, l))
behind_last n i (bind ks t) l = absurd (omega (arith, l))
behind_last n i nil l = absurd (omega (arith, l))

-- Where no member is chosen, there is none at any place.
none_at : (i : ℕ) (ts : Tree) → of_member no_member i ts ≡ []
none_at zero (cons t ts) = refl
none_at (suc i) (cons t ts) = none_at i ts
none_at zero (leaf x) = refl
none_at zero (node h ts) = refl
none_at zero (bind ks t) = refl
none_at zero nil = refl
none_at (suc i) (leaf x) = refl
none_at (suc i) (node h ts) = refl
none_at (suc i) (bind ks t) = refl
none_at (suc i) nil = refl

-- Each place is come to, or none of its member is chosen.
module _ {Key Id Name : Type 0} (m : Meaning Key Id Name) (ps : Parts Key Id) (n : ℕ) (ts : Tree) (counted : n ≡ count ts)
    (Q : ℕ → Type 0) where
  pub each_chosen : (c : Chosen Id) → ((k : ℕ) → k < places_count c n → Q (chosen_at c ps n k)) →
      ((i : ℕ) → of_member (meant m c) i ts ≡ [] → Q i) → (i : ℕ) → i < n → Q i
  each_chosen Every f skip i l = each_place (list_order ps) n Q f i l
  each_chosen NoMember f skip i l = skip i (none_at i ts)
  each_chosen NoRegion f skip i l = each_place (list_order ps) n Q f i l
  each_chosen (NotBivariant d) f skip i l = each_place (list_order ps) n Q f i l
  each_chosen (LastTypes p) f skip i l = decided (nat_lt (n - 1 - i) p) refl
    where
      decided : (b : Bool) → nat_lt (n - 1 - i) p ≡ b → Q i
      decided true t =
          let o = ltb-true (n - 1 - i) p t in
          let at : n - 1 - (n - 1 - i) ≡ i = omega (arith, l) in
          subst Q at (f (n - 1 - i) (omega (arith, o, l)))
      decided false t =
          let o = ltb-false (n - 1 - i) p t in
          skip i (behind_last p i ts (omega (arith, o, l, counted)))

-- How many members stand behind one.
pub rest_count : (i : ℕ) (ts : Tree) → i < count ts → suc (i + count (rest (suc i) ts)) ≡ count ts
rest_count zero (cons t ts) l = omega arith
rest_count (suc i) (cons t ts) l = let h = rest_count i ts (omega (arith, l)) in omega (arith, h)
rest_count i (leaf x) l = absurd (omega (arith, l))
rest_count i (node h ts) l = absurd (omega (arith, l))
rest_count i (bind ks t) l = absurd (omega (arith, l))
rest_count i nil l = absurd (omega (arith, l))
