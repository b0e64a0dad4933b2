-- What a walk yields, call by call, is what the places of its tree say.
use Rattle.std.proofs.Common.{◌≡◌, ◌≤◌, ◌+◌, ℕ, suc, Bool, true, false, cond, ◌&&◌, ◌||◌, IsTrue, refl, sym}
use Rattle.std.proofs.Common.{ap, ap₂, ◌∙◌, subst, arith, List, [], ◌∷◌, ◌++◌, map, length, Option, Some, None, append-nil}
use Rattle.std.specs.Cmp.Derive.{both_true}
use Rattle.std.specs.List.{list_any, sum_by}
use Rattle.std.proofs.lemmas.Bool.{and_parts}
use Rattle.std.proofs.lemmas.List.{map-append, append_assoc, length-append}
use Rattle.std.proofs.lemmas.List.Folds.{list_any-append}
use Rattle.std.proofs.lemmas.List.Sums.{sum_by-cons, sum_by-append}
use Rattle.relation_terms.specs.Heads.{leaf_sort, head_sort, Head, Leaf}
use Rattle.relation_terms.specs.Trees.{Tree, leaf, node, bind, nil, cons, known, size}
use Rattle.relation_terms.specs.Equality.{same_tree}
use Rattle.relation_terms.specs.Meaning.{Meaning, arg_tree}
use Rattle.relation_terms.proofs.Equality.{same_decides}
use Rattle.relation_terms.specs.declared.terms.generic_arg.GenericArgKind.{GenericArgKind}
use Rattle.relation_folds.specs.Visits.{is_visited, visited_sort}
use Rattle.walk.specs.Places.{places, places_under, is_passed_over, goes_back, all_known}
use Rattle.traversal.specs.Stacks.{present}
use Rattle.traversal.specs.Keeping.{Adds}
use Rattle.traversal.specs.Unseen.{first_unseen}
use Rattle.walk.specs.Walking.{Walk, next_of, begun}
use Rattle.walk.specs.Positions.{yields, Call, pull, skip, IsNext, Tells, has_ended, Runs, ByPlaces}
use Rattle.relation_terms.specs.Parts.{parts_of}
use Rattle.walk.proofs.Placing.{all_known_both, under_known, under_small}
use Rattle.walk.proofs.Pulling.{at_head, unseen_known}

-- All of a list are arguments.
abbrev all_visited : List Tree → Bool
all_visited [] = true
all_visited (t ∷ ts) = is_visited t && all_visited ts

all_visited_both : (xs ys : List Tree) → IsTrue (all_visited xs) → IsTrue (all_visited ys) →
    IsTrue (all_visited (xs ++ ys))
all_visited_both [] ys h k = k
all_visited_both (x ∷ xs) ys h k =
    let p = and_parts (is_visited x) (all_visited xs) h in
    both_true p.0 (all_visited_both xs ys p.1 k)

visited_if : (v : Bool) (t : Tree) (P : List Tree) → is_visited t ≡ v → IsTrue (all_visited P) →
    IsTrue (all_visited (cond v (t ∷ []) P))
visited_if true t P e k = both_true e refl
visited_if false t P e k = k

none_if : (p : Bool) (P : List Tree) → IsTrue (all_visited P) → IsTrue (all_visited (cond p [] P))
none_if true P k = refl
none_if false P k = k

places_visited : (b : Bool) (t : Tree) → IsTrue (all_visited (places b t))
places_visited b (leaf l) = visited_if (visited_sort (leaf_sort l)) (leaf l) [] refl refl
places_visited b (node h ts) =
    visited_if (visited_sort (head_sort h)) (node h ts) (cond (is_passed_over (head_sort h)) [] (places (goes_back h) ts))
    refl (none_if (is_passed_over (head_sort h)) (places (goes_back h) ts) (places_visited (goes_back h) ts))
places_visited b (bind ks t) = places_visited false t
places_visited b nil = refl
places_visited true (cons t ts) =
    all_visited_both (places true ts) (places false t) (places_visited true ts) (places_visited false t)
places_visited false (cons t ts) =
    all_visited_both (places false t) (places false ts) (places_visited false t) (places_visited false ts)

unseen_visited : {T : Type 0} (f : T → Tree) (p : T → Bool) (xs : List T) (x : T) (rest : List T) →
    first_unseen p xs ≡ Some (x, rest) → IsTrue (all_visited (map f xs)) →
    IsTrue (is_visited (f x)) × IsTrue (all_visited (map f rest))
unseen_visited f p [] x rest e k = absurd (cc)
unseen_visited {T} f p (y ∷ ys) x rest e k =
    let o = and_parts (is_visited (f y)) (all_visited (map f ys)) k in
    at_head y ys (first_unseen p ys) x rest (p y)
    (IsTrue (is_visited (f x)) × IsTrue (all_visited (map f rest))) e
    (λ b h. unseen_visited f p ys x rest h o.1)
    (λ b h i. (subst (λ z. IsTrue (is_visited (f z))) h o.0, subst (λ z. IsTrue (all_visited (map f z))) i o.1))

-- It and what comes after it are no larger than all.
unseen_small : {T : Type 0} (f : T → Tree) (p : T → Bool) (xs : List T) (x : T) (rest : List T) →
    first_unseen p xs ≡ Some (x, rest) → size (f x) + sum_by size (map f rest) ≤ sum_by size (map f xs)
unseen_small f p [] x rest e = absurd (cc)
unseen_small {T} f p (y ∷ ys) x rest e =
    let s = sum_by-cons size (f y) (map f ys) in
    at_head y ys (first_unseen p ys) x rest (p y)
    (size (f x) + sum_by size (map f rest) ≤ sum_by size (map f (y ∷ ys))) e
    (λ b h. let i = unseen_small f p ys x rest h in omega (arith, i, s))
    (λ b h i.
    let a : size (f y) ≡ size (f x) = ap (λ z. size (f z)) h in
    let c : sum_by size (map f ys) ≡ sum_by size (map f rest) = ap (λ z. sum_by size (map f z)) i in
    omega (arith, a, c, s))

-- What is behind others.
abbrev Behind : List Tree → List Tree → Type 0
Behind ys zs = (rest : List Tree) × (zs ≡ ys ++ rest)

behind_itself : (ys : List Tree) → Behind ys ys
behind_itself ys = ([], sym (append-nil ys))

behind_behind : (ys zs us : List Tree) → Behind ys zs → Behind zs us → Behind ys us
behind_behind ys zs us p q = (p.0 ++ q.0, q.1 ∙ ap (λ z. z ++ q.0) p.1 ∙ append_assoc ys p.0 q.0)

behind_if : (b : Bool) (ys zs us : List Tree) → Behind ys zs → Behind ys us → Behind ys (cond b zs us)
behind_if true ys zs us p q = p
behind_if false ys zs us p q = q

cond_same : (p : Bool) (a : List Tree) → a ≡ cond p a a
cond_same true a = refl
cond_same false a = refl

module _ (skips : ℕ → Bool) where
  -- Trees gone over one after another.
  abbrev over_all : List Tree → List Tree → List Tree
  over_all ys [] = ys
  over_all ys (t ∷ ts) = over_all (yields skips false ys t) ts

  over_both : (ys xs zs : List Tree) → over_all ys (xs ++ zs) ≡ over_all (over_all ys xs) zs
  over_both ys [] zs = refl
  over_both ys (x ∷ xs) zs = over_both (yields skips false ys x) xs zs

  over_if : (p : Bool) (ys ps a : List Tree) → a ≡ over_all ys ps → cond p ys a ≡ over_all ys (cond p [] ps)
  over_if true ys ps a e = refl
  over_if false ys ps a e = e

  over_leaf : (b v : Bool) (ys : List Tree) (l : Leaf) → visited_sort (leaf_sort l) ≡ v →
      yields skips b ys (leaf l) ≡ over_all ys (places b (leaf l))
  over_leaf b true ys l e = sym (ap (λ v. over_all ys (cond v (leaf l ∷ []) [])) e)
  over_leaf b false ys l e =
      ap (λ v. cond v (cond (list_any (same_tree (leaf l)) ys) ys (ys ++ leaf l ∷ [])) ys) e
      ∙ sym (ap (λ v. over_all ys (cond v (leaf l ∷ []) [])) e)

  over_node : (b v : Bool) (ys : List Tree) (h : Head) (ts : Tree) → visited_sort (head_sort h) ≡ v →
      yields skips (goes_back h) ys ts ≡ over_all ys (places (goes_back h) ts) →
      yields skips b ys (node h ts) ≡ over_all ys (places b (node h ts))
  over_node b true ys h ts e i =
      sym (ap (λ v. over_all ys (cond v (node h ts ∷ [])
      (cond (is_passed_over (head_sort h)) [] (places (goes_back h) ts)))) e)
  over_node b false ys h ts e i =
      ap (λ v. cond v (cond (list_any (same_tree (node h ts)) ys) ys
      (cond (skips (length ys)) (ys ++ node h ts ∷ []) (yields skips false (ys ++ node h ts ∷ []) ts)))
      (cond (is_passed_over (head_sort h)) ys (yields skips (goes_back h) ys ts))) e
      ∙ over_if (is_passed_over (head_sort h)) ys (places (goes_back h) ts) (yields skips (goes_back h) ys ts) i
      ∙ sym (ap (λ v. over_all ys (cond v (node h ts ∷ [])
      (cond (is_passed_over (head_sort h)) [] (places (goes_back h) ts)))) e)

  -- Going over a tree is going over the arguments in it.
  goes_over : (b : Bool) (ys : List Tree) (t : Tree) → yields skips b ys t ≡ over_all ys (places b t)
  goes_over b ys (leaf l) = over_leaf b (visited_sort (leaf_sort l)) ys l refl
  goes_over b ys (node h ts) = over_node b (visited_sort (head_sort h)) ys h ts refl (goes_over (goes_back h) ys ts)
  goes_over b ys (bind ks t) = goes_over false ys t
  goes_over b ys nil = refl
  goes_over true ys (cons t ts) =
      goes_over false (yields skips true ys ts) t
      ∙ ap (λ zs. over_all zs (places false t)) (goes_over true ys ts)
      ∙ sym (over_both ys (places true ts) (places false t))
  goes_over false ys (cons t ts) =
      goes_over false (yields skips false ys t) ts
      ∙ ap (λ zs. over_all zs (places false ts)) (goes_over false ys t)
      ∙ sym (over_both ys (places false t) (places false ts))

  -- One that is yielded, and what stands under it.
  abbrev entered : List Tree → Tree → List Tree
  entered ys t = cond (skips (length ys)) (ys ++ t ∷ []) (over_all (ys ++ t ∷ []) (places_under t))

  one_over : (ys : List Tree) (t : Tree) → is_visited t ≡ true →
      yields skips false ys t ≡ cond (list_any (same_tree t) ys) ys (entered ys t)
  one_over ys (leaf l) e =
      ap (λ v. cond v (cond (list_any (same_tree (leaf l)) ys) ys (ys ++ leaf l ∷ [])) ys) e
      ∙ ap (λ z. cond (list_any (same_tree (leaf l)) ys) ys z) (cond_same (skips (length ys)) (ys ++ leaf l ∷ []))
  one_over ys (node h ts) e =
      ap (λ v. cond v (cond (list_any (same_tree (node h ts)) ys) ys
      (cond (skips (length ys)) (ys ++ node h ts ∷ []) (yields skips false (ys ++ node h ts ∷ []) ts)))
      (cond (is_passed_over (head_sort h)) ys (yields skips (goes_back h) ys ts))) e
      ∙ ap (λ z. cond (list_any (same_tree (node h ts)) ys) ys (cond (skips (length ys)) (ys ++ node h ts ∷ []) z))
      (goes_over false (ys ++ node h ts ∷ []) ts)
  one_over ys (bind ks t) e = absurd (cc)
  one_over ys nil e = absurd (cc)
  one_over ys (cons t ts) e = absurd (cc)

  -- Nothing that was yielded is lost.
  yields_behind : (b : Bool) (ys : List Tree) (t : Tree) → Behind ys (yields skips b ys t)
  yields_behind b ys (leaf l) =
      behind_if (visited_sort (leaf_sort l)) ys (cond (list_any (same_tree (leaf l)) ys) ys (ys ++ leaf l ∷ [])) ys
      (behind_if (list_any (same_tree (leaf l)) ys) ys ys (ys ++ leaf l ∷ []) (behind_itself ys) (leaf l ∷ [], refl))
      (behind_itself ys)
  yields_behind b ys (node h ts) =
      let zs = ys ++ node h ts ∷ [] in
      let us = yields skips false zs ts in
      behind_if (visited_sort (head_sort h)) ys
      (cond (list_any (same_tree (node h ts)) ys) ys (cond (skips (length ys)) zs us))
      (cond (is_passed_over (head_sort h)) ys (yields skips (goes_back h) ys ts))
      (behind_if (list_any (same_tree (node h ts)) ys) ys ys (cond (skips (length ys)) zs us) (behind_itself ys)
      (behind_if (skips (length ys)) ys zs us (node h ts ∷ [], refl)
      (behind_behind ys zs us (node h ts ∷ [], refl) (yields_behind false zs ts))))
      (behind_if (is_passed_over (head_sort h)) ys ys (yields skips (goes_back h) ys ts) (behind_itself ys)
      (yields_behind (goes_back h) ys ts))
  yields_behind b ys (bind ks t) = yields_behind false ys t
  yields_behind b ys nil = behind_itself ys
  yields_behind true ys (cons t ts) =
      let zs = yields skips true ys ts in
      behind_behind ys zs (yields skips false zs t) (yields_behind true ys ts) (yields_behind false zs t)
  yields_behind false ys (cons t ts) =
      let zs = yields skips false ys t in
      behind_behind ys zs (yields skips false zs ts) (yields_behind false ys t) (yields_behind false zs ts)

  all_behind : (ys ts : List Tree) → Behind ys (over_all ys ts)
  all_behind ys [] = behind_itself ys
  all_behind ys (t ∷ ts) =
      let zs = yields skips false ys t in
      behind_behind ys zs (over_all zs ts) (yields_behind false ys t) (all_behind zs ts)

behind_nothing : (ys a c zs : List Tree) → zs ≡ ys → zs ≡ ys ++ a ++ c → c ≡ []
behind_nothing ys a [] zs e f = refl
behind_nothing ys a (x ∷ xs) zs e f =
    let g = ap length (sym e ∙ f) in
    let h = length-append (ys ++ a) (x ∷ xs) in
    let i = length-append ys a in
    absurd (omega (arith, g, h, i))

abbrev next_flag : List Call → Bool
next_flag [] = false
next_flag (skip ∷ cs) = true
next_flag (pull ∷ cs) = false

is_next : (cs : List Call) → IsNext (next_flag cs) cs
is_next [] = tt
is_next (skip ∷ cs) = refl
is_next (pull ∷ cs) = refl

or_swap : (a v : Bool) → cond a true v ≡ v || (a || false)
or_swap true true = refl
or_swap true false = refl
or_swap false true = refl
or_swap false false = refl

pub bool_iff : (a b : Bool) → (IsTrue a → IsTrue b) → (IsTrue b → IsTrue a) → a ≡ b
bool_iff true b f k = sym (f refl)
bool_iff false true f k = k refl
bool_iff false false f k = refl

back_of : (xs ys : List Tree) → IsTrue (all_known (xs ++ ys)) → IsTrue (all_known ys)
back_of [] ys k = k
back_of (x ∷ xs) ys k = back_of xs ys (and_parts (known x) (all_known (xs ++ ys)) k).1

back_visited : (xs ys : List Tree) → IsTrue (all_visited (xs ++ ys)) → IsTrue (all_visited ys)
back_visited [] ys k = k
back_visited (x ∷ xs) ys k = back_visited xs ys (and_parts (is_visited x) (all_visited (xs ++ ys)) k).1

module _ {Key Id Name : Type 0} (m : Meaning Key Id Name) (eq : GenericArgKind Key → GenericArgKind Key → Bool)
    (equal : (x q : GenericArgKind Key) → IsTrue (known (arg_tree m x)) → IsTrue (known (arg_tree m q)) →
    (IsTrue (eq x q) → arg_tree m x ≡ arg_tree m q) × (arg_tree m x ≡ arg_tree m q → IsTrue (eq x q)))
    (skips : ℕ → Bool) where
  -- A known argument was visited just where its tree was yielded.
  abbrev Seen : List (GenericArgKind Key) → List Tree → Type 0
  Seen vs ys = (q : GenericArgKind Key) → IsTrue (known (arg_tree m q)) →
      list_any (eq q) vs ≡ list_any (same_tree (arg_tree m q)) ys

  equal_alike : (x q : GenericArgKind Key) → IsTrue (known (arg_tree m x)) → IsTrue (known (arg_tree m q)) →
      eq x q ≡ same_tree (arg_tree m q) (arg_tree m x)
  equal_alike x q k h =
      let e = equal x q k h in
      let d = same_decides (arg_tree m q) (arg_tree m x) in
      bool_iff (eq x q) (same_tree (arg_tree m q) (arg_tree m x)) (λ i. d.1 (sym (e.0 i))) (λ i. e.1 (sym (d.0 i)))

  seen_more : (vs us : List (GenericArgKind Key)) (ys : List Tree) (x : GenericArgKind Key) →
      IsTrue (known (arg_tree m x)) → Seen vs ys → Adds eq vs x us → Seen us (ys ++ arg_tree m x ∷ [])
  seen_more vs us ys x k s a q h =
      let t = arg_tree m q in
      a q ∙ ap₂ (λ b v. cond b true v) (equal_alike x q k h) (s q h)
      ∙ or_swap (same_tree t (arg_tree m x)) (list_any (same_tree t) ys)
      ∙ sym (list_any-append (same_tree t) ys (arg_tree m x ∷ []))

  -- What is over all that is to come begins with the argument that comes next.
  next_over : (vs : List (GenericArgKind Key)) (ys : List Tree) → Seen vs ys → (todo : List (GenericArgKind Key)) →
      IsTrue (all_known (map (arg_tree m) todo)) → IsTrue (all_visited (map (arg_tree m) todo)) →
      (x : GenericArgKind Key) (rest : List (GenericArgKind Key)) →
      first_unseen (λ q. list_any (eq q) vs) todo ≡ Some (x, rest) →
      over_all skips ys (map (arg_tree m) todo)
      ≡ over_all skips (entered skips ys (arg_tree m x)) (map (arg_tree m) rest)
  next_over vs ys s [] k v x rest e = absurd (cc)
  next_over vs ys s (y ∷ todo) k v x rest e =
      let t = arg_tree m y in
      let p = and_parts (known t) (all_known (map (arg_tree m) todo)) k in
      let o = and_parts (is_visited t) (all_visited (map (arg_tree m) todo)) v in
      let one = one_over skips ys t o.0 in
      at_head y todo (first_unseen (λ q. list_any (eq q) vs) todo) x rest (list_any (eq y) vs)
      (over_all skips ys (map (arg_tree m) (y ∷ todo))
      ≡ over_all skips (entered skips ys (arg_tree m x)) (map (arg_tree m) rest)) e
      (λ b h.
      ap (λ z. over_all skips z (map (arg_tree m) todo))
      (one ∙ ap (λ z. cond z ys (entered skips ys t)) (sym (s y p.0) ∙ b))
      ∙ next_over vs ys s todo p.1 o.1 x rest h)
      (λ b h i.
      ap (λ z. over_all skips z (map (arg_tree m) todo))
      (one ∙ ap (λ z. cond z ys (entered skips ys t)) (sym (s y p.0) ∙ b))
      ∙ ap₂ (λ z zs. over_all skips (entered skips ys (arg_tree m z)) (map (arg_tree m) zs)) h i)

  none_at : (vs : List (GenericArgKind Key)) (ys : List Tree) → Seen vs ys → (y : GenericArgKind Key)
      (todo : List (GenericArgKind Key)) → IsTrue (known (arg_tree m y)) → IsTrue (is_visited (arg_tree m y)) →
      (b : Bool) → list_any (eq y) vs ≡ b →
      (first_unseen (λ q. list_any (eq q) vs) todo ≡ None → over_all skips ys (map (arg_tree m) todo) ≡ ys) →
      cond b (first_unseen (λ q. list_any (eq q) vs) todo) (Some (y, todo)) ≡ None →
      over_all skips ys (map (arg_tree m) (y ∷ todo)) ≡ ys
  none_at vs ys s y todo k v true b i e =
      ap (λ z. over_all skips z (map (arg_tree m) todo))
      (one_over skips ys (arg_tree m y) v
      ∙ ap (λ z. cond z ys (entered skips ys (arg_tree m y))) (sym (s y k) ∙ b))
      ∙ i e
  none_at vs ys s y todo k v false b i e = absurd (cc)

  -- At the end nothing is left to go over.
  none_over : (vs : List (GenericArgKind Key)) (ys : List Tree) → Seen vs ys → (todo : List (GenericArgKind Key)) →
      IsTrue (all_known (map (arg_tree m) todo)) → IsTrue (all_visited (map (arg_tree m) todo)) →
      first_unseen (λ q. list_any (eq q) vs) todo ≡ None → over_all skips ys (map (arg_tree m) todo) ≡ ys
  none_over vs ys s [] k v e = refl
  none_over vs ys s (y ∷ todo) k v e =
      let t = arg_tree m y in
      let p = and_parts (known t) (all_known (map (arg_tree m) todo)) k in
      let o = and_parts (is_visited t) (all_visited (map (arg_tree m) todo)) v in
      none_at vs ys s y todo p.0 o.0 (list_any (eq y) vs) refl (none_over vs ys s todo p.1 o.1) e

  module _ {I : Type 0} where
    -- How a walk stands once these were yielded: what is over the tree is over what is to come. `b`: the last of them is
    -- skipped.
    record Stands (all : List Tree) (b : Bool) (w : Walk I (GenericArgKind Key)) (ys : List Tree) : Type 0 where
      known : IsTrue (all_known (map (arg_tree m) (w.inside ++ w.after)))
      visited : IsTrue (all_visited (map (arg_tree m) (w.inside ++ w.after)))
      seen : Seen w.visited ys
      over : all ≡ over_all skips (cond b ys (over_all skips ys (map (arg_tree m) w.inside)))
          (map (arg_tree m) w.after)

    -- What comes of calls after these were yielded.
    record Went (all ys : List Tree) (n : ℕ) (v : Walk I (GenericArgKind Key)) (rs : List (Option (GenericArgKind Key))) :
        Type 0 where
      rest : List Tree
      first : all ≡ ys ++ map (arg_tree m) (present rs) ++ rest
      ended : IsTrue (has_ended rs) → rest ≡ []
      ends : length (present rs) ≤ n
      seen : Seen v.visited (ys ++ map (arg_tree m) (present rs))

    -- Where the last is not skipped, what is to come is gone over one after another.
    over_todo : (all : List Tree) (b : Bool) (w : Walk I (GenericArgKind Key)) (ys : List Tree) → b ≡ false →
        Stands all b w ys → all ≡ over_all skips ys (map (arg_tree m) (w.inside ++ w.after))
    over_todo all b w ys e st =
        let ins = map (arg_tree m) w.inside in
        let aft = map (arg_tree m) w.after in
        st.over ∙ ap (λ z. over_all skips (cond z ys (over_all skips ys ins)) aft) e
        ∙ sym (over_both skips ys ins aft) ∙ ap (over_all skips ys) (sym (map-append (arg_tree m) w.inside w.after))

    goes_none : (all : List Tree) (b : Bool) (w v : Walk I (GenericArgKind Key)) (ys : List Tree) (n : ℕ) →
        Stands all b w ys → v ≡ w → Went all ys n v []
    goes_none all b w v ys n st r =
        let ins = over_all skips ys (map (arg_tree m) w.inside) in
        let aft = map (arg_tree m) w.after in
        let z = cond b ys ins in
        let q = behind_behind ys z (over_all skips z aft)
        (behind_if b ys ys ins (behind_itself ys) (all_behind skips ys (map (arg_tree m) w.inside)))
        (all_behind skips z aft) in
        record {
          rest = q.0;
          first = st.over ∙ q.1 ∙ ap (λ x. x ++ q.0) (sym (append-nil ys));
          ended = λ h. absurd (cc);
          ends = omega arith;
          seen = λ o k. ap (λ x. list_any (eq o) x.visited) r ∙ st.seen o k
              ∙ ap (λ x. list_any (same_tree (arg_tree m o)) x) (sym (append-nil ys));
        }

    stands_skipped : (all : List Tree) (b c : Bool) (w : Walk I (GenericArgKind Key)) (ys : List Tree) → b ≡ true →
        Stands all b w ys → Stands all c (record w { inside = [] }) ys
    stands_skipped all b c w ys e st =
        let ins = map (arg_tree m) w.inside in
        let aft = map (arg_tree m) w.after in
        record {
          known = back_of ins aft (subst (λ z. IsTrue (all_known z)) (map-append (arg_tree m) w.inside w.after) st.known);
          visited = back_visited ins aft
              (subst (λ z. IsTrue (all_visited z)) (map-append (arg_tree m) w.inside w.after) st.visited);
          seen = st.seen;
          over = st.over ∙ ap (λ z. over_all skips (cond z ys (over_all skips ys ins)) aft) e
              ∙ ap (λ z. over_all skips z aft) (cond_same c ys);
        }

    stands_ended : (all : List Tree) (c : Bool) (w : Walk I (GenericArgKind Key)) (ys : List Tree) → all ≡ ys →
        Seen w.visited ys → Stands all c (record w { inside = []; after = [] }) ys
    stands_ended all c w ys e s = record { known = refl; visited = refl; seen = s; over = e ∙ cond_same c ys }

    stands_next : (all ys : List Tree) (w u : Walk I (GenericArgKind Key)) (x : GenericArgKind Key) →
        all ≡ over_all skips ys (map (arg_tree m) (w.inside ++ w.after)) →
        IsTrue (all_known (map (arg_tree m) (w.inside ++ w.after))) →
        IsTrue (all_visited (map (arg_tree m) (w.inside ++ w.after))) → Seen w.visited ys →
        IsTrue (known (arg_tree m x)) → next_of m eq w ≡ Some (x, u.after) →
        map (arg_tree m) u.inside ≡ places_under (arg_tree m x) → Adds eq w.visited x u.visited →
        Stands all (skips (length ys)) u (ys ++ arg_tree m x ∷ [])
    stands_next all ys w u x e k v s h n i a =
        let t = arg_tree m x in
        let ins = map (arg_tree m) u.inside in
        let aft = map (arg_tree m) u.after in
        let todo = w.inside ++ w.after in
        let seen : GenericArgKind Key → Bool = λ q. list_any (eq q) w.visited in
        record {
          known = subst (λ z. IsTrue (all_known z)) (sym (map-append (arg_tree m) u.inside u.after))
              (all_known_both ins aft (subst (λ z. IsTrue (all_known z)) (sym i) (under_known t h))
              (unseen_known (arg_tree m) seen todo x u.after n k).1);
          visited = subst (λ z. IsTrue (all_visited z)) (sym (map-append (arg_tree m) u.inside u.after))
              (all_visited_both ins aft
              (subst (λ z. IsTrue (all_visited z)) (sym i) (places_visited false (parts_of t)))
              (unseen_visited (arg_tree m) seen todo x u.after n v).1);
          seen = seen_more w.visited u.visited ys x h s a;
          over = e ∙ next_over w.visited ys s todo k v x u.after n
              ∙ ap (λ z. over_all skips (cond (skips (length ys)) (ys ++ t ∷ [])
              (over_all skips (ys ++ t ∷ []) z)) aft) (sym i);
        }

    went_next : (all ys : List Tree) (w u v : Walk I (GenericArgKind Key)) (x : GenericArgKind Key)
        (rs : List (Option (GenericArgKind Key))) → IsTrue (all_visited (map (arg_tree m) (w.inside ++ w.after))) →
        next_of m eq w ≡ Some (x, u.after) → map (arg_tree m) u.inside ≡ places_under (arg_tree m x) →
        Went all (ys ++ arg_tree m x ∷ []) (sum_by size (map (arg_tree m) (u.inside ++ u.after))) v rs →
        Went all ys (sum_by size (map (arg_tree m) (w.inside ++ w.after))) v (Some x ∷ rs)
    went_next all ys w u v x rs vis n i o =
        let t = arg_tree m x in
        let ps = map (arg_tree m) (present rs) in
        let todo = w.inside ++ w.after in
        let seen : GenericArgKind Key → Bool = λ q. list_any (eq q) w.visited in
        let small = under_small t (unseen_visited (arg_tree m) seen todo x u.after n vis).0 in
        let less = unseen_small (arg_tree m) seen todo x u.after n in
        let sum : sum_by size (map (arg_tree m) (u.inside ++ u.after))
        ≡ sum_by size (map (arg_tree m) u.inside) + sum_by size (map (arg_tree m) u.after) =
        ap (sum_by size) (map-append (arg_tree m) u.inside u.after)
        ∙ sum_by-append size (map (arg_tree m) u.inside) (map (arg_tree m) u.after) in
        let is : sum_by size (map (arg_tree m) u.inside) ≡ sum_by size (places_under t) = ap (sum_by size) i in
        let most = o.ends in
        record {
          rest = o.rest;
          first = o.first ∙ ap (λ z. z ++ o.rest) (append_assoc ys (t ∷ []) ps);
          ended = o.ended;
          ends = omega (arith, most, sum, is, small, less);
          seen = λ q k. o.seen q k ∙ ap (λ z. list_any (same_tree (arg_tree m q)) z) (append_assoc ys (t ∷ []) ps);
        }

    went_ended : (all ys : List Tree) (n : ℕ) (u v : Walk I (GenericArgKind Key))
        (rs : List (Option (GenericArgKind Key))) → all ≡ ys → u.inside ≡ [] → u.after ≡ [] →
        Went all ys (sum_by size (map (arg_tree m) (u.inside ++ u.after))) v rs → Went all ys n v (None ∷ rs)
    went_ended all ys n u v rs e i a o =
        let most = o.ends in
        let zero : sum_by size (map (arg_tree m) (u.inside ++ u.after)) ≡ 0 =
        ap₂ (λ x y. sum_by size (map (arg_tree m) (x ++ y))) i a in
        record {
          rest = o.rest;
          first = o.first;
          ended = λ h. behind_nothing ys (map (arg_tree m) (present rs)) o.rest all e o.first;
          ends = omega (arith, most, zero);
          seen = o.seen;
        }

    went_skipped : (all ys : List Tree) (w v : Walk I (GenericArgKind Key)) (rs : List (Option (GenericArgKind Key))) →
        Went all ys (sum_by size (map (arg_tree m) w.after)) v rs →
        Went all ys (sum_by size (map (arg_tree m) (w.inside ++ w.after))) v rs
    went_skipped all ys w v rs o =
        let most = o.ends in
        let sum : sum_by size (map (arg_tree m) (w.inside ++ w.after))
        ≡ sum_by size (map (arg_tree m) w.inside) + sum_by size (map (arg_tree m) w.after) =
        ap (sum_by size) (map-append (arg_tree m) w.inside w.after)
        ∙ sum_by-append size (map (arg_tree m) w.inside) (map (arg_tree m) w.after) in
        record { rest = o.rest; first = o.first; ended = o.ended; ends = omega (arith, most, sum); seen = o.seen }

    goes : (all : List Tree) (cs : List Call) (rs : List (Option (GenericArgKind Key))) (b : Bool)
        (w v : Walk I (GenericArgKind Key)) (ys : List Tree) → IsNext b cs → Stands all b w ys → Runs m eq w cs rs v →
        Tells skips (length ys) cs rs → Went all ys (sum_by size (map (arg_tree m) (w.inside ++ w.after))) v rs
    goes all [] [] b w v ys nx st r tl = goes_none all b w v ys _ st r
    goes all [] (a ∷ rs) b w v ys nx st r tl = absurd r
    goes all (skip ∷ cs) rs b w v ys nx st r tl =
        went_skipped all ys w v rs
        (goes all cs rs (next_flag cs) (record w { inside = [] }) v ys (is_next cs)
        (stands_skipped all b (next_flag cs) w ys nx st) r tl)
    goes all (pull ∷ cs) [] b w v ys nx st r tl = absurd r
    goes all (pull ∷ cs) (None ∷ rs) b w v ys nx st r tl =
        let p = r.1 in
        let e = over_todo all b w ys nx st ∙ none_over w.visited ys st.seen (w.inside ++ w.after) st.known st.visited p.1 in
        went_ended all ys _ r.0 v rs e (ap (λ z. z.inside) p.2) (ap (λ z. z.after) p.2)
        (goes all cs rs (next_flag cs) r.0 v ys (is_next cs)
        (subst (λ z. Stands all (next_flag cs) z ys) (sym p.2) (stands_ended all (next_flag cs) w ys e st.seen)) r.2 tl)
    goes all (pull ∷ cs) (Some x ∷ rs) b w v ys nx st r tl =
        let p = r.1 in
        let zs = ys ++ arg_tree m x ∷ [] in
        let n = length-append ys (arg_tree m x ∷ []) in
        let len : suc (length ys) ≡ length zs = omega (arith, n) in
        went_next all ys w r.0 v x rs st.visited p.4 p.5
        (goes all cs rs (skips (length ys)) r.0 v zs tl.0
        (stands_next all ys w r.0 x (over_todo all b w ys nx st) st.known st.visited st.seen p.3 p.4 p.5 p.6) r.2
        (subst (λ k. Tells skips k cs rs) len tl.1))

-- A walk that begins at a known argument.
pub by_places : {I Key Id Name : Type 0} (m : Meaning Key Id Name)
    (eq : GenericArgKind Key → GenericArgKind Key → Bool)
    (equal : (x q : GenericArgKind Key) → IsTrue (known (arg_tree m x)) → IsTrue (known (arg_tree m q)) →
    (IsTrue (eq x q) → arg_tree m x ≡ arg_tree m q) × (arg_tree m x ≡ arg_tree m q → IsTrue (eq x q))) (cx : I)
    (root : GenericArgKind Key) → IsTrue (known (arg_tree m root)) → is_visited (arg_tree m root) ≡ true →
    ByPlaces m eq (begun cx root) (arg_tree m root)
by_places m eq equal cx root k i skips cs rs v r tl =
    let t = arg_tree m root in
    let all = yields skips false [] t in
    let o = goes m eq equal skips all cs rs (next_flag cs) (begun cx root) v [] (is_next cs)
    (record {
      known = both_true k refl;
      visited = both_true i refl;
      seen = λ q h. refl;
      over = ap (λ z. over_all skips z (t ∷ [])) (cond_same (next_flag cs) []);
    }) r tl in
    let most = o.ends in
    let sum = sum_by-cons size t [] in
    record { rest = o.rest; first = o.first; all = o.ended; ends = omega (arith, most, sum); visited = o.seen }
