-- Bodies that are renamings of one another, and what they are made to.
use Rattle.std.proofs.Common.{◌≡◌, ℕ, suc, refl, sym, ap, ap₂, ◌∙◌, subst, Bool, true, false, cond, nat_eq, IsSome}
use Rattle.std.proofs.Common.{List, [], ◌∷◌, ◌++◌, map, get_or, Option, Some, None, option_map}
use Rattle.std.proofs.Common.{length, ◌==◌, arith}
use Rattle.std.proofs.lemmas.Bool.{false≢true, eqb-true}
use Rattle.relation_terms.specs.Heads.{Kind, type_kind, region_kind, const_kind, BoundKind, bound_kind, Head, Leaf}
use Rattle.relation_terms.specs.Heads.{existential_projection, bound, variable, placeholder, atom, unknown, leaf_sort, head_sort}
use Rattle.relation_terms.specs.Trees.{Tree, leaf, node, bind, nil, cons}
use Rattle.relation_terms.specs.Orders.{Order, in_turn, first_last, order_of}
use Rattle.relation_folds.specs.Folds.{folded, put_or, asks}
use Rattle.relation_folds.proofs.Folding.{put_none}
use Rattle.anonymize.specs.Anonymous.{var_of, same_var, place_in, var_at, ordered, uses, one_more, with_vars}
use Rattle.anonymize.specs.Anonymous.{used_vars, named, at_place, renames, anonymized}
use Rattle.anonymize.specs.UsedParts.{AllIn}
use Rattle.anonymize.specs.Renamings.{MovedLeaf, Moved, AreRenamings, RenamingsAreOne}
use Rattle.anonymize.specs.declared.used.UsedVar.{UsedVar}
use Rattle.anonymize.specs.declared.used.UsedVar.TheVariants.{Ty, Region, Const}
use Rattle.anonymize.proofs.UsedVars.{same_self, same_is, all_added}

-- A property of each variable of a list.
abbrev Each : (UsedVar → Type 0) → List UsedVar → Type 0
Each P [] = Unit {0}
Each P (v ∷ vs) = P v × Each P vs

module _ (P : UsedVar → Type 0) where
  each_left : (us vs : List UsedVar) → Each P (us ++ vs) → Each P us
  each_left [] vs e = tt
  each_left (u ∷ us) vs e = (e.0, each_left us vs e.1)

  each_right : (us vs : List UsedVar) → Each P (us ++ vs) → Each P vs
  each_right [] vs e = e
  each_right (u ∷ us) vs e = each_right us vs e.1

  each_both : (us vs : List UsedVar) → Each P us → Each P vs → Each P (us ++ vs)
  each_both [] vs e o = o
  each_both (u ∷ us) vs e o = (e.0, each_both us vs e.1 o)

  each_turned : (o : Order) (us vs : List UsedVar) → Each P (ordered o us vs) → Each P (us ++ vs)
  each_turned in_turn us vs e = e
  each_turned first_last us vs e = each_both us vs (each_right vs us e) (each_left vs us e)

  -- Of what a form uses, as of what its list of parts does.
  each_parts : (d : ℕ) (h : Head) (ts : Tree) → Each P (uses d (node h ts)) → Each P (uses d ts)
  each_parts d h (cons t ts) e = each_turned (order_of (node h (cons t ts))) (uses d t) (uses d ts) e
  each_parts d h (leaf l) e = e
  each_parts d h (node g ts) e = e
  each_parts d h (bind ks t) e = e
  each_parts d h nil e = e

each_in : (us vs : List UsedVar) → AllIn us vs → Each (λ v. IsSome (place_in us v)) vs
each_in us [] a = tt
each_in us (v ∷ vs) a = (a.0, each_in us vs a.1)

-- What a variable becomes where places are moved.
abbrev shift : (Kind → ℕ → ℕ) → UsedVar → UsedVar
shift to (Ty i) = Ty (to type_kind i)
shift to (Region i) = Region (to region_kind i)
shift to (Const i) = Const (to const_kind i)

shift_var : (to : Kind → ℕ → ℕ) (k : Kind) (i : ℕ) → shift to (var_of k i) ≡ var_of k (to k i)
shift_var to type_kind i = refl
shift_var to region_kind i = refl
shift_var to const_kind i = refl

shift_kind : (to : Kind → ℕ → ℕ) (name : ℕ) (us : List UsedVar) → map (named name) (map (shift to) us) ≡ map (named name) us
shift_kind to name [] = refl
shift_kind to name (Ty i ∷ us) = ap (λ z. bound_kind type_kind name ∷ z) (shift_kind to name us)
shift_kind to name (Region i ∷ us) = ap (λ z. bound_kind region_kind name ∷ z) (shift_kind to name us)
shift_kind to name (Const i ∷ us) = ap (λ z. bound_kind const_kind name ∷ z) (shift_kind to name us)

-- The order of a form is its head's.
order_same : (h g : Head) (ts us : Tree) → g ≡ h → order_of (node g us) ≡ order_of (node h ts)
order_same h g ts us e = ap (λ z. order_of (node z us)) e ∙ by_head h
  where
    by_head : (h : Head) → order_of (node h us) ≡ order_of (node h ts)
    by_head (existential_projection d) = refl
    by_head h = refl

map_both : (f : UsedVar → UsedVar) (us vs : List UsedVar) → map f us ++ map f vs ≡ map f (us ++ vs)
map_both f [] vs = refl
map_both f (u ∷ us) vs = ap (λ z. f u ∷ z) (map_both f us vs)

map_ordered : (f : UsedVar → UsedVar) (o : Order) (us vs : List UsedVar) →
    ordered o (map f us) (map f vs) ≡ map f (ordered o us vs)
map_ordered f in_turn us vs = map_both f us vs
map_ordered f first_last us vs = map_both f vs us

-- What a moved tree uses are the moved variables.
module _ (to : Kind → ℕ → ℕ) where
  uses_bound : (d : ℕ) (k : Kind) (n e i : ℕ) (m : Leaf) (b : Bool) → nat_eq e d ≡ b →
      cond b ((name : ℕ) × (m ≡ bound (bound_kind k name) e (to k i))) (m ≡ bound (bound_kind k n) e i) →
      var_at d m ≡ map (shift to) (cond (nat_eq e d) (var_of k i ∷ []) [])
  uses_bound d k n e i m true q p =
      ap (var_at d) p.1 ∙ ap (λ b. cond b (var_of k (to k i) ∷ []) []) q
      ∙ ap (λ z. z ∷ []) (sym (shift_var to k i)) ∙ sym (ap (λ b. map (shift to) (cond b (var_of k i ∷ []) [])) q)
  uses_bound d k n e i m false q p =
      ap (var_at d) p ∙ ap (λ b. cond b (var_of k i ∷ []) []) q
      ∙ sym (ap (λ b. map (shift to) (cond b (var_of k i ∷ []) [])) q)

  uses_leaf : (d : ℕ) (l m : Leaf) → MovedLeaf to d l m → var_at d m ≡ map (shift to) (var_at d l)
  uses_leaf d (bound (bound_kind k n) e i) m p = uses_bound d k n e i m (nat_eq e d) refl p
  uses_leaf d (variable k n) m p = ap (var_at d) p
  uses_leaf d (placeholder k u n) m p = ap (var_at d) p
  uses_leaf d (atom x) m p = ap (var_at d) p
  uses_leaf d unknown m p = ap (var_at d) p

  moved_uses : (d : ℕ) (t u : Tree) → Moved to d t u → uses d u ≡ map (shift to) (uses d t)
  moved_uses d (leaf l) (leaf m) p = uses_leaf d l m p
  moved_uses d (node h (cons t ts)) (node g (cons u us)) p =
      ap (λ o. ordered o (uses d u) (uses d us)) (order_same h g (cons t ts) (cons u us) p.0)
      ∙ ap₂ (ordered (order_of (node h (cons t ts)))) (moved_uses d t u p.1.0) (moved_uses d ts us p.1.1)
      ∙ map_ordered (shift to) (order_of (node h (cons t ts))) (uses d t) (uses d ts)
  moved_uses d (node h (leaf l)) (node g (leaf m)) p = uses_leaf d l m p.1
  moved_uses d (node h (node f ts)) (node g (node e us)) p = moved_uses d (node f ts) (node e us) p.1
  moved_uses d (node h (bind ks t)) (node g (bind ls u)) p = moved_uses (suc d) t u p.1.1
  moved_uses d (node h nil) (node g nil) p = refl
  moved_uses d (node h ts) (node g us) p = absurd p.1
  moved_uses d (bind ks t) (bind ls u) p = moved_uses (suc d) t u p.1
  moved_uses d nil nil p = refl
  moved_uses d (cons t ts) (cons u us) p =
      ap₂ (λ x y. x ++ y) (moved_uses d t u p.0) (moved_uses d ts us p.1) ∙ map_both (shift to) (uses d t) (uses d ts)
  moved_uses d t u p = absurd p

-- Where variables are moved there and back, places stay.
module _ (f g : UsedVar → UsedVar) where
  abbrev Stays : UsedVar → Type 0
  Stays v = g (f v) ≡ v

  each_stays : (us : List UsedVar) → map g (map f us) ≡ us → Each Stays us
  each_stays [] e = tt
  each_stays (u ∷ us) e = (cc, each_stays us (cc))

  same_moved : (a b : UsedVar) → Stays a → Stays b → same_var (f a) (f b) ≡ same_var a b
  same_moved a b p q = decided (same_var (f a) (f b)) (same_var a b) refl refl
    where
      decided : (x y : Bool) → same_var (f a) (f b) ≡ x → same_var a b ≡ y → same_var (f a) (f b) ≡ same_var a b
      decided true true i j = i ∙ sym j
      decided false false i j = i ∙ sym j
      decided true false i j =
          let e : a ≡ b = sym p ∙ ap g (same_is (f a) (f b) i) ∙ q in
          absurd (false≢true (sym j ∙ ap (same_var a) (sym e) ∙ same_self a))
      decided false true i j =
          let e : f a ≡ f b = ap f (same_is a b j) in
          absurd (false≢true (sym i ∙ ap (same_var (f a)) (sym e) ∙ same_self (f a)))

  place_moved : (us : List UsedVar) (v : UsedVar) → Each Stays us → Stays v → place_in (map f us) (f v) ≡ place_in us v
  place_moved [] v e s = refl
  place_moved (u ∷ us) v e s =
      ap₂ (λ b o. cond b (Some 0) (option_map suc o)) (same_moved u v e.0 s) (place_moved us v e.1 s)

  more_moved : (us : List UsedVar) (v : UsedVar) (o : Option ℕ) → one_more (map f us) (f v) o ≡ map f (one_more us v o)
  more_moved us v None = map_both f us (v ∷ [])
  more_moved us v (Some i) = refl

  each_more : (us : List UsedVar) (v : UsedVar) (o : Option ℕ) → Each Stays us → Stays v → Each Stays (one_more us v o)
  each_more us v None e s = each_both Stays us (v ∷ []) e (s, tt)
  each_more us v (Some i) e s = e

  with_moved : (vs us : List UsedVar) → Each Stays us → Each Stays vs →
      (with_vars (map f us) (map f vs) ≡ map f (with_vars us vs)) × Each Stays (with_vars us vs)
  with_moved [] us e o = (refl, e)
  with_moved (v ∷ vs) us e o =
      let p = place_in us v in
      let r = with_moved vs (one_more us v p) (each_more us v p e o.0) o.1 in (
        ap (λ z. with_vars (one_more (map f us) (f v) z) (map f vs)) (place_moved us v e o.0)
            ∙ ap (λ z. with_vars z (map f vs)) (more_moved us v p) ∙ r.0,
        r.1,
      )

-- What is put for a variable of the list, and for no other.
put_here : (k : Kind) (n : ℕ) (t : Tree) (by : Option Tree) (x : Tree) (e i : ℕ) → by ≡ Some x →
    put_or (asks (leaf_sort (bound (bound_kind k n) e i))) by t ≡ x
put_here type_kind n t by x e i q = ap (λ o. put_or true o t) q
put_here region_kind n t by x e i q = ap (λ o. put_or true o t) q
put_here const_kind n t by x e i q = ap (λ o. put_or true o t) q

module _ (name : ℕ) (us : List UsedVar) where
  renamed_here : (d : ℕ) (k : Kind) (n e i j : ℕ) → nat_eq e d ≡ true → place_in us (var_of k i) ≡ Some j →
      folded (renames name us) d (leaf (bound (bound_kind k n) e i)) ≡ leaf (bound (bound_kind k name) e j)
  renamed_here d k n e i j q p =
      put_here k n (leaf (bound (bound_kind k n) e i)) (renames name us d (leaf (bound (bound_kind k n) e i)))
      (leaf (bound (bound_kind k name) e j)) e i
      (ap (λ b. at_place name k e (cond b (place_in us (var_of k i)) None)) q ∙ ap (at_place name k e) p)

  renamed_not : (d : ℕ) (k : Kind) (n e i : ℕ) → nat_eq e d ≡ false →
      folded (renames name us) d (leaf (bound (bound_kind k n) e i)) ≡ leaf (bound (bound_kind k n) e i)
  renamed_not d k n e i q =
      let t = leaf (bound (bound_kind k n) e i) in
      ap (λ b. put_or (asks (leaf_sort (bound (bound_kind k n) e i)))
      (at_place name k e (cond b (place_in us (var_of k i)) None)) t) q
      ∙ put_none (asks (leaf_sort (bound (bound_kind k n) e i))) t

  renamed_node : (d : ℕ) (h : Head) (ts : Tree) →
      folded (renames name us) d (node h ts) ≡ node h (folded (renames name us) d ts)
  renamed_node d h ts = put_none (asks (head_sort h)) (node h (folded (renames name us) d ts))

-- Where no variable is in the list all stand as they are.
either_way : (b : Bool) (o : Option ℕ) → cond b o o ≡ o
either_way true o = refl
either_way false o = refl

renamed_none : (name d : ℕ) (t : Tree) → folded (renames name []) d t ≡ t
renamed_none name d (leaf (bound (bound_kind k n) e i)) =
    let t = leaf (bound (bound_kind k n) e i) in
    ap (λ o. put_or (asks (leaf_sort (bound (bound_kind k n) e i))) (at_place name k e o) t)
    (either_way (nat_eq e d) None)
    ∙ put_none (asks (leaf_sort (bound (bound_kind k n) e i))) t
renamed_none name d (leaf (variable k n)) = put_none (asks (leaf_sort (variable k n))) (leaf (variable k n))
renamed_none name d (leaf (placeholder k u n)) =
    put_none (asks (leaf_sort (placeholder k u n))) (leaf (placeholder k u n))
renamed_none name d (leaf (atom x)) = put_none (asks (leaf_sort (atom x))) (leaf (atom x))
renamed_none name d (leaf unknown) = refl
renamed_none name d (node h ts) = renamed_node name [] d h ts ∙ ap (node h) (renamed_none name d ts)
renamed_none name d (bind ks t) = ap (bind ks) (renamed_none name (suc d) t)
renamed_none name d nil = refl
renamed_none name d (cons t ts) = ap₂ cons (renamed_none name d t) (renamed_none name d ts)

pub renamed_empty : (us : List UsedVar) (name : ℕ) (t : Tree) → (length us == 0) ≡ true →
    t ≡ folded (renames name us) 0 t
renamed_empty [] name t e = sym (renamed_none name 0 t)
renamed_empty (u ∷ us) name t e = let none = eqb-true (length (u ∷ us)) 0 e in absurd (omega (arith, none))

is_some_at : (o : Option ℕ) → IsSome o → (j : ℕ) × (o ≡ Some j)
is_some_at (Some j) s = (j, refl)
is_some_at None s = absurd (false≢true s)

-- A tree and the moved one are made one, by the list and by the moved list.
module _ (name : ℕ) (to : Kind → ℕ → ℕ) (g : UsedVar → UsedVar) (us : List UsedVar) (stays : Each (Stays (shift to) g) us) where
  abbrev There : UsedVar → Type 0
  There v = IsSome (place_in us v) × Stays (shift to) g v

  one_bound : (d : ℕ) (k : Kind) (n e i : ℕ) (m : Leaf) (b : Bool) → nat_eq e d ≡ b →
      cond b ((x : ℕ) × (m ≡ bound (bound_kind k x) e (to k i))) (m ≡ bound (bound_kind k n) e i) →
      Each There (cond b (var_of k i ∷ []) []) →
      folded (renames name us) d (leaf (bound (bound_kind k n) e i)) ≡
      folded (renames name (map (shift to) us)) d (leaf m)
  one_bound d k n e i m true q p h =
      let at = is_some_at (place_in us (var_of k i)) h.0.0 in
      let same : place_in (map (shift to) us) (var_of k (to k i)) ≡ Some at.0 =
      ap (place_in (map (shift to) us)) (sym (shift_var to k i))
      ∙ place_moved (shift to) g us (var_of k i) stays h.0.1 ∙ at.1 in
      renamed_here name us d k n e i at.0 q at.1
      ∙ sym (renamed_here name (map (shift to) us) d k p.0 e (to k i) at.0 q same)
      ∙ ap (λ z. folded (renames name (map (shift to) us)) d (leaf z)) (sym p.1)
  one_bound d k n e i m false q p h =
      renamed_not name us d k n e i q ∙ sym (renamed_not name (map (shift to) us) d k n e i q)
      ∙ ap (λ z. folded (renames name (map (shift to) us)) d (leaf z)) (sym p)

  one_leaf : (d : ℕ) (l m : Leaf) → MovedLeaf to d l m → Each There (var_at d l) →
      folded (renames name us) d (leaf l) ≡ folded (renames name (map (shift to) us)) d (leaf m)
  one_leaf d (bound (bound_kind k n) e i) m p h = one_bound d k n e i m (nat_eq e d) refl p h
  one_leaf d (variable k n) m p h = ap (λ z. folded (renames name (map (shift to) us)) d (leaf z)) (sym p)
  one_leaf d (placeholder k u n) m p h = ap (λ z. folded (renames name (map (shift to) us)) d (leaf z)) (sym p)
  one_leaf d (atom x) m p h = ap (λ z. folded (renames name (map (shift to) us)) d (leaf z)) (sym p)
  one_leaf d unknown m p h = ap (λ z. folded (renames name (map (shift to) us)) d (leaf z)) (sym p)

  made_one : (d : ℕ) (t u : Tree) → Moved to d t u → Each There (uses d t) →
      folded (renames name us) d t ≡ folded (renames name (map (shift to) us)) d u
  made_one d (leaf l) (leaf m) p h = one_leaf d l m p h
  made_one d (node h ts) (node f xs) p e =
      renamed_node name us d h ts
      ∙ ap₂ node (sym p.0) (made_one d ts xs p.1 (each_parts There d h ts e))
      ∙ sym (renamed_node name (map (shift to) us) d f xs)
  made_one d (bind ks t) (bind ls u) p h = ap₂ bind (sym p.0) (made_one (suc d) t u p.1 h)
  made_one d nil nil p h = refl
  made_one d (cons t ts) (cons u xs) p h =
      ap₂ cons (made_one d t u p.0 (each_left There (uses d t) (uses d ts) h))
      (made_one d ts xs p.1 (each_right There (uses d t) (uses d ts) h))
  made_one d t u p h = absurd p

each_pair : (P Q : UsedVar → Type 0) (vs : List UsedVar) → Each P vs → Each Q vs → Each (λ v. P v × Q v) vs
each_pair P Q [] e o = tt
each_pair P Q (v ∷ vs) e o = ((e.0, o.0), each_pair P Q vs e.1 o.1)

-- Renamings of one another are anonymised alike.
made_alike : (name : ℕ) (ks ls : List BoundKind) (t u : Tree) → AreRenamings t u →
    anonymized name (bind ks t) ≡ anonymized name (bind ls u)
made_alike name ks ls t u r =
    let f = shift r.to in
    let g = shift r.back in
    let xs = uses 0 t in
    let used : uses 0 u ≡ map f xs = moved_uses r.to 0 t u r.there in
    let again : map g (map f xs) ≡ xs = ap (map g) (sym used) ∙ sym (moved_uses r.back 0 u t r.again) in
    let stay = each_stays f g xs again in
    let made = with_moved f g xs [] tt stay in
    let vars : used_vars u ≡ map f (used_vars t) = ap (with_vars []) used ∙ made.0 in
    let all = each_in (used_vars t) xs (all_added xs []) in
    ap₂ bind
    (sym (ap (map (named name)) vars ∙ shift_kind r.to name (used_vars t)))
    (made_one name r.to g (used_vars t) made.1 0 t u r.there
    (each_pair (λ v. IsSome (place_in (used_vars t) v)) (Stays f g) xs all stay)
    ∙ ap (λ z. folded (renames name z) 0 u) (sym vars))

-- A tree moved once and again is moved by both, one after the other.
module _ (to on : Kind → ℕ → ℕ) where
  abbrev pub after : Kind → ℕ → ℕ
  after k i = on k (to k i)

  bound_after : (d : ℕ) (k : Kind) (n e i : ℕ) (l m : Leaf) (b : Bool) → nat_eq e d ≡ b →
      cond b ((x : ℕ) × (l ≡ bound (bound_kind k x) e (to k i))) (l ≡ bound (bound_kind k n) e i) →
      MovedLeaf on d l m → cond b ((x : ℕ) × (m ≡ bound (bound_kind k x) e (after k i))) (m ≡ bound (bound_kind k n) e i)
  bound_after d k n e i l m true q p o =
      let by : MovedLeaf on d (bound (bound_kind k p.0) e (to k i)) m = subst (λ z. MovedLeaf on d z m) p.1 o in
      subst (λ b. cond b ((x : ℕ) × (m ≡ bound (bound_kind k x) e (on k (to k i)))) (m ≡ bound (bound_kind k p.0) e (to k i)))
      q by
  bound_after d k n e i l m false q p o =
      let by : MovedLeaf on d (bound (bound_kind k n) e i) m = subst (λ z. MovedLeaf on d z m) p o in
      subst (λ b. cond b ((x : ℕ) × (m ≡ bound (bound_kind k x) e (on k i))) (m ≡ bound (bound_kind k n) e i)) q by

  leaf_after : (d : ℕ) (j l m : Leaf) → MovedLeaf to d j l → MovedLeaf on d l m → MovedLeaf after d j m
  leaf_after d (bound (bound_kind k n) e i) l m p o = bound_after d k n e i l m (nat_eq e d) refl p o
  leaf_after d (variable k n) l m p o = subst (λ z. MovedLeaf on d z m) p o
  leaf_after d (placeholder k u n) l m p o = subst (λ z. MovedLeaf on d z m) p o
  leaf_after d (atom x) l m p o = subst (λ z. MovedLeaf on d z m) p o
  leaf_after d unknown l m p o = subst (λ z. MovedLeaf on d z m) p o

  moved_after : (d : ℕ) (t u w : Tree) → Moved to d t u → Moved on d u w → Moved after d t w
  moved_after d (leaf j) (leaf l) (leaf m) p o = leaf_after d j l m p o
  moved_after d (node h ts) (node g us) (node f ws) p o = (o.0 ∙ p.0, moved_after d ts us ws p.1 o.1)
  moved_after d (bind hs t) (bind ks u) (bind ls w) p o = (o.0 ∙ p.0, moved_after (suc d) t u w p.1 o.1)
  moved_after d nil nil nil p o = tt
  moved_after d (cons t ts) (cons u us) (cons w ws) p o = (moved_after d t u w p.0 o.0, moved_after d ts us ws p.1 o.1)
  moved_after d (leaf j) (leaf l) w p o = absurd o
  moved_after d (node h ts) (node g us) w p o = absurd o
  moved_after d (bind hs t) (bind ks u) w p o = absurd o
  moved_after d nil nil w p o = absurd o
  moved_after d (cons t ts) (cons u us) w p o = absurd o
  moved_after d t u w p o = absurd p

-- To which place each variable of a list is renamed, and back.
abbrev number : UsedVar → ℕ
number (Ty i) = i
number (Region i) = i
number (Const i) = i

abbrev or_none : Option ℕ → ℕ
or_none (Some i) = i
or_none None = 0

abbrev to_place : List UsedVar → Kind → ℕ → ℕ
to_place us k i = or_none (place_in us (var_of k i))

abbrev from_place : List UsedVar → Kind → ℕ → ℕ
from_place us k j = number (get_or us j (Ty 0))

number_of : (k : Kind) (i : ℕ) → i ≡ number (var_of k i)
number_of type_kind i = refl
number_of region_kind i = refl
number_of const_kind i = refl

place_next : (us : List UsedVar) (u v : UsedVar) (b : Bool) (o : Option ℕ) (j : ℕ) → same_var u v ≡ b →
    ((i : ℕ) → o ≡ Some i → v ≡ get_or us i (Ty 0)) → cond b (Some 0) (option_map suc o) ≡ Some j →
    v ≡ get_or (u ∷ us) j (Ty 0)
place_next us u v true o j s f e =
    let z : 0 ≡ j = cc in
    sym (same_is u v s) ∙ ap (λ i. get_or (u ∷ us) i (Ty 0)) z
place_next us u v false (Some i) j s f e =
    let z : suc i ≡ j = cc in
    f i refl ∙ ap (λ x. get_or (u ∷ us) x (Ty 0)) z
place_next us u v false None j s f e = absurd (cc)

place_is : (us : List UsedVar) (v : UsedVar) (j : ℕ) → place_in us v ≡ Some j → v ≡ get_or us j (Ty 0)
place_is [] v j e = absurd (cc)
place_is (u ∷ us) v j e = place_next us u v (same_var u v) (place_in us v) j refl (λ i h. place_is us v i h) e

-- A body is a renaming of what it is made to.
module _ (name : ℕ) (us : List UsedVar) where
  abbrev In : UsedVar → Type 0
  In v = IsSome (place_in us v)

  bound_there : (d : ℕ) (k : Kind) (n e i : ℕ) (b : Bool) → nat_eq e d ≡ b → Each In (cond b (var_of k i ∷ []) []) →
      Moved (to_place us) d (leaf (bound (bound_kind k n) e i)) (folded (renames name us) d (leaf (bound (bound_kind k n) e i)))
      × Moved (from_place us) d (folded (renames name us) d (leaf (bound (bound_kind k n) e i))) (leaf (bound (bound_kind k n) e i))
  bound_there d k n e i true q h =
      let at = is_some_at (place_in us (var_of k i)) h.0 in
      let l = leaf (bound (bound_kind k n) e i) in
      let is = sym (renamed_here name us d k n e i at.0 q at.1) in
      let there : Moved (to_place us) d l (leaf (bound (bound_kind k name) e at.0)) =
      subst (λ b. cond b ((x : ℕ) × (bound (bound_kind k name) e at.0 ≡ bound (bound_kind k x) e (to_place us k i)))
      (bound (bound_kind k name) e at.0 ≡ bound (bound_kind k n) e i)) (sym q)
      (name, ap (λ z. bound (bound_kind k name) e (or_none z)) (sym at.1)) in
      let from : i ≡ from_place us k at.0 = number_of k i ∙ ap number (place_is us (var_of k i) at.0 at.1) in
      let back : Moved (from_place us) d (leaf (bound (bound_kind k name) e at.0)) l =
      subst (λ b. cond b ((x : ℕ) × (bound (bound_kind k n) e i ≡ bound (bound_kind k x) e (from_place us k at.0)))
      (bound (bound_kind k n) e i ≡ bound (bound_kind k name) e at.0)) (sym q)
      (n, ap (λ z. bound (bound_kind k n) e z) from) in
      (subst (λ z. Moved (to_place us) d l z) is there, subst (λ z. Moved (from_place us) d z l) is back)
  bound_there d k n e i false q h =
      let l = leaf (bound (bound_kind k n) e i) in
      let is = sym (renamed_not name us d k n e i q) in
      let stays = λ (to : Kind → ℕ → ℕ). subst (λ b. cond b
      ((x : ℕ) × (bound (bound_kind k n) e i ≡ bound (bound_kind k x) e (to k i)))
      (bound (bound_kind k n) e i ≡ bound (bound_kind k n) e i)) (sym q) refl in (
        subst (λ z. Moved (to_place us) d l z) is (stays (to_place us)),
        subst (λ z. Moved (from_place us) d z l) is (stays (from_place us)),
      )

  there : (d : ℕ) (t : Tree) → Each In (uses d t) →
      Moved (to_place us) d t (folded (renames name us) d t) × Moved (from_place us) d (folded (renames name us) d t) t
  there d (leaf (bound (bound_kind k n) e i)) h = bound_there d k n e i (nat_eq e d) refl h
  there d (leaf (variable k n)) h =
      let is = sym (put_none (asks (leaf_sort (variable k n))) (leaf (variable k n))) in (
        subst (λ z. Moved (to_place us) d (leaf (variable k n)) z) is refl,
        subst (λ z. Moved (from_place us) d z (leaf (variable k n))) is refl,
      )
  there d (leaf (placeholder k u n)) h =
      let is = sym (put_none (asks (leaf_sort (placeholder k u n))) (leaf (placeholder k u n))) in (
        subst (λ z. Moved (to_place us) d (leaf (placeholder k u n)) z) is refl,
        subst (λ z. Moved (from_place us) d z (leaf (placeholder k u n))) is refl,
      )
  there d (leaf (atom x)) h =
      let is = sym (put_none (asks (leaf_sort (atom x))) (leaf (atom x))) in (
        subst (λ z. Moved (to_place us) d (leaf (atom x)) z) is refl,
        subst (λ z. Moved (from_place us) d z (leaf (atom x))) is refl,
      )
  there d (leaf unknown) h = (refl, refl)
  there d (node h ts) e =
      let is = sym (renamed_node name us d h ts) in
      let r = there d ts (each_parts In d h ts e) in (
        subst (λ z. Moved (to_place us) d (node h ts) z) is (refl, r.0),
        subst (λ z. Moved (from_place us) d z (node h ts)) is (refl, r.1),
      )
  there d (bind ks t) h = let r = there (suc d) t h in ((refl, r.0), (refl, r.1))
  there d nil h = (tt, tt)
  there d (cons t ts) h =
      let r = there d t (each_left In (uses d t) (uses d ts) h) in
      let s = there d ts (each_right In (uses d t) (uses d ts) h) in
      ((r.0, s.0), (r.1, s.1))

renamed : (name : ℕ) (t : Tree) → AreRenamings t (folded (renames name (used_vars t)) 0 t)
renamed name t =
    let r = there name (used_vars t) 0 t (each_in (used_vars t) (uses 0 t) (all_added (uses 0 t) [])) in
    record { to = to_place (used_vars t); back = from_place (used_vars t); there = r.0; again = r.1 }

-- What are anonymised alike are renamings of one another.
alike_renamed : (name : ℕ) (ks ls : List BoundKind) (t u : Tree) →
    anonymized name (bind ks t) ≡ anonymized name (bind ls u) → AreRenamings t u
alike_renamed name ks ls t u e =
    let x = folded (renames name (used_vars t)) 0 t in
    let y = folded (renames name (used_vars u)) 0 u in
    let one : x ≡ y = cc in
    let a = renamed name t in
    let b = renamed name u in
    record {
      to = after a.to b.back;
      back = after b.to a.back;
      there = moved_after a.to b.back 0 t y u (subst (λ z. Moved a.to 0 t z) one a.there) b.again;
      again = moved_after b.to a.back 0 u x t (subst (λ z. Moved b.to 0 u z) (sym one) b.there) a.again;
    }

pub renamings_are_one : RenamingsAreOne
renamings_are_one name ks ls t u = (made_alike name ks ls t u, alike_renamed name ks ls t u)
