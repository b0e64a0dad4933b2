-- Tables of members: what is read of them after two rings became one, and after one more number was put there.
use Rattle.std.proofs.Common.{◌≡◌, ◌≢◌, ℕ, suc, ◌<◌, ◌≤◌, refl, sym, ap, ap₂, ◌∙◌, subst, arith, List, [], ◌∷◌, ◌++◌, length, length-append, map, get_or, set, min, max}
use Rattle.std.proofs.lemmas.List.{get_or-map, get_or-set_same, get_or-set_other, get_or_append_left, get_or_past, length-map, length-set, ext_get_or}
use Rattle.std.proofs.Math.Seq.{get_or-append_seam}
use native.Mathlib.Decide.{ℕ_discrete, dec_le}
use Rattle.variable_classes.specs.declared.members.Member.{Member}
use Rattle.variable_classes.specs.Roots.{root_in, led_root, lowered_roots, IsRootTable}
use Rattle.variable_classes.specs.Rings.{no_member, of_at, next_at, least_at, roots_of, led_on, Ring, AreRings}
use Rattle.variable_classes.proofs.Leading.{led_child, led_other}
use Rattle.variable_classes.proofs.Merging as merging
use Rattle.variable_classes.proofs.Growing as growing

-- The root of a number.
pub root_is : (ms : List Member) (i : ℕ) → i < length ms → root_in (roots_of ms) i ≡ least_at ms (of_at ms i)
root_is ms i h = get_or-map (λ m. least_at ms m.of) ms i no_member i h

pub root_at_zero : (ms : List Member) (i : ℕ) → i < length ms → get_or (roots_of ms) i 0 ≡ least_at ms (of_at ms i)
root_at_zero ms i h = get_or-map (λ m. least_at ms m.of) ms i no_member 0 h

pub roots_long : (ms : List Member) → length (roots_of ms) ≡ length ms
roots_long ms = length-map ms (λ m. least_at ms m.of)

pub rooted : (ms : List Member) → AreRings ms → IsRootTable (roots_of ms)
rooted ms r = record { own = λ i. own i (dec_le (suc i) (length ms)); below = λ i. below i (dec_le (suc i) (length ms)) }
  where
    past : (i : ℕ) → (suc i ≤ length ms → ⊥) → root_in (roots_of ms) i ≡ i
    past i o = get_or_past (roots_of ms) i i (let l = roots_long ms in omega (arith, l, o))

    own : (i : ℕ) → Dec (suc i ≤ length ms) → root_in (roots_of ms) (root_in (roots_of ms) i) ≡ root_in (roots_of ms) i
    own i (yes h) =
        let is = root_is ms i (omega (arith, h)) in
        let low = r.ring.least_below i (omega (arith, h)) in
        ap (root_in (roots_of ms)) is
        ∙ root_is ms (least_at ms (of_at ms i)) (omega (arith, low, h))
        ∙ ap (least_at ms) (r.ring.least_in i (omega (arith, h))) ∙ sym is
    own i (no o) = ap (root_in (roots_of ms)) (past i o)

    below : (i : ℕ) → Dec (suc i ≤ length ms) → root_in (roots_of ms) i ≤ i
    below i (yes h) = subst (λ z. z ≤ i) (sym (root_is ms i (omega (arith, h)))) (r.ring.least_below i (omega (arith, h)))
    below i (no o) = let p = past i o in omega (arith, p)

-- The rings of two that name classes became one.
module _ (ms : List Member) (r : AreRings ms) (from into : ℕ) (f_in : from < length ms) (i_in : into < length ms)
    (f_own : of_at ms from ≡ from) (i_own : of_at ms into ≡ into) (d : from ≢ into) (ls : List Member) (x y : Member)
    (led : ls ≡ map (led_on from into) ms) (x_of : x.of ≡ into) (x_next : x.next ≡ next_at ms into)
    (y_of : y.of ≡ into) (y_next : y.next ≡ next_at ms from) (y_least : y.least ≡ min (least_at ms from) (least_at ms into)) where
  abbrev ys : List Member
  ys = set (set ls from x) into y

  led_long : length ls ≡ length ms
  led_long = ap length led ∙ length-map ms (led_on from into)

  long : length ys ≡ length ms
  long = length-set (set ls from x) into y ∙ length-set ls from x ∙ led_long

  read_into : get_or ys into no_member ≡ y
  read_into = get_or-set_same (set ls from x) into y no_member (let a = length-set ls from x in let b = led_long in omega (arith, a, b, i_in))

  read_from : get_or ys from no_member ≡ x
  read_from = get_or-set_other (set ls from x) into from y no_member d ∙ get_or-set_same ls from x no_member (let b = led_long in omega (arith, b, f_in))

  read_other : (i : ℕ) → i < length ms → i ≢ from → i ≢ into → get_or ys i no_member ≡ led_on from into (get_or ms i no_member)
  read_other i h o q = get_or-set_other (set ls from x) into i y no_member q ∙ get_or-set_other ls from i x no_member o
      ∙ ap (λ l. get_or l i no_member) led ∙ get_or-map (led_on from into) ms i no_member no_member h

  of_led : (i : ℕ) → i < length ms → of_at ys i ≡ led_root from into (of_at ms i)
  of_led i h = go (ℕ_discrete i from) (ℕ_discrete i into)
    where
      go : Dec (i ≡ from) → Dec (i ≡ into) → of_at ys i ≡ led_root from into (of_at ms i)
      go (yes e) q = ap (of_at ys) e ∙ ap (λ m. m.of) read_from ∙ x_of ∙ sym (led_child from into (of_at ms i) (ap (of_at ms) e ∙ f_own))
      go (no o) (yes e) =
          let own = ap (of_at ms) e ∙ i_own in
          ap (of_at ys) e ∙ ap (λ m. m.of) read_into ∙ y_of ∙ sym own
          ∙ sym (led_other from into (of_at ms i) (λ z. d (sym z ∙ own)))
      go (no o) (no q) = ap (λ m. m.of) (read_other i h o q)

  next_other : (i : ℕ) → i < length ms → i ≢ from → i ≢ into → next_at ys i ≡ next_at ms i
  next_other i h o q = ap (λ m. m.next) (read_other i h o q)

  least_other : (i : ℕ) → i < length ms → i ≢ from → i ≢ into → least_at ys i ≡ least_at ms i
  least_other i h o q = ap (λ m. m.least) (read_other i h o q)

  next_from : next_at ys from ≡ next_at ms into
  next_from = ap (λ m. m.next) read_from ∙ x_next

  next_into : next_at ys into ≡ next_at ms from
  next_into = ap (λ m. m.next) read_into ∙ y_next

  least_into : least_at ys into ≡ min (least_at ms from) (least_at ms into)
  least_into = ap (λ m. m.least) read_into ∙ y_least

  abbrev place' : ℕ → ℕ
  place' = merging.place' (length ms) (of_at ms) (next_at ms) (least_at ms) r.place r.ring from into f_in i_in f_own i_own d (of_at ys) (next_at ys) (least_at ys) of_led next_from next_into next_other least_into least_other

  pub merged : AreRings ys
  merged = record {
    place = place';
    ring = subst (λ z. Ring z (of_at ys) (next_at ys) (least_at ys) place') (sym long)
        (merging.merged (length ms) (of_at ms) (next_at ms) (least_at ms) r.place r.ring from into f_in i_in f_own i_own d (of_at ys) (next_at ys) (least_at ys) of_led next_from next_into next_other least_into least_other);
  }

  pub merged_roots : roots_of ys ≡ lowered_roots (least_at ms from) (least_at ms into) (roots_of ms)
  merged_roots = ext_get_or 0 (roots_of ys) (lowered_roots (least_at ms from) (least_at ms into) (roots_of ms))
      (roots_long ys ∙ long ∙ sym (roots_long ms) ∙ sym (length-map (roots_of ms) (led_root (max (least_at ms from) (least_at ms into)) (min (least_at ms from) (least_at ms into)))))
      (λ i h. by i (let a = roots_long ys in let b = long in omega (arith, a, b, h)))
    where
      by : (i : ℕ) → i < length ms → get_or (roots_of ys) i 0 ≡ get_or (lowered_roots (least_at ms from) (least_at ms into) (roots_of ms)) i 0
      by i h = root_at_zero ys i (let b = long in omega (arith, b, h))
          ∙ merging.merged_root (length ms) (of_at ms) (next_at ms) (least_at ms) r.place r.ring from into f_in i_in f_own i_own d (of_at ys) (next_at ys) (least_at ys) of_led next_from next_into next_other least_into least_other i h
          ∙ sym (get_or-map (led_root (max (least_at ms from) (least_at ms into)) (min (least_at ms from) (least_at ms into))) (roots_of ms) i 0 0 (let a = roots_long ms in omega (arith, a, h))
          ∙ ap (led_root (max (least_at ms from) (least_at ms into)) (min (least_at ms from) (least_at ms into))) (root_at_zero ms i h))

-- The same whichever comes first, and nothing new where both are one.
pub lowered_turned : (r s : ℕ) (rs : List ℕ) → lowered_roots r s rs ≡ lowered_roots s r rs
lowered_turned r s rs = ap₂ (λ x y. map (led_root x y) rs) (let e : max r s ≡ max s r = omega arith in e) (let e : min r s ≡ min s r = omega arith in e)

pub lowered_same : (r s : ℕ) (rs : List ℕ) → r ≡ s → rs ≡ lowered_roots r s rs
lowered_same r s [] e = refl
lowered_same r s (x ∷ rs) e = ap₂ ◌∷◌ (go (ℕ_discrete x (max r s))) (lowered_same r s rs e)
  where
    go : Dec (x ≡ max r s) → x ≡ led_root (max r s) (min r s) x
    go (yes q) = (let m : x ≡ min r s = omega (arith, q, e) in m) ∙ sym (led_child (max r s) (min r s) x q)
    go (no o) = sym (led_other (max r s) (min r s) x o)

-- One more number, in a class of its own.
module _ (ms ys : List Member) (x : Member) (r : AreRings ms) (more : ys ≡ ms ++ x ∷ []) (x_of : x.of ≡ length ms) (x_next : x.next ≡ length ms) (x_least : x.least ≡ length ms) where
  more_long : length ys ≡ suc (length ms)
  more_long = ap length more ∙ (let a = length-append ms (x ∷ []) in let e : length (ms ++ x ∷ []) ≡ suc (length ms) = omega (arith, a) in e)

  read_old : (i : ℕ) → i < length ms → get_or ys i no_member ≡ get_or ms i no_member
  read_old i h = ap (λ l. get_or l i no_member) more ∙ get_or_append_left ms (x ∷ []) no_member i h

  read_new : get_or ys (length ms) no_member ≡ x
  read_new = ap (λ l. get_or l (length ms) no_member) more ∙ get_or-append_seam ms x [] no_member

  abbrev of_old : (i : ℕ) → i < length ms → of_at ys i ≡ of_at ms i
  of_old i h = ap (λ m. m.of) (read_old i h)

  abbrev next_old : (i : ℕ) → i < length ms → next_at ys i ≡ next_at ms i
  next_old i h = ap (λ m. m.next) (read_old i h)

  abbrev least_old : (i : ℕ) → i < length ms → least_at ys i ≡ least_at ms i
  least_old i h = ap (λ m. m.least) (read_old i h)

  of_new : of_at ys (length ms) ≡ length ms
  of_new = ap (λ m. m.of) read_new ∙ x_of

  least_new : least_at ys (length ms) ≡ length ms
  least_new = ap (λ m. m.least) read_new ∙ x_least

  pub grown : AreRings ys
  grown = record {
    place = growing.place' (length ms) (of_at ms) (next_at ms) (least_at ms) r.place r.ring (of_at ys) (next_at ys) (least_at ys) of_old next_old least_old of_new (ap (λ m. m.next) read_new ∙ x_next) least_new;
    ring = subst (λ z. Ring z (of_at ys) (next_at ys) (least_at ys) (growing.place' (length ms) (of_at ms) (next_at ms) (least_at ms) r.place r.ring (of_at ys) (next_at ys) (least_at ys) of_old next_old least_old of_new (ap (λ m. m.next) read_new ∙ x_next) least_new)) (sym more_long)
        (growing.grown (length ms) (of_at ms) (next_at ms) (least_at ms) r.place r.ring (of_at ys) (next_at ys) (least_at ys) of_old next_old least_old of_new (ap (λ m. m.next) read_new ∙ x_next) least_new);
  }

  pub grown_roots : roots_of ys ≡ roots_of ms ++ length (roots_of ms) ∷ []
  grown_roots = ext_get_or 0 (roots_of ys) (roots_of ms ++ length (roots_of ms) ∷ [])
      (let a = roots_long ys in let b = more_long in let c = roots_long ms in let e = length-append (roots_of ms) (length (roots_of ms) ∷ []) in omega (arith, a, b, c, e))
      (λ i h. by i (let a = roots_long ys in let b = more_long in omega (arith, a, b, h)) (ℕ_discrete i (length ms)))
    where
      by : (i : ℕ) → i < suc (length ms) → Dec (i ≡ length ms) → get_or (roots_of ys) i 0 ≡ get_or (roots_of ms ++ length (roots_of ms) ∷ []) i 0
      by i h (yes e) = root_at_zero ys i (let b = more_long in omega (arith, b, h))
          ∙ ap (λ z. least_at ys (of_at ys z)) e ∙ ap (least_at ys) of_new ∙ least_new ∙ sym (roots_long ms)
          ∙ sym (ap (λ z. get_or (roots_of ms ++ length (roots_of ms) ∷ []) z 0) (e ∙ sym (roots_long ms)) ∙ get_or-append_seam (roots_of ms) (length (roots_of ms)) [] 0)
      by i h (no o) =
          let less : i < length ms = omega (arith, h, o) in
          root_at_zero ys i (let b = more_long in omega (arith, b, h))
          ∙ ap (least_at ys) (of_old i less) ∙ least_old (of_at ms i) (r.ring.named i less)
          ∙ sym (get_or_append_left (roots_of ms) (length (roots_of ms) ∷ []) 0 i (let a = roots_long ms in omega (arith, a, less)) ∙ root_at_zero ms i less)

pub none_are_rings : (ms : List Member) → ms ≡ [] → AreRings ms
none_are_rings ms e = subst AreRings (sym e) (record {
  place = λ i. 0;
  ring = record {
    named = λ i h. absurd (omega (arith, h));
    names_itself = λ i h. absurd (omega (arith, h));
    within = λ i h. absurd (omega (arith, h));
    stays = λ i h. absurd (omega (arith, h));
    first = λ i h. absurd (omega (arith, h));
    goes_on = λ i h. absurd (omega (arith, h));
    counted = λ i h. absurd (omega (arith, h));
    last = λ i h. absurd (omega (arith, h));
    apart = λ i j h. absurd (omega (arith, h));
    least_below = λ i h. absurd (omega (arith, h));
    least_in = λ i h. absurd (omega (arith, h));
  };
})
