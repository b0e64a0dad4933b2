-- Two rings become one.
use Rattle.std.proofs.Common.{◌≡◌, ◌≢◌, ℕ, suc, ◌+◌, ◌<◌, ◌≤◌, sym, ap, ◌∙◌, subst, arith, eqb, cond, min, max}
use native.Mathlib.Decide.{ℕ_discrete, dec_le}
use Rattle.variable_classes.specs.Roots.{led_root}
use Rattle.variable_classes.specs.Rings.{Ring}
use Rattle.variable_classes.proofs.Leading.{pick_yes, pick_no, led_child, led_other}

-- The smaller of two, by either.
pub lower_by_first : (a b : ℕ) → led_root (max a b) (min a b) a ≡ min a b
lower_by_first a b = go (ℕ_discrete a (max a b))
  where
    go : Dec (a ≡ max a b) → led_root (max a b) (min a b) a ≡ min a b
    go (yes e) = led_child (max a b) (min a b) a e
    go (no o) = led_other (max a b) (min a b) a o ∙ (let m : a ≡ min a b = omega (arith, o) in m)

pub lower_by_second : (a b : ℕ) → led_root (max a b) (min a b) b ≡ min a b
lower_by_second a b = go (ℕ_discrete b (max a b))
  where
    go : Dec (b ≡ max a b) → led_root (max a b) (min a b) b ≡ min a b
    go (yes e) = led_child (max a b) (min a b) b e
    go (no o) = led_other (max a b) (min a b) b o ∙ (let m : b ≡ min a b = omega (arith, o) in m)

module _ (n : ℕ) (of next least place : ℕ → ℕ) (r : Ring n of next least place) (from into : ℕ) (f_in : from < n) (i_in : into < n)
    (f_own : of from ≡ from) (i_own : of into ≡ into) (d : from ≢ into) (of' next' least' : ℕ → ℕ)
    (of_led : (i : ℕ) → i < n → of' i ≡ led_root from into (of i))
    (next_from : next' from ≡ next into) (next_into : next' into ≡ next from)
    (next_other : (i : ℕ) → i < n → i ≢ from → i ≢ into → next' i ≡ next i)
    (least_into : least' into ≡ min (least from) (least into))
    (least_other : (i : ℕ) → i < n → i ≢ from → i ≢ into → least' i ≡ least i) where
  split : {P : Type 0} (c : ℕ) → (c ≡ from → P) → (c ≡ into → P) → (c ≢ from → c ≢ into → P) → P
  split {P} c f g h = go (ℕ_discrete c from) (ℕ_discrete c into)
    where
      go : Dec (c ≡ from) → Dec (c ≡ into) → P
      go (yes e) q = f e
      go (no o) (yes e) = g e
      go (no o) (no q) = h o q

  led_f : (i : ℕ) → i < n → of i ≡ from → of' i ≡ into
  led_f i h e = of_led i h ∙ led_child from into (of i) e

  led_i : (i : ℕ) → i < n → of i ≡ into → of' i ≡ into
  led_i i h e = of_led i h ∙ led_other from into (of i) (λ q. d (sym q ∙ e)) ∙ e

  led_o : (i : ℕ) → i < n → of i ≢ from → of' i ≡ of i
  led_o i h o = of_led i h ∙ led_other from into (of i) o

  -- The ring goes from the new name through those that were led, and then through its own.
  pub place' : ℕ → ℕ
  place' i = cond (eqb (of i) into) (place i + place from) (place i)

  p_into : (i : ℕ) → of i ≡ into → place' i ≡ place i + place from
  unfolding place'
  p_into i e = pick_yes (of i) into (place i + place from) (place i) e

  p_other : (i : ℕ) → of i ≢ into → place' i ≡ place i
  unfolding place'
  p_other i o = pick_no (of i) into (place i + place from) (place i) o

  named : (i : ℕ) → i < n → of' i < n
  named i h = split (of i)
      (λ e. subst (λ z. z < n) (sym (led_f i h e)) i_in)
      (λ e. subst (λ z. z < n) (sym (led_i i h e)) i_in)
      (λ o q. subst (λ z. z < n) (sym (led_o i h o)) (r.named i h))

  names_itself : (i : ℕ) → i < n → of' (of' i) ≡ of' i
  names_itself i h = split (of i)
      (λ e. ap of' (led_f i h e) ∙ led_i into i_in i_own ∙ sym (led_f i h e))
      (λ e. ap of' (led_i i h e) ∙ led_i into i_in i_own ∙ sym (led_i i h e))
      (λ o q. ap of' (led_o i h o) ∙ led_o (of i) (r.named i h) (λ z. o (sym (r.names_itself i h) ∙ z)) ∙ r.names_itself i h ∙ sym (led_o i h o))

  within : (i : ℕ) → i < n → next' i < n
  within i h = split i
      (λ e. subst (λ z. z < n) (sym (ap next' e ∙ next_from)) (r.within into i_in))
      (λ e. subst (λ z. z < n) (sym (ap next' e ∙ next_into)) (r.within from f_in))
      (λ o q. subst (λ z. z < n) (sym (next_other i h o q)) (r.within i h))

  after_from : of (next from) ≡ from
  after_from = r.stays from f_in ∙ f_own

  after_into : of (next into) ≡ into
  after_into = r.stays into i_in ∙ i_own

  stays : (i : ℕ) → i < n → of' (next' i) ≡ of' i
  stays i h = split i
      (λ e. ap of' (ap next' e ∙ next_from) ∙ led_i (next into) (r.within into i_in) after_into ∙ sym (led_f i h (ap of e ∙ f_own)))
      (λ e. ap of' (ap next' e ∙ next_into) ∙ led_f (next from) (r.within from f_in) after_from ∙ sym (led_i i h (ap of e ∙ i_own)))
      (λ o q. ap of' (next_other i h o q) ∙ of_led (next i) (r.within i h) ∙ ap (led_root from into) (r.stays i h) ∙ sym (of_led i h))

  first : (i : ℕ) → i < n → of' i ≡ i → place' (next' i) ≡ 1
  first i h own = split i
      (λ e. absurd (d (sym e ∙ sym own ∙ led_f i h (ap of e ∙ f_own))))
      (λ e. ap place' (ap next' e ∙ next_into) ∙ p_other (next from) (λ z. d (sym after_from ∙ z)) ∙ r.first from f_in f_own)
      (λ o q. split (of i)
      (λ e. absurd (q (sym own ∙ led_f i h e)))
      (λ e. absurd (q (sym own ∙ led_i i h e)))
      (λ o' q'. ap place' (next_other i h o q) ∙ p_other (next i) (λ z. q' (sym (r.stays i h) ∙ z)) ∙ r.first i h (sym (led_o i h o') ∙ own)))

  goes_on : (i : ℕ) → i < n → (of' i ≡ i → ⊥) → place' (next' i) ≡ suc (place' i)
  goes_on i h ne = split i
      (λ e.
      let a = ap place' (ap next' e ∙ next_from) ∙ p_into (next into) after_into in
      let b = r.first into i_in i_own in
      let c = p_other i (λ z. d (sym (ap of e ∙ f_own) ∙ z)) ∙ ap place e in
      omega (arith, a, b, c))
      (λ e. absurd (ne (led_i i h (ap of e ∙ i_own) ∙ sym e)))
      (λ o q. let a = ap place' (next_other i h o q) in split (of i)
      (λ e.
      let g = r.goes_on i h (λ z. o (sym z ∙ e)) in
      let b = p_other (next i) (λ z. d (sym (r.stays i h ∙ e) ∙ z)) in
      let c = p_other i (λ z. d (sym e ∙ z)) in
      omega (arith, a, b, c, g))
      (λ e.
      let g = r.goes_on i h (λ z. q (sym z ∙ e)) in
      let b = p_into (next i) (r.stays i h ∙ e) in
      let c = p_into i e in
      omega (arith, a, b, c, g))
      (λ o' q'.
      let g = r.goes_on i h (λ z. ne (led_o i h o' ∙ z)) in
      let b = p_other (next i) (λ z. q' (sym (r.stays i h) ∙ z)) in
      let c = p_other i q' in
      omega (arith, a, b, c, g)))

  counted : (i : ℕ) → i < n → 1 ≤ place' i
  counted i h = let k = r.counted i h in split (of i)
      (λ e. let c = p_other i (λ z. d (sym e ∙ z)) in omega (arith, c, k))
      (λ e. let c = p_into i e in omega (arith, c, k))
      (λ o q. let c = p_other i q in omega (arith, c, k))

  last : (i : ℕ) → i < n → place' i ≤ place' (of' i)
  last i h = let l = r.last i h in split (of i)
      (λ e.
      let c = p_other i (λ z. d (sym e ∙ z)) in
      let a = ap place' (led_f i h e) ∙ p_into into i_own in
      let p = ap place e in
      omega (arith, c, a, p, l))
      (λ e.
      let c = p_into i e in
      let a = ap place' (led_i i h e) ∙ p_into into i_own in
      let p = ap place e in
      omega (arith, c, a, p, l))
      (λ o q.
      let c = p_other i q in
      let a = ap place' (led_o i h o) ∙ p_other (of i) (λ z. q (sym (r.names_itself i h) ∙ z)) in
      omega (arith, c, a, l))

  -- No member of the one class has the place of one of the other.
  no_meeting : (i j : ℕ) → i < n → j < n → of i ≡ from → of j ≡ into → place' i ≡ place' j → ⊥
  no_meeting i j hi hj x y p =
      let a = p_other i (λ z. d (sym x ∙ z)) in
      let b = p_into j y in
      let l = r.last i hi in
      let q = ap place x in
      let k = r.counted j hj in
      omega (arith, p, a, b, l, q, k)

  apart : (i j : ℕ) → i < n → j < n → of' i ≡ of' j → place' i ≡ place' j → i ≡ j
  apart i j hi hj e p = split (of i)
      (λ x. split (of j)
      (λ y. r.apart i j hi hj (x ∙ sym y) (sym (p_other i (λ z. d (sym x ∙ z))) ∙ p ∙ p_other j (λ z. d (sym y ∙ z))))
      (λ y. absurd (no_meeting i j hi hj x y p))
      (λ o q. absurd (q (sym (led_o j hj o) ∙ sym e ∙ led_f i hi x))))
      (λ x. split (of j)
      (λ y. absurd (no_meeting j i hj hi y x (sym p)))
      (λ y. r.apart i j hi hj (x ∙ sym y) (let a = p_into i x in let b = p_into j y in omega (arith, p, a, b)))
      (λ o q. absurd (q (sym (led_o j hj o) ∙ sym e ∙ led_i i hi x))))
      (λ o q. split (of j)
      (λ y. absurd (q (sym (led_o i hi o) ∙ e ∙ led_f j hj y)))
      (λ y. absurd (q (sym (led_o i hi o) ∙ e ∙ led_i j hj y)))
      (λ o' q'. r.apart i j hi hj (sym (led_o i hi o) ∙ e ∙ led_o j hj o') (sym (p_other i q) ∙ p ∙ p_other j q')))

  low_f : (i : ℕ) → i < n → of i ≡ from → least' (of' i) ≡ min (least from) (least into)
  low_f i h e = ap least' (led_f i h e) ∙ least_into

  low_i : (i : ℕ) → i < n → of i ≡ into → least' (of' i) ≡ min (least from) (least into)
  low_i i h e = ap least' (led_i i h e) ∙ least_into

  low_o : (i : ℕ) → i < n → of i ≢ from → of i ≢ into → least' (of' i) ≡ least (of i)
  low_o i h o q = ap least' (led_o i h o) ∙ least_other (of i) (r.named i h) o q

  least_below : (i : ℕ) → i < n → least' (of' i) ≤ i
  least_below i h = let l = r.least_below i h in split (of i)
      (λ e. let a = low_f i h e in let p = ap least e in omega (arith, a, p, l))
      (λ e. let a = low_i i h e in let p = ap least e in omega (arith, a, p, l))
      (λ o q. let a = low_o i h o q in omega (arith, a, l))

  of_least_f : of (least from) ≡ from
  of_least_f = ap (λ z. of (least z)) (sym f_own) ∙ r.least_in from f_in ∙ f_own

  of_least_i : of (least into) ≡ into
  of_least_i = ap (λ z. of (least z)) (sym i_own) ∙ r.least_in into i_in ∙ i_own

  least_f_in : least from < n
  least_f_in = let l = r.least_below from f_in in let p = ap least f_own in omega (arith, l, p, f_in)

  least_i_in : least into < n
  least_i_in = let l = r.least_below into i_in in let p = ap least i_own in omega (arith, l, p, i_in)

  of_lower : of' (min (least from) (least into)) ≡ into
  of_lower = go (dec_le (least from) (least into))
    where
      go : Dec (least from ≤ least into) → of' (min (least from) (least into)) ≡ into
      go (yes h) = ap of' (let m : min (least from) (least into) ≡ least from = omega (arith, h) in m) ∙ led_f (least from) least_f_in of_least_f
      go (no o) = ap of' (let m : min (least from) (least into) ≡ least into = omega (arith, o) in m) ∙ led_i (least into) least_i_in of_least_i

  least_in : (i : ℕ) → i < n → of' (least' (of' i)) ≡ of' i
  least_in i h = split (of i)
      (λ e. ap of' (low_f i h e) ∙ of_lower ∙ sym (led_f i h e))
      (λ e. ap of' (low_i i h e) ∙ of_lower ∙ sym (led_i i h e))
      (λ o q. ap of' (low_o i h o q)
      ∙ led_o (least (of i)) (let l = r.least_below i h in omega (arith, l, h)) (λ z. o (sym (r.least_in i h) ∙ z))
      ∙ r.least_in i h ∙ sym (led_o i h o))

  pub merged : Ring n of' next' least' place'
  merged = record {
    named = named;
    names_itself = names_itself;
    within = within;
    stays = stays;
    first = first;
    goes_on = goes_on;
    counted = counted;
    last = last;
    apart = apart;
    least_below = least_below;
    least_in = least_in;
  }

  -- What is another class's smallest member is neither's.
  other_least : (i : ℕ) → i < n → of i ≢ from → of i ≢ into → least (of i) ≢ max (least from) (least into)
  other_least i h o q e = go (dec_le (least from) (least into))
    where
      go : Dec (least from ≤ least into) → ⊥
      go (yes l) = q (sym (r.least_in i h) ∙ ap of (e ∙ (let m : max (least from) (least into) ≡ least into = omega (arith, l) in m)) ∙ of_least_i)
      go (no l) = o (sym (r.least_in i h) ∙ ap of (e ∙ (let m : max (least from) (least into) ≡ least from = omega (arith, l) in m)) ∙ of_least_f)

  pub merged_root : (i : ℕ) → i < n →
      least' (of' i) ≡ led_root (max (least from) (least into)) (min (least from) (least into)) (least (of i))
  merged_root i h = split (of i)
      (λ e. low_f i h e ∙ sym (lower_by_first (least from) (least into))
      ∙ ap (led_root (max (least from) (least into)) (min (least from) (least into))) (ap least (sym e)))
      (λ e. low_i i h e ∙ sym (lower_by_second (least from) (least into))
      ∙ ap (led_root (max (least from) (least into)) (min (least from) (least into))) (ap least (sym e)))
      (λ o q. low_o i h o q
      ∙ sym (led_other (max (least from) (least into)) (min (least from) (least into)) (least (of i)) (other_least i h o q)))
