-- One more ring, of one member.
use Rattle.std.proofs.Common.{◌≡◌, ℕ, suc, ◌<◌, ◌≤◌, sym, ap, ◌∙◌, arith, eqb, cond}
use native.Mathlib.Decide.{ℕ_discrete}
use Rattle.variable_classes.specs.Rings.{Ring}
use Rattle.variable_classes.proofs.Leading.{pick_yes, pick_no}

module _ (n : ℕ) (of next least place : ℕ → ℕ) (r : Ring n of next least place) (of' next' least' : ℕ → ℕ)
    (of_old : (i : ℕ) → i < n → of' i ≡ of i) (next_old : (i : ℕ) → i < n → next' i ≡ next i)
    (least_old : (i : ℕ) → i < n → least' i ≡ least i)
    (of_new : of' n ≡ n) (next_new : next' n ≡ n) (least_new : least' n ≡ n) where
  pub place' : ℕ → ℕ
  place' i = cond (eqb i n) 1 (place i)

  p_new : (i : ℕ) → i ≡ n → place' i ≡ 1
  unfolding place'
  p_new i e = pick_yes i n 1 (place i) e

  p_old : (i : ℕ) → i < n → place' i ≡ place i
  unfolding place'
  p_old i h = pick_no i n 1 (place i) (λ e. omega (arith, e, h))

  split : {P : Type 0} (i : ℕ) → i < suc n → (i ≡ n → P) → (i < n → P) → P
  split {P} i h f g = go (ℕ_discrete i n)
    where
      go : Dec (i ≡ n) → P
      go (yes e) = f e
      go (no o) = g (omega (arith, h, o))

  named : (i : ℕ) → i < suc n → of' i < suc n
  named i h = split i h
      (λ e. let a = ap of' e ∙ of_new in omega (arith, a))
      (λ l. let a = of_old i l in let b = r.named i l in omega (arith, a, b))

  names_itself : (i : ℕ) → i < suc n → of' (of' i) ≡ of' i
  names_itself i h = split i h
      (λ e. let a = ap of' e ∙ of_new in ap of' a ∙ of_new ∙ sym a)
      (λ l. ap of' (of_old i l) ∙ of_old (of i) (r.named i l) ∙ r.names_itself i l ∙ sym (of_old i l))

  within : (i : ℕ) → i < suc n → next' i < suc n
  within i h = split i h
      (λ e. let a = ap next' e ∙ next_new in omega (arith, a))
      (λ l. let a = next_old i l in let b = r.within i l in omega (arith, a, b))

  stays : (i : ℕ) → i < suc n → of' (next' i) ≡ of' i
  stays i h = split i h
      (λ e. ap of' (ap next' e ∙ next_new ∙ sym e))
      (λ l. ap of' (next_old i l) ∙ of_old (next i) (r.within i l) ∙ r.stays i l ∙ sym (of_old i l))

  first : (i : ℕ) → i < suc n → of' i ≡ i → place' (next' i) ≡ 1
  first i h own = split i h
      (λ e. p_new (next' i) (ap next' e ∙ next_new))
      (λ l. ap place' (next_old i l) ∙ p_old (next i) (r.within i l) ∙ r.first i l (sym (of_old i l) ∙ own))

  goes_on : (i : ℕ) → i < suc n → (of' i ≡ i → ⊥) → place' (next' i) ≡ suc (place' i)
  goes_on i h ne = split i h
      (λ e. absurd (ne (ap of' e ∙ of_new ∙ sym e)))
      (λ l. ap place' (next_old i l) ∙ p_old (next i) (r.within i l) ∙ r.goes_on i l (λ z. ne (of_old i l ∙ z)) ∙ ap suc (sym (p_old i l)))

  counted : (i : ℕ) → i < suc n → 1 ≤ place' i
  counted i h = split i h
      (λ e. let a = p_new i e in omega (arith, a))
      (λ l. let a = p_old i l in let b = r.counted i l in omega (arith, a, b))

  last : (i : ℕ) → i < suc n → place' i ≤ place' (of' i)
  last i h = split i h
      (λ e. let a = p_new i e in let b = p_new (of' i) (ap of' e ∙ of_new) in omega (arith, a, b))
      (λ l.
      let a = p_old i l in
      let b = ap place' (of_old i l) ∙ p_old (of i) (r.named i l) in
      let c = r.last i l in
      omega (arith, a, b, c))

  apart : (i j : ℕ) → i < suc n → j < suc n → of' i ≡ of' j → place' i ≡ place' j → i ≡ j
  apart i j hi hj e p = split i hi
      (λ x. split j hj
      (λ y. x ∙ sym y)
      (λ l. absurd (let a = ap of' x ∙ of_new in let b = of_old j l in let c = r.named j l in omega (arith, e, a, b, c))))
      (λ k. split j hj
      (λ y. absurd (let a = ap of' y ∙ of_new in let b = of_old i k in let c = r.named i k in omega (arith, e, a, b, c)))
      (λ l. r.apart i j k l (sym (of_old i k) ∙ e ∙ of_old j l) (sym (p_old i k) ∙ p ∙ p_old j l)))

  low_new : (i : ℕ) → i ≡ n → least' (of' i) ≡ n
  low_new i e = ap least' (ap of' e ∙ of_new) ∙ least_new

  low_old : (i : ℕ) → i < n → least' (of' i) ≡ least (of i)
  low_old i l = ap least' (of_old i l) ∙ least_old (of i) (r.named i l)

  least_below : (i : ℕ) → i < suc n → least' (of' i) ≤ i
  least_below i h = split i h
      (λ e. let a = low_new i e in omega (arith, a, e))
      (λ l. let a = low_old i l in let b = r.least_below i l in omega (arith, a, b))

  least_in : (i : ℕ) → i < suc n → of' (least' (of' i)) ≡ of' i
  least_in i h = split i h
      (λ e. ap of' (low_new i e) ∙ sym (ap of' e))
      (λ l. ap of' (low_old i l) ∙ of_old (least (of i)) (let b = r.least_below i l in omega (arith, b, l)) ∙ r.least_in i l ∙ sym (of_old i l))

  pub grown : Ring (suc n) of' next' least' place'
  grown = record {
    named = named;
    names_itself = names_itself;
    within = within;
    stays = stays;
    first = first;
    goes_on = goes_on;
    counted = counted;
    last = last;
    apart = apart;
    least_below = least_below;
    least_in = least_in;
  }
