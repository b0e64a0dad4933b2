-- Naming a class after another member, round the ring.
use Rattle.std.proofs.Common.{◌≡◌, ◌≢◌, ℕ, zero, suc, ◌<◌, refl, sym, ap, ◌∙◌, subst, arith, List, [], ◌∷◌, length, map, get_or, set, eqb, cond, Bool, true, false}
use Rattle.std.proofs.lemmas.List.{get_or-map, get_or-set_same, get_or-set_other, length-map, length-set, ext_get_or}
use Rattle.std.proofs.lemmas.Bool.{eqb-true, eq-eqb}
use native.Mathlib.Decide.{ℕ_discrete}
use Rattle.variable_classes.specs.declared.members.Member.{Member}
use Rattle.variable_classes.specs.Roots.{led_root}
use Rattle.variable_classes.specs.Rings.{no_member, of_at, next_at, renamed, led_on, AreRings}

pub pick_yes : (a b x y : ℕ) → a ≡ b → cond (eqb a b) x y ≡ x
pick_yes a b x y e = ap (λ z. cond z x y) (eq-eqb a b e)

pub pick_no : (a b x y : ℕ) → a ≢ b → cond (eqb a b) x y ≡ y
pick_no a b x y o = go (eqb a b) refl
  where
    go : (c : _) → eqb a b ≡ c → cond (eqb a b) x y ≡ y
    go true e = absurd (o (eqb-true a b e))
    go false e = ap (λ z. cond z x y) e

pub led_child : (child root r : ℕ) → r ≡ child → led_root child root r ≡ root
led_child child root r e = pick_yes r child root r e

pub led_other : (child root r : ℕ) → r ≢ child → led_root child root r ≡ r
led_other child root r o = pick_no r child root r o

-- How many are named after a member.
abbrev pub named_by : ℕ → List Member → ℕ
named_by from [] = 0
named_by from (m ∷ ms) = cond (eqb m.of from) (suc (named_by from ms)) (named_by from ms)

-- One fewer, after one was named after another.
pub fewer : (from into at : ℕ) (ms : List Member) → at < length ms → of_at ms at ≡ from → into ≢ from →
    named_by from (set ms at (renamed into (get_or ms at no_member))) < named_by from ms
fewer from into at [] h e o = absurd (omega (arith, h))
fewer from into zero (m ∷ ms) h e o =
    go (eqb into from) refl
  where
    go : (b : _) → eqb into from ≡ b → cond (eqb into from) (suc (named_by from ms)) (named_by from ms) < cond (eqb m.of from) (suc (named_by from ms)) (named_by from ms)
    go true q = absurd (o (eqb-true into from q))
    go false q =
        let a = ap (λ b. cond b (suc (named_by from ms)) (named_by from ms)) (eq-eqb m.of from e) in
        let c = ap (λ b. cond b (suc (named_by from ms)) (named_by from ms)) q in
        omega (arith, a, c)
fewer from into (suc at) (m ∷ ms) h e o = go (eqb m.of from) (fewer from into at ms (omega (arith, h)) e o)
  where
    go : (b : Bool) → named_by from (set ms at (renamed into (get_or ms at no_member))) < named_by from ms →
        cond b (suc (named_by from (set ms at (renamed into (get_or ms at no_member))))) (named_by from (set ms at (renamed into (get_or ms at no_member)))) < cond b (suc (named_by from ms)) (named_by from ms)
    go true less = omega (arith, less)
    go false less = less

-- The members at the places before `k` are named after the other one by now; all else stands.
pub record Led (was now : List Member) (place : ℕ → ℕ) (from into k : ℕ) : Type 0 where
  pub many : length now ≡ length was
  pub led : (i : ℕ) → i < length was → of_at was i ≡ from → place i < k → get_or now i no_member ≡ renamed into (get_or was i no_member)
  pub kept : (i : ℕ) → i < length was → (of_at was i ≡ from → place i < k → ⊥) → get_or now i no_member ≡ get_or was i no_member

-- The walk stands at a member.
pub record Stands (was now : List Member) (place : ℕ → ℕ) (from into at : ℕ) : Type 0 where
  pub there : at < length was
  pub member : of_at was at ≡ from
  pub behind : Led was now place from into (place at)

abbrev pub Goes : (was now : List Member) (from into at : ℕ) → Type 0
Goes was now from into at = (r : AreRings was) → Stands was now r.place from into at

module _ (was : List Member) (r : AreRings was) (from into : ℕ) (from_in : from < length was) (own : of_at was from ≡ from) where
  pub begins : Stands was was r.place from into (next_at was from)
  begins = record {
    there = r.ring.within from from_in;
    member = r.ring.stays from from_in ∙ own;
    behind = record {
      many = refl;
      led = λ i h e l. let a = r.ring.counted i h in let b = r.ring.first from from_in own in absurd (omega (arith, a, b, l));
      kept = λ i h o. refl;
    };
  }

  module _ (now : List Member) (at : ℕ) (s : Stands was now r.place from into at) where
    -- What is read there is what it was.
    pub as_was : get_or now at no_member ≡ get_or was at no_member
    as_was = s.behind.kept at s.there (λ e l. omega (arith, l))

    pub there_now : at < length now
    there_now = let a = s.there in let b = s.behind.many in omega (arith, a, b)

    abbrev after : List Member
    after = set now at (renamed into (get_or now at no_member))

    pub one_more : Led was after r.place from into (suc (r.place at))
    one_more = record {
      many = length-set now at (renamed into (get_or now at no_member)) ∙ s.behind.many;
      led = λ i h e l. led i h e l (ℕ_discrete i at);
      kept = λ i h o. kept i h o (ℕ_discrete i at);
    }
      where
        led : (i : ℕ) → i < length was → of_at was i ≡ from → r.place i < suc (r.place at) → Dec (i ≡ at) → get_or after i no_member ≡ renamed into (get_or was i no_member)
        led i h e l (yes q) = ap (λ z. get_or after z no_member) q
            ∙ get_or-set_same now at (renamed into (get_or now at no_member)) no_member there_now
            ∙ ap (renamed into) (as_was ∙ ap (λ z. get_or was z no_member) (sym q))
        led i h e l (no o) =
            let apart : r.place i ≡ r.place at → ⊥ = λ p. o (r.ring.apart i at h s.there (e ∙ sym s.member) p) in
            let less : r.place i < r.place at = omega (arith, l, apart) in
            get_or-set_other now at i (renamed into (get_or now at no_member)) no_member o ∙ s.behind.led i h e less

        kept : (i : ℕ) → i < length was → (of_at was i ≡ from → r.place i < suc (r.place at) → ⊥) → Dec (i ≡ at) → get_or after i no_member ≡ get_or was i no_member
        kept i h o (yes q) = absurd (o (ap (of_at was) q ∙ s.member) (let p = ap r.place q in omega (arith, p)))
        kept i h o (no d) = get_or-set_other now at i (renamed into (get_or now at no_member)) no_member d
            ∙ s.behind.kept i h (λ e l. o e (omega (arith, l)))

    pub goes_on : at ≢ from → (next : ℕ) → next ≡ next_at now at → Stands was after r.place from into next
    goes_on o next e = subst (λ z. Stands was after r.place from into z) (sym (e ∙ ap (λ m. m.next) as_was)) (record {
      there = r.ring.within at s.there;
      member = r.ring.stays at s.there ∙ s.member;
      behind = subst (Led was after r.place from into) (sym (r.ring.goes_on at s.there (λ q. o (sym q ∙ s.member)))) one_more;
    })

    pub less_left : into ≢ from → named_by from after < named_by from now
    less_left o = fewer from into at now there_now (ap (λ m. m.of) as_was ∙ s.member) o

    -- At the end all are named after the other one.
    pub all_led : at ≡ from → after ≡ map (led_on from into) was
    all_led q = ext_get_or no_member after (map (led_on from into) was)
        (one_more.many ∙ sym (length-map was (led_on from into)))
        (λ i h. by i (let m = one_more.many in omega (arith, h, m)))
      where
        by : (i : ℕ) → i < length was → get_or after i no_member ≡ get_or (map (led_on from into) was) i no_member
        by i h = go (ℕ_discrete (of_at was i) from) ∙ sym (get_or-map (led_on from into) was i no_member no_member h)
          where
            go : Dec (of_at was i ≡ from) → get_or after i no_member ≡ led_on from into (get_or was i no_member)
            go (yes e) =
                let l = r.ring.last i h in
                let p = ap r.place (e ∙ sym q) in
                one_more.led i h e (omega (arith, l, p))
                ∙ ap (λ z. renamed z (get_or was i no_member)) (sym (led_child from into (of_at was i) e))
            go (no o) = one_more.kept i h (λ e l. o e)
                ∙ ap (λ z. renamed z (get_or was i no_member)) (sym (led_other from into (of_at was i) o))
