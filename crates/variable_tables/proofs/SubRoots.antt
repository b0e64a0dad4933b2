-- The roots of variables that are marked as related.
use Rattle.std.proofs.Common.{◌≡◌, ◌⊎◌, inl, inr, ℕ, ◌+◌, ◌<◌, ◌≤◌, refl, sym, ap, ◌∙◌, subst, subst₂, arith}
use Rattle.std.proofs.Common.{List, [], ◌∷◌, ◌++◌, length, length-append, map, min, max, ap₂}
use Rattle.std.proofs.lemmas.List.{length-map}
use native.Mathlib.Decide.{dec_le}
use Rattle.relation_terms.specs.Heads.{type_var}
use Rattle.relation_terms.specs.Meaning.{Meaning}
use Rattle.relation_semantics.specs.ContextCalls.{JoinsRoots}
use Rattle.variable_classes.proofs.Rooted.{at_child, at_other, at_root, led_table, root_more, more_table}
use Rattle.variable_tables.specs.declared.inner.InferCtxtInner.{InferCtxtInner}
use Rattle.variable_classes.specs.Roots.{Roots, root_in, led_root, joined_roots, IsRootTable}
use Rattle.variable_tables.specs.Tables.{store_of, HasSubRoots, IsLawful}
use Rattle.variable_tables.specs.Variables.{values_of, entry_of_value}
use Rattle.variable_tables.proofs.Writing.{table_made}

-- Two classes are one.
module _ (rs : List ℕ) (child root : ℕ) (there : child < length rs) where
  abbrev after : List ℕ
  after = map (led_root child root) rs

  module _ (t : IsRootTable rs) (root_own : root_in rs root ≡ root) (smaller : root ≤ child) where
    -- Whichever of both has the child as its root.
    pub led_joins : (a b : ℕ) →
        (root_in rs a ≡ child) × (root_in rs b ≡ root) ⊎ (root_in rs a ≡ root) × (root_in rs b ≡ child) →
        JoinsRoots (root_in rs) (root_in after) a b
    led_joins a b (inl (p, q)) = record {
      joined = λ n e. joined n e ∙ lower;
      others = λ n o z. at_other rs child root there t root_own smaller n (λ e. o (e ∙ sym p));
    }
      where
        lower : root ≡ min (root_in rs a) (root_in rs b)
        lower = omega (arith, p, q, smaller)

        joined : (n : ℕ) → (root_in rs n ≡ root_in rs a) ⊎ (root_in rs n ≡ root_in rs b) → root_in after n ≡ root
        joined n (inl e) = at_child rs child root there t root_own smaller n (e ∙ p)
        joined n (inr e) = at_root rs child root there t root_own smaller n (e ∙ q)
    led_joins a b (inr (p, q)) = record {
      joined = λ n e. joined n e ∙ lower;
      others = λ n o z. at_other rs child root there t root_own smaller n (λ e. z (e ∙ sym q));
    }
      where
        lower : root ≡ min (root_in rs a) (root_in rs b)
        lower = omega (arith, p, q, smaller)

        joined : (n : ℕ) → (root_in rs n ≡ root_in rs a) ⊎ (root_in rs n ≡ root_in rs b) → root_in after n ≡ root
        joined n (inl e) = at_root rs child root there t root_own smaller n (e ∙ p)
        joined n (inr e) = at_child rs child root there t root_own smaller n (e ∙ q)

-- A table that leading made of another.
pub record Joined (rs ys : List ℕ) (a b : ℕ) : Type 0 where
  pub as_many : length ys ≡ length rs
  pub rooted : IsRootTable ys
  pub joins : JoinsRoots (root_in rs) (root_in ys) a b

module _ (rs : List ℕ) (t : IsRootTable rs) (a b : ℕ) (a_in : a < length rs) (b_in : b < length rs) where
  pub joined_low : (ys : List ℕ) → root_in rs a ≤ root_in rs b → ys ≡ map (led_root (root_in rs b) (root_in rs a)) rs →
      Joined rs ys a b
  joined_low ys h e =
      let below = t.below b in
      let there : root_in rs b < length rs = omega (arith, below, b_in) in
      subst (λ z. Joined rs z a b) (sym e) (record {
        as_many = length-map rs (led_root (root_in rs b) (root_in rs a));
        rooted = led_table rs (root_in rs b) (root_in rs a) there t (t.own a) h;
        joins = led_joins rs (root_in rs b) (root_in rs a) there t (t.own a) h a b (inr (refl, refl));
      })

  pub joined_high : (ys : List ℕ) → root_in rs b ≤ root_in rs a → ys ≡ map (led_root (root_in rs a) (root_in rs b)) rs →
      Joined rs ys a b
  joined_high ys h e =
      let below = t.below a in
      let there : root_in rs a < length rs = omega (arith, below, a_in) in
      subst (λ z. Joined rs z a b) (sym e) (record {
        as_many = length-map rs (led_root (root_in rs a) (root_in rs b));
        rooted = led_table rs (root_in rs a) (root_in rs b) there t (t.own b) h;
        joins = led_joins rs (root_in rs a) (root_in rs b) there t (t.own b) h a b (inl (refl, refl));
      })

  -- What joining the classes of both makes.
  pub joined_is : (ys : List ℕ) → ys ≡ joined_roots a b rs → Joined rs ys a b
  joined_is ys e = go (dec_le (root_in rs a) (root_in rs b))
    where
      go : Dec (root_in rs a ≤ root_in rs b) → Joined rs ys a b
      go (yes h) = joined_low ys h (e ∙ ap₂ (λ x y. map (led_root x y) rs)
          (let m : max (root_in rs a) (root_in rs b) ≡ root_in rs b = omega (arith, h) in m)
          (let m : min (root_in rs a) (root_in rs b) ≡ root_in rs a = omega (arith, h) in m))
      go (no o) = joined_high ys (omega (arith, o)) (e ∙ ap₂ (λ x y. map (led_root x y) rs)
          (let m : max (root_in rs a) (root_in rs b) ≡ root_in rs a = omega (arith, o) in m)
          (let m : min (root_in rs a) (root_in rs b) ≡ root_in rs b = omega (arith, o) in m))

-- A class with itself.
pub joins_one : (f : ℕ → ℕ) (a b : ℕ) → f a ≡ f b → JoinsRoots f f a b
joins_one f a b e = record { joined = λ n q. joined n q; others = λ n o z. refl }
  where
    joined : (n : ℕ) → (f n ≡ f a) ⊎ (f n ≡ f b) → f n ≡ min (f a) (f b)
    joined n (inl q) = omega (arith, q, e)
    joined n (inr q) = omega (arith, q, e)

pub joins_itself : (f : ℕ → ℕ) (a b : ℕ) → a ≡ b → JoinsRoots f f a b
joins_itself f a b e = joins_one f a b (ap f e)

module _ {Key Id Name : Type 0} (m : Meaning Key Id Name) where
  -- A type variable has a root there.
  pub root_there : (x : InferCtxtInner Key) → HasSubRoots m x → (n : ℕ) → n < length x.types.items →
      n < length x.sub_roots.items
  root_there x h n made = let there = table_made m.ty x.types.items n made in let c = h.count in omega (arith, there, c)

  -- What joining the classes of two type variables makes.
  pub roots_joined : (x : InferCtxtInner Key) → HasSubRoots m x → (a b : ℕ) → a < length x.types.items →
      b < length x.types.items → (ys : List ℕ) → ys ≡ joined_roots a b x.sub_roots.items → Joined x.sub_roots.items ys a b
  roots_joined x h a b p q = joined_is x.sub_roots.items h.rooted a b (root_there x h a p) (root_there x h b q)

  -- The roots with that of one more.
  pub roots_made : (x : InferCtxtInner Key) (rs : Roots) →
      rs.items ≡ x.sub_roots.items ++ length x.sub_roots.items ∷ [] → HasSubRoots m x →
      HasSubRoots m (record x { sub_roots = rs })
  roots_made x rs e h = record {
    count =
        let c = h.count in
        let a = ap length e in
        let b = length-append x.sub_roots.items (length x.sub_roots.items ∷ []) in
        omega (arith, a, b, c);
    rooted = subst IsRootTable (sym e) (more_table x.sub_roots.items h.rooted);
    fresh = λ n o. ap (λ zs. root_in zs n) e ∙ root_more x.sub_roots.items n ∙ h.fresh n o;
  }

  -- Then there is room for one more variable.
  pub roots_room : (x : InferCtxtInner Key) (rs : Roots) →
      rs.items ≡ x.sub_roots.items ++ length x.sub_roots.items ∷ [] → HasSubRoots m x →
      length x.types.items + 1 ≤ length rs.items
  roots_room x rs e h =
      let c = h.count in
      let a = ap length e in
      let b = length-append x.sub_roots.items (length x.sub_roots.items ∷ []) in
      let d = length-map (values_of x.types.items) (entry_of_value m.ty) ∙ length-map x.types.items (λ v. v.value) in
      omega (arith, a, b, c, d)

  -- The roots after two classes were joined.
  pub roots_kept : (x : InferCtxtInner Key) (rs : Roots) → length rs.items ≡ length x.sub_roots.items →
      IsRootTable rs.items → (a b : ℕ) → a < length x.types.items → b < length x.types.items →
      JoinsRoots (root_in x.sub_roots.items) (root_in rs.items) a b → HasSubRoots m x →
      HasSubRoots m (record x { sub_roots = rs })
  roots_kept x rs long t a b a_made b_made joins h = record {
    count = subst (λ z. length ((store_of m x).entries type_var) ≤ z) (sym long) h.count;
    rooted = t;
    fresh = λ n o.
        let own = h.fresh n o in
        let a_there = table_made m.ty x.types.items a a_made in
        let b_there = table_made m.ty x.types.items b b_made in
        let a_low = h.rooted.below a in
        let b_low = h.rooted.below b in
        joins.others n (λ e. omega (arith, own, e, a_there, a_low, o)) (λ e. omega (arith, own, e, b_there, b_low, o)) ∙ own;
  }

  -- As many type variables, and the same roots.
  pub roots_same : (x y : InferCtxtInner Key) →
      length ((store_of m y).entries type_var) ≡ length ((store_of m x).entries type_var) →
      y.sub_roots.items ≡ x.sub_roots.items → HasSubRoots m x → HasSubRoots m y
  roots_same x y e same h = record {
    count = subst₂ ◌≤◌ (sym e) (sym (ap length same)) h.count;
    rooted = subst IsRootTable (sym same) h.rooted;
    fresh = λ n o. ap (λ rs. root_in rs n) same ∙ h.fresh n (subst (λ z. z ≤ n) e o);
  }

  -- Nothing else that a lawful context says of its tables speaks of these roots.
  pub roots_lawful : (x : InferCtxtInner Key) (rs : Roots) → HasSubRoots m (record x { sub_roots = rs }) → IsLawful m x →
      IsLawful m (record x { sub_roots = rs })
  roots_lawful x rs h l = record {
    sound = l.sound;
    rooted = l.rooted;
    formed = l.formed;
    numbers_name_nothing = l.numbers_name_nothing;
    keyed = l.keyed;
    numbers = l.numbers;
    sub_rooted = h;
  }
