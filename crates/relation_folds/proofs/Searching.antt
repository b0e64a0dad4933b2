-- What a visitor finds that stops at leaves with a property.
use Rattle.std.proofs.Common.{◌≡◌, ℕ, zero, suc, ◌-◌, max, Bool, true, false, cond, not, ◌||◌, refl, sym, ◌∙◌, ap, ap₂}
use Rattle.std.proofs.Common.{subst, nat_lt, arith}
use Rattle.std.proofs.Common.{◌<◌, ◌≤◌}
use Rattle.std.proofs.lemmas.Bool.{lt-ltb, le-ltb, ltb-true, ltb-false}
use Rattle.std.specs.declared.ops.ControlFlow.TheVariants.{Continue, Break}
use Rattle.std.specs.ControlFlow.{break_value}
use Rattle.std.specs.Option.{is_some}
use Rattle.relation_terms.specs.Heads.{type_kind, region_kind, const_kind, bound_kind}
use Rattle.relation_terms.specs.Heads.{type_var, int_var, float_var, const_var, region_var}
use Rattle.relation_terms.specs.Heads.{Leaf, variable, bound, placeholder, atom, unknown}
use Rattle.relation_terms.specs.Trees.{Tree, leaf, node, bind, nil, cons}
use Rattle.relation_terms.specs.Flags.{outer_exclusive_binder, has_non_region_infer, is_non_region_variable}
use Rattle.relation_terms.specs.Orders.{Order, in_turn, first_last, behind, in_order, order_of}
use Rattle.relation_folds.specs.declared.visit.Visit.TheVariants.{Enter, Skip, Stop}
use Rattle.relation_folds.specs.Visits.{is_visited, deeper, Flow, Walks, entered, skipped, stopped}
use Rattle.relation_folds.specs.Visits.{passed_leaf, passed, in_binder, no_part, last_part, next_part}
use Rattle.relation_folds.specs.Visits.{has_leaf, is_non_region_infer, is_escaping, StopsAtEscaping, StopsAtInfer}
use Rattle.relation_folds.specs.declared.visit.Visit.{Visit}

-- A list in any order has the same leaves.
or_behind : (a b c : Bool) → b || (a || c) ≡ a || (b || c)
or_behind true true c = refl
or_behind true false c = refl
or_behind false b c = refl

leaf_behind : (p : ℕ → Leaf → Bool) (d : ℕ) (t us : Tree) → has_leaf p d (behind t us) ≡ has_leaf p d (cons t us)
leaf_behind p d t (cons u us) = ap (λ x. has_leaf p d u || x) (leaf_behind p d t us)
    ∙ or_behind (has_leaf p d t) (has_leaf p d u) (has_leaf p d us)
leaf_behind p d t (leaf l) = refl
leaf_behind p d t (node h ts) = refl
leaf_behind p d t (bind ks u) = refl
leaf_behind p d t nil = refl

in_any_order : (p : ℕ → Leaf → Bool) (d : ℕ) (o : Order) (ts : Tree) → has_leaf p d (in_order o ts) ≡ has_leaf p d ts
in_any_order p d first_last (cons t ts) = leaf_behind p d t ts
in_any_order p d first_last (leaf l) = refl
in_any_order p d first_last (node h ts) = refl
in_any_order p d first_last (bind ks u) = refl
in_any_order p d first_last nil = refl
in_any_order p d in_turn ts = refl

-- Stopped where something was found.
abbrev pub flow : Bool → Flow
flow true = Break tt
flow false = Continue tt

never_entered : (b : Bool) → Enter ≡ cond b Stop Skip → ⊥
never_entered true e = cc
never_entered false e = cc

skipped_at : (b : Bool) → Skip ≡ cond b Stop Skip → b ≡ false
skipped_at true e = absurd (cc)
skipped_at false e = refl

stopped_at : (b : Bool) → Stop ≡ cond b Stop Skip → b ≡ true
stopped_at true e = refl
stopped_at false e = absurd (cc)

broke : (b : Bool) → Break tt ≡ flow b → b ≡ true
broke true e = refl
broke false e = absurd (cc)

went : (b : Bool) → Continue tt ≡ flow b → b ≡ false
went true e = absurd (cc)
went false e = refl

-- Of all numbers that there are it is told alike which are beyond the depth told and the exact one.
abbrev pub Told : ℕ → ℕ → Type 0
Told d e = (n : ℕ) → n < 340282366920938463463374607431768211456 → nat_lt d n ≡ nat_lt e n

below_more : (n d : ℕ) → nat_lt (suc n) (suc d) ≡ nat_lt n d
below_more n d = decided (nat_lt n d) refl
  where
    decided : (b : Bool) → nat_lt n d ≡ b → nat_lt (suc n) (suc d) ≡ nat_lt n d
    decided true i = let l = ltb-true n d i in lt-ltb (suc n) (suc d) (omega (arith, l)) ∙ sym i
    decided false i = let l = ltb-false n d i in le-ltb (suc n) (suc d) (omega (arith, l)) ∙ sym i

told_more : (d e : ℕ) → Told d e → Told (suc d) (suc e)
told_more d e h zero k = le-ltb (suc d) 0 (omega arith) ∙ sym (le-ltb (suc e) 0 (omega arith))
told_more d e h (suc n) k = below_more d n ∙ h n (omega (arith, k)) ∙ sym (below_more e n)

told_on : (d e : ℕ) → Told d e → 340282366920938463463374607431768211455 ≤ d → Told d (suc e)
told_on d e h o n k =
    let b : nat_lt d n ≡ false = le-ltb d n (omega (arith, o, k)) in
    let l : n ≤ e = ltb-false e n (sym (h n k) ∙ b) in
    b ∙ sym (le-ltb (suc e) n (omega (arith, l)))

pub told_deeper : (d e : ℕ) → Told d e → Told (deeper d) (suc e)
told_deeper d e h = decided (nat_lt d 340282366920938463463374607431768211455) refl
  where
    decided : (b : Bool) → nat_lt d 340282366920938463463374607431768211455 ≡ b → Told (deeper d) (suc e)
    decided true i = subst (λ b. Told (cond b (suc d) d) (suc e)) (sym i) (told_more d e h)
    decided false i = subst (λ b. Told (cond b (suc d) d) (suc e)) (sym i) (told_on d e h (ltb-false d 340282366920938463463374607431768211455 i))

in_list : (p : ℕ → Leaf → Bool) (d : ℕ) (t ts : Tree) (b : Bool) → has_leaf p d t ≡ b →
    has_leaf p d (cons t ts) ≡ b || has_leaf p d ts
in_list p d t ts b e = ap (λ x. x || has_leaf p d ts) e

module _ {V : Type 0} (visits : V → ℕ → Tree → V → Visit → Type 0) (p : ℕ → Leaf → Bool)
    (answers : (d e : ℕ) → Told d e → (v w : V) (t : Tree) (a : Visit) → visits v d t w a →
    a ≡ cond (has_leaf p e t) Stop Skip) where
  -- A search stops just where there is something to find, if that is nothing that no visitor is asked about.
  pub searched : ((d : ℕ) (l : Leaf) → is_visited (leaf l) ≡ false → p d l ≡ false) → (d e : ℕ) → Told d e →
      (v w : V) (t : Tree) (r : Flow) → Walks visits d v t w r → r ≡ flow (has_leaf p e t)
  searched f d b h v x t r (entered {w = w} i e o) =
      absurd (never_entered (has_leaf p b t) (answers d b h v w t Enter e))
  searched f d b h v w t r (skipped i e) = ap flow (sym (skipped_at (has_leaf p b t) (answers d b h v w t Skip e)))
  searched f d b h v w t r (stopped i e) = ap flow (sym (stopped_at (has_leaf p b t) (answers d b h v w t Stop e)))
  searched f d b h v w (leaf l) r (passed_leaf i) = ap flow (sym (f b l i))
  searched f d b h v w (node g ts) r (passed i o) =
      let o' = order_of (node g ts) in
      searched f d b h v w (in_order o' ts) r o ∙ ap flow (in_any_order p b o' ts)
  searched f d b h v w (bind ks t) r (in_binder o) = searched f (deeper d) (suc b) (told_deeper d b h) v w t r o
  searched f d b h v w nil r no_part = refl
  searched f d b h v w (cons t ts) r (last_part o) =
      let here = broke (has_leaf p b t) (searched f d b h v w t (Break tt) o) in
      ap flow (sym (in_list p b t ts true here))
  searched f d b h v x (cons t ts) r (next_part {w = w} o n) =
      let none = went (has_leaf p b t) (searched f d b h v w t (Continue tt) o) in
      searched f d b h w x ts r n ∙ ap flow (sym (in_list p b t ts false none))

-- What `is_break` tells of a search.
pub found : (b r : Bool) (f : Flow) → r ≡ is_some (break_value f) → f ≡ flow b → r ≡ b
found true r f o e = o ∙ ap (λ x. is_some (break_value x)) e
found false r f o e = o ∙ ap (λ x. is_some (break_value x)) e

-- A visitor is asked about every inference variable and every bound one.
pub infer_visited : (d : ℕ) (l : Leaf) → is_visited (leaf l) ≡ false → is_non_region_infer d l ≡ false
infer_visited depth (variable type_var n) e = absurd (cc)
infer_visited depth (variable int_var n) e = absurd (cc)
infer_visited depth (variable float_var n) e = absurd (cc)
infer_visited depth (variable const_var n) e = absurd (cc)
infer_visited depth (variable region_var n) e = refl
infer_visited depth (bound k d i) e = refl
infer_visited depth (placeholder k u n) e = refl
infer_visited depth (atom x) e = refl
infer_visited depth unknown e = refl

pub bound_visited : (d : ℕ) (l : Leaf) → is_visited (leaf l) ≡ false → is_escaping d l ≡ false
bound_visited depth (bound (bound_kind type_kind n) d i) e = absurd (cc)
bound_visited depth (bound (bound_kind region_kind n) d i) e = absurd (cc)
bound_visited depth (bound (bound_kind const_kind n) d i) e = absurd (cc)
bound_visited depth (variable k n) e = refl
bound_visited depth (placeholder k u n) e = refl
bound_visited depth (atom x) e = refl
bound_visited depth unknown e = refl

not_below : (i d : ℕ) → not (nat_lt i d) ≡ nat_lt d (suc i)
not_below i d = decided (nat_lt i d) refl
  where
    decided : (b : Bool) → nat_lt i d ≡ b → not (nat_lt i d) ≡ nat_lt d (suc i)
    decided true e = let l = ltb-true i d e in ap not e ∙ sym (le-ltb d (suc i) (omega (arith, l)))
    decided false e = let l = ltb-false i d e in ap not e ∙ sym (lt-ltb d (suc i) (omega (arith, l)))

below_one_less : (d n : ℕ) → nat_lt (suc d) n ≡ nat_lt d (n - 1)
below_one_less d zero = le-ltb (suc d) 0 (omega arith) ∙ sym (le-ltb d (0 - 1) (omega arith))
below_one_less d (suc n) = below_more d n ∙ ap (nat_lt d) (omega arith)

below_either : (d a b : ℕ) → nat_lt d a || nat_lt d b ≡ nat_lt d (max a b)
below_either d a b = decided (nat_lt d a) (nat_lt d b) refl refl
  where
    decided : (x y : Bool) → nat_lt d a ≡ x → nat_lt d b ≡ y → nat_lt d a || nat_lt d b ≡ nat_lt d (max a b)
    decided true y e f =
        let l = ltb-true d a e in
        ap (λ z. z || nat_lt d b) e ∙ sym (lt-ltb d (max a b) (omega (arith, l)))
    decided false true e f =
        let l = ltb-true d b f in
        ap (λ z. z || nat_lt d b) e ∙ f ∙ sym (lt-ltb d (max a b) (omega (arith, l)))
    decided false false e f =
        let l = ltb-false d a e in
        let k = ltb-false d b f in
        ap (λ z. z || nat_lt d b) e ∙ f ∙ sym (le-ltb d (max a b) (omega (arith, l, k)))

-- A variable escapes a tree and the binders around it where the tree needs more of them.
pub escapes_beyond : (d : ℕ) (t : Tree) → has_leaf is_escaping d t ≡ nat_lt d (outer_exclusive_binder t)
escapes_beyond d (leaf (bound k i n)) = not_below i d
escapes_beyond d (leaf (variable k n)) = sym (le-ltb d 0 (omega arith))
escapes_beyond d (leaf (placeholder k u n)) = sym (le-ltb d 0 (omega arith))
escapes_beyond d (leaf (atom x)) = sym (le-ltb d 0 (omega arith))
escapes_beyond d (leaf unknown) = sym (le-ltb d 0 (omega arith))
escapes_beyond d (node h ts) = escapes_beyond d ts
escapes_beyond d (bind ks t) = escapes_beyond (suc d) t ∙ below_one_less d (outer_exclusive_binder t)
escapes_beyond d nil = sym (le-ltb d 0 (omega arith))
escapes_beyond d (cons t ts) =
    ap₂ (λ x y. x || y) (escapes_beyond d t) (escapes_beyond d ts) ∙
    below_either d (outer_exclusive_binder t) (outer_exclusive_binder ts)

-- An inference variable stands in a tree wherever the tree stands.
infer_here : (d : ℕ) (l : Leaf) → is_non_region_infer d l ≡ is_non_region_variable l
infer_here d (variable region_var n) = refl
infer_here d (variable type_var n) = refl
infer_here d (variable int_var n) = refl
infer_here d (variable float_var n) = refl
infer_here d (variable const_var n) = refl
infer_here d (bound k i n) = refl
infer_here d (placeholder k u n) = refl
infer_here d (atom x) = refl
infer_here d unknown = refl

pub infer_anywhere : (d : ℕ) (t : Tree) → has_leaf is_non_region_infer d t ≡ has_non_region_infer t
infer_anywhere d (leaf l) = infer_here d l
infer_anywhere d (node h ts) = infer_anywhere d ts
infer_anywhere d (bind ks t) = infer_anywhere (suc d) t
infer_anywhere d nil = refl
infer_anywhere d (cons t ts) = ap₂ (λ x y. x || y) (infer_anywhere d t) (infer_anywhere d ts)

-- What visitors answer that read what is kept of terms.
pub escaping_told : {V : Type 0} (d e : ℕ) → Told d e → (v w : V) (t : Tree) (a : Visit) →
    StopsAtEscaping v d t w a → a ≡ cond (has_leaf is_escaping e t) Stop Skip
escaping_told d e h v w t a o =
    let n = outer_exclusive_binder t in
    o.0 ∙ ap (λ b. cond b Stop Skip) (h n (ltb-true n 340282366920938463463374607431768211456 o.1) ∙
    sym (escapes_beyond e t))

pub infer_told : {V : Type 0} (d e : ℕ) → Told d e → (v w : V) (t : Tree) (a : Visit) →
    StopsAtInfer v d t w a → a ≡ cond (has_leaf is_non_region_infer e t) Stop Skip
infer_told d e h v w t a o = o ∙ ap (λ b. cond b Stop Skip) (sym (infer_anywhere e t))
