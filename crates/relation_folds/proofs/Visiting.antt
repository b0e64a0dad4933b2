-- The steps of a walk over a term, and over a list of parts.
use Rattle.std.proofs.Common.{◌≡◌, ℕ, zero, suc, ◌<◌, true, false, Bool, refl, sym, ap, subst, subst₂, arith}
use Rattle.std.specs.declared.ops.ControlFlow.TheVariants.{Continue, Break}
use Rattle.relation_terms.specs.Heads.{Sort, no_sort}
use Rattle.relation_terms.specs.Trees.{Tree, leaf, node, bind, nil, cons, count, nth, IsList}
use Rattle.relation_terms.specs.Parts.{parts_of, tree_sort, part_sort}
use Rattle.relation_terms.specs.Orders.{in_order, order_of, in_turn}
use Rattle.relation_terms.specs.Heads.{existential_projection}
use Rattle.relation_terms.specs.declared.terms.part_kind.Part.{Part}
use Rattle.relation_terms.specs.declared.terms.part_kind.Part.TheVariants.{Region, Ty, Const, ValTree, Pat, ValueType}
use Rattle.relation_terms.specs.declared.terms.part_kind.Part.TheVariants.{Binder, Signature, Inputs, Existential}
use Rattle.relation_terms.specs.declared.terms.part_kind.Part.TheVariants.{Object}
use Rattle.relation_folds.specs.declared.visit.Visit.{Visit}
use Rattle.relation_folds.specs.declared.visit.Visit.TheVariants.{Enter, Skip, Stop}
use Rattle.relation_folds.specs.Visits.{visited_sort, is_visited, Asks, Flow, Walks, entered, skipped, stopped}
use Rattle.relation_folds.specs.Visits.{deeper}
use Rattle.relation_folds.proofs.Depths.{visited_told, told_inside}
use Rattle.relation_folds.specs.Visits.{passed_leaf, passed, in_binder, no_part, last_part, next_part}

-- A visitor is asked about a tree by its sort alone.
pub visited_as : (t : Tree) (s : Sort) → tree_sort t ≡ s → is_visited t ≡ visited_sort s
visited_as (leaf l) s e = ap visited_sort e
visited_as (node h ts) s e = ap visited_sort e
visited_as (bind ks t) s e = ap visited_sort e
visited_as nil s e = ap visited_sort e
visited_as (cons t ts) s e = ap visited_sort e

-- The parts of what a visitor is asked about come one after another.
pub visited_turn : (t : Tree) → is_visited t ≡ true → order_of t ≡ in_turn
visited_turn (node (existential_projection d) ts) i = absurd (cc)
visited_turn (node h ts) i = refl
visited_turn (leaf l) i = refl
visited_turn (bind ks t) i = refl
visited_turn nil i = refl
visited_turn (cons t ts) i = refl

-- Each part is a term of a sort.
pub has_sort : {Key Id : Type 0} (p : Part Key Id) → part_sort p ≡ no_sort → ⊥
has_sort (Region r) e = cc
has_sort (Ty t) e = cc
has_sort (Const c) e = cc
has_sort (ValTree v) e = cc
has_sort (Pat q) e = cc
has_sort (ValueType t) e = cc
has_sort (Binder vs b) e = cc
has_sort (Signature s) e = cc
has_sort (Inputs t) e = cc
has_sort (Existential p) e = cc
has_sort (Object k) e = cc

-- What is left of a list from a place on.
abbrev pub rest : ℕ → Tree → Tree
rest zero t = t
rest (suc i) (cons t ts) = rest i ts
rest (suc i) t = nil

pub rest_next : (i : ℕ) (ts : Tree) → i < count ts → rest i ts ≡ cons (nth i ts) (rest (suc i) ts)
rest_next zero (cons t ts) h = refl
rest_next (suc i) (cons t ts) h = rest_next i ts (omega arith)
rest_next i (leaf l) h = absurd (omega arith)
rest_next i (node g ts) h = absurd (omega arith)
rest_next i (bind ks t) h = absurd (omega arith)
rest_next i nil h = absurd (omega arith)

pub rest_end : (i : ℕ) (ts : Tree) → IsList ts → i ≡ count ts → rest i ts ≡ nil
rest_end zero nil l e = refl
rest_end (suc i) nil l e = refl
rest_end zero (cons t ts) l e = absurd (omega arith)
rest_end (suc i) (cons t ts) l e = rest_end i ts l (omega arith)
rest_end i (leaf x) l e = absurd l
rest_end i (node g ts) l e = absurd l
rest_end i (bind ks t) l e = absurd l

pub rest_list : (i : ℕ) (ts : Tree) → IsList ts → IsList (rest i ts)
rest_list zero ts l = l
rest_list (suc i) (cons t ts) l = rest_list i ts l
rest_list (suc i) (leaf x) l = tt
rest_list (suc i) (node g ts) l = tt
rest_list (suc i) (bind ks t) l = tt
rest_list (suc i) nil l = tt

module _ {V : Type 0} (visits : V → ℕ → Tree → V → Visit → Type 0) where
  over_nil : (d : ℕ) (v w : V) (r : Flow) → Walks visits d v nil w r → (v ≡ w) × (r ≡ Continue tt)
  over_nil d v w r (entered i e o) = absurd (cc)
  over_nil d v w r (skipped i e) = absurd (cc)
  over_nil d v w r (stopped i e) = absurd (cc)
  over_nil d v w r no_part = (refl, refl)

  -- Over a list of one part it goes as over the part.
  over_body : (d : ℕ) (v w : V) (t : Tree) (r : Flow) → Walks visits d v (cons t nil) w r → Walks visits d v t w r
  over_body d v w t r (entered i e o) = absurd (cc)
  over_body d v w t r (skipped i e) = absurd (cc)
  over_body d v w t r (stopped i e) = absurd (cc)
  over_body d v w t r (last_part o) = o
  over_body d v w t r (next_part {w = u} o n) =
      let e = over_nil d u w r n in
      subst₂ (λ x s. Walks visits d v t x s) e.0 (sym e.1) o

module _ {V : Type 0} (visits : V → ℕ → Tree → V → Visit → Type 0) (d : ℕ) where
  -- A term that no visitor is asked about.
  pass : (v w : V) (t : Tree) (r : Flow) → (tree_sort t ≡ no_sort → ⊥) → is_visited t ≡ false →
      Walks visits (told_inside t d) v (in_order (order_of t) (parts_of t)) w r → Walks visits d v t w r
  pass v w (leaf l) r n i p =
      let o = over_nil visits d v w r p in
      subst₂ (λ x s. Walks visits d v (leaf l) x s) o.0 (sym o.1) (passed_leaf i)
  pass v w (node h ts) r n i p = passed i p
  pass v w (bind ks t) r n i p = in_binder (over_body visits (deeper d) v w t r p)
  pass v w nil r n i p = absurd (n refl)
  pass v w (cons t ts) r n i p = absurd (n refl)

  -- What comes of each answer.
  pub when_entered : (b : Bool) (v w x : V) (t : Tree) (a : Visit) (r : Flow) → (tree_sort t ≡ no_sort → ⊥) →
      is_visited t ≡ b → Asks visits b d v t w a → a ≡ Enter →
      Walks visits (told_inside t d) w (in_order (order_of t) (parts_of t)) x r → Walks visits d v t x r
  when_entered true v w x t Enter r n i h e p =
      entered i h (subst₂ (λ k o. Walks visits k w (in_order o (parts_of t)) x r) (visited_told t d i) (visited_turn t i) p)
  when_entered true v w x t a r n i h e p = absurd (cc)
  when_entered false v w x t a r n i h e p =
      pass v x t r n i (subst (λ u. Walks visits (told_inside t d) u (in_order (order_of t) (parts_of t)) x r) h.0 p)

  pub when_skipped : (b : Bool) (v w : V) (t : Tree) (a : Visit) → is_visited t ≡ b → Asks visits b d v t w a →
      a ≡ Skip → Walks visits d v t w (Continue tt)
  when_skipped true v w t Skip i h e = skipped i h
  when_skipped true v w t a i h e = absurd (cc)
  when_skipped false v w t a i h e = absurd (let q = h.1 in cc)

  pub when_stopped : (b : Bool) (v w : V) (t : Tree) (a : Visit) → is_visited t ≡ b → Asks visits b d v t w a →
      a ≡ Stop → Walks visits d v t w (Break tt)
  when_stopped true v w t Stop i h e = stopped i h
  when_stopped true v w t a i h e = absurd (cc)
  when_stopped false v w t a i h e = absurd (let q = h.1 in cc)

  -- Over the rest of a list: its first member and what comes after that, or no further than the first.
  pub over_next : (v u w : V) (i j : ℕ) (ts t : Tree) (q r : Flow) → i < count ts → j ≡ suc i → t ≡ nth i ts →
      Walks visits d v t u q → q ≡ Continue tt → Walks visits d u (rest j ts) w r → Walks visits d v (rest i ts) w r
  over_next v u w i j ts t q r h e k p o n =
      let here = subst₂ (λ x s. Walks visits d v x u s) k o p in
      subst (λ x. Walks visits d v x w r) (sym (rest_next i ts h))
      (next_part here (subst (λ z. Walks visits d u (rest z ts) w r) e n))

  pub over_last : (v u : V) (i : ℕ) (ts t : Tree) (q r : Flow) → i < count ts → t ≡ nth i ts → Walks visits d v t u q →
      q ≡ Break tt → r ≡ Break tt → Walks visits d v (rest i ts) u r
  over_last v u i ts t q r h k p o n =
      let here = subst₂ (λ x s. Walks visits d v x u s) k o p in
      subst₂ (λ x s. Walks visits d v x u s) (sym (rest_next i ts h)) (sym n) (last_part here)

  pub over_end : (v : V) (i : ℕ) (ts : Tree) → IsList ts → i ≡ count ts →
      Walks visits d v (rest i ts) v (Continue tt)
  over_end v i ts l e = subst (λ x. Walks visits d v x v (Continue tt)) (sym (rest_end i ts l e)) no_part

  -- Over a list of two terms: both, or no further than the first.
  over_one : (v w : V) (t : Tree) (r : Flow) → Walks visits d v t w r → Walks visits d v (cons t nil) w r
  over_one v w t (Continue tt) p = next_part p no_part
  over_one v w t (Break tt) p = last_part p

  pub over_two : (v w x : V) (t u : Tree) (q r : Flow) → Walks visits d v t w q → q ≡ Continue tt →
      Walks visits d w u x r → Walks visits d v (cons t (cons u nil)) x r
  over_two v w x t u q r p e o =
      next_part (subst (λ s. Walks visits d v t w s) e p) (over_one w x u r o)

  pub over_first : (v w : V) (t ts : Tree) (q r : Flow) → Walks visits d v t w q → q ≡ Break tt → r ≡ Break tt →
      Walks visits d v (cons t ts) w r
  over_first v w t ts q r p e o =
      subst (λ s. Walks visits d v (cons t ts) w s) (sym o) (last_part (subst (λ s. Walks visits d v t w s) e p))
