-- What a visitor has gone over to its end that enters only what passes a test.
use Rattle.std.proofs.Common.{◌≡◌, ℕ, Bool, false, true, cond, refl}
use Rattle.std.specs.declared.ops.ControlFlow.TheVariants.{Continue, Break}
use Rattle.relation_terms.specs.Heads.{Leaf}
use Rattle.relation_terms.specs.Trees.{Tree, leaf, node, bind, nil, cons, Leaves}
use Rattle.relation_terms.specs.Parts.{parts_of}
use Rattle.relation_terms.specs.Orders.{Order, in_turn, first_last, behind, in_order, order_of}
use Rattle.relation_folds.specs.declared.visit.Visit.TheVariants.{Enter, Skip, Stop}
use Rattle.relation_folds.specs.Visits.{is_visited, Flow, Walks, entered, skipped, stopped}
use Rattle.relation_folds.specs.Visits.{passed_leaf, passed, in_binder, no_part, last_part, next_part}

-- What is entered passes, and nothing is skipped.
entered_at : (b : Bool) → Enter ≡ cond b Enter Stop → b ≡ true
entered_at true e = refl
entered_at false e = absurd (cc)

never_skipped : (b : Bool) → Skip ≡ cond b Enter Stop → ⊥
never_skipped true e = cc
never_skipped false e = cc

-- The visit went on.
abbrev pub WentOn : Flow → Type 0
WentOn (Continue x) = Unit {0}
WentOn (Break x) = ⊥

-- A list in any order has the same leaves.
all_behind : (P : Leaf → Type 0) (t us : Tree) → Leaves P (behind t us) → Leaves P (cons t us)
all_behind P t (cons u us) h = let r = all_behind P t us h.1 in (r.0, (h.0, r.1))
all_behind P t (leaf l) h = h
all_behind P t (node g ts) h = h
all_behind P t (bind ks u) h = h
all_behind P t nil h = h

all_ordered : (P : Leaf → Type 0) (o : Order) (ts : Tree) → Leaves P (in_order o ts) → Leaves P ts
all_ordered P first_last (cons t ts) h = all_behind P t ts h
all_ordered P first_last (leaf l) h = h
all_ordered P first_last (node g ts) h = h
all_ordered P first_last (bind ks u) h = h
all_ordered P first_last nil h = h
all_ordered P in_turn ts h = h

-- Each leaf is so that passes, and each that no visitor is asked about.
module _ (P : Leaf → Type 0) (passes : Tree → Bool) (tested : (l : Leaf) → passes (leaf l) ≡ true → P l)
    (untested : (l : Leaf) → is_visited (leaf l) ≡ false → P l) where
  -- So a tree is that passes, and whose parts are so.
  all_parts : (t : Tree) → is_visited t ≡ true → passes t ≡ true → Leaves P (parts_of t) → Leaves P t
  all_parts (leaf l) v h p = tested l h
  all_parts (node g ts) v h p = p
  all_parts (bind ks t) v h p = p.0
  all_parts nil v h p = tt
  all_parts (cons t ts) v h p = absurd (cc)

  pub walked_all : {V : Type 0} (d : ℕ) (v w : V) (t : Tree) (r : Flow) →
      Walks (λ v d t w a. a ≡ cond (passes t) Enter Stop) d v t w r → WentOn r → Leaves P t
  walked_all d v x t r (entered {w = w} i e o) g =
      all_parts t i (entered_at (passes t) e) (walked_all d w x (parts_of t) r o g)
  walked_all d v w t r (skipped i e) g = absurd (never_skipped (passes t) e)
  walked_all d v w t r (stopped i e) g = absurd g
  walked_all d v w (leaf l) r (passed_leaf i) g = untested l i
  walked_all d v w (node h ts) r (passed i o) g =
      let o' = order_of (node h ts) in
      all_ordered P o' ts (walked_all d v w (in_order o' ts) r o g)
  walked_all d v w (bind ks t) r (in_binder o) g = walked_all _ v w t r o g
  walked_all d v w nil r no_part g = tt
  walked_all d v w (cons t ts) r (last_part o) g = absurd g
  walked_all d v x (cons t ts) r (next_part {w = w} o n) g =
      (walked_all d v w t (Continue tt) o tt, walked_all d w x ts r n g)
