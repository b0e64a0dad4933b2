-- Where a visitor goes one way at each tree, so does its walk.
use Rattle.std.proofs.Common.{◌≡◌, ℕ, refl, subst}
use Rattle.std.specs.declared.ops.ControlFlow.TheVariants.{Continue, Break}
use Rattle.relation_terms.specs.Trees.{Tree, leaf, node, bind, nil, cons}
use Rattle.relation_terms.specs.Parts.{parts_of}
use Rattle.relation_terms.specs.Orders.{in_order, order_of}
use Rattle.relation_folds.specs.declared.visit.Visit.{Visit}
use Rattle.relation_folds.specs.declared.visit.Visit.TheVariants.{Enter, Skip, Stop}
use Rattle.relation_folds.specs.Visits.{Flow, Walks, deeper, entered, skipped, stopped}
use Rattle.relation_folds.specs.Visits.{passed_leaf, passed, in_binder, no_part, last_part, next_part}

module _ {V : Type 0} (visits : V → ℕ → Tree → V → Visit → Type 0)
    (one_visitor : (d : ℕ) (v w x : V) (t : Tree) (a b : Visit) → visits v d t w a → visits v d t x b → w ≡ x)
    (one_answer : (d : ℕ) (v w x : V) (t : Tree) (a b : Visit) → visits v d t w a → visits v d t x b → a ≡ b) where
  pub walks_once : (d : ℕ) (v w x : V) (t : Tree) (q r : Flow) → Walks visits d v t w q → Walks visits d v t x r →
      (w ≡ x) × (q ≡ r)
  walks_once d v w x t q r (entered {w = u} i e o) (entered {w = y} j f n) =
      let same = one_visitor d v u y t Enter Enter e f in
      walks_once d y w x (parts_of t) q r (subst (λ z. Walks visits d z (parts_of t) w q) same o) n
  walks_once d v w x t q r (entered {w = u} i e o) (skipped j f) =
      let same = one_answer d v u x t Enter Skip e f in absurd (cc)
  walks_once d v w x t q r (entered {w = u} i e o) (stopped j f) =
      let same = one_answer d v u x t Enter Stop e f in absurd (cc)
  walks_once d v w x t q r (skipped i e) (entered {w = y} j f n) =
      let same = one_answer d v w y t Skip Enter e f in absurd (cc)
  walks_once d v w x t q r (skipped i e) (skipped j f) = (one_visitor d v w x t Skip Skip e f, refl)
  walks_once d v w x t q r (skipped i e) (stopped j f) =
      let same = one_answer d v w x t Skip Stop e f in absurd (cc)
  walks_once d v w x t q r (stopped i e) (entered {w = y} j f n) =
      let same = one_answer d v w y t Stop Enter e f in absurd (cc)
  walks_once d v w x t q r (stopped i e) (skipped j f) =
      let same = one_answer d v w x t Stop Skip e f in absurd (cc)
  walks_once d v w x t q r (stopped i e) (stopped j f) = (one_visitor d v w x t Stop Stop e f, refl)
  walks_once d v w x t q r (passed_leaf i) (passed_leaf j) = (refl, refl)
  walks_once d v w x (node h ts) q r (passed i o) (passed j n) =
      walks_once d v w x (in_order (order_of (node h ts)) ts) q r o n
  walks_once d v w x (bind ks t) q r (in_binder o) (in_binder n) = walks_once (deeper d) v w x t q r o n
  walks_once d v w x t q r no_part no_part = (refl, refl)
  walks_once d v w x (cons t ts) q r (last_part o) (last_part n) = walks_once d v w x t (Break tt) (Break tt) o n
  walks_once d v w x (cons t ts) q r (last_part o) (next_part {w = y} n m) =
      let same = (walks_once d v w y t (Break tt) (Continue tt) o n).1 in absurd (cc)
  walks_once d v w x (cons t ts) q r (next_part {w = u} o p) (last_part n) =
      let same = (walks_once d v u x t (Continue tt) (Break tt) o n).1 in absurd (cc)
  walks_once d v w x (cons t ts) q r (next_part {w = u} o p) (next_part {w = y} n m) =
      let same = (walks_once d v u y t (Continue tt) (Continue tt) o n).0 in
      walks_once d y w x ts q r (subst (λ z. Walks visits d z ts w q) same p) m
  -- no tree is both one that a visitor is asked about and another
  walks_once d v w x (leaf l) q r (entered i e o) (passed_leaf j) = absurd (cc)
  walks_once d v w x (node h ts) q r (entered i e o) (passed j n) = absurd (cc)
  walks_once d v w x (bind ks t) q r (entered i e o) (in_binder n) = absurd (cc)
  walks_once d v w x nil q r (entered i e o) no_part = absurd (cc)
  walks_once d v w x (cons t ts) q r (entered i e o) (last_part n) = absurd (cc)
  walks_once d v w x (cons t ts) q r (entered i e o) (next_part n m) = absurd (cc)
  walks_once d v w x (leaf l) q r (skipped i e) (passed_leaf j) = absurd (cc)
  walks_once d v w x (node h ts) q r (skipped i e) (passed j n) = absurd (cc)
  walks_once d v w x (bind ks t) q r (skipped i e) (in_binder n) = absurd (cc)
  walks_once d v w x nil q r (skipped i e) no_part = absurd (cc)
  walks_once d v w x (cons t ts) q r (skipped i e) (last_part n) = absurd (cc)
  walks_once d v w x (cons t ts) q r (skipped i e) (next_part n m) = absurd (cc)
  walks_once d v w x (leaf l) q r (stopped i e) (passed_leaf j) = absurd (cc)
  walks_once d v w x (node h ts) q r (stopped i e) (passed j n) = absurd (cc)
  walks_once d v w x (bind ks t) q r (stopped i e) (in_binder n) = absurd (cc)
  walks_once d v w x nil q r (stopped i e) no_part = absurd (cc)
  walks_once d v w x (cons t ts) q r (stopped i e) (last_part n) = absurd (cc)
  walks_once d v w x (cons t ts) q r (stopped i e) (next_part n m) = absurd (cc)
  walks_once d v w x (leaf l) q r (passed_leaf j) (entered i e o) = absurd (cc)
  walks_once d v w x (leaf l) q r (passed_leaf j) (skipped i e) = absurd (cc)
  walks_once d v w x (leaf l) q r (passed_leaf j) (stopped i e) = absurd (cc)
  walks_once d v w x (node h ts) q r (passed j n) (entered i e o) = absurd (cc)
  walks_once d v w x (node h ts) q r (passed j n) (skipped i e) = absurd (cc)
  walks_once d v w x (node h ts) q r (passed j n) (stopped i e) = absurd (cc)
  walks_once d v w x (bind ks t) q r (in_binder n) (entered i e o) = absurd (cc)
  walks_once d v w x (bind ks t) q r (in_binder n) (skipped i e) = absurd (cc)
  walks_once d v w x (bind ks t) q r (in_binder n) (stopped i e) = absurd (cc)
  walks_once d v w x nil q r no_part (entered i e o) = absurd (cc)
  walks_once d v w x nil q r no_part (skipped i e) = absurd (cc)
  walks_once d v w x nil q r no_part (stopped i e) = absurd (cc)
  walks_once d v w x (cons t ts) q r (last_part n) (entered i e o) = absurd (cc)
  walks_once d v w x (cons t ts) q r (last_part n) (skipped i e) = absurd (cc)
  walks_once d v w x (cons t ts) q r (last_part n) (stopped i e) = absurd (cc)
  walks_once d v w x (cons t ts) q r (next_part n m) (entered i e o) = absurd (cc)
  walks_once d v w x (cons t ts) q r (next_part n m) (skipped i e) = absurd (cc)
  walks_once d v w x (cons t ts) q r (next_part n m) (stopped i e) = absurd (cc)
