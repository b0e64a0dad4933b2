-- Visits and folds of what stands in a binder, told of one binder more.
use Rattle.std.proofs.Common.{ℕ, suc, ◌≡◌, refl, sym, ap, ap₂, ◌∙◌, List, Option, Some, None, IsTrue, IsSome, subst}
use Rattle.std.proofs.lemmas.Bool.{false≢true}
use Rattle.std.specs.declared.ops.ControlFlow.TheVariants.{Continue, Break}
use Rattle.relation_terms.specs.Heads.{Sort, BoundKind, head_sort, type_var, variable}
use Rattle.relation_terms.specs.Trees.{Tree, leaf, node, bind, nil, cons, known, IsTerm}
use Rattle.relation_terms.specs.Meaning.{Meaning, under}
use Rattle.relation_terms.specs.Parts.{parts_of}
use Rattle.relation_terms.specs.Orders.{in_order, order_of}
use Rattle.relation_folds.specs.declared.visit.Visit.{Visit}
use Rattle.relation_folds.specs.Visits.{Flow, Walks, deeper, entered, skipped, stopped, passed_leaf, passed, in_binder}
use Rattle.relation_folds.specs.Visits.{no_part, last_part, next_part}
use Rattle.relation_folds.specs.Folds.{Steps, asks, put_or, folded}
use Rattle.relation_folds.specs.InBinders.{in_binder as puts_in_binder, in_binder_kept}

module _ {V W : Type 0} (visits : W → ℕ → Tree → W → Visit → Type 0) (name : V → ℕ) (inner : V → W) where
  -- What a visitor does at each tree that hands on to one behind a reference, one binder deeper.
  abbrev pub told : V → ℕ → Tree → V → Visit → Type 0
  told v d t w a = (name w ≡ name v) × visits (inner v) (deeper d) t (inner w) a

  -- So does it of the whole, and keeps the reference.
  pub walks_deeper : (d : ℕ) (v w : V) (t : Tree) (r : Flow) → Walks told d v t w r →
      (name w ≡ name v) × Walks visits (deeper d) (inner v) t (inner w) r
  walks_deeper d v x t r (entered {w = w} i e o) =
      let n = walks_deeper d w x (parts_of t) r o in
      (n.0 ∙ e.0, entered i e.1 n.1)
  walks_deeper d v w t r (skipped i e) = (e.0, skipped i e.1)
  walks_deeper d v w t r (stopped i e) = (e.0, stopped i e.1)
  walks_deeper d v w (leaf l) r (passed_leaf i) = (refl, passed_leaf i)
  walks_deeper d v w (node h ts) r (passed i o) =
      let n = walks_deeper d v w (in_order (order_of (node h ts)) ts) r o in
      (n.0, passed i n.1)
  walks_deeper d v w (bind ks t) r (in_binder o) =
      let n = walks_deeper (deeper d) v w t r o in
      (n.0, in_binder n.1)
  walks_deeper d v w nil r no_part = (refl, no_part)
  walks_deeper d v w (cons t ts) r (last_part o) =
      let n = walks_deeper d v w t (Break tt) o in
      (n.0, last_part n.1)
  walks_deeper d v x (cons t ts) r (next_part {w = w} o p) =
      let n = walks_deeper d v w t (Continue tt) o in
      let q = walks_deeper d w x ts r p in
      (q.0 ∙ n.0, next_part n.1 q.1)

-- Over a known binder it goes as over the body, one binder deeper.
pub over_binder : {V : Type 0} (visits : V → ℕ → Tree → V → Visit → Type 0) (v w : V) (o : Option (List BoundKind))
    (t : Tree) (r : Flow) → IsTrue (known (under o t)) → Walks visits (deeper 0) v t w r →
    Walks visits 0 v (under o t) w r
over_binder visits v w (Some ks) t r k p = in_binder p
over_binder visits v w None t r k p = absurd (false≢true k)

-- For a term that is put which is put one binder deeper.
pub in_binder_term : (s : Sort) (a : ℕ) (p : ℕ → Tree → Option Tree) (d : ℕ) (t : Tree) → IsTerm s t →
    puts_in_binder a p d t ≡ p (suc d) t
in_binder_term s a p d (leaf l) h = refl
in_binder_term s a p d (node g ts) h = refl
in_binder_term s a p d (bind ks t) h = refl
in_binder_term s a p d nil h = absurd h
in_binder_term s a p d (cons t ts) h = absurd h

-- So a fold told of one binder more is that one binder deeper.
pub folded_deeper : (a : ℕ) (p : ℕ → Tree → Option Tree) (d : ℕ) (t : Tree) →
    folded (puts_in_binder a p) d t ≡ folded p (suc d) t
folded_deeper a p d (leaf l) = refl
folded_deeper a p d (node h ts) =
    ap (λ x. put_or (asks (head_sort h)) (p (suc d) (node h ts)) (node h x)) (folded_deeper a p d ts)
folded_deeper a p d (bind ks t) = ap (λ x. bind ks x) (folded_deeper a p (suc d) t)
folded_deeper a p d nil = refl
folded_deeper a p d (cons t ts) = ap₂ (λ x y. cons x y) (folded_deeper a p d t) (folded_deeper a p d ts)

module _ {Key Id Name F G : Type 0} (Ready : Meaning Key Id Name → G → Type 0)
    (puts : Meaning Key Id Name → G → ℕ → Tree → Option Tree) (name : F → ℕ) (inner : F → G)
    {m n : Meaning Key Id Name} {f g : F} where
  -- Its steps are those of the folder behind the reference, which it keeps.
  pub steps_outside : name g ≡ name f → Steps Ready puts m (inner f) n (inner g) →
      Steps (λ k x. Ready k (inner x)) (λ k x. puts_in_binder (name x) (puts k (inner x))) m f n g
  steps_outside e s = record {
    grown = s.grown;
    ready = s.ready;
    kept = in_binder_kept (name f) (name g) e (puts m (inner f)) (puts n (inner g)) s.kept;
  }

  pub steps_inside : Steps (λ k x. Ready k (inner x)) (λ k x. puts_in_binder (name x) (puts k (inner x))) m f n g →
      (name g ≡ name f) × Steps Ready puts m (inner f) n (inner g)
  steps_inside s =
      let h : Some (leaf (variable type_var (name g))) ≡ Some (leaf (variable type_var (name f))) = s.kept 0 nil in
      let e : name g ≡ name f = cc in
      (e, record { grown = s.grown; ready = s.ready; kept = λ d t. s.kept d (cons t nil) })

-- A known binder over the folded body, in an interner that has grown.
pub binder_known : (o q : Option (List BoundKind)) (t u : Tree) → (IsSome o → q ≡ o) → IsTrue (known (under o t)) →
    IsTrue (known u) → IsTrue (known (under q u))
binder_known (Some ks) q t u e k h = subst (λ x. IsTrue (known (under x u))) (sym (e refl)) h
binder_known None q t u e k h = absurd (false≢true k)

pub binder_folded : (p : ℕ → Tree → Option Tree) (o q : Option (List BoundKind)) (t u : Tree) → (IsSome o → q ≡ o) →
    IsTrue (known (under o t)) → u ≡ folded p 1 t → under q u ≡ folded p 0 (under o t)
binder_folded p (Some ks) q t u e k h = ap (λ x. under x u) (e refl) ∙ ap (bind ks) h
binder_folded p None q t u e k h = absurd (false≢true k)

-- Where a known binder is left, so is its body.
pub binder_left : (p : ℕ → Tree → Option Tree) (o : Option (List BoundKind)) (t : Tree) → IsTrue (known (under o t)) →
    folded p 0 (under o t) ≡ under o t → folded p 1 t ≡ t
binder_left p (Some ks) t k e =
    let h : bind ks (folded p 1 t) ≡ bind ks t = e in
    cc
binder_left p None t k e = absurd (false≢true k)
