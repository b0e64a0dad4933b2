-- Folds that change nothing where no variable escapes, or where variables are moved by nothing: such a term can stand
-- for itself.
use Rattle.std.proofs.Common.{◌≡◌, refl, sym, ◌∙◌, ap, ap₂, arith, subst}
use Rattle.std.specs.Prelude.{ℕ, suc, ◌+◌, Bool, true, false, not, ◌&&◌, cond, nat_lt, nat_eq, Option, Some, None, List}
use Rattle.std.specs.Prelude.{slice_get}
use Rattle.std.proofs.lemmas.Bool.{or_parts, eqb-true, not-false, ltb-true, ne_eqb}
use Rattle.relation_terms.specs.Heads.{Leaf, variable, bound, placeholder, atom, unknown, leaf_sort, head_sort, Head}
use Rattle.relation_terms.specs.Heads.{bound_kind}
use Rattle.relation_terms.specs.Trees.{Tree, leaf, node, bind, nil, cons}
use Rattle.relation_terms.specs.Flags.{outer_exclusive_binder, leaf_binder}
use Rattle.relation_folds.specs.Folds.{asks, put_or, folded}
use Rattle.relation_folds.specs.Shifts.{moves, opens, standing}
use Rattle.relation_folds.specs.Visits.{has_leaf, is_escaping}
use Rattle.relation_folds.proofs.Folding.{put_none}
use Rattle.relation_folds.proofs.Searching.{escapes_beyond}

-- Whether a move changes what stands under so many binders and needs so many around it.
abbrev pub changes : ℕ → ℕ → ℕ → Bool
changes by depth binder = not (nat_eq by 0) && nat_lt depth binder

-- What is put where variables are moved: the moved variable, and for what doesn't change that itself.
abbrev pub moves_or_keeps : ℕ → ℕ → Tree → Option Tree
moves_or_keeps by depth t = cond (changes by depth (outer_exclusive_binder t)) (moves by depth t) (Some t)

-- The same where terms are put for variables.
abbrev pub opens_or_keeps : List Tree → ℕ → Tree → Option Tree
opens_or_keeps ts depth t = cond (nat_lt depth (outer_exclusive_binder t)) (opens ts depth t) (Some t)

-- Where a variable escapes, that is what is put.
pub opens_here : (ts : List Tree) (depth : ℕ) (t : Tree) → nat_lt depth (outer_exclusive_binder t) ≡ true →
    opens_or_keeps ts depth t ≡ opens ts depth t
opens_here ts depth t h = ap (λ b. cond b (opens ts depth t) (Some t)) h

put_same : (a : Bool) (u t : Tree) → u ≡ t → put_or a (Some u) t ≡ t
put_same true u t e = e
put_same false u t e = refl

kept_leaf : (a b : Bool) (o : Option Tree) (t : Tree) → (b ≡ false → put_or a o t ≡ t) →
    put_or a (cond b o (Some t)) t ≡ put_or a o t
kept_leaf a true o t h = refl
kept_leaf a false o t h = put_same a t t refl ∙ sym (h refl)

kept_node : (a b : Bool) (o : Option Tree) (g : Head) (ts us vs : Tree) → o ≡ None → us ≡ vs → (b ≡ false → vs ≡ ts) →
    put_or a (cond b o (Some (node g ts))) (node g us) ≡ put_or a o (node g vs)
kept_node true true o g ts us vs n e h = ap (λ x. put_or true o (node g x)) e
kept_node true false o g ts us vs n e h =
    ap (node g) (sym (h refl)) ∙ sym (ap (λ x. put_or true x (node g vs)) n)
kept_node false b o g ts us vs n e h = ap (node g) e

-- Of a fold that puts something for leaves alone:
module _ (puts : ℕ → Tree → Option Tree) (at_nodes : (d : ℕ) (g : Head) (ts : Tree) → puts d (node g ts) ≡ None) where
  node_left : (a : Bool) (d : ℕ) (g : Head) (ts us : Tree) → put_or a (puts d (node g ts)) (node g us) ≡ node g us
  node_left a d g ts us = ap (λ o. put_or a o (node g us)) (at_nodes d g ts) ∙ put_none a (node g us)

  -- where each leaf stays that doesn't escape, each term does from which none escapes.
  pub none_put : ((d : ℕ) (l : Leaf) → is_escaping d l ≡ false → folded puts d (leaf l) ≡ leaf l) → (d : ℕ) (t : Tree) →
      has_leaf is_escaping d t ≡ false → folded puts d t ≡ t
  none_put s d (leaf l) h = s d l h
  none_put s d (node g ts) h =
      node_left (asks (head_sort g)) d g ts (folded puts d ts) ∙ ap (node g) (none_put s d ts h)
  none_put s d (bind ks t) h = ap (bind ks) (none_put s (suc d) t h)
  none_put s d nil h = refl
  none_put s d (cons t ts) h =
      let z = or_parts (has_leaf is_escaping d t) (has_leaf is_escaping d ts) h in
      ap₂ cons (none_put s d t z.0) (none_put s d ts z.1)

  -- What keeps each term that stays, by how many binders it needs, makes what goes through it.
  pub keeps_alike : (c : ℕ → ℕ → Bool) →
      ((d : ℕ) (t : Tree) → c d (outer_exclusive_binder t) ≡ false → folded puts d t ≡ t) → (d : ℕ) (t : Tree) →
      folded (λ e u. cond (c e (outer_exclusive_binder u)) (puts e u) (Some u)) d t ≡ folded puts d t
  keeps_alike c s d (leaf l) =
      kept_leaf (asks (leaf_sort l)) (c d (leaf_binder l)) (puts d (leaf l)) (leaf l) (λ h. s d (leaf l) h)
  keeps_alike c s d (node g ts) =
      kept_node (asks (head_sort g)) (c d (outer_exclusive_binder ts)) (puts d (node g ts)) g ts
      (folded (λ e u. cond (c e (outer_exclusive_binder u)) (puts e u) (Some u)) d ts) (folded puts d ts)
      (at_nodes d g ts) (keeps_alike c s d ts) (λ h. s d ts h)
  keeps_alike c s d (bind ks t) = ap (bind ks) (keeps_alike c s (suc d) t)
  keeps_alike c s d nil = refl
  keeps_alike c s d (cons t ts) = ap₂ cons (keeps_alike c s d t) (keeps_alike c s d ts)

-- A variable that doesn't escape is not moved.
leaf_stays : (by d : ℕ) (l : Leaf) → is_escaping d l ≡ false → folded (moves by) d (leaf l) ≡ leaf l
leaf_stays by d (bound k e i) h =
    let a = asks (leaf_sort (bound k e i)) in
    ap (λ b. put_or a (cond b None (Some (leaf (bound k (e + by) i)))) (leaf (bound k e i))) (not-false (nat_lt e d) h)
    ∙ put_none a (leaf (bound k e i))
leaf_stays by d (variable k n) h = put_none (asks (leaf_sort (variable k n))) (leaf (variable k n))
leaf_stays by d (placeholder k u n) h = put_none (asks (leaf_sort (placeholder k u n))) (leaf (placeholder k u n))
leaf_stays by d (atom x) h = put_none (asks (leaf_sort (atom x))) (leaf (atom x))
leaf_stays by d unknown h = put_none (asks (leaf_sort unknown)) (leaf unknown)

none_moved : (by d : ℕ) (t : Tree) → has_leaf is_escaping d t ≡ false → folded (moves by) d t ≡ t
none_moved by d t h = none_put (moves by) (λ e g ts. refl) (leaf_stays by) d t h

-- Nor is one that is moved by nothing.
leaf_by_nothing : (d : ℕ) (l : Leaf) → folded (moves 0) d (leaf l) ≡ leaf l
leaf_by_nothing d (bound k e i) = decided (nat_lt e d)
  where
    decided : (b : Bool) → put_or (asks (leaf_sort (bound k e i))) (cond b None (Some (leaf (bound k (e + 0) i))))
        (leaf (bound k e i)) ≡ leaf (bound k e i)
    decided true = put_none (asks (leaf_sort (bound k e i))) (leaf (bound k e i))
    decided false =
        put_same (asks (leaf_sort (bound k e i))) (leaf (bound k (e + 0) i)) (leaf (bound k e i))
        (ap (λ n. leaf (bound k n i)) (omega arith))
leaf_by_nothing d (variable k n) = put_none (asks (leaf_sort (variable k n))) (leaf (variable k n))
leaf_by_nothing d (placeholder k u n) = put_none (asks (leaf_sort (placeholder k u n))) (leaf (placeholder k u n))
leaf_by_nothing d (atom x) = put_none (asks (leaf_sort (atom x))) (leaf (atom x))
leaf_by_nothing d unknown = put_none (asks (leaf_sort unknown)) (leaf unknown)

pub by_nothing : (d : ℕ) (t : Tree) → folded (moves 0) d t ≡ t
by_nothing d (leaf l) = leaf_by_nothing d l
by_nothing d (node g ts) =
    put_none (asks (head_sort g)) (node g (folded (moves 0) d ts)) ∙ ap (node g) (by_nothing d ts)
by_nothing d (bind ks t) = ap (bind ks) (by_nothing (suc d) t)
by_nothing d nil = refl
by_nothing d (cons t ts) = ap₂ cons (by_nothing d t) (by_nothing d ts)

-- So what a move doesn't change stays as it is.
stays : (by d : ℕ) (t : Tree) → changes by d (outer_exclusive_binder t) ≡ false → folded (moves by) d t ≡ t
stays by d t h = decided (nat_eq by 0) refl
  where
    decided : (b : Bool) → nat_eq by 0 ≡ b → folded (moves by) d t ≡ t
    decided true e = subst (λ n. folded (moves n) d t ≡ t) (sym (eqb-true by 0 e)) (by_nothing d t)
    decided false e =
        none_moved by d t (escapes_beyond d t
        ∙ (sym (ap (λ b. not b && nat_lt d (outer_exclusive_binder t)) e) ∙ h))

-- And a fold that keeps it makes what a fold makes that goes through it.
pub kept_alike : (by d : ℕ) (t : Tree) → folded (moves_or_keeps by) d t ≡ folded (moves by) d t
kept_alike by d t = keeps_alike (moves by) (λ e g ts. refl) (changes by) (stays by) d t

-- A variable that doesn't escape is no variable of the binder around the whole.
inner : (d e : ℕ) → not (nat_lt e d) ≡ false → nat_eq e d ≡ false
inner d e h =
    let l = ltb-true e d (not-false (nat_lt e d) h) in
    ne_eqb e d (λ q. absurd (omega (arith, l, q)))

leaf_inside : (ts : List Tree) (d : ℕ) (l : Leaf) → is_escaping d l ≡ false → folded (opens ts) d (leaf l) ≡ leaf l
leaf_inside ts d (bound (bound_kind k n) e i) h =
    let a = asks (leaf_sort (bound (bound_kind k n) e i)) in
    ap (λ b. put_or a (cond b (standing k d (slice_get ts i)) None) (leaf (bound (bound_kind k n) e i))) (inner d e h)
    ∙ put_none a (leaf (bound (bound_kind k n) e i))
leaf_inside ts d (variable k n) h = put_none (asks (leaf_sort (variable k n))) (leaf (variable k n))
leaf_inside ts d (placeholder k u n) h = put_none (asks (leaf_sort (placeholder k u n))) (leaf (placeholder k u n))
leaf_inside ts d (atom x) h = put_none (asks (leaf_sort (atom x))) (leaf (atom x))
leaf_inside ts d unknown h = put_none (asks (leaf_sort unknown)) (leaf unknown)

-- So a fold that puts terms for variables, and keeps what none escapes from, makes what one makes that goes through it.
pub opened_alike : (ts : List Tree) (d : ℕ) (t : Tree) → folded (opens_or_keeps ts) d t ≡ folded (opens ts) d t
opened_alike ts d t =
    keeps_alike (opens ts) (λ e g us. refl) (λ e b. nat_lt e b)
    (λ e u h. none_put (opens ts) (λ f g us. refl) (leaf_inside ts) e u (escapes_beyond e u ∙ h)) d t
