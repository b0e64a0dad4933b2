-- Trees with the variables of a binder moved, under further binders.
use Rattle.std.proofs.Common.{ℕ, suc, ◌+◌, ◌<◌, ◌≡◌, refl, sym, ap, ◌∙◌, subst, arith, inl, inr}
use Rattle.std.proofs.Common.{Bool, true, false, cond, nat_eq, nat_lt, Option, Some, None}
use Rattle.std.proofs.lemmas.Bool.{eqb-true, eqb-false, eq-eqb, ne_eqb, lt-ltb, le-ltb, cases_order, cond-true}
use Rattle.std.proofs.lemmas.Bool.{cond-false}
use Rattle.relation_terms.specs.Heads.{Kind, type_kind, region_kind, const_kind, bound_kind, Leaf, variable}
use Rattle.relation_terms.specs.Heads.{bound, placeholder, atom, unknown, leaf_sort, head_sort, binder_sort}
use Rattle.relation_terms.specs.Heads.{kind_sort, Head}
use Rattle.relation_terms.specs.Trees.{Tree, leaf, node, bind, nil, cons}
use Rattle.relation_terms.specs.Parts.{tree_sort}
use Rattle.relation_folds.specs.Folds.{folded, put_or, asks}
use Rattle.relation_folds.specs.Shifts.{moves, shifted}
use Rattle.relation_folds.proofs.Folding.{put_none}
use Rattle.anonymize.specs.Renamings.{MovedLeaf, Moved}
use Rattle.relation_terms.specs.Owned.{AreWithin}

pub put_kind : (k : Kind) (n d i : ℕ) (o : Option Tree) (t : Tree) →
    put_or (asks (leaf_sort (bound (bound_kind k n) d i))) o t ≡ put_or true o t
put_kind type_kind n d i o t = refl
put_kind region_kind n d i o t = refl
put_kind const_kind n d i o t = refl

-- Where a variable stands further in.
abbrev index : ℕ → ℕ → ℕ → ℕ
index by e d = cond (nat_lt d e) d (d + by)

index_there : (by e d : ℕ) → d ≡ e → index by e d ≡ e + by
index_there by e d h = cond-false (nat_lt d e) d (d + by) (le-ltb d e (omega (arith, h))) ∙ ap (λ x. x + by) h

index_apart : (by e d : ℕ) → (d ≡ e → ⊥) → index by e d ≡ e + by → ⊥
index_apart by e d h q = elim (cases_order d e) [
  | inl same ↦ h same
  | inr (inl below) ↦ (let z = cond-true (nat_lt d e) d (d + by) (lt-ltb d e below) in omega (arith, z, q, below))
  | inr (inr above) ↦
      (let z = cond-false (nat_lt d e) d (d + by) (le-ltb d e (omega (arith, above))) in omega (arith, z, q, above))
]

index_same : (by e d : ℕ) (b : Bool) → nat_eq d e ≡ b → nat_eq (index by e d) (e + by) ≡ b
index_same by e d true q = eq-eqb (index by e d) (e + by) (index_there by e d (eqb-true d e q))
index_same by e d false q = ne_eqb (index by e d) (e + by) (index_apart by e d (eqb-false d e q))

shifted_bound : (by e : ℕ) (k : Kind) (n d i : ℕ) →
    folded (moves by) e (leaf (bound (bound_kind k n) d i)) ≡ leaf (bound (bound_kind k n) (index by e d) i)
shifted_bound by e k n d i =
    put_kind k n d i (moves by e (leaf (bound (bound_kind k n) d i))) (leaf (bound (bound_kind k n) d i)) ∙
    by_cases (nat_lt d e) refl
  where
    by_cases : (b : Bool) → nat_lt d e ≡ b →
        put_or true (moves by e (leaf (bound (bound_kind k n) d i))) (leaf (bound (bound_kind k n) d i)) ≡
        leaf (bound (bound_kind k n) (index by e d) i)
    by_cases true q =
        ap (λ b. put_or true (cond b None (Some (leaf (bound (bound_kind k n) (d + by) i)))) (leaf (bound (bound_kind
        k n) d i))) q
        ∙ sym (ap (λ b. leaf (bound (bound_kind k n) (cond b d (d + by)) i)) q)
    by_cases false q =
        ap (λ b. put_or true (cond b None (Some (leaf (bound (bound_kind k n) (d + by) i)))) (leaf (bound (bound_kind
        k n) d i))) q
        ∙ sym (ap (λ b. leaf (bound (bound_kind k n) (cond b d (d + by)) i)) q)

shifted_node : (by e : ℕ) (h : Head) (ts : Tree) →
    folded (moves by) e (node h ts) ≡ node h (folded (moves by) e ts)
shifted_node by e h ts = put_none (asks (head_sort h)) (node h (folded (moves by) e ts))

deeper : (by e : ℕ) → suc e + by ≡ suc (e + by)
deeper by e = omega arith

module _ (to : Kind → ℕ → ℕ) where
  -- What is no variable of the binder is moved to itself.
  bound_moved : (by e : ℕ) (k : Kind) (n d i : ℕ) (m : Leaf) (b : Bool) → nat_eq d e ≡ b →
      cond b ((x : ℕ) × (m ≡ bound (bound_kind k x) d (to k i))) (m ≡ bound (bound_kind k n) d i) →
      Moved to (e + by) (folded (moves by) e (leaf (bound (bound_kind k n) d i))) (folded (moves by) e (leaf m))
  bound_moved by e k n d i m true q p =
      let l = leaf (bound (bound_kind k n) (index by e d) i) in
      let r = leaf (bound (bound_kind k p.0) (index by e d) (to k i)) in
      let at : Moved to (e + by) l r =
      subst (λ b. cond b ((x : ℕ) × (bound (bound_kind k p.0) (index by e d) (to k i) ≡ bound (bound_kind k x) (index
      by e d) (to k i)))
      (bound (bound_kind k p.0) (index by e d) (to k i) ≡ bound (bound_kind k n) (index by e d) i))
      (sym (index_same by e d true q)) (p.0, refl) in
      subst (λ z. Moved to (e + by) z (folded (moves by) e (leaf m))) (sym (shifted_bound by e k n d i))
      (subst (λ z. Moved to (e + by) l z)
      (sym (ap (λ z. folded (moves by) e (leaf z)) p.1 ∙ shifted_bound by e k p.0 d (to k i))) at)
  bound_moved by e k n d i m false q p =
      let l = leaf (bound (bound_kind k n) (index by e d) i) in
      let at : Moved to (e + by) l l =
      subst (λ b. cond b ((x : ℕ) × (bound (bound_kind k n) (index by e d) i ≡ bound (bound_kind k x) (index by e d)
      (to k i)))
      (bound (bound_kind k n) (index by e d) i ≡ bound (bound_kind k n) (index by e d) i))
      (sym (index_same by e d false q)) refl in
      subst (λ z. Moved to (e + by) z (folded (moves by) e (leaf m))) (sym (shifted_bound by e k n d i))
      (subst (λ z. Moved to (e + by) l z)
      (sym (ap (λ z. folded (moves by) e (leaf z)) p ∙ shifted_bound by e k n d i)) at)

  leaf_moved : (by e : ℕ) (l m : Leaf) → MovedLeaf to e l m →
      Moved to (e + by) (folded (moves by) e (leaf l)) (folded (moves by) e (leaf m))
  leaf_moved by e (bound (bound_kind k n) d i) m p = bound_moved by e k n d i m (nat_eq d e) refl p
  leaf_moved by e (variable k n) m p =
      subst (λ z. Moved to (e + by) (folded (moves by) e (leaf (variable k n))) (folded (moves by) e (leaf z))) (sym p)
      (subst (λ z. Moved to (e + by) z z) (sym (put_none (asks (leaf_sort (variable k n))) (leaf (variable k n)))) refl)
  leaf_moved by e (placeholder k u n) m p =
      subst (λ z. Moved to (e + by) (folded (moves by) e (leaf (placeholder k u n))) (folded (moves by) e (leaf z)))
      (sym p)
      (subst (λ z. Moved to (e + by) z z) (sym (put_none (asks (leaf_sort (placeholder k u n))) (leaf (placeholder k u
      n)))) refl)
  leaf_moved by e (atom x) m p =
      subst (λ z. Moved to (e + by) (folded (moves by) e (leaf (atom x))) (folded (moves by) e (leaf z))) (sym p)
      (subst (λ z. Moved to (e + by) z z) (sym (put_none (asks (leaf_sort (atom x))) (leaf (atom x)))) refl)
  leaf_moved by e unknown m p =
      subst (λ z. Moved to (e + by) (leaf unknown) (folded (moves by) e (leaf z))) (sym p) refl

  -- A tree with variables moved, as it stands further in.
  pub moved_further : (by e : ℕ) (t u : Tree) → Moved to e t u →
      Moved to (e + by) (folded (moves by) e t) (folded (moves by) e u)
  moved_further by e (leaf l) (leaf m) p = leaf_moved by e l m p
  moved_further by e (node h ts) (node g us) p =
      subst (λ z. Moved to (e + by) z (folded (moves by) e (node g us))) (sym (shifted_node by e h ts))
      (subst (λ z. Moved to (e + by) (node h (folded (moves by) e ts)) z) (sym (shifted_node by e g us))
      (p.0, moved_further by e ts us p.1))
  moved_further by e (bind ks t) (bind ls u) p = (
    p.0,
    subst (λ x. Moved to x (folded (moves by) (suc e) t) (folded (moves by) (suc e) u)) (deeper by e)
        (moved_further by (suc e) t u p.1),
  )
  moved_further by e nil nil p = tt
  moved_further by e (cons t ts) (cons u us) p = (moved_further by e t u p.0, moved_further by e ts us p.1)
  moved_further by e t u p = absurd p

  pub moved_shifted : (by : ℕ) (t u : Tree) → Moved to 0 t u → Moved to by (shifted by t) (shifted by u)
  moved_shifted by t u p =
      let z : 0 + by ≡ by = omega arith in
      subst (λ x. Moved to x (shifted by t) (shifted by u)) z (moved_further by 0 t u p)

  -- Moving changes no sort.
  leaf_sorts : (e : ℕ) (l m : Leaf) → MovedLeaf to e l m → leaf_sort m ≡ leaf_sort l
  leaf_sorts e (bound (bound_kind k n) d i) m p = by_cases (nat_eq d e) p
    where
      by_cases : (b : Bool) → cond b ((x : ℕ) × (m ≡ bound (bound_kind k x) d (to k i))) (m ≡ bound (bound_kind k n) d
          i) →
          leaf_sort m ≡ kind_sort k
      by_cases true q = ap leaf_sort q.1
      by_cases false q = ap leaf_sort q
  leaf_sorts e (variable k n) m p = ap leaf_sort p
  leaf_sorts e (placeholder k u n) m p = ap leaf_sort p
  leaf_sorts e (atom x) m p = ap leaf_sort p
  leaf_sorts e unknown m p = ap leaf_sort p

  pub sorts : (e : ℕ) (t u : Tree) → Moved to e t u → tree_sort u ≡ tree_sort t
  sorts e (leaf l) (leaf m) p = leaf_sorts e l m p
  sorts e (node h ts) (node g us) p = ap head_sort p.0
  sorts e (bind ks t) (bind ls u) p = ap binder_sort (sorts (suc e) t u p.1)
  sorts e nil nil p = refl
  sorts e (cons t ts) (cons u us) p = refl
  sorts e t u p = absurd p

-- Where variables stand at the first `n` places, it is these alone that count.
module _ (to on : Kind → ℕ → ℕ) (n : ℕ) (agree : (k : Kind) (i : ℕ) → i < n → on k i ≡ to k i) where
  bound_within : (e : ℕ) (k : Kind) (x d i : ℕ) (m : Leaf) (b : Bool) → cond b (i < n) (Unit {0}) →
      cond b ((x : ℕ) × (m ≡ bound (bound_kind k x) d (to k i))) (m ≡ bound (bound_kind k x) d i) →
      cond b ((x : ℕ) × (m ≡ bound (bound_kind k x) d (on k i))) (m ≡ bound (bound_kind k x) d i)
  bound_within e k x d i m true w p = (p.0, p.1 ∙ ap (λ j. bound (bound_kind k p.0) d j) (sym (agree k i w)))
  bound_within e k x d i m false w p = p

  pub moved_within : (e : ℕ) (t u : Tree) → AreWithin n e t → Moved to e t u → Moved on e t u
  moved_within e (leaf (bound (bound_kind k x) d i)) (leaf m) w p = bound_within e k x d i m (nat_eq d e) w p
  moved_within e (leaf (variable k x)) (leaf m) w p = p
  moved_within e (leaf (placeholder k u x)) (leaf m) w p = p
  moved_within e (leaf (atom x)) (leaf m) w p = p
  moved_within e (leaf unknown) (leaf m) w p = p
  moved_within e (node h ts) (node g us) w p = (p.0, moved_within e ts us w p.1)
  moved_within e (bind ks t) (bind ls u) w p = (p.0, moved_within (suc e) t u w p.1)
  moved_within e nil nil w p = tt
  moved_within e (cons t ts) (cons u us) w p = (moved_within e t u w.0 p.0, moved_within e ts us w.1 p.1)
  moved_within e t u w p = absurd p

-- What stands at places of a list stands there further in.
module _ (n : ℕ) where
  pub within_further : (by e : ℕ) (t : Tree) → AreWithin n e t → AreWithin n (e + by) (folded (moves by) e t)
  within_further by e (leaf (bound (bound_kind k x) d i)) w =
      subst (λ z. AreWithin n (e + by) z) (sym (shifted_bound by e k x d i))
      (subst (λ b. cond b (i < n) (Unit {0})) (sym (index_same by e d (nat_eq d e) refl)) w)
  within_further by e (leaf (variable k x)) w =
      subst (λ z. AreWithin n (e + by) z) (sym (put_none (asks (leaf_sort (variable k x))) (leaf (variable k x)))) tt
  within_further by e (leaf (placeholder k u x)) w =
      subst (λ z. AreWithin n (e + by) z) (sym (put_none (asks (leaf_sort (placeholder k u x))) (leaf (placeholder k u
      x)))) tt
  within_further by e (leaf (atom x)) w =
      subst (λ z. AreWithin n (e + by) z) (sym (put_none (asks (leaf_sort (atom x))) (leaf (atom x)))) tt
  within_further by e (leaf unknown) w = tt
  within_further by e (node h ts) w =
      subst (λ z. AreWithin n (e + by) z) (sym (shifted_node by e h ts)) (within_further by e ts w)
  within_further by e (bind ks t) w =
      subst (λ x. AreWithin n x (folded (moves by) (suc e) t)) (deeper by e) (within_further by (suc e) t w)
  within_further by e nil w = tt
  within_further by e (cons t ts) w = (within_further by e t w.0, within_further by e ts w.1)

  pub within_shifted : (by : ℕ) (t : Tree) → AreWithin n 0 t → AreWithin n by (shifted by t)
  within_shifted by t w =
      let z : 0 + by ≡ by = omega arith in
      subst (λ x. AreWithin n x (shifted by t)) z (within_further by 0 t w)
