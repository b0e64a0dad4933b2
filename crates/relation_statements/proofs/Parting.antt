-- Components of types that differ in the variables of a binder alone: those that are assumptions of their own are
-- the same.
use Rattle.std.proofs.Common.{ℕ, suc, ◌+◌, ◌≡◌, refl, sym, ap, ap₂, ◌∙◌, subst, arith}
use Rattle.std.proofs.Common.{Bool, true, false, cond, not, ◌&&◌, ◌||◌, nat_eq, nat_lt, List, [], ◌∷◌, ◌++◌}
use Rattle.std.proofs.lemmas.Bool.{false≢true, eqb-true, le-ltb, or_parts}
use Rattle.std.proofs.lemmas.List.Elements.{filter-append}
use Rattle.std.specs.List.{filter}
use Rattle.relation_terms.specs.Heads.{Kind, bound_kind, Leaf, variable, Head, bound, placeholder, atom, unknown}
use Rattle.relation_terms.specs.Trees.{Tree, leaf, node, bind, nil, cons, count}
use Rattle.relation_terms.specs.Closures.{is_type_sort}
use Rattle.relation_folds.specs.Visits.{has_leaf, is_escaping}
use Rattle.anonymize.specs.Renamings.{MovedLeaf, Moved}
use Rattle.component_parts.specs.Components.{Choice, every, no_member, no_region, last_types, not_bivariant, takes}
use Rattle.component_parts.specs.Components.{choice_behind}
use Rattle.component_parts.specs.Components.{choice_of, is_alias, components, is_region_sort}
use Rattle.outlives_assumptions.specs.Assumptions.{is_assumed, assumed_parts}
use Rattle.relation_statements.proofs.Moving.{sorts}

module _ (to : Kind → ℕ → ℕ) where
  -- Moved leaves escape alike.
  leaf_escapes : (e j : ℕ) (l m : Leaf) → MovedLeaf to e l m → is_escaping j m ≡ is_escaping j l
  leaf_escapes e j (bound (bound_kind k n) d i) m p = by_cases (nat_eq d e) p
    where
      by_cases : (b : Bool) → cond b ((x : ℕ) × (m ≡ bound (bound_kind k x) d (to k i))) (m ≡ bound (bound_kind k n) d
          i) →
          is_escaping j m ≡ not (nat_lt d j)
      by_cases true q = ap (is_escaping j) q.1
      by_cases false q = ap (is_escaping j) q
  leaf_escapes e j (variable k n) m p = ap (is_escaping j) p
  leaf_escapes e j (placeholder k u n) m p = ap (is_escaping j) p
  leaf_escapes e j (atom x) m p = ap (is_escaping j) p
  leaf_escapes e j unknown m p = ap (is_escaping j) p

  pub escapes_moved : (e j : ℕ) (t u : Tree) → Moved to e t u → has_leaf is_escaping j u ≡ has_leaf is_escaping j t
  escapes_moved e j (leaf l) (leaf m) p = leaf_escapes e j l m p
  escapes_moved e j (node h ts) (node g us) p = escapes_moved e j ts us p.1
  escapes_moved e j (bind ks t) (bind ls u) p = escapes_moved (suc e) (suc j) t u p.1
  escapes_moved e j nil nil p = refl
  escapes_moved e j (cons t ts) (cons u us) p =
      ap₂ (λ x y. x || y) (escapes_moved e j t u p.0) (escapes_moved e j ts us p.1)
  escapes_moved e j t u p = absurd p

  further : (j x : ℕ) → suc (j + x) ≡ suc j + x
  further j x = omega arith

  -- A tree that no variable escapes is moved to itself alone.
  bound_stays : (j x : ℕ) (k : Kind) (n d i : ℕ) (m : Leaf) (b : Bool) → nat_eq d (j + x) ≡ b →
      not (nat_lt d j) ≡ false →
      cond b ((y : ℕ) × (m ≡ bound (bound_kind k y) d (to k i))) (m ≡ bound (bound_kind k n) d i) →
      m ≡ bound (bound_kind k n) d i
  bound_stays j x k n d i m true q c p =
      let at : d ≡ j + x = eqb-true d (j + x) q in
      absurd (false≢true (sym c ∙ ap not (le-ltb d j (omega (arith, at)))))
  bound_stays j x k n d i m false q c p = p

  pub closed_stays : (j x : ℕ) (t u : Tree) → Moved to (j + x) t u → has_leaf is_escaping j t ≡ false → u ≡ t
  closed_stays j x (leaf (bound (bound_kind k n) d i)) (leaf m) p c =
      ap leaf (bound_stays j x k n d i m (nat_eq d (j + x)) refl c p)
  closed_stays j x (leaf (variable k n)) (leaf m) p c = ap leaf p
  closed_stays j x (leaf (placeholder k u n)) (leaf m) p c = ap leaf p
  closed_stays j x (leaf (atom y)) (leaf m) p c = ap leaf p
  closed_stays j x (leaf unknown) (leaf m) p c = ap leaf p
  closed_stays j x (node h ts) (node g us) p c = ap₂ node p.0 (closed_stays j x ts us p.1 c)
  closed_stays j x (bind ks t) (bind ls u) p c =
      ap₂ bind p.0 (closed_stays (suc j) x t u (subst (λ z. Moved to z t u) (further j x) p.1) c)
  closed_stays j x nil nil p c = refl
  closed_stays j x (cons t ts) (cons u us) p c =
      let z = or_parts (has_leaf is_escaping j t) (has_leaf is_escaping j ts) c in
      ap₂ cons (closed_stays j x t u p.0 z.0) (closed_stays j x ts us p.1 z.1)
  closed_stays j x t u p c = absurd p

  bound_itself : (j x : ℕ) (k : Kind) (n d i : ℕ) (b : Bool) → nat_eq d (j + x) ≡ b → not (nat_lt d j) ≡ false →
      cond b ((y : ℕ) × (bound (bound_kind k n) d i ≡ bound (bound_kind k y) d (to k i)))
      (bound (bound_kind k n) d i ≡ bound (bound_kind k n) d i)
  bound_itself j x k n d i true q c =
      let at : d ≡ j + x = eqb-true d (j + x) q in
      absurd (false≢true (sym c ∙ ap not (le-ltb d j (omega (arith, at)))))
  bound_itself j x k n d i false q c = refl

  pub closed_itself : (j x : ℕ) (t : Tree) → has_leaf is_escaping j t ≡ false → Moved to (j + x) t t
  closed_itself j x (leaf (bound (bound_kind k n) d i)) c = bound_itself j x k n d i (nat_eq d (j + x)) refl c
  closed_itself j x (leaf (variable k n)) c = refl
  closed_itself j x (leaf (placeholder k u n)) c = refl
  closed_itself j x (leaf (atom y)) c = refl
  closed_itself j x (leaf unknown) c = refl
  closed_itself j x (node h ts) c = (refl, closed_itself j x ts c)
  closed_itself j x (bind ks t) c =
      (refl, subst (λ z. Moved to z t t) (sym (further j x)) (closed_itself (suc j) x t c))
  closed_itself j x nil c = tt
  closed_itself j x (cons t ts) c =
      let z = or_parts (has_leaf is_escaping j t) (has_leaf is_escaping j ts) c in
      (closed_itself j x t z.0, closed_itself j x ts z.1)

  counts : (e : ℕ) (ts us : Tree) → Moved to e ts us → count us ≡ count ts
  counts e (leaf l) (leaf m) p = refl
  counts e (node h ts) (node g us) p = refl
  counts e (bind ks t) (bind ls u) p = refl
  counts e nil nil p = refl
  counts e (cons t ts) (cons u us) p = ap suc (counts e ts us p.1)
  counts e ts us p = absurd p

  takes_moved : (c : Choice) (e : ℕ) (t u ts us : Tree) → Moved to e t u → Moved to e ts us →
      takes c u us ≡ takes c t ts
  takes_moved every e t u ts us p q = refl
  takes_moved no_member e t u ts us p q = refl
  takes_moved no_region e t u ts us p q = ap (λ s. not (is_region_sort s)) (sorts to e t u p)
  takes_moved (last_types n) e t u ts us p q =
      ap₂ (λ s k. is_type_sort s && nat_lt k n) (sorts to e t u p) (counts e ts us q)
  takes_moved (not_bivariant []) e t u ts us p q = refl
  takes_moved (not_bivariant (v ∷ vs)) e t u ts us p q = refl

  -- An alias is an assumption of its own, and then it is the same, or it is none on both sides.
  alias_kept : (e : ℕ) (h : Head) (ts us : Tree) (b : Bool) → Moved to e ts us → has_leaf is_escaping 0 ts ≡ b →
      filter is_assumed (node h us ∷ []) ≡ filter is_assumed (node h ts ∷ [])
  alias_kept e h ts us true m q =
      ap (λ b. cond (not b) (node h us ∷ []) []) (escapes_moved e 0 ts us m ∙ q)
      ∙ sym (ap (λ b. cond (not b) (node h ts ∷ []) []) q)
  alias_kept e h ts us false m q =
      let z : e ≡ 0 + e = omega arith in
      ap (λ x. filter is_assumed (node h x ∷ [])) (closed_stays 0 e ts us (subst (λ x. Moved to x ts us) z m) q)

  chosen : (f : Tree → Bool) (b : Bool) (xs ys : List Tree) → filter f ys ≡ filter f xs →
      filter f (cond b ys []) ≡ filter f (cond b xs [])
  chosen f true xs ys p = p
  chosen f false xs ys p = refl

  leaf_parts : (c : Choice) (e : ℕ) (l m : Leaf) → MovedLeaf to e l m →
      filter is_assumed (components c (leaf m)) ≡ filter is_assumed (components c (leaf l))
  leaf_parts c e (bound (bound_kind k n) d i) m p = by_cases (nat_eq d e) p
    where
      by_cases : (b : Bool) → cond b ((x : ℕ) × (m ≡ bound (bound_kind k x) d (to k i))) (m ≡ bound (bound_kind k n) d
          i) →
          filter is_assumed (components c (leaf m)) ≡ []
      by_cases true q = ap (λ z. filter is_assumed (components c (leaf z))) q.1
      by_cases false q = ap (λ z. filter is_assumed (components c (leaf z))) q
  leaf_parts c e (variable k n) m p = ap (λ z. filter is_assumed (components c (leaf z))) p
  leaf_parts c e (placeholder k u n) m p = ap (λ z. filter is_assumed (components c (leaf z))) p
  leaf_parts c e (atom x) m p = ap (λ z. filter is_assumed (components c (leaf z))) p
  leaf_parts c e unknown m p = ap (λ z. filter is_assumed (components c (leaf z))) p

  pub parts_moved : (c : Choice) (e : ℕ) (t u : Tree) → Moved to e t u →
      filter is_assumed (components c u) ≡ filter is_assumed (components c t)
  parts_moved c e (leaf l) (leaf m) p = leaf_parts c e l m p
  parts_moved c e (node h ts) (node g us) p =
      ap (λ z. filter is_assumed (components c (node z us))) p.0 ∙
      by_cases (parts_moved (choice_of h) e ts us p.1) (is_alias h)
    where
      by_cases : filter is_assumed (components (choice_of h) us) ≡ filter is_assumed (components (choice_of h) ts) →
          (b : Bool) → filter is_assumed (cond b (node h us ∷ []) (components (choice_of h) us)) ≡
          filter is_assumed (cond b (node h ts ∷ []) (components (choice_of h) ts))
      by_cases r true = alias_kept e h ts us (has_leaf is_escaping 0 ts) p.1 refl
      by_cases r false = r
  parts_moved c e (bind ks t) (bind ls u) p = parts_moved every (suc e) t u p.1
  parts_moved c e nil nil p = refl
  parts_moved c e (cons t ts) (cons u us) p =
      ap (λ b. filter is_assumed (cond b (components every u) [] ++ components (choice_behind c) us))
      (takes_moved c e t u ts us p.0 p.1)
      ∙ filter-append is_assumed (cond (takes c t ts) (components every u) []) (components (choice_behind c) us)
      ∙ ap₂ (λ x y. x ++ y)
      (chosen is_assumed (takes c t ts) (components every t) (components every u) (parts_moved every e t u p.0))
      (parts_moved (choice_behind c) e ts us p.1)
      ∙ sym (filter-append is_assumed (cond (takes c t ts) (components every t) []) (components (choice_behind c) ts))
  parts_moved c e t u p = absurd p

  pub assumed_moved : (t u : Tree) → Moved to 0 t u → assumed_parts u ≡ assumed_parts t
  assumed_moved t u p =
      ap₂ (λ s xs. cond (is_type_sort s) xs []) (sorts to 0 t u p) (parts_moved every 0 t u p)
