-- What is put for what a binder binds: the fold of terms that opens a binder instantiates the binder's body.
use Rattle.std.proofs.Common.{◌≡◌, ◌≢◌, ◌⊎◌, ℕ, zero, suc, refl, sym, ap, ap₂, ◌∙◌, subst, subst₂, inl, inr, not}
use Rattle.std.proofs.Common.{true, false, List, [], ◌∷◌, ◌++◌}
use Rattle.std.specs.Prelude.{nat_eq, nat_lt, cond, Some, None, slice_get}
use Rattle.std.proofs.lemmas.Bool.{false≢true, or_parts, or_from, ltb-true, lt-ltb, not-false}
use Rattle.std.proofs.lemmas.Bool.Decides.{eqb_tells}
use Rattle.relation_terms.specs.Heads.{Kind, type_kind, region_kind, const_kind, kind_sort, BoundKind, bound_kind}
use Rattle.relation_terms.specs.Heads.{bound_sort, head_sort, var_sort, atom_sort, variable, bound, placeholder, atom}
use Rattle.relation_terms.specs.Heads.{unknown}
use Rattle.relation_terms.specs.Trees.{Tree, leaf, node, bind, nil, cons, tree_at, inst}
use Rattle.relation_terms.specs.Parts.{tree_sort}
use Rattle.relation_folds.specs.Folds.{asks, put_or, folded}
use Rattle.relation_folds.specs.Visits.{has_leaf, is_escaping}
use Rattle.relation_folds.specs.Shifts.{is_for, standing, shifted, opens}
use Rattle.relation_semantics.specs.Relation.{StaysWithin}
use Rattle.relation_semantics.specs.Steps.{ArePlaceholders}
use Rattle.relation_semantics.specs.Stores.{Store}
use Rattle.relation_semantics.specs.Bound.{IsBoundAs, AreBoundAs}
use Rattle.relation_semantics.specs.Binders.{variable_kind, MakesEach, makes_none, makes_next}
use Rattle.relation_folds.proofs.Folding.{put_none}
use Rattle.relation_semantics.proofs.MakingEach.{variable_sort}

-- A tree that may stand for a variable of a kind: it is of its sort, and no binder around it changes it.
pub record StandsFor (k : BoundKind) (t : Tree) : Type 0 where
  pub sort : tree_sort t ≡ bound_sort k
  pub closed : (d : ℕ) → shifted d t ≡ t

-- One for each variable of a list.
abbrev pub AllStandFor : List BoundKind → List Tree → Type 0
AllStandFor [] [] = Unit {0}
AllStandFor (k ∷ ks) (t ∷ ts) = StandsFor k t × AllStandFor ks ts
AllStandFor [] (t ∷ ts) = ⊥
AllStandFor (k ∷ ks) [] = ⊥

-- The one at a place.
pub record Found (ts : List Tree) (i : ℕ) (q : BoundKind) : Type 0 where
  pub tree : Tree
  pub got : slice_get ts i ≡ Some tree
  pub there : (t : Tree) → tree_at ts i t ≡ tree
  pub stands : StandsFor q tree

pub found : (ks : List BoundKind) (ts : List Tree) → AllStandFor ks ts → (i : ℕ) (q : BoundKind) →
    slice_get ks i ≡ Some q → Found ts i q
found [] ts h i q e = absurd cc
found (k ∷ ks) [] h i q e = absurd h
found (k ∷ ks) (t ∷ ts) h zero q e = let p : k ≡ q = cc in
    record { tree = t; got = refl; there = λ x. refl; stands = subst (λ z. StandsFor z t) p h.0 }
found (k ∷ ks) (t ∷ ts) h (suc i) q e = let r = found ks ts h.1 i q e in
    record { tree = r.tree; got = r.got; there = r.there; stands = r.stands }

stands_as : (k : Kind) (n d : ℕ) (q : BoundKind) (t : Tree) → StandsFor q t →
    bound_sort q ≡ bound_sort (bound_kind k n) →
    standing k d (Some t) ≡ Some t
stands_as type_kind n d q t s e = ap (λ z. cond (is_for type_kind z) (Some (shifted d t)) None) (s.sort ∙ e)
    ∙ ap Some (s.closed d)
stands_as region_kind n d q t s e = ap (λ z. cond (is_for region_kind z) (Some (shifted d t)) None) (s.sort ∙ e)
    ∙ ap Some (s.closed d)
stands_as const_kind n d q t s e = ap (λ z. cond (is_for const_kind z) (Some (shifted d t)) None) (s.sort ∙ e)
    ∙ ap Some (s.closed d)

asked : (k : Kind) → asks (kind_sort k) ≡ true
asked type_kind = refl
asked region_kind = refl
asked const_kind = refl

opened_bound : (ks : List BoundKind) (ts : List Tree) → AllStandFor ks ts → (d : ℕ) (k : Kind) (n e i : ℕ) →
    IsBoundAs ks d (bound (bound_kind k n) e i) →
    folded (opens ts) d (leaf (bound (bound_kind k n) e i)) ≡ inst ts d (leaf (bound (bound_kind k n) e i))
opened_bound ks ts h d k n e i f = go (eqb_tells e d)
  where
    l : Tree
    l = leaf (bound (bound_kind k n) e i)

    go : ((nat_eq e d ≡ true) × (e ≡ d)) ⊎ ((nat_eq e d ≡ false) × (e ≢ d)) →
        folded (opens ts) d (leaf (bound (bound_kind k n) e i)) ≡ inst ts d (leaf (bound (bound_kind k n) e i))
    go (inl p) =
        let b = f p.1 in
        let r = found ks ts h i b.0 b.1 in
        ap₂ (λ x y. put_or x y (leaf (bound (bound_kind k n) e i))) (asked k)
        (ap (λ x. cond x (standing k d (slice_get ts i)) None) p.0 ∙ ap (standing k d) r.got
        ∙ stands_as k n d b.0 r.tree r.stands b.2)
        ∙ sym (ap (λ x. cond x (tree_at ts i (leaf (bound (bound_kind k n) e i))) (leaf (bound (bound_kind k n) e i)))
        p.0 ∙ r.there _)
    go (inr p) =
        ap₂ (λ x y. put_or x y (leaf (bound (bound_kind k n) e i))) (asked k)
        (ap (λ x. cond x (standing k d (slice_get ts i)) None) p.0)
        ∙ sym (ap (λ x. cond x (tree_at ts i (leaf (bound (bound_kind k n) e i))) (leaf (bound (bound_kind k n) e i)))
        p.0)

pub opened_inst : (ks : List BoundKind) (ts : List Tree) → AllStandFor ks ts → (d : ℕ) (t : Tree) → AreBoundAs ks d t →
    folded (opens ts) d t ≡ inst ts d t
opened_inst ks ts h d (leaf (variable v n)) f = put_none (asks (var_sort v)) (leaf (variable v n))
opened_inst ks ts h d (leaf (bound (bound_kind k n) e i)) f = opened_bound ks ts h d k n e i f
opened_inst ks ts h d (leaf (placeholder k u n)) f = put_none (asks (bound_sort k)) (leaf (placeholder k u n))
opened_inst ks ts h d (leaf (atom x)) f = put_none (asks (atom_sort x)) (leaf (atom x))
opened_inst ks ts h d (leaf unknown) f = refl
opened_inst ks ts h d (node a t) f = put_none (asks (head_sort a)) (node a (folded (opens ts) d t))
    ∙ ap (node a) (opened_inst ks ts h d t f)
opened_inst ks ts h d (bind ls t) f = ap (bind ls) (opened_inst ks ts h (suc d) t f)
opened_inst ks ts h d nil f = refl
opened_inst ks ts h d (cons t u) f = ap₂ cons (opened_inst ks ts h d t f.0) (opened_inst ks ts h d u f.1)

-- Placeholders and variables do.
placeholder_stands : (k : BoundKind) (u n : ℕ) → StandsFor k (leaf (placeholder k u n))
placeholder_stands k u n =
    record { sort = refl; closed = λ d. put_none (asks (bound_sort k)) (leaf (placeholder k u n)) }

pub placeholders_stand : (u : ℕ) (ks : List BoundKind) (ps : List Tree) → ArePlaceholders u ks ps → AllStandFor ks ps
placeholders_stand u [] [] h = tt
placeholders_stand u [] (p ∷ ps) h = h
placeholders_stand u (k ∷ ks) [] h = h
placeholders_stand u (k ∷ ks) (p ∷ ps) h =
    (subst (StandsFor k) (sym h.0.1) (placeholder_stands k u h.0.0), placeholders_stand u ks ps h.2)

variable_stands : (k : BoundKind) (n : ℕ) → StandsFor k (leaf (variable (variable_kind k) n))
variable_stands k n = record {
  sort = variable_sort k;
  closed = λ d. put_none (asks (var_sort (variable_kind k))) (leaf (variable (variable_kind k) n));
}

all_more : (k : BoundKind) (t : Tree) (ks : List BoundKind) (ts : List Tree) → AllStandFor ks ts → StandsFor k t →
    AllStandFor (ks ++ k ∷ []) (ts ++ t ∷ [])
all_more k t [] [] h s = (s, tt)
all_more k t [] (x ∷ ts) h s = absurd h
all_more k t (j ∷ ks) [] h s = absurd h
all_more k t (j ∷ ks) (x ∷ ts) h s = (h.0, all_more k t ks ts h.1 s)

pub variables_stand : {u : ℕ} {before after : Store} {ks : List BoundKind} {xs : List Tree} →
    MakesEach u before ks xs after → AllStandFor ks xs
variables_stand (makes_none p q) = subst₂ AllStandFor (sym p) (sym q) tt
variables_stand (makes_next {ks = ks} {xs = xs} {n = n} k f q p e) =
    subst₂ AllStandFor (sym p) (sym e) (all_more k _ ks xs (variables_stand f) (variable_stands k n))

-- What a visit tells of bound variables: whether a tree stays within its own binders.
pub none_escapes : (d : ℕ) (t : Tree) → has_leaf is_escaping d t ≡ false → StaysWithin d t
none_escapes d (leaf (bound k e i)) h = ltb-true e d (not-false (nat_lt e d) h)
none_escapes d (leaf (variable v n)) h = tt
none_escapes d (leaf (placeholder k u n)) h = tt
none_escapes d (leaf (atom x)) h = tt
none_escapes d (leaf unknown) h = tt
none_escapes d (node a t) h = none_escapes d t h
none_escapes d (bind ks t) h = none_escapes (suc d) t h
none_escapes d nil h = tt
none_escapes d (cons t u) h =
    let o = or_parts (has_leaf is_escaping d t) (has_leaf is_escaping d u) h in
    (none_escapes d t o.0, none_escapes d u o.1)

pub within_none : (d : ℕ) (t : Tree) → StaysWithin d t → has_leaf is_escaping d t ≡ false
within_none d (leaf (bound k e i)) h = ap not (lt-ltb e d h)
within_none d (leaf (variable v n)) h = refl
within_none d (leaf (placeholder k u n)) h = refl
within_none d (leaf (atom x)) h = refl
within_none d (leaf unknown) h = refl
within_none d (node a t) h = within_none d t h
within_none d (bind ks t) h = within_none (suc d) t h
within_none d nil h = refl
within_none d (cons t u) h = or_from (has_leaf is_escaping d t) (has_leaf is_escaping d u) (within_none d t h.0)
    (within_none d u h.1)

pub some_escapes : (d : ℕ) (t : Tree) → has_leaf is_escaping d t ≡ true → StaysWithin d t → ⊥
some_escapes d t e h = false≢true (sym (within_none d t h) ∙ e)
