-- Bodies agreed before their binders were opened.
use Rattle.std.proofs.Common.{◌≡◌, ◌≢◌, ◌⊎◌, ℕ, zero, suc, refl, sym, ap, ◌∙◌, inl, inr, subst}
use Rattle.std.proofs.Common.{List, [], ◌∷◌, true, false}
use Rattle.std.specs.Prelude.{nat_eq, cond, Some, slice_get}
use Rattle.std.proofs.lemmas.Bool.Decides.{eqb_tells}
use Rattle.term_enums.specs.declared.Variance.{Variance}
use Rattle.term_enums.specs.declared.Variance.TheVariants.{Bivariant}
use Rattle.relation_terms.specs.Heads.{BoundKind, bound_sort, VarKind, int_var, float_var}
use Rattle.relation_terms.specs.Heads.{Head}
use Rattle.relation_terms.specs.Heads.{alias, opaque_alias, Leaf, leaf_sort, variable, bound, placeholder, atom, unknown}
use Rattle.relation_terms.specs.Trees.{Tree, leaf, node, bind, nil, cons, tree_at, put, inst, count}
use Rattle.relation_semantics.specs.Relation.{Items, at, parts, part_at, sort_of, IsAlias}
use Rattle.relation_semantics.specs.Stores.{MayStandFor}
use Rattle.relation_semantics.specs.Steps.{IsNumberKind}
use Rattle.relation_semantics.specs.Bound.{IsBoundAs, AreBoundAs}
use Rattle.relation_semantics.specs.Settings.{Settings}
use Rattle.relation_semantics.specs.Errors.{outermost, IsStandIn, StandFor}
use Rattle.relation_semantics.specs.Errors.{IsOpaque}
use Rattle.relation_semantics.specs.Agreeing.{IsFlexible, IsLeftOpen, IsLeftAside, Agree}
use Rattle.relation_semantics.proofs.Agreeing.{alike_sorts, agree_sorts, agree_if_sorts, Meet}

-- What is put for a bound variable is a leaf of its sort.
stand_in_leaf : (k : BoundKind) (t : Tree) → IsStandIn k t → (m : Leaf) × (t ≡ leaf m) × (leaf_sort m ≡ bound_sort k)
stand_in_leaf k (leaf (variable j n)) h = (variable j n, refl, h)
stand_in_leaf k (leaf (placeholder q u n)) h = (placeholder q u n, refl, ap bound_sort h)
stand_in_leaf k (leaf (bound q d i)) h = absurd h
stand_in_leaf k (leaf (atom x)) h = absurd h
stand_in_leaf k (leaf unknown) h = absurd h
stand_in_leaf k (node a ts) h = absurd h
stand_in_leaf k (bind ks t) h = absurd h
stand_in_leaf k nil h = absurd h
stand_in_leaf k (cons t ts) h = absurd h

found_leaf : (ks : List BoundKind) (xs : List Tree) → StandFor ks xs → (i : ℕ) (q : BoundKind) →
    slice_get ks i ≡ Some q → (z : Tree) → (m : Leaf) × (tree_at xs i z ≡ leaf m) × (leaf_sort m ≡ bound_sort q)
found_leaf [] xs h i q e z = absurd cc
found_leaf (k ∷ ks) [] h i q e z = absurd h
found_leaf (k ∷ ks) (x ∷ xs) h zero q e z =
    let p : k ≡ q = cc in stand_in_leaf q x (subst (λ j. IsStandIn j x) p h.0)
found_leaf (k ∷ ks) (x ∷ xs) h (suc i) q e z = found_leaf ks xs h.1 i q e z

-- Stand-ins for what a binder binds.
module _ (ks : List BoundKind) (xs : List Tree) (h : StandFor ks xs) where
  put_leaf : (d : ℕ) (l : Leaf) → IsBoundAs ks d l → (m : Leaf) × (put xs d l ≡ leaf m) × (leaf_sort m ≡ leaf_sort l)
  put_leaf d (variable k n) b = (variable k n, refl, refl)
  put_leaf d (bound k e i) b = go (eqb_tells e d)
    where
      go : ((nat_eq e d ≡ true) × (e ≡ d)) ⊎ ((nat_eq e d ≡ false) × (e ≢ d)) →
          (m : Leaf) × (put xs d (bound k e i) ≡ leaf m) × (leaf_sort m ≡ leaf_sort (bound k e i))
      go (inl p) =
          let w = b p.1 in
          let f = found_leaf ks xs h i w.0 w.1 (leaf (bound k e i)) in
          (f.0, ap (λ x. cond x (tree_at xs i (leaf (bound k e i))) (leaf (bound k e i))) p.0 ∙ f.1, f.2 ∙ w.2)
      go (inr p) =
          (bound k e i, ap (λ x. cond x (tree_at xs i (leaf (bound k e i))) (leaf (bound k e i))) p.0, refl)
  put_leaf d (placeholder k u n) b = (placeholder k u n, refl, refl)
  put_leaf d (atom x) b = (atom x, refl, refl)
  put_leaf d unknown b = (unknown, refl, refl)

  inst_sort : (d : ℕ) (t : Tree) → AreBoundAs ks d t → sort_of (inst xs d t) ≡ sort_of t
  inst_sort d (leaf l) b = let f = put_leaf d l b in ap sort_of f.1 ∙ f.2
  inst_sort d (node a t) b = refl
  inst_sort d (bind ls t) b = refl
  inst_sort d nil b = refl
  inst_sort d (cons t u) b = refl

  inst_count : (d : ℕ) (t : Tree) → AreBoundAs ks d t → count (inst xs d t) ≡ count t
  inst_count d (leaf l) b = ap count (put_leaf d l b).1
  inst_count d (node a t) b = refl
  inst_count d (bind ls t) b = refl
  inst_count d nil b = refl
  inst_count d (cons t u) b = ap suc (inst_count d u b.1)

  -- An alias, or an opaque type, was one before the binder was opened.
  alias_before : (d : ℕ) (t : Tree) → AreBoundAs ks d t → IsAlias (inst xs d t) → IsAlias t
  alias_before d (leaf l) b o = absurd (subst IsAlias (put_leaf d l b).1 o)
  alias_before d (node a t) b o = o
  alias_before d (bind ls t) b o = o
  alias_before d nil b o = o
  alias_before d (cons t u) b o = o

  opaque_before : (d : ℕ) (t : Tree) → AreBoundAs ks d t → IsOpaque (inst xs d t) → IsOpaque t
  opaque_before d (leaf l) b o = absurd (subst IsOpaque (put_leaf d l b).1 o)
  opaque_before d (node (alias opaque_alias a) t) b o = o
  opaque_before d (node a t) b o = o
  opaque_before d (bind ls t) b o = o
  opaque_before d nil b o = o
  opaque_before d (cons t u) b o = o

-- What is flexible beside another once binders were opened was so before, or the other was.
no_number_form : (k : VarKind) (t u : Tree) → (MayStandFor int_var t → ⊥) → (MayStandFor float_var t → ⊥) →
    (IsNumberKind k → MayStandFor k t) → IsNumberKind k → MayStandFor k u
no_number_form int_var t u f g o i = absurd (f (o i))
no_number_form float_var t u f g o i = absurd (g (o i))
no_number_form k t u f g o i = absurd i

variable_before : (ys : List Tree) (d : ℕ) (k : VarKind) (u : Tree) → (IsNumberKind k → MayStandFor k (inst ys d u)) →
    (n : ℕ) → IsFlexible (leaf (variable k n)) u ⊎ IsFlexible u (leaf (variable k n))
variable_before ys d k (leaf (variable j m)) o n = inl o
variable_before ys d k (leaf (bound q e i)) o n = inr tt
variable_before ys d k (leaf (placeholder q w m)) o n = inl o
variable_before ys d k (leaf (atom x)) o n = inl o
variable_before ys d k (leaf unknown) o n = inl o
variable_before ys d k (node a t) o n = inl (no_number_form k (node a (inst ys d t)) (node a t) (λ h. h) (λ h. h) o)
variable_before ys d k (bind ls t) o n =
    inl (no_number_form k (bind ls (inst ys (suc d) t)) (bind ls t) (λ h. h) (λ h. h) o)
variable_before ys d k nil o n = inl o
variable_before ys d k (cons t ts) o n =
    inl (no_number_form k (cons (inst ys d t) (inst ys d ts)) (cons t ts) (λ h. h) (λ h. h) o)

inst_flexible : (xs ys : List Tree) (d : ℕ) (t u : Tree) → IsFlexible (inst xs d t) (inst ys d u) →
    IsFlexible t u ⊎ IsFlexible u t
inst_flexible xs ys d (leaf (variable k n)) u o = variable_before ys d k u o n
inst_flexible xs ys d (leaf (bound k e i)) u o = inl tt
inst_flexible xs ys d (leaf (placeholder k w n)) u o = inl o
inst_flexible xs ys d (leaf (atom x)) u o = inl o
inst_flexible xs ys d (leaf unknown) u o = absurd o
inst_flexible xs ys d (node a t) u o = absurd o
inst_flexible xs ys d (bind ls t) u o = absurd o
inst_flexible xs ys d nil u o = absurd o
inst_flexible xs ys d (cons t ts) u o = absurd o

inst_outer : (xs : List Tree) (d : ℕ) (t : Tree) →
    ((u : Tree) → IsFlexible t u) ⊎ (outermost (inst xs d t) ≡ outermost t)
inst_outer xs d (leaf (variable k n)) = inr refl
inst_outer xs d (leaf (bound k e i)) = inl (λ u. tt)
inst_outer xs d (leaf (placeholder k u n)) = inr refl
inst_outer xs d (leaf (atom x)) = inr refl
inst_outer xs d (leaf unknown) = inr refl
inst_outer xs d (node a t) = inr refl
inst_outer xs d (bind ks t) = inr refl
inst_outer xs d nil = inr refl
inst_outer xs d (cons t u) = inr refl

pub swapped : {A B : Type 0} → A ⊎ B → B ⊎ A
swapped (inl a) = inr a
swapped (inr b) = inl b

-- So for terms one of which is no form, or no binder.
pub opened_leaves : (set : Settings) (v : Variance) (xs ys : List Tree) (d : ℕ) (t u : Tree) →
    sort_of (inst xs d t) ≡ sort_of t → sort_of (inst ys d u) ≡ sort_of u →
    (IsLeftAside set v (inst xs d t) (inst ys d u) → IsLeftAside set v t u) →
    Meet set v (inst xs d t) (inst ys d u) → Meet set v t u
opened_leaves set v xs ys d t u p q f (inl e) = inl (f e)
opened_leaves set v xs ys d t u p q f (inr (inl (inl o, s))) =
    inr (inl (inst_flexible xs ys d t u o, sym p ∙ s ∙ q))
opened_leaves set v xs ys d t u p q f (inr (inl (inr o, s))) =
    inr (inl (swapped (inst_flexible ys xs d u t o), sym p ∙ s ∙ q))
opened_leaves set v xs ys d t u p q f (inr (inr e)) = go (inst_outer xs d t) (inst_outer ys d u)
  where
    sorts : sort_of t ≡ sort_of u
    sorts = sym p ∙ alike_sorts (inst xs d t) (inst ys d u) e ∙ q

    go : ((w : Tree) → IsFlexible t w) ⊎ (outermost (inst xs d t) ≡ outermost t) →
        ((w : Tree) → IsFlexible u w) ⊎ (outermost (inst ys d u) ≡ outermost u) → Meet set v t u
    go (inl o) k = inr (inl (inl (o u), sorts))
    go (inr x) (inl o) = inr (inl (inr (o t), sorts))
    go (inr x) (inr y) = inr (inr (sym x ∙ e ∙ y))

agree_count : (set : Settings) (c : Items) (h : Head) (i : ℕ) (v : Variance) (xs ys : Tree) → Agree set c (parts h i v) xs ys →
    count xs ≡ count ys
agree_count set c h i v (cons a xs) (cons b ys) g = ap suc (agree_count set c h (suc i) v xs ys g.1)
agree_count set c h i v xs ys g = g

-- Bodies that agree once they are opened agreed before.
module _ (set : Settings) (c : Items) (ks ls : List BoundKind) (xs ys : List Tree) (h : StandFor ks xs) (k : StandFor ls ys) where
  -- Where one is what a binder binds, by the sorts alone.
  opened_by_sorts : (v : Variance) (d : ℕ) (t u : Tree) → AreBoundAs ks d t → AreBoundAs ls d u →
      IsFlexible t u ⊎ IsFlexible u t →
      Agree set c (at v) (inst xs d t) (inst ys d u) → Agree set c (at v) t u
  opened_by_sorts v d t u p q o g = agree_if_sorts set c v t u (sorts (agree_sorts set c v (inst xs d t) (inst ys d u) g)) o
    where
      sorts : (v ≡ Bivariant) ⊎ (sort_of (inst xs d t) ≡ sort_of (inst ys d u)) →
          (v ≡ Bivariant) ⊎ (sort_of t ≡ sort_of u)
      sorts (inl e) = inl e
      sorts (inr s) = inr (sym (inst_sort ks xs h d t p) ∙ s ∙ inst_sort ls ys k d u q)

  aside_before : (v : Variance) (d : ℕ) (t u : Tree) → AreBoundAs ks d t → AreBoundAs ls d u →
      IsLeftAside set v (inst xs d t) (inst ys d u) → IsLeftAside set v t u
  aside_before v d t u p q (inl e) = inl e
  aside_before v d t u p q (inr (l, s)) =
      inr (go l, sym (inst_sort ks xs h d t p) ∙ s ∙ inst_sort ls ys k d u q)
    where
      go : IsLeftOpen set (inst xs d t) (inst ys d u) → IsLeftOpen set t u
      go (inl (w, inl o)) = inl (w, inl (alias_before ks xs h d t p o))
      go (inl (w, inr o)) = inl (w, inr (alias_before ls ys k d u q o))
      go (inr (w, inl o)) = inr (w, inl (opaque_before ks xs h d t p o))
      go (inr (w, inr o)) = inr (w, inr (opaque_before ls ys k d u q o))

  as_leaves : (v : Variance) (d : ℕ) (t u : Tree) → AreBoundAs ks d t → AreBoundAs ls d u →
      Meet set v (inst xs d t) (inst ys d u) → Meet set v t u
  as_leaves v d t u p q g = opened_leaves set v xs ys d t u (inst_sort ks xs h d t p) (inst_sort ls ys k d u q)
      (aside_before v d t u p q) g

  mutual
    pub agree_opened : (v : Variance) (d : ℕ) (t u : Tree) → AreBoundAs ks d t → AreBoundAs ls d u →
        Agree set c (at v) (inst xs d t) (inst ys d u) → Agree set c (at v) t u
    agree_opened v d (node a ts) (node b us) p q (inl e) = inl (aside_before v d (node a ts) (node b us) p q e)
    agree_opened v d (node a ts) (node b us) p q (inr r) = inr (r.0, parts_opened a 0 v d ts us p q r.1)
    agree_opened v d (bind is t) (bind js u) p q (inl e) = inl e
    agree_opened v d (bind is t) (bind js u) p q (inr r) = inr (agree_opened v (suc d) t u p q r)
    agree_opened v d (leaf (bound j e i)) u p q g = opened_by_sorts v d (leaf (bound j e i)) u p q (inl tt) g
    agree_opened v d (leaf (variable j n)) u p q g = as_leaves v d (leaf (variable j n)) u p q g
    agree_opened v d (leaf (placeholder j w n)) u p q g = as_leaves v d (leaf (placeholder j w n)) u p q g
    agree_opened v d (leaf (atom x)) u p q g = as_leaves v d (leaf (atom x)) u p q g
    agree_opened v d (leaf unknown) u p q g = as_leaves v d (leaf unknown) u p q g
    agree_opened v d nil u p q g = as_leaves v d nil u p q g
    agree_opened v d (cons t ts) u p q g = as_leaves v d (cons t ts) u p q g
    agree_opened v d (node a ts) (leaf (bound j e i)) p q g =
        opened_by_sorts v d (node a ts) (leaf (bound j e i)) p q (inr tt) g
    agree_opened v d (node a ts) (leaf (variable j n)) p q g = as_leaves v d (node a ts) (leaf (variable j n)) p q g
    agree_opened v d (node a ts) (leaf (placeholder j w n)) p q g =
        as_leaves v d (node a ts) (leaf (placeholder j w n)) p q g
    agree_opened v d (node a ts) (leaf (atom x)) p q g = as_leaves v d (node a ts) (leaf (atom x)) p q g
    agree_opened v d (node a ts) (leaf unknown) p q g = as_leaves v d (node a ts) (leaf unknown) p q g
    agree_opened v d (node a ts) (bind js u) p q g = as_leaves v d (node a ts) (bind js u) p q g
    agree_opened v d (node a ts) nil p q g = as_leaves v d (node a ts) nil p q g
    agree_opened v d (node a ts) (cons u us) p q g = as_leaves v d (node a ts) (cons u us) p q g
    agree_opened v d (bind is t) (leaf (bound j e i)) p q g =
        opened_by_sorts v d (bind is t) (leaf (bound j e i)) p q (inr tt) g
    agree_opened v d (bind is t) (leaf (variable j n)) p q g = as_leaves v d (bind is t) (leaf (variable j n)) p q g
    agree_opened v d (bind is t) (leaf (placeholder j w n)) p q g =
        as_leaves v d (bind is t) (leaf (placeholder j w n)) p q g
    agree_opened v d (bind is t) (leaf (atom x)) p q g = as_leaves v d (bind is t) (leaf (atom x)) p q g
    agree_opened v d (bind is t) (leaf unknown) p q g = as_leaves v d (bind is t) (leaf unknown) p q g
    agree_opened v d (bind is t) (node b us) p q g = as_leaves v d (bind is t) (node b us) p q g
    agree_opened v d (bind is t) nil p q g = as_leaves v d (bind is t) nil p q g
    agree_opened v d (bind is t) (cons u us) p q g = as_leaves v d (bind is t) (cons u us) p q g

    parts_opened : (a : Head) (i : ℕ) (v : Variance) (d : ℕ) (ts us : Tree) → AreBoundAs ks d ts → AreBoundAs ls d us →
        Agree set c (parts a i v) (inst xs d ts) (inst ys d us) → Agree set c (parts a i v) ts us
    parts_opened a i v d (cons t ts) (cons u us) p q g =
        (agree_opened (part_at c a i v) d t u p.0 q.0 g.0, parts_opened a (suc i) v d ts us p.1 q.1 g.1)
    parts_opened a i v d ts us p q g = sym (inst_count ks xs h d ts p)
        ∙ agree_count set c a i v (inst xs d ts) (inst ys d us) g ∙ inst_count ls ys k d us q
