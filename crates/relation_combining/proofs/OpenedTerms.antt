-- Bodies that were opened in a context: they are the context's, and come to what is as large as before.
use Rattle.std.proofs.Common.{◌≡◌, ◌≢◌, ◌⊎◌, ℕ, zero, suc, ◌<◌, refl, sym, ap, ap₂, ◌∙◌, arith, subst, inl, inr}
use Rattle.std.proofs.Common.{◌+◌, true, false, List, [], ◌∷◌, ◌++◌, map, length, get_or}
use Rattle.std.specs.Prelude.{nat_eq, cond, None}
use Rattle.std.proofs.lemmas.List.{get_or_past}
use Rattle.std.proofs.lemmas.Bool.Decides.{eqb_tells}
use Rattle.relation_terms.specs.Heads.{BoundKind, VarKind, Leaf, variable, bound, placeholder, atom, unknown}
use Rattle.relation_terms.specs.Trees.{Tree, leaf, node, bind, nil, cons, apply, put, inst, tree_at, size, Leaves}
use Rattle.relation_semantics.specs.Relation.{StaysWithin}
use Rattle.relation_semantics.specs.Stores.{Store, unbound, entry_term, counts_term, bound_term, IsMade, IsMadeLeaf}
use Rattle.relation_semantics.specs.Stores.{InContext, IsNamable, IsTermIn, IsSound, resolved, weight}
use Rattle.relation_semantics.specs.Steps.{AreNewVariables, ArePlaceholders, LeavesBody}
use Rattle.relation_semantics.specs.Steps.{EntersUniverse}
use Rattle.relation_semantics.specs.Bound.{AreBoundAs, IsWellBound}
use Rattle.relation_semantics.specs.Binders.{MakesEach, makes_none, makes_next}
use Rattle.relation_semantics.specs.OpeningLaws.{EnteredBodyIsIn, InstantiatedBodyIsIn, EnteredBodyBinds}
use Rattle.relation_semantics.specs.OpeningLaws.{InstantiatedBodyBinds}
use Rattle.relation_semantics.proofs.Trees.{apply-inst, apply_alike, StaysWithin-mono}
use Rattle.relation_semantics.proofs.Standing.{later_term, term_in, term_of_made}
use Rattle.relation_semantics.proofs.Values.{occurring_stay}
use Rattle.relation_semantics.proofs.Resolved.{resolved_same, resolved_free}
use Rattle.relation_semantics.proofs.Tallies.{all_alike}
use Rattle.relation_semantics.proofs.StoreCalls.{nothing_is_seen, resolved_within}
use Rattle.relation_semantics.proofs.NewVariables.{adds}
use Rattle.relation_semantics.proofs.MakingEach.{each_unbound, each_new}
use Rattle.relation_semantics.proofs.Opened.{AllStandFor, found, placeholders_stand, variables_stand}

-- A list of trees that have a property.
abbrev EachTree : (Tree → Type 0) → List Tree → Type 0
EachTree P [] = Unit {0}
EachTree P (t ∷ ts) = P t × EachTree P ts

each_at : (P : Tree → Type 0) (ts : List Tree) → EachTree P ts → (i : ℕ) (t : Tree) → P t → P (tree_at ts i t)
each_at P [] h i t p = p
each_at P (x ∷ ts) h zero t p = h.0
each_at P (x ∷ ts) h (suc i) t p = each_at P ts h.1 i t p

each_map : (P Q : Tree → Type 0) → ((t : Tree) → P t → Q t) → (ts : List Tree) → EachTree P ts → EachTree Q ts
each_map P Q f [] h = tt
each_map P Q f (t ∷ ts) h = (f t h.0, each_map P Q f ts h.1)

-- What holds of a body and of all that is put into it.
put_leaf : (P : Tree → Type 0) (ts : List Tree) → EachTree P ts → (d : ℕ) (l : Leaf) → P (leaf l) → P (put ts d l)
put_leaf P ts h d (variable k n) p = p
put_leaf P ts h d (placeholder k u n) p = p
put_leaf P ts h d (atom x) p = p
put_leaf P ts h d unknown p = p
put_leaf P ts h d (bound k e i) p = go (eqb_tells e d)
  where
    go : ((nat_eq e d ≡ true) × (e ≡ d)) ⊎ ((nat_eq e d ≡ false) × (e ≢ d)) → P (put ts d (bound k e i))
    go (inl q) = subst (λ b. P (cond b (tree_at ts i (leaf (bound k e i))) (leaf (bound k e i)))) (sym q.0)
        (each_at P ts h i (leaf (bound k e i)) p)
    go (inr q) = subst (λ b. P (cond b (tree_at ts i (leaf (bound k e i))) (leaf (bound k e i)))) (sym q.0) p

inst_leaves : (P : Leaf → Type 0) (ts : List Tree) → EachTree (Leaves P) ts → (d : ℕ) (t : Tree) → Leaves P t →
    Leaves P (inst ts d t)
inst_leaves P ts h d (leaf l) p = put_leaf (Leaves P) ts h d l p
inst_leaves P ts h d (node a t) p = inst_leaves P ts h d t p
inst_leaves P ts h d (bind ks t) p = inst_leaves P ts h (suc d) t p
inst_leaves P ts h d nil p = tt
inst_leaves P ts h d (cons t u) p = (inst_leaves P ts h d t p.0, inst_leaves P ts h d u p.1)

IsOne : Tree → Type 0
IsOne t = size t ≡ 1

inst_size : (ts : List Tree) → EachTree IsOne ts → (d : ℕ) (t : Tree) → size (inst ts d t) ≡ size t
unfolding IsOne
inst_size ts h d (leaf l) = put_leaf IsOne ts h d l refl
inst_size ts h d (node a t) = ap suc (inst_size ts h d t)
inst_size ts h d (bind ks t) = ap (λ n. suc (suc n)) (inst_size ts h (suc d) t)
inst_size ts h d nil = refl
inst_size ts h d (cons t u) = ap₂ (λ m n. suc (m + n)) (inst_size ts h d t) (inst_size ts h d u)

-- Nothing that the binder binds is left, so the body stays within its own binders.
module _ (ks : List BoundKind) (ts : List Tree) (stand : AllStandFor ks ts) (each : EachTree (StaysWithin 0) ts) where
  inst_stays : (d : ℕ) (t : Tree) → AreBoundAs ks d t → StaysWithin (suc d) t → StaysWithin d (inst ts d t)
  inst_stays d (leaf (variable k n)) f h = tt
  inst_stays d (leaf (placeholder k u n)) f h = tt
  inst_stays d (leaf (atom x)) f h = tt
  inst_stays d (leaf unknown) f h = tt
  inst_stays d (leaf (bound k e i)) f h = go (eqb_tells e d)
    where
      at : (x : Tree) → ((y : Tree) → tree_at ts i y ≡ x) → StaysWithin 0 (tree_at ts i nil) →
          StaysWithin 0 (tree_at ts i (leaf (bound k e i)))
      at x there p = subst (StaysWithin 0) (there nil ∙ sym (there (leaf (bound k e i)))) p

      go : ((nat_eq e d ≡ true) × (e ≡ d)) ⊎ ((nat_eq e d ≡ false) × (e ≢ d)) → StaysWithin d (put ts d (bound k e i))
      go (inl q) =
          let b = f q.1 in
          let r = found ks ts stand i b.0 b.1 in
          subst (λ z. StaysWithin d (cond z (tree_at ts i (leaf (bound k e i))) (leaf (bound k e i)))) (sym q.0)
          (StaysWithin-mono 0 d (tree_at ts i (leaf (bound k e i))) (omega arith)
          (at r.tree r.there (each_at (StaysWithin 0) ts each i nil tt)))
      go (inr q) =
          let o = q.1 in
          let below : e < d = omega (arith, h, o) in
          subst (λ z. StaysWithin d (cond z (tree_at ts i (leaf (bound k e i))) (leaf (bound k e i)))) (sym q.0) below
  inst_stays d (node a t) f h = inst_stays d t f h
  inst_stays d (bind ls t) f h = inst_stays (suc d) t f h
  inst_stays d nil f h = tt
  inst_stays d (cons t u) f h = (inst_stays d t f.0 h.0, inst_stays d u f.1 h.1)

-- A term of the context that stands for itself and is as small as there is.
record IsSmall (st : Store) (t : Tree) : Type 0 where
  is_in : IsTermIn st t
  own : apply (resolved st) t ≡ t
  one : size t ≡ 1

own_map : (st : Store) (ts : List Tree) → EachTree (IsSmall st) ts → map (apply (resolved st)) ts ≡ ts
own_map st [] h = refl
own_map st (t ∷ ts) h = ap₂ ◌∷◌ (h.0.own) (own_map st ts h.1)

-- With such terms put in, a body of the context stays the context's, and as large as it was.
module _ (st : Store) (g : IsSound st) (ks : List BoundKind) (ts : List Tree) (stand : AllStandFor ks ts)
    (small : EachTree (IsSmall st) ts) (body : Tree) (binds : AreBoundAs ks 0 body) where
  inst_in : IsTermIn st (bind ks body) → IsTermIn st (inst ts 0 body)
  unfolding IsTermIn InContext
  inst_in h = term_in st (inst ts 0 body)
      (inst_leaves (IsMadeLeaf st) ts (each_map (IsSmall st) (Leaves (IsMadeLeaf st)) (λ t s. s.is_in.0) ts small) 0
      body h.0)
      (inst_stays ks ts stand (each_map (IsSmall st) (StaysWithin 0) (λ t s. s.is_in.1) ts small) 0 body binds h.1)
      (inst_leaves (IsNamable st.universe) ts
      (each_map (IsSmall st) (Leaves (IsNamable st.universe)) (λ t s. s.is_in.2) ts small) 0 body h.2)

  inst_weight : weight st (inst ts 0 body) ≡ weight st body
  unfolding weight IsOne
  inst_weight =
      ap size (apply-inst (resolved st) ts 0 body
      (occurring_stay (resolved st) body (λ k n o. resolved_within st g k n))
      ∙ ap (λ xs. inst xs 0 (apply (resolved st) body)) (own_map st ts small))
      ∙ inst_size ts (each_map (IsSmall st) IsOne (λ t s. s.one) ts small) 0 (apply (resolved st) body)

-- Placeholders are such.
placeholders_small : (st : Store) (ks : List BoundKind) (ps : List Tree) → ArePlaceholders st.universe ks ps →
    EachTree (IsSmall st) ps
unfolding IsTermIn InContext
placeholders_small st [] [] h = tt
placeholders_small st [] (p ∷ ps) h = absurd h
placeholders_small st (k ∷ ks) [] h = absurd h
placeholders_small st (k ∷ ks) (p ∷ ps) h =
    (subst (IsSmall st) (sym h.0.1) (small h.0.0), placeholders_small st ks ps h.2)
  where
    small : (n : ℕ) → IsSmall st (leaf (placeholder k st.universe n))
    small n = record { is_in = (tt, tt, omega arith); own = refl; one = refl }

-- So are variables of which nothing is recorded.
variables_small : (before st : Store) (u : ℕ) (ks : List BoundKind) (xs : List Tree) →
    AreNewVariables before st u ks xs →
    ((k : VarKind) (n : ℕ) → (IsMade before k n → ⊥) → bound_term st k n ≡ None) → EachTree (IsSmall st) xs
variables_small before st u [] [] h free = tt
variables_small before st u [] (x ∷ xs) h free = absurd h
variables_small before st u (k ∷ ks) [] h free = absurd h
variables_small before st u (k ∷ ks) (x ∷ xs) h free = (
  subst (IsSmall st) (sym h.0.2) (small h.0.0 h.0.1 h.0.5 (free h.0.0 h.0.1 h.0.4)),
  variables_small before st u ks xs h.2 free,
)
  where
    small : (v : VarKind) (n : ℕ) → IsMade st v n → bound_term st v n ≡ None → IsSmall st (leaf (variable v n))
    small v n made none = record { is_in = term_of_made st v n made; own = resolved_free st v n none; one = refl }

pub entered_body_is_in : EnteredBodyIsIn
unfolding IsTermIn InContext weight
entered_body_is_in before after ks body opened f g h b = go f.opens
  where
    sound : IsSound after
    sound = (nothing_is_seen before after f.changes_nothing).0 g

    same_terms : (k : VarKind) (n : ℕ) → bound_term before k n ≡ bound_term after k n
    same_terms k n = ap (λ es. entry_term k (get_or es n unbound)) (sym (f.changes_nothing.same_entries k))

    same_weight : weight after body ≡ weight before body
    same_weight = ap size (apply_alike (resolved after) (resolved before) body (λ k n. sym
        (resolved_same before after same_terms
        (sym (all_alike counts_term before after f.changes_nothing.same_entries)) k n)))

    later : (t : Tree) → IsTermIn before t → IsTermIn after t
    later t i =
        later_term before after (λ k n m. subst (λ es. n < length es) (sym (f.changes_nothing.same_entries k)) m)
        f.changes_nothing.universe_stands t i

    left : IsTermIn before (bind ks body) → StaysWithin 0 body → IsTermIn before body
    left i w = (i.0, w, i.2)

    go : LeavesBody before after body opened ⊎ ((StaysWithin 0 body → ⊥) × EntersUniverse before after ks body opened) →
        IsTermIn after opened × (weight after opened ≡ weight before body)
    go (inl p) = (
      subst (IsTermIn after) (sym p.body_is) (later body (left h p.unused)),
      ap (weight after) p.body_is ∙ same_weight,
    )
    go (inr p) =
        let e = p.1 in
        let stand = placeholders_stand after.universe ks e.placeholders e.are_placeholders in
        let small = placeholders_small after ks e.placeholders e.are_placeholders in (
          subst (IsTermIn after) (sym e.body_is)
              (inst_in after sound ks e.placeholders stand small body b (later (bind ks body) h)),
          ap (weight after) e.body_is ∙ inst_weight after sound ks e.placeholders stand small body b ∙ same_weight,
        )

pub instantiated_body_is_in : InstantiatedBodyIsIn
instantiated_body_is_in before after ks body opened f g h b =
    let a = adds g (omega arith) (each_unbound f.makes) in
    let new = each_new f.makes (omega arith) g in
    let stand = variables_stand f.makes in
    let small = variables_small before after before.universe ks f.variables new
    (λ k n o. sym (a.terms k n) ∙ none k n o) in
    let same = a.universe in (
      subst (IsTermIn after) (sym f.body_is) (inst_in after a.sound ks f.variables stand small body b
          (later_term before after (a.later).grows (omega (arith, same)) (bind ks body) h)),
      ap (weight after) f.body_is ∙ inst_weight after a.sound ks f.variables stand small body b ∙ sym (a.weights body),
    )
  where
    none : (k : VarKind) (n : ℕ) → (IsMade before k n → ⊥) → bound_term before k n ≡ None
    none k n o = ap (entry_term k) (get_or_past (before.entries k) n unbound (omega (arith, o)))

-- A tree without bound variables, and so one that has no binder either.
record HasNoBound (t : Tree) : Type 0 where
  bound_as : (ks : List BoundKind) (d : ℕ) → AreBoundAs ks d t
  by_lists : IsWellBound t

inst_bound : (ts : List Tree) → EachTree HasNoBound ts → (ks : List BoundKind) (d e : ℕ) (t : Tree) → AreBoundAs ks d t →
    AreBoundAs ks d (inst ts e t)
inst_bound ts h ks d e (leaf l) f =
    put_leaf (AreBoundAs ks d) ts (each_map HasNoBound (AreBoundAs ks d) (λ t s. s.bound_as ks d) ts h) e l f
inst_bound ts h ks d e (node a t) f = inst_bound ts h ks d e t f
inst_bound ts h ks d e (bind ls t) f = inst_bound ts h ks (suc d) (suc e) t f
inst_bound ts h ks d e nil f = tt
inst_bound ts h ks d e (cons t u) f = (inst_bound ts h ks d e t f.0, inst_bound ts h ks d e u f.1)

inst_lists : (ts : List Tree) → EachTree HasNoBound ts → (e : ℕ) (t : Tree) → IsWellBound t → IsWellBound (inst ts e t)
inst_lists ts h e (leaf l) f =
    put_leaf IsWellBound ts (each_map HasNoBound IsWellBound (λ t s. s.by_lists) ts h) e l tt
inst_lists ts h e (node a t) f = inst_lists ts h e t f
inst_lists ts h e (bind ls t) f = (inst_bound ts h ls 0 (suc e) t f.0, inst_lists ts h (suc e) t f.1)
inst_lists ts h e nil f = tt
inst_lists ts h e (cons t u) f = (inst_lists ts h e t f.0, inst_lists ts h e u f.1)

placeholders_unbound : (u : ℕ) (ks : List BoundKind) (ps : List Tree) → ArePlaceholders u ks ps → EachTree HasNoBound ps
placeholders_unbound u [] [] h = tt
placeholders_unbound u [] (p ∷ ps) h = absurd h
placeholders_unbound u (k ∷ ks) [] h = absurd h
placeholders_unbound u (k ∷ ks) (p ∷ ps) h =
    (subst HasNoBound (sym h.0.1) (record { bound_as = λ ls d. tt; by_lists = tt }), placeholders_unbound u ks ps h.2)

unbound_more : (t : Tree) (ts : List Tree) → EachTree HasNoBound ts → HasNoBound t → EachTree HasNoBound (ts ++ t ∷ [])
unbound_more t [] h s = (s, tt)
unbound_more t (x ∷ ts) h s = (h.0, unbound_more t ts h.1 s)

variables_unbound : {u : ℕ} {before after : Store} {ks : List BoundKind} {xs : List Tree} →
    MakesEach u before ks xs after → EachTree HasNoBound xs
variables_unbound (makes_none p q) = subst (EachTree HasNoBound) (sym q) tt
variables_unbound (makes_next {xs = xs} {n = n} k f q p e) = subst (EachTree HasNoBound) (sym e)
    (unbound_more _ xs (variables_unbound f) (record { bound_as = λ ls d. tt; by_lists = tt }))

pub entered_body_binds : EnteredBodyBinds
entered_body_binds before after ks body opened f b = go f.opens
  where
    go : LeavesBody before after body opened ⊎ ((StaysWithin 0 body → ⊥) × EntersUniverse before after ks body opened) →
        IsWellBound opened
    go (inl p) = subst IsWellBound (sym p.body_is) b
    go (inr p) =
        let e = p.1 in
        subst IsWellBound (sym e.body_is) (inst_lists e.placeholders
        (placeholders_unbound after.universe ks e.placeholders e.are_placeholders) 0 body b)

pub instantiated_body_binds : InstantiatedBodyBinds
instantiated_body_binds before after ks body opened f b =
    subst IsWellBound (sym f.body_is) (inst_lists f.variables (variables_unbound f.makes) 0 body b)
