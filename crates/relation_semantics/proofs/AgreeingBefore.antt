-- What agrees by an earlier record: reading by a later one keeps it, and so does opening binders.
use Rattle.std.proofs.Common.{◌≡◌, ◌⊎◌, ℕ, zero, suc, ◌+◌, ◌<◌, ◌≤◌, refl, sym, ap, ◌∙◌, inl, inr, subst, subst₂, arith, List}
use Rattle.std.proofs.Common.{map}
use Rattle.term_enums.specs.declared.Variance.{Variance}
use Rattle.term_enums.specs.declared.Variance.TheVariants.{Bivariant}
use Rattle.relation_terms.specs.Heads.{region_sort, BoundKind, VarKind, alias, opaque_alias, Head}
use Rattle.relation_terms.specs.Heads.{variable, bound, placeholder, atom, unknown}
use Rattle.relation_terms.specs.Trees.{Tree, leaf, node, bind, nil, cons, apply, inst, count, nth, IsList, Leaves}
use Rattle.relation_semantics.specs.Relation.{Items, StaysWithin, at, parts, part_at, sort_of, IsAlias}
use Rattle.relation_semantics.specs.Stores.{Store, Entry, unbound, same_as, bound_to, entry_of, entry_term, MayStandFor}
use Rattle.relation_semantics.specs.Stores.{IsSound, resolved}
use Rattle.relation_semantics.specs.Steps.{IsLater, AreEquated}
use Rattle.relation_semantics.specs.Settings.{Settings}
use Rattle.relation_semantics.specs.Bound.{AreBoundAs}
use Rattle.relation_semantics.specs.Errors.{IsReadAs, itself, by_class, by_binding, StandFor, IsDeferred, IsOpaque}
use Rattle.relation_semantics.specs.Agreeing.{IsLeftOpen, Agree, AgreeIn}
use Rattle.relation_semantics.proofs.Agreeing.{agree_anything, agree_same, agree_open, deferred_open, agree_regions, agree_parts}
use Rattle.relation_semantics.proofs.Agreeing.{agree_root, agree_root_back, stands_sort, ComesTo, read_comes}
use Rattle.relation_semantics.proofs.Agreeing.{agree_before}
use Rattle.relation_semantics.proofs.Classes.{class_itself, class_back, class_next, class_through, stands_from, binding_later}
use Rattle.relation_semantics.proofs.Classes.{leads_nowhere}
use Rattle.relation_semantics.proofs.OneParts.{count_applied, nth_applied}
use Rattle.relation_semantics.proofs.Resolved.{resolved_free, resolved_meets}
use Rattle.relation_semantics.proofs.Standing.{itself_stands, stands_apply}
use Rattle.relation_semantics.proofs.StoreCalls.{resolved_stands, resolved_within}
use Rattle.relation_semantics.proofs.Trees.{StaysIn, apply-inst}
use Rattle.relation_semantics.proofs.AgreeingOpened.{agree_opened}

-- Two of one class that are made one with no other are one.
one_end : (st : Store) (k : VarKind) (n m : ℕ) → ((p : ℕ) → entry_of st k n ≡ same_as p → ⊥) →
    ((p : ℕ) → entry_of st k m ≡ same_as p → ⊥) → AreEquated st k n m → n ≡ m
one_end st k n m o u c = leads_nowhere st k n c.0 o c.1 ∙ sym (leads_nowhere st k m c.0 u c.2)

-- Where nothing escapes, nothing is bound further up.
within_bound : (ks : List BoundKind) (m d : ℕ) (t : Tree) → m ≤ d → StaysWithin m t → AreBoundAs ks d t
within_bound ks m d (leaf (bound k e i)) l h = λ same. absurd (omega (arith, l, h, same))
within_bound ks m d (leaf (variable k n)) l h = tt
within_bound ks m d (leaf (placeholder k u n)) l h = tt
within_bound ks m d (leaf (atom x)) l h = tt
within_bound ks m d (leaf unknown) l h = tt
within_bound ks m d (node a t) l h = within_bound ks m d t l h
within_bound ks m d (bind ls t) l h = within_bound ks (suc m) (suc d) t (omega (arith, l)) h
within_bound ks m d nil l h = tt
within_bound ks m d (cons t u) l h = (within_bound ks m d t l h.0, within_bound ks m d u l h.1)

alias_came : (st : Store) (t : Tree) → IsAlias t → IsAlias (apply (resolved st) t)
alias_came st (node h ts) o = o
alias_came st t o = absurd o

opaque_came : (st : Store) (t : Tree) → IsOpaque t → IsOpaque (apply (resolved st) t)
opaque_came st (node (alias opaque_alias d) ts) o = tt
opaque_came st t o = absurd o

open_came : (set : Settings) (st : Store) (a b : Tree) → IsLeftOpen set a b →
    IsLeftOpen set (apply (resolved st) a) (apply (resolved st) b)
open_came set st a b (inl (l, inl o)) = inl (l, inl (alias_came st a o))
open_came set st a b (inl (l, inr o)) = inl (l, inr (alias_came st b o))
open_came set st a b (inr (l, inl o)) = inr (l, inl (opaque_came st a o))
open_came set st a b (inr (l, inr o)) = inr (l, inr (opaque_came st b o))

-- What terms came to by an earlier record.
module _ (before : Store) (g : IsSound before) where
  pub came_sort : (t : Tree) → sort_of (apply (resolved before) t) ≡ sort_of t
  came_sort (leaf (variable k n)) = stands_sort k (resolved before k n) (resolved_stands before g k n)
  came_sort (leaf (bound k d i)) = refl
  came_sort (leaf (placeholder k u n)) = refl
  came_sort (leaf (atom x)) = refl
  came_sort (leaf unknown) = refl
  came_sort (node h ts) = refl
  came_sort (bind ks t) = refl
  came_sort nil = refl
  came_sort (cons t ts) = refl

  came_stands : (k : VarKind) (t : Tree) → MayStandFor k t → MayStandFor k (apply (resolved before) t)
  came_stands k t h = stands_apply (resolved before) k t (resolved_stands before g) h

  -- What a binder binds is bound in what its body came to.
  came_bound : (ks : List BoundKind) (d : ℕ) (t : Tree) → AreBoundAs ks d t → AreBoundAs ks d (apply (resolved before) t)
  came_bound ks d (leaf (variable k n)) h =
      within_bound ks 0 d (resolved before k n) (omega arith) (resolved_within before g k n)
  came_bound ks d (leaf (bound k e i)) h = h
  came_bound ks d (leaf (placeholder k u n)) h = tt
  came_bound ks d (leaf (atom x)) h = tt
  came_bound ks d (leaf unknown) h = tt
  came_bound ks d (node a t) h = came_bound ks d t h
  came_bound ks d (bind ls t) h = came_bound ks (suc d) t h
  came_bound ks d nil h = tt
  came_bound ks d (cons t u) h = (came_bound ks d t h.0, came_bound ks d u h.1)

  each_stays : (t : Tree) → Leaves (StaysIn (resolved before)) t
  each_stays (leaf (variable k n)) = resolved_within before g k n
  each_stays (leaf (bound k e i)) = tt
  each_stays (leaf (placeholder k u n)) = tt
  each_stays (leaf (atom x)) = tt
  each_stays (leaf unknown) = tt
  each_stays (node a t) = each_stays t
  each_stays (bind ls t) = each_stays t
  each_stays nil = tt
  each_stays (cons t u) = (each_stays t, each_stays u)

  module _ (set : Settings) (c : Items) (v : Variance) where
    -- Bodies agreed by it before their binders were opened, with what nothing was known of then.
    pub opened_agreed : (ks ls : List BoundKind) (xs ys : List Tree) (t u : Tree) → StandFor ks xs → StandFor ls ys →
        map (apply (resolved before)) xs ≡ xs → map (apply (resolved before)) ys ≡ ys → AreBoundAs ks 0 t →
        AreBoundAs ls 0 u → AgreeIn set c before (at v) (inst xs 0 t) (inst ys 0 u) → AgreeIn set c before (at v) t u
    opened_agreed ks ls xs ys t u h k left right p q f =
        agree_opened set c ks ls xs ys h k v 0 (apply (resolved before) t) (apply (resolved before) u)
        (came_bound ks 0 t p) (came_bound ls 0 u q)
        (subst₂ (Agree set c (at v))
        (apply-inst (resolved before) xs 0 t (each_stays t) ∙ ap (λ z. inst z 0 (apply (resolved before) t)) left)
        (apply-inst (resolved before) ys 0 u (each_stays u) ∙ ap (λ z. inst z 0 (apply (resolved before) u)) right) f)

    -- Two that are left to a goal agreed, regions did, and so did two at bivariance, and a term with itself.
    pub left_agreed : (a b : Tree) → IsDeferred set a b → sort_of a ≡ sort_of b → AgreeIn set c before (at v) a b
    left_agreed a b l s = agree_open set c v (apply (resolved before) a) (apply (resolved before) b)
        (open_came set before a b (deferred_open set a b l)) (came_sort a ∙ s ∙ sym (came_sort b))

    pub regions_agreed : (a b : Tree) → sort_of a ≡ region_sort → sort_of b ≡ region_sort → AgreeIn set c before (at v) a b
    regions_agreed a b p q = agree_regions set c v (apply (resolved before) a) (apply (resolved before) b)
        (came_sort a ∙ p) (came_sort b ∙ q)

pub anything_agreed : (set : Settings) (c : Items) (st : Store) (v : Variance) (a b : Tree) → v ≡ Bivariant →
    AgreeIn set c st (at v) a b
anything_agreed set c st v a b e = agree_anything set c v (apply (resolved st) a) (apply (resolved st) b) e

pub same_agreed : (set : Settings) (c : Items) (st : Store) (v : Variance) (a b : Tree) → a ≡ b →
    AgreeIn set c st (at v) a b
same_agreed set c st v a b e = agree_same set c v (apply (resolved st) a) (apply (resolved st) b) (ap (apply (resolved st)) e)

-- So did lists, if their parts did.
pub parts_agreed : (set : Settings) (c : Items) (st : Store) (h : Head) (v : Variance) (xs ys : Tree) → IsList xs →
    IsList ys → count xs ≡ count ys →
    ((j : ℕ) → j < count xs → AgreeIn set c st (at (part_at c h j v)) (nth j xs) (nth j ys)) →
    AgreeIn set c st (parts h 0 v) xs ys
parts_agreed set c st h v xs ys l m e f = agree_parts set c h 0 v (apply (resolved st) xs) (apply (resolved st) ys)
    (left ∙ e ∙ sym right)
    (λ j b. let n : j < count xs = omega (arith, b, left) in
    subst₂ (Agree set c (at (part_at c h (0 + j) v))) (sym (nth_applied (resolved st) xs j n))
    (sym (nth_applied (resolved st) ys j (omega (arith, n, e))))
    (subst (λ i. AgreeIn set c st (at (part_at c h i v)) (nth j xs) (nth j ys)) (omega arith) (f j n)))
  where
    left : count (apply (resolved st) xs) ≡ count xs
    left = count_applied (resolved st) xs l

    right : count (apply (resolved st) ys) ≡ count ys
    right = count_applied (resolved st) ys m

-- What no later record knows of either.
module _ (before after : Store) (g : IsSound before) (l : IsLater before after) where
  -- Of an unbound variable nothing was known.
  pub came_free : (k : VarKind) (n : ℕ) → entry_of after k n ≡ unbound →
      apply (resolved before) (leaf (variable k n)) ≡ leaf (variable k n)
  came_free k n free = go (entry_of before k n) refl
    where
      go : (x : Entry) → entry_of before k n ≡ x → apply (resolved before) (leaf (variable k n)) ≡ leaf (variable k n)
      go unbound e = resolved_free before k n (ap (entry_term k) e)
      go (same_as p) e = absurd (let s = stands_from before after l k n (same_as p) e in let z = s.1 in cc (z, free))
      go (bound_to t) e = absurd (let s = binding_later before after l k n t e in cc (s, free))

  module _ (set : Settings) (c : Items) (v : Variance) where
    -- An unbound variable agrees with what may stand for it.
    pub root_agreed : (k : VarKind) (n : ℕ) (a b : Tree) → entry_of after k n ≡ unbound → a ≡ leaf (variable k n) →
        MayStandFor k b → AgreeIn set c before (at v) a b
    root_agreed k n a b free e s = agree_root set c v k n (apply (resolved before) a) (apply (resolved before) b)
        (ap (apply (resolved before)) e ∙ came_free k n free) (came_stands before g k b s)

    pub root_agreed_back : (k : VarKind) (n : ℕ) (a b : Tree) → entry_of after k n ≡ unbound → b ≡ leaf (variable k n) →
        MayStandFor k a → AgreeIn set c before (at v) a b
    root_agreed_back k n a b free e s = agree_root_back set c v k n (apply (resolved before) a) (apply (resolved before) b)
        (ap (apply (resolved before)) e ∙ came_free k n free) (came_stands before g k a s)

-- What a later record reads.
module _ (before after : Store) (g : IsSound before) (h : IsSound after) (l : IsLater before after) where
  -- By the earlier one a variable came to another of its kind, or to what the end of its class is bound to.
  abbrev Ends : VarKind → ℕ → ℕ → Type 0
  Ends k n m = ((p : ℕ) × (apply (resolved before) (leaf (variable k n)) ≡ leaf (variable k p))) ⊎
      ((t : Tree) × (entry_of before k m ≡ bound_to t) ×
      (apply (resolved before) (leaf (variable k n)) ≡ apply (resolved before) t))

  before_end : (f n m : ℕ) (k : VarKind) → n < f → ((p : ℕ) → entry_of after k m ≡ same_as p → ⊥) → AreEquated after k n m →
      Ends k n m
  before_end zero n m k b o c = absurd (omega (arith, b))
  before_end (suc f) n m k b o c = go (λ p l d. before_end f p m k l o d) (entry_of before k n) refl
    where
      go : ((p : ℕ) → p < f → AreEquated after k p m → Ends k p m) → (x : Entry) → entry_of before k n ≡ x → Ends k n m
      go rest unbound e = inl (n, resolved_free before k n (ap (entry_term k) e))
      go rest (same_as p) e = on (rest p (let z = g.falls k n p e in omega (arith, b, z)) further)
        where
          moved : apply (resolved before) (leaf (variable k n)) ≡ apply (resolved before) (leaf (variable k p))
          moved = resolved_meets before g k n (leaf (variable k p)) (ap (entry_term k) e)

          further : AreEquated after k p m
          further =
              let s = stands_from before after l k n (same_as p) e in
              class_through after k p s.0 m s.2 (class_through after k s.0 n m
              (class_back after k n s.0 (class_next after k n s.0 s.1)) c)

          on : Ends k p m → Ends k n m
          on (inl w) = inl (w.0, moved ∙ w.1)
          on (inr t) = inr (t.0, t.1, moved ∙ t.2)
      go rest (bound_to t) e =
          let b = binding_later before after l k n t e in
          let same : n ≡ m = one_end after k n m (λ p d. cc (b, d)) o c in
          inr (t, ap (entry_of before k) (sym same) ∙ e, resolved_meets before g k n t (ap (entry_term k) e))

  abbrev CameTo : Tree → Tree → Type 0
  CameTo t x = ComesTo (apply (resolved before) t) (apply (resolved before) x)

  record CameAll (t x : Tree) : Type 0 where
    pub term : CameTo t x
    pub of_class : (k : VarKind) (n m : ℕ) → t ≡ leaf (variable k n) → AreEquated after k m n → CameTo (leaf (variable k m)) x

  -- What a variable was read as may stand for it, and so may what that came to.
  variable_stands : (k : VarKind) (n : ℕ) (x : Tree) → IsReadAs after (leaf (variable k n)) x →
      MayStandFor k (apply (resolved before) x)
  variable_stands k n x r = came_stands before g k x (go (read_comes after h (leaf (variable k n)) x r))
    where
      go : ComesTo (leaf (variable k n)) x → MayStandFor k x
      go (inl e) = subst (MayStandFor k) e (itself_stands k n)
      go (inr z) = let p = z.2 in let same : z.0 ≡ k = cc p in subst (λ j. MayStandFor j x) same z.3

  came_itself : (t x : Tree) → t ≡ x →
      ((k : VarKind) (n : ℕ) → x ≡ leaf (variable k n) → entry_of after k n ≡ unbound) → CameAll t x
  came_itself t x e free = record {
    term = inl (ap (apply (resolved before)) e);
    of_class = λ k n m is c.
        let u = free k n (sym e ∙ is) in
        end k n m u (subst (λ z. MayStandFor k (apply (resolved before) z)) (sym is ∙ e)
        (came_stands before g k (leaf (variable k n)) (itself_stands k n)))
        (before_end (suc m) m n k (omega arith) (λ p d. cc (u, d)) c);
  }
    where
      end : (k : VarKind) (n m : ℕ) → entry_of after k n ≡ unbound → MayStandFor k (apply (resolved before) x) → Ends k m n →
          CameTo (leaf (variable k m)) x
      end k n m u s (inl w) = inr (k, w.0, w.1, s)
      end k n m u s (inr z) = absurd (let b = binding_later before after l k n z.0 z.1 in cc (u, b))

  came_by_class : (t x : Tree) (j : VarKind) (i m : ℕ) → t ≡ leaf (variable j i) → AreEquated after j i m →
      CameAll (leaf (variable j m)) x → CameAll t x
  came_by_class t x j i m e c rest = record {
    term = subst (λ z. CameTo z x) (sym e) (rest.of_class j m i refl c);
    of_class = λ k n p is d.
        let a : j ≡ k = cc (e, is) in
        let b : i ≡ n = cc (e, is) in
        rest.of_class k m p (ap (λ z. leaf (variable z m)) a) (class_through after k p n m d
        (subst (λ z. AreEquated after z n m) a (subst (λ z. AreEquated after j z m) b c)));
  }

  came_by_binding : (t x u : Tree) (j : VarKind) (i : ℕ) → t ≡ leaf (variable j i) → entry_of after j i ≡ bound_to u →
      IsReadAs after u x → CameAll u x → CameAll t x
  came_by_binding t x u j i e b r rest = record {
    term = subst (λ z. CameTo z x) (sym e) (bound_end j i i b (class_itself after j i)
        (variable_stands j i x (by_binding j i refl b r)));
    of_class = λ k n p is d.
        let a : j ≡ k = cc (e, is) in
        let o : i ≡ n = cc (e, is) in
        let bound_there : entry_of after k n ≡ bound_to u = subst (λ z. entry_of after z n ≡ bound_to u) a
        (subst (λ z. entry_of after j z ≡ bound_to u) o b) in
        bound_end k n p bound_there d (variable_stands k n x (by_binding k n refl bound_there r));
  }
    where
      on : (s : Tree) → apply (resolved before) s ≡ apply (resolved before) u → CameTo u x → CameTo s x
      on s p (inl q) = inl (p ∙ q)
      on s p (inr z) = inr (z.0, z.1, p ∙ z.2, z.3)

      bound_end : (k : VarKind) (n m : ℕ) → entry_of after k n ≡ bound_to u → AreEquated after k m n →
          MayStandFor k (apply (resolved before) x) → CameTo (leaf (variable k m)) x
      bound_end k n m q c s = go (before_end (suc m) m n k (omega arith) (λ p d. cc (q, d)) c)
        where
          go : Ends k m n → CameTo (leaf (variable k m)) x
          go (inl w) = inr (k, w.0, w.1, s)
          go (inr z) =
              let d = binding_later before after l k n z.0 z.1 in
              let same : z.0 ≡ u = cc (q, d) in
              on (leaf (variable k m)) (z.2 ∙ ap (apply (resolved before)) same) rest.term

  came_all : (t x : Tree) → IsReadAs after t x →
      ((k : VarKind) (n : ℕ) → x ≡ leaf (variable k n) → entry_of after k n ≡ unbound) → CameAll t x
  came_all t x (itself e) free = came_itself t x e free
  came_all t x (by_class j i m e c r) free = came_by_class t x j i m e c (came_all (leaf (variable j m)) x r free)
  came_all t x (by_binding {u = u} j i e b r) free = came_by_binding t x u j i e b r (came_all u x r free)

  module _ (set : Settings) (c : Items) (v : Variance) where
    -- So what agrees by the earlier record as the later one reads it, agrees as it stands.
    pub read_agreed : (a b x y : Tree) → IsReadAs after a x → IsReadAs after b y →
        ((k : VarKind) (n : ℕ) → x ≡ leaf (variable k n) → entry_of after k n ≡ unbound) →
        ((k : VarKind) (n : ℕ) → y ≡ leaf (variable k n) → entry_of after k n ≡ unbound) →
        AgreeIn set c before (at v) x y → AgreeIn set c before (at v) a b
    read_agreed a b x y p q fx fy z = agree_before set c v (apply (resolved before) a) (apply (resolved before) b)
        (apply (resolved before) x) (apply (resolved before) y) (came_all a x p fx).term (came_all b y q fy).term z
