-- A visit of a visitor that keeps what it is asked about, as one of trees.
use Rattle.std.proofs.Common.{◌≡◌, ℕ, Bool, true, false, IsTrue, List, [], ◌∷◌, ◌++◌, map, length, cond, ◌==◌, refl, sym, ap, ap₂, ◌∙◌, subst, subst₂}
use Rattle.std.proofs.lemmas.Bool.{and_parts}
use Rattle.std.proofs.lemmas.List.{map-append, length-map}
use Rattle.relation_terms.specs.Trees.{Tree, leaf, node, bind, nil, cons, known, list_tree}
use Rattle.relation_terms.specs.Meaning.{Meaning, arg_tree}
use Rattle.relation_terms.specs.declared.terms.generic_arg.GenericArgKind.{GenericArgKind}
use Rattle.text_asking.specs.declared.visiting.Collects.{Collects}
use Rattle.text_asking.specs.Args.{same_arg}
use Rattle.text_asking.specs.Meets.{answer_to, Meets, AllKnown, Asks}
use Rattle.text_terms.proofs.BuildingLemmas.{both_true}
use Rattle.text_asking.proofs.PutLemmas.{Compares, answer_means}
use Rattle.relation_folds.specs.declared.visit.Visit.{Visit}
use Rattle.relation_folds.specs.declared.visit.Visit.TheVariants.{Stop}
use Rattle.relation_terms.specs.Parts.{parts_of}
use Rattle.relation_terms.specs.Orders.{in_order, order_of}
use Rattle.relation_folds.specs.Visits.{Flow, Walks, deeper, entered, skipped, stopped}
use Rattle.relation_folds.specs.Visits.{passed_leaf, passed, in_binder, no_part, last_part, next_part}

-- One visitor goes as another, seen by a map, where it does so at each term: what holds before a term holds behind it,
-- and what is wanted holds before where it holds behind.
module _ {V W : Type 0} (f : V → W) (A : V → ℕ → Tree → V → Visit → Type 0) (B : W → ℕ → Tree → W → Visit → Type 0)
    (P K : V → Type 0)
    (step : (v w : V) (d : ℕ) (t : Tree) (a : Visit) → A v d t w a → P v → P w × (K w → K v × B (f v) d t (f w) a)) where
  pub walks_as : (d : ℕ) (v w : V) (t : Tree) (r : Flow) → Walks A d v t w r → P v →
      P w × (K w → K v × Walks B d (f v) t (f w) r)
  walks_as d v x t r (entered {w = w} i e o) p =
      let one = step v w d t _ e p in
      let more = walks_as d w x (parts_of t) r o one.0 in
      (more.0, λ k. let q = more.1 k in let s = one.1 q.0 in (s.0, entered i s.1 q.1))
  walks_as d v w t r (skipped i e) p =
      let one = step v w d t _ e p in (one.0, λ k. let s = one.1 k in (s.0, skipped i s.1))
  walks_as d v w t r (stopped i e) p =
      let one = step v w d t _ e p in (one.0, λ k. let s = one.1 k in (s.0, stopped i s.1))
  walks_as d v w (leaf l) r (passed_leaf i) p = (p, λ k. (k, passed_leaf i))
  walks_as d v w (node h ts) r (passed i o) p =
      let more = walks_as d v w (in_order (order_of (node h ts)) ts) r o p in
      (more.0, λ k. let q = more.1 k in (q.0, passed i q.1))
  walks_as d v w (bind ks t) r (in_binder o) p =
      let more = walks_as (deeper d) v w t r o p in (more.0, λ k. let q = more.1 k in (q.0, in_binder q.1))
  walks_as d v w nil r no_part p = (p, λ k. (k, no_part))
  walks_as d v w (cons t ts) r (last_part o) p =
      let more = walks_as d v w t _ o p in (more.0, λ k. let q = more.1 k in (q.0, last_part q.1))
  walks_as d v x (cons t ts) r (next_part {w = w} o n) p =
      let one = walks_as d v w t _ o p in
      let more = walks_as d w x ts r n one.0 in
      (more.0, λ k. let q = more.1 k in let s = one.1 q.0 in (s.0, next_part s.1 q.1))

-- All are known where one more is.
known_more : {A : Type 0} (f : A → Tree) (xs : List A) (x : A) → IsTrue (known (f x)) → IsTrue (known (list_tree f xs)) →
    IsTrue (known (list_tree f (xs ++ x ∷ [])))
known_more f [] x k h = both_true (known (f x)) true k refl
known_more f (y ∷ ys) x k h =
    let p = and_parts (known (f y)) (known (list_tree f ys)) h in
    both_true (known (f y)) (known (list_tree f (ys ++ x ∷ []))) p.0 (known_more f ys x k p.1)

-- What a visitor keeps that was asked about a term.
module _ {Key Id Name : Type 0} (m : Meaning Key Id Name) (eq : Key → Key → Bool) (c : Compares m eq)
    (v w : Collects Key) (x : GenericArgKind Key) (k : IsTrue (known (arg_tree m x))) (d : ℕ) (a : Visit) where
  pub asks : w.skip ≡ v.skip → w.stop ≡ v.stop → (w.refused ≡ false → v.refused ≡ false) →
      (w.refused ≡ false → w.terms.items ≡ v.terms.items ++ x ∷ []) →
      (w.refused ≡ false → a ≡ answer_to (same_arg eq) v.skip.now v.stop.now (length w.terms.items) x) →
      Asks m v d (arg_tree m x) w a
  asks skip stop kept met answer = (
    skip,
    stop,
    λ r. (kept r, λ h. subst (AllKnown m) (sym (met r)) (known_more (arg_tree m) v.terms.items x k h)),
    λ h i r. (
      ap (map (arg_tree m)) (met r) ∙ map-append (arg_tree m) v.terms.items (x ∷ []),
      answer r
          ∙ ap₂ (λ n y. cond (n == 349526) Stop y) (sym (length-map w.terms.items (arg_tree m)))
          (answer_means m eq c x k v.skip.now v.stop.now h i),
    ),
  )

-- A whole visit.
module _ {Key Id Name : Type 0} (m : Meaning Key Id Name) (v w : Collects Key) (t : Tree) (r : Flow)
    (walk : Walks (Asks m) 0 v t w r) (skip : AllKnown m v.skip.now) (stop : AllKnown m v.stop.now)
    (none : v.terms.items ≡ []) where
  Holds : Collects Key → Type 0
  Holds u = (u.skip ≡ v.skip) × (u.stop ≡ v.stop) × (u.refused ≡ false → AllKnown m u.terms.items)

  Going : Collects Key → Type 0
  Going u = u.refused ≡ false

  trees : Collects Key → List Tree
  trees u = map (arg_tree m) u.terms.items

  step : (u y : Collects Key) (d : ℕ) (s : Tree) (a : Visit) → Asks m u d s y a → Holds u →
      Holds y × (Going y → Going u × Meets (map (arg_tree m) v.skip.now) (map (arg_tree m) v.stop.now) (trees u) d s (trees y) a)
  unfolding Holds Going trees
  step u y d s a h p = (
    (h.0 ∙ p.0, h.1 ∙ p.1, λ q. let k = h.2 q in k.1 (p.2 k.0)),
    λ q. (
      (h.2 q).0,
      subst₂ (λ x z. Meets (map (arg_tree m) x.now) (map (arg_tree m) z.now) (map (arg_tree m) u.terms.items) d s
          (map (arg_tree m) y.terms.items) a) p.0 p.1
          (h.3 (subst (λ x. AllKnown m x.now) (sym p.0) skip) (subst (λ x. AllKnown m x.now) (sym p.1) stop) q),
    ),
  )

  pub visited : w.refused ≡ false → AllKnown m w.terms.items ×
      Walks (Meets (map (arg_tree m) v.skip.now) (map (arg_tree m) v.stop.now)) 0 [] t (map (arg_tree m) w.terms.items) r
  unfolding Holds Going trees
  visited q =
      let start : AllKnown m v.terms.items = subst (AllKnown m) (sym none) refl in
      let both = walks_as trees (Asks m) (Meets (map (arg_tree m) v.skip.now) (map (arg_tree m) v.stop.now)) Holds Going
      step 0 v w t r walk (refl, refl, λ z. start) in (
        both.0.2 q,
        subst (λ ts. Walks (Meets (map (arg_tree m) v.skip.now) (map (arg_tree m) v.stop.now)) 0 ts t
            (map (arg_tree m) w.terms.items) r) (ap (map (arg_tree m)) none) (both.1 q).1,
      )
