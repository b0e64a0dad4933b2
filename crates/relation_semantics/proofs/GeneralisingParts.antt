-- Generalising a form or a binder part by part.
use Rattle.std.proofs.Common.{◌≡◌, ℕ, zero, suc, ◌+◌, ◌≤◌, refl, sym, ap, ◌∙◌, arith, subst, List}
use Rattle.term_enums.specs.declared.Variance.{Variance}
use Rattle.relation_terms.specs.Heads.{VarKind, BoundKind, Head}
use Rattle.relation_terms.specs.Trees.{Tree, leaf, node, bind, nil, cons, IsList, count, nth}
use Rattle.relation_terms.specs.Parts.{parts_of, over}
use Rattle.relation_semantics.specs.Relation.{Items, part_at}
use Rattle.relation_semantics.specs.Stores.{Store}
use Rattle.term_enums.specs.declared.StructurallyRelateAliases.{StructurallyRelateAliases}
use Rattle.relation_semantics.specs.Generalising.{Stage, Side, side_in, GoesInto, any_part, new_part, parts_from, variance_of_part, Generalised, by_parts, in_binder, no_parts, next_part}
use Rattle.relation_semantics.proofs.Lists.{firsts, snoc, firsts_more, firsts_all}

-- The parts of a list from a place on, and then the next.
pub parts_next_one : {al : StructurallyRelateAliases} {c : Items} {start : Store} {k : VarKind} {n : ℕ} {h : Head} {i j : ℕ} {sd : Side} {v : Variance} {r q p : Stage} {ts us t x : Tree} → Generalised al c start k n (parts_from sd h i v) r ts q us → j ≡ i + count ts → Generalised al c start k n (any_part sd (part_at c h j v)) q t p x → Generalised al c start k n (parts_from sd h i v) r (snoc ts t) p (snoc us x)
parts_next_one {al = al} {c = c} {start = start} {k = k} {n = n} {h = h} {i = i} {j = j} {sd = sd} {v = v} {p = p} {t = t} {x = x} (no_parts {r = r}) e f = let d : j ≡ i = omega (arith, e) in next_part (subst (λ z. Generalised al c start k n (any_part sd (part_at c h z v)) r t p x) d f) no_parts
parts_next_one (next_part g s) e f = next_part g (parts_next_one s (omega (arith, e)) f)

-- The first so many parts of a term were generalised, each after those before it.
pub data PartsDone (al : StructurallyRelateAliases) (c : Items) (start : Store) (k : VarKind) (n : ℕ) (sd : Side) (t : Tree) (v : Variance) (r : Stage) : ℕ → Stage → Tree → Type 0 where
  none_done : PartsDone al c start k n sd t v r 0 r nil
  one_done : {i : ℕ} {q p : Stage} {us x : Tree} → PartsDone al c start k n sd t v r i q us →
      Generalised al c start k n (any_part sd (variance_of_part c t i v)) q (nth i (parts_of t)) p x → PartsDone al c start k n sd t v r (suc i) p (snoc us x)

pub count_firsts : (i : ℕ) (ts : Tree) → i ≤ count ts → count (firsts i ts) ≡ i
count_firsts zero ts h = refl
count_firsts (suc i) (cons t ts) h = ap suc (count_firsts i ts (omega (arith, h)))
count_firsts (suc i) (leaf l) h = absurd (omega (arith, h))
count_firsts (suc i) (node g ts) h = absurd (omega (arith, h))
count_firsts (suc i) (bind ks t) h = absurd (omega (arith, h))
count_firsts (suc i) nil h = absurd (omega (arith, h))

first_parts : {al : StructurallyRelateAliases} {c : Items} {start : Store} {k : VarKind} {n : ℕ} {sd : Side} {h : Head} {ts : Tree} {v : Variance} {r : Stage} {i : ℕ} {q : Stage} {us : Tree} → PartsDone al c start k n sd (node h ts) v r i q us → i ≤ count ts → Generalised al c start k n (parts_from sd h 0 v) r (firsts i ts) q us
first_parts none_done l = no_parts
first_parts {al = al} {c = c} {start = start} {k = k} {n = n} {sd = sd} {h = h} {ts = ts} {v = v} {r = r} (one_done {i = i} {p = p} {us = us} {x = x} d f) l =
    subst (λ z. Generalised al c start k n (parts_from sd h 0 v) r z p (snoc us x)) (sym (firsts_more i ts (omega (arith, l))))
    (parts_next_one (first_parts d (omega (arith, l))) (let e = count_firsts i ts (omega (arith, l)) in omega (arith, e)) f)

-- All parts of a form, or the body of a binder.
pub form_done : {al : StructurallyRelateAliases} {c : Items} {start : Store} {k : VarKind} {n : ℕ} {sd : Side} {h : Head} {ts : Tree} {v : Variance} {r q : Stage} {us : Tree} (i : ℕ) → GoesInto al start k n sd h ts → IsList ts → i ≡ count ts → PartsDone al c start k n (side_in al sd h) (node h ts) v r i q us → Generalised al c start k n (new_part sd v) r (node h ts) q (node h us)
form_done {al = al} {c = c} {start = start} {k = k} {n = n} {sd = sd} {h = h} {ts = ts} {v = v} {r = r} {q = q} {us = us} i p l e d =
    by_parts p (subst (λ z. Generalised al c start k n (parts_from (side_in al sd h) h 0 v) r z q us) (ap (λ j. firsts j ts) e ∙ firsts_all ts l) (first_parts d (omega (arith, e))))

pub body_done : {al : StructurallyRelateAliases} {c : Items} {start : Store} {k : VarKind} {n : ℕ} {sd : Side} {ks : List BoundKind} {t : Tree} {v : Variance} {r q : Stage} {us : Tree} → PartsDone al c start k n sd (bind ks t) v r 1 q us → Generalised al c start k n (new_part sd v) r (bind ks t) q (over (bind ks t) us)
body_done (one_done none_done f) = in_binder f
