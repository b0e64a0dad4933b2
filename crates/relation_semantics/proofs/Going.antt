-- States in a row, what is made and bound between them, and sizes and budgets over parts of the work.
use Rattle.std.proofs.Common.{ℕ, suc, zero, ◌+◌, ◌*◌, ◌≤◌, ◌<◌, ◌≡◌, refl, arith, ap, sym, ◌∙◌, subst, zero-add, le_trans, List, [], ◌∷◌, ◌++◌, append_assoc, get_or}
use Rattle.std.proofs.Math.Nat.{suc-add, mul-le-mul}
use Rattle.std.proofs.lemmas.List.{append-nil}
use Rattle.relation_terms.specs.Trees.{Tree, cons}
use Rattle.relation_semantics.specs.Stores.{Store, Entry, unbound, entry_of, weight, sum_over}
use Rattle.relation_semantics.specs.Steps.{IsLater}
use Rattle.relation_semantics.specs.Measures.{grown, Goes}
use Rattle.relation_semantics.proofs.Classes.{entry_kept, stands_through}

pub later_itself : (st : Store) → IsLater st st
later_itself st = record {
  grows = λ k n h. h;
  entries_stand = λ k n. entry_kept st k (entry_of st k n) (entry_of st k n) refl;
  constraints_stand = ([], sym (append-nil st.constraints));
  universes_fall = λ k n h. omega arith;
  universe_stands = omega arith;
  taint_stands = λ h. h;
  shrinks = λ w s h. h;
}

-- Where nothing was recorded, what is recorded is later.
pub later_same : (old new : Store) → new ≡ old → IsLater old new
later_same old new e = subst (IsLater old) (sym e) (later_itself old)

pub later_through : {r q p : Store} → IsLater r q → IsLater q p → IsLater r p
later_through {r} {q} {p} a b = record {
  grows = λ k n h. b.grows k n (a.grows k n h);
  entries_stand = λ k n. stands_through q p b k (entry_of r k n) (entry_of q k n) (entry_of p k n) (a.entries_stand k n) (b.entries_stand k n);
  constraints_stand = (
    a.constraints_stand.0 ++ b.constraints_stand.0,
    b.constraints_stand.1 ∙ ap (λ cs. cs ++ b.constraints_stand.0) a.constraints_stand.1 ∙ append_assoc r.constraints a.constraints_stand.0 b.constraints_stand.0,
  );
  universes_fall = λ k n h. le_trans (b.universes_fall k n (a.grows k n h)) (a.universes_fall k n h);
  universe_stands = le_trans a.universe_stands b.universe_stands;
  taint_stands = λ h. b.taint_stands (a.taint_stands h);
  shrinks = λ w s h. a.shrinks w s (b.shrinks w s h);
}

-- What is counted of entries does not fall in a later state, and rises where a variable was newly bound.
sum_over_below : (f : Entry → ℕ) → f unbound ≡ 0 → (es ds : List Entry) → ((m : ℕ) → f (get_or es m unbound) ≤ f (get_or ds m unbound)) → sum_over f es ≤ sum_over f ds
sum_over_below f z [] ds h = omega arith
sum_over_below f z (e ∷ es) [] h = let first : f e ≤ f unbound = h 0 in let rest : sum_over f es ≤ sum_over f [] = sum_over_below f z es [] (λ m. h (suc m)) in omega (arith, z, first, rest)
sum_over_below f z (e ∷ es) (d ∷ ds) h = let first : f e ≤ f d = h 0 in let rest = sum_over_below f z es ds (λ m. h (suc m)) in omega (arith, first, rest)

sum_over_less : (f : Entry → ℕ) → f unbound ≡ 0 → (es ds : List Entry) → ((m : ℕ) → f (get_or es m unbound) ≤ f (get_or ds m unbound)) → (n : ℕ) → f (get_or es n unbound) < f (get_or ds n unbound) → sum_over f es < sum_over f ds
sum_over_less f z [] [] h n l = absurd (omega (arith, l))
sum_over_less f z [] (d ∷ ds) h zero l = let first : f unbound < f d = l in omega (arith, first)
sum_over_less f z [] (d ∷ ds) h (suc n) l = let rest : sum_over f [] < sum_over f ds = sum_over_less f z [] ds (λ m. h (suc m)) n l in omega (arith, rest)
sum_over_less f z (e ∷ es) [] h zero l = let first : f e < f unbound = l in absurd (omega (arith, z, first))
sum_over_less f z (e ∷ es) [] h (suc n) l = let rest : sum_over f es < sum_over f [] = sum_over_less f z es [] (λ m. h (suc m)) n l in absurd (omega (arith, rest))
sum_over_less f z (e ∷ es) (d ∷ ds) h zero l = let first : f e < f d = l in let rest = sum_over_below f z es ds (λ m. h (suc m)) in omega (arith, first, rest)
sum_over_less f z (e ∷ es) (d ∷ ds) h (suc n) l = let first : f e ≤ f d = h 0 in let rest = sum_over_less f z es ds (λ m. h (suc m)) n l in omega (arith, first, rest)

le_refl_at : (n : ℕ) → n ≤ n
le_refl_at n = omega arith

one_le : (n : ℕ) → 1 ≤ suc n
one_le n = omega arith

pub le_square : (n : ℕ) → n ≤ n * n
le_square zero = omega arith
le_square (suc n) = let h : suc n * 1 ≤ suc n * suc n = mul-le-mul (le_refl_at (suc n)) (one_le n) in omega arith

pub grown-mono : (j m n : ℕ) → m ≤ n → grown j m ≤ grown j n
grown-mono zero m n h = h
grown-mono (suc j) m n h = grown-mono j (m * m) (n * n) (mul-le-mul h h)

pub le_grown : (j n : ℕ) → n ≤ grown j n
le_grown zero n = omega arith
le_grown (suc j) n = let h : n * n ≤ grown j (n * n) = le_grown j (n * n) in omega (arith, le_square n)

pub grown-add : (i j n : ℕ) → grown j (grown i n) ≡ grown (i + j) n
grown-add zero j n = rw zero-add
grown-add (suc i) j n = rw suc-add (grown-add i j (n * n))

-- A bound on the depth of relating a pair of size `n` with `k` instantiations left.
abbrev pub depth : ℕ → ℕ → ℕ
depth zero n = n
depth (suc k) n = suc (depth k (n * n))

pub depth-mono : (k m n : ℕ) → m ≤ n → depth k m ≤ depth k n
depth-mono zero m n h = h
depth-mono (suc k) m n h = let e : depth k (m * m) ≤ depth k (n * n) = depth-mono k (m * m) (n * n) (mul-le-mul h h) in omega arith

lt_square : (m n : ℕ) → m < n → m * m < n * n
lt_square m n h = let e : suc m * suc m ≤ n * n = mul-le-mul h h in let d : suc m * suc m ≡ m * m + m + m + 1 = grind arith in omega arith

pub depth-strict : (k m n : ℕ) → m < n → depth k m < depth k n
depth-strict zero m n h = h
depth-strict (suc k) m n h = let e : depth k (m * m) < depth k (n * n) = depth-strict k (m * m) (n * n) (lt_square m n h) in omega arith

-- With j instantiations gone and the size grown so far, the depth is less by j.
pub depth-spent : (j k m n : ℕ) → m ≤ grown j n → depth k m + j ≤ depth (j + k) n
depth-spent zero k m n h = rw zero-add let e : depth k m ≤ depth k n = depth-mono k m n h in omega arith
depth-spent (suc j) k m n h = rw suc-add let e : depth k m + j ≤ depth (j + k) (n * n) = depth-spent j k m (n * n) h in omega arith

pub under : (k m n : ℕ) → m < n → 4 * depth k m + 3 < 4 * depth k n + 1
under k m n h = let d : depth k m < depth k n = depth-strict k m n h in omega arith

pub goes_nowhere : (n : ℕ) (r : Store) → Goes n r r
goes_nowhere n r = record { later = later_itself r; made = λ k h. refl; spent = 0; counts = omega arith; binds = omega arith; grows = λ m t above below. below }

pub goes_within : {n m : ℕ} {r q : Store} → n ≤ m → Goes n r q → Goes m r q
goes_within {n} {m} h g = record { later = g.later; made = g.made; spent = g.spent; counts = g.counts; binds = g.binds; grows = λ k t above below. g.grows k t (omega arith) below }

pub goes_then : {n m : ℕ} {r q p : Store} → (g : Goes n r q) → Goes m q p → m ≤ grown g.spent n → Goes n r p
goes_then {n} {m} {r} {q} {p} g f h = record {
  later = later_through g.later f.later;
  made = λ k h. f.made k h ∙ g.made k h;
  spent = g.spent + f.spent;
  counts = let e = g.counts in let d = f.counts in omega arith;
  binds = let e = g.binds in let d = f.binds in omega arith;
  grows = λ k t above below.
      let up : grown g.spent n ≤ grown g.spent k = grown-mono g.spent n k above in
      let last : weight p t ≤ grown f.spent (grown g.spent k) = f.grows (grown g.spent k) t (omega arith) (g.grows k t above below) in
      subst (λ z. weight p t ≤ z) (grown-add g.spent f.spent k) last;
}

pub weight_cons : (st : Store) (t u : Tree) → weight st (cons t u) ≡ weight st t + weight st u + 1
unfolding weight
weight_cons st t u = omega arith

-- The size of a pair after a part of the work.
pub pair_grown : {n : ℕ} {r q : Store} → (g : Goes n r q) (m : ℕ) (t u : Tree) → n ≤ m → weight r t + weight r u < m → weight q t + weight q u ≤ grown g.spent m
pair_grown {n} {r} {q} g m t u above below =
    let e = weight_cons r t u in let d = weight_cons q t u in
    let h = g.grows m (cons t u) above (omega arith) in omega arith

pub depth_later : {n : ℕ} {r q : Store} → (g : Goes n r q) (m k : ℕ) → m ≤ grown g.spent k → depth q.budget m ≤ depth r.budget k
depth_later {n} {r} {q} g m k h = let e : depth q.budget m + g.spent ≤ depth (g.spent + q.budget) k = depth-spent g.spent q.budget m k h in let d = g.counts in rw g.counts (omega arith)

pub element_under : {n : ℕ} {r q : Store} (g : Goes n r q) (m N : ℕ) → m ≤ grown g.spent N → 4 * depth q.budget m + 2 < 4 * depth r.budget N + 3
element_under g m N h = let d = depth_later g m N h in omega arith

-- Two parts, after the parts before them.
pub part_under : {n : ℕ} {r q : Store} → (g : Goes n r q) (N : ℕ) (t u : Tree) → n < N → weight r t + weight r u < n →
    4 * depth q.budget (weight q t + weight q u) + 3 < 4 * depth r.budget N + 1
part_under {n} {r} {q} g N t u above below =
    let up : weight q t + weight q u ≤ grown g.spent n = pair_grown g n t u (omega (arith)) below in
    let d : depth q.budget (weight q t + weight q u) ≤ depth r.budget n = depth_later g _ n up in
    let e : depth r.budget n < depth r.budget N = depth-strict r.budget n N above in
    omega (arith, d, e)

-- A second pair, smaller by two, after a first part of the work.
pub second_under : {n : ℕ} {r q : Store} → (g : Goes n r q) (N : ℕ) (t u : Tree) → n + (weight r t + weight r u) + 1 < N → 4 * depth q.budget (weight q t + weight q u) + 3 < 4 * depth r.budget N + 1
second_under {n} {r} {q} g N t u below =
    let m = n + (weight r t + weight r u) + 1 in
    let up : weight q t + weight q u ≤ grown g.spent m = pair_grown g m t u (omega arith) (omega arith) in
    let d : depth q.budget (weight q t + weight q u) ≤ depth r.budget m = depth_later g _ m up in
    let e : depth r.budget m < depth r.budget N = depth-strict r.budget m N below in
    omega arith

pub goes_both : {n : ℕ} {r q p : Store} (N : ℕ) (t u : Tree) → n ≤ N → weight r t + weight r u < N → Goes n r q → Goes (weight q t + weight q u) q p → Goes N r p
unfolding goes_within
goes_both N t u first second g f = goes_then (goes_within first g) f (pair_grown g N t u first second)
