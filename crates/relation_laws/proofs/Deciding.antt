-- The relation of small terms, decided.
use Rattle.std.proofs.Common.{◌≡◌, ◌≢◌, ◌⊎◌, ◌↔◌, ℕ, zero, suc, ◌≤◌, min, max, refl, sym, ap, ◌∙◌, arith, inl, inr, subst, List, [], ◌∷◌, map, Some, Bool, true, false, Contains, length, get_or}
use Rattle.term_enums.specs.declared.Variance.{Variance}
use Rattle.term_enums.specs.declared.Variance.TheVariants.{Invariant, Bivariant}
use native.Mathlib.Decide.{dec_le}
use Rattle.term_enums.specs.declared.Mutability.{Mutability}
use Rattle.term_enums.specs.Variances.{xform}
use Rattle.relation_terms.specs.Heads.{Sort, region_sort, type_sort, const_sort, value_sort, value_type_sort, pattern_sort, leaf_sort, head_sort, region_kind, type_kind, const_kind, bound_kind, bool_type, char_type, str_type, never_type, type_error, int_type, uint_type, float_type, foreign, type_param, static_region, early_region, const_error, const_param, value_leaf, not_null_pattern, Head, adt, fn_def, closure, coroutine_closure, coroutine, coroutine_witness, array, slice, pattern_type, tuple, raw_ptr, ref, value, value_type, value_branch, expression, range_pattern, or_pattern, Leaf, variable, bound, placeholder, atom, unknown}
use Rattle.relation_terms.specs.Trees.{Tree, leaf, node, cons, IsList}
use Rattle.relation_semantics.specs.Relation.{Items, Interpretation, Outlives, all_outlive, given, itself, through, RegionRule, Rel, at, parts, same, anything, error_left, error_right, regions, alias_types, equal_consts, atoms, forms, next_part, reference_variance, IsError, IsAliasHead, IsRelatedHead, plain, part_at}
use Rattle.relation_laws.specs.declared.decided.SmallLeaf.{SmallLeaf}
use Rattle.relation_laws.specs.declared.decided.SmallLeaf.TheVariants as small
use Rattle.relation_laws.specs.declared.decided.SmallHead.{SmallHead}
use Rattle.relation_laws.specs.declared.decided.SmallHead.TheVariants as form
use Rattle.relation_laws.specs.declared.decided.SmallSort.{SmallSort}
use Rattle.relation_laws.specs.declared.decided.SmallSort.TheVariants as sort
use Rattle.relation_laws.specs.declared.decided.SmallParts.{SmallParts, End, Next'}
use Rattle.relation_laws.specs.Decided.{Leads, plain_leaf, pair_of, outlives_by, leaf_of, head_of, sort_meant, all_declare, small_parts}
use Rattle.relation_semantics.specs.Errors.{outer_leaf}
use Rattle.context_relation.proofs.RegionTerms.{outer_related}
use Rattle.relation_semantics.proofs.Related.{rigid_rule, neither, neither_of, no_region_head, forms_inverted}
use Rattle.relation_terms.proofs.Paths.{leaf_path}

pub iff_through : {A B C : Type 0} → A ↔ B → B ↔ C → A ↔ C
iff_through p q = (λ a. q.0 (p.0 a), λ c. p.1 (q.1 c))

pub iff_both : {A B C D : Type 0} → A ↔ B → C ↔ D → (A × C) ↔ (B × D)
iff_both p q = (λ h. (p.0 h.0, q.0 h.1), λ h. (p.1 h.0, q.1 h.1))

pub iff_either : {A B C D : Type 0} → A ↔ B → C ↔ D → (A ⊎ C) ↔ (B ⊎ D)
iff_either {A = A} {B = B} {C = C} {D = D} p q = (to, from)
  where
    to : A ⊎ C → B ⊎ D
    to (inl a) = inl (p.0 a)
    to (inr c) = inr (q.0 c)

    from : B ⊎ D → A ⊎ C
    from (inl b) = inl (p.1 b)
    from (inr d) = inr (q.1 d)

pub iff_itself : {A : Type 0} → A ↔ A
iff_itself = (λ a. a, λ a. a)

-- What leads, outlives.
leads_itself : (ps : List (Tree × Tree)) (a : Tree) → Leads ps a a
leads_itself [] a = refl
leads_itself (p ∷ ps) a = inl (leads_itself ps a)

leads_through : (ps : List (Tree × Tree)) (a b c : Tree) → Leads ps a b → Leads ps b c → Leads ps a c
leads_through [] a b c p q = p ∙ q
leads_through (x ∷ ps) a b c (inl p) (inl q) = inl (leads_through ps a b c p q)
leads_through (x ∷ ps) a b c (inl p) (inr q) = inr (leads_through ps a b x.0 p q.0, q.1)
leads_through (x ∷ ps) a b c (inr p) (inl q) = inr (p.0, leads_through ps x.1 b c p.1 q)
leads_through (x ∷ ps) a b c (inr p) (inr q) = inr (p.0, q.1)

leads_given : (ps : List (Tree × Tree)) (a b : Tree) → Contains ps (a, b) → Leads ps a b
leads_given [] a b (k, l, q) = absurd (omega arith)
leads_given (x ∷ ps) a b (zero, l, q) = inr (subst (λ z. Leads ps a z.0) (sym q) (leads_itself ps a), subst (λ z. Leads ps z.1 b) (sym q) (leads_itself ps b))
leads_given (x ∷ ps) a b (suc k, l, q) = inl (leads_given ps a b (k, omega (arith, l), q))

leads_outlives : (w : Interpretation) (ps : List (Tree × Tree)) (a b : Tree) → ((x y : Tree) → Contains ps (x, y) → Outlives w x y) → Leads ps a b → Outlives w a b
leads_outlives w [] a b h l = itself l
leads_outlives w (x ∷ ps) a b h (inl l) = leads_outlives w ps a b (λ y z c. h y z (suc c.0, omega (arith, c.1), c.2)) l
leads_outlives w (x ∷ ps) a b h (inr l) = through (leads_outlives w ps a x.0 (λ y z c. h y z (suc c.0, omega (arith, c.1), c.2)) l.0)
    (through (h x.0 x.1 (0, omega arith, refl)) (leads_outlives w ps x.1 b (λ y z c. h y z (suc c.0, omega (arith, c.1), c.2)) l.1))

outlives_leads : {w : Interpretation} {ps : List (Tree × Tree)} {a b : Tree} → w.outlives ≡ Some ps → Outlives w a b → Leads ps a b
outlives_leads e (all_outlive p) = absurd cc
outlives_leads {ps = ps} {a = a} {b = b} e (given qs p c) = let q : qs ≡ ps = cc in leads_given ps a b (subst (λ z. Contains z (a, b)) q c)
outlives_leads {ps = ps} {a = a} e (itself p) = subst (Leads ps a) p (leads_itself ps a)
outlives_leads {ps = ps} e (through {a = a} {b = b} {c = c} p q) = leads_through ps a b c (outlives_leads e p) (outlives_leads e q)

-- All outlive each other, or the pairs lead there.
pub outlives_iff : (w : Interpretation) (all : Bool) (ps : List (SmallLeaf × SmallLeaf)) (a b : Tree) → w.outlives ≡ outlives_by all ps → ((all ≡ true) ⊎ Leads (map pair_of ps) a b) ↔ Outlives w a b
outlives_iff w true ps a b e = (λ h. all_outlive e, λ h. inl refl)
outlives_iff w false ps a b e = (to, λ h. inr (outlives_leads e h))
  where
    to : (false ≡ true) ⊎ Leads (map pair_of ps) a b → Outlives w a b
    to (inl p) = absurd cc
    to (inr l) = leads_outlives w (map pair_of ps) a b (λ x y c. given (map pair_of ps) e c) l

-- Left inverses say that forms of one meaning are one.
leaf_back : Leaf → SmallLeaf
leaf_back (atom bool_type) = small.Bool
leaf_back (atom char_type) = small.Char
leaf_back (atom str_type) = small.Str
leaf_back (atom never_type) = small.Never
leaf_back (atom type_error) = small.TypeError
leaf_back (atom (int_type w)) = small.Int w
leaf_back (atom (uint_type w)) = small.Uint w
leaf_back (atom (float_type w)) = small.Float w
leaf_back (atom (foreign d)) = small.Foreign d
leaf_back (atom (type_param i n)) = small.TypeParam i n
leaf_back (atom static_region) = small.Static
leaf_back (atom (early_region i n)) = small.EarlyRegion i n
leaf_back (atom const_error) = small.ConstError
leaf_back (atom (const_param i n)) = small.ConstParam i n
leaf_back (atom (value_leaf b n)) = small.ValueLeaf b n
leaf_back (atom not_null_pattern) = small.NotNull
leaf_back (placeholder (bound_kind type_kind z) u n) = small.TypePlaceholder u n
leaf_back (placeholder (bound_kind region_kind z) u n) = small.RegionPlaceholder u n
leaf_back (placeholder (bound_kind const_kind z) u n) = small.ConstPlaceholder u n
leaf_back l = small.Bool

leaf_back_of : (l : SmallLeaf) → leaf_back (leaf_of l) ≡ l
unfolding leaf_back
leaf_back_of small.Bool = refl
leaf_back_of l = refl

pub leaf_of_once : (a b : SmallLeaf) → leaf_of a ≡ leaf_of b → a ≡ b
leaf_of_once a b p = sym (leaf_back_of a) ∙ ap leaf_back p ∙ leaf_back_of b

head_back : Head → SmallHead
head_back (adt d) = form.Adt d
head_back (fn_def d) = form.FnDef d
head_back (closure d) = form.Closure d
head_back (coroutine_closure d) = form.CoroutineClosure d
head_back (coroutine d) = form.Coroutine d
head_back (coroutine_witness d) = form.CoroutineWitness d
head_back array = form.Array
head_back slice = form.Slice
head_back pattern_type = form.PatternType
head_back tuple = form.Tuple
head_back (raw_ptr m) = form.RawPtr m
head_back (ref m) = form.Ref m
head_back value = form.Value
head_back value_type = form.ValueType
head_back value_branch = form.ValueBranch
head_back (expression k) = form.Expression k
head_back range_pattern = form.RangePattern
head_back or_pattern = form.OrPattern
head_back h = form.Slice

head_back_of : (h : SmallHead) → head_back (head_of h) ≡ h
unfolding head_back
head_back_of form.Slice = refl
head_back_of h = refl

pub head_of_once : (a b : SmallHead) → head_of a ≡ head_of b → a ≡ b
head_of_once a b p = sym (head_back_of a) ∙ ap head_back p ∙ head_back_of b

sort_back : Sort → SmallSort
sort_back region_sort = sort.Region
sort_back type_sort = sort.Type
sort_back const_sort = sort.Const
sort_back value_sort = sort.Value
sort_back value_type_sort = sort.ValueType
sort_back pattern_sort = sort.Pattern
sort_back s = sort.Type

sort_back_of : (s : SmallSort) → sort_back (sort_meant s) ≡ s
unfolding sort_back
sort_back_of sort.Type = refl
sort_back_of s = refl

pub sorts_iff : (a b : SmallSort) (s t : Sort) → sort_meant a ≡ s → sort_meant b ≡ t → (a ≡ b) ↔ (s ≡ t)
sorts_iff a b s t p q = (λ h. sym p ∙ ap sort_meant h ∙ q, λ h. sym (sort_back_of a) ∙ ap sort_back (p ∙ h ∙ sym q) ∙ sort_back_of b)

pub leaves_iff : (a b : SmallLeaf) (l m : Leaf) → leaf_of a ≡ l → leaf_of b ≡ m → (a ≡ b) ↔ (l ≡ m)
leaves_iff a b l m p q = (λ h. sym p ∙ ap leaf_of h ∙ q, λ h. leaf_of_once a b (p ∙ h ∙ sym q))

plain_is_outer : (l : Leaf) → plain_leaf l ≡ outer_leaf l
plain_is_outer (variable k n) = refl
plain_is_outer (bound k d i) = refl
plain_is_outer (placeholder k u n) = refl
plain_is_outer (atom x) = refl
plain_is_outer unknown = refl

-- Terms without parts.
abbrev LeafCases : Interpretation → Variance → Leaf → Leaf → Type 0
LeafCases w v x y = (plain_leaf x ≡ plain_leaf y) ⊎ (((leaf_sort x ≡ leaf_sort y) × (IsError (leaf x) ⊎ IsError (leaf y))) ⊎ (((leaf_sort x ≡ region_sort) × (leaf_sort y ≡ region_sort)) × RegionRule w v (leaf x) (leaf y)))

leaf_cases : {c : Items} {w : Interpretation} {e : Tree} {v : Variance} {x y : Leaf} → v ≢ Bivariant → Rel c w e (at v) (leaf x) (leaf y) → LeafCases w v x y
leaf_cases n (same p) = inl (ap plain_leaf (leaf_path p))
leaf_cases n (anything p) = absurd (n p)
leaf_cases n (error_left h p) = inr (inl (p, inl h))
leaf_cases n (error_right h p) = inr (inl (p, inr h))
leaf_cases n (regions p q r) = inr (inr ((p, q), r))
leaf_cases {w = w} {e = e} {v = v} {x = x} {y = y} n (alias_types _ _ r) = rigid_rule w e v (leaf x) (leaf y) n (λ h. h) (λ h. h) r
leaf_cases n (equal_consts _ _ r) = neither r.1
leaf_cases n (atoms p) = inl (ap atom p)

pub leaves_related_iff : (c : Items) (w : Interpretation) (e : Tree) (v : Variance) (x y : Leaf) → v ≢ Bivariant → LeafCases w v x y ↔ Rel c w e (at v) (leaf x) (leaf y)
leaves_related_iff c w e v x y n = (to, leaf_cases n)
  where
    error : leaf_sort x ≡ leaf_sort y → IsError (leaf x) ⊎ IsError (leaf y) → Rel c w e (at v) (leaf x) (leaf y)
    error p (inl h) = error_left h p
    error p (inr h) = error_right h p

    to : LeafCases w v x y → Rel c w e (at v) (leaf x) (leaf y)
    to (inl p) = outer_related c w e v x y (sym (plain_is_outer x) ∙ p ∙ plain_is_outer y)
    to (inr (inl p)) = error p.0 p.1
    to (inr (inr p)) = regions p.0.0 p.0.1 p.1

-- An error and a form.
form_error : {c : Items} {w : Interpretation} {e : Tree} {v : Variance} {l : Leaf} {h : Head} {ts : Tree} → v ≢ Bivariant → (IsAliasHead h → ⊥) → Rel c w e (at v) (leaf l) (node h ts) → IsError (leaf l) × (leaf_sort l ≡ head_sort h)
form_error n r (same p) = absurd cc
form_error n r (anything p) = absurd (n p)
form_error n r (error_left i p) = (i, p)
form_error n r (error_right j _) = absurd j
form_error {h = h} n r (regions _ p _) = absurd (no_region_head h p)
form_error {w = w} {e = e} {v = v} {l = l} {h = h} {ts = ts} n r (alias_types _ _ p) = rigid_rule w e v (leaf l) (node h ts) n (λ q. q) r p
form_error {l = l} {h = h} {ts = ts} n r (equal_consts _ _ p) = neither_of (leaf l) (node h ts) (λ q. q) r p.1

form_error_right : {c : Items} {w : Interpretation} {e : Tree} {v : Variance} {l : Leaf} {h : Head} {ts : Tree} → v ≢ Bivariant → (IsAliasHead h → ⊥) → Rel c w e (at v) (node h ts) (leaf l) → IsError (leaf l) × (leaf_sort l ≡ head_sort h)
form_error_right n r (same p) = absurd cc
form_error_right n r (anything p) = absurd (n p)
form_error_right n r (error_left j _) = absurd j
form_error_right n r (error_right i p) = (i, sym p)
form_error_right {h = h} n r (regions p _ _) = absurd (no_region_head h p)
form_error_right {w = w} {e = e} {v = v} {l = l} {h = h} {ts = ts} n r (alias_types _ _ p) = rigid_rule w e v (node h ts) (leaf l) n r (λ q. q) p
form_error_right {l = l} {h = h} {ts = ts} n r (equal_consts _ _ p) = neither_of (node h ts) (leaf l) r (λ q. q) p.1

-- What these forms are.
small_related : (h : SmallHead) → IsRelatedHead (head_of h)
small_related form.Slice = tt
small_related h = tt

small_rigid : (h : SmallHead) → IsAliasHead (head_of h) → ⊥
small_rigid form.Slice a = a
small_rigid h a = a

small_plain : (h : SmallHead) → plain (head_of h) ≡ head_of h
small_plain form.Slice = refl
small_plain h = refl

pub small_list : (ps : SmallParts) → IsList (small_parts ps)
small_list End = tt
small_list (Next' p t q ps) = small_list ps

pub error_left_iff : (c : Items) (w : Interpretation) (e : Tree) (v : Variance) (l : Leaf) (h : SmallHead) (ts : Tree) → v ≢ Bivariant → (IsError (leaf l) × (leaf_sort l ≡ head_sort (head_of h))) ↔ Rel c w e (at v) (leaf l) (node (head_of h) ts)
error_left_iff c w e v l h ts n = (λ p. error_left p.0 p.1, form_error n (small_rigid h))

pub error_right_iff : (c : Items) (w : Interpretation) (e : Tree) (v : Variance) (l : Leaf) (h : SmallHead) (ts : Tree) → v ≢ Bivariant → (IsError (leaf l) × (leaf_sort l ≡ head_sort (head_of h))) ↔ Rel c w e (at v) (node (head_of h) ts) (leaf l)
error_right_iff c w e v l h ts n = (λ p. error_right p.0 (sym p.1), form_error_right n (small_rigid h))

pub forms_iff : (c : Items) (w : Interpretation) (e : Tree) (v : Variance) (h k : SmallHead) (xs ys : Tree) → v ≢ Bivariant → IsList xs → ((h ≡ k) × Rel c w e (parts (head_of h) 0 v) xs ys) ↔ Rel c w e (at v) (node (head_of h) xs) (node (head_of k) ys)
forms_iff c w e v h k xs ys n l = (λ p. forms (small_related h) (ap (λ z. plain (head_of z)) p.0) p.1, λ r. let q = forms_inverted n (small_rigid h) (small_rigid k) l r in (head_of_once h k (sym (small_plain h) ∙ q.0 ∙ small_plain k), q.1))

parts_path : {c : Items} {w : Interpretation} {e : Tree} {h : Head} {i : ℕ} {v : Variance} {a b xs ys : Tree} → Rel c w e (parts h i v) (cons a xs) (cons b ys) → Rel c w e (at (part_at c h i v)) a b × Rel c w e (parts h (suc i) v) xs ys
parts_path (next_part r rs) = (r, rs)

pub parts_iff : (c : Items) (w : Interpretation) (e : Tree) (h : Head) (i : ℕ) (v : Variance) (a b xs ys : Tree) → (Rel c w e (at (part_at c h i v)) a b × Rel c w e (parts h (suc i) v) xs ys) ↔ Rel c w e (parts h i v) (cons a xs) (cons b ys)
parts_iff c w e h i v a b xs ys = (λ p. next_part p.0 p.1, parts_path)

-- Places past the last declared one are alike.
past : (ds : List Variance) (n : ℕ) → length ds ≤ n → get_or ds n Invariant ≡ Invariant
past [] n l = refl
past (d ∷ ds) zero l = absurd (omega arith)
past (d ∷ ds) (suc n) l = past ds n (omega arith)

declared_place : (ds : List Variance) (i j : ℕ) → i ≡ min j (max (length ds) 1) → get_or ds i Invariant ≡ get_or ds j Invariant
declared_place ds i j p = go (dec_le j (max (length ds) 1))
  where
    go : Dec (j ≤ max (length ds) 1) → get_or ds i Invariant ≡ get_or ds j Invariant
    go (yes l) = ap (λ n. get_or ds n Invariant) (omega (arith, p, l))
    go (no n) = past ds i (omega arith) ∙ sym (past ds j (omega arith))

reference_place : (m : Mutability) (i j k : ℕ) → i ≡ min j (max k 1) → reference_variance m i ≡ reference_variance m j
reference_place m zero zero k p = refl
reference_place m (suc i) (suc j) k p = refl
reference_place m zero (suc j) k p = absurd (omega (arith, p))
reference_place m (suc i) zero k p = absurd (omega (arith, p))

pub place : (ds : List Variance) (h : SmallHead) (i j : ℕ) (v : Variance) → i ≡ min j (max (length ds) 1) → part_at (all_declare ds) (head_of h) i v ≡ part_at (all_declare ds) (head_of h) j v
place ds (form.Adt d) i j v p = ap (xform v) (declared_place ds i j p)
place ds (form.FnDef d) i j v p = ap (xform v) (declared_place ds i j p)
place ds (form.Ref m) i j v p = ap (xform v) (reference_place m i j (length ds) p)
place ds h i j v p = refl
