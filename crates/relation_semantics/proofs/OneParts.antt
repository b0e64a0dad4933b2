-- Terms that are one have the same parts, and as many.
use Rattle.std.proofs.Common.{◌≡◌, ℕ, zero, suc, ◌<◌, refl, sym, ap, ◌∙◌, arith}
use Rattle.relation_terms.specs.Heads.{Sort, Admits, type_sort, Head, head_sort, alias, unevaluated, expression, value, value_type, value_branch, host_effect, subtype}
use Rattle.relation_terms.specs.Heads.{region_outlives, type_outlives, projection, const_has_type, well_formed, const_evaluatable, coerce, normalizes_to}
use Rattle.relation_terms.specs.Heads.{alias_relate, environment}
use Rattle.relation_terms.specs.Trees.{Tree, leaf, node, bind, nil, cons, Assign, apply, IsList, IsTerm, count, nth}
use Rattle.relation_semantics.specs.Relation.{IsRelatedHead, sort_of}
use Rattle.relation_semantics.specs.Stores.{Store}
use Rattle.relation_semantics.specs.Outcomes.{NoEqualTerms}
use Rattle.relation_semantics.specs.Errors.{AreOfOneForm, over_parts, over_aliases, one_leaf, parameters, AreOfOneConst, AreOfOneValue, values, expressions, over_arguments, const_parameters, one_value, as_many_branches, one_const_leaf}
use Rattle.relation_semantics.specs.Parts.{direct_parts, const_parts_of, branches_of}

-- Lists.
pub count_applied : (s : Assign) (ts : Tree) → IsList ts → count (apply s ts) ≡ count ts
count_applied s nil l = refl
count_applied s (cons t ts) l = ap suc (count_applied s ts l)
count_applied s (leaf x) l = absurd l
count_applied s (node h x) l = absurd l
count_applied s (bind ks x) l = absurd l

pub lists_apart : (st : Store) (h k : Head) (ts us a b : Tree) → a ≡ node h ts → b ≡ node k us → IsList ts → IsList us → (count ts ≡ count us → ⊥) → NoEqualTerms st a b
lists_apart st h k ts us a b p q l m differ = λ w s sat e. differ (sym (count_applied s ts l) ∙ ap count (inside s (sym (ap (apply s) p) ∙ e ∙ ap (apply s) q)) ∙ count_applied s us m)
  where
    inside : (s : Assign) → node h (apply s ts) ≡ node k (apply s us) → apply s ts ≡ apply s us
    inside s e = cc

pub nth_applied : (s : Assign) (ts : Tree) (i : ℕ) → i < count ts → nth i (apply s ts) ≡ apply s (nth i ts)
nth_applied s (cons t ts) zero h = refl
nth_applied s (cons t ts) (suc i) h = nth_applied s ts i (omega arith)
nth_applied s (leaf x) i h = absurd (omega arith)
nth_applied s (node a x) i h = absurd (omega arith)
nth_applied s (bind ks x) i h = absurd (omega arith)
nth_applied s nil i h = absurd (omega arith)

pub nths_same : (s : Assign) (ts us : Tree) (i : ℕ) → i < count ts → i < count us → apply s ts ≡ apply s us → apply s (nth i ts) ≡ apply s (nth i us)
nths_same s ts us i h k e = sym (nth_applied s ts i h) ∙ ap (nth i) e ∙ nth_applied s us i k

-- The forms of types are related by their parts.
pub related_head : (h : Head) → head_sort h ≡ type_sort → IsRelatedHead h
related_head (host_effect c) e = absurd (cc)
related_head (subtype x) e = absurd (cc)
related_head region_outlives e = absurd (cc)
related_head type_outlives e = absurd (cc)
related_head projection e = absurd (cc)
related_head const_has_type e = absurd (cc)
related_head well_formed e = absurd (cc)
related_head const_evaluatable e = absurd (cc)
related_head coerce e = absurd (cc)
related_head normalizes_to e = absurd (cc)
related_head (alias_relate d) e = absurd (cc)
related_head environment e = absurd (cc)
related_head h e = tt

-- Terms of one form that are one have the same parts.
pub parts_equal : (a b : Tree) → AreOfOneForm a b → (s : Assign) → apply s a ≡ apply s b → apply s (direct_parts a) ≡ apply s (direct_parts b)
parts_equal a b (over_parts {h} {ts} {us} d e n) s q =
    let z : apply s (node h ts) ≡ apply s (node h us) = sym (ap (apply s) d) ∙ q ∙ ap (apply s) e in
    let w : apply s ts ≡ apply s us = cc in
    ap (λ t. apply s (direct_parts t)) d ∙ w ∙ sym (ap (λ t. apply s (direct_parts t)) e)
parts_equal a b (over_aliases {k} {l} {d = i} {ts} {us} d e n) s q =
    let z : apply s (node (alias k i) ts) ≡ apply s (node (alias l i) us) = sym (ap (apply s) d) ∙ q ∙ ap (apply s) e in
    let w : apply s ts ≡ apply s us = cc in
    ap (λ t. apply s (direct_parts t)) d ∙ w ∙ sym (ap (λ t. apply s (direct_parts t)) e)
parts_equal a b (one_leaf d e) s q = ap (λ t. apply s (direct_parts t)) d ∙ sym (ap (λ t. apply s (direct_parts t)) e)
parts_equal a b (parameters d e p) s q = ap (λ t. apply s (direct_parts t)) d ∙ sym (ap (λ t. apply s (direct_parts t)) e)

pub const_parts_equal : (a b : Tree) → AreOfOneConst a b → (s : Assign) → apply s a ≡ apply s b → apply s (const_parts_of a) ≡ apply s (const_parts_of b)
const_parts_equal a b (values {t} {u} {v} {w} d e o) s q =
    let z : apply s (node value (cons (node value_type (cons t nil)) (cons v nil))) ≡ apply s (node value (cons (node value_type (cons u nil)) (cons w nil))) = sym (ap (apply s) d) ∙ q ∙ ap (apply s) e in
    let y : apply s v ≡ apply s w = cc in
    ap (λ t. apply s (const_parts_of t)) d ∙ branches_equal v w o y ∙ sym (ap (λ t. apply s (const_parts_of t)) e)
  where
    branches_equal : (v w : Tree) → AreOfOneValue v w → apply s v ≡ apply s w → apply s (branches_of v) ≡ apply s (branches_of w)
    branches_equal v w (one_value e) q = ap (λ t. apply s (branches_of t)) e
    branches_equal v w (as_many_branches {ts} {us} d e n) q =
        let z : apply s (node value_branch ts) ≡ apply s (node value_branch us) = sym (ap (apply s) d) ∙ q ∙ ap (apply s) e in
        let y : apply s ts ≡ apply s us = cc in
        ap (λ t. apply s (branches_of t)) d ∙ y ∙ sym (ap (λ t. apply s (branches_of t)) e)
const_parts_equal a b (expressions {k} {ts} {us} d e n) s q =
    let z : apply s (node (expression k) ts) ≡ apply s (node (expression k) us) = sym (ap (apply s) d) ∙ q ∙ ap (apply s) e in
    let y : apply s ts ≡ apply s us = cc in
    ap (λ t. apply s (const_parts_of t)) d ∙ y ∙ sym (ap (λ t. apply s (const_parts_of t)) e)
const_parts_equal a b (over_arguments {d = i} {ts} {us} d e n) s q =
    let z : apply s (node (unevaluated i) ts) ≡ apply s (node (unevaluated i) us) = sym (ap (apply s) d) ∙ q ∙ ap (apply s) e in
    let y : apply s ts ≡ apply s us = cc in
    ap (λ t. apply s (const_parts_of t)) d ∙ y ∙ sym (ap (λ t. apply s (const_parts_of t)) e)
const_parts_equal a b (one_const_leaf d e) s q = ap (λ t. apply s (const_parts_of t)) (d ∙ sym e)
const_parts_equal a b (const_parameters d e p) s q = ap (λ t. apply s (const_parts_of t)) d ∙ sym (ap (λ t. apply s (const_parts_of t)) e)

-- They have as many.
pub parts_counted : (a b : Tree) → AreOfOneForm a b → count (direct_parts a) ≡ count (direct_parts b)
parts_counted a b (over_parts d e n) = ap (λ t. count (direct_parts t)) d ∙ n ∙ sym (ap (λ t. count (direct_parts t)) e)
parts_counted a b (over_aliases d e n) = ap (λ t. count (direct_parts t)) d ∙ n ∙ sym (ap (λ t. count (direct_parts t)) e)
parts_counted a b (one_leaf d e) = ap (λ t. count (direct_parts t)) d ∙ sym (ap (λ t. count (direct_parts t)) e)
parts_counted a b (parameters d e p) = ap (λ t. count (direct_parts t)) d ∙ sym (ap (λ t. count (direct_parts t)) e)

pub const_parts_counted : (a b : Tree) → AreOfOneConst a b → count (const_parts_of a) ≡ count (const_parts_of b)
const_parts_counted a b (values d e (one_value o)) = ap (λ t. count (const_parts_of t)) d ∙ ap (λ t. count (branches_of t)) o ∙ sym (ap (λ t. count (const_parts_of t)) e)
const_parts_counted a b (values d e (as_many_branches p q n)) =
    ap (λ t. count (const_parts_of t)) d ∙ ap (λ t. count (branches_of t)) p ∙ n ∙ sym (ap (λ t. count (branches_of t)) q) ∙ sym (ap (λ t. count (const_parts_of t)) e)
const_parts_counted a b (expressions d e n) = ap (λ t. count (const_parts_of t)) d ∙ n ∙ sym (ap (λ t. count (const_parts_of t)) e)
const_parts_counted a b (over_arguments d e n) = ap (λ t. count (const_parts_of t)) d ∙ n ∙ sym (ap (λ t. count (const_parts_of t)) e)
const_parts_counted a b (one_const_leaf d e) = ap (λ t. count (const_parts_of t)) (d ∙ sym e)
const_parts_counted a b (const_parameters d e p) = ap (λ t. count (const_parts_of t)) d ∙ sym (ap (λ t. count (const_parts_of t)) e)

-- The sort of a term of a sort.
pub sort_is : (k : Sort) (t : Tree) → IsTerm k t → Admits k (sort_of t)
sort_is k (leaf l) h = h
sort_is k (node g ts) h = h.0
sort_is k t h = absurd h
