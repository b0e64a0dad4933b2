-- Clauses that a trait states, of arguments that differ in names and places of variables alone.
use Rattle.std.proofs.Common.{ℕ, suc, zero, ◌+◌, ◌-◌, ◌<◌, ◌≡◌, refl, sym, ap, ◌∙◌, subst, arith}
use Rattle.std.proofs.Common.{Bool, true, false, cond, nat_eq, nat_lt, Option, Some, None, length, List}
use Rattle.std.proofs.lemmas.Bool.{le-ltb, lt-ltb, cond-true, cond-false}
use Rattle.relation_terms.specs.Heads.{Kind, type_kind, region_kind, const_kind, BoundKind, bound_kind, variable, Head}
use Rattle.relation_terms.specs.Heads.{bound, placeholder, atom, unknown, leaf_sort, head_sort, type_param}
use Rattle.relation_terms.specs.Heads.{early_region}
use Rattle.relation_terms.specs.Heads.{const_param, Atom, atom_sort}
use Rattle.relation_terms.specs.Trees.{Tree, leaf, node, bind, nil, cons}
use Rattle.relation_terms.specs.Parts.{tree_sort}
use Rattle.relation_folds.specs.Folds.{folded, put_or, asks}
use Rattle.relation_folds.specs.Shifts.{shifted, standing, is_for}
use Rattle.anonymize.specs.Renamings.{Moved, AreRenamings}
use Rattle.relation_terms.specs.Owned.{AreWithin}
use Rattle.relation_statements.specs.Stated.{member, stands_for, stated_of}
use Rattle.relation_statements.specs.Closure.{AreSame}
use Rattle.relation_folds.proofs.Folding.{put_none}
use Rattle.relation_statements.proofs.Moving.{put_kind, moved_shifted, sorts, moved_within, within_shifted}

-- Where the clause's own variable stands.
pub own_bound : (count : ℕ) (args : Tree) (depth : ℕ) (k : Kind) (n d i : ℕ) →
    folded (stands_for count args) depth (leaf (bound (bound_kind k n) d i)) ≡
    leaf (bound (bound_kind k n) d (cond (nat_eq d depth) (count + i) i))
own_bound count args depth k n d i =
    put_kind k n d i (stands_for count args depth (leaf (bound (bound_kind k n) d i))) (leaf (bound (bound_kind k n) d
    i)) ∙
    by_cases (nat_eq d depth)
  where
    by_cases : (b : Bool) → put_or true (cond b (Some (leaf (bound (bound_kind k n) d (count + i)))) None) (leaf
        (bound (bound_kind k n) d i)) ≡
        leaf (bound (bound_kind k n) d (cond b (count + i) i))
    by_cases true = refl
    by_cases false = refl

pub stated_node : (count : ℕ) (args : Tree) (depth : ℕ) (h : Head) (ts : Tree) →
    folded (stands_for count args) depth (node h ts) ≡ node h (folded (stands_for count args) depth ts)
stated_node count args depth h ts = put_none (asks (head_sort h)) (node h (folded (stands_for count args) depth ts))

-- From places of one list to places of another, those behind it to those behind that.
abbrev pub onto : (Kind → ℕ → ℕ) → ℕ → ℕ → Kind → ℕ → ℕ
onto to n p k i = cond (nat_lt i n) (to k i) (p + (i - n))

module _ (to : Kind → ℕ → ℕ) (n p : ℕ) where
  onto_agrees : (k : Kind) (i : ℕ) → i < n → onto to n p k i ≡ to k i
  onto_agrees k i h = cond-true (nat_lt i n) (to k i) (p + (i - n)) (lt-ltb i n h)

  onto_behind : (k : Kind) (i : ℕ) → onto to n p k (n + i) ≡ p + i
  onto_behind k i =
      let z : n + i - n ≡ i = omega arith in
      cond-false (nat_lt (n + i) n) (to k (n + i)) (p + (n + i - n)) (le-ltb (n + i) n (omega arith)) ∙ ap (λ j. p +
      j) z

  -- Both are there, and the second is the first with variables moved, or none is.
  abbrev AreMoved : Option Tree → Option Tree → Type 0
  AreMoved (Some x) (Some y) = Moved to 0 x y × AreWithin n 0 x
  AreMoved None None = Unit {0}
  AreMoved o q = ⊥

  members_moved : (xs ys : Tree) (i : ℕ) → Moved to 0 xs ys → AreWithin n 0 xs → AreMoved (member xs i) (member ys i)
  members_moved (cons x xs) (cons y ys) zero m w = (m.0, w.0)
  members_moved (cons x xs) (cons y ys) (suc i) m w = members_moved xs ys i m.1 w.1
  members_moved (leaf l) (leaf k) i m w = tt
  members_moved (node h ts) (node g us) i m w = tt
  members_moved (bind ks t) (bind ls u) i m w = tt
  members_moved nil nil i m w = tt
  members_moved xs ys i m w = absurd m

  -- The same of what stands `depth` binders further in, with the places of both lists.
  abbrev ArePut : ℕ → Option Tree → Option Tree → Type 0
  ArePut depth (Some x) (Some y) = Moved (onto to n p) depth x y
  ArePut depth None None = Unit {0}
  ArePut depth o q = ⊥

  puts_moved : (k : Kind) (depth : ℕ) (o q : Option Tree) → AreMoved o q →
      ArePut depth (standing k depth o) (standing k depth q)
  puts_moved k depth (Some x) (Some y) m =
      subst (λ s. ArePut depth (standing k depth (Some x)) (cond (is_for k s) (Some (shifted depth y)) None))
      (sym (sorts to 0 x y m.0)) (by_cases (is_for k (tree_sort x)))
    where
      by_cases : (b : Bool) → ArePut depth (cond b (Some (shifted depth x)) None) (cond b (Some (shifted depth y)) None)
      by_cases true = moved_within to (onto to n p) n onto_agrees depth (shifted depth x) (shifted depth y)
          (within_shifted n depth x m.1) (moved_shifted to depth x y m.0)
      by_cases false = tt
  puts_moved k depth None None m = tt
  puts_moved k depth (Some x) None m = absurd m
  puts_moved k depth None (Some y) m = absurd m

  put_moved : (depth : ℕ) (x : Atom) (o q : Option Tree) → ArePut depth o q →
      Moved (onto to n p) depth (put_or true o (leaf (atom x))) (put_or true q (leaf (atom x)))
  put_moved depth x (Some y) (Some z) m = m
  put_moved depth x None None m = refl
  put_moved depth x (Some y) None m = absurd m
  put_moved depth x None (Some z) m = absurd m

  module _ (xs ys : Tree) (moved : Moved to 0 xs ys) (within : AreWithin n 0 xs) where
    abbrev Here : ℕ → Tree → Type 0
    Here depth c = Moved (onto to n p) depth (folded (stands_for n xs) depth c) (folded (stands_for p ys) depth c)

    bound_stated : (depth : ℕ) (k : Kind) (x d i : ℕ) → Here depth (leaf (bound (bound_kind k x) d i))
    bound_stated depth k x d i =
        subst (λ z. Moved (onto to n p) depth z (folded (stands_for p ys) depth (leaf (bound (bound_kind k x) d i))))
        (sym (own_bound n xs depth k x d i))
        (subst (λ z. Moved (onto to n p) depth (leaf (bound (bound_kind k x) d (cond (nat_eq d depth) (n + i) i))) z)
        (sym (own_bound p ys depth k x d i)) (by_cases (nat_eq d depth)))
      where
        by_cases : (b : Bool) → cond b
            ((y : ℕ) × (bound (bound_kind k x) d (cond b (p + i) i) ≡ bound (bound_kind k y) d (onto to n p k (cond b
            (n + i) i))))
            (bound (bound_kind k x) d (cond b (p + i) i) ≡ bound (bound_kind k x) d (cond b (n + i) i))
        by_cases true = (x, ap (λ j. bound (bound_kind k x) d j) (sym (onto_behind k i)))
        by_cases false = refl

    atom_stated : (depth : ℕ) (x : Atom) → Here depth (leaf (atom x))
    atom_stated depth (type_param i x) = put_moved depth (type_param i x)
        (standing type_kind depth (member xs i)) (standing type_kind depth (member ys i))
        (puts_moved type_kind depth (member xs i) (member ys i) (members_moved xs ys i moved within))
    atom_stated depth (early_region i x) = put_moved depth (early_region i x)
        (standing region_kind depth (member xs i)) (standing region_kind depth (member ys i))
        (puts_moved region_kind depth (member xs i) (member ys i) (members_moved xs ys i moved within))
    atom_stated depth (const_param i x) = put_moved depth (const_param i x)
        (standing const_kind depth (member xs i)) (standing const_kind depth (member ys i))
        (puts_moved const_kind depth (member xs i) (member ys i) (members_moved xs ys i moved within))
    atom_stated depth x =
        subst (λ z. Moved (onto to n p) depth z z) (sym (put_none (asks (atom_sort x)) (leaf (atom x)))) refl

    pub stated_moved : (depth : ℕ) (c : Tree) → Here depth c
    stated_moved depth (leaf (bound (bound_kind k x) d i)) = bound_stated depth k x d i
    stated_moved depth (leaf (atom x)) = atom_stated depth x
    stated_moved depth (leaf (variable k x)) =
        subst (λ z. Moved (onto to n p) depth z z) (sym (put_none (asks (leaf_sort (variable k x))) (leaf (variable k
        x)))) refl
    stated_moved depth (leaf (placeholder k u x)) =
        subst (λ z. Moved (onto to n p) depth z z)
        (sym (put_none (asks (leaf_sort (placeholder k u x))) (leaf (placeholder k u x)))) refl
    stated_moved depth (leaf unknown) = refl
    stated_moved depth (node h ts) =
        subst (λ z. Moved (onto to n p) depth z (folded (stands_for p ys) depth (node h ts)))
        (sym (stated_node n xs depth h ts))
        (subst (λ z. Moved (onto to n p) depth (node h (folded (stands_for n xs) depth ts)) z)
        (sym (stated_node p ys depth h ts)) (refl, stated_moved depth ts))
    stated_moved depth (bind ks t) = (refl, stated_moved (suc depth) t)
    stated_moved depth nil = tt
    stated_moved depth (cons t ts) = (stated_moved depth t, stated_moved depth ts)

-- A clause that is stated of arguments and of the same but for renaming.
pub stated_same : (ks ls : List BoundKind) (xs ys c : Tree) → AreRenamings xs ys →
    AreWithin (length ks) 0 xs → AreWithin (length ls) 0 ys → AreSame (stated_of ks xs c) (stated_of ls ys c)
stated_same ks ls xs ys (bind cs c) r w v = record {
  to = onto r.to (length ks) (length ls);
  back = onto r.back (length ls) (length ks);
  there = stated_moved r.to (length ks) (length ls) xs ys r.there w 0 c;
  again = stated_moved r.back (length ls) (length ks) ys xs r.again v 0 c;
}
stated_same ks ls xs ys (leaf l) r w v = refl
stated_same ks ls xs ys (node h ts) r w v = refl
stated_same ks ls xs ys nil r w v = refl
stated_same ks ls xs ys (cons t ts) r w v = refl
