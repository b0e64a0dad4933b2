-- Terms that clash have no common instance.
use Rattle.std.proofs.Common.{◌≡◌, ℕ, Bool, true, false, not, ◌||◌, refl, sym, ap, ap₂, subst, ◌∙◌}
use Rattle.relation_terms.specs.Heads.{Sort, region_sort, type_sort, const_sort, value_sort, value_type_sort}
use Rattle.relation_terms.specs.Heads.{leaf_sort, head_sort, atom_sort, region_kind, bound_kind}
use Rattle.relation_terms.specs.Heads.{int_var, float_var, region_var, Atom, type_param, const_param}
use Rattle.relation_terms.specs.Heads.{early_region, Head, value_type}
use Rattle.relation_terms.specs.Heads.{Leaf, variable, bound, placeholder, atom, unknown}
use Rattle.relation_terms.specs.Trees.{Tree, leaf, node, bind, nil, cons, Leaves}
use Rattle.relation_terms.specs.Erasure.{erase, erase_leaf, erase_atom, kept_parts}
use Rattle.relation_terms.specs.Parts.{tree_sort, parts_of}
use Rattle.relation_folds.specs.Visits.{is_rigid}
use Rattle.relation_folds.specs.Clashes.{flexible, may_stand, is_integral, is_floating_point, outline, OneOutline}
use Rattle.relation_folds.specs.Clashes.{is_const_sort, is_between}
use Rattle.relation_folds.specs.Clashes.{Clash, unlike_types, left_number, right_number, unlike_consts, in_types}
use Rattle.relation_folds.specs.Clashes.{in_consts, between, here, further}
use Rattle.fast_reject.specs.Instances.{Instance, put, kept_leaf, kept_node, kept_bind, kept_nil, kept_cons, is_fit}
use Rattle.fast_reject.specs.Instances.{IsNamed, NoCommonInstance}
use Rattle.fast_reject.proofs.Clashing.{both, number_rigid, number_flexible, rigid_alone}
use Rattle.fast_reject.proofs.Instancing.{within_all, sort_kept, outline_kept, erased_sort, is_place_sort, place_sort}
use Rattle.relation_terms.proofs.Paths.{leaf_path, head_path, parts_path, bind_path, first_path, rest_path}

-- A leaf of no region is its erasure but for the name of a parameter.
abbrev pub named_atom : (ℕ → ℕ) → (ℕ → ℕ) → Atom → Atom
named_atom types consts (type_param i n) = type_param i (types i)
named_atom types consts (const_param i n) = const_param i (consts i)
named_atom types consts x = x

abbrev pub named_leaf : (ℕ → ℕ) → (ℕ → ℕ) → Leaf → Leaf
named_leaf types consts (atom x) = atom (named_atom types consts x)
named_leaf types consts l = l

module _ (types consts : ℕ → ℕ) where
  atom_named : (x : Atom) → IsNamed types consts (atom x) → (atom_sort x ≡ region_sort → ⊥) →
      named_atom types consts (erase_atom x) ≡ x
  atom_named (type_param i n) h s = ap (type_param i) (sym h)
  atom_named (const_param i n) h s = ap (const_param i) (sym h)
  atom_named (early_region i n) h s = absurd (s refl)
  atom_named x h s = refl

  leaf_named : (l : Leaf) → IsNamed types consts l → (leaf_sort l ≡ region_sort → ⊥) →
      named_leaf types consts (erase_leaf l) ≡ l
  leaf_named (variable region_var n) h s = absurd (s refl)
  leaf_named (variable k n) h s = refl
  leaf_named (bound (bound_kind region_kind m) d i) h s = absurd (s refl)
  leaf_named (bound (bound_kind k m) d i) h s = refl
  leaf_named (placeholder (bound_kind region_kind m) u n) h s = absurd (s refl)
  leaf_named (placeholder (bound_kind k m) u n) h s = refl
  leaf_named (atom x) h s = ap atom (atom_named x h s)
  leaf_named unknown h s = refl

  one_leaf : (l m : Leaf) → IsNamed types consts l → IsNamed types consts m → (leaf_sort l ≡ region_sort → ⊥) →
      (leaf_sort m ≡ region_sort → ⊥) → erase_leaf l ≡ erase_leaf m → l ≡ m
  one_leaf l m h k s z e = sym (leaf_named l h s) ∙ ap (named_leaf types consts) e ∙ leaf_named m k z

-- A parameter of a type or a constant, and what is none, which has no name.
abbrev is_param : Leaf → Bool
is_param (atom (type_param i n)) = true
is_param (atom (const_param i n)) = true
is_param l = false

param_erased : (l : Leaf) → is_param (erase_leaf l) ≡ is_param l
param_erased (variable region_var n) = refl
param_erased (variable k n) = refl
param_erased (bound (bound_kind region_kind m) d i) = refl
param_erased (bound (bound_kind k m) d i) = refl
param_erased (placeholder (bound_kind region_kind m) u n) = refl
param_erased (placeholder (bound_kind k m) u n) = refl
param_erased (atom (early_region i n)) = refl
param_erased (atom (type_param i n)) = refl
param_erased (atom (const_param i n)) = refl
param_erased (atom x) = refl
param_erased unknown = refl

param_flexible : (l : Leaf) → flexible true (leaf l) ≡ false → is_param l ≡ false
param_flexible (atom (type_param i n)) f = absurd (cc)
param_flexible (atom (const_param i n)) f = absurd (cc)
param_flexible (atom x) f = refl
param_flexible (variable k n) f = refl
param_flexible (bound k d i) f = refl
param_flexible (placeholder k u n) f = refl
param_flexible unknown f = refl

unnamed : (types consts : ℕ → ℕ) (l : Leaf) → is_param l ≡ false → IsNamed types consts l
unnamed types consts (atom (type_param i n)) p = absurd (cc)
unnamed types consts (atom (const_param i n)) p = absurd (cc)
unnamed types consts (atom x) p = tt
unnamed types consts (variable k n) p = tt
unnamed types consts (bound k d i) p = tt
unnamed types consts (placeholder k u n) p = tt
unnamed types consts unknown p = tt

-- Two leaves that are one up to erasure are one, where one of them is no parameter.
one_unnamed : (l m : Leaf) → is_param l ≡ false → (leaf_sort l ≡ region_sort → ⊥) → (leaf_sort m ≡ region_sort → ⊥) →
    erase_leaf l ≡ erase_leaf m → l ≡ m
one_unnamed l m p s z e = one_leaf (λ i. 0) (λ i. 0) l m (unnamed (λ i. 0) (λ i. 0) l p)
    (unnamed (λ i. 0) (λ i. 0) m (sym (param_erased m) ∙ ap is_param (sym e) ∙ param_erased l ∙ p)) s z e

-- What shows of two leaves that are no places, and no regions, that they are one where they are up to erasure.
abbrev Tells : (Tree → Bool) → (Tree → Bool) → (Leaf → Type 0) → (Leaf → Type 0) → Type 0
Tells f g P Q = (l m : Leaf) → f (leaf l) ≡ false → g (leaf m) ≡ false → P l → Q m →
    (leaf_sort l ≡ region_sort → ⊥) → (leaf_sort m ≡ region_sort → ⊥) → erase_leaf l ≡ erase_leaf m → l ≡ m

all_kept : (h : Head) (ts : Tree) → (head_sort h ≡ value_type_sort → ⊥) → kept_parts h ts ≡ ts
all_kept value_type ts n = absurd (n refl)
all_kept h ts n = refl

-- Types, constants and value trees.
abbrev pub is_met : Sort → Bool
is_met type_sort = true
is_met const_sort = true
is_met value_sort = true
is_met s = false

const_met : (s : Sort) → is_const_sort s ≡ true → is_met s ≡ true
const_met const_sort h = refl
const_met value_sort h = refl
const_met s h = absurd (cc)

met_sort : (a : Tree) {s : Sort} → is_met s ≡ true → tree_sort a ≡ s → is_met (tree_sort a) ≡ true
met_sort a h e = ap is_met e ∙ h

no_region : {s : Sort} → is_met s ≡ true → s ≡ region_sort → ⊥
no_region h e = both h (ap is_met e)

no_value_type : {s : Sort} → is_met s ≡ true → s ≡ value_type_sort → ⊥
no_value_type h e = both h (ap is_met e)

between_no_place : (s : Sort) → is_between s ≡ true → is_place_sort s ≡ false
between_no_place region_sort h = absurd (cc)
between_no_place type_sort h = absurd (cc)
between_no_place const_sort h = absurd (cc)
between_no_place s h = refl

between_no_value_type : (s : Sort) → is_between s ≡ true → s ≡ value_type_sort → ⊥
between_no_value_type s h e = both h (ap is_between e)

-- What is put for a place fits.
fitting : {places : Tree → Bool} {a x : Tree} → Instance places a x → places a ≡ true → is_fit a x ≡ true
fitting (put f h v g) p = g
fitting (kept_leaf f) p = absurd (both p f)
fitting (kept_node f i) p = absurd (both p f)
fitting (kept_bind {ks = ks} {t = t} i) p = refl
fitting kept_nil p = refl
fitting (kept_cons i j) p = refl

-- Which types of numbers they are.
integral_erased : (t : Tree) → is_integral (erase t) ≡ is_integral t
integral_erased (leaf (atom (early_region i n))) = refl
integral_erased (leaf (atom (type_param i n))) = refl
integral_erased (leaf (atom (const_param i n))) = refl
integral_erased (leaf (atom x)) = refl
integral_erased (leaf (variable region_var n)) = refl
integral_erased (leaf (variable k n)) = refl
integral_erased (leaf (bound (bound_kind region_kind m) d i)) = refl
integral_erased (leaf (bound (bound_kind k m) d i)) = refl
integral_erased (leaf (placeholder (bound_kind region_kind m) u n)) = refl
integral_erased (leaf (placeholder (bound_kind k m) u n)) = refl
integral_erased (leaf unknown) = refl
integral_erased (node h ts) = refl
integral_erased (bind ks t) = refl
integral_erased nil = refl
integral_erased (cons t ts) = refl

floating_erased : (t : Tree) → is_floating_point (erase t) ≡ is_floating_point t
floating_erased (leaf (atom (early_region i n))) = refl
floating_erased (leaf (atom (type_param i n))) = refl
floating_erased (leaf (atom (const_param i n))) = refl
floating_erased (leaf (atom x)) = refl
floating_erased (leaf (variable region_var n)) = refl
floating_erased (leaf (variable k n)) = refl
floating_erased (leaf (bound (bound_kind region_kind m) d i)) = refl
floating_erased (leaf (bound (bound_kind k m) d i)) = refl
floating_erased (leaf (placeholder (bound_kind region_kind m) u n)) = refl
floating_erased (leaf (placeholder (bound_kind k m) u n)) = refl
floating_erased (leaf unknown) = refl
floating_erased (node h ts) = refl
floating_erased (bind ks t) = refl
floating_erased nil = refl
floating_erased (cons t ts) = refl

-- An instance of what is no place is such a number just where that is.
integral_kept : {places : Tree → Bool} {a x : Tree} → Instance places a x → places a ≡ false →
    is_integral x ≡ is_integral a
integral_kept (put f h v g) p = absurd (both f p)
integral_kept (kept_leaf f) p = refl
integral_kept (kept_node f i) p = refl
integral_kept (kept_bind i) p = refl
integral_kept kept_nil p = refl
integral_kept (kept_cons i j) p = refl

floating_kept : {places : Tree → Bool} {a x : Tree} → Instance places a x → places a ≡ false →
    is_floating_point x ≡ is_floating_point a
floating_kept (put f h v g) p = absurd (both f p)
floating_kept (kept_leaf f) p = refl
floating_kept (kept_node f i) p = refl
floating_kept (kept_bind i) p = refl
floating_kept kept_nil p = refl
floating_kept (kept_cons i j) p = refl

or_false : (b c : Bool) → not b || c ≡ false → c ≡ false
or_false true c e = e
or_false false c e = absurd (cc)

-- What is put for the variable of a number is no instance of what that may not stand for.
number_apart : {places : Tree → Bool} (a b x y : Tree) → may_stand a b ≡ false → is_fit a x ≡ true →
    Instance places b y → places b ≡ false → erase x ≡ erase y → ⊥
number_apart (leaf (variable int_var n)) b x y m g j p e =
    both (sym (integral_kept j p) ∙ sym (integral_erased y) ∙ sym (ap is_integral e) ∙ integral_erased x ∙ g)
    (or_false (is_rigid b) (is_integral b) m)
number_apart (leaf (variable float_var n)) b x y m g j p e =
    both (sym (floating_kept j p) ∙ sym (floating_erased y) ∙ sym (ap is_floating_point e) ∙ floating_erased x ∙ g)
    (or_false (is_rigid b) (is_floating_point b) m)
number_apart (leaf (variable k n)) b x y m g j p e = absurd (cc)
number_apart (leaf (bound k d i)) b x y m g j p e = absurd (cc)
number_apart (leaf (placeholder k u n)) b x y m g j p e = absurd (cc)
number_apart (leaf (atom w)) b x y m g j p e = absurd (cc)
number_apart (leaf unknown) b x y m g j p e = absurd (cc)
number_apart (node h ts) b x y m g j p e = absurd (cc)
number_apart (bind ks t) b x y m g j p e = absurd (cc)
number_apart nil b x y m g j p e = absurd (cc)
number_apart (cons t ts) b x y m g j p e = absurd (cc)

-- The parts of two terms have instances that are one up to erasure.
record PartsMeet (left_places right_places : Tree → Bool) (a b : Tree) : Type 0 where
  xs : Tree
  ys : Tree
  of_left : Instance left_places (parts_of a) xs
  of_right : Instance right_places (parts_of b) ys
  same : erase xs ≡ erase ys

none_meet : {f g : Tree → Bool} {a b : Tree} → parts_of a ≡ nil → parts_of b ≡ nil → PartsMeet f g a b
none_meet {f = f} {g = g} p q = record {
  xs = nil;
  ys = nil;
  of_left = subst (λ t. Instance f t nil) (sym p) kept_nil;
  of_right = subst (λ t. Instance g t nil) (sym q) kept_nil;
  same = refl;
}

-- Two instances that are one up to erasure, of terms that are no places.
module _ {f g : Tree → Bool} (within : (a : Tree) → f a ≡ true → flexible true a ≡ true)
    (also : (a : Tree) → g a ≡ true → flexible true a ≡ true) where
  -- Both terms are of one sort.
  one_sort : {a b x y : Tree} → Instance f a x → Instance g b y → erase x ≡ erase y → tree_sort a ≡ tree_sort b
  one_sort {x = x} {y = y} i j e =
      sym (sort_kept within i) ∙ sym (erased_sort x) ∙ ap tree_sort e ∙ erased_sort y ∙ sort_kept also j

  nodes_meet : (h k : Head) (ts us vs ws : Tree) → Instance f ts vs → Instance g us ws →
      (head_sort h ≡ value_type_sort → ⊥) → erase (node h vs) ≡ erase (node k ws) →
      (h ≡ k) × (erase vs ≡ erase ws)
  nodes_meet h k ts us vs ws i j n e =
      let q : h ≡ k = head_path e in
      (q, sym (all_kept h (erase vs) n) ∙ parts_path e ∙ all_kept k (erase ws) (λ z. n (ap head_sort q ∙ z)))

  parts_meet : {a b x y : Tree} → Instance f a x → Instance g b y → f a ≡ false → g b ≡ false →
      (tree_sort a ≡ value_type_sort → ⊥) → erase x ≡ erase y → PartsMeet f g a b
  parts_meet (put p h v w) j fa fb n e = absurd (both p fa)
  parts_meet i (put p h v w) fa fb n e = absurd (both p fb)
  parts_meet (kept_leaf p) (kept_leaf q) fa fb n e = none_meet refl refl
  parts_meet (kept_node {h = h} {ts = ts} {us = vs} p i) (kept_node {h = k} {ts = us} {us = ws} q j) fa fb n e =
      record { xs = vs; ys = ws; of_left = i; of_right = j; same = (nodes_meet h k ts us vs ws i j n e).1 }
  parts_meet (kept_bind {u = t} i) (kept_bind {u = u} j) fa fb n e = record {
    xs = cons t nil;
    ys = cons u nil;
    of_left = kept_cons i kept_nil;
    of_right = kept_cons j kept_nil;
    same = ap (λ z. cons z nil) (bind_path e);
  }
  parts_meet kept_nil kept_nil fa fb n e = none_meet refl refl
  parts_meet (kept_cons i j) (kept_cons k m) fa fb n e = none_meet refl refl
  parts_meet i j fa fb n e = absurd (cc)

  met_alike : {P Q : Leaf → Type 0} → Tells f g P Q → {a b x y : Tree} → Instance f a x → Instance g b y →
      f a ≡ false → g b ≡ false → is_met (tree_sort a) ≡ true → Leaves P a → Leaves Q b → erase x ≡ erase y → OneOutline a b
  met_alike tells (put p h v w) j fa fb n o k e = absurd (both p fa)
  met_alike tells i (put p h v w) fa fb n o k e = absurd (both p fb)
  met_alike tells (kept_leaf {l = l} p) (kept_leaf {l = m} q) fa fb n o k e =
      ap leaf (tells l m fa fb o k (no_region n)
      (no_region (sym (ap is_met (one_sort (kept_leaf p) (kept_leaf q) e)) ∙ n)) (leaf_path e))
  met_alike tells (kept_node {h = h} {ts = ts} {us = vs} p i) (kept_node {h = k} {ts = us} {us = ws} q j)
      fa fb n o c e =
      let z = nodes_meet h k ts us vs ws i j (no_value_type n) e in
      sym (outline_kept within h i) ∙ ap₂ (λ u t. outline u t) z.0 z.1 ∙ outline_kept also k j
  met_alike tells (kept_bind i) j fa fb n o k e = absurd (cc)
  met_alike tells kept_nil j fa fb n o k e = absurd (cc)
  met_alike tells (kept_cons i m) j fa fb n o k e = absurd (cc)
  met_alike tells i j fa fb n o k e = absurd (cc)

-- The same of the first members of two lists and of the rest.
record ListsMeet (left_places right_places : Tree → Bool) (a b ts us : Tree) : Type 0 where
  x : Tree
  y : Tree
  xs : Tree
  ys : Tree
  first_left : Instance left_places a x
  first_right : Instance right_places b y
  first_same : erase x ≡ erase y
  rest_left : Instance left_places ts xs
  rest_right : Instance right_places us ys
  rest_same : erase xs ≡ erase ys

lists_meet : {f g : Tree → Bool} → ((a : Tree) → f a ≡ true → flexible true a ≡ true) →
    ((a : Tree) → g a ≡ true → flexible true a ≡ true) → {a b ts us x y : Tree} → Instance f (cons a ts) x →
    Instance g (cons b us) y → erase x ≡ erase y → ListsMeet f g a b ts us
lists_meet within also {a = a} {ts = ts} (put p h v w) j e = absurd (let z = within (cons a ts) p in cc)
lists_meet within also {b = b} {us = us} i (put p h v w) e = absurd (let z = also (cons b us) p in cc)
lists_meet within also (kept_cons {u = x} {us = xs} i j) (kept_cons {u = y} {us = ys} k m) e = record {
  x = x;
  y = y;
  xs = xs;
  ys = ys;
  first_left = i;
  first_right = k;
  first_same = first_path e;
  rest_left = j;
  rest_right = m;
  rest_same = rest_path e;
}

parts_leaves : (P : Leaf → Type 0) (a : Tree) → Leaves P a → Leaves P (parts_of a)
parts_leaves P (leaf l) h = tt
parts_leaves P (node k ts) h = h
parts_leaves P (bind ks t) h = (h, tt)
parts_leaves P nil h = tt
parts_leaves P (cons t ts) h = tt

-- Of a sort that is no place's, no term is a place.
no_place : (p : Bool) (a : Tree) → is_place_sort (tree_sort a) ≡ false → flexible p a ≡ false
no_place p a n = neither (flexible p a) refl
  where
    neither : (w : Bool) → flexible p a ≡ w → flexible p a ≡ false
    neither true e = absurd (both (place_sort a (within_all p a e)) n)
    neither false e = e

-- Two terms that clash have no instances that are one up to erasure.
module _ {l r : Bool} {P Q : Leaf → Type 0} (tells : Tells (flexible l) (flexible r) P Q) where
  number_left : {a b x y : Tree} → tree_sort b ≡ type_sort → may_stand a b ≡ false → Instance (flexible l) a x →
      Instance (flexible r) b y → erase x ≡ erase y → ⊥
  number_left {a = a} {b = b} {x = x} {y = y} t m i j e =
      number_apart a b x y m (fitting i (number_flexible l a b m)) j (rigid_alone r b t (number_rigid a b m)) e

  number_right : {a b x y : Tree} → tree_sort a ≡ type_sort → may_stand b a ≡ false → Instance (flexible l) a x →
      Instance (flexible r) b y → erase x ≡ erase y → ⊥
  number_right {a = a} {b = b} {x = x} {y = y} t m i j e =
      number_apart b a y x m (fitting j (number_flexible r b a m)) i (rigid_alone l a t (number_rigid b a m)) (sym e)

  apart : {d : ℕ} {a b x y : Tree} → Clash l r d a b → Instance (flexible l) a x → Instance (flexible r) b y →
      Leaves P a → Leaves Q b → erase x ≡ erase y → ⊥
  apart (unlike_types {a = a} o s n) i j p q e =
      n (met_alike (within_all l) (within_all r) tells i j s.0 s.1 (met_sort a refl o.0) p q e)
  apart (left_number o n) i j p q e = number_left o.1 n i j e
  apart (right_number o n) i j p q e = number_right o.0 n i j e
  apart (unlike_consts {a = a} {s = u} c o s n) i j p q e =
      n (met_alike (within_all l) (within_all r) tells i j s.0 s.1 (met_sort a (const_met u c) o.0) p q e)
  apart (in_types {a = a} {b = b} o s k c) i j p q e =
      let z = parts_meet (within_all l) (within_all r) i j s.0 s.1 (no_value_type (met_sort a refl o.0)) e in
      apart c z.of_left z.of_right (parts_leaves P a p) (parts_leaves Q b q) z.same
  apart (in_consts {a = a} {b = b} {s = u} h o s k c) i j p q e =
      let z = parts_meet (within_all l) (within_all r) i j s.0 s.1 (no_value_type (met_sort a (const_met u h) o.0)) e
      in
      apart c z.of_left z.of_right (parts_leaves P a p) (parts_leaves Q b q) z.same
  apart (between {a = a} {b = b} h c) i j p q e =
      let t = one_sort (within_all l) (within_all r) i j e in
      let f = between_no_place (tree_sort a) h in
      let z = parts_meet (within_all l) (within_all r) i j (no_place l a f) (no_place r b (sym (ap is_place_sort t) ∙ f))
      (between_no_value_type (tree_sort a) h) e in
      apart c z.of_left z.of_right (parts_leaves P a p) (parts_leaves Q b q) z.same
  apart (here c) i j p q e =
      let z = lists_meet (within_all l) (within_all r) i j e in apart c z.first_left z.first_right p.0 q.0 z.first_same
  apart (further c) i j p q e =
      let z = lists_meet (within_all l) (within_all r) i j e in apart c z.rest_left z.rest_right p.1 q.1 z.rest_same

-- Nothing is asked of leaves.
abbrev Anything : Leaf → Type 0
Anything l = Unit {0}

all_leaves : (t : Tree) → Leaves Anything t
all_leaves (leaf l) = tt
all_leaves (node h ts) = all_leaves ts
all_leaves (bind ks t) = all_leaves t
all_leaves nil = tt
all_leaves (cons t ts) = (all_leaves t, all_leaves ts)

-- Where the parameters of a side stand for others, none of that side is left to be compared.
apart_anyway : {l r : Bool} {d : ℕ} {a b x y : Tree} → Tells (flexible l) (flexible r) Anything Anything →
    Clash l r d a b → Instance (flexible l) a x → Instance (flexible r) b y → erase x ≡ erase y → ⊥
apart_anyway {a = a} {b = b} tells c i j e = apart tells c i j (all_leaves a) (all_leaves b) e

tells_left : (r : Bool) → Tells (flexible true) (flexible r) Anything Anything
tells_left r l m f g p q s z e = one_unnamed l m (param_flexible l f) s z e

tells_right : (l : Bool) → Tells (flexible l) (flexible true) Anything Anything
tells_right b l m f g p q s z e = sym (one_unnamed m l (param_flexible m g) z s (sym e))

pub clashes_are_apart : (l r : Bool) (d : ℕ) (a b : Tree) → Clash l r d a b → NoCommonInstance l r a b
clashes_are_apart true r d a b c n i = apart_anyway (tells_left r) c i.of_left i.of_right i.same
clashes_are_apart false true d a b c n i = apart_anyway (tells_right false) c i.of_left i.of_right i.same
clashes_are_apart false false d a b c n i =
    let w = n refl refl in
    apart (λ l m f g p q s z e. one_leaf w.types w.consts l m p q s z e) c i.of_left i.of_right w.left w.right i.same
