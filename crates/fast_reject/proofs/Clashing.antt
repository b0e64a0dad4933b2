-- Which clashes there are between two terms, by their sorts.
use Rattle.std.proofs.Common.{◌≡◌, ◌⊎◌, ◌↔◌, ℕ, zero, suc, ◌<◌, ◌≤◌, min, Bool, true, false, not, ◌||◌, refl, sym, ap, ◌∙◌, subst, subst₂, inl, inr, arith}
use Rattle.relation_terms.specs.Heads.{Sort, region_sort, type_sort, const_sort}
use Rattle.relation_terms.specs.Heads.{signature_sort, inputs_sort, value_sort, value_type_sort, pattern_sort}
use Rattle.relation_terms.specs.Heads.{existential_sort, object_sort}
use Rattle.relation_terms.specs.Heads.{no_sort, binder_sort}
use Rattle.relation_terms.specs.Heads.{type_var, int_var, float_var, const_var, region_var}
use Rattle.relation_terms.specs.Heads.{unsafe_binder, alias, unevaluated, expression, value, value_type, Atom, atom_sort}
use Rattle.relation_terms.specs.Heads.{type_param, type_error, fresh_type, fresh_int, fresh_float, const_param, early_region}
use Rattle.relation_terms.specs.Heads.{const_error, fresh_const}
use Rattle.relation_terms.specs.Heads.{variable, bound, placeholder, atom, unknown}
use Rattle.relation_terms.specs.Trees.{Tree, leaf, node, bind, nil, cons, IsList, count, nth}
use Rattle.relation_terms.specs.Parts.{parts_of, tree_sort}
use Rattle.relation_folds.specs.Visits.{is_rigid, rigid_atom}
use Rattle.relation_folds.proofs.Visiting.{rest, rest_next, rest_end, rest_list}
use Rattle.relation_folds.specs.Clashes.{flexible, flexible_atom, may_stand, is_integral, is_floating_point}
use Rattle.relation_folds.specs.Clashes.{OneOutline, AreRigid, is_const_sort, is_between, depth_inside}
use Rattle.relation_folds.specs.Clashes.{Clash, unlike_types, left_number, right_number, unlike_consts, in_types}
use Rattle.relation_folds.specs.Clashes.{in_consts, between, here, further}

alike_same : (a : Tree) → OneOutline a a
alike_same (leaf l) = refl
alike_same (node h ts) = refl
alike_same (bind ks t) = refl
alike_same nil = refl
alike_same (cons t ts) = refl

-- A variable may stand for itself.
stands_itself : (a : Tree) → may_stand a a ≡ true
stands_itself (leaf (variable int_var n)) = refl
stands_itself (leaf (variable float_var n)) = refl
stands_itself (leaf (variable type_var n)) = refl
stands_itself (leaf (variable const_var n)) = refl
stands_itself (leaf (variable region_var n)) = refl
stands_itself (leaf (bound k d i)) = refl
stands_itself (leaf (placeholder k u n)) = refl
stands_itself (leaf (atom x)) = refl
stands_itself (leaf unknown) = refl
stands_itself (node h ts) = refl
stands_itself (bind ks t) = refl
stands_itself nil = refl
stands_itself (cons t ts) = refl

pub both : {b : Bool} → b ≡ true → b ≡ false → ⊥
both e f = cc

rigid_or : (b c : Bool) → not b || c ≡ false → b ≡ true
rigid_or true c e = refl
rigid_or false c e = absurd (cc)

-- What no number may be is known not to be one, and so stands for itself alone.
pub number_rigid : (a b : Tree) → may_stand a b ≡ false → is_rigid b ≡ true
number_rigid (leaf (variable int_var n)) b e = rigid_or (is_rigid b) (is_integral b) e
number_rigid (leaf (variable float_var n)) b e = rigid_or (is_rigid b) (is_floating_point b) e
number_rigid (leaf (variable type_var n)) b e = absurd (cc)
number_rigid (leaf (variable const_var n)) b e = absurd (cc)
number_rigid (leaf (variable region_var n)) b e = absurd (cc)
number_rigid (leaf (bound k d i)) b e = absurd (cc)
number_rigid (leaf (placeholder k u n)) b e = absurd (cc)
number_rigid (leaf (atom x)) b e = absurd (cc)
number_rigid (leaf unknown) b e = absurd (cc)
number_rigid (node h ts) b e = absurd (cc)
number_rigid (bind ks t) b e = absurd (cc)
number_rigid nil b e = absurd (cc)
number_rigid (cons t ts) b e = absurd (cc)

pub number_flexible : (p : Bool) (a b : Tree) → may_stand a b ≡ false → flexible p a ≡ true
number_flexible p (leaf (variable k n)) b e = refl
number_flexible p (leaf (bound k d i)) b e = absurd (cc)
number_flexible p (leaf (placeholder k u n)) b e = absurd (cc)
number_flexible p (leaf (atom x)) b e = absurd (cc)
number_flexible p (leaf unknown) b e = absurd (cc)
number_flexible p (node h ts) b e = absurd (cc)
number_flexible p (bind ks t) b e = absurd (cc)
number_flexible p nil b e = absurd (cc)
number_flexible p (cons t ts) b e = absurd (cc)

-- Between a term and itself there is none.
pub no_clash : {l r : Bool} {d : ℕ} {a b : Tree} → Clash l r d a b → a ≡ b → ⊥
no_clash {a = a} (unlike_types o s n) e = n (subst (OneOutline a) e (alike_same a))
no_clash {a = a} {b = b} (left_number o n) e =
    both (subst (λ x. may_stand a x ≡ true) e (stands_itself a)) n
no_clash {a = a} {b = b} (right_number o n) e =
    both (subst (λ x. may_stand b x ≡ true) (sym e) (stands_itself b)) n
no_clash {a = a} (unlike_consts c o s n) e = n (subst (OneOutline a) e (alike_same a))
no_clash (in_types o s k c) e = no_clash c (ap parts_of e)
no_clash (in_consts h o s k c) e = no_clash c (ap parts_of e)
no_clash (between h c) e = no_clash c (ap parts_of e)
no_clash (here {a = a} {b = b} c) e = no_clash c (let q : a ≡ b = cc in q)
no_clash (further {xs = xs} {ys = ys} c) e = no_clash c (let q : xs ≡ ys = cc in q)

-- A clash between types.
pub data TypeClash (l r : Bool) (d : ℕ) (a b : Tree) : Type 0 where
  by_right : may_stand b a ≡ false → TypeClash l r d a b
  by_left : (e : ℕ) → d ≡ suc e → may_stand a b ≡ false → TypeClash l r d a b
  by_form : (e : ℕ) → d ≡ suc e → AreRigid l r a b → (OneOutline a b → ⊥) → TypeClash l r d a b
  by_parts : (e : ℕ) → d ≡ suc e → AreRigid l r a b → Clash l r (depth_inside a e) (parts_of a) (parts_of b) →
      TypeClash l r d a b

const_no_type : (s : Sort) → is_const_sort s ≡ true → s ≡ type_sort → ⊥
const_no_type type_sort c e = cc
const_no_type s c e = cc

type_clash : {l r : Bool} {d : ℕ} {a b : Tree} → Clash l r d a b → tree_sort a ≡ type_sort → TypeClash l r d a b
type_clash (unlike_types {d = d} o s n) t = by_form d refl s n
type_clash (left_number {d = d} o n) t = by_left d refl n
type_clash (right_number o n) t = by_right n
type_clash (unlike_consts {s = u} c o s n) t = absurd (const_no_type u c (sym (o.0) ∙ t))
type_clash (in_types {d = d} o s k c) t = by_parts d refl s c
type_clash (in_consts {s = u} h o s k c) t = absurd (const_no_type u h (sym (o.0) ∙ t))
type_clash (between {a = a} h c) t = absurd (let q = ap is_between t in cc)
type_clash (here c) t = absurd (cc)
type_clash (further c) t = absurd (cc)

-- Both are types, where one is; and so of constants and of value trees.
pub type_pair : {l r : Bool} {d : ℕ} {a b : Tree} → Clash l r d a b → tree_sort a ≡ type_sort → tree_sort b ≡ type_sort
type_pair (unlike_types o s n) t = o.1
type_pair (left_number o n) t = o.1
type_pair (right_number o n) t = o.1
type_pair (unlike_consts {s = u} c o s n) t = absurd (const_no_type u c (sym (o.0) ∙ t))
type_pair (in_types o s k c) t = o.1
type_pair (in_consts {s = u} h o s k c) t = absurd (const_no_type u h (sym (o.0) ∙ t))
type_pair (between {a = a} h c) t = absurd (let q = ap is_between t in cc)
type_pair (here c) t = absurd (cc)
type_pair (further c) t = absurd (cc)

const_no_between : (s : Sort) → is_const_sort s ≡ true → is_between s ≡ true → ⊥
const_no_between const_sort c e = cc
const_no_between value_sort c e = cc
const_no_between s c e = cc

const_no_list : (s : Sort) → is_const_sort s ≡ true → no_sort ≡ s → ⊥
const_no_list no_sort c e = cc
const_no_list s c e = cc

pub const_pair : {l r : Bool} {d : ℕ} {a b : Tree} {u : Sort} → Clash l r d a b → is_const_sort u ≡ true →
    tree_sort a ≡ u → tree_sort b ≡ u
const_pair {u = u} (unlike_types o s n) h t = absurd (const_no_type u h (sym t ∙ o.0))
const_pair {u = u} (left_number o n) h t = absurd (const_no_type u h (sym t ∙ o.0))
const_pair {u = u} (right_number o n) h t = absurd (const_no_type u h (sym t ∙ o.0))
const_pair (unlike_consts c o s n) h t = o.1 ∙ sym (o.0) ∙ t
const_pair {u = u} (in_types o s k c) h t = absurd (const_no_type u h (sym t ∙ o.0))
const_pair (in_consts i o s k c) h t = o.1 ∙ sym (o.0) ∙ t
const_pair {u = u} (between i c) h t = absurd (const_no_between u h (sym (ap is_between t) ∙ i))
const_pair {u = u} (here c) h t = absurd (const_no_list u h t)
const_pair {u = u} (further c) h t = absurd (const_no_list u h t)

-- A clash between constants, or between value trees.
const_clash : {l r : Bool} {d : ℕ} {a b : Tree} {u : Sort} → Clash l r d a b → is_const_sort u ≡ true →
    tree_sort a ≡ u → AreRigid l r a b × ((OneOutline a b → ⊥) ⊎ Clash l r d (parts_of a) (parts_of b))
const_clash {u = u} (unlike_types o s n) h t = absurd (const_no_type u h (sym t ∙ o.0))
const_clash {u = u} (left_number o n) h t = absurd (const_no_type u h (sym t ∙ o.0))
const_clash {u = u} (right_number o n) h t = absurd (const_no_type u h (sym t ∙ o.0))
const_clash (unlike_consts c o s n) h t = (s, inl n)
const_clash {u = u} (in_types o s k c) h t = absurd (const_no_type u h (sym t ∙ o.0))
const_clash (in_consts i o s k c) h t = (s, inr c)
const_clash {u = u} (between i c) h t = absurd (const_no_between u h (sym (ap is_between t) ∙ i))
const_clash {u = u} (here c) h t = absurd (const_no_list u h t)
const_clash {u = u} (further c) h t = absurd (const_no_list u h t)

-- Between what is no type or constant, and has none inside, there is none.
abbrev pub is_quiet : Sort → Bool
is_quiet region_sort = true
is_quiet pattern_sort = true
is_quiet value_type_sort = true
is_quiet existential_sort = true
is_quiet object_sort = true
is_quiet s = false

quiet_no_const : (s : Sort) → is_const_sort s ≡ true → is_quiet s ≡ true → ⊥
quiet_no_const const_sort c q = cc
quiet_no_const value_sort c q = cc
quiet_no_const s c q = cc

quiet_no_between : (s : Sort) → is_between s ≡ true → is_quiet s ≡ true → ⊥
quiet_no_between (binder_sort s) c q = cc
quiet_no_between signature_sort c q = cc
quiet_no_between inputs_sort c q = cc
quiet_no_between s c q = cc

pub quiet_clash : {l r : Bool} {d : ℕ} {a b : Tree} → Clash l r d a b → is_quiet (tree_sort a) ≡ true → ⊥
quiet_clash (unlike_types o s n) q = let e = ap is_quiet (o.0) in cc
quiet_clash (left_number o n) q = let e = ap is_quiet (o.0) in cc
quiet_clash (right_number o n) q = let e = ap is_quiet (o.0) in cc
quiet_clash (unlike_consts {s = u} c o s n) q = quiet_no_const u c (sym (ap is_quiet (o.0)) ∙ q)
quiet_clash (in_types o s k c) q = let e = ap is_quiet (o.0) in cc
quiet_clash (in_consts {s = u} h o s k c) q = quiet_no_const u h (sym (ap is_quiet (o.0)) ∙ q)
quiet_clash (between {a = a} h c) q = quiet_no_between (tree_sort a) h q
quiet_clash (here c) q = cc
quiet_clash (further c) q = cc

-- Through what stands between.
pub between_clash : {l r : Bool} {d : ℕ} {a b : Tree} → Clash l r d a b → is_between (tree_sort a) ≡ true →
    Clash l r d (parts_of a) (parts_of b)
between_clash (unlike_types o s n) q = absurd (let e = ap is_between (o.0) in cc)
between_clash (left_number o n) q = absurd (let e = ap is_between (o.0) in cc)
between_clash (right_number o n) q = absurd (let e = ap is_between (o.0) in cc)
between_clash (unlike_consts {s = u} c o s n) q = absurd (const_no_between u c (sym (ap is_between (o.0)) ∙ q))
between_clash (in_types o s k c) q = absurd (let e = ap is_between (o.0) in cc)
between_clash (in_consts {s = u} h o s k c) q = absurd (const_no_between u h (sym (ap is_between (o.0)) ∙ q))
between_clash (between h c) q = c
between_clash (here c) q = absurd (cc)
between_clash (further c) q = absurd (cc)

-- In lists.
pub cons_clash : {l r : Bool} {d : ℕ} {a b xs ys : Tree} → Clash l r d (cons a xs) (cons b ys) →
    Clash l r d a b ⊎ Clash l r d xs ys
cons_clash (unlike_types o s n) = absurd (let e = o.0 in cc)
cons_clash (left_number o n) = absurd (let e = o.0 in cc)
cons_clash (right_number o n) = absurd (let e = o.0 in cc)
cons_clash (unlike_consts {s = u} c o s n) = absurd (const_no_list u c (o.0))
cons_clash (in_types o s k c) = absurd (let e = o.0 in cc)
cons_clash (in_consts {s = u} h o s k c) = absurd (const_no_list u h (o.0))
cons_clash (between h c) = absurd (cc)
cons_clash (here c) = inl c
cons_clash (further c) = inr c

pub nil_left : {l r : Bool} {d : ℕ} {b : Tree} → Clash l r d nil b → ⊥
nil_left (unlike_types o s n) = let e = o.0 in cc
nil_left (left_number o n) = let e = o.0 in cc
nil_left (right_number o n) = let e = o.0 in cc
nil_left (unlike_consts {s = u} c o s n) = const_no_list u c (o.0)
nil_left (in_types o s k c) = let e = o.0 in cc
nil_left (in_consts {s = u} h o s k c) = const_no_list u h (o.0)
nil_left (between h c) = cc

list_no_between : (a : Tree) → IsList a → is_between (tree_sort a) ≡ true → ⊥
list_no_between nil i h = cc
list_no_between (cons t ts) i h = cc
list_no_between (leaf l) i h = i
list_no_between (node g ts) i h = i
list_no_between (bind ks t) i h = i

pub nil_right : {l r : Bool} {d : ℕ} {a : Tree} → IsList a → Clash l r d a nil → ⊥
nil_right i (unlike_types o s n) = let e = o.1 in cc
nil_right i (left_number o n) = let e = o.1 in cc
nil_right i (right_number o n) = let e = o.1 in cc
nil_right i (unlike_consts {s = u} c o s n) = const_no_list u c (o.1)
nil_right i (in_types o s k c) = let e = o.1 in cc
nil_right i (in_consts {s = u} h o s k c) = const_no_list u h (o.1)
nil_right i (between {a = a} h c) = list_no_between a i h

-- A type that is known to be what it is stands for itself alone.
rigid_atom_alone : (p : Bool) (x : Atom) → atom_sort x ≡ type_sort → rigid_atom x ≡ true → flexible_atom p x ≡ false
rigid_atom_alone p (type_param i n) t h = absurd (cc)
rigid_atom_alone p type_error t h = absurd (cc)
rigid_atom_alone p (fresh_type n) t h = absurd (cc)
rigid_atom_alone p (fresh_int n) t h = absurd (cc)
rigid_atom_alone p (fresh_float n) t h = absurd (cc)
rigid_atom_alone p (const_param i n) t h = absurd (cc)
rigid_atom_alone p (early_region i n) t h = absurd (cc)
rigid_atom_alone p const_error t h = absurd (cc)
rigid_atom_alone p (fresh_const n) t h = absurd (cc)
rigid_atom_alone p x t h = refl

pub rigid_alone : (p : Bool) (b : Tree) → tree_sort b ≡ type_sort → is_rigid b ≡ true → flexible p b ≡ false
rigid_alone p (leaf (variable k n)) t h = absurd (cc)
rigid_alone p (leaf (bound k d i)) t h = absurd (cc)
rigid_alone p (leaf (atom x)) t h = rigid_atom_alone p x t h
rigid_alone p (leaf (placeholder k u n)) t h = refl
rigid_alone p (leaf unknown) t h = refl
rigid_alone p (node (alias k d) ts) t h = absurd (cc)
rigid_alone p (node (unevaluated d) ts) t h = absurd (cc)
rigid_alone p (node (expression k) ts) t h = absurd (cc)
rigid_alone p (node g ts) t h = refl
rigid_alone p (bind ks u) t h = refl
rigid_alone p nil t h = refl
rigid_alone p (cons u us) t h = refl

-- What a test of types answers, step by step.
module _ (l r : Bool) (d : ℕ) (a b : Tree) (ta : tree_sort a ≡ type_sort) (tb : tree_sort b ≡ type_sort) where
  pub right_decides : (w : Bool) → flexible r b ≡ true → w ≡ may_stand b a → (w ≡ false) ↔ Clash l r d a b
  right_decides w f e = (λ z. right_number (ta, tb) (sym e ∙ z), λ c. e ∙ only (type_clash c ta))
    where
      only : TypeClash l r d a b → may_stand b a ≡ false
      only (by_right n) = n
      only (by_left k p n) = absurd (both f (rigid_alone r b tb (number_rigid a b n)))
      only (by_form k p s n) = absurd (both f (s.1))
      only (by_parts k p s c) = absurd (both f (s.1))

  pub no_depth : flexible r b ≡ false → d ≡ 0 → Clash l r d a b → ⊥
  no_depth f z c = none (type_clash c ta)
    where
      none : TypeClash l r d a b → ⊥
      none (by_right n) = both (number_flexible r b a n) f
      none (by_left k p n) = omega (arith, z, p)
      none (by_form k p s n) = omega (arith, z, p)
      none (by_parts k p s c) = omega (arith, z, p)

  pub left_decides : (e : ℕ) (w : Bool) → d ≡ suc e → flexible r b ≡ false → flexible l a ≡ true →
      w ≡ may_stand a b → (w ≡ false) ↔ Clash l r d a b
  left_decides e w z f g o =
      (λ i. subst (λ n. Clash l r n a b) (sym z) (left_number (ta, tb) (sym o ∙ i)), λ c. o ∙ only (type_clash c ta))
    where
      only : TypeClash l r d a b → may_stand a b ≡ false
      only (by_right n) = absurd (both (number_flexible r b a n) f)
      only (by_left k p n) = n
      only (by_form k p s n) = absurd (both g (s.0))
      only (by_parts k p s c) = absurd (both g (s.0))

  pub forms_clash : (e : ℕ) → d ≡ suc e → flexible r b ≡ false → flexible l a ≡ false → (OneOutline a b → ⊥) →
      Clash l r d a b
  forms_clash e z f g n = subst (λ k. Clash l r k a b) (sym z) (unlike_types (ta, tb) (g, f) n)

  pub parts_decide : (e : ℕ) (w : Bool) → d ≡ suc e → flexible r b ≡ false → flexible l a ≡ false → OneOutline a b →
      ((w ≡ false) ↔ Clash l r (depth_inside a e) (parts_of a) (parts_of b)) → (w ≡ false) ↔ Clash l r d a b
  parts_decide e w z f g s o =
      (λ i. subst (λ k. Clash l r k a b) (sym z) (in_types (ta, tb) (g, f) s (o.0 i)), λ c. o.1 (only (type_clash c ta)))
    where
      only : TypeClash l r d a b → Clash l r (depth_inside a e) (parts_of a) (parts_of b)
      only (by_right n) = absurd (both (number_flexible r b a n) f)
      only (by_left k p n) = absurd (both (number_flexible l a b n) g)
      only (by_form k p q n) = absurd (n s)
      only (by_parts k p q c) =
          let same : e ≡ k = omega (arith, z, p) in
          subst (λ n. Clash l r (depth_inside a n) (parts_of a) (parts_of b)) (sym same) c

-- A test that answers true says nothing, where nothing clashes.
pub passes : {l r : Bool} {d : ℕ} {a b : Tree} → (Clash l r d a b → ⊥) → (true ≡ false) ↔ Clash l r d a b
passes n = (λ e. absurd (cc), λ c. absurd (n c))

pub fails : {l r : Bool} {d : ℕ} {a b : Tree} → Clash l r d a b → (false ≡ false) ↔ Clash l r d a b
fails c = (λ e. c, λ o. refl)

-- The same of constants and value trees, of one sort.
module _ (l r : Bool) (d : ℕ) (a b : Tree) (s : Sort) (h : is_const_sort s ≡ true) (ta : tree_sort a ≡ s)
    (tb : tree_sort b ≡ s) where
  pub flexible_right : flexible r b ≡ true → Clash l r d a b → ⊥
  flexible_right f c = both f ((const_clash c h ta).0.1)

  pub flexible_left : flexible l a ≡ true → Clash l r d a b → ⊥
  flexible_left f c = both f ((const_clash c h ta).0.0)

  pub const_forms_clash : flexible r b ≡ false → flexible l a ≡ false → (OneOutline a b → ⊥) → Clash l r d a b
  const_forms_clash f g n = unlike_consts h (ta, tb) (g, f) n

  pub const_parts_decide : (w : Bool) → flexible r b ≡ false → flexible l a ≡ false → OneOutline a b →
      ((w ≡ false) ↔ Clash l r d (parts_of a) (parts_of b)) → (w ≡ false) ↔ Clash l r d a b
  const_parts_decide w f g k o = (λ i. in_consts h (ta, tb) (g, f) k (o.0 i), λ c. o.1 (only ((const_clash c h ta).1)))
    where
      only : (OneOutline a b → ⊥) ⊎ Clash l r d (parts_of a) (parts_of b) → Clash l r d (parts_of a) (parts_of b)
      only (inl n) = absurd (n k)
      only (inr c) = c

-- Between two values there is a clash just where there is one between their value trees.
pub values_decide : (l r : Bool) (d : ℕ) (x y v w : Tree) (o : Bool) → ((o ≡ false) ↔ Clash l r d v w) →
    (o ≡ false) ↔ Clash l r d (node value (cons (node value_type x) (cons v nil)))
    (node value (cons (node value_type y) (cons w nil)))
values_decide l r d x y v w o h =
    const_parts_decide l r d (node value (cons (node value_type x) (cons v nil)))
    (node value (cons (node value_type y) (cons w nil))) const_sort refl refl refl o refl refl refl
    (λ i. further (here (h.0 i)), λ c. h.1 (only (cons_clash c)))
  where
    last : Clash l r d v w ⊎ Clash l r d nil nil → Clash l r d v w
    last (inl c) = c
    last (inr c) = absurd (nil_left c)

    only : Clash l r d (node value_type x) (node value_type y) ⊎ Clash l r d (cons v nil) (cons w nil) → Clash l r d v w
    only (inl c) = absurd (quiet_clash c refl)
    only (inr c) = last (cons_clash c)

-- Through what stands between, a test answers what it does of the parts.
pub between_decides : (l r : Bool) (d : ℕ) (a b : Tree) (w : Bool) → is_between (tree_sort a) ≡ true →
    ((w ≡ false) ↔ Clash l r d (parts_of a) (parts_of b)) → (w ≡ false) ↔ Clash l r d a b
between_decides l r d a b w h o = (λ i. between h (o.0 i), λ c. o.1 (between_clash c h))

-- Over the rest of two lists: the first members, and what comes after these.
module _ (l r : Bool) (d : ℕ) (xs ys : Tree) where
  pub rest_here : (i : ℕ) (a b : Tree) → i < count xs → i < count ys → a ≡ nth i xs → b ≡ nth i ys → Clash l r d a b →
      Clash l r d (rest i xs) (rest i ys)
  rest_here i a b h k e f c =
      subst₂ (λ x y. Clash l r d x y) (sym (rest_next i xs h)) (sym (rest_next i ys k))
      (here (subst₂ (λ x y. Clash l r d x y) e f c))

  pub rest_further : (i j : ℕ) → j ≡ suc i → i < count xs → i < count ys → Clash l r d (rest j xs) (rest j ys) →
      Clash l r d (rest i xs) (rest i ys)
  rest_further i j q h k c =
      subst₂ (λ x y. Clash l r d x y) (sym (rest_next i xs h)) (sym (rest_next i ys k))
      (further (subst (λ n. Clash l r d (rest n xs) (rest n ys)) q c))

  pub rest_on : (i j : ℕ) (a b : Tree) → j ≡ suc i → i < count xs → i < count ys → a ≡ nth i xs → b ≡ nth i ys →
      (Clash l r d a b → ⊥) → Clash l r d (rest i xs) (rest i ys) → Clash l r d (rest j xs) (rest j ys)
  rest_on i j a b q h k e f n c =
      subst (λ m. Clash l r d (rest m xs) (rest m ys)) (sym q)
      (only (cons_clash (subst₂ (λ x y. Clash l r d x y) (rest_next i xs h) (rest_next i ys k) c)))
    where
      only : Clash l r d (nth i xs) (nth i ys) ⊎ Clash l r d (rest (suc i) xs) (rest (suc i) ys) →
          Clash l r d (rest (suc i) xs) (rest (suc i) ys)
      only (inl o) = absurd (n (subst₂ (λ x y. Clash l r d x y) (sym e) (sym f) o))
      only (inr o) = o

  pub rest_none : (i : ℕ) → IsList xs → IsList ys → (i ≡ count xs) ⊎ (i ≡ count ys) →
      Clash l r d (rest i xs) (rest i ys) → ⊥
  rest_none i h k (inl e) c = nil_left (subst (λ x. Clash l r d x (rest i ys)) (rest_end i xs h e) c)
  rest_none i h k (inr e) c =
      nil_right (rest_list i xs h) (subst (λ x. Clash l r d (rest i xs) x) (rest_end i ys k e) c)

-- The end of the shorter one of two lists is that of one of them.
min_is : (n k : ℕ) → (min n k ≡ n) ⊎ (min n k ≡ k)
min_is zero k = inl (omega arith)
min_is (suc n) zero = inr (omega arith)
min_is (suc n) (suc k) = up (min_is n k)
  where
    up : (min n k ≡ n) ⊎ (min n k ≡ k) → (min (suc n) (suc k) ≡ suc n) ⊎ (min (suc n) (suc k) ≡ suc k)
    up (inl e) = inl (omega (arith, e))
    up (inr e) = inr (omega (arith, e))

pub shorter : (i n k : ℕ) → i ≡ min n k → (i ≡ n) ⊎ (i ≡ k)
shorter i n k e = either (min_is n k)
  where
    either : (min n k ≡ n) ⊎ (min n k ≡ k) → (i ≡ n) ⊎ (i ≡ k)
    either (inl p) = inl (e ∙ p)
    either (inr p) = inr (e ∙ p)

-- The same of the same terms.
pub moved : (l r w : Bool) {d e : ℕ} {a b x y : Tree} → d ≡ e → a ≡ x → b ≡ y → ((w ≡ false) ↔ Clash l r d a b) →
    (w ≡ false) ↔ Clash l r e x y
moved l r w {d = d} {x = x} {y = y} p q s h =
    subst (λ n. (w ≡ false) ↔ Clash l r n x y) p (subst₂ (λ u v. (w ≡ false) ↔ Clash l r d u v) q s h)

-- What clashes within a depth does within every greater one.
inside_more : (a : Tree) (d e : ℕ) → d ≤ e → depth_inside a d ≤ depth_inside a e
inside_more (node unsafe_binder ts) d e h = omega arith
inside_more (node g ts) d e h = h
inside_more (leaf l) d e h = h
inside_more (bind ks t) d e h = h
inside_more nil d e h = h
inside_more (cons t ts) d e h = h

below_more : (d e : ℕ) → suc d ≤ suc e → d ≤ e
below_more d e h = omega arith

none_below : (d : ℕ) → suc d ≤ 0 → ⊥
none_below d h = omega arith

pub deeper : {l r : Bool} {d : ℕ} {a b : Tree} (e : ℕ) → Clash l r d a b → d ≤ e → Clash l r e a b
deeper zero (unlike_types {d = d} o s n) h = absurd (none_below d h)
deeper (suc e) (unlike_types o s n) h = unlike_types o s n
deeper zero (left_number {d = d} o n) h = absurd (none_below d h)
deeper (suc e) (left_number o n) h = left_number o n
deeper e (right_number o n) h = right_number o n
deeper e (unlike_consts c o s n) h = unlike_consts c o s n
deeper zero (in_types {d = d} o s k c) h = absurd (none_below d h)
deeper (suc e) (in_types {d = d} {a = a} o s k c) h =
    in_types o s k (deeper (depth_inside a e) c (inside_more a d e (below_more d e h)))
deeper e (in_consts i o s k c) h = in_consts i o s k (deeper e c h)
deeper e (between i c) h = between i (deeper e c h)
deeper e (here c) h = here (deeper e c h)
deeper e (further c) h = further (deeper e c h)
