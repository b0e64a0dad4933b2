-- What agrees, and that terms agree as what they are read as does.
use Rattle.std.proofs.Common.{◌≡◌, ◌⊎◌, ℕ, zero, suc, ◌<◌, ◌+◌, refl, sym, ap, ◌∙◌, inl, inr, subst, arith}
use Rattle.std.proofs.Common.{List}
use Rattle.term_enums.specs.declared.Variance.{Variance}
use Rattle.term_enums.specs.declared.Variance.TheVariants.{Bivariant}
use Rattle.relation_terms.specs.Heads.{region_sort, BoundKind, VarKind, type_var, int_var, float_var, const_var}
use Rattle.relation_terms.specs.Heads.{region_var, var_sort, head_sort, atom_sort, int_type, uint_type, float_type}
use Rattle.relation_terms.specs.Heads.{Head, adt}
use Rattle.relation_terms.specs.Heads.{alias, alias_term, Leaf, leaf_sort, Atom, type_param, const_param, variable, bound, placeholder, atom, unknown}
use Rattle.relation_terms.specs.Trees.{Tree, leaf, node, bind, nil, cons, count, nth, IsTerm}
use Rattle.relation_semantics.specs.Relation.{Items, at, parts, part_at, plain, plain_atom, sort_of, IsAlias, IsErrorAtom}
use Rattle.relation_semantics.specs.Stores.{Store, entry_term, MayStandFor, IsSound, IsIntegerAtom, IsFloatAtom}
use Rattle.relation_semantics.specs.Stores.{IsIntegerTerm, IsFloatTerm}
use Rattle.relation_semantics.specs.Steps.{IsNumberKind}
use Rattle.relation_semantics.specs.Settings.{Settings}
use Rattle.relation_semantics.specs.Errors.{outer_leaf, outer_head, outermost, AreAlike}
use Rattle.relation_semantics.specs.Errors.{IsDeferred}
use Rattle.relation_semantics.specs.Errors.{IsReadAs, itself}
use Rattle.relation_semantics.specs.Errors.{by_class, by_binding}
use Rattle.relation_semantics.specs.Agreeing.{IsFlexible, AreFlexible, IsLeftOpen, IsLeftAside, Agree}
use Rattle.relation_semantics.proofs.Deferring.{beside_is_opaque, opaque_is_alias}
use Rattle.relation_semantics.proofs.Related.{no_region_head}
use Rattle.relation_semantics.proofs.Standing.{stands_term, term_sort_of, itself_stands}

pub agree_anything : (set : Settings) (c : Items) (v : Variance) (a b : Tree) → v ≡ Bivariant → Agree set c (at v) a b
agree_anything set c v (node h xs) (node k ys) p = inl (inl p)
agree_anything set c v (bind ks a) (bind ls b) p = inl p
agree_anything set c v a b p = inl (inl p)

-- Two of one sort that are left open agree, so two that are left to a goal.
no_bound_goal : (set : Settings) (ks ls : List BoundKind) (a b : Tree) → IsLeftOpen set (bind ks a) (bind ls b) → ⊥
no_bound_goal set ks ls a b (inl (l, inl o)) = o
no_bound_goal set ks ls a b (inl (l, inr o)) = o
no_bound_goal set ks ls a b (inr (l, inl o)) = o
no_bound_goal set ks ls a b (inr (l, inr o)) = o

pub agree_open : (set : Settings) (c : Items) (v : Variance) (a b : Tree) → IsLeftOpen set a b → sort_of a ≡ sort_of b →
    Agree set c (at v) a b
agree_open set c v (node h xs) (node k ys) l s = inl (inr (l, s))
agree_open set c v (bind ks a) (bind ls b) l s = absurd (no_bound_goal set ks ls a b l)
agree_open set c v a b l s = inl (inr (l, s))

pub deferred_open : (set : Settings) (a b : Tree) → IsDeferred set a b → IsLeftOpen set a b
deferred_open set a b (inl l) = inl l
deferred_open set a b (inr (l, inl o)) = inr (l, inl (beside_is_opaque a b o))
deferred_open set a b (inr (l, inr o)) = inr (l, inr (beside_is_opaque b a o))

pub agree_left : (set : Settings) (c : Items) (v : Variance) (a b : Tree) → IsDeferred set a b →
    sort_of a ≡ sort_of b → Agree set c (at v) a b
agree_left set c v a b l s = agree_open set c v a b (deferred_open set a b l) s

-- Of two of which one is left open one is an alias.
pub open_alias : (set : Settings) (a b : Tree) → IsLeftOpen set a b → IsAlias a ⊎ IsAlias b
open_alias set a b (inl (l, o)) = o
open_alias set a b (inr (l, inl o)) = inl (opaque_is_alias a o)
open_alias set a b (inr (l, inr o)) = inr (opaque_is_alias b o)

pub agree_flexible : (set : Settings) (c : Items) (v : Variance) (a b : Tree) → AreFlexible a b → Agree set c (at v) a b
agree_flexible set c v (node h xs) (node k ys) (inl o, s) = absurd o
agree_flexible set c v (node h xs) (node k ys) (inr o, s) = absurd o
agree_flexible set c v (bind ks a) (bind ls b) (inl o, s) = absurd o
agree_flexible set c v (bind ks a) (bind ls b) (inr o, s) = absurd o
agree_flexible set c v a b o = inr (inl o)

mutual
  pub agree_itself : (set : Settings) (c : Items) (v : Variance) (a : Tree) → Agree set c (at v) a a
  agree_itself set c v (node h xs) = inr (refl, parts_themselves set c h 0 v xs)
  agree_itself set c v (bind ks a) = inr (agree_itself set c v a)
  agree_itself set c v a = inr (inr refl)

  pub parts_themselves : (set : Settings) (c : Items) (h : Head) (i : ℕ) (v : Variance) (xs : Tree) → Agree set c (parts h i v) xs xs
  parts_themselves set c h i v (cons x xs) = (agree_itself set c (part_at c h i v) x, parts_themselves set c h (suc i) v xs)
  parts_themselves set c h i v xs = refl

pub agree_same : (set : Settings) (c : Items) (v : Variance) (a b : Tree) → a ≡ b → Agree set c (at v) a b
agree_same set c v a b p = subst (λ z. Agree set c (at v) a z) p (agree_itself set c v a)

-- What agrees is of one sort.
plain_sort : (h : Head) → head_sort (plain h) ≡ head_sort h
plain_sort (alias k d) = refl
plain_sort (alias_term k d) = refl
plain_sort h = refl

outer_head_sort : (h : Head) → head_sort (outer_head h) ≡ head_sort h
outer_head_sort (adt d) = refl
outer_head_sort h = refl

plain_atom_sort : (x : Atom) → atom_sort (plain_atom x) ≡ atom_sort x
plain_atom_sort (type_param i n) = refl
plain_atom_sort (const_param i n) = refl
plain_atom_sort x = refl

outer_leaf_sort : (l : Leaf) → leaf_sort (outer_leaf l) ≡ leaf_sort l
outer_leaf_sort (variable k n) = refl
outer_leaf_sort (bound k d i) = refl
outer_leaf_sort (placeholder k u n) = refl
outer_leaf_sort (atom x) = plain_atom_sort x
outer_leaf_sort unknown = refl

outer_sort : (t : Tree) → sort_of (outermost t) ≡ sort_of t
outer_sort (leaf l) = outer_leaf_sort l
outer_sort (node h ts) = outer_head_sort h
outer_sort (bind ks t) = refl
outer_sort nil = refl
outer_sort (cons t ts) = refl

pub alike_sorts : (a b : Tree) → AreAlike a b → sort_of a ≡ sort_of b
alike_sorts a b e = sym (outer_sort a) ∙ ap sort_of e ∙ outer_sort b

aside_sorts : (set : Settings) (v : Variance) (a b : Tree) → IsLeftAside set v a b →
    (v ≡ Bivariant) ⊎ (sort_of a ≡ sort_of b)
aside_sorts set v a b (inl p) = inl p
aside_sorts set v a b (inr (l, s)) = inr s

sorts_by : (set : Settings) (v : Variance) (a b : Tree) → IsLeftAside set v a b ⊎ (AreFlexible a b ⊎ AreAlike a b) →
    (v ≡ Bivariant) ⊎ (sort_of a ≡ sort_of b)
sorts_by set v a b (inl p) = aside_sorts set v a b p
sorts_by set v a b (inr (inl o)) = inr o.1
sorts_by set v a b (inr (inr e)) = inr (alike_sorts a b e)

pub agree_sorts : (set : Settings) (c : Items) (v : Variance) (a b : Tree) → Agree set c (at v) a b →
    (v ≡ Bivariant) ⊎ (sort_of a ≡ sort_of b)
agree_sorts set c v (node h xs) (node k ys) (inl p) = aside_sorts set v (node h xs) (node k ys) p
agree_sorts set c v (node h xs) (node k ys) (inr r) = inr (sym (plain_sort h) ∙ ap head_sort r.0 ∙ plain_sort k)
agree_sorts set c v (bind ks a) (bind ls b) (inl p) = inl p
agree_sorts set c v (bind ks a) (bind ls b) (inr r) = inr refl
agree_sorts set c v a b g = sorts_by set v a b g

-- Where one of two is flexible they agree if both are of one sort.
pub agree_if_sorts : (set : Settings) (c : Items) (v : Variance) (a b : Tree) → (v ≡ Bivariant) ⊎ (sort_of a ≡ sort_of b) →
    IsFlexible a b ⊎ IsFlexible b a → Agree set c (at v) a b
agree_if_sorts set c v a b (inl p) o = agree_anything set c v a b p
agree_if_sorts set c v a b (inr s) o = agree_flexible set c v a b (o, s)

-- Regions do, and parameters of one index.
region_variable : (k : VarKind) (b : Tree) → var_sort k ≡ region_sort → IsNumberKind k → MayStandFor k b
region_variable int_var b p n = absurd cc
region_variable float_var b p n = absurd cc
region_variable k b p n = absurd n

pub region_flexible : (a b : Tree) → sort_of a ≡ region_sort → IsFlexible a b
region_flexible (leaf (variable k n)) b p = region_variable k b p
region_flexible (leaf (bound k d i)) b p = tt
region_flexible (leaf (placeholder k u n)) b p = p
region_flexible (leaf (atom x)) b p = inr p
region_flexible (leaf unknown) b p = absurd cc
region_flexible (node h ts) b p = absurd (no_region_head h p)
region_flexible (bind ks t) b p = absurd cc
region_flexible nil b p = absurd cc
region_flexible (cons t ts) b p = absurd cc

pub agree_regions : (set : Settings) (c : Items) (v : Variance) (a b : Tree) → sort_of a ≡ region_sort → sort_of b ≡ region_sort →
    Agree set c (at v) a b
agree_regions set c v a b p q = agree_flexible set c v a b (inl (region_flexible a b p), p ∙ sym q)

pub agree_atoms : (set : Settings) (c : Items) (v : Variance) (x y : Atom) → plain_atom x ≡ plain_atom y →
    Agree set c (at v) (leaf (atom x)) (leaf (atom y))
agree_atoms set c v x y p = inr (inr (ap (λ z. leaf (atom z)) p))

-- So do the parts of two forms, if as many at each place.
pub agree_parts : (set : Settings) (c : Items) (h : Head) (i : ℕ) (v : Variance) (xs ys : Tree) → count xs ≡ count ys →
    ((j : ℕ) → j < count xs → Agree set c (at (part_at c h (i + j) v)) (nth j xs) (nth j ys)) → Agree set c (parts h i v) xs ys
agree_parts set c h i v (cons a xs) (cons b ys) e f = (
  subst (λ j. Agree set c (at (part_at c h j v)) a b) (omega arith) (f zero (omega arith)),
  agree_parts set c h (suc i) v xs ys (omega (arith, e)) (λ j l.
      subst (λ k. Agree set c (at (part_at c h k v)) (nth j xs) (nth j ys)) (omega arith) (f (suc j) (omega (arith, l)))),
)
agree_parts set c h i v xs ys e f = e

-- A variable agrees with what may stand for it, and with what that agrees with.
pub stands_sort : (k : VarKind) (t : Tree) → MayStandFor k t → sort_of t ≡ var_sort k
stands_sort k t h = term_sort_of k t (stands_term k t h)

pub agree_root : (set : Settings) (c : Items) (v : Variance) (k : VarKind) (n : ℕ) (a b : Tree) → a ≡ leaf (variable k n) →
    MayStandFor k b → Agree set c (at v) a b
agree_root set c v k n a b e h =
    agree_flexible set c v a b (inl (subst (λ z. IsFlexible z b) (sym e) (λ i. h)), ap sort_of e ∙ sym (stands_sort k b h))

pub agree_root_back : (set : Settings) (c : Items) (v : Variance) (k : VarKind) (n : ℕ) (a b : Tree) → b ≡ leaf (variable k n) →
    MayStandFor k a → Agree set c (at v) a b
agree_root_back set c v k n a b e h =
    agree_flexible set c v a b (inr (subst (λ z. IsFlexible z a) (sym e) (λ i. h)), stands_sort k a h ∙ sym (ap sort_of e))

-- What may stand for a variable of a number: neither an alias, nor what agrees with a term of another kind.
number_no_alias : (k : VarKind) (u : Tree) → IsNumberKind k → MayStandFor k u → IsAlias u → ⊥
number_no_alias int_var (leaf l) i h o = o
number_no_alias int_var u i h o = h
number_no_alias float_var (leaf l) i h o = o
number_no_alias float_var u i h o = h
number_no_alias k u i h o = i

integer_rigid : (x : Atom) → IsIntegerAtom x → IsErrorAtom x ⊎ (atom_sort x ≡ region_sort) → ⊥
integer_rigid (int_type w) h (inl e) = e
integer_rigid (int_type w) h (inr s) = absurd cc
integer_rigid (uint_type w) h (inl e) = e
integer_rigid (uint_type w) h (inr s) = absurd cc
integer_rigid x h o = h

float_rigid : (x : Atom) → IsFloatAtom x → IsErrorAtom x ⊎ (atom_sort x ≡ region_sort) → ⊥
float_rigid (float_type w) h (inl e) = e
float_rigid (float_type w) h (inr s) = absurd cc
float_rigid x h o = h

number_flexible : (k : VarKind) (u w : Tree) → IsNumberKind k → MayStandFor k u → IsFlexible u w → MayStandFor k w
number_flexible int_var (leaf (variable int_var n)) w i h o = o tt
number_flexible int_var (leaf (atom x)) w i h o = absurd (integer_rigid x h o)
number_flexible int_var u w i h o = absurd h
number_flexible float_var (leaf (variable float_var n)) w i h o = o tt
number_flexible float_var (leaf (atom x)) w i h o = absurd (float_rigid x h o)
number_flexible float_var u w i h o = absurd h
number_flexible k u w i h o = absurd i

integer_plain : (x : Atom) → (IsIntegerAtom x → IsIntegerAtom (plain_atom x)) × (IsIntegerAtom (plain_atom x) → IsIntegerAtom x)
integer_plain (type_param i n) = (λ h. h, λ h. h)
integer_plain (const_param i n) = (λ h. h, λ h. h)
integer_plain x = (λ h. h, λ h. h)

float_plain : (x : Atom) → (IsFloatAtom x → IsFloatAtom (plain_atom x)) × (IsFloatAtom (plain_atom x) → IsFloatAtom x)
float_plain (type_param i n) = (λ h. h, λ h. h)
float_plain (const_param i n) = (λ h. h, λ h. h)
float_plain x = (λ h. h, λ h. h)

atom_path : {x y : Atom} → leaf (atom x) ≡ leaf (atom y) → x ≡ y
atom_path e = cc

number_alike : (k : VarKind) (u w : Tree) → IsNumberKind k → MayStandFor k u → AreAlike u w → MayStandFor k w
number_alike int_var (leaf (variable int_var n)) w i h e = like w e
  where
    like : (w : Tree) → leaf (variable int_var n) ≡ outermost w → IsIntegerTerm w
    like (leaf (variable j m)) p = let z : int_var ≡ j = cc in subst (λ q. IsIntegerTerm (leaf (variable q m))) z tt
    like (leaf (bound q d m)) p = absurd cc
    like (leaf (placeholder q d m)) p = absurd cc
    like (leaf (atom y)) p = absurd cc
    like (leaf unknown) p = absurd cc
    like (node a t) p = absurd cc
    like (bind ls t) p = absurd cc
    like nil p = absurd cc
    like (cons t ts) p = absurd cc
number_alike int_var (leaf (atom x)) w i h e = like w e
  where
    like : (w : Tree) → leaf (atom (plain_atom x)) ≡ outermost w → IsIntegerTerm w
    like (leaf (variable j m)) p = absurd cc
    like (leaf (bound q d m)) p = absurd cc
    like (leaf (placeholder q d m)) p = absurd cc
    like (leaf (atom y)) p = (integer_plain y).1 (subst IsIntegerAtom (atom_path p) ((integer_plain x).0 h))
    like (leaf unknown) p = absurd cc
    like (node a t) p = absurd cc
    like (bind ls t) p = absurd cc
    like nil p = absurd cc
    like (cons t ts) p = absurd cc
number_alike int_var u w i h e = absurd h
number_alike float_var (leaf (variable float_var n)) w i h e = like w e
  where
    like : (w : Tree) → leaf (variable float_var n) ≡ outermost w → IsFloatTerm w
    like (leaf (variable j m)) p = let z : float_var ≡ j = cc in subst (λ q. IsFloatTerm (leaf (variable q m))) z tt
    like (leaf (bound q d m)) p = absurd cc
    like (leaf (placeholder q d m)) p = absurd cc
    like (leaf (atom y)) p = absurd cc
    like (leaf unknown) p = absurd cc
    like (node a t) p = absurd cc
    like (bind ls t) p = absurd cc
    like nil p = absurd cc
    like (cons t ts) p = absurd cc
number_alike float_var (leaf (atom x)) w i h e = like w e
  where
    like : (w : Tree) → leaf (atom (plain_atom x)) ≡ outermost w → IsFloatTerm w
    like (leaf (variable j m)) p = absurd cc
    like (leaf (bound q d m)) p = absurd cc
    like (leaf (placeholder q d m)) p = absurd cc
    like (leaf (atom y)) p = (float_plain y).1 (subst IsFloatAtom (atom_path p) ((float_plain x).0 h))
    like (leaf unknown) p = absurd cc
    like (node a t) p = absurd cc
    like (bind ls t) p = absurd cc
    like nil p = absurd cc
    like (cons t ts) p = absurd cc
number_alike float_var u w i h e = absurd h
number_alike k u w i h e = absurd i

-- What stands for variables of numbers of two kinds tells that they are one.
no_float : (x : Atom) → IsIntegerAtom x → IsFloatAtom x → ⊥
no_float (int_type w) h k = k
no_float (uint_type w) h k = k
no_float x h k = h

one_kind : (j k : VarKind) (u : Tree) → IsNumberKind j → IsNumberKind k → MayStandFor j u → MayStandFor k u → j ≡ k
one_kind int_var int_var u i l h m = refl
one_kind float_var float_var u i l h m = refl
one_kind int_var float_var (leaf (atom x)) i l h m = absurd (no_float x h m)
one_kind int_var float_var (leaf (variable float_var n)) i l h m = absurd h
one_kind int_var float_var u i l h m = absurd m
one_kind float_var int_var (leaf (atom x)) i l h m = absurd (no_float x m h)
one_kind float_var int_var (leaf (variable int_var n)) i l h m = absurd h
one_kind float_var int_var u i l h m = absurd m
one_kind j int_var u i l h m = absurd i
one_kind j float_var u i l h m = absurd i
one_kind j k u i l h m = absurd l

-- Two agree, where one is no form and no binder.
abbrev pub Meet : Settings → Variance → Tree → Tree → Type 0
Meet set v a b = IsLeftAside set v a b ⊎ (AreFlexible a b ⊎ AreAlike a b)

meet_back : (set : Settings) (v : Variance) (a b : Tree) → Meet set v a b → Meet set v b a
meet_back set v a b (inl (inl e)) = inl (inl e)
meet_back set v a b (inl (inr (inl (l, inl o), s))) = inl (inr (inl (l, inr o), sym s))
meet_back set v a b (inl (inr (inl (l, inr o), s))) = inl (inr (inl (l, inl o), sym s))
meet_back set v a b (inl (inr (inr (l, inl o), s))) = inl (inr (inr (l, inr o), sym s))
meet_back set v a b (inl (inr (inr (l, inr o), s))) = inl (inr (inr (l, inl o), sym s))
meet_back set v a b (inr (inl (inl o, s))) = inr (inl (inr o, sym s))
meet_back set v a b (inr (inl (inr o, s))) = inr (inl (inl o, sym s))
meet_back set v a b (inr (inr e)) = inr (inr (sym e))

meet_right : (set : Settings) (c : Items) (v : Variance) (a : Tree) (m : Leaf) →
    (Agree set c (at v) a (leaf m) → Meet set v a (leaf m)) × (Meet set v a (leaf m) → Agree set c (at v) a (leaf m))
meet_right set c v (leaf l) m = (λ g. g, λ g. g)
meet_right set c v (node h ts) m = (λ g. g, λ g. g)
meet_right set c v (bind ks t) m = (λ g. g, λ g. g)
meet_right set c v nil m = (λ g. g, λ g. g)
meet_right set c v (cons t ts) m = (λ g. g, λ g. g)

-- What agrees with what may stand for a variable agrees with that.
module _ (set : Settings) (c : Items) (v : Variance) where
  -- A leaf that agrees with all of its sort does so with a variable in the place of a number.
  flexible_beside : (k : VarKind) (n : ℕ) (u w : Tree) → IsNumberKind k → MayStandFor k u → IsFlexible w u →
      IsFlexible w (leaf (variable k n))
  flexible_beside k n u (leaf (variable j m)) i h o =
      λ l. subst (λ z. MayStandFor z (leaf (variable k n))) (one_kind k j u i l h (o l)) (itself_stands k n)
  flexible_beside k n u (leaf (bound q d m)) i h o = tt
  flexible_beside k n u (leaf (placeholder q d m)) i h o = o
  flexible_beside k n u (leaf (atom x)) i h o = o
  flexible_beside k n u (leaf unknown) i h o = o
  flexible_beside k n u w i h o = absurd o

  number_meets : (k : VarKind) (n : ℕ) (u w : Tree) → IsNumberKind k → MayStandFor k u → Meet set v u w →
      Meet set v (leaf (variable k n)) w
  number_meets k n u w i h g = go g
    where
      sorts : sort_of u ≡ sort_of w → var_sort k ≡ sort_of w
      sorts s = sym (stands_sort k u h) ∙ s

      stands : MayStandFor k w → Meet set v (leaf (variable k n)) w
      stands o = inr (inl (inl (λ j. o), sym (stands_sort k w o)))

      go : Meet set v u w → Meet set v (leaf (variable k n)) w
      go (inl (inl e)) = inl (inl e)
      go (inl (inr (inl (l, inl o), s))) = absurd (number_no_alias k u i h o)
      go (inl (inr (inl (l, inr o), s))) = inl (inr (inl (l, inr o), sorts s))
      go (inl (inr (inr (l, inl o), s))) = absurd (number_no_alias k u i h (opaque_is_alias u o))
      go (inl (inr (inr (l, inr o), s))) = inl (inr (inr (l, inr o), sorts s))
      go (inr (inl (inl o, s))) = stands (number_flexible k u w i h o)
      go (inr (inl (inr o, s))) = inr (inl (inr (flexible_beside k n u w i h o), sorts s))
      go (inr (inr e)) = stands (number_alike k u w i h e)

  number_leaf : (k : VarKind) (u : Tree) → IsNumberKind k → MayStandFor k u → (l : Leaf) × (u ≡ leaf l)
  number_leaf int_var (leaf l) i h = (l, refl)
  number_leaf int_var u i h = absurd h
  number_leaf float_var (leaf l) i h = (l, refl)
  number_leaf float_var u i h = absurd h
  number_leaf k u i h = absurd i

  is_number_kind : (k : VarKind) → IsNumberKind k ⊎ (IsNumberKind k → ⊥)
  is_number_kind int_var = inl tt
  is_number_kind float_var = inl tt
  is_number_kind k = inr (λ i. i)

  by_sorts : (k : VarKind) (n : ℕ) (u w : Tree) → (IsNumberKind k → ⊥) → MayStandFor k u →
      (v ≡ Bivariant) ⊎ (sort_of u ≡ sort_of w) → Agree set c (at v) (leaf (variable k n)) w
  by_sorts k n u w o h (inl e) = inl (inl e)
  by_sorts k n u w o h (inr s) = inr (inl (inl (λ i. absurd (o i)), sym (stands_sort k u h) ∙ s))

  by_sorts_back : (k : VarKind) (n : ℕ) (u w : Tree) → (IsNumberKind k → ⊥) → MayStandFor k w →
      (v ≡ Bivariant) ⊎ (sort_of u ≡ sort_of w) → Meet set v u (leaf (variable k n))
  by_sorts_back k n u w o h (inl e) = inl (inl e)
  by_sorts_back k n u w o h (inr s) = inr (inl (inr (λ i. absurd (o i)), s ∙ stands_sort k w h))

  pub stands_agree : (k : VarKind) (n : ℕ) (u w : Tree) → MayStandFor k u → Agree set c (at v) u w →
      Agree set c (at v) (leaf (variable k n)) w
  stands_agree k n u w h g = go (is_number_kind k)
    where
      go : IsNumberKind k ⊎ (IsNumberKind k → ⊥) → Agree set c (at v) (leaf (variable k n)) w
      go (inl i) = let l = number_leaf k u i h in
          number_meets k n (leaf l.0) w i (subst (MayStandFor k) l.1 h) (subst (λ z. Agree set c (at v) z w) l.1 g)
      go (inr o) = by_sorts k n u w o h (agree_sorts set c v u w g)

  pub stands_agree_back : (k : VarKind) (n : ℕ) (u w : Tree) → MayStandFor k w → Agree set c (at v) u w →
      Agree set c (at v) u (leaf (variable k n))
  stands_agree_back k n u w h g = (meet_right set c v u (variable k n)).1 (go (is_number_kind k))
    where
      go : IsNumberKind k ⊎ (IsNumberKind k → ⊥) → Meet set v u (leaf (variable k n))
      go (inl i) = let l = number_leaf k w i h in
          meet_back set v (leaf (variable k n)) u (number_meets k n (leaf l.0) u i (subst (MayStandFor k) l.1 h)
          (meet_back set v u (leaf l.0) ((meet_right set c v u l.0).0 (subst (Agree set c (at v) u) l.1 g))))
      go (inr o) = by_sorts_back k n u w o h (agree_sorts set c v u w g)

-- A term is another, or a variable for which that may stand.
abbrev pub ComesTo : Tree → Tree → Type 0
ComesTo a u = (a ≡ u) ⊎ ((k : VarKind) × (n : ℕ) × (a ≡ leaf (variable k n)) × MayStandFor k u)

pub agree_before : (set : Settings) (c : Items) (v : Variance) (a b u w : Tree) → ComesTo a u → ComesTo b w →
    Agree set c (at v) u w → Agree set c (at v) a b
agree_before set c v a b u w p q g = right q (left p g)
  where
    left : ComesTo a u → Agree set c (at v) u w → Agree set c (at v) a w
    left (inl e) f = subst (λ z. Agree set c (at v) z w) (sym e) f
    left (inr z) f = subst (λ y. Agree set c (at v) y w) (sym z.2) (stands_agree set c v z.0 z.1 u w z.3 f)

    right : ComesTo b w → Agree set c (at v) a w → Agree set c (at v) a b
    right (inl e) f = subst (Agree set c (at v) a) (sym e) f
    right (inr z) f = subst (Agree set c (at v) a) (sym z.2) (stands_agree_back set c v z.0 z.1 a w z.3 f)

-- What is read of a variable may stand for it.
stands_through : (k j : VarKind) (i : ℕ) (u : Tree) → MayStandFor k (leaf (variable j i)) → MayStandFor j u → MayStandFor k u
stands_through type_var j i u h m =
    subst (λ z. IsTerm z u) (stands_sort type_var (leaf (variable j i)) h) (stands_term j u m)
stands_through const_var j i u h m =
    subst (λ z. IsTerm z u) (stands_sort const_var (leaf (variable j i)) h) (stands_term j u m)
stands_through region_var j i u h m =
    subst (λ z. IsTerm z u) (stands_sort region_var (leaf (variable j i)) h) (stands_term j u m)
stands_through int_var int_var i u h m = m
stands_through int_var j i u h m = absurd h
stands_through float_var float_var i u h m = m
stands_through float_var j i u h m = absurd h

pub read_comes : (st : Store) → IsSound st → (t u : Tree) → IsReadAs st t u → ComesTo t u
read_comes st g t u (itself e) = inl e
read_comes st g t u (by_class k n m e c r) = inr (k, n, e, go (read_comes st g (leaf (variable k m)) u r))
  where
    go : ComesTo (leaf (variable k m)) u → MayStandFor k u
    go (inl e) = subst (MayStandFor k) e (itself_stands k m)
    go (inr z) = let p = z.2 in let same : z.0 ≡ k = cc p in subst (λ j. MayStandFor j u) same z.3
read_comes st g t u (by_binding {u = x} k n e b r) = inr (k, n, e, go (read_comes st g x u r))
  where
    stands : MayStandFor k x
    stands = (g.bindings k n x (ap (entry_term k) b)).stands

    go : ComesTo x u → MayStandFor k u
    go (inl e) = subst (MayStandFor k) e stands
    go (inr z) = stands_through k z.0 z.1 u (subst (MayStandFor k) z.2 stands) z.3

pub agree_read : (set : Settings) (c : Items) (st : Store) → IsSound st → (v : Variance) (a b u w : Tree) → IsReadAs st a u →
    IsReadAs st b w → Agree set c (at v) u w → Agree set c (at v) a b
agree_read set c st g v a b u w p q h = agree_before set c v a b u w (read_comes st g a u p) (read_comes st g b w q) h
