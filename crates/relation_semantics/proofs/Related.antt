-- What small terms in the relation satisfy.
use Rattle.std.proofs.Common.{◌≡◌, ◌≢◌, ◌⊎◌, ℕ, suc, refl, sym, inl, inr, subst, ap, List}
use Rattle.term_enums.specs.declared.Variance.{Variance}
use Rattle.term_enums.specs.declared.Variance.TheVariants.{Covariant, Contravariant, Invariant, Bivariant}
use Rattle.relation_terms.specs.Heads.{region_sort, type_sort, const_sort, Atom, type_error, const_error, type_param, const_param, atom, Head, head_sort, atom_sort, adt, host_effect, subtype, region_outlives, type_outlives, projection, const_has_type, well_formed, const_evaluatable, coerce, normalizes_to, alias_relate, environment, BoundKind}
use Rattle.relation_terms.specs.Trees.{Tree, leaf, node, bind, nil, cons, IsList}
use Rattle.relation_semantics.specs.Relation.{Items, Interpretation, parts, second_opened, first_opened, Rel, at, same, anything, error_left, error_right, regions, alias_types, equal_consts, atoms, forms, no_parts, next_part, covariant_binders, contravariant_binders, invariant_binders, itself, sort_of, plain_atom, IsError, IsErrorAtom, IsAlias, RegionRule, plain, IsAliasHead, IsRelatedHead, AliasRule}
use Rattle.relation_terms.proofs.Paths.{head_path, parts_path}

pub neither : {A : Type 0} → ⊥ ⊎ ⊥ → A
neither (inl h) = absurd h
neither (inr h) = absurd h

pub neither_of : {A : Type 0} (a b : Tree) → (IsAlias a → ⊥) → (IsAlias b → ⊥) → IsAlias a ⊎ IsAlias b → A
neither_of a b p q (inl h) = absurd (p h)
neither_of a b p q (inr h) = absurd (q h)

-- A pair of the environment has an alias in it.
pub rigid_rule : {A : Type 0} (w : Interpretation) (e : Tree) (v : Variance) (a b : Tree) → v ≢ Bivariant → (IsAlias a → ⊥) → (IsAlias b → ⊥) → AliasRule w e v a b → A
rigid_rule w e Covariant a b n p q r = neither_of a b p q r.1
rigid_rule w e Contravariant a b n p q r = neither_of b a q p r.1
rigid_rule w e Invariant a b n p q r = neither_of a b p q r.1
rigid_rule w e Bivariant a b n p q r = absurd (n refl)

-- No error is a region.
no_error_region_atom : (x : Atom) → IsErrorAtom x → sort_of (leaf (atom x)) ≡ region_sort → ⊥
no_error_region_atom type_error h p = cc
no_error_region_atom const_error h p = cc
no_error_region_atom x h p = h

pub no_error_region : (a : Tree) → IsError a → sort_of a ≡ region_sort → ⊥
no_error_region (leaf (atom x)) h p = no_error_region_atom x h p
no_error_region t h p = h

pub no_region_head : (h : Head) → head_sort h ≡ region_sort → ⊥
no_region_head (adt d) p = cc
no_region_head h p = cc

-- A region's form says what relating looks at.
plain_region : (x : Atom) → atom_sort x ≡ region_sort → plain_atom x ≡ x
plain_region (type_param i n) p = absurd cc
plain_region (const_param i n) p = absurd cc
plain_region x p = refl

pub same_region : (x y : Atom) → atom_sort x ≡ region_sort → atom_sort y ≡ region_sort → plain_atom x ≡ plain_atom y → leaf (atom x) ≡ leaf (atom y)
same_region x y p q e = cc (plain_region x p, plain_region y q)

pub rule_same : (w : Interpretation) (v : Variance) (a b : Tree) → a ≡ b → RegionRule w v a b
rule_same w Covariant a b p = itself p
rule_same w Contravariant a b p = itself (sym p)
rule_same w Invariant a b p = (itself p, itself (sym p))
rule_same w Bivariant a b p = tt

rule_anything : (w : Interpretation) (v : Variance) (a b : Tree) → v ≡ Bivariant → RegionRule w v a b
rule_anything w Bivariant a b p = tt
rule_anything w v a b p = absurd cc

-- Two regions in the relation are as the rule of regions says.
pub region_of : {c : Items} {w : Interpretation} {e : Tree} {v : Variance} {a b : Tree} → Rel c w e (at v) a b → sort_of a ≡ region_sort → sort_of b ≡ region_sort → RegionRule w v a b
region_of {w = w} {v = v} {a = a} {b = b} (same p) _ _ = rule_same w v a b p
region_of {w = w} {v = v} {a = a} {b = b} (anything p) _ _ = rule_anything w v a b p
region_of {a = a} (error_left h _) p _ = absurd (no_error_region a h p)
region_of {b = b} (error_right h _) _ p = absurd (no_error_region b h p)
region_of (regions _ _ r) _ _ = r
region_of (alias_types p _ _) q _ = absurd cc
region_of (equal_consts p _ _) q _ = absurd cc
region_of {w = w} {v = v} (atoms {x = x} {y = y} p) q r = rule_same w v (leaf (atom x)) (leaf (atom y)) (same_region x y q r p)
region_of (forms {h = h} i p r) q _ = absurd (no_region_head h q)
region_of (covariant_binders p r) q _ = absurd cc
region_of (contravariant_binders p r) q _ = absurd cc
region_of (invariant_binders p r _) q _ = absurd cc

-- A list of parts with itself.
pub parts_same : (c : Items) (w : Interpretation) (e : Tree) (h : Head) (i : ℕ) (v : Variance) (xs : Tree) → IsList xs → Rel c w e (parts h i v) xs xs
parts_same c w e h i v nil l = no_parts
parts_same c w e h i v (cons x xs) l = next_part (same refl) (parts_same c w e h (suc i) v xs l)
parts_same c w e h i v xs l = absurd l

forms_same : (c : Items) (w : Interpretation) (e : Tree) (h k : Head) (v : Variance) (xs ys : Tree) → IsList xs → node h xs ≡ node k ys → (plain h ≡ plain k) × Rel c w e (parts h 0 v) xs ys
forms_same c w e h k v xs ys l p = (ap plain (head_path p), subst (λ z. Rel c w e (parts h 0 v) xs z) (parts_path p) (parts_same c w e h 0 v xs l))

-- Rigid forms in the relation have related parts.
pub forms_inverted : {c : Items} {w : Interpretation} {e : Tree} {v : Variance} {h k : Head} {xs ys : Tree} → v ≢ Bivariant → (IsAliasHead h → ⊥) → (IsAliasHead k → ⊥) → IsList xs → Rel c w e (at v) (node h xs) (node k ys) → (plain h ≡ plain k) × Rel c w e (parts h 0 v) xs ys
forms_inverted {c = c} {w = w} {e = e} {v = v} {h = h} {k = k} {xs = xs} {ys = ys} n rh rk l (same p) = forms_same c w e h k v xs ys l p
forms_inverted n rh rk l (anything p) = absurd (n p)
forms_inverted n rh rk l (error_left i _) = absurd i
forms_inverted n rh rk l (error_right i _) = absurd i
forms_inverted {h = h} n rh rk l (regions p _ _) = absurd (no_region_head h p)
forms_inverted {w = w} {e = e} {v = v} {h = h} {k = k} {xs = xs} {ys = ys} n rh rk l (alias_types _ _ r) = rigid_rule w e v (node h xs) (node k ys) n rh rk r
forms_inverted {h = h} {k = k} {xs = xs} {ys = ys} n rh rk l (equal_consts _ _ r) = neither_of (node h xs) (node k ys) rh rk r.1
forms_inverted n rh rk l (forms _ p r) = (p, r)

-- Rigid forms in the relation have one head.
pub heads_inverted : {c : Items} {w : Interpretation} {e : Tree} {v : Variance} {h k : Head} {xs ys : Tree} → v ≢ Bivariant → (IsAliasHead h → ⊥) → (IsAliasHead k → ⊥) → Rel c w e (at v) (node h xs) (node k ys) → plain h ≡ plain k
heads_inverted n rh rk (same p) = ap plain (head_path p)
heads_inverted n rh rk (anything p) = absurd (n p)
heads_inverted n rh rk (error_left i _) = absurd i
heads_inverted n rh rk (error_right i _) = absurd i
heads_inverted {h = h} n rh rk (regions p _ _) = absurd (no_region_head h p)
heads_inverted {w = w} {e = e} {v = v} {h = h} {k = k} {xs = xs} {ys = ys} n rh rk (alias_types _ _ r) = rigid_rule w e v (node h xs) (node k ys) n rh rk r
heads_inverted {h = h} {k = k} {xs = xs} {ys = ys} n rh rk (equal_consts _ _ r) = neither_of (node h xs) (node k ys) rh rk r.1
heads_inverted n rh rk (forms _ p r) = p

-- What has no relation is neither type nor constant.
other_sort : (h : Head) → (IsRelatedHead h → ⊥) → (head_sort h ≡ type_sort) ⊎ (head_sort h ≡ const_sort) → ⊥
other_sort (host_effect x) i (inl p) = cc
other_sort (host_effect x) i (inr p) = cc
other_sort (subtype x) i (inl p) = cc
other_sort (subtype x) i (inr p) = cc
other_sort region_outlives i (inl p) = cc
other_sort region_outlives i (inr p) = cc
other_sort type_outlives i (inl p) = cc
other_sort type_outlives i (inr p) = cc
other_sort projection i (inl p) = cc
other_sort projection i (inr p) = cc
other_sort const_has_type i (inl p) = cc
other_sort const_has_type i (inr p) = cc
other_sort well_formed i (inl p) = cc
other_sort well_formed i (inr p) = cc
other_sort const_evaluatable i (inl p) = cc
other_sort const_evaluatable i (inr p) = cc
other_sort coerce i (inl p) = cc
other_sort coerce i (inr p) = cc
other_sort normalizes_to i (inl p) = cc
other_sort normalizes_to i (inr p) = cc
other_sort (alias_relate d) i (inl p) = cc
other_sort (alias_relate d) i (inr p) = cc
other_sort environment i (inl p) = cc
other_sort environment i (inr p) = cc
other_sort h i p = i tt

-- Predicates that have no relation are related with themselves alone.
pub others_inverted : {c : Items} {w : Interpretation} {e : Tree} {v : Variance} {h k : Head} {xs ys : Tree} → v ≢ Bivariant → (IsRelatedHead h → ⊥) → Rel c w e (at v) (node h xs) (node k ys) → node h xs ≡ node k ys
others_inverted n i (same p) = p
others_inverted n i (anything p) = absurd (n p)
others_inverted n i (error_left j _) = absurd j
others_inverted n i (error_right j _) = absurd j
others_inverted {h = h} n i (regions p _ _) = absurd (no_region_head h p)
others_inverted {h = h} n i (alias_types p _ _) = absurd (other_sort h i (inl p))
others_inverted {h = h} n i (equal_consts p _ _) = absurd (other_sort h i (inr p))
others_inverted n i (forms j _ _) = absurd (i j)

-- Rigid forms without parts in the relation are alike but for a parameter's name, or errors.
pub atoms_inverted : {c : Items} {w : Interpretation} {e : Tree} {v : Variance} {x y : Atom} → v ≢ Bivariant → (IsErrorAtom x → ⊥) → (IsErrorAtom y → ⊥) → (atom_sort x ≡ region_sort → ⊥) → Rel c w e (at v) (leaf (atom x)) (leaf (atom y)) → plain_atom x ≡ plain_atom y
atoms_inverted n i j q (same p) = ap plain_atom (atom_path p)
  where
    atom_path : {x y : Atom} → leaf (atom x) ≡ leaf (atom y) → x ≡ y
    atom_path e = cc
atoms_inverted n i j q (anything p) = absurd (n p)
atoms_inverted n i j q (error_left h _) = absurd (i h)
atoms_inverted n i j q (error_right h _) = absurd (j h)
atoms_inverted n i j q (regions p _ _) = absurd (q p)
atoms_inverted {w = w} {e = e} {v = v} {x = x} {y = y} n i j q (alias_types _ _ r) = rigid_rule w e v (leaf (atom x)) (leaf (atom y)) n (λ h. h) (λ h. h) r
atoms_inverted n i j q (equal_consts _ _ r) = neither r.1
atoms_inverted n i j q (atoms p) = p

-- Binders in the relation, opened.
pub covariant_opened : {c : Items} {w : Interpretation} {e : Tree} {ks ls : List BoundKind} {a b : Tree} → (bind ks a ≡ bind ls b → ⊥) → Rel c w e (at Covariant) (bind ks a) (bind ls b) → Rel c w e (second_opened ks ls Covariant) a b
covariant_opened n (same p) = absurd (n p)
covariant_opened n (anything e) = absurd cc
covariant_opened n (error_left h _) = absurd h
covariant_opened n (error_right h _) = absurd h
covariant_opened n (regions e _ _) = absurd cc
covariant_opened n (alias_types e _ r) = absurd cc
covariant_opened n (equal_consts e _ _) = absurd cc
covariant_opened n (covariant_binders _ r) = r
covariant_opened n (contravariant_binders p r) = absurd cc
covariant_opened n (invariant_binders p r _) = absurd cc

pub invariant_opened : {c : Items} {w : Interpretation} {e : Tree} {ks ls : List BoundKind} {a b : Tree} → (bind ks a ≡ bind ls b → ⊥) → Rel c w e (at Invariant) (bind ks a) (bind ls b) → Rel c w e (second_opened ks ls Invariant) a b × Rel c w e (first_opened ks ls Invariant) a b
invariant_opened n (same p) = absurd (n p)
invariant_opened n (anything e) = absurd cc
invariant_opened n (error_left h _) = absurd h
invariant_opened n (error_right h _) = absurd h
invariant_opened n (regions e _ _) = absurd cc
invariant_opened n (alias_types e _ r) = absurd cc
invariant_opened n (equal_consts e _ _) = absurd cc
invariant_opened n (covariant_binders p r) = absurd cc
invariant_opened n (contravariant_binders p r) = absurd cc
invariant_opened n (invariant_binders _ r q) = (r, q)

-- A form with parts and one without are never related, errors and aliases aside.
pub no_form_left : {c : Items} {w : Interpretation} {e : Tree} {v : Variance} {x : Atom} {h : Head} {ts : Tree} → v ≢ Bivariant → (IsErrorAtom x → ⊥) → (IsAliasHead h → ⊥) → Rel c w e (at v) (leaf (atom x)) (node h ts) → ⊥
no_form_left n i r (same p) = cc
no_form_left n i r (anything p) = n p
no_form_left n i r (error_left j _) = i j
no_form_left n i r (error_right j _) = j
no_form_left {h = h} n i r (regions _ p _) = no_region_head h p
no_form_left {w = w} {e = e} {v = v} {x = x} {h = h} {ts = ts} n i r (alias_types _ _ p) = rigid_rule w e v (leaf (atom x)) (node h ts) n (λ q. q) r p
no_form_left {x = x} {h = h} {ts = ts} n i r (equal_consts _ _ p) = neither_of (leaf (atom x)) (node h ts) (λ q. q) r p.1

pub no_form_right : {c : Items} {w : Interpretation} {e : Tree} {v : Variance} {x : Atom} {h : Head} {ts : Tree} → v ≢ Bivariant → (IsErrorAtom x → ⊥) → (IsAliasHead h → ⊥) → Rel c w e (at v) (node h ts) (leaf (atom x)) → ⊥
no_form_right n i r (same p) = cc
no_form_right n i r (anything p) = n p
no_form_right n i r (error_left j _) = j
no_form_right n i r (error_right j _) = i j
no_form_right {h = h} n i r (regions p _ _) = no_region_head h p
no_form_right {w = w} {e = e} {v = v} {x = x} {h = h} {ts = ts} n i r (alias_types _ _ p) = rigid_rule w e v (node h ts) (leaf (atom x)) n r (λ q. q) p
no_form_right {x = x} {h = h} {ts = ts} n i r (equal_consts _ _ p) = neither_of (node h ts) (leaf (atom x)) r (λ q. q) p.1
