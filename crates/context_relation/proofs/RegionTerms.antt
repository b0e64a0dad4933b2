-- Terms with binders of regions alone, where all regions outlive each other.
use Rattle.std.proofs.Common.{◌≡◌, ◌⊎◌, ℕ, zero, suc, refl, sym, ap, ap₂, ◌∙◌, inl, inr, ⊎_elim, subst, subst₂, List, [], ◌∷◌, map, None, nat_eq, cond, Bool, true, false, ◌+◌, ◌≤◌, arith}
use Rattle.term_enums.specs.declared.Variance.{Variance}
use Rattle.term_enums.specs.declared.Variance.TheVariants.{Covariant, Contravariant, Invariant, Bivariant}
use Rattle.relation_terms.specs.Heads.{Sort, region_kind, type_kind, const_kind, BoundKind, bound_kind, bound_sort, region_var, region_sort, term_of, one, leaf_sort, Leaf, Atom, atom_sort, type_param, const_param, static_region, early_region, atom, variable, bound, placeholder, unknown, Head, value_type, alias, alias_term, unevaluated, host_effect, subtype, region_outlives, type_outlives, projection, const_has_type, well_formed, const_evaluatable, coerce, normalizes_to, alias_relate, environment}
use Rattle.relation_terms.specs.Trees.{Tree, leaf, node, bind, nil, cons, Leaves, inst, put, tree_at, size, IsList, IsTerm}
use Rattle.relation_terms.specs.Erasure.{erase, erase_leaf, erase_atom, kept_parts}
use Rattle.relation_semantics.specs.Binders.{placeholders_from}
use Rattle.relation_semantics.specs.Relation.{Items, Interpretation, parts, second_opened, first_opened, Rel, at, same, anything, error_left, error_right, regions, alias_types, equal_consts, atoms, forms, no_parts, next_part, covariant_binders, contravariant_binders, invariant_binders, open_second, open_first, part_at, plain, plain_atom, sort_of, IsError, IsErrorAtom, IsAlias, IsAliasHead, IsRelatedHead, AliasRule, IsValueLeaf, FitKinds, Fresh, RegionRule, all_outlive}
use Rattle.relation_semantics.specs.FirstOrder.{IsFirstOrderAtom}
use Rattle.relation_semantics.specs.Stores.{IsNamable}
use Rattle.relation_semantics.specs.Asking.{BindsRegions}
use Rattle.context_relation.specs.RegionTerms.{IsRegionTermHead, IsRegionTermLeaf, IsRegionTerm, RelatedTermsAgree, RelatedIffAgree}
use Rattle.relation_semantics.specs.Agreeing.{IsFlexible, AreFlexible, IsLeftOpen, IsLeftAside, Agree}
use Rattle.relation_semantics.specs.Settings.{Settings}
use Rattle.relation_semantics.specs.Errors.{outer_leaf, AreAlike}
use Rattle.relation_recursion.proofs.Unifying.{kind_erased, kind_kept, erased_plain}
use Rattle.relation_semantics.proofs.Agreeing.{agree_anything, agree_same, open_alias}
use Rattle.relation_semantics.proofs.Erased.{erase_region, erase_plain, no_error_atom}
use Rattle.relation_semantics.proofs.Related.{no_region_head}
use Rattle.relation_semantics.proofs.Standing.{term_sort_of}
use Rattle.relation_semantics.proofs.Values.{fresh_later, placeholders_are}
use Rattle.relation_terms.proofs.Members.{size_positive}
use Rattle.context_relation.proofs.Shapes.{IsNode, HasOneType, IsShaped, shaped}
use Rattle.relation_terms.proofs.Erasing.{erased_atom}

-- Such a form has a relation.
related_head : (h : Head) → IsRegionTermHead h → IsRelatedHead h
related_head (host_effect x) f = absurd f
related_head (subtype x) f = absurd f
related_head region_outlives f = absurd f
related_head type_outlives f = absurd f
related_head projection f = absurd f
related_head const_has_type f = absurd f
related_head well_formed f = absurd f
related_head const_evaluatable f = absurd f
related_head coerce f = absurd f
related_head normalizes_to f = absurd f
related_head (alias_relate d) f = absurd f
related_head environment f = absurd f
related_head h f = tt

-- A variable-free region is such a term.
region_atom : (x : Atom) → atom_sort x ≡ region_sort → IsFirstOrderAtom x
region_atom static_region p = tt
region_atom (early_region i n) p = tt
region_atom x p = absurd cc

region_term : (t : Tree) → sort_of t ≡ region_sort → Leaves IsValueLeaf t → IsRegionTerm t
region_term (leaf (atom x)) p g = region_atom x p
region_term (leaf (bound k d i)) p g = p
region_term (leaf (placeholder k u n)) p g = tt
region_term (leaf (variable k n)) p g = absurd g
region_term (node h ts) p g = absurd (no_region_head h p)
region_term t p g = absurd cc

-- Regions for the variables of a binder.
abbrev AreRegions : List Tree → Type 0
AreRegions [] = Unit {0}
AreRegions (t ∷ ts) = (sort_of t ≡ region_sort) × IsRegionTerm t × AreRegions ts

values_are_regions : (ks : List BoundKind) (ts : List Tree) → BindsRegions ks → FitKinds ks ts → AreRegions ts
values_are_regions [] [] b f = tt
values_are_regions [] (t ∷ ts) b f = absurd f
values_are_regions (k ∷ ks) [] b f = absurd f
values_are_regions (k ∷ ks) (t ∷ ts) b f = let r = term_sort_of region_var t (subst (λ z. IsTerm z t) b.0 f.0.0) in (r, region_term t r f.0.1, values_are_regions ks ts b.1 f.1)

placeholders_are_regions : (ks : List BoundKind) (ps : List Tree) (a b : Tree) → BindsRegions ks → Fresh ks ps a b → AreRegions ps
placeholders_are_regions [] [] a b h f = tt
placeholders_are_regions [] (t ∷ ts) a b h f = absurd f
placeholders_are_regions (k ∷ ks) [] a b h f = absurd f
placeholders_are_regions (k ∷ ks) (t ∷ ts) a b h f = (ap sort_of f.0.2 ∙ h.0, subst IsRegionTerm (sym f.0.2) tt, placeholders_are_regions ks ts a b h.1 f.4)

-- A region is put for a bound region.
at_is_region : (ts : List Tree) (i : ℕ) (d : Tree) → AreRegions ts → sort_of d ≡ region_sort → IsRegionTerm d → (sort_of (tree_at ts i d) ≡ region_sort) × IsRegionTerm (tree_at ts i d)
at_is_region [] i d h p q = (p, q)
at_is_region (t ∷ ts) zero d h p q = (h.0, h.1)
at_is_region (t ∷ ts) (suc i) d h p q = at_is_region ts i d h.2 p q

cond_region : (b : Bool) (t u : Tree) → (sort_of t ≡ region_sort) × IsRegionTerm t → (sort_of u ≡ region_sort) × IsRegionTerm u → (sort_of (cond b t u) ≡ region_sort) × IsRegionTerm (cond b t u)
cond_region true t u p q = p
cond_region false t u p q = q

put_region : (ts : List Tree) (d : ℕ) (k : BoundKind) (e i : ℕ) → AreRegions ts → bound_sort k ≡ region_sort → (sort_of (put ts d (bound k e i)) ≡ region_sort) × IsRegionTerm (put ts d (bound k e i))
put_region ts d k e i h p = cond_region (nat_eq e d) _ _ (at_is_region ts i (leaf (bound k e i)) h p p) (p, p)

inst_region : (ts : List Tree) (d : ℕ) (t : Tree) → AreRegions ts → IsRegionTerm t → IsRegionTerm (inst ts d t)
inst_region ts d (leaf (variable k n)) h r = r
inst_region ts d (leaf (bound k e i)) h r = (put_region ts d k e i h r).1
inst_region ts d (leaf (placeholder k u n)) h r = r
inst_region ts d (leaf (atom x)) h r = r
inst_region ts d (leaf unknown) h r = absurd r
inst_region ts d (node a t) h r = (r.0, inst_region ts d t h r.1)
inst_region ts d (bind ks t) h r = (r.0, inst_region ts (suc d) t h r.1)
inst_region ts d nil h r = tt
inst_region ts d (cons t u) h r = (inst_region ts d t h r.0, inst_region ts d u h r.1)

pub erase-inst : (ts : List Tree) (d : ℕ) (t : Tree) → AreRegions ts → IsRegionTerm t → erase (inst ts d t) ≡ erase t
erase-inst ts d (leaf (variable k n)) h r = absurd r
erase-inst ts d (leaf (bound k e i)) h r = erase_region _ (put_region ts d k e i h r).0 ∙ sym (erase_region (leaf (bound k e i)) r)
erase-inst ts d (leaf (placeholder k u n)) h r = refl
erase-inst ts d (leaf (atom x)) h r = refl
erase-inst ts d (leaf unknown) h r = absurd r
erase-inst ts d (node a t) h r = ap (λ z. node a (kept_parts a z)) (erase-inst ts d t h r.1)
erase-inst ts d (bind ks t) h r = ap (bind []) (erase-inst ts (suc d) t h r.1)
erase-inst ts d nil h r = refl
erase-inst ts d (cons t u) h r = ap₂ cons (erase-inst ts d t h r.0) (erase-inst ts d u h r.1)

no_error : (a : Tree) → IsError a → IsRegionTerm a → ⊥
no_error (leaf (atom x)) h f = no_error_atom x h f
no_error a h f = h

no_alias_head : (h : Head) → IsAliasHead h → IsRegionTermHead h → ⊥
no_alias_head (alias k d) a f = f
no_alias_head (unevaluated d) a f = f
no_alias_head h a f = a

no_alias : {A : Type 0} (a b : Tree) → IsRegionTerm a → IsRegionTerm b → IsAlias a ⊎ IsAlias b → A
no_alias (node h ts) b f g (inl i) = absurd (no_alias_head h i f.0)
no_alias a (node k us) f g (inr i) = absurd (no_alias_head k i g.0)
no_alias a b f g (inl i) = absurd i
no_alias a b f g (inr i) = absurd i

term_plain : (h : Head) → IsRegionTermHead h → plain h ≡ h
term_plain (alias k d) f = absurd f
term_plain (alias_term k d) f = absurd f
term_plain h f = refl

kept_agree : (set : Settings) (c : Items) (h : Head) (v : Variance) (xs ys : Tree) → Agree set c (parts h 0 v) xs ys → Agree set c (parts h 0 v) (kept_parts h xs) (kept_parts h ys)
kept_agree set c value_type v xs ys r = refl
kept_agree set c h v xs ys r = r

forms_agree : (set : Settings) (c : Items) (h k : Head) (v : Variance) (xs ys : Tree) → plain h ≡ plain k → h ≡ k → Agree set c (parts h 0 v) xs ys → Agree set c (at v) (node h (kept_parts h xs)) (node k (kept_parts k ys))
forms_agree set c h k v xs ys p q r = inr (p, subst (λ z. Agree set c (parts h 0 v) (kept_parts h xs) (kept_parts z ys)) q (kept_agree set c h v xs ys r))

pub rule_alias : (w : Interpretation) (e : Tree) (v : Variance) (a b : Tree) → AliasRule w e v a b → (v ≡ Bivariant) ⊎ (IsAlias a ⊎ IsAlias b)
rule_alias w e Covariant a b r = inr r.1
rule_alias w e Contravariant a b (r, inl i) = inr (inr i)
rule_alias w e Contravariant a b (r, inr i) = inr (inl i)
rule_alias w e Invariant a b r = inr r.1
rule_alias w e Bivariant a b r = inl refl

aliases_agree : (set : Settings) (c : Items) (v : Variance) (a b : Tree) → IsRegionTerm a → IsRegionTerm b → (v ≡ Bivariant) ⊎ (IsAlias a ⊎ IsAlias b) → Agree set c (at v) (erase a) (erase b)
aliases_agree set c v a b f g (inl p) = agree_anything set c v _ _ p
aliases_agree set c v a b f g (inr i) = no_alias a b f g i

mutual
  agree : (set : Settings) {c : Items} {w : Interpretation} {e : Tree} {v : Variance} {a b : Tree} → Rel c w e (at v) a b → IsRegionTerm a → IsRegionTerm b → Agree set c (at v) (erase a) (erase b)
  agree set {c = c} {v = v} (same p) f g = agree_same set c v _ _ (ap erase p)
  agree set {c = c} {v = v} (anything p) f g = agree_anything set c v _ _ p
  agree set {a = a} (error_left h _) f g = absurd (no_error a h f)
  agree set {b = b} (error_right h _) f g = absurd (no_error b h g)
  agree set {c = c} {v = v} {a = a} {b = b} (regions p q _) f g = agree_same set c v _ _ (erase_region a p ∙ sym (erase_region b q))
  agree set {c = c} {w = w} {e = e} {v = v} {a = a} {b = b} (alias_types _ _ r) f g = aliases_agree set c v a b f g (rule_alias w e v a b r)
  agree set {a = a} {b = b} (equal_consts _ _ r) f g = no_alias a b f g r.1
  agree set {c = c} {v = v} (atoms {x = x} {y = y} p) f g = agree_same set c v _ _ (ap (λ z. leaf (atom z)) (sym (erase_plain x) ∙ ap erase_atom p ∙ erase_plain y))
  agree set {c = c} {v = v} (forms {h = h} {k = k} {xs = xs} {ys = ys} i p r) f g = forms_agree set c h k v (erase xs) (erase ys) p (sym (term_plain h f.0) ∙ p ∙ term_plain k g.0) (agree_parts set r f.1 g.1)
  agree set (covariant_binders _ r) f g = inr (agree_second set r f.0 g.0 f.1 g.1)
  agree set (contravariant_binders _ r) f g = inr (agree_first set r f.0 g.0 f.1 g.1)
  agree set (invariant_binders _ r _) f g = inr (agree_second set r f.0 g.0 f.1 g.1)

  agree_parts : (set : Settings) {c : Items} {w : Interpretation} {e : Tree} {h : Head} {i : ℕ} {v : Variance} {xs ys : Tree} → Rel c w e (parts h i v) xs ys → IsRegionTerm xs → IsRegionTerm ys → Agree set c (parts h i v) (erase xs) (erase ys)
  agree_parts set no_parts f g = refl
  agree_parts set (next_part r rs) f g = (agree set r f.0 g.0, agree_parts set rs f.1 g.1)

  agree_second : (set : Settings) {c : Items} {w : Interpretation} {e : Tree} {ks ls : List BoundKind} {v : Variance} {a b : Tree} → Rel c w e (second_opened ks ls v) a b → BindsRegions ks → BindsRegions ls → IsRegionTerm a → IsRegionTerm b → Agree set c (at v) (erase a) (erase b)
  agree_second set {c = c} {ks = ks} {ls = ls} {v = v} {a = a} {b = b} (open_second ts ps fit fresh r) h k f g =
      subst₂ (Agree set c (at v)) (erase-inst ts 0 a (values_are_regions ks ts h fit) f) (erase-inst ps 0 b (placeholders_are_regions ls ps a b k fresh) g)
      (agree set r (inst_region ts 0 a (values_are_regions ks ts h fit) f) (inst_region ps 0 b (placeholders_are_regions ls ps a b k fresh) g))

  agree_first : (set : Settings) {c : Items} {w : Interpretation} {e : Tree} {ks ls : List BoundKind} {v : Variance} {a b : Tree} → Rel c w e (first_opened ks ls v) a b → BindsRegions ks → BindsRegions ls → IsRegionTerm a → IsRegionTerm b → Agree set c (at v) (erase a) (erase b)
  agree_first set {c = c} {ks = ks} {ls = ls} {v = v} {a = a} {b = b} (open_first ps ts fresh fit r) h k f g =
      subst₂ (Agree set c (at v)) (erase-inst ps 0 a (placeholders_are_regions ks ps a b h fresh) f) (erase-inst ts 0 b (values_are_regions ls ts k fit) g)
      (agree set r (inst_region ps 0 a (placeholders_are_regions ks ps a b h fresh) f) (inst_region ts 0 b (values_are_regions ls ts k fit) g))

pub related_terms_agree : RelatedTermsAgree
related_terms_agree set c w e v a b f g r = agree set r f g

-- The largest universe of a placeholder in a tree.
top_leaf : Leaf → ℕ
top_leaf (placeholder k u n) = u
top_leaf l = 0

top : Tree → ℕ
top (leaf l) = top_leaf l
top (node h t) = top t
top (bind ks t) = top t
top nil = 0
top (cons t u) = top t + top u

top_names_leaf : (l : Leaf) (u : ℕ) → IsRegionTermLeaf l → top_leaf l ≤ u → IsNamable u l
unfolding top_leaf
top_names_leaf (placeholder k v n) u r h = h
top_names_leaf unknown u r h = r
top_names_leaf l u r h = tt

top_names : (t : Tree) (u : ℕ) → IsRegionTerm t → top t ≤ u → Leaves (IsNamable u) t
unfolding top
top_names (leaf l) u r h = top_names_leaf l u r h
top_names (node a t) u r h = top_names t u r.1 h
top_names (bind ks t) u r h = top_names t u r.1 h
top_names nil u r h = tt
top_names (cons t v) u r h = (top_names t u r.0 (omega arith), top_names v u r.1 (omega arith))

region_size : (t : Tree) → sort_of t ≡ region_sort → size t ≡ 1
region_size (leaf l) p = refl
region_size (node h ts) p = absurd (no_region_head h p)
region_size t p = absurd cc

size-inst : (ts : List Tree) (d : ℕ) (t : Tree) → AreRegions ts → IsRegionTerm t → size (inst ts d t) ≡ size t
size-inst ts d (leaf (variable k n)) h r = refl
size-inst ts d (leaf (bound k e i)) h r = region_size _ (put_region ts d k e i h r).0
size-inst ts d (leaf (placeholder k u n)) h r = refl
size-inst ts d (leaf (atom x)) h r = refl
size-inst ts d (leaf unknown) h r = absurd r
size-inst ts d (node a t) h r = ap suc (size-inst ts d t h r.1)
size-inst ts d (bind ks t) h r = ap (λ n. suc (suc n)) (size-inst ts (suc d) t h r.1)
size-inst ts d nil h r = refl
size-inst ts d (cons t u) h r = let p = size-inst ts d t h r.0 in let q = size-inst ts d u h r.1 in omega arith

region_is_term : (t : Tree) → sort_of t ≡ region_sort → IsNode t × IsShaped t
region_is_term (leaf l) p = (tt, tt)
region_is_term (node h ts) p = absurd (no_region_head h p)
region_is_term t p = absurd cc

inst_term : (ts : List Tree) (d : ℕ) (t : Tree) → AreRegions ts → IsRegionTerm t → IsNode t → IsNode (inst ts d t)
inst_term ts d (leaf (variable k n)) h r i = tt
inst_term ts d (leaf (bound k e n)) h r i = (region_is_term _ (put_region ts d k e n h r).0).0
inst_term ts d (leaf (placeholder k u n)) h r i = tt
inst_term ts d (leaf (atom x)) h r i = tt
inst_term ts d (leaf unknown) h r i = absurd r
inst_term ts d (node a t) h r i = tt
inst_term ts d (bind ks t) h r i = tt
inst_term ts d nil h r i = i
inst_term ts d (cons t u) h r i = i

pub inst_list : (ts : List Tree) (d : ℕ) (t : Tree) → IsList t → IsList (inst ts d t)
inst_list ts d nil h = tt
inst_list ts d (cons t u) h = inst_list ts d u h
inst_list ts d t h = absurd h

inst_one_type : (ts : List Tree) (d : ℕ) (h : Head) (t : Tree) → HasOneType h t → HasOneType h (inst ts d t)
inst_one_type ts d value_type (cons t nil) p = tt
inst_one_type ts d value_type t p = absurd p
inst_one_type ts d h t p = tt

inst_shaped : (ts : List Tree) (d : ℕ) (t : Tree) → AreRegions ts → IsRegionTerm t → IsShaped t → IsShaped (inst ts d t)
inst_shaped ts d (leaf (variable k n)) h r s = tt
inst_shaped ts d (leaf (bound k e n)) h r s = (region_is_term _ (put_region ts d k e n h r).0).1
inst_shaped ts d (leaf (placeholder k u n)) h r s = tt
inst_shaped ts d (leaf (atom x)) h r s = tt
inst_shaped ts d (leaf unknown) h r s = absurd r
inst_shaped ts d (node a t) h r s = (inst_list ts d t s.0, inst_one_type ts d a t s.1, inst_shaped ts d t h r.1 s.2)
inst_shaped ts d (bind ks t) h r s = (inst_term ts (suc d) t h r.1 s.0, inst_shaped ts (suc d) t h r.1 s.1)
inst_shaped ts d nil h r s = tt
inst_shaped ts d (cons t u) h r s = (inst_term ts d t h r.0 s.0, inst_shaped ts d t h r.0 s.1, inst_shaped ts d u h r.1 s.2)

pub all_rule : (w : Interpretation) (v : Variance) (a b : Tree) → w.outlives ≡ None → RegionRule w v a b
all_rule w Covariant a b p = all_outlive p
all_rule w Contravariant a b p = all_outlive p
all_rule w Invariant a b p = (all_outlive p, all_outlive p)
all_rule w Bivariant a b p = tt

pub region_or : (k : Sort) → (k ≡ region_sort) ⊎ (k ≡ region_sort → ⊥)
region_or region_sort = inl refl
region_or k = inr (λ p. cc)

erase_sort : (l : Leaf) → leaf_sort (erase_leaf l) ≡ leaf_sort l
erase_sort (variable region_var n) = refl
erase_sort (variable k n) = refl
erase_sort (bound (bound_kind k m) d i) = kind_erased k _ refl
erase_sort (placeholder (bound_kind k m) u n) = kind_erased k _ refl
erase_sort (atom x) = erased_atom x
erase_sort unknown = refl

pub leaf_outer : (l : Leaf) → (leaf_sort l ≡ region_sort → ⊥) → erase_leaf l ≡ outer_leaf l
leaf_outer (variable region_var m) n = absurd (n refl)
leaf_outer (variable k m) n = refl
leaf_outer (bound (bound_kind k m) d i) n = kind_kept k _ n
leaf_outer (placeholder (bound_kind k m) u i) n = kind_kept k _ n
leaf_outer (atom x) n = ap atom (erased_plain x n)
leaf_outer unknown n = refl

pub outer_related : (c : Items) (w : Interpretation) (e : Tree) (v : Variance) (l m : Leaf) → outer_leaf l ≡ outer_leaf m → Rel c w e (at v) (leaf l) (leaf m)
outer_related c w e v (atom x) (atom y) p = atoms (atom_path p)
  where
    atom_path : {y z : Atom} → atom y ≡ atom z → y ≡ z
    atom_path e = cc
outer_related c w e v (atom x) m p = same (absurd cc)
outer_related c w e v l (atom y) p = same (absurd cc)
outer_related c w e v l m p = same (ap leaf p)

-- Leaves of one erasure are regions, one leaf, or parameters of one index.
pub leaves_related : (c : Items) (w : Interpretation) (e : Tree) (v : Variance) (l m : Leaf) → w.outlives ≡ None → erase_leaf l ≡ erase_leaf m → Rel c w e (at v) (leaf l) (leaf m)
leaves_related c w e v l m all p = go (region_or (leaf_sort l)) (region_or (leaf_sort m))
  where
    sorts : leaf_sort l ≡ leaf_sort m
    sorts = sym (erase_sort l) ∙ ap leaf_sort p ∙ erase_sort m

    go : (leaf_sort l ≡ region_sort) ⊎ (leaf_sort l ≡ region_sort → ⊥) → (leaf_sort m ≡ region_sort) ⊎ (leaf_sort m ≡ region_sort → ⊥) → Rel c w e (at v) (leaf l) (leaf m)
    go (inl q) r = regions q (sym sorts ∙ q) (all_rule w v (leaf l) (leaf m) all)
    go (inr n) (inl r) = absurd (n (sorts ∙ r))
    go (inr n) (inr k) = outer_related c w e v l m (sym (leaf_outer l n) ∙ p ∙ leaf_outer m k)

some_values : List BoundKind → List Tree
some_values ks = map (λ k. leaf (atom static_region)) ks

some_values_fit : (ks : List BoundKind) → BindsRegions ks → FitKinds ks (some_values ks)
unfolding some_values
some_values_fit [] h = tt
some_values_fit (k ∷ ks) h = ((subst (λ z. IsTerm z (leaf (atom static_region))) (sym h.0) tt, tt, tt), some_values_fit ks h.1)

-- Binders are related where their bodies are, with whatever regions are put for their variables.
module _ (c : Items) (w : Interpretation) (e : Tree) (v : Variance) (ks ls : List BoundKind) (a b : Tree) (h : BindsRegions ks) (k : BindsRegions ls) (ra : IsRegionTerm a) (rb : IsRegionTerm b)
    (bodies : (ts us : List Tree) → AreRegions ts → AreRegions us → Rel c w e (at v) (inst ts 0 a) (inst us 0 b)) where
  abbrev later : ℕ
  later = top a + top b

  fresh_second : Fresh ls (placeholders_from (suc later) 0 ls) a b
  fresh_second = fresh_later later (suc later) ls _ a b (omega arith) (placeholders_are (suc later) 0 ls) (top_names a later ra (omega arith)) (top_names b later rb (omega arith))

  fresh_first : Fresh ks (placeholders_from (suc later) 0 ks) a b
  fresh_first = fresh_later later (suc later) ks _ a b (omega arith) (placeholders_are (suc later) 0 ks) (top_names a later ra (omega arith)) (top_names b later rb (omega arith))

  second : Rel c w e (second_opened ks ls v) a b
  second = open_second (some_values ks) (placeholders_from (suc later) 0 ls) (some_values_fit ks h) fresh_second (bodies _ _ (values_are_regions ks _ h (some_values_fit ks h)) (placeholders_are_regions ls _ a b k fresh_second))

  first : Rel c w e (first_opened ks ls v) a b
  first = open_first (placeholders_from (suc later) 0 ks) (some_values ls) fresh_first (some_values_fit ls k) (bodies _ _ (placeholders_are_regions ks _ a b h fresh_first) (values_are_regions ls _ k (some_values_fit ls k)))

  binders_related : Rel c w e (at v) (bind ks a) (bind ls b)
  binders_related = go v refl
    where
      go : (u : Variance) → v ≡ u → Rel c w e (at v) (bind ks a) (bind ls b)
      go Covariant p = covariant_binders p second
      go Contravariant p = contravariant_binders p first
      go Invariant p = invariant_binders p second first
      go Bivariant p = anything p

-- Such terms have no alias, and are left to no goal.
erased_no_alias : (a : Tree) → IsRegionTerm a → IsAlias (erase a) → ⊥
erased_no_alias (leaf l) f i = i
erased_no_alias (node h ts) f i = no_alias_head h i f.0
erased_no_alias (bind ks t) f i = i
erased_no_alias nil f i = i
erased_no_alias (cons t ts) f i = i

erased_not_left : (k : Settings) (a b : Tree) → IsRegionTerm a → IsRegionTerm b → IsLeftOpen k (erase a) (erase b) → ⊥
erased_not_left k a b f g l = ⊎_elim (erased_no_alias a f) (erased_no_alias b g) (open_alias k (erase a) (erase b) l)

set_aside : {c : Items} {w : Interpretation} {e : Tree} {v : Variance} (k : Settings) (a b : Tree) → IsRegionTerm a →
    IsRegionTerm b → IsLeftAside k v (erase a) (erase b) → Rel c w e (at v) a b
set_aside k a b f g (inl p) = anything p
set_aside k a b f g (inr l) = absurd (erased_not_left k a b f g l.0)

mixed : {c : Items} {w : Interpretation} {e : Tree} {v : Variance} (k : Settings) (a b : Tree) → IsRegionTerm a →
    IsRegionTerm b → {X : Type 0} → IsLeftAside k v (erase a) (erase b) ⊎ X → (X → ⊥) → Rel c w e (at v) a b
mixed k a b f g (inl p) n = set_aside k a b f g p
mixed k a b f g (inr x) n = absurd (n x)

-- What is open of an erased term without variables is a region.
pub erased_error : (x : Atom) → IsErrorAtom (erase_atom x) → IsErrorAtom x
erased_error (early_region i n) e = e
erased_error (type_param i n) e = e
erased_error (const_param i n) e = e
erased_error x e = e

erased_open_atom : (x : Atom) → IsFirstOrderAtom x → IsErrorAtom (erase_atom x) ⊎ (atom_sort (erase_atom x) ≡ region_sort) → atom_sort x ≡ region_sort
erased_open_atom x r (inl e) = absurd (no_error_atom x (erased_error x e) r)
erased_open_atom x r (inr s) = sym (erased_atom x) ∙ s

erased_open : (l : Leaf) (b : Tree) → IsRegionTermLeaf l → IsFlexible (leaf (erase_leaf l)) b → leaf_sort l ≡ region_sort
erased_open (variable k n) b r o = absurd r
erased_open (bound k d i) b r o = r
erased_open (placeholder (bound_kind region_kind m) u n) b r o = refl
erased_open (placeholder (bound_kind type_kind m) u n) b r o = o
erased_open (placeholder (bound_kind const_kind m) u n) b r o = o
erased_open (atom x) b r o = erased_open_atom x r o
erased_open unknown b r o = absurd r

open_regions : (l m : Leaf) → IsRegionTermLeaf l → IsRegionTermLeaf m → AreFlexible (leaf (erase_leaf l)) (leaf (erase_leaf m)) → (leaf_sort l ≡ region_sort) × (leaf_sort m ≡ region_sort)
open_regions l m f g (inl o, s) = let p = erased_open l (leaf (erase_leaf m)) f o in (p, sym (erase_sort m) ∙ sym s ∙ erase_sort l ∙ p)
open_regions l m f g (inr o, s) = let q = erased_open m (leaf (erase_leaf l)) g o in (sym (erase_sort l) ∙ s ∙ erase_sort m ∙ q, q)

plain_erased : (x : Atom) → plain_atom (erase_atom x) ≡ erase_atom x
plain_erased (early_region i n) = refl
plain_erased (type_param i n) = refl
plain_erased (const_param i n) = refl
plain_erased x = refl

pub outer_erased : (l : Leaf) → outer_leaf (erase_leaf l) ≡ erase_leaf l
outer_erased (variable region_var n) = refl
outer_erased (variable k n) = refl
outer_erased (bound (bound_kind region_kind m) d i) = refl
outer_erased (bound (bound_kind k m) d i) = refl
outer_erased (placeholder (bound_kind region_kind m) u n) = refl
outer_erased (placeholder (bound_kind k m) u n) = refl
outer_erased (atom x) = ap atom (plain_erased x)
outer_erased unknown = refl

alike_erased : (l m : Leaf) → AreAlike (leaf (erase_leaf l)) (leaf (erase_leaf m)) → erase_leaf l ≡ erase_leaf m
alike_erased l m e = let z : outer_leaf (erase_leaf l) ≡ outer_leaf (erase_leaf m) = cc in sym (outer_erased l) ∙ z ∙ outer_erased m

apart_leaf : (l : Leaf) (b : Tree) → IsRegionTermLeaf l → (sort_of b ≡ region_sort → ⊥) → (IsFlexible b (leaf (erase_leaf l)) → ⊥) → (AreAlike (leaf (erase_leaf l)) b → ⊥) → AreFlexible (leaf (erase_leaf l)) b ⊎ AreAlike (leaf (erase_leaf l)) b → ⊥
apart_leaf l b r n m k (inl (inl o, s)) = n (sym s ∙ erase_sort l ∙ erased_open l b r o)
apart_leaf l b r n m k (inl (inr o, s)) = m o
apart_leaf l b r n m k (inr e) = k e

apart_leaf_back : (l : Leaf) (a : Tree) → IsRegionTermLeaf l → (sort_of a ≡ region_sort → ⊥) → (IsFlexible a (leaf (erase_leaf l)) → ⊥) → (AreAlike a (leaf (erase_leaf l)) → ⊥) → AreFlexible a (leaf (erase_leaf l)) ⊎ AreAlike a (leaf (erase_leaf l)) → ⊥
apart_leaf_back l a r n m k (inl (inl o, s)) = m o
apart_leaf_back l a r n m k (inl (inr o, s)) = n (s ∙ erase_sort l ∙ erased_open l a r o)
apart_leaf_back l a r n m k (inr e) = k e

apart_forms : (a b : Tree) → (IsFlexible a b → ⊥) → (IsFlexible b a → ⊥) → (AreAlike a b → ⊥) → AreFlexible a b ⊎ AreAlike a b → ⊥
apart_forms a b n m k (inl (inl o, s)) = n o
apart_forms a b n m k (inl (inr o, s)) = m o
apart_forms a b n m k (inr e) = k e

one_type : (c : Items) (w : Interpretation) (e : Tree) (v : Variance) (xs ys : Tree) → HasOneType value_type xs → HasOneType value_type ys → Rel c w e (parts value_type 0 v) xs ys
one_type c w e v (cons t nil) (cons u nil) p q = next_part (anything refl) no_parts
one_type c w e v (cons t nil) ys p q = absurd q
one_type c w e v xs ys p q = absurd p

parts_back : (set : Settings) (c : Items) (w : Interpretation) (e : Tree) (h : Head) (v : Variance) (xs ys : Tree) → HasOneType h xs → HasOneType h ys → (Agree set c (parts h 0 v) (erase xs) (erase ys) → Rel c w e (parts h 0 v) xs ys) → Agree set c (parts h 0 v) (kept_parts h (erase xs)) (kept_parts h (erase ys)) → Rel c w e (parts h 0 v) xs ys
parts_back set c w e value_type v xs ys p q rec r = one_type c w e v xs ys p q
parts_back set c w e h v xs ys p q rec r = rec r

forms_back : (set : Settings) (c : Items) (w : Interpretation) (e : Tree) (h k : Head) (v : Variance) (xs ys : Tree) → k ≡ h → HasOneType h xs → HasOneType k ys → (Agree set c (parts h 0 v) (erase xs) (erase ys) → Rel c w e (parts h 0 v) xs ys) → Agree set c (parts h 0 v) (kept_parts h (erase xs)) (kept_parts k (erase ys)) → Rel c w e (parts h 0 v) xs ys
forms_back set c w e h k v xs ys q p p' rec r = parts_back set c w e h v xs ys p (subst (λ z. HasOneType z ys) q p') rec (subst (λ z. Agree set c (parts h 0 v) (kept_parts h (erase xs)) (kept_parts z (erase ys))) q r)

mutual
  back : (set : Settings) (n : ℕ) (c : Items) (w : Interpretation) (e : Tree) (v : Variance) (a b : Tree) → size a ≤ n → w.outlives ≡ None → IsNode a → IsNode b → IsShaped a → IsShaped b → IsRegionTerm a → IsRegionTerm b → Agree set c (at v) (erase a) (erase b) → Rel c w e (at v) a b
  back set zero c w e v a b le all ta tb sa sb ra rb g = let p = size_positive a in absurd (omega arith)
  back set (suc n) c w e v (leaf l) (leaf m) le all ta tb sa sb ra rb (inl p) = set_aside set (leaf l) (leaf m) ra rb p
  back set (suc n) c w e v (leaf l) (leaf m) le all ta tb sa sb ra rb (inr (inl o)) = let z = open_regions l m ra rb o in regions z.0 z.1 (all_rule w v (leaf l) (leaf m) all)
  back set (suc n) c w e v (leaf l) (leaf m) le all ta tb sa sb ra rb (inr (inr p)) = leaves_related c w e v l m all (alike_erased l m p)
  back set (suc n) c w e v (node h xs) (node k ys) le all ta tb sa sb ra rb (inl p) = set_aside set (node h xs) (node k ys) ra rb p
  back set (suc n) c w e v (node h xs) (node k ys) le all ta tb sa sb ra rb (inr r) = forms (related_head h ra.0) r.0 (forms_back set c w e h k v xs ys (sym (term_plain k rb.0) ∙ sym r.0 ∙ term_plain h ra.0) sa.1 sb.1 (λ g. back_parts set n c w e h 0 v xs ys (omega arith) all sa.0 sb.0 sa.2 sb.2 ra.1 rb.1 g) r.1)
  back set (suc n) c w e v (bind ks a) (bind ls b) le all ta tb sa sb ra rb (inl p) = anything p
  back set (suc n) c w e v (bind ks a) (bind ls b) le all ta tb sa sb ra rb (inr r) = binders_related c w e v ks ls a b ra.0 rb.0 ra.1 rb.1
      (λ ts us p q. back set n c w e v (inst ts 0 a) (inst us 0 b) (let s = size-inst ts 0 a p ra.1 in omega arith) all (inst_term ts 0 a p ra.1 sa.0) (inst_term us 0 b q rb.1 sb.0) (inst_shaped ts 0 a p ra.1 sa.1) (inst_shaped us 0 b q rb.1 sb.1) (inst_region ts 0 a p ra.1) (inst_region us 0 b q rb.1)
      (subst₂ (Agree set c (at v)) (sym (erase-inst ts 0 a p ra.1)) (sym (erase-inst us 0 b q rb.1)) r))
  back set (suc n) c w e v nil b le all ta tb sa sb ra rb g = absurd ta
  back set (suc n) c w e v (cons a xs) b le all ta tb sa sb ra rb g = absurd ta
  back set (suc n) c w e v a nil le all ta tb sa sb ra rb g = absurd tb
  back set (suc n) c w e v a (cons b ys) le all ta tb sa sb ra rb g = absurd tb
  back set (suc n) c w e v (leaf l) (node k ys) le all ta tb sa sb ra rb g = mixed set (leaf l) (node k ys) ra rb g (apart_leaf l (erase (node k ys)) ra (no_region_head k) (λ o. o) (λ q. cc))
  back set (suc n) c w e v (leaf l) (bind ls b) le all ta tb sa sb ra rb g = mixed set (leaf l) (bind ls b) ra rb g (apart_leaf l (erase (bind ls b)) ra (λ q. cc) (λ o. o) (λ q. cc))
  back set (suc n) c w e v (node h xs) (leaf m) le all ta tb sa sb ra rb g = mixed set (node h xs) (leaf m) ra rb g (apart_leaf_back m (erase (node h xs)) rb (no_region_head h) (λ o. o) (λ q. cc))
  back set (suc n) c w e v (node h xs) (bind ls b) le all ta tb sa sb ra rb g = mixed set (node h xs) (bind ls b) ra rb g (apart_forms (erase (node h xs)) (erase (bind ls b)) (λ o. o) (λ o. o) (λ q. cc))
  back set (suc n) c w e v (bind ks a) (leaf m) le all ta tb sa sb ra rb g = mixed set (bind ks a) (leaf m) ra rb g (apart_leaf_back m (erase (bind ks a)) rb (λ q. cc) (λ o. o) (λ q. cc))
  back set (suc n) c w e v (bind ks a) (node k ys) le all ta tb sa sb ra rb g = mixed set (bind ks a) (node k ys) ra rb g (apart_forms (erase (bind ks a)) (erase (node k ys)) (λ o. o) (λ o. o) (λ q. cc))

  back_parts : (set : Settings) (n : ℕ) (c : Items) (w : Interpretation) (e : Tree) (h : Head) (i : ℕ) (v : Variance) (xs ys : Tree) → size xs ≤ n → w.outlives ≡ None → IsList xs → IsList ys → IsShaped xs → IsShaped ys → IsRegionTerm xs → IsRegionTerm ys → Agree set c (parts h i v) (erase xs) (erase ys) → Rel c w e (parts h i v) xs ys
  back_parts set zero c w e h i v xs ys le all la lb sa sb ra rb g = let p = size_positive xs in absurd (omega arith)
  back_parts set (suc n) c w e h i v nil nil le all la lb sa sb ra rb g = no_parts
  back_parts set (suc n) c w e h i v (cons a xs) (cons b ys) le all la lb sa sb ra rb g = next_part (back set n c w e (part_at c h i v) a b (omega arith) all sa.0 sb.0 sa.1 sb.1 ra.0 rb.0 g.0) (back_parts set n c w e h (suc i) v xs ys (omega arith) all la lb sa.2 sb.2 ra.1 rb.1 g.1)
  back_parts set (suc n) c w e h i v nil (cons b ys) le all la lb sa sb ra rb g = absurd cc
  back_parts set (suc n) c w e h i v (cons a xs) nil le all la lb sa sb ra rb g = absurd cc
  back_parts set (suc n) c w e h i v nil ys le all la lb sa sb ra rb g = absurd lb
  back_parts set (suc n) c w e h i v (cons a xs) ys le all la lb sa sb ra rb g = absurd lb
  back_parts set (suc n) c w e h i v xs ys le all la lb sa sb ra rb g = absurd la

pub related_iff_agree : RelatedIffAgree
related_iff_agree set c w e v s a b all ta tb ra rb = let x = shaped (one (term_of s)) a ta in let y = shaped (one (term_of s)) b tb in
    (λ r. agree set r ra rb, back set (size a) c w e v a b (omega arith) all x.0 y.0 x.1 y.1 ra rb)
