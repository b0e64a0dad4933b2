-- Plain constants, value trees and predicates of trait objects whose erasures agree are alike; what stands in for the
-- regions of binders, and what a plain term is read as.
use Rattle.std.proofs.Common.{◌≡◌, ◌≢◌, ◌⊎◌, ℕ, zero, suc, refl, sym, ap, ap₂, ◌∙◌, inl, inr, subst, subst₂, List, [], ◌∷◌, Bool, true, false, cond, nat_eq, IsTrue}
use Rattle.term_enums.specs.declared.Variance.{Variance}
use Rattle.term_enums.specs.declared.Variance.TheVariants.{Bivariant}
use Rattle.relation_terms.specs.Heads.{Sort, region_sort, const_sort, pattern_sort, existential_sort, value_sort, Kind, region_kind, type_kind, const_kind, kind_sort, BoundKind, bound_kind, bound_sort, region_var, var_sort, leaf_sort, head_sort, atom_sort, head_parts}
use Rattle.relation_terms.specs.Heads.{Atom, existential_auto, not_null_pattern, value_leaf, Head, alias, unevaluated, expression, value, value_type, value_branch, range_pattern, or_pattern, existential_trait, existential_projection, Leaf, variable, bound, placeholder, atom, unknown}
use Rattle.relation_terms.specs.Trees.{Tree, leaf, node, bind, nil, cons, inst, put, tree_at, apply, known, IsTerm, Fits}
use Rattle.relation_terms.specs.Erasure.{erase, kept_parts}
use Rattle.relation_semantics.specs.Relation.{Items, parts, plain_atom, sort_of, IsAlias, IsAliasHead}
use Rattle.relation_semantics.specs.FirstOrder.{IsFirstOrderAtom}
use Rattle.relation_semantics.specs.Settings.{Settings}
use Rattle.relation_semantics.specs.Stores.{Store, unbound, bound_to, entry_of, resolved, resolve, through, entry_term}
use Rattle.relation_semantics.specs.Errors.{outer_leaf, AreOfOneValue, one_value, as_many_branches, AreAlikeConsts, alike_leaves, both_values, AreAlikeExistentials, both_traits, both_projections, both_auto_traits, IsStandIn, StandFor, StandsSeen, IsReadAs, itself, by_class, by_binding}
use Rattle.term_enums.specs.declared.StructurallyRelateAliases.{StructurallyRelateAliases}
use Rattle.relation_semantics.specs.Agreeing.{Agree}
use Rattle.relation_semantics.specs.Asking.{IsPlainLeaf, IsPlainHead, BindsRegions, IsPlainTerm, HasNoAlias}
use Rattle.relation_semantics.proofs.Answering.{covariantly}
use Rattle.relation_semantics.proofs.Erased.{erase_region}
use Rattle.relation_semantics.proofs.Related.{no_region_head}
use Rattle.context_relation.proofs.PlainTerms.{Good, good_parts, good_first, good_rest, Met, forms_agree, agree_counts, leaves_alike, leaf_form, form_leaf, Alike, const_no_region, value_no_region, sort_no_region, no_alias_head}
use Rattle.relation_terms.proofs.Members.{const_only, value_only}
use Rattle.relation_semantics.proofs.Deferring.{normal_not_left}
use Rattle.relation_semantics.proofs.Building.{region_kind_is}
use Rattle.relation_recursion.proofs.Compared.{value_shape}
use Rattle.std.specs.Cmp.Derive.{both_true}

-- Value trees that agree are one, or have as many branches.
value_atom : (x y : Atom) → atom_sort x ≡ value_sort → plain_atom x ≡ plain_atom y → atom_sort y ≡ value_sort → x ≡ y
value_atom (value_leaf b n) (value_leaf d m) p e q = e
value_atom (value_leaf b n) y p e q = value_other y q e
  where
    value_other : (y : Atom) → atom_sort y ≡ value_sort → value_leaf b n ≡ plain_atom y → value_leaf b n ≡ y
    value_other (value_leaf d m) q e = e
    value_other y q e = absurd cc
value_atom x y p e q = absurd cc

value_leaves : (l m : Leaf) → leaf_sort l ≡ value_sort → leaf_sort m ≡ value_sort → IsPlainLeaf l → outer_leaf l ≡ outer_leaf m → l ≡ m
value_leaves (atom x) (atom y) p q f e = ap atom (value_atom x y p (atom_path e) q)
  where
    atom_path : {x y : Atom} → atom x ≡ atom y → x ≡ y
    atom_path e = cc
value_leaves (variable k n) m p q f e = absurd (let z : region_sort ≡ value_sort = sym f ∙ p in cc)
value_leaves (bound k d i) m p q f e = absurd (let z : region_sort ≡ value_sort = sym f ∙ p in cc)
value_leaves (placeholder (bound_kind region_kind n) u i) m p q f e = absurd cc
value_leaves (placeholder (bound_kind type_kind n) u i) m p q f e = absurd cc
value_leaves (placeholder (bound_kind const_kind n) u i) m p q f e = absurd cc
value_leaves unknown m p q f e = absurd f
value_leaves (atom x) m p q f e = absurd cc

value_head : (h : Head) → head_sort h ≡ value_sort → h ≡ value_branch
value_head value_branch e = refl
value_head h e = absurd cc

branch_is_no_type : (h : Head) → head_sort h ≡ value_sort → h ≡ value_type → ⊥
branch_is_no_type h e f = let z = value_head h e in let w : value_branch ≡ value_type = sym z ∙ f in cc

value_no_alias_head : (h : Head) → head_sort h ≡ value_sort → IsAliasHead h → ⊥
value_no_alias_head (alias k d) e i = cc
value_no_alias_head (unevaluated d) e i = cc
value_no_alias_head h e i = i

value_no_alias : (t : Tree) → IsTerm value_sort t → IsAlias t → ⊥
value_no_alias (node h ts) p i = value_no_alias_head h (value_only _ p.0) i
value_no_alias t p i = i

-- A constant's form is that of a value.
const_head : (h : Head) → head_sort h ≡ const_sort → IsPlainHead h → (IsAliasHead h → ⊥) → h ≡ value
const_head value e p n = refl
const_head (unevaluated d) e p n = absurd (n tt)
const_head (expression k) e p n = absurd p
const_head h e p n = absurd cc

value_is_no_type : (h : Head) → h ≡ value → h ≡ value_type → ⊥
value_is_no_type h e d = let z : value ≡ value_type = sym e ∙ d in cc

-- No such term is a pattern.
no_pattern_atom : (x : Atom) → IsFirstOrderAtom x → atom_sort x ≡ pattern_sort → ⊥
no_pattern_atom not_null_pattern f e = f
no_pattern_atom x f e = cc

no_pattern_kind : (k : Kind) → kind_sort k ≡ pattern_sort → ⊥
no_pattern_kind region_kind e = cc
no_pattern_kind type_kind e = cc
no_pattern_kind const_kind e = cc

no_pattern_head : (h : Head) → IsPlainHead h → head_sort h ≡ pattern_sort → ⊥
no_pattern_head range_pattern f e = f
no_pattern_head or_pattern f e = f
no_pattern_head h f e = cc

pub no_pattern : (t : Tree) → IsPlainTerm t → sort_of t ≡ pattern_sort → ⊥
no_pattern (leaf (variable k n)) f e = let z : region_sort ≡ pattern_sort = sym f ∙ e in cc
no_pattern (leaf (bound k d i)) f e = let z : region_sort ≡ pattern_sort = sym f ∙ e in cc
no_pattern (leaf (placeholder (bound_kind k m) u n)) f e = no_pattern_kind k e
no_pattern (leaf (atom x)) f e = no_pattern_atom x f e
no_pattern (leaf unknown) f e = f
no_pattern (node h ts) f e = no_pattern_head h f.0 e
no_pattern (bind ks t) f e = cc
no_pattern nil f e = cc
no_pattern (cons t ts) f e = cc

-- Predicates of trait objects are of one of three forms.
no_existential_kind : (k : Kind) → kind_sort k ≡ existential_sort → ⊥
no_existential_kind region_kind e = cc
no_existential_kind type_kind e = cc
no_existential_kind const_kind e = cc

auto_atom : (x : Atom) → atom_sort x ≡ existential_sort → (d : ℕ) × (x ≡ existential_auto d)
auto_atom (existential_auto d) e = (d, refl)
auto_atom x e = absurd cc

auto_leaf : (l : Leaf) → IsPlainLeaf l → leaf_sort l ≡ existential_sort → (d : ℕ) × (l ≡ atom (existential_auto d))
auto_leaf (variable k n) f e = absurd (let z : region_sort ≡ existential_sort = sym f ∙ e in cc)
auto_leaf (bound k d i) f e = absurd (let z : region_sort ≡ existential_sort = sym f ∙ e in cc)
auto_leaf (placeholder (bound_kind k m) u n) f e = absurd (no_existential_kind k e)
auto_leaf (atom x) f e = let z = auto_atom x e in (z.0, ap atom z.1)
auto_leaf unknown f e = absurd f

existential_heads : (h : Head) → head_sort h ≡ existential_sort → ((d : ℕ) × (h ≡ existential_trait d)) ⊎ ((d : ℕ) × (h ≡ existential_projection d))
existential_heads (existential_trait d) e = inl (d, refl)
existential_heads (existential_projection d) e = inr (d, refl)
existential_heads h e = absurd cc

existential_no_region : (s : Sort) → s ≡ existential_sort → s ≢ region_sort
existential_no_region s e = sort_no_region s existential_sort e (λ p. cc)

-- What stands for the variables of binders of regions are regions.
abbrev IsRegion : Tree → Type 0
IsRegion t = (sort_of t ≡ region_sort) × IsPlainTerm t × HasNoAlias t

abbrev pub AreRegions : List Tree → Type 0
AreRegions [] = Unit {0}
AreRegions (t ∷ ts) = IsRegion t × AreRegions ts

stands_region : (k : BoundKind) (t : Tree) → bound_sort k ≡ region_sort → IsStandIn k t → IsRegion t
stands_region k (leaf (variable j n)) e s = (s ∙ e, s ∙ e, tt)
stands_region k (leaf (placeholder q u n)) e s = (ap bound_sort s ∙ e, tt, tt)
stands_region k t e s = absurd s

pub stand_regions : (ks : List BoundKind) (ts : List Tree) → BindsRegions ks → StandFor ks ts → AreRegions ts
stand_regions [] [] b s = tt
stand_regions (k ∷ ks) (t ∷ ts) b s = (stands_region k t b.0 s.0, stand_regions ks ts b.1 s.1)
stand_regions [] (t ∷ ts) b s = absurd s
stand_regions (k ∷ ks) [] b s = absurd s

at_region : (ts : List Tree) (i : ℕ) (d : Tree) → AreRegions ts → IsRegion d → IsRegion (tree_at ts i d)
at_region [] i d h p = p
at_region (t ∷ ts) zero d h p = h.0
at_region (t ∷ ts) (suc i) d h p = at_region ts i d h.1 p

cond_region : (b : Bool) (t u : Tree) → IsRegion t → IsRegion u → IsRegion (cond b t u)
cond_region true t u p q = p
cond_region false t u p q = q

put_region : (ts : List Tree) (d : ℕ) (k : BoundKind) (e i : ℕ) → AreRegions ts → bound_sort k ≡ region_sort → IsRegion (put ts d (bound k e i))
put_region ts d k e i h p = cond_region (nat_eq e d) _ _ (at_region ts i (leaf (bound k e i)) h (p, p, tt)) (p, p, tt)

-- A plain term without aliases stays so, and its erasure stays.
pub inst_plain : (ts : List Tree) (d : ℕ) (t : Tree) → AreRegions ts → IsPlainTerm t → IsPlainTerm (inst ts d t)
inst_plain ts d (leaf (variable k n)) h r = r
inst_plain ts d (leaf (bound k e i)) h r = (put_region ts d k e i h r).1
inst_plain ts d (leaf (placeholder k u n)) h r = r
inst_plain ts d (leaf (atom x)) h r = r
inst_plain ts d (leaf unknown) h r = absurd r
inst_plain ts d (node a t) h r = (r.0, inst_plain ts d t h r.1)
inst_plain ts d (bind ks t) h r = (r.0, inst_plain ts (suc d) t h r.1)
inst_plain ts d nil h r = tt
inst_plain ts d (cons t u) h r = (inst_plain ts d t h r.0, inst_plain ts d u h r.1)

pub inst_no_alias : (ts : List Tree) (d : ℕ) (t : Tree) → AreRegions ts → IsPlainTerm t → HasNoAlias t → HasNoAlias (inst ts d t)
inst_no_alias ts d (leaf (variable k n)) h r a = tt
inst_no_alias ts d (leaf (bound k e i)) h r a = (put_region ts d k e i h r).2
inst_no_alias ts d (leaf (placeholder k u n)) h r a = tt
inst_no_alias ts d (leaf (atom x)) h r a = tt
inst_no_alias ts d (leaf unknown) h r a = tt
inst_no_alias ts d (node b t) h r a = (a.0, inst_no_alias ts d t h r.1 a.1)
inst_no_alias ts d (bind ks t) h r a = inst_no_alias ts (suc d) t h r.1 a
inst_no_alias ts d nil h r a = tt
inst_no_alias ts d (cons t u) h r a = (inst_no_alias ts d t h r.0 a.0, inst_no_alias ts d u h r.1 a.1)

pub erase-inst : (ts : List Tree) (d : ℕ) (t : Tree) → AreRegions ts → IsPlainTerm t → erase (inst ts d t) ≡ erase t
erase-inst ts d (leaf (variable k n)) h r = refl
erase-inst ts d (leaf (bound k e i)) h r = erase_region _ (put_region ts d k e i h r).0 ∙ sym (erase_region (leaf (bound k e i)) r)
erase-inst ts d (leaf (placeholder k u n)) h r = refl
erase-inst ts d (leaf (atom x)) h r = refl
erase-inst ts d (leaf unknown) h r = absurd r
erase-inst ts d (node a t) h r = ap (λ z. node a (kept_parts a z)) (erase-inst ts d t h r.1)
erase-inst ts d (bind ks t) h r = ap (bind []) (erase-inst ts (suc d) t h r.1)
erase-inst ts d nil h r = refl
erase-inst ts d (cons t u) h r = ap₂ cons (erase-inst ts d t h r.0) (erase-inst ts d u h r.1)

-- In a store no region variable of which has an entry a plain term is read as itself, but for one region as another.
abbrev pub RegionsUnbound : Store → Type 0
RegionsUnbound st = (n : ℕ) → entry_of st region_var n ≡ unbound

pub read_good : (set : Settings) (st : Store) → RegionsUnbound st → (a t : Tree) → IsReadAs st a t → Good set a → Good set t × (erase a ≡ erase t)
read_good set st un a t (itself e) f = (subst (Good set) e f, ap erase e)
read_good set st un a t (by_class k n m e o r) f =
    let p = region_kind_is k (subst (Good set) e f).0 in
    let z = read_good set st un (leaf (variable k m)) t r (ap var_sort p, inl tt) in
    (z.0, erase_region a (ap sort_of e ∙ ap var_sort p) ∙ sym (erase_region (leaf (variable k m)) (ap var_sort p)) ∙ z.1)
read_good set st un a t (by_binding {u = u} k n e b r) f =
    let p = region_kind_is k (subst (Good set) e f).0 in
    let z : unbound ≡ bound_to u = sym (un n) ∙ subst (λ j. entry_of st j n ≡ bound_to u) p b in absurd cc

-- What a region comes to names only regions.
through_none : (st : Store) → RegionsUnbound st → (f n : ℕ) → resolve f st region_var n ≡ leaf (variable region_var n)
unfolding resolve
through_none st un zero n = refl
through_none st un (suc f) n = ap (λ e. through (resolve f st) region_var n (entry_term region_var e)) (un n)

kind_path : {k q : BoundKind} {w u j i : ℕ} → leaf (placeholder k w j) ≡ leaf (placeholder q u i) → k ≡ q
kind_path e = cc

pub no_placeholder : (g : StructurallyRelateAliases) (st : Store) → RegionsUnbound st → (q : BoundKind) (u i : ℕ) (b : Tree) → IsPlainTerm b → sort_of b ≡ region_sort → bound_sort q ≢ region_sort → StandsSeen g (placeholder q u i) (apply (resolved st) b) → ⊥
unfolding resolved
no_placeholder g st un q u i (leaf (variable k n)) f e o s = let p = region_kind_is k f in
    let z : leaf (variable region_var n) ≡ leaf (placeholder q u i) = subst (λ t. StandsSeen g (placeholder q u i) t) (through_none st un _ n) (subst (λ j. StandsSeen g (placeholder q u i) (resolved st j n)) p s) in cc
no_placeholder g st un q u i (leaf (bound k d j)) f e o s = cc
no_placeholder g st un q u i (leaf (placeholder k w j)) f e o s = o (ap bound_sort (sym (kind_path s)) ∙ e)
no_placeholder g st un q u i (leaf (atom x)) f e o s = cc
no_placeholder g st un q u i (leaf unknown) f e o s = f
no_placeholder g st un q u i (node h ts) f e o s = no_region_head h e
no_placeholder g st un q u i (bind ks t) f e o s = cc
no_placeholder g st un q u i nil f e o s = cc
no_placeholder g st un q u i (cons t ts) f e o s = cc

pub plain_known : (t : Tree) → IsPlainTerm t → IsTrue (known t)
plain_known (leaf (variable k n)) f = refl
plain_known (leaf (bound k d i)) f = refl
plain_known (leaf (placeholder k u n)) f = refl
plain_known (leaf (atom x)) f = refl
plain_known (leaf unknown) f = absurd f
plain_known (node h ts) f = plain_known ts f.1
plain_known (bind ks t) f = plain_known t f.1
plain_known nil f = refl
plain_known (cons t ts) f = both_true (plain_known t f.0) (plain_known ts f.1)

module _ (set : Settings) (c : Items) where
  values_alike : (v : Variance) (a b : Tree) → Met set c v a b → IsTerm value_sort a → IsTerm value_sort b → Alike set c v a b → AreOfOneValue a b
  values_alike v (leaf l) (leaf m) f p q r = one_value (ap leaf (value_leaves l m (value_only _ p) (value_only _ q) f.left.0
      (leaves_alike set c v l m f (value_no_region _ (value_only _ p)) (value_no_region _ (value_only _ q)) r)))
  values_alike v (node h ts) (node k us) f p q r =
      let z = forms_agree set c v h k ts us f r in
      let e = value_head h (value_only _ p.0) in
      as_many_branches (ap (λ j. node j ts) e) (ap (λ j. node j us) (sym z.same ∙ e))
      (agree_counts set c h 0 v ts us (z.inside (branch_is_no_type h (value_only _ p.0))))
  values_alike v (leaf l) (node k us) f p q r = leaf_form set c v l k us f (value_no_region _ (value_only _ p)) r
  values_alike v (node h ts) (leaf m) f p q r = form_leaf set c v h ts m f (value_no_region _ (value_only _ q)) r
  values_alike v (bind ks t) b f p q r = absurd p
  values_alike v nil b f p q r = absurd p
  values_alike v (cons t ts) b f p q r = absurd p
  values_alike v a (bind ks t) f p q r = absurd q
  values_alike v a nil f p q r = absurd q
  values_alike v a (cons t ts) f p q r = absurd q

  -- Two constants that agree are alike.
  value_consts : (v : Variance) (ts us x y z w : Tree) → ts ≡ cons x (cons y nil) → us ≡ cons z (cons w nil) → Good set ts → Good set us → IsTerm value_sort y → IsTerm value_sort w → v ≢ Bivariant → Agree set c (parts value 0 v) (erase ts) (erase us) → AreAlikeConsts (node value ts) (node value us)
  value_consts v ts us x y z w e d f g p q n r =
      let left = subst (Good set) e f in
      let right = subst (Good set) d g in
      let agreed = subst₂ (λ t u. Agree set c (parts value 0 v) (erase t) (erase u)) e d r in
      both_values (ap (node value) e) (ap (node value) d) (values_alike v y w (record {
        left = good_first set y nil (good_rest set x (cons y nil) left);
        right = good_first set w nil (good_rest set z (cons w nil) right);
        decides = n;
        gone_into = normal_not_left set y w (value_no_alias y p) (value_no_alias w q);
      }) p q (subst (λ u. Alike set c u y w) (covariantly v) agreed.1.0))

  pub consts_alike : (v : Variance) (a b : Tree) → Met set c v a b → IsTerm const_sort a → IsTerm const_sort b → Alike set c v a b → AreAlikeConsts a b
  consts_alike v (leaf l) (leaf m) f p q r = alike_leaves refl refl
      (leaves_alike set c v l m f (const_no_region _ (const_only _ p)) (const_no_region _ (const_only _ q)) r)
  consts_alike v (node h ts) (node k us) f p q r =
      let z = forms_agree set c v h k ts us f r in
      let e = const_head h (const_only _ p.0) f.left.0.0 (no_alias_head set c f) in
      let d = sym z.same ∙ e in
      let x = value_shape ts (subst (λ j. Fits (head_parts j) ts) e p.1) in
      let y = value_shape us (subst (λ j. Fits (head_parts j) us) d q.1) in
      subst₂ (λ j i. AreAlikeConsts (node j ts) (node i us)) (sym e) (sym d)
      (value_consts v ts us x.0 x.1 y.0 y.1 x.2 y.2 (good_parts set h ts f.left) (good_parts set k us f.right) x.3 y.3 f.decides
      (subst (λ j. Agree set c (parts j 0 v) (erase ts) (erase us)) e (z.inside (value_is_no_type h e))))
  consts_alike v (leaf l) (node k us) f p q r = leaf_form set c v l k us f (const_no_region _ (const_only _ p)) r
  consts_alike v (node h ts) (leaf m) f p q r = form_leaf set c v h ts m f (const_no_region _ (const_only _ q)) r
  consts_alike v (bind ks t) b f p q r = absurd p
  consts_alike v nil b f p q r = absurd p
  consts_alike v (cons t ts) b f p q r = absurd p
  consts_alike v a (bind ks t) f p q r = absurd q
  consts_alike v a nil f p q r = absurd q
  consts_alike v a (cons t ts) f p q r = absurd q

  -- Predicates of trait objects that agree are alike.
  pub existentials_alike : (v : Variance) (a b : Tree) → Met set c v a b → sort_of a ≡ existential_sort → sort_of b ≡ existential_sort → Alike set c v a b → AreAlikeExistentials a b
  existentials_alike v (leaf l) (leaf m) f p q r =
      let x = auto_leaf l f.left.0 p in let y = auto_leaf m f.right.0 q in both_auto_traits (ap leaf x.1) (ap leaf y.1)
  existentials_alike v (node h ts) (node k us) f p q r = go (existential_heads h p)
    where
      one : h ≡ k
      one = (forms_agree set c v h k ts us f r).same

      go : ((d : ℕ) × (h ≡ existential_trait d)) ⊎ ((d : ℕ) × (h ≡ existential_projection d)) → AreAlikeExistentials (node h ts) (node k us)
      go (inl e) = both_traits (ap (λ j. node j ts) e.1) (ap (λ j. node j us) (sym one ∙ e.1))
      go (inr e) = both_projections (ap (λ j. node j ts) e.1) (ap (λ j. node j us) (sym one ∙ e.1))
  existentials_alike v (leaf l) (node k us) f p q r = leaf_form set c v l k us f (existential_no_region _ p) r
  existentials_alike v (node h ts) (leaf m) f p q r = form_leaf set c v h ts m f (existential_no_region _ q) r
  existentials_alike v (bind ks t) b f p q r = absurd cc
  existentials_alike v nil b f p q r = absurd cc
  existentials_alike v (cons t ts) b f p q r = absurd cc
  existentials_alike v a (bind ks t) f p q r = absurd cc
  existentials_alike v a nil f p q r = absurd cc
  existentials_alike v a (cons t ts) f p q r = absurd cc
