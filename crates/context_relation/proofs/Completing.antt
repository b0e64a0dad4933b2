-- Plain terms without variables are related where they agree, all regions outliving each other and what is asked of
-- aliases being so; where they are related their erasures agree, and no error comes.
use Rattle.std.proofs.Common.{◌≡◌, ◌≢◌, ◌⊎◌, ℕ, suc, refl, sym, ap, ap₂, ◌∙◌, inl, inr, ⊎_elim, subst, subst₂, Option, Result, Ok, Err, None}
use Rattle.std.specs.Global.{Vec}
use Rattle.term_enums.specs.declared.Variance.{Variance}
use Rattle.term_enums.specs.declared.Variance.TheVariants.{Covariant, Bivariant}
use Rattle.relation_terms.specs.declared.terms.goal.Goal.{Goal}
use Rattle.relation_terms.specs.declared.terms.keys.PredicateKey.{PredicateKey}
use Rattle.relation_terms.specs.declared.terms.keys.ParamEnvKey.{ParamEnvKey}
use Rattle.relation_terms.specs.Meaning.{Meaning, Extends}
use Rattle.relation_terms.specs.Interning.{Sorted}
use Rattle.relation_folds.specs.declared.error.TypeError.{TypeError}
use Rattle.relation_folds.specs.declared.error.RelateFault.{RelateFault}
use Rattle.relation_folds.specs.declared.error.RelateFault.TheVariants.{Memory, Budget, Unrelated}
use Rattle.term_enums.specs.declared.StructurallyRelateAliases.{StructurallyRelateAliases}
use Rattle.relation_semantics.specs.Contexts.{Context}
use Rattle.relation_semantics.specs.Lawful.{items_of, declared_by}
use Rattle.relation_semantics.specs.Stores.{IsSound, resolved, IsIntegerTerm, IsFloatTerm, Constraint, outlives_constraint, equal_constraint, ConstraintHolds}
use Rattle.relation_terms.specs.Heads.{Sort, region_sort, region_kind, type_kind, const_kind, bound_kind, int_var, float_var, region_var, leaf_sort, Atom, atom_sort, int_type, uint_type, float_type, early_region, type_param, const_param, Head, fn_ptr, unsafe_binder, alias, alias_term, unevaluated, value_type, Leaf, variable, bound, placeholder, atom, unknown, one, term_of}
use Rattle.relation_terms.specs.Trees.{Tree, leaf, node, bind, nil, cons, Leaves, Assign}
use Rattle.relation_terms.specs.Erasure.{erase, erase_leaf, erase_atom, kept_parts}
use Rattle.relation_semantics.specs.Relation.{Items, Interpretation, Rel, at, parts, same, anything, error_left, error_right, regions, alias_types, equal_consts, atoms, forms, no_parts, next_part, covariant_binders, contravariant_binders, invariant_binders, part_at, plain, sort_of, IsError, IsErrorAtom, IsAlias, IsAliasHead, IsValue, IsValueLeaf, all_outlive}
use Rattle.relation_semantics.specs.Settings.{Settings, DefersAliases}
use Rattle.relation_semantics.specs.Steps.{HasNoBinder}
use Rattle.relation_semantics.specs.Errors.{outer_leaf, AreAlike, ErrorOf}
use Rattle.relation_semantics.specs.Agreeing.{IsFlexible, AreFlexible, IsLeftAside, Agree}
use Rattle.relation_semantics.specs.Asking.{HaveAlias, IsPlainHead, IsPlainTerm, HasNoAlias, ArePlain, without_aliases, without_binders, Wanted, a_constraint, a_goal, AsksFor}
use Rattle.relation_semantics.proofs.Agreeing.{agree_anything, agree_same, agree_left, agree_sorts, open_alias, region_flexible}
use Rattle.relation_semantics.proofs.Asking.{no_alias_term}
use Rattle.relation_semantics.proofs.Trees.{apply_ground}
use Rattle.relation_semantics.proofs.Erased.{erase_region, erase_plain, no_error_atom, keeps_parts}
use Rattle.relation_recursion.proofs.Unifying.{erased_sort}
use Rattle.context_relation.specs.Completing.{AreRelatedAsAsked, AreNeverRelated, ErrorsDisagree, ErrorsAreUnrelated, AgreeingAreRelated, Complete, AskedHolds, IsSoWanted}
use Rattle.context_relation.specs.Relating.{term_in, RelatesAgreeing, AnswersError}
use Rattle.relation_combining.specs.Solving.{solver_settings}
use Rattle.context_relation.specs.RegionTerms.{IsRegionTermHead, IsRegionTerm}
use Rattle.context_relation.proofs.AskedGoals.{agreeing_related}
use Rattle.context_relation.proofs.Disagreeing.{disagree}
use Rattle.context_relation.proofs.PlainTerms.{outer_kept, left_good, right_good}
use Rattle.context_relation.proofs.RegionTerms.{region_or, rule_alias, related_terms_agree, related_iff_agree}
use Rattle.context_relation.proofs.Shapes.{shaped}
use Rattle.relation_terms.proofs.Paths.{leaf_path}
use Rattle.relation_terms.proofs.Erasing.{erased_count}
use Rattle.context_relation.specs.Closed.{SpendsForVariables}
use Rattle.relation_combining.proofs.ClosedTerms.{plain_never_needs}

-- A plain term without variables and aliases is first-order but for binders of regions.
region_head : (h : Head) → IsPlainHead h → (IsAliasHead h → ⊥) → IsRegionTermHead h
region_head (alias k d) f n = n tt
region_head (unevaluated d) f n = n tt
region_head fn_ptr f n = tt
region_head unsafe_binder f n = tt
region_head h f n = f

pub plain_region_term : (t : Tree) → IsPlainTerm t → HasNoAlias t → Leaves IsValueLeaf t → IsRegionTerm t
plain_region_term (leaf (variable k i)) f n g = absurd g
plain_region_term (leaf (bound k d i)) f n g = f
plain_region_term (leaf (placeholder k u i)) f n g = tt
plain_region_term (leaf (atom x)) f n g = f
plain_region_term (leaf unknown) f n g = absurd f
plain_region_term (node h ts) f n g = (region_head h f.0 n.0, plain_region_term ts f.1 n.1 g)
plain_region_term (bind ks t) f n g = (f.0, plain_region_term t f.1 n g)
plain_region_term nil f n g = tt
plain_region_term (cons t ts) f n g = (plain_region_term t f.0 n.0 g.0, plain_region_term ts f.1 n.1 g.1)

-- Forms that relating takes for one keep the same of their parts.
is_value_type : (h : Head) → (h ≡ value_type) ⊎ (h ≢ value_type)
is_value_type value_type = inl refl
is_value_type h = inr (λ e. cc)

value_type_plain : (h : Head) → plain h ≡ value_type → h ≡ value_type
value_type_plain (alias k d) e = absurd cc
value_type_plain (alias_term k d) e = absurd cc
value_type_plain h e = e

module _ (set : Settings) (c : Items) where
  kept_agree : (h k : Head) (v : Variance) (xs ys : Tree) → plain h ≡ plain k → Agree set c (parts h 0 v) xs ys →
      Agree set c (parts h 0 v) (kept_parts h xs) (kept_parts k ys)
  kept_agree h k v xs ys p r = go (is_value_type h) (is_value_type k)
    where
      go : (h ≡ value_type) ⊎ (h ≢ value_type) → (k ≡ value_type) ⊎ (k ≢ value_type) →
          Agree set c (parts h 0 v) (kept_parts h xs) (kept_parts k ys)
      go (inl e) (inl d) = subst₂ (λ x y. Agree set c (parts h 0 v) (kept_parts x xs) (kept_parts y ys)) (sym e) (sym d) refl
      go (inl e) (inr n) = absurd (n (value_type_plain k (sym p ∙ ap plain e)))
      go (inr n) (inl d) = absurd (n (value_type_plain h (p ∙ ap plain d)))
      go (inr n) (inr m) = subst₂ (Agree set c (parts h 0 v)) (sym (keeps_parts h xs n)) (sym (keeps_parts k ys m)) r

  -- Terms with aliases that are in the relation agree up to erasure, where aliases are left to goals.
  no_error : (a : Tree) → IsError a → IsPlainTerm a → ⊥
  no_error (leaf (atom x)) h f = no_error_atom x h f
  no_error a h f = h

  alias_kept : (a : Tree) → IsAlias a → IsAlias (erase a)
  alias_kept (node h ts) i = i
  alias_kept a i = absurd i

  have_kept : (a b : Tree) → HaveAlias a b → HaveAlias (erase a) (erase b)
  have_kept a b (inl i) = inl (alias_kept a i)
  have_kept a b (inr i) = inr (alias_kept b i)

  module _ (l : DefersAliases set) where
    aliases_agree : (v : Variance) (a b : Tree) → (v ≡ Bivariant) ⊎ HaveAlias a b → sort_of a ≡ sort_of b →
        Agree set c (at v) (erase a) (erase b)
    aliases_agree v a b (inl p) s = agree_anything set c v (erase a) (erase b) p
    aliases_agree v a b (inr i) s = agree_left set c v (erase a) (erase b) (inl (l, have_kept a b i))
        (erased_sort a ∙ s ∙ sym (erased_sort b))

    mutual
      pub agree_with_aliases : {w : Interpretation} {e : Tree} {v : Variance} {a b : Tree} → Rel c w e (at v) a b →
          IsPlainTerm a → IsPlainTerm b → HasNoBinder a → HasNoBinder b → Agree set c (at v) (erase a) (erase b)
      agree_with_aliases {v = v} (same p) f g n o = agree_same set c v _ _ (ap erase p)
      agree_with_aliases {v = v} (anything p) f g n o = agree_anything set c v _ _ p
      agree_with_aliases {a = a} (error_left h _) f g n o = absurd (no_error a h f)
      agree_with_aliases {b = b} (error_right h _) f g n o = absurd (no_error b h g)
      agree_with_aliases {v = v} {a = a} {b = b} (regions p q _) f g n o =
          agree_same set c v _ _ (erase_region a p ∙ sym (erase_region b q))
      agree_with_aliases {w = w} {e = e} {v = v} {a = a} {b = b} (alias_types p q r) f g n o =
          aliases_agree v a b (rule_alias w e v a b r) (p ∙ sym q)
      agree_with_aliases {v = v} {a = a} {b = b} (equal_consts p q r) f g n o = aliases_agree v a b (inr r.1) (p ∙ sym q)
      agree_with_aliases {v = v} (atoms {x = x} {y = y} p) f g n o = agree_same set c v _ _
          (ap (λ z. leaf (atom z)) (sym (erase_plain x) ∙ ap erase_atom p ∙ erase_plain y))
      agree_with_aliases {v = v} (forms {h = h} {k = k} {xs = xs} {ys = ys} i p r) f g n o =
          inr (p, kept_agree h k v (erase xs) (erase ys) p (parts_with_aliases r f.1 g.1 n o))
      agree_with_aliases (covariant_binders _ r) f g n o = absurd n
      agree_with_aliases (contravariant_binders _ r) f g n o = absurd n
      agree_with_aliases (invariant_binders _ r _) f g n o = absurd n

      parts_with_aliases : {w : Interpretation} {e : Tree} {h : Head} {i : ℕ} {v : Variance} {xs ys : Tree} →
          Rel c w e (parts h i v) xs ys → IsPlainTerm xs → IsPlainTerm ys → HasNoBinder xs → HasNoBinder ys →
          Agree set c (parts h i v) (erase xs) (erase ys)
      parts_with_aliases no_parts f g n o = refl
      parts_with_aliases (next_part r rs) f g n o =
          (agree_with_aliases r f.0 g.0 n.0 o.0, parts_with_aliases rs f.1 g.1 n.1 o.1)

  -- Plain terms without variables that are in the relation agree up to erasure.
  pub related_agree : (w : Interpretation) (e : Tree) (v : Variance) (a b : Tree) → ArePlain set a b →
      Leaves IsValueLeaf a → Leaves IsValueLeaf b → Rel c w e (at v) a b → Agree set c (at v) (erase a) (erase b)
  related_agree w e v a b (without_aliases p q f g) x y r =
      related_terms_agree set c w e v a b (plain_region_term a p f x) (plain_region_term b q g y) r
  related_agree w e v a b (without_binders p q f g l) x y r = agree_with_aliases l r p q f g

  -- Two that agree agree up to erasure, if they are without aliases.
  flexible_erased_atom : (x : Atom) → IsErrorAtom x ⊎ (atom_sort x ≡ region_sort) →
      IsErrorAtom (erase_atom x) ⊎ (atom_sort (erase_atom x) ≡ region_sort)
  flexible_erased_atom (early_region i n) o = inr refl
  flexible_erased_atom (type_param i n) o = o
  flexible_erased_atom (const_param i n) o = o
  flexible_erased_atom x o = o

  integer_erased : (b : Tree) → IsIntegerTerm b → IsIntegerTerm (erase b)
  integer_erased (leaf (variable int_var n)) h = tt
  integer_erased (leaf (atom (int_type x))) h = tt
  integer_erased (leaf (atom (uint_type x))) h = tt
  integer_erased (leaf (atom x)) h = absurd h
  integer_erased b h = absurd h

  float_erased : (b : Tree) → IsFloatTerm b → IsFloatTerm (erase b)
  float_erased (leaf (variable float_var n)) h = tt
  float_erased (leaf (atom (float_type x))) h = tt
  float_erased (leaf (atom x)) h = absurd h
  float_erased b h = absurd h

  flexible_erased : (a b : Tree) → IsFlexible a b → IsFlexible (erase a) (erase b)
  flexible_erased (leaf (variable region_var n)) b o = inr refl
  flexible_erased (leaf (variable int_var n)) b o = λ i. integer_erased b (o i)
  flexible_erased (leaf (variable float_var n)) b o = λ i. float_erased b (o i)
  flexible_erased (leaf (variable k n)) b o = λ i. absurd i
  flexible_erased (leaf (bound (bound_kind region_kind m) d i)) b o = inr refl
  flexible_erased (leaf (bound (bound_kind k m) d i)) b o = tt
  flexible_erased (leaf (placeholder (bound_kind region_kind m) u n)) b o = inr refl
  flexible_erased (leaf (placeholder (bound_kind type_kind m) u n)) b o = o
  flexible_erased (leaf (placeholder (bound_kind const_kind m) u n)) b o = o
  flexible_erased (leaf (atom x)) b o = flexible_erased_atom x o
  flexible_erased (leaf unknown) b o = o
  flexible_erased a b o = absurd o

  both_flexible : (a b : Tree) → IsFlexible a b ⊎ IsFlexible b a →
      IsFlexible (erase a) (erase b) ⊎ IsFlexible (erase b) (erase a)
  both_flexible a b (inl o) = inl (flexible_erased a b o)
  both_flexible a b (inr o) = inr (flexible_erased b a o)

  aside_erased : (v : Variance) (a b : Tree) → HasNoAlias a → HasNoAlias b → IsLeftAside set v a b →
      IsLeftAside set v (erase a) (erase b)
  aside_erased v a b f g (inl e) = inl e
  aside_erased v a b f g (inr l) = absurd (⊎_elim (no_alias_term a f) (no_alias_term b g) (open_alias set a b l.0))

  as_leaves : (v : Variance) (a b : Tree) → HasNoAlias a → HasNoAlias b →
      (AreAlike a b → AreFlexible (erase a) (erase b) ⊎ AreAlike (erase a) (erase b)) →
      IsLeftAside set v a b ⊎ (AreFlexible a b ⊎ AreAlike a b) →
      IsLeftAside set v (erase a) (erase b) ⊎ (AreFlexible (erase a) (erase b) ⊎ AreAlike (erase a) (erase b))
  as_leaves v a b f g n (inl p) = inl (aside_erased v a b f g p)
  as_leaves v a b f g n (inr (inl (o, s))) = inr (inl (both_flexible a b o, erased_sort a ∙ s ∙ sym (erased_sort b)))
  as_leaves v a b f g n (inr (inr e)) = inr (n e)

  leaf_alike_erased : (l m : Leaf) → AreAlike (leaf l) (leaf m) →
      AreFlexible (leaf (erase_leaf l)) (leaf (erase_leaf m)) ⊎ AreAlike (leaf (erase_leaf l)) (leaf (erase_leaf m))
  leaf_alike_erased l m e = go (region_or (leaf_sort l))
    where
      sorts_of : (Covariant ≡ Bivariant) ⊎ (leaf_sort l ≡ leaf_sort m) → leaf_sort l ≡ leaf_sort m
      sorts_of (inl p) = absurd cc
      sorts_of (inr s) = s

      sorts : leaf_sort l ≡ leaf_sort m
      sorts = sorts_of (agree_sorts set c Covariant (leaf l) (leaf m) (inr (inr e)))

      path : outer_leaf l ≡ outer_leaf m
      path = leaf_path e

      go : (leaf_sort l ≡ region_sort) ⊎ (leaf_sort l ≡ region_sort → ⊥) →
          AreFlexible (leaf (erase_leaf l)) (leaf (erase_leaf m)) ⊎ AreAlike (leaf (erase_leaf l)) (leaf (erase_leaf m))
      go (inl s) = inl (
        inl (flexible_erased (leaf l) (leaf m) (region_flexible (leaf l) (leaf m) s)),
        erased_sort (leaf l) ∙ sorts ∙ sym (erased_sort (leaf m)),
      )
      go (inr n) = inr (ap leaf (outer_kept l n ∙ path ∙ sym (outer_kept m (λ s. n (sorts ∙ s)))))

  mutual
    pub erased_agree : (v : Variance) (a b : Tree) → HasNoAlias a → HasNoAlias b → Agree set c (at v) a b →
        Agree set c (at v) (erase a) (erase b)
    erased_agree v (node h xs) (node k ys) f g (inl p) = inl (aside_erased v (node h xs) (node k ys) f g p)
    erased_agree v (node h xs) (node k ys) f g (inr r) =
        inr (r.0, kept_agree h k v (erase xs) (erase ys) r.0 (erased_parts h 0 v xs ys f.1 g.1 r.1))
    erased_agree v (bind ks a) (bind ls b) f g (inl p) = inl p
    erased_agree v (bind ks a) (bind ls b) f g (inr r) = inr (erased_agree v a b f g r)
    erased_agree v (leaf l) (leaf m) f g r = as_leaves v (leaf l) (leaf m) f g (leaf_alike_erased l m) r
    erased_agree v nil nil f g r = as_leaves v nil nil f g (λ e. inr e) r
    erased_agree v (cons a xs) (cons b ys) f g r = as_leaves v (cons a xs) (cons b ys) f g (λ e. inr refl) r
    erased_agree v a b f g r = as_leaves v a b f g (λ e. absurd cc) r

    erased_parts : (h : Head) (i : ℕ) (v : Variance) (xs ys : Tree) → HasNoAlias xs → HasNoAlias ys →
        Agree set c (parts h i v) xs ys → Agree set c (parts h i v) (erase xs) (erase ys)
    erased_parts h i v (cons a xs) (cons b ys) f g r =
        (erased_agree (part_at c h i v) a b f.0 g.0 r.0, erased_parts h (suc i) v xs ys f.1 g.1 r.1)
    erased_parts h i v xs ys f g r = erased_count xs ∙ r ∙ sym (erased_count ys)

  -- Where all regions outlive each other, each constraint holds.
  constraint_so : (w : Interpretation) (s : Assign) (q : Constraint) → w.outlives ≡ None → ConstraintHolds w s q
  constraint_so w s (outlives_constraint a b) all = all_outlive all
  constraint_so w s (equal_constraint a b) all = (all_outlive all, all_outlive all)

  all_so : (w : Interpretation) (e : Tree) (s : Assign) (z : Wanted) → w.outlives ≡ None → (v : Variance) (a b : Tree) →
      AsksFor c z v a b → AskedHolds c w e v a b → IsSoWanted c w e s z
  all_so w e s (a_constraint q) all v a b asks asked = constraint_so w s q all
  all_so w e s (a_goal p) all v a b asks asked = asked p asks s

  -- Those that agree are related, where all regions outlive each other and what is asked of aliases is so.
  related_as_asked : (e : Tree) (v : Variance) (s : Sort) (a b : Tree) → IsValue s a → IsValue s b → ArePlain set a b →
      Agree set c (at v) a b → AreRelatedAsAsked c e v a b
  related_as_asked e v s a b x y (without_aliases p q f g) r w all asked = (related_iff_agree set c w e v s a b all
      x.0 y.0 (plain_region_term a p f x.1) (plain_region_term b q g y.1)).1 (erased_agree v a b f g r)
  related_as_asked e v s a b x y (without_binders p q f g l) r w all asked =
      let t = shaped (one (term_of s)) a x.0 in
      let u = shaped (one (term_of s)) b y.0 in
      agreeing_related c w e set v a b t.0 u.0 (t.1, p, f, x.1) (u.1, q, g, y.1) (λ z asks s. all_so w e s z all v a b asks asked) r

pub agreeing_are_related : AgreeingAreRelated
agreeing_are_related k c e v s a b x y p r = related_as_asked k c e v s a b x y p r

-- An error excludes that.
pub errors_disagree : (Key Id Name : Type 0) → ErrorsDisagree Key Id Name
errors_disagree Key Id Name m sorted k c st sound v x a b p r z =
    disagree m sorted k c st sound.regions_unbound r (left_good k a b p) (right_good k a b p) z

pub errors_are_unrelated : (Key Id Name : Type 0) → ErrorsAreUnrelated Key Id Name
errors_are_unrelated Key Id Name m sorted k c st sound v x a b p f g r e w z =
    errors_disagree Key Id Name m sorted k c st sound v x a b p r (related_agree k c w e v a b p f g z)

-- So a call completes that answers only what agrees, and only such errors.
module _ {S Key Id Name A : Type 0} (state : S → Context Key Id Name) (old new : S) (over : Option Head)
    (tree : Meaning Key Id Name → A → Tree) (sorted : Sorted (state new).meaning) (sound : IsSound (state new).store)
    (grown : Extends (state old).meaning (state new).meaning) (setup : (state new).setup ≡ (state old).setup) where
  unrelated_before : (g : StructurallyRelateAliases) (e : Tree) (v : Variance) (a b : Tree) (x : TypeError Key Id Name) →
      ArePlain (solver_settings g (state old).setup) a b → Leaves IsValueLeaf a → Leaves IsValueLeaf b →
      ErrorOf (state new).meaning (solver_settings g (state new).setup) (items_of (state new).meaning) (state new).store v
      x a b → AreNeverRelated (items_of (state old).meaning) e v a b
  unrelated_before g e v a b x p f f' r = subst (λ c. AreNeverRelated c e v a b) (ap₂ declared_by grown.variances
      grown.alias_variances) (errors_are_unrelated Key Id Name (state new).meaning sorted
      (solver_settings g (state new).setup) (items_of (state new).meaning) (state new).store sound v x a b
      (subst (λ s. ArePlain (solver_settings g s) a b) (sym setup) p) f f' r e)

  pub completes : IsSound (state old).store → (g : StructurallyRelateAliases) (e : ParamEnvKey Key) (v : Variance) (a b : A)
      (result : Result (Vec (Goal Key (PredicateKey Key))) (RelateFault Key Id Name)) →
      SpendsForVariables state old new over tree a b result →
      RelatesAgreeing state old new over tree g v a b result → AnswersError state old new over tree g v a b result →
      Complete state old new over tree g e v a b result
  completes before g e v a b (Ok goals) needs agrees errors s x y p = agreeing_are_related (solver_settings g (state old).setup)
      (items_of (state old).meaning) (((state old).meaning).param_env e) v s (term_in (state old) over tree a)
      (term_in (state old) over tree b) x y p (subst₂ (Agree (solver_settings g (state old).setup)
      (items_of (state old).meaning) (at v))
      (apply_ground (resolved (state old).store) (term_in (state old) over tree a) x.1)
      (apply_ground (resolved (state old).store) (term_in (state old) over tree b) y.1) agrees)
  completes before g e v a b (Err (Unrelated z)) needs agrees errors s x y p = unrelated_before g
      (((state old).meaning).param_env e) v (term_in (state old) over tree a) (term_in (state old) over tree b) z p x.1 y.1
      errors
  completes before g e v a b (Err Budget) needs agrees errors s x y p =
      plain_never_needs (solver_settings g (state old).setup) (state old).store before (term_in (state old) over tree a)
      (term_in (state old) over tree b) p needs
  completes before g e v a b (Err Memory) needs agrees errors s x y p = tt
