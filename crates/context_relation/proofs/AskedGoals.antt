-- Where what is asked of aliases is so, two terms of which one is an alias are related, and so are terms over such that
-- agree, where what is asked of regions is so too.
use Rattle.std.proofs.Common.{◌≡◌, ◌≢◌, ◌⊎◌, ℕ, zero, suc, ◌<◌, ◌+◌, refl, sym, ◌∙◌, inl, inr, subst, subst₂, arith, Some, Bool, true, false}
use Rattle.std.proofs.lemmas.Bool.{false≢true}
use Rattle.term_enums.specs.declared.Variance.{Variance}
use Rattle.term_enums.specs.declared.Variance.TheVariants.{Covariant, Contravariant, Invariant, Bivariant}
use Rattle.term_enums.specs.declared.AliasRelationDirection.TheVariants.{Equate, Subtype}
use Rattle.relation_terms.specs.Heads.{region_sort, type_sort, const_sort, leaf_sort, Head, alias, unevaluated, Leaf, variable, bound, placeholder, atom, unknown, host_effect, subtype, region_outlives, type_outlives, projection, const_has_type, well_formed, const_evaluatable, coerce, normalizes_to, alias_relate, environment}
use Rattle.relation_terms.specs.Trees.{Tree, leaf, node, bind, nil, cons, count, nth, Leaves, Assign, apply, IsList}
use Rattle.relation_terms.specs.Equality.{same_tree}
use Rattle.relation_terms.proofs.Equality.{same_is, is_same}
use Rattle.relation_semantics.specs.Relation.{Items, Interpretation, Outlives, RegionRule, Rel, at, parts, same, anything, regions, alias_types, equal_consts, forms, no_parts, next_part, part_at, plain, sort_of, IsAliasHead, IsRelatedHead, IsEqualPair, IsOrderedPair, IsValueLeaf}
use Rattle.relation_semantics.specs.Settings.{Settings}
use Rattle.relation_semantics.specs.Steps.{HasNoBinder}
use Rattle.relation_semantics.specs.Goals.{alias_relate_predicate}
use Rattle.relation_semantics.specs.Errors.{AreAlike}
use Rattle.relation_semantics.specs.Agreeing.{IsFlexible, AreFlexible, IsLeftAside, Agree}
use Rattle.relation_semantics.specs.Asking.{a_constraint, a_goal, region_at, HaveAlias, AsksFor, of_regions, of_aliases, of_unevaluated, of_parts, IsPlainLeaf, IsPlainHead, IsPlainTerm}
use Rattle.relation_semantics.specs.Stores.{Constraint, outlives_constraint, equal_constraint, ConstraintHolds}
use Rattle.relation_semantics.proofs.Agreeing.{agree_sorts, open_alias}
use Rattle.relation_semantics.proofs.Erased.{no_error_atom}
use Rattle.relation_semantics.proofs.Related.{no_region_head}
use Rattle.relation_semantics.proofs.Trees.{apply_ground}
use Rattle.context_relation.specs.Completing.{AskedHolds, AskedIsSo}
use Rattle.context_relation.proofs.RegionTerms.{outer_related}
use Rattle.context_relation.proofs.Shapes.{IsNode, IsShaped}
use Rattle.relation_terms.proofs.Paths.{leaf_path}

module _ (c : Items) (w : Interpretation) (e : Tree) where
  themselves : Assign
  themselves k n = leaf (variable k n)

  -- An alias and a type, or a constant, are related by their goal.
  alias_or : (a b : Tree) → HaveAlias a b → sort_of a ≡ sort_of b → (sort_of a ≡ type_sort) ⊎ (sort_of a ≡ const_sort)
  alias_or (node (alias k d) ts) b (inl i) s = inl refl
  alias_or (node (unevaluated d) ts) b (inl i) s = inr refl
  alias_or (node h ts) b (inl i) s = absurd i
  alias_or (leaf l) b (inl i) s = absurd i
  alias_or (bind ks t) b (inl i) s = absurd i
  alias_or nil b (inl i) s = absurd i
  alias_or (cons t ts) b (inl i) s = absurd i
  alias_or a (node (alias k d) ts) (inr i) s = inl s
  alias_or a (node (unevaluated d) ts) (inr i) s = inr s
  alias_or a (node h ts) (inr i) s = absurd i
  alias_or a (leaf l) (inr i) s = absurd i
  alias_or a (bind ks t) (inr i) s = absurd i
  alias_or a nil (inr i) s = absurd i
  alias_or a (cons t ts) (inr i) s = absurd i

  module _ (a b : Tree) (x : Leaves IsValueLeaf a) (y : Leaves IsValueLeaf b) where
    ordered : (a' b' : Tree) → IsOrderedPair w e (apply themselves a') (apply themselves b') → Leaves IsValueLeaf a' →
        Leaves IsValueLeaf b' → IsOrderedPair w e a' b'
    ordered a' b' r f g = subst₂ (IsOrderedPair w e) (apply_ground themselves a' f) (apply_ground themselves b' g) r

    types_by_goal : (v : Variance) → HaveAlias a b → a ≢ b → sort_of a ≡ type_sort → sort_of b ≡ type_sort →
        AskedHolds c w e v a b → Rel c w e (at v) a b
    types_by_goal Covariant i n s t f = alias_types s t
        (ordered a b (f (alias_relate_predicate Subtype a b) (of_aliases _ refl i n s refl) themselves) x y)
    types_by_goal Contravariant i n s t f = alias_types s t
        (ordered b a (f (alias_relate_predicate Subtype b a) (of_aliases _ refl i n s refl) themselves) y x)
    types_by_goal Invariant i n s t f = alias_types s t
        (subst₂ (IsEqualPair w e) (apply_ground themselves a x) (apply_ground themselves b y)
        (f (alias_relate_predicate Equate a b) (of_aliases _ refl i n s refl) themselves))
    types_by_goal Bivariant i n s t f = anything refl

    consts_by_goal : (v : Variance) → v ≢ Bivariant → HaveAlias a b → a ≢ b → sort_of a ≡ const_sort →
        sort_of b ≡ const_sort → AskedHolds c w e v a b → Rel c w e (at v) a b
    consts_by_goal v d i n s t f = equal_consts s t
        (subst₂ (IsEqualPair w e) (apply_ground themselves a x) (apply_ground themselves b y)
        (f (alias_relate_predicate Equate a b) (of_unevaluated refl i n s d) themselves))

    decides_or : (v : Variance) → (v ≡ Bivariant) ⊎ (v ≢ Bivariant)
    decides_or Bivariant = inl refl
    decides_or v = inr (λ p. cc)

    by_goal : (v : Variance) → HaveAlias a b → sort_of a ≡ sort_of b → AskedHolds c w e v a b → Rel c w e (at v) a b
    by_goal v i s f = go (same_tree a b) refl
      where
        unlike : a ≢ b → (sort_of a ≡ type_sort) ⊎ (sort_of a ≡ const_sort) → (v ≡ Bivariant) ⊎ (v ≢ Bivariant) →
            Rel c w e (at v) a b
        unlike n o (inl p) = anything p
        unlike n (inl t) (inr d) = types_by_goal v i n t (sym s ∙ t) f
        unlike n (inr t) (inr d) = consts_by_goal v d i n t (sym s ∙ t) f

        go : (q : Bool) → same_tree a b ≡ q → Rel c w e (at v) a b
        go true p = same (same_is a b p)
        go false p = unlike (λ q. false≢true (sym p ∙ is_same a b q)) (alias_or a b i s) (decides_or v)

  -- What is asked of two regions is so where their rule is, and the other way round.
  held : (s : Assign) (a b : Tree) → Leaves IsValueLeaf a → Leaves IsValueLeaf b → Outlives w a b →
      Outlives w (apply s a) (apply s b)
  held s a b f g r = subst₂ (Outlives w) (sym (apply_ground s a f)) (sym (apply_ground s b g)) r

  pub rule_holds : (s : Assign) (v : Variance) (a b : Tree) → Leaves IsValueLeaf a → Leaves IsValueLeaf b →
      (q : Constraint) → region_at v a b ≡ Some q → RegionRule w v a b → ConstraintHolds w s q
  rule_holds s Covariant a b f g q e r =
      let p : outlives_constraint a b ≡ q = cc in subst (ConstraintHolds w s) p (held s a b f g r)
  rule_holds s Contravariant a b f g q e r =
      let p : outlives_constraint b a ≡ q = cc in subst (ConstraintHolds w s) p (held s b a g f r)
  rule_holds s Invariant a b f g q e r =
      let p : equal_constraint a b ≡ q = cc in subst (ConstraintHolds w s) p (held s a b f g r.0, held s b a g f r.1)
  rule_holds s Bivariant a b f g q e r = absurd cc

  had : (a b : Tree) → Leaves IsValueLeaf a → Leaves IsValueLeaf b → Outlives w (apply themselves a) (apply themselves b) →
      Outlives w a b
  had a b f g r = subst₂ (Outlives w) (apply_ground themselves a f) (apply_ground themselves b g) r

  asked_rule : (v : Variance) (a b : Tree) → Leaves IsValueLeaf a → Leaves IsValueLeaf b →
      ((q : Constraint) → region_at v a b ≡ Some q → ConstraintHolds w themselves q) → RegionRule w v a b
  asked_rule Covariant a b f g h = had a b f g (h (outlives_constraint a b) refl)
  asked_rule Contravariant a b f g h = had b a g f (h (outlives_constraint b a) refl)
  asked_rule Invariant a b f g h = let z = h (equal_constraint a b) refl in (had a b f g z.0, had b a g f z.1)
  asked_rule Bivariant a b f g h = tt

  asked_goals : (v : Variance) (a b : Tree) → AskedIsSo c w e v a b → AskedHolds c w e v a b
  asked_goals v a b f p asks s = f (a_goal p) asks s

  -- Terms without variables and binders that agree are related, where what they ask for is so.
  module _ (set : Settings) where
    abbrev pub Suited : Tree → Type 0
    Suited t = IsShaped t × IsPlainTerm t × HasNoBinder t × Leaves IsValueLeaf t

    related_head : (h : Head) → IsPlainHead h → IsRelatedHead h
    related_head (host_effect x) f = absurd f
    related_head (subtype x) f = absurd f
    related_head region_outlives f = absurd f
    related_head type_outlives f = absurd f
    related_head projection f = absurd f
    related_head const_has_type f = absurd f
    related_head well_formed f = absurd f
    related_head const_evaluatable f = absurd f
    related_head coerce f = absurd f
    related_head normalizes_to f = absurd f
    related_head (alias_relate d) f = absurd f
    related_head environment f = absurd f
    related_head h f = tt

    aside : (v : Variance) (a b : Tree) → Suited a → Suited b → AskedIsSo c w e v a b → IsLeftAside set v a b →
        Rel c w e (at v) a b
    aside v a b x y f (inl p) = anything p
    aside v a b x y f (inr (l, s)) = by_goal a b x.3 y.3 v (open_alias set a b l) s (asked_goals v a b f)

    flexible_region : (l : Leaf) (u : Tree) → IsPlainLeaf l → IsFlexible (leaf l) u → leaf_sort l ≡ region_sort
    flexible_region (variable k n) u f o = f
    flexible_region (bound k d i) u f o = f
    flexible_region (placeholder k w n) u f o = o
    flexible_region (atom x) u f (inl h) = absurd (no_error_atom x h f)
    flexible_region (atom x) u f (inr s) = s
    flexible_region unknown u f o = absurd f

    leaf_regions : (v : Variance) (l m : Leaf) → IsValueLeaf l → IsValueLeaf m → AskedIsSo c w e v (leaf l) (leaf m) →
        leaf_sort l ≡ region_sort → leaf_sort m ≡ region_sort → Rel c w e (at v) (leaf l) (leaf m)
    leaf_regions v l m x y f p q = regions p q (asked_rule v (leaf l) (leaf m) x y
        (λ k r. f (a_constraint k) (of_regions k refl p q r) themselves))

    leaf_related : (v : Variance) (l m : Leaf) → IsPlainLeaf l → IsPlainLeaf m → IsValueLeaf l → IsValueLeaf m →
        AskedIsSo c w e v (leaf l) (leaf m) → AreFlexible (leaf l) (leaf m) ⊎ AreAlike (leaf l) (leaf m) →
        Rel c w e (at v) (leaf l) (leaf m)
    leaf_related v l m f g x y asked (inl (inl o, s)) =
        let p = flexible_region l (leaf m) f o in leaf_regions v l m x y asked p (sym s ∙ p)
    leaf_related v l m f g x y asked (inl (inr o, s)) =
        let p = flexible_region m (leaf l) g o in leaf_regions v l m x y asked (s ∙ p) p
    leaf_related v l m f g x y asked (inr p) = outer_related c w e v l m (leaf_path p)

    leaf_is_no_form : {X : Type 0} (l : Leaf) (k : Head) (us : Tree) → IsPlainLeaf l →
        AreFlexible (leaf l) (node k us) ⊎ AreAlike (leaf l) (node k us) → X
    leaf_is_no_form l k us f (inl (inl o, s)) = absurd (no_region_head k (sym s ∙ flexible_region l (node k us) f o))
    leaf_is_no_form l k us f (inl (inr o, s)) = absurd o
    leaf_is_no_form l k us f (inr p) = absurd cc

    form_is_no_leaf : {X : Type 0} (h : Head) (ts : Tree) (m : Leaf) → IsPlainLeaf m →
        AreFlexible (node h ts) (leaf m) ⊎ AreAlike (node h ts) (leaf m) → X
    form_is_no_leaf h ts m f (inl (inl o, s)) = absurd o
    form_is_no_leaf h ts m f (inl (inr o, s)) = absurd (no_region_head h (s ∙ flexible_region m (node h ts) f o))
    form_is_no_leaf h ts m f (inr p) = absurd cc

    is_alias_head : (h : Head) → IsAliasHead h ⊎ (IsAliasHead h → ⊥)
    is_alias_head (alias k d) = inl tt
    is_alias_head (unevaluated d) = inl tt
    is_alias_head h = inr (λ i. i)

    -- What is asked of two forms is asked of their parts.
    asked_of_parts : (v : Variance) (h k : Head) (ts us : Tree) → (HaveAlias (node h ts) (node k us) → ⊥) →
        IsRelatedHead h → plain h ≡ plain k → AskedIsSo c w e v (node h ts) (node k us) → (j : ℕ) → j < count ts →
        j < count us → AskedIsSo c w e (part_at c h (0 + j) v) (nth j ts) (nth j us)
    asked_of_parts v h k ts us n r p f j l m q asks = f q (of_parts j refl refl n r p l m
        (subst (λ i. AsksFor c q (part_at c h i v) (nth j ts) (nth j us)) (omega arith) asks))

    suited_parts : (h : Head) (ts : Tree) → Suited (node h ts) → Suited ts
    suited_parts h ts x = (x.0.2, x.1.1, x.2, x.3)

    suited_first : (t ts : Tree) → Suited (cons t ts) → Suited t
    suited_first t ts x = (x.0.1, x.1.0, x.2.0, x.3.0)

    suited_rest : (t ts : Tree) → Suited (cons t ts) → Suited ts
    suited_rest t ts x = (x.0.2, x.1.1, x.2.1, x.3.1)

    -- Two forms are related by their parts, or by their goal where one is an alias.
    forms_or_goal : (v : Variance) (h k : Head) (ts us : Tree) → Suited (node h ts) → Suited (node k us) →
        AskedIsSo c w e v (node h ts) (node k us) → (plain h ≡ plain k) × Agree set c (parts h 0 v) ts us →
        ((HaveAlias (node h ts) (node k us) → ⊥) → Rel c w e (parts h 0 v) ts us) →
        Rel c w e (at v) (node h ts) (node k us)
    forms_or_goal v h k ts us x y f r by_parts = go (is_alias_head h) (is_alias_head k)
      where
        by_sorts : HaveAlias (node h ts) (node k us) → (v ≡ Bivariant) ⊎ (sort_of (node h ts) ≡ sort_of (node k us)) →
            Rel c w e (at v) (node h ts) (node k us)
        by_sorts o (inl p) = anything p
        by_sorts o (inr s) = by_goal (node h ts) (node k us) x.3 y.3 v o s (asked_goals v (node h ts) (node k us) f)

        neither : (IsAliasHead h → ⊥) → (IsAliasHead k → ⊥) → HaveAlias (node h ts) (node k us) → ⊥
        neither n o (inl i) = n i
        neither n o (inr i) = o i

        go : IsAliasHead h ⊎ (IsAliasHead h → ⊥) → IsAliasHead k ⊎ (IsAliasHead k → ⊥) →
            Rel c w e (at v) (node h ts) (node k us)
        go (inl o) q = by_sorts (inl o) (agree_sorts set c v (node h ts) (node k us) (inr r))
        go (inr n) (inl o) = by_sorts (inr o) (agree_sorts set c v (node h ts) (node k us) (inr r))
        go (inr n) (inr o) = forms (related_head h x.1.0) r.0 (by_parts (neither n o))

    mutual
      pub agreeing_related : (v : Variance) (a b : Tree) → IsNode a → IsNode b → Suited a → Suited b →
          AskedIsSo c w e v a b → Agree set c (at v) a b → Rel c w e (at v) a b
      agreeing_related v (leaf l) (leaf m) i j x y f (inl p) = aside v (leaf l) (leaf m) x y f p
      agreeing_related v (leaf l) (leaf m) i j x y f (inr r) = leaf_related v l m x.1 y.1 x.3 y.3 f r
      agreeing_related v (leaf l) (node k us) i j x y f (inl p) = aside v (leaf l) (node k us) x y f p
      agreeing_related v (leaf l) (node k us) i j x y f (inr r) = leaf_is_no_form l k us x.1 r
      agreeing_related v (node h ts) (leaf m) i j x y f (inl p) = aside v (node h ts) (leaf m) x y f p
      agreeing_related v (node h ts) (leaf m) i j x y f (inr r) = form_is_no_leaf h ts m y.1 r
      agreeing_related v (node h ts) (node k us) i j x y f (inl p) = aside v (node h ts) (node k us) x y f p
      agreeing_related v (node h ts) (node k us) i j x y f (inr r) = forms_or_goal v h k ts us x y f r
          (λ n. parts_related h v 0 ts us x.0.0 y.0.0 (suited_parts h ts x) (suited_parts k us y)
          (asked_of_parts v h k ts us n (related_head h x.1.0) r.0 f) r.1)
      agreeing_related v (bind ks a) b i j x y f r = absurd x.2
      agreeing_related v a (bind ls b) i j x y f r = absurd y.2
      agreeing_related v nil b i j x y f r = absurd i
      agreeing_related v (cons t ts) b i j x y f r = absurd i
      agreeing_related v a nil i j x y f r = absurd j
      agreeing_related v a (cons t ts) i j x y f r = absurd j

      parts_related : (h : Head) (v : Variance) (i : ℕ) (xs ys : Tree) → IsList xs → IsList ys → Suited xs → Suited ys →
          ((j : ℕ) → j < count xs → j < count ys → AskedIsSo c w e (part_at c h (i + j) v) (nth j xs) (nth j ys)) →
          Agree set c (parts h i v) xs ys → Rel c w e (parts h i v) xs ys
      parts_related h v i nil nil l m x y f r = no_parts
      parts_related h v i (cons a xs) (cons b ys) l m x y f r = next_part
          (agreeing_related (part_at c h i v) a b x.0.0 y.0.0 (suited_first a xs x) (suited_first b ys y)
          (subst (λ n. AskedIsSo c w e (part_at c h n v) a b) (omega arith) (f zero (omega arith) (omega arith))) r.0)
          (parts_related h v (suc i) xs ys l m (suited_rest a xs x) (suited_rest b ys y) (λ j p q.
          subst (λ n. AskedIsSo c w e (part_at c h n v) (nth j xs) (nth j ys)) (omega arith)
          (f (suc j) (omega (arith, p)) (omega (arith, q)))) r.1)
      parts_related h v i nil (cons b ys) l m x y f r = absurd cc
      parts_related h v i (cons a xs) nil l m x y f r = absurd cc
      parts_related h v i nil ys l m x y f r = absurd m
      parts_related h v i (cons a xs) ys l m x y f r = absurd m
      parts_related h v i xs ys l m x y f r = absurd l
