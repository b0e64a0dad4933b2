-- Sets of assumptions, as they grow, and what a list of components gives.
use Rattle.std.proofs.Common.{◌≡◌, ◌∙◌, ◌&&◌, ◌||◌, not, Bool, true, false, cond, IsTrue, refl, sym, ap, ap₂, subst}
use Rattle.std.proofs.Common.{ℕ, ◌<◌, ◌+◌, nat_lt, arith, length, get_or, take, IfSome, ⊎_elim, inl, inr}
use Rattle.std.proofs.Common.{List, [], ◌∷◌, ◌++◌, map, append-nil, Option, Some, None}
use Rattle.std.proofs.lemmas.Bool.{and_parts, ltb-true}
use Rattle.std.proofs.lemmas.List.{append_assoc, take_more}
use Rattle.std.proofs.lemmas.List.Elements.{All-nil, All-cons, All-head, All-tail, All-append, All-weaker, All-map}
use Rattle.std.proofs.lemmas.List.Elements.{All-contains, All-contains_itself, Contains-append_left}
use Rattle.std.proofs.lemmas.List.Elements.{Contains-append_right, Contains-append_cases, Contains-push}
use Rattle.std.proofs.lemmas.List.Elements.{Contains-push_cases, filter_map-append}
use Rattle.std.proofs.lemmas.List.Sorted.{IsPermutation-map, IsPermutation-sym, IsPermutation-to_front, All-permutation}
use Rattle.std.specs.Bool.{MatchBool}
use Rattle.std.specs.List.{All, Contains, cons_option, filter, filter_map, list_any}
use Rattle.std.specs.List.Sorted.{IsPermutation}
use Rattle.std.specs.Option.{option_map}
use Rattle.relation_terms.specs.Heads.{type_sort}
use Rattle.relation_terms.specs.Trees.{Tree, leaf, node, bind, nil, cons, known}
use Rattle.relation_terms.specs.Meaning.{Meaning, Extends, kind_tree, infer_tree, region_tree, arg_tree}
use Rattle.relation_terms.specs.Interning.{AreEqualAsTrees}
use Rattle.relation_terms.specs.Parts.{tree_sort}
use Rattle.relation_terms.specs.Closures.{is_type_sort}
use Rattle.relation_terms.specs.declared.predicate.regions.OutlivesPredicate.{OutlivesPredicate}
use Rattle.relation_terms.specs.declared.terms.generic_arg.GenericArgKind.{GenericArgKind}
use Rattle.relation_terms.specs.declared.terms.generic_arg.GenericArgKind.TheVariants.{Lifetime, Ty, Const}
use Rattle.relation_terms.specs.declared.terms.keys.RegionKey.{RegionKey}
use Rattle.relation_terms.specs.declared.terms.keys.TyKey.{TyKey}
use Rattle.relation_terms.specs.declared.terms.numbers.DebruijnIndex.{DebruijnIndex}
use Rattle.relation_terms.specs.declared.terms.region_kind.BoundRegion.{BoundRegion}
use Rattle.relation_terms.specs.declared.terms.region_kind.RegionKind.{RegionKind}
use Rattle.relation_terms.specs.declared.terms.region_kind.RegionKind.TheVariants.{ReStatic, ReEarlyParam, ReBound}
use Rattle.relation_terms.specs.declared.terms.region_kind.RegionKind.TheVariants.{ReVar, RePlaceholder}
use Rattle.relation_terms.specs.declared.terms.ty_kind.InferTy.{InferTy}
use Rattle.relation_terms.specs.declared.terms.ty_kind.InferTy.TheVariants.{TyVar, IntVar, FloatVar}
use Rattle.relation_terms.specs.declared.terms.ty_kind.InferTy.TheVariants.{FreshTy, FreshIntTy, FreshFloatTy}
use Rattle.relation_terms.specs.declared.terms.ty_kind.TyKind.TheVariants.{Param as TyParam, Alias as TyAlias}
use Rattle.relation_terms.specs.declared.terms.ty_kind.TyKind.TheVariants.{Placeholder as TyPlaceholder}
use Rattle.relation_terms.proofs.Members.{region_term, type_term, const_term}
use Rattle.relation_terms.specs.Interning.{Sorted}
use Rattle.relation_terms.proofs.Stays.{knows_as, stays_arg, knows_arg, knows_region, stays_kind}
use Rattle.relation_folds.specs.Visits.{bound_var_escapes}
use Rattle.component_parts.specs.Components.{Choice, every, takes, choice_behind, choice_of, is_alias, is_component, components}
use Rattle.outlives.specs.Outliving.{SomeIs, EachIs, StandsFor, AddsSome, HasAll}
use Rattle.outlives_assumptions.specs.Assumptions.{is_unresolved, is_assumed, assumed_parts, elaborated, assumed, IsKnown}
use Rattle.outlives_assumptions.specs.Assumptions.{all_elaborated, HaveSame}
use Rattle.outlives_assumptions.specs.Assuming.{argument_of, pair_of, IsKnownComponent, Gains}
use Rattle.outlives.specs.declared.Component.{Component, Region, Param, Placeholder}
use Rattle.outlives.specs.declared.Component.{UnresolvedInferenceVariable, Alias, EscapingAlias'}

-- Lists with the same members.
module _ {A : Type 0} where
  first : (x : A) (xs : List A) → Contains (x ∷ xs) x
  first x xs = Contains-append_left (x ∷ []) xs x (Contains-push [] x)

  pub same_refl : (xs : List A) → HaveSame xs xs
  same_refl xs x = (λ c. c, λ c. c)

  pub same_as : (xs ys : List A) → xs ≡ ys → HaveSame xs ys
  same_as xs ys e = subst (λ z. HaveSame xs z) e (same_refl xs)

  pub same_on : (xs ys zs : List A) → HaveSame xs ys → HaveSame ys zs → HaveSame xs zs
  same_on xs ys zs h k x = (λ c. (k x).0 ((h x).0 c), λ c. (h x).1 ((k x).1 c))

  both_sub : (xs us ys vs : List A) → ((x : A) → Contains xs x → Contains us x) →
      ((x : A) → Contains ys x → Contains vs x) → (x : A) → Contains (xs ++ ys) x → Contains (us ++ vs) x
  both_sub xs us ys vs f g x c =
      ⊎_elim (λ l. Contains-append_left us vs x (f x l)) (λ r. Contains-append_right us vs x (g x r))
      (Contains-append_cases xs ys x c)

  pub same_both : (xs us ys vs : List A) → HaveSame xs us → HaveSame ys vs → HaveSame (xs ++ ys) (us ++ vs)
  same_both xs us ys vs h k x = (
    both_sub xs us ys vs (λ z. (h z).0) (λ z. (k z).0) x,
    both_sub us xs vs ys (λ z. (h z).1) (λ z. (k z).1) x,
  )

  permuted_sub : (xs ys : List A) → IsPermutation xs ys → (x : A) → Contains ys x → Contains xs x
  permuted_sub xs ys p x c =
      All-contains (Contains xs) ys x (All-permutation (Contains xs) xs ys p (All-contains_itself xs)) c

  same_permuted : (xs ys : List A) → IsPermutation xs ys → HaveSame xs ys
  same_permuted xs ys p x = (permuted_sub ys xs (IsPermutation-sym xs ys p) x, permuted_sub xs ys p x)

  same_again : (xs : List A) (y : A) → Contains xs y → HaveSame xs (xs ++ y ∷ [])
  same_again xs y c x = (
    Contains-append_left xs (y ∷ []) x,
    λ d. ⊎_elim (λ l. l) (λ e. subst (Contains xs) e c) (Contains-push_cases xs y x d),
  )

  -- What stays where one more may stand in front.
  passes : (o : Option A) (xs : List A) (x : A) → Contains xs x → Contains (cons_option o xs) x
  passes None xs x c = c
  passes (Some y) xs x c = Contains-append_right (y ∷ []) xs x c

  keeps : (b : Bool) (y : A) (xs : List A) (x : A) → Contains xs x → Contains (cond b (y ∷ xs) xs) x
  keeps true y xs x c = Contains-append_right (y ∷ []) xs x c
  keeps false y xs x c = c

  here : (b : Bool) (y : A) (xs : List A) → b ≡ true → Contains (cond b (y ∷ xs) xs) y
  here true y xs e = first y xs
  here false y xs e = absurd (cc)

  all_passes : (P : A → Type 0) (o : Option A) → ((x : A) → o ≡ Some x → P x) → (xs : List A) → All P xs →
      All P (cons_option o xs)
  all_passes P None f xs a = a
  all_passes P (Some x) f xs a = All-cons P x xs (f x refl) a

  all_keeps : (P : A → Type 0) (b : Bool) (x : A) (xs : List A) → (b ≡ true → P x) → All P xs →
      All P (cond b (x ∷ xs) xs)
  all_keeps P true x xs f a = All-cons P x xs (f refl) a
  all_keeps P false x xs f a = a

  all_chosen : (P : A → Type 0) (b : Bool) (xs ys : List A) → All P xs → All P ys → All P (cond b xs ys)
  all_chosen P true xs ys a o = a
  all_chosen P false xs ys a o = o

-- And of what is made of each member.
module _ {A B : Type 0} (f : A → B) where
  mapped_itself : (xs : List A) → All (λ z. Contains (map f xs) (f z)) xs
  mapped_itself [] = All-nil (λ z. Contains (map f []) (f z))
  mapped_itself (x ∷ xs) =
      All-cons (λ z. Contains (f x ∷ map f xs) (f z)) x xs (first (f x) (map f xs))
      (All-weaker (λ z. Contains (map f xs) (f z)) (λ z. Contains (f x ∷ map f xs) (f z))
      (λ z c. Contains-append_right (f x ∷ []) (map f xs) (f z) c) xs (mapped_itself xs))

  mapped_sub : (xs ys : List A) → ((x : A) → Contains xs x → Contains ys x) → (y : B) → Contains (map f xs) y →
      Contains (map f ys) y
  mapped_sub xs ys h y c =
      All-contains (Contains (map f ys)) (map f xs) y (All-map (Contains (map f ys)) f xs
      (All-weaker (Contains xs) (λ z. Contains (map f ys) (f z))
      (λ z d. All-contains (λ w. Contains (map f ys) (f w)) ys z (mapped_itself ys) (h z d)) xs
      (All-contains_itself xs))) c

  pub same_mapped : (xs ys : List A) → HaveSame xs ys → HaveSame (map f xs) (map f ys)
  same_mapped xs ys h y = (mapped_sub xs ys (λ z. (h z).0) y, mapped_sub ys xs (λ z. (h z).1) y)

  one_there : (b d : Bool) (x k : A) (xs : List A) → (b ≡ true → f x ≡ f k) →
      (d ≡ true → Contains (map f xs) (f k)) → (b || d) ≡ true → Contains (f x ∷ map f xs) (f k)
  one_there true d x k xs s o e = subst (λ z. Contains (f x ∷ map f xs) z) (s refl) (first (f x) (map f xs))
  one_there false d x k xs s o e = Contains-append_right (f x ∷ []) (map f xs) (f k) (o e)

  -- What a test finds, where all that passes it is made into one.
  there : (P : A → Type 0) (test : A → Bool) (k : A) → ((y : A) → P y → test y ≡ true → f y ≡ f k) →
      (xs : List A) → All P xs → list_any test xs ≡ true → Contains (map f xs) (f k)
  there P test k same [] a e = absurd (cc)
  there P test k same (x ∷ xs) a e =
      one_there (test x) (list_any test xs) x k xs (same x (All-head P x xs a))
      (there P test k same xs (All-tail P x xs a)) e

  mapped_option : (o : Option A) (xs : List A) → cons_option (option_map f o) (map f xs) ≡ map f (cons_option o xs)
  mapped_option None xs = refl
  mapped_option (Some x) xs = refl

  pub mapped_filter : {C : Type 0} (h : C → Option A) (cs : List C) →
      filter_map (λ c. option_map f (h c)) cs ≡ map f (filter_map h cs)
  mapped_filter h [] = refl
  mapped_filter h (c ∷ cs) =
      ap (cons_option (option_map f (h c))) (mapped_filter h cs) ∙ mapped_option (h c) (filter_map h cs)

abbrev pub Known : Tree → Type 0
Known t = IsTrue (known t)

abbrev pair : Tree → Tree → Tree × Tree
pair t r = (t, r)

-- The components of a known tree are known.
pub components_known : (c : Choice) (t : Tree) → IsTrue (known t) → All (λ u. IsTrue (known u)) (components c t)
components_known c (leaf l) k =
    all_chosen Known (is_component l) (leaf l ∷ []) [] (All-cons Known (leaf l) [] k (All-nil Known)) (All-nil Known)
components_known c (node h ts) k =
    all_chosen Known (is_alias h) (node h ts ∷ []) (components (choice_of h) ts)
    (All-cons Known (node h ts) [] k (All-nil Known)) (components_known (choice_of h) ts k)
components_known c (bind ks t) k = components_known every t k
components_known c nil k = All-nil Known
components_known c (cons t ts) k =
    let o = and_parts (known t) (known ts) k in
    All-append Known (cond (takes c t ts) (components every t) []) (components (choice_behind c) ts)
    (all_chosen Known (takes c t ts) (components every t) [] (components_known every t o.0) (All-nil Known))
    (components_known (choice_behind c) ts o.1)

abbrev held : Tree → Option Tree → Tree
held d None = d
held d (Some t) = t

cond_some : (b : Bool) (x t : Tree) → cond b (Some x) None ≡ Some t → (b ≡ true) × (x ≡ t)
cond_some true x t e = (refl, ap (held x) e)
cond_some false x t e = absurd (cc)

infer_not : (i : InferTy) → is_assumed (infer_tree i) ≡ false
infer_not (TyVar v) = refl
infer_not (IntVar v) = refl
infer_not (FloatVar v) = refl
infer_not (FreshTy n) = refl
infer_not (FreshIntTy n) = refl
infer_not (FreshFloatTy n) = refl

escaped_not : (x y : Bool) → y ≡ true → (not x && not y) ≡ true → ⊥
escaped_not true y e a = cc
escaped_not false true e a = cc
escaped_not false false e a = cc

-- What a component stands for, by the argument that it is.
module _ {X D N : Type 0} (m : Meaning X D N) where
  known_stands : (c : Component X D N) (u : Tree) → StandsFor m c u → Known u → IsKnownComponent m c
  known_stands (Region r) u s k = subst Known (sym s) k
  known_stands (Alias a) u s k = subst Known (sym s.1) k
  known_stands (Param p) u s k = tt
  known_stands (Placeholder p) u s k = tt
  known_stands (UnresolvedInferenceVariable i) u s k = tt
  known_stands (EscapingAlias' n all) u s k = tt

  one_known : (c : Component X D N) (ts : List Tree) → SomeIs (λ u. StandsFor m c u) ts → All Known ts →
      IsKnownComponent m c
  one_known c [] s a = absurd s
  one_known c (u ∷ us) (inl s) a = known_stands c u s (All-head Known u us a)
  one_known c (u ∷ us) (inr s) a = one_known c us s (All-tail Known u us a)

  each_known : (ts : List Tree) → All Known ts → (cs : List (Component X D N)) →
      EachIs (λ c. SomeIs (λ u. StandsFor m c u) ts) cs → All (IsKnownComponent m) cs
  each_known ts a [] e = All-nil (IsKnownComponent m)
  each_known ts a (c ∷ cs) e =
      All-cons (IsKnownComponent m) c cs (one_known c ts e.0 a) (each_known ts a cs e.1)

  pub added_known : (ts : List Tree) (cs : List (Component X D N)) → All (λ u. IsTrue (known u)) ts →
      AddsSome m ts [] cs → All (IsKnownComponent m) cs
  added_known ts cs a p = subst (All (IsKnownComponent m)) (sym p.1) (each_known ts a p.0 p.2)

  stands_is : (c : Component X D N) (u t : Tree) → StandsFor m c u → argument_of m c ≡ Some t →
      (u ≡ t) × (is_assumed t ≡ true)
  stands_is (Region r) u t s g =
      let o = cond_some (is_assumed (m.region r)) (m.region r) t g in
      (sym s ∙ o.1, ap is_assumed (sym o.1) ∙ o.0)
  stands_is (Param p) u t s g =
      let e : kind_tree m (TyParam p) ≡ t = ap (held u) g in (sym s ∙ e, ap is_assumed (sym e))
  stands_is (Placeholder p) u t s g =
      let e : kind_tree m (TyPlaceholder p) ≡ t = ap (held u) g in (sym s ∙ e, ap is_assumed (sym e))
  stands_is (Alias a) u t s g =
      let e : kind_tree m (TyAlias a) ≡ t = ap (held u) g in
      let is : u ≡ t = sym s.1 ∙ e in
      let q : is_unresolved u ≡ false = ap is_unresolved (sym s.1) in
      (is, ap is_assumed (sym is) ∙ ap₂ (λ x y. not x && not y) q s.0)
  stands_is (UnresolvedInferenceVariable i) u t s g = absurd (cc)
  stands_is (EscapingAlias' n all) u t s g = absurd (cc)

  stands_has : (c : Component X D N) (u : Tree) → StandsFor m c u → is_assumed u ≡ true → argument_of m c ≡ Some u
  stands_has (Region r) u s a =
      ap (λ b. cond b (Some (m.region r)) None) (ap is_assumed s ∙ a) ∙ ap (λ z. Some z) s
  stands_has (Param p) u s a = ap (λ z. Some z) s
  stands_has (Placeholder p) u s a = ap (λ z. Some z) s
  stands_has (Alias x) u s a = ap (λ z. Some z) s.1
  stands_has (UnresolvedInferenceVariable i) u s a =
      absurd (let f : false ≡ true = sym (infer_not i) ∙ ap is_assumed s ∙ a in cc)
  stands_has (EscapingAlias' n all) u s a = absurd (escaped_not (is_unresolved u) (bound_var_escapes u) s.0 a)

  one_in : (c : Component X D N) (t : Tree) → argument_of m c ≡ Some t → (ts : List Tree) →
      SomeIs (λ u. StandsFor m c u) ts → Contains (filter is_assumed ts) t
  one_in c t g [] s = absurd s
  one_in c t g (u ∷ us) (inl s) =
      let o = stands_is c u t s g in
      subst (λ z. Contains (filter is_assumed (u ∷ us)) z) o.0
      (here (is_assumed u) u (filter is_assumed us) (ap is_assumed o.0 ∙ o.1))
  one_in c t g (u ∷ us) (inr s) = keeps (is_assumed u) u (filter is_assumed us) t (one_in c t g us s)

  all_in : (ts : List Tree) (cs : List (Component X D N)) → EachIs (λ c. SomeIs (λ u. StandsFor m c u) ts) cs →
      All (Contains (filter is_assumed ts)) (filter_map (argument_of m) cs)
  all_in ts [] e = All-nil (Contains (filter is_assumed ts))
  all_in ts (c ∷ cs) e =
      all_passes (Contains (filter is_assumed ts)) (argument_of m c) (λ t g. one_in c t g ts e.0)
      (filter_map (argument_of m) cs) (all_in ts cs e.1)

  one_given : (u : Tree) → is_assumed u ≡ true → (cs : List (Component X D N)) → SomeIs (λ c. StandsFor m c u) cs →
      Contains (filter_map (argument_of m) cs) u
  one_given u a [] s = absurd s
  one_given u a (c ∷ cs) (inl s) =
      let rest = filter_map (argument_of m) cs in
      subst (λ z. Contains (cons_option z rest) u) (sym (stands_has c u s a)) (first u rest)
  one_given u a (c ∷ cs) (inr s) = passes (argument_of m c) (filter_map (argument_of m) cs) u (one_given u a cs s)

  all_given : (cs : List (Component X D N)) (ts : List Tree) → EachIs (λ u. SomeIs (λ c. StandsFor m c u) cs) ts →
      All (Contains (filter_map (argument_of m) cs)) (filter is_assumed ts)
  all_given cs [] e = All-nil (Contains (filter_map (argument_of m) cs))
  all_given cs (u ∷ us) e =
      all_keeps (Contains (filter_map (argument_of m) cs)) (is_assumed u) u (filter is_assumed us)
      (λ a. one_given u a cs e.0) (all_given cs us e.1)

  -- A list that has all components, and no other, gives just those that are assumptions.
  pub given_same : (ts : List Tree) (cs : List (Component X D N)) → AddsSome m ts [] cs → HasAll m ts cs →
      HaveSame (filter_map (argument_of m) cs) (filter is_assumed ts)
  given_same ts cs p h t = (
    All-contains (Contains (filter is_assumed ts)) (filter_map (argument_of m) cs) t
        (subst (λ z. All (Contains (filter is_assumed ts)) (filter_map (argument_of m) z)) (sym p.1)
        (all_in ts p.0 p.2)),
    All-contains (Contains (filter_map (argument_of m) cs)) (filter is_assumed ts) t (all_given cs ts h),
  )

  -- What one component gives, and one assumption.
  pub pairs_some : (c : Component X D N) (r t u : Tree) → Some t ≡ argument_of m c → u ≡ r →
      (t, u) ∷ [] ≡ filter_map (pair_of m r) (c ∷ [])
  pairs_some c r t u e f = ap₂ (λ o z. cons_option (option_map (λ x. pair x z) o) []) e f

  pub pairs_none : (c : Component X D N) (r : Tree) → None ≡ argument_of m c →
      [] ≡ filter_map (pair_of m r) (c ∷ [])
  pairs_none c r e = ap (λ o. cons_option (option_map (λ x. pair x r) o) []) e

  pub type_elaborated : (t r : Tree) (cs : List (Component X D N)) → tree_sort t ≡ type_sort →
      HaveSame (filter_map (argument_of m) cs) (filter is_assumed (components every t)) →
      HaveSame ((t, r) ∷ [] ++ filter_map (pair_of m r) cs) (elaborated t r)
  type_elaborated t r cs e h =
      let f : Tree → Tree × Tree = λ u. (u, r) in
      let given = filter_map (argument_of m) cs in
      let ts = filter is_assumed (components every t) in
      let parts : assumed_parts t ≡ ts = ap (λ s. cond (is_type_sort s) ts []) e in
      same_both (f t ∷ []) (f t ∷ []) (filter_map (pair_of m r) cs) (map f (assumed_parts t)) (same_refl (f t ∷ []))
      (same_on (filter_map (pair_of m r) cs) (map f given) (map f (assumed_parts t))
      (same_as (filter_map (pair_of m r) cs) (map f given) (mapped_filter f (argument_of m) cs))
      (subst (λ z. HaveSame (map f given) (map f z)) (sym parts) (same_mapped f given ts h)))

  all_both : (xs ys : List (OutlivesPredicate X (GenericArgKind X))) →
      all_elaborated m (xs ++ ys) ≡ all_elaborated m xs ++ all_elaborated m ys
  all_both [] ys = refl
  all_both (x ∷ xs) ys =
      let e = elaborated (arg_tree m x.0) (m.region x.1) in
      ap (λ z. e ++ z) (all_both xs ys) ∙ sym (append_assoc e (all_elaborated m xs) (all_elaborated m ys))

  pub all_more : (xs ys : List (OutlivesPredicate X (GenericArgKind X))) (a : OutlivesPredicate X (GenericArgKind X)) →
      ys ≡ xs ++ a ∷ [] → all_elaborated m xs ++ elaborated (arg_tree m a.0) (m.region a.1) ≡ all_elaborated m ys
  all_more xs ys a e =
      let one = elaborated (arg_tree m a.0) (m.region a.1) in
      ap (λ z. all_elaborated m xs ++ z) (sym (append-nil one)) ∙ sym (all_both xs (a ∷ []))
      ∙ ap (all_elaborated m) (sym e)

pub other_elaborated : (t r : Tree) → is_type_sort (tree_sort t) ≡ false → (t, r) ∷ [] ≡ elaborated t r
other_elaborated t r e =
    ap (λ b. pair t r ∷ map (λ u. pair u r) (cond b (filter is_assumed (components every t)) [])) (sym e)

-- The same in an interner that has grown.
module _ {X D N : Type 0} {m n : Meaning X D N} (e : Extends m n) where
  pub stays_assumed : (a : OutlivesPredicate X (GenericArgKind X)) → IsKnown m a → assumed n a ≡ assumed m a
  stays_assumed a k = ap₂ pair (stays_arg e a.0 k.0) (e.region a.1 k.1)

  pub knows_assumed : (a : OutlivesPredicate X (GenericArgKind X)) → IsKnown m a → IsKnown n a
  knows_assumed a k = (knows_arg e a.0 k.0, knows_region e a.1 k.1)

  pub stays_elaborated : (a : OutlivesPredicate X (GenericArgKind X)) → IsKnown m a →
      elaborated (arg_tree n a.0) (n.region a.1) ≡ elaborated (arg_tree m a.0) (m.region a.1)
  stays_elaborated a k = ap₂ elaborated (stays_arg e a.0 k.0) (e.region a.1 k.1)

  stays_all : (xs : List (OutlivesPredicate X (GenericArgKind X))) → All (IsKnown m) xs →
      map (assumed n) xs ≡ map (assumed m) xs
  stays_all [] a = refl
  stays_all (x ∷ xs) a =
      ap₂ (λ p ps. p ∷ ps) (stays_assumed x (All-head (IsKnown m) x xs a))
      (stays_all xs (All-tail (IsKnown m) x xs a))

  pub gains_grown : (xs : List (OutlivesPredicate X (GenericArgKind X))) → All (IsKnown m) xs → Gains m n xs xs []
  gains_grown xs a = (
    All-weaker (IsKnown m) (IsKnown n) knows_assumed xs a,
    same_as (map (assumed n) xs) (map (assumed m) xs ++ [])
        (stays_all xs a ∙ sym (append-nil (map (assumed m) xs))),
  )

  pub stays_argument : (c : Component X D N) → IsKnownComponent m c → argument_of n c ≡ argument_of m c
  stays_argument (Region r) k = ap (λ z. cond (is_assumed z) (Some z) None) (e.region r k)
  stays_argument (Param p) k = ap (λ z. Some z) (stays_kind e (TyParam p) refl)
  stays_argument (Placeholder p) k = ap (λ z. Some z) (stays_kind e (TyPlaceholder p) refl)
  stays_argument (Alias a) k = ap (λ z. Some z) (stays_kind e (TyAlias a) k)
  stays_argument (UnresolvedInferenceVariable i) k = refl
  stays_argument (EscapingAlias' s all) k = refl

  pub knows_component : (c : Component X D N) → IsKnownComponent m c → IsKnownComponent n c
  knows_component (Region r) k = knows_region e r k
  knows_component (Param p) k = tt
  knows_component (Placeholder p) k = tt
  knows_component (Alias a) k =
      knows_as (kind_tree m (TyAlias a)) (kind_tree n (TyAlias a)) (stays_kind e (TyAlias a) k) k
  knows_component (UnresolvedInferenceVariable i) k = tt
  knows_component (EscapingAlias' s all) k = tt

  pub stays_pairs : (c : Component X D N) (r : RegionKey X) → IsKnownComponent m c → IsTrue (known (m.region r)) →
      filter_map (pair_of n (n.region r)) (c ∷ []) ≡ filter_map (pair_of m (m.region r)) (c ∷ [])
  stays_pairs c r k h =
      ap₂ (λ o z. cons_option (option_map (λ x. pair x z) o) []) (stays_argument c k) (e.region r h)

flipped : (b : Bool) → false ≡ not b → b ≡ true
flipped true e = refl
flipped false e = absurd (cc)

-- A set gains one after the other, and one.
module _ {X D N : Type 0} where
  pub gains_none : (m : Meaning X D N) (xs : List (OutlivesPredicate X (GenericArgKind X))) → xs ≡ [] →
      Gains m m [] xs []
  gains_none m xs e =
      subst (λ zs. Gains m m [] zs []) (sym e) (All-nil (IsKnown m), same_refl (map (assumed m) []))

  pub gains_after : (m n o : Meaning X D N) (xs ys zs : List (OutlivesPredicate X (GenericArgKind X)))
      (ps qs : List (Tree × Tree)) → Gains m n xs ys ps → Gains n o ys zs qs → Gains m o xs zs (ps ++ qs)
  gains_after m n o xs ys zs ps qs g h =
      let old = map (assumed m) xs in
      let mid = map (assumed n) ys in
      let new = map (assumed o) zs in (
        h.0,
        same_on new (mid ++ qs) (old ++ (ps ++ qs)) h.1
            (same_on (mid ++ qs) ((old ++ ps) ++ qs) (old ++ (ps ++ qs))
            (same_both mid (old ++ ps) qs qs g.1 (same_refl qs))
            (same_as ((old ++ ps) ++ qs) (old ++ (ps ++ qs)) (append_assoc old ps qs))),
      )

  pub gains_as : (m n : Meaning X D N) (xs ys : List (OutlivesPredicate X (GenericArgKind X)))
      (ps qs : List (Tree × Tree)) → HaveSame ps qs → Gains m n xs ys ps → Gains m n xs ys qs
  gains_as m n xs ys ps qs s g =
      let old = map (assumed m) xs in (
        g.0,
        same_on (map (assumed n) ys) (old ++ ps) (old ++ qs) g.1 (same_both old old ps qs (same_refl old) s),
      )

  pub gains_put : (m : Meaning X D N) (test : OutlivesPredicate X (GenericArgKind X) → Bool)
      (a : OutlivesPredicate X (GenericArgKind X)) (xs ys : List (OutlivesPredicate X (GenericArgKind X))) (b : Bool) →
      b ≡ not (list_any test xs) → MatchBool b (IsPermutation (a ∷ xs) ys) (ys ≡ xs) → IsKnown m a →
      All (IsKnown m) xs →
      ((y : OutlivesPredicate X (GenericArgKind X)) → IsKnown m y → test y ≡ true → assumed m y ≡ assumed m a) →
      Gains m m xs ys (assumed m a ∷ [])
  gains_put m test a xs ys true is p k all same =
      let f = assumed m in (
        All-permutation (IsKnown m) (a ∷ xs) ys p (All-cons (IsKnown m) a xs k all),
        same_on (map f ys) (f a ∷ map f xs) (map f xs ++ f a ∷ [])
            (same_permuted (map f ys) (f a ∷ map f xs)
            (IsPermutation-sym (f a ∷ map f xs) (map f ys) (IsPermutation-map f (a ∷ xs) ys p)))
            (same_permuted (f a ∷ map f xs) (map f xs ++ f a ∷ [])
            (IsPermutation-sym (map f xs ++ f a ∷ []) (f a ∷ map f xs) (IsPermutation-to_front (map f xs) (f a)))),
      )
  gains_put m test a xs ys false is p k all same =
      let f = assumed m in (
        subst (All (IsKnown m)) (sym p) all,
        subst (λ zs. HaveSame (map f zs) (map f xs ++ f a ∷ [])) (sym p)
            (same_again (map f xs) (f a) (there f (IsKnown m) test a same xs all (flipped (list_any test xs) is))),
      )

  -- Of equal assumptions the trees are equal.
  pub pairs_same : (m : Meaning X D N) (args : GenericArgKind X → GenericArgKind X → Bool)
      (regions : RegionKey X → RegionKey X → Bool) →
      ((x y : GenericArgKind X) → IsTrue (known (arg_tree m x)) → IsTrue (known (arg_tree m y)) →
      (IsTrue (args x y) → arg_tree m x ≡ arg_tree m y) × (arg_tree m x ≡ arg_tree m y → IsTrue (args x y))) →
      AreEqualAsTrees m.region regions → (a y : OutlivesPredicate X (GenericArgKind X)) → IsKnown m a → IsKnown m y →
      (args a.0 y.0 && regions a.1 y.1) ≡ true → assumed m y ≡ assumed m a
  pairs_same m args regions same same_region a y k o e =
      let p = and_parts (args a.0 y.0) (regions a.1 y.1) e in
      sym (ap₂ pair ((same a.0 y.0 k.0 o.0).0 p.0) ((same_region a.1 y.1 k.1 o.1).0 p.1))

no_less : (d : ℕ) (b : Bool) → nat_lt d 0 ≡ b → b ≡ false
no_less d true e = absurd (let l = ltb-true d 0 e in omega (arith, l))
no_less d false e = refl

-- A region is an assumption of its own just where no binder binds it.
module _ {X D N : Type 0} (m : Meaning X D N) where
  region_free : (k : RegionKind N) → ((d : DebruijnIndex) (b : BoundRegion N) → k ≡ ReBound d b → ⊥) →
      is_assumed (region_tree m k) ≡ true
  region_free ReStatic n = refl
  region_free (ReEarlyParam p) n = refl
  region_free (ReBound d b) n = absurd (n d b refl)
  region_free (ReVar v) n = refl
  region_free (RePlaceholder p) n = refl

  pub free_given : (r : RegionKey X) (k : RegionKind N) → m.region r ≡ region_tree m k →
      ((d : DebruijnIndex) (b : BoundRegion N) → k ≡ ReBound d b → ⊥) → Some (m.region r) ≡ argument_of m (Region r)
  free_given r k e n =
      ap (λ b. cond b (Some (m.region r)) None) (sym (region_free k n) ∙ ap is_assumed (sym e))

  pub bound_given : (r : RegionKey X) (d : DebruijnIndex) (b : BoundRegion N) →
      m.region r ≡ region_tree m (ReBound d b) → None ≡ argument_of m (Region r)
  bound_given r d b e =
      let none : is_assumed (region_tree m (ReBound d b)) ≡ false = ap (λ z. not (not z)) (no_less d.0 (nat_lt d.0 0) refl) in
      ap (λ z. cond z (Some (m.region r)) None) (sym none ∙ ap is_assumed (sym e))

  given_sure : (b : Bool) (t : Tree) (o : Option (GenericArgKind X)) → option_map (arg_tree m) o ≡ cond b (Some t) None →
      Known t → IfSome o (λ a. IsTrue (known (arg_tree m a)))
  given_sure b t None e k = tt
  given_sure true t (Some a) e k = subst Known (sym (ap (held t) e)) k
  given_sure false t (Some a) e k = absurd (cc)

  pub region_sure : (r : RegionKey X) (o : Option (GenericArgKind X)) →
      option_map (arg_tree m) o ≡ argument_of m (Region r) → IsTrue (known (m.region r)) →
      IfSome o (λ a. IsTrue (known (arg_tree m a)))
  region_sure r o e k = given_sure (is_assumed (m.region r)) (m.region r) o e k

-- What an argument gives, by its form.
module _ {X D N : Type 0} (m : Meaning X D N) where
  -- What is no type has a sort that is not that of types.
  pub other_sort : Sorted m → (x : GenericArgKind X) → IsTrue (known (arg_tree m x)) →
      ((k : TyKey X) → x ≡ Ty k → ⊥) → is_type_sort (tree_sort (arg_tree m x)) ≡ false
  other_sort s (Lifetime r) k n = ap is_type_sort (region_term (m.region r) (s.region r k))
  other_sort s (Ty t) k n = absurd (n t refl)
  other_sort s (Const c) k n = ap is_type_sort (const_term (m.const_ c) (s.const_ c k))

  pub ty_sort : Sorted m → (x : GenericArgKind X) (t : TyKey X) → x ≡ Ty t → IsTrue (known (arg_tree m x)) →
      tree_sort (arg_tree m x) ≡ type_sort
  ty_sort s x t e k =
      let is = ap (arg_tree m) e in
      ap tree_sort is ∙ type_term (m.ty t) (s.ty t (subst Known is k))

  -- A list of components gives what follows from a type, and from its first ones one more.
  pub ty_gives : (x : GenericArgKind X) (t : TyKey X) (r : Tree) (cs : List (Component X D N)) → Sorted m → x ≡ Ty t →
      IsTrue (known (arg_tree m x)) → AddsSome m (components every (m.ty t)) [] cs →
      HasAll m (components every (m.ty t)) cs →
      HaveSame ((arg_tree m x, r) ∷ [] ++ filter_map (pair_of m r) cs) (elaborated (arg_tree m x) r)
  ty_gives x t r cs s e k p h =
      type_elaborated m (arg_tree m x) r cs (ty_sort s x t e k)
      (subst (λ z. HaveSame (filter_map (argument_of m) cs) (filter is_assumed (components every z)))
      (sym (ap (arg_tree m) e)) (given_same m (components every (m.ty t)) cs p h))

  pub ty_known : (x : GenericArgKind X) (t : TyKey X) (cs : List (Component X D N)) → x ≡ Ty t →
      IsTrue (known (arg_tree m x)) → AddsSome m (components every (m.ty t)) [] cs → All (IsKnownComponent m) cs
  ty_known x t cs e k p =
      added_known m (components every (m.ty t)) cs
      (components_known every (m.ty t) (subst Known (ap (arg_tree m) e) k)) p

pub all_at : {A : Type 0} (P : A → Type 0) (xs : List A) (i : ℕ) (x : A) → All P xs → i < length xs →
    x ≡ get_or xs i x → P x
all_at P xs i x a l e = subst P (sym e) (a i x l)

-- What the first members give, and the next.
pub filter_next : {A B : Type 0} (f : A → Option B) (xs : List A) (i : ℕ) (x : A) (ys : List B) → i < length xs →
    x ≡ get_or xs i x → ys ≡ filter_map f (x ∷ []) →
    filter_map f (take i xs) ++ ys ≡ filter_map f (take (i + 1) xs)
filter_next f xs i x ys l e q =
    ap (λ z. filter_map f (take i xs) ++ z) q ∙ sym (filter_map-append f (take i xs) (x ∷ []))
    ∙ ap (filter_map f) (ap (λ z. take i xs ++ z ∷ []) e ∙ sym (take_more xs i x l))

pub taken_next : {A : Type 0} (xs : List A) (i : ℕ) (x : A) → i < length xs → x ≡ get_or xs i x →
    take (i + 1) xs ≡ take i xs ++ x ∷ []
taken_next xs i x l e = take_more xs i x l ∙ ap (λ z. take i xs ++ z ∷ []) (sym e)
