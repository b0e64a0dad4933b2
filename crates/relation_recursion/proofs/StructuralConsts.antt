-- Constants that are related by their outermost forms and their parts, and terms whose outermost forms differ.
use Rattle.std.proofs.Common.{◌≡◌, ◌≢◌, ◌⊎◌, ℕ, ◌+◌, ◌<◌, refl, sym, ap, ◌∙◌, subst, subst₂, inl, inr, arith, ◌++◌, All, IsTrue, Ok, Err}
use Rattle.std.proofs.lemmas.List.Elements.{All-nil}
use Rattle.term_enums.specs.declared.Variance.{Variance}
use Rattle.term_enums.specs.declared.Variance.TheVariants.{Bivariant}
use Rattle.relation_terms.specs.Heads.{type_sort, const_sort, region_sort, Sort, unevaluated, expression, value, value_type, value_branch, atom, type_error, const_error}
use Rattle.relation_terms.specs.Trees.{Tree, leaf, node, nil, cons, known, IsTerm, count, nth, apply, Assign}
use Rattle.relation_terms.specs.Meaning.{Meaning, arg_tree}
use Rattle.relation_terms.specs.declared.terms.keys.TyKey.{TyKey}
use Rattle.relation_terms.specs.declared.terms.keys.ConstKey.{ConstKey}
use Rattle.relation_terms.specs.declared.terms.generic_arg.GenericArgKind.{GenericArgKind}
use Rattle.relation_terms.specs.declared.terms.generic_arg.GenericArgKind.TheVariants.{Lifetime, Ty, Const}
use Rattle.relation_terms.specs.Interning.{Sorted}
use Rattle.relation_folds.specs.declared.error.TypeError.{TypeError}
use Rattle.relation_folds.specs.declared.error.TypeError.TheVariants.{ConstMismatch, Mismatch}
use Rattle.relation_folds.specs.declared.error.RelateFault.{RelateFault}
use Rattle.relation_folds.specs.declared.error.RelateFault.TheVariants.{Memory, Budget, Unrelated}
use Rattle.relation_folds.specs.Faults.{KnowsError, KnowsFault}
use Rattle.relation_semantics.specs.Relation.{Items, Interpretation, at, parts, part_at, Rel, same, atoms, forms, anything, error_left, error_right, no_parts, next_part, sort_of, IsError}
use Rattle.relation_semantics.specs.Stores.{Store, Satisfies, IsTermIn, weight}
use Rattle.relation_semantics.specs.Goals.{Holds, GoalInContext}
use Rattle.relation_semantics.specs.Outcomes.{NeverOne, NoUnifier}
use Rattle.relation_semantics.specs.Headline.{IsFirstOrderPair}
use Rattle.relation_semantics.specs.OneUniverse.{NamesTypesTo}
use Rattle.relation_semantics.proofs.OneUniverse.{keeps_itself, keeps_pair, binds_itself, leaves_const_parts, keeps_binds, binds_as}
use Rattle.relation_semantics.specs.Settings.{Settings}
use Rattle.relation_semantics.specs.Errors.{ErrorOf, ErrorByForms, ErrorAs, Meeting, as_pair, as_forms, of_parts}
use Rattle.relation_semantics.specs.Errors.{of_branches, of_kinds, of_forms, of_const_forms, FormError, ConstFormError}
use Rattle.relation_semantics.specs.Errors.{AreOfOneConst, AreOfOneValue, values, expressions, const_parameters, one_value, as_many_branches, over_arguments, one_const_leaf}
use Rattle.relation_semantics.specs.Parts.{IsRigid, IsFormedConst, const_parts_of, branches_of, const_head_of}
use Rattle.part_variances.specs.PartErrors.{IsPassedOnConst, IsFaultOfConst, passed_const, whole}
use Rattle.relation_semantics.specs.Lawful.{State, Manners, MayAnswer, Passes, Refuses, RefusesAs, Related}
use Rattle.relation_semantics.specs.Lawful.{RelatedAs, RelatedForms, ExactResult, ExactlyRelated, items_in}
use Rattle.relation_semantics.specs.Lawful.{RecordsJustAsked, RecordsNoMore, RecordsAs}
use Rattle.relation_semantics.specs.Asking.{IsPlainTerm}
use Rattle.relation_semantics.specs.Recording.{AreBare}
use Rattle.relation_semantics.proofs.Asking.{itself_is_trivial}
use Rattle.relation_semantics.proofs.Recording.{stands_itself, records_trivial, records_as}
use Rattle.relation_semantics.proofs.RecordingForms.{bare_const_parts, const_asks, asks_const}
use Rattle.relation_semantics.proofs.Registered.{registered_in}
use Rattle.relation_semantics.proofs.Passing.{passes_within, passes_then, passes_nowhere, manner_then}
use Rattle.relation_steps.proofs.Fronts.{Fronted, AreParts, fronted_never, fronted_all, fronted_passes, fronted_fault, fronted_exactly, fronted_full, fronted_built, fronted_needs}
use Rattle.relation_semantics.proofs.Building.{built_const_parts}
use Rattle.relation_steps.proofs.Fronts.{fronted_agree, fronted_keeps}
use Rattle.relation_semantics.proofs.Keeping.{one_so_far, unified_inside}
use Rattle.relation_semantics.proofs.AskingSince.{const_no_more, no_more_same}
use Rattle.relation_semantics.proofs.AgreeingBefore.{same_agreed}
use Rattle.relation_semantics.proofs.AgreeingForms.{const_agrees}
use Rattle.relation_semantics.proofs.Full.{full_itself, const_parts_plain}
use Rattle.relation_recursion.proofs.Unifying.{first_order_const_parts, const_looked_at, consts_unify, answered_as, refused_as}
use Rattle.relation_semantics.proofs.Roots.{exact_itself}
use Rattle.relation_recursion.proofs.Unifying.{forms_not_unified, const_forms_not_unified, erased_sort}
use Rattle.relation_recursion.proofs.StructuralTys.{same_const_fault, consts_never, consts_keep}
use Rattle.relation_semantics.proofs.OneParts.{const_parts_equal, sort_is}
use Rattle.relation_recursion.proofs.Compared.{form_apart, const_form_apart, known_error, known_const_error, formed_not_bindable, formed_consts_not_bindable}
use Rattle.part_variances.proofs.PartErrors.{const_fault_known, AreOfTwoKinds, AtTop, at_top, value_top}
use Rattle.relation_recursion.proofs.PartSizes.{weight_const_parts_most}
use Rattle.relation_semantics.proofs.Answering.{same_items, may_itself, covariantly}
use Rattle.relation_semantics.proofs.AliasOutcomes.{error_stays}
use Rattle.relation_semantics.proofs.Erased.{error_not_first}
use Rattle.relation_semantics.proofs.Retelling.{stopped}
use Rattle.relation_semantics.proofs.BuildingSteps.{built_itself}
use Rattle.relation_steps.proofs.Errors.{error_agreed}

-- The error of two parts of two constants as the error of the constants.
module _ {Key Id Name : Type 0} (p : Meaning Key Id Name) (set : Settings) (js : Items) (at_v : Variance) (c d : ConstKey Key) (i : ℕ)
    (x y : Tree) where
  branch_error : (st : Store) (e : TypeError Key Id Name) (t u v w : Tree) →
      p.const_ c ≡ node value (cons (node value_type (cons t nil)) (cons v nil)) →
      p.const_ d ≡ node value (cons (node value_type (cons u nil)) (cons w nil)) → AreOfOneValue v w →
      i < count (branches_of v) → x ≡ nth i (branches_of v) → y ≡ nth i (branches_of w) →
      ErrorOf p set js st (part_at js value_branch i at_v) e x y →
      ErrorByForms p set js st at_v (ConstMismatch (record { expected = c; found = d })) (p.const_ c) (p.const_ d)
  branch_error st e t u v w j k (as_many_branches {ts} {us} a b n) l z o h =
      of_branches c d i (j ∙ ap (λ z. node value (cons (node value_type (cons t nil)) (cons z nil))) a)
      (k ∙ ap (λ z. node value (cons (node value_type (cons u nil)) (cons z nil))) b) n
      (subst (λ z. i < count (branches_of z)) a l)
      (subst₂ (ErrorOf p set js st (part_at js value_branch i at_v) e) (z ∙ ap (λ z. nth i (branches_of z)) a) (o ∙ ap (λ z. nth i (branches_of z)) b) h)
  branch_error st e t u (node value_branch ts) w j k (one_value a) l z o h =
      of_branches c d i j (k ∙ ap (λ z. node value (cons (node value_type (cons u nil)) (cons z nil))) (sym a)) refl l
      (subst₂ (ErrorOf p set js st (part_at js value_branch i at_v) e) z (o ∙ ap (λ z. nth i (branches_of z)) (sym a)) h)
  branch_error st e t u v w j k (one_value a) l z o h = absurd (omega (arith, l))

  pub const_complains : (st : Store) (f : TypeError Key Id Name) (g : RelateFault Key Id Name) →
      AreOfOneConst (p.const_ c) (p.const_ d) → i < count (const_parts_of (p.const_ c)) →
      x ≡ nth i (const_parts_of (p.const_ c)) → y ≡ nth i (const_parts_of (p.const_ d)) →
      IsFaultOfConst (p.const_ c) c d (Unrelated f) g →
      ErrorOf p set js st (part_at js (const_head_of (p.const_ c)) i at_v) f x y →
      (k : TypeError Key Id Name) × (g ≡ Unrelated k) × ErrorByForms p set js st at_v k (p.const_ c) (p.const_ d)
  const_complains st f g (one_const_leaf j k) l z w o h =
      absurd (let e : count (const_parts_of (p.const_ c)) ≡ 0 = ap (λ z. count (const_parts_of z)) j in omega (arith, e, l))
  const_complains st f g (const_parameters j k n) l z w o h =
      absurd (let e : count (const_parts_of (p.const_ c)) ≡ 0 = ap (λ z. count (const_parts_of z)) j in omega (arith, e, l))
  const_complains st f g (values j k n) l z w (passed_const is o) h = absurd (subst (IsPassedOnConst (Unrelated f)) j o)
  const_complains st f g (values {t} {u = t'} {v} {w = v'} j k n) l z w (whole e o is eq) h = (
    ConstMismatch (record { expected = c; found = d }),
    eq,
    branch_error st f t t' v v' j k n (subst (λ z. i < count z) (ap const_parts_of j) l)
        (z ∙ ap (λ z. nth i (const_parts_of z)) j) (w ∙ ap (λ z. nth i (const_parts_of z)) k)
        (subst (λ z. ErrorOf p set js st (part_at js (const_head_of z) i at_v) f x y) j h),
  )
  const_complains st f g (over_arguments {d = item} {ts} {us} j k n) l z w (passed_const is o) h = (
    f,
    is,
    of_parts i j k n (subst (λ z. i < count (const_parts_of z)) j l) tt
        (subst₂ (ErrorOf p set js st (part_at js (unevaluated item) i at_v) f) (z ∙ ap (λ z. nth i (const_parts_of z)) j) (w ∙ ap (λ z. nth i (const_parts_of z)) k)
        (subst (λ z. ErrorOf p set js st (part_at js (const_head_of z) i at_v) f x y) j h)),
  )
  const_complains st f g (over_arguments j k n) l z w (whole {ts = vs} e o is eq) h =
      absurd (let y' = sym j ∙ o in cc)
  const_complains st f g (expressions {k = op} {ts} {us} j k n) l z w (passed_const is o) h = (
    f,
    is,
    of_parts i j k n (subst (λ z. i < count (const_parts_of z)) j l) tt
        (subst₂ (ErrorOf p set js st (part_at js (expression op) i at_v) f) (z ∙ ap (λ z. nth i (const_parts_of z)) j) (w ∙ ap (λ z. nth i (const_parts_of z)) k)
        (subst (λ z. ErrorOf p set js st (part_at js (const_head_of z) i at_v) f x y) j h)),
  )
  const_complains st f g (expressions {k = op} {ts} {us} j k n) l z w (whole {ts = vs} e o is eq) h =
      absurd (let y' = sym j ∙ o in cc)

still_unrelated_const : {Key Id Name : Type 0} (t : Tree) (c d : ConstKey Key) (e : TypeError Key Id Name)
    (k : RelateFault Key Id Name) → IsFaultOfConst t c d (Unrelated e) k →
    (f : TypeError Key Id Name) × (k ≡ Unrelated f)
still_unrelated_const t c d e k (passed_const is o) = (e, is)
still_unrelated_const t c d e k (whole f o is eq) = (ConstMismatch (record { expected = c; found = d }), eq)

-- The parts of two first-order constants.
const_parts_pair : (st : Store) (a b : Tree) → IsFirstOrderPair st a b →
    IsFirstOrderPair st (const_parts_of a) (const_parts_of b)
const_parts_pair st a b pair = record {
  left = first_order_const_parts a pair.left;
  right = first_order_const_parts b pair.right;
  bindings = pair.bindings;
}

-- The same, of trees that are the constants'.
pub consts_complain : {Key Id Name : Type 0} (p : Meaning Key Id Name) (set : Settings) (js : Items) (at_v : Variance)
    (c d : ConstKey Key) (i : ℕ) (x y a b : Tree) → p.const_ c ≡ a → p.const_ d ≡ b → (st : Store) (f : TypeError Key Id Name) (g : RelateFault Key Id Name) →
    AreOfOneConst a b → i < count (const_parts_of a) → x ≡ nth i (const_parts_of a) → y ≡ nth i (const_parts_of b) →
    IsFaultOfConst a c d (Unrelated f) g → ErrorOf p set js st (part_at js (const_head_of a) i at_v) f x y →
    (k : TypeError Key Id Name) × (g ≡ Unrelated k) × ErrorByForms p set js st at_v k a b
consts_complain p set js at_v c d i x y a b j k st f g o l z w t h =
    subst₂ (λ a b. (k : TypeError _ _ _) × (g ≡ Unrelated k) × ErrorByForms p set js st at_v k a b) j k
    (const_complains p set js at_v c d i x y st f g (subst₂ AreOfOneConst (sym j) (sym k) o)
    (subst (λ v. i < count (const_parts_of v)) (sym j) l) (z ∙ ap (λ v. nth i (const_parts_of v)) (sym j))
    (w ∙ ap (λ v. nth i (const_parts_of v)) (sym k)) (subst (λ v. IsFaultOfConst v c d (Unrelated f) g) (sym j) t)
    (subst (λ v. ErrorOf p set js st (part_at js (const_head_of v) i at_v) f x y) (sym j) h))

-- Two values are related by what stands beside their types.
value_parts : (c : Items) (w : Interpretation) (e : Tree) (v : Variance) (s : Assign) (t u x y : Tree) →
    Rel c w e (at v) (apply s x) (apply s y) →
    Rel c w e (at v) (apply s (node value (cons (node value_type (cons t nil)) (cons x nil))))
    (apply s (node value (cons (node value_type (cons u nil)) (cons y nil))))
value_parts c w e v s t u x y h = forms tt refl (next_part (forms tt refl (next_part (anything refl) no_parts))
    (next_part (subst (λ z. Rel c w e (at z) (apply s x) (apply s y)) (sym (covariantly v)) h) no_parts))

module _ {Key Id Name : Type 0} {r q : State Key Id Name} (M : Manners) (v : Variance) (a b : Tree) (i : ℕ) where
  -- Two parts of two constants were refused, and so are the constants.
  module _ (o : AreOfOneConst a b) (f : Fronted M r q (const_head_of a) v i (const_parts_of a) (const_parts_of b))
      (are : AreParts r.store (const_parts_of a) (const_parts_of b)) (c d : ConstKey Key) (x y : Tree)
      (lx : i < count (const_parts_of a)) (ly : i < count (const_parts_of b))
      (ex : x ≡ nth i (const_parts_of a)) (ey : y ≡ nth i (const_parts_of b)) where
    const_refuses : {n : ℕ} {p : State Key Id Name} (g : Passes n q p) (e k : RelateFault Key Id Name) →
        (p.meaning).const_ c ≡ a →
        (p.meaning).const_ d ≡ b → IsTrue (known a) → IsTrue (known b) → IsFaultOfConst a c d e k →
        Refuses q p (part_at (items_in r) (const_head_of a) i v) x y e → RefusesAs as_forms r p (at v) a b k
    const_refuses {p = p} g Memory k ec ed ka kb t h =
        subst (RefusesAs as_forms r p (at v) a b) (sym (same_const_fault a c d Memory k t (λ e z. cc)))
        (consts_keep r.store p.store v a b o
        (fronted_keeps (const_head_of a) v i (const_parts_of a) (const_parts_of b) x y f lx ly ex ey p are h))
    const_refuses {p = p} g Budget k ec ed ka kb t h =
        subst (RefusesAs as_forms r p (at v) a b) (sym (same_const_fault a c d Budget k t (λ e z. cc))) (
          h.0,
          λ j ha hb. fronted_needs (const_head_of a) v i (const_parts_of a) (const_parts_of b) x y f lx ly ex ey h.1 j
              (built_const_parts j a ha) (built_const_parts j b hb),
          consts_keep r.store p.store v a b o
              (fronted_keeps (const_head_of a) v i (const_parts_of a) (const_parts_of b) x y f lx ly ex ey p are h.2),
        )
    const_refuses {p = p} g (Unrelated e) k ec ed ka kb t h =
        let same : items_in p ≡ items_in r = same_items g ∙ same_items f.passes in
        let z = consts_complain p.meaning p.kept.settings (items_in p) v c d i x y a b ec ed p.store e k o lx ex ey t
        (subst (λ s. ErrorOf p.meaning p.kept.settings (items_in p) p.store (part_at s (const_head_of a) i v) e x y) (sym same) h.1) in
        subst (RefusesAs as_forms r p (at v) a b) (sym z.1) (
          consts_never r.store v a b o
              (fronted_never (const_head_of a) v i (const_parts_of a) (const_parts_of b) x y f lx ly ex ey are h.0),
          z.2,
          subst (KnowsFault p.meaning) z.1 (const_fault_known p.meaning a c d (Unrelated e) k
              (subst (λ u. IsTrue (known u)) (sym ec) ka) (subst (λ u. IsTrue (known u)) (sym ed) kb) t h.2),
        )

    whole_const : (A B : Type 0) (p : State Key Id Name) (e : RelateFault Key Id Name) → IsFormedConst a →
        IsFormedConst b →
        ExactlyRelated {X = A} (M q.kept.settings) q.store p.store (part_at (items_in r) (const_head_of a) i v) x y (Err e) →
        ExactlyRelated {X = B} (M r.kept.settings) r.store p.store v a b (Err e)
    whole_const A B p e fa fb g exact is pair =
        refused_as r.store p.store a b (const_parts_of a) (const_parts_of b) (consts_unify a b fa fb o)
        (λ u. leaves_const_parts (NamesTypesTo u) a) (λ u. leaves_const_parts (NamesTypesTo u) b) A B e
        (fronted_fault (const_head_of a) v i (const_parts_of a) (const_parts_of b) x y f lx ly ex ey A A p e
        are exact is (const_looked_at a) (const_parts_pair r.store a b pair)
        (λ z. g (manner_then M (λ m. m.is_exact) f.passes z)))

    const_exactly : (A B : Type 0) (p : State Key Id Name) (e k : RelateFault Key Id Name) → IsFormedConst a →
        IsFormedConst b → IsFaultOfConst a c d e k →
        ExactlyRelated {X = A} (M q.kept.settings) q.store p.store (part_at (items_in r) (const_head_of a) i v) x y (Err e) →
        ExactlyRelated {X = B} (M r.kept.settings) r.store p.store v a b (Err k)
    const_exactly A B p Memory k fa fb t g exact is pair = subst (λ k. ExactResult {X = B} r.store p.store a b (Err k))
        (sym (same_const_fault a c d Memory k t (λ e z. cc))) (whole_const A B p Memory fa fb g exact is pair)
    const_exactly A B p Budget k fa fb t g exact is pair = subst (λ k. ExactResult {X = B} r.store p.store a b (Err k))
        (sym (same_const_fault a c d Budget k t (λ e z. cc))) (whole_const A B p Budget fa fb g exact is pair)
    const_exactly A B p (Unrelated e) k fa fb t g exact is pair =
        let z = still_unrelated_const a c d e k t in
        subst (λ k. ExactResult {X = B} r.store p.store a b (Err k)) (sym z.1)
        (whole_const A B p (Unrelated e) fa fb g exact is pair)

    pub const_refused : {A B : Type 0} {p : State Key Id Name} (tree : A → Tree) (answer : B → Tree)
        (e k : RelateFault Key Id Name) → IsFormedConst a → IsFormedConst b → (p.meaning).const_ c ≡ a → (p.meaning).const_ d ≡ b → IsTrue (known a) →
        IsTrue (known b) → IsFaultOfConst a c d e k →
        Related M q p (part_at (items_in r) (const_head_of a) i v) x y tree (Err e) →
        RelatedForms M r p v a b answer (Err k)
    unfolding passes_within fronted_passes passes_then
    const_refused {A} {B} {p} tree answer e k fa fb ec ed ka kb t g = record {
      passes = passes_within (omega (arith, weight_const_parts_most r.store a, weight_const_parts_most r.store b))
          (fronted_passes (const_head_of a) v i (const_parts_of a) (const_parts_of b) x y f lx ly ex ey g.passes);
      verdict = const_refuses g.passes e k ec ed ka kb t g.verdict;
      exact = const_exactly A B p e k fa fb t g.exact;
      full = λ ha hb. fronted_full (const_head_of a) v i (const_parts_of a) (const_parts_of b) x y f lx ly ex ey g.full
          (const_parts_plain a ha) (const_parts_plain b hb);
      built = λ j ha hb. fronted_built (const_head_of a) v i (const_parts_of a) (const_parts_of b) x y f lx ly ex ey
          (g.passes).added g.built j (built_const_parts j a ha) (built_const_parts j b hb);
      records = tt;
    }

  -- Memory ran out after some of the parts.
  pub consts_stopped : {X : Type 0} (tree : X → Tree) → IsFormedConst a → IsFormedConst b → AreOfOneConst a b →
      Fronted M r q (const_head_of a) v i (const_parts_of a) (const_parts_of b) →
      RelatedForms {X = X} M r q v a b tree (Err Memory)
  unfolding passes_within
  consts_stopped tree fa fb o f = stopped M v a b tree
      (passes_within (omega (arith, weight_const_parts_most r.store a, weight_const_parts_most r.store b)) f.passes)
      (consts_keep r.store q.store v a b o (one_so_far f.front))
      (λ exact is pair. let z = f.exact exact is (const_looked_at a) (const_parts_pair r.store a b pair) in (
        binds_as r.store q.store a b (const_parts_of a) (const_parts_of b)
            (λ u. leaves_const_parts (NamesTypesTo u) a) (λ u. leaves_const_parts (NamesTypesTo u) b)
            (keeps_binds r.store q.store (const_parts_of a) (const_parts_of b) z.2),
        unified_inside r.store q.store a b (const_parts_of a) (const_parts_of b)
            (λ s. (consts_unify a b fa fb o s).0) (z.1).keeps,
      ))
      (λ ha hb. f.full (const_parts_plain a ha) (const_parts_plain b hb))
      (λ k ha hb. f.built k (built_const_parts k a ha) (built_const_parts k b hb))

  -- All parts of two constants were related, and so are the constants.
  consts_relate : (o : AreOfOneConst a b) →
      (f : Fronted M r q (const_head_of a) v i (const_parts_of a) (const_parts_of b)) →
      AreParts r.store (const_parts_of a) (const_parts_of b) → i ≡ count (const_parts_of a) →
      i ≡ count (const_parts_of b) → (w : Interpretation) (s : Assign) → Satisfies w q.store s →
      All (Holds (items_in r) w s) (r.goals ++ (f.passes).added) →
      Rel (items_in r) w r.kept.environment (at v) (apply s a) (apply s b)
  consts_relate (values {t} {u} {v = x} {w = y} d e (one_value z)) f are ea eb w s sat all =
      subst₂ (λ m n. Rel (items_in r) w r.kept.environment (at v) (apply s m) (apply s n)) (sym d) (sym e)
      (value_parts (items_in r) w r.kept.environment v s t u x y (same (ap (apply s) z)))
  consts_relate (values {t} {u} {v = x} {w = y} d e (as_many_branches {ts} {us} m n k)) f are ea eb w s sat all =
      let all_parts = fronted_all (const_head_of a) v i (const_parts_of a) (const_parts_of b) are ea eb f in
      let left : const_parts_of a ≡ ts = ap const_parts_of d ∙ ap branches_of m in
      let right : const_parts_of b ≡ us = ap const_parts_of e ∙ ap branches_of n in
      let branches : Rel (items_in r) w r.kept.environment (parts value_branch 0 v) (apply s ts) (apply s us) =
      subst₂ (λ j l. Rel (items_in r) w r.kept.environment (parts value_branch 0 v) (apply s j) (apply s l)) left right
      (subst (λ z. Rel (items_in r) w r.kept.environment (parts (const_head_of z) 0 v) (apply s (const_parts_of a))
      (apply s (const_parts_of b))) d (all_parts.relates w s sat all)) in
      subst₂ (λ j l. Rel (items_in r) w r.kept.environment (at v) (apply s j) (apply s l)) (sym d) (sym e)
      (value_parts (items_in r) w r.kept.environment v s t u x y
      (subst₂ (λ j l. Rel (items_in r) w r.kept.environment (at v) (apply s j) (apply s l)) (sym m) (sym n)
      (forms tt refl branches)))
  consts_relate (expressions {k} {ts} {us} d e n) f are ea eb w s sat all =
      let all_parts = fronted_all (const_head_of a) v i (const_parts_of a) (const_parts_of b) are ea eb f in
      subst₂ (λ j l. Rel (items_in r) w r.kept.environment (at v) (apply s j) (apply s l)) (sym d) (sym e)
      (forms tt refl
      (subst₂ (λ j l. Rel (items_in r) w r.kept.environment (parts (expression k) 0 v) (apply s j) (apply s l))
      (ap const_parts_of d) (ap const_parts_of e)
      (subst (λ z. Rel (items_in r) w r.kept.environment (parts (const_head_of z) 0 v) (apply s (const_parts_of a))
      (apply s (const_parts_of b))) d (all_parts.relates w s sat all))))
  consts_relate (over_arguments {d = j} {ts} {us} d e n) f are ea eb w s sat all =
      let all_parts = fronted_all (const_head_of a) v i (const_parts_of a) (const_parts_of b) are ea eb f in
      subst₂ (λ j l. Rel (items_in r) w r.kept.environment (at v) (apply s j) (apply s l)) (sym d) (sym e)
      (forms tt refl
      (subst₂ (λ x y. Rel (items_in r) w r.kept.environment (parts (unevaluated j) 0 v) (apply s x) (apply s y))
      (ap const_parts_of d) (ap const_parts_of e)
      (subst (λ z. Rel (items_in r) w r.kept.environment (parts (const_head_of z) 0 v) (apply s (const_parts_of a))
      (apply s (const_parts_of b))) d (all_parts.relates w s sat all))))
  consts_relate (one_const_leaf d e) f are ea eb w s sat all = same (ap (apply s) (d ∙ sym e))
  consts_relate (const_parameters d e p) f are ea eb w s sat all =
      subst₂ (λ j l. Rel (items_in r) w r.kept.environment (at v) (apply s j) (apply s l)) (sym d) (sym e) (atoms p)

  pub consts_related : {X : Type 0} (tree : X → Tree) (x : X) → IsFormedConst a → IsFormedConst b → AreOfOneConst a b →
      Fronted M r q (const_head_of a) v i (const_parts_of a) (const_parts_of b) →
      AreParts r.store (const_parts_of a) (const_parts_of b) → i ≡ count (const_parts_of a) →
      i ≡ count (const_parts_of b) → tree x ≡ a → IsTrue (known a) → RelatedForms M r q v a b tree (Ok x)
  unfolding passes_within
  consts_related tree x fa fb o f are ea eb answer k = record {
    passes = passes_within (omega (arith, weight_const_parts_most r.store a, weight_const_parts_most r.store b)) f.passes;
    verdict = record {
      outcome = record {
        later = ((f.passes).goes).later;
        goals_in = registered_in (f.passes).added (f.passes).goals_in;
        relates = consts_relate o f are ea eb;
        keeps = λ w s sat z. (f.front).keeps w s sat (const_parts_equal a b o s z);
      };
      answer = subst (MayAnswer M q v a) (sym answer) (may_itself M q v a);
      known = subst (λ u. IsTrue (known u)) (sym answer) k;
      agrees = λ k st began.
          let z = fronted_agree (const_head_of a) v i (const_parts_of a) (const_parts_of b) are ea eb f k st began in
          (const_agrees r.kept.settings (items_in r) st v a b o z.0, z.1);
    };
    exact = λ exact is pair.
        answered_as r.store q.store a b (const_parts_of a) (const_parts_of b) (consts_unify a b fa fb o)
        (λ u. leaves_const_parts (NamesTypesTo u) a) (λ u. leaves_const_parts (NamesTypesTo u) b)
        (fronted_exactly (const_head_of a) v i (const_parts_of a) (const_parts_of b) are ea eb f exact is
        (const_looked_at a) (const_parts_pair r.store a b pair));
    full = λ ha hb. f.full (const_parts_plain a ha) (const_parts_plain b hb);
    built = λ k ha hb. f.built k (built_const_parts k a ha) (built_const_parts k b hb);
    records = λ none. (
      λ promised bare. records_as (λ z w. const_asks (items_in r) v a b i none z ea eb o w)
          (λ z w. asks_const (items_in r) v a b i none z ea eb o w)
          (f.records promised (bare_const_parts r.kept.settings a b bare)),
      λ promised. const_no_more r.kept.settings (items_in r) r.store q.store v a b i none are.left_list are.right_list ea
          eb o (f.no_more promised),
    );
  }

-- Terms of one of the three sorts of arguments are of one sort.
one_top : (k x y : Sort) → AtTop k k → AtTop k x → AtTop k y → x ≡ y
one_top region_sort x y t e d = e ∙ sym d
one_top type_sort x y t e d = e ∙ sym d
one_top const_sort x y t e d = e ∙ sym d
one_top k x y t e d = absurd t

-- An error is no plain term.
error_not_plain : (t : Tree) → IsError t → IsPlainTerm t → ⊥
error_not_plain (leaf (atom type_error)) e h = h
error_not_plain (leaf (atom const_error)) e h = h
error_not_plain (leaf (atom x)) e h = e
error_not_plain t e h = e

module _ {Key Id Name : Type 0} {X : Type 0} (M : Manners) (r : State Key Id Name) (v : Variance) (tree : X → Tree) where
  -- One term is related with itself.
  pub itself_related : {w : Meeting} (a b : Tree) (x : X) → a ≡ b → tree x ≡ a → IsTrue (known a) →
      RelatedAs w M r r (at v) a b tree (Ok x)
  unfolding passes_nowhere
  itself_related {w = w} a b x e answer k = record {
    passes = passes_nowhere (weight r.store a + weight r.store b) r;
    verdict = record {
      outcome = record {
        later = ((passes_nowhere 0 r).goes).later;
        goals_in = All-nil (GoalInContext r.store);
        relates = λ w s sat all. same (ap (apply s) e);
        keeps = λ w s sat one. (s, (λ k n h. refl), (sat, λ k d h. absurd (omega (arith, h))));
      };
      answer = subst (MayAnswer M r v a) (sym answer) (may_itself M r v a);
      known = subst (λ u. IsTrue (known u)) (sym answer) k;
      agrees = λ k st began. (same_agreed r.kept.settings (items_in r) st v a b e, began);
    };
    exact = λ exact is pair.
        (pair.bindings, exact_itself r.store a b e, keeps_pair r.store r.store a b (keeps_itself r.store));
    full = λ ha hb. full_itself r.store;
    built = built_itself r.store a b;
    records = records w;
  }
    where
      just : RecordsJustAsked M r r v a b
      just promised bare = records_trivial (stands_itself r) refl (λ z asks. itself_is_trivial asks e)

      more : RecordsNoMore M r r v a b
      more promised = no_more_same r.kept.settings (items_in r) r.store r.store v a b refl

      records : (w : Meeting) → RecordsAs w M r r (at v) a b
      records as_pair = (just, more)
      records as_forms = λ none. (just, more)

  -- An error with a term of its sort: nothing happens, and the error is the answer.
  module _ (k : Sort) (a b : Tree) (x : X) (top : AtTop k k) (ia : IsTermIn r.store a) (ib : IsTermIn r.store b)
      (ta : IsTerm k a) (tb : IsTerm k b) where
    one_sort : sort_of a ≡ sort_of b
    one_sort = one_top k (sort_of a) (sort_of b) top (at_top k (sort_of a) top (sort_is k a ta))
        (at_top k (sort_of b) top (sort_is k b tb))

    one_value_sort : (w : Interpretation) (s : Assign) → Satisfies w r.store s →
        sort_of (apply s a) ≡ sort_of (apply s b)
    unfolding IsTermIn
    one_value_sort w s sat = one_top k (sort_of (apply s a)) (sort_of (apply s b)) top
        (value_top r.store s k a top sat.assigns ia.0 ta) (value_top r.store s k b top sat.assigns ib.0 tb)

    -- The error, and what it is related with.
    with_error : (IsError a ⊎ IsError b) → (u : Tree) → tree x ≡ u → IsTrue (known u) → MayAnswer M r v a u →
        ((w : Interpretation) (s : Assign) → Satisfies w r.store s →
        Rel (items_in r) w r.kept.environment (at v) (apply s a) (apply s b)) →
        RelatedForms M r r v a b tree (Ok x)
    unfolding passes_nowhere
    with_error is u answer known_u may related = record {
      passes = passes_nowhere (weight r.store a + weight r.store b) r;
      verdict = record {
        outcome = record {
          later = ((passes_nowhere 0 r).goes).later;
          goals_in = All-nil (GoalInContext r.store);
          relates = λ w s sat all. related w s sat;
          keeps = λ w s sat one. (s, (λ k n h. refl), (sat, λ k d h. absurd (omega (arith, h))));
        };
        answer = subst (MayAnswer M r v a) (sym answer) may;
        known = subst (λ t. IsTrue (known t)) (sym answer) known_u;
        agrees = λ k st began.
            (error_agreed r.kept.settings (items_in r) st began.sound v a b is one_sort, began);
      };
      exact = λ exact is' pair. absurd (not_first is pair);
      full = λ ha hb. full_itself r.store;
      built = built_itself r.store a b;
      records = λ none. (
        λ promised bare. absurd (not_plain is bare),
        λ promised. no_more_same r.kept.settings (items_in r) r.store r.store v a b refl,
      );
    }
      where
        not_plain : IsError a ⊎ IsError b → AreBare r.kept.settings a b → ⊥
        not_plain (inl e) bare = error_not_plain a e bare.left_plain
        not_plain (inr e) bare = error_not_plain b e bare.right_plain

        not_first : IsError a ⊎ IsError b → IsFirstOrderPair r.store a b → ⊥
        not_first (inl e) pair = error_not_first a e pair.left
        not_first (inr e) pair = error_not_first b e pair.right

    pub left_error : tree x ≡ a → IsTrue (known a) → IsError a → RelatedForms M r r v a b tree (Ok x)
    left_error answer known_a e = with_error (inl e) a answer known_a (may_itself M r v a)
        (λ w s sat. error_left (error_stays s a e) (one_value_sort w s sat))

    pub right_error : tree x ≡ b → IsTrue (known b) → IsError b → RelatedForms M r r v a b tree (Ok x)
    right_error answer known_b e = with_error (inr e) b answer known_b
        (record { related = λ w s sat all. error_right (error_stays s b e) (one_value_sort w s sat) })
        (λ w s sat. error_right (error_stays s b e) (one_value_sort w s sat))

  -- Two terms are refused at once.
  pub refused_here : {w : Meeting} (a b : Tree) (e : TypeError Key Id Name) → NeverOne (at v) r.store a b →
      ErrorAs r.meaning w r.kept.settings (items_in r) r.store v e a b → KnowsError r.meaning e →
      (IsFirstOrderPair r.store a b → NoUnifier r.store a b) → RelatedAs w M r r (at v) a b tree (Err (Unrelated e))
  unfolding passes_nowhere
  refused_here a b e n o k u = record {
    passes = passes_nowhere (weight r.store a + weight r.store b) r;
    verdict = (n, o, k);
    exact = λ exact is pair. (u pair, binds_itself r.store a b);
    full = λ ha hb. full_itself r.store;
    built = built_itself r.store a b;
    records = tt;
  }

  pub types_differ : (x y : TyKey Key) (e : TypeError Key Id Name) → v ≢ Bivariant → IsRigid ((r.meaning).ty x) →
      IsRigid ((r.meaning).ty y) → IsTerm type_sort ((r.meaning).ty x) → IsTerm type_sort ((r.meaning).ty y) →
      IsTrue (known ((r.meaning).ty x)) → IsTrue (known ((r.meaning).ty y)) → FormError r.meaning x y e →
      RelatedForms M r r v ((r.meaning).ty x) ((r.meaning).ty y) tree (Err (Unrelated e))
  types_differ x y e d f g s t k l h =
      refused_here {w = as_forms} ((r.meaning).ty x) ((r.meaning).ty y) e (form_apart r.meaning r.store x y e f g s t h)
      (of_forms x y d refl refl (formed_not_bindable ((r.meaning).ty x) ((r.meaning).ty y) f g) h)
      (known_error r.meaning x y e k l h) (λ pair j sol one. forms_not_unified r.meaning j x y e f g s t h one)

  pub consts_differ : (x y : ConstKey Key) (e : TypeError Key Id Name) → v ≢ Bivariant → IsFormedConst ((r.meaning).const_ x) →
      IsFormedConst ((r.meaning).const_ y) → IsTerm const_sort ((r.meaning).const_ x) →
      IsTerm const_sort ((r.meaning).const_ y) → IsTrue (known ((r.meaning).const_ x)) →
      IsTrue (known ((r.meaning).const_ y)) → ConstFormError r.meaning x y e →
      RelatedForms M r r v ((r.meaning).const_ x) ((r.meaning).const_ y) tree (Err (Unrelated e))
  consts_differ x y e d f g s t k l h =
      refused_here {w = as_forms} ((r.meaning).const_ x) ((r.meaning).const_ y) e (const_form_apart r.meaning r.store x y e f g s t h)
      (of_const_forms x y d refl refl (formed_consts_not_bindable ((r.meaning).const_ x) ((r.meaning).const_ y) f g) h)
      (known_const_error r.meaning x y e k l h)
      (λ pair j sol one. const_forms_not_unified r.meaning j x y e f g s t pair.left h one)

-- Arguments of different kinds.
module _ {Key Id Name : Type 0} (m : Meaning Key Id Name) (sorted : Sorted m) where
  kind_sort : GenericArgKind Key → Sort
  kind_sort (Lifetime r) = region_sort
  kind_sort (Ty t) = type_sort
  kind_sort (Const c) = const_sort

  kind_top : (X : GenericArgKind Key) → AtTop (kind_sort X) (kind_sort X)
  unfolding kind_sort
  kind_top (Lifetime r) = refl
  kind_top (Ty t) = refl
  kind_top (Const c) = refl

  kind_term : (X : GenericArgKind Key) → IsTrue (known (arg_tree m X)) → IsTerm (kind_sort X) (arg_tree m X)
  unfolding kind_sort
  kind_term (Lifetime r) k = sorted.region r k
  kind_term (Ty t) k = sorted.ty t k
  kind_term (Const c) k = sorted.const_ c k

  two_sorts : (X Y : GenericArgKind Key) (z w : Sort) → AreOfTwoKinds X Y → AtTop (kind_sort X) z → AtTop (kind_sort Y) w → z ≡ w → ⊥
  unfolding kind_sort
  two_sorts (Lifetime r) (Lifetime s) z w o a b e = o
  two_sorts (Ty r) (Ty s) z w o a b e = o
  two_sorts (Const r) (Const s) z w o a b e = o
  two_sorts X Y z w o a b e = absurd (cc)

  pub kinds_differ : {X : Type 0} (M : Manners) (r : State Key Id Name) (v : Variance) (tree : X → Tree) → v ≢ Bivariant →
      r.meaning ≡ m → (X Y : GenericArgKind Key) → AreOfTwoKinds X Y → IsTrue (known (arg_tree m X)) → IsTrue (known (arg_tree m Y)) →
      IsTermIn r.store (arg_tree m X) → IsTermIn r.store (arg_tree m Y) →
      Related M r r v (arg_tree m X) (arg_tree m Y) tree (Err (Unrelated Mismatch))
  unfolding IsTermIn
  kinds_differ M r v tree d is X Y o k l x y =
      refused_here M r v tree {w = as_pair} (arg_tree m X) (arg_tree m Y) Mismatch
      (λ w s sat e. two_sorts X Y (sort_of (apply s (arg_tree m X))) (sort_of (apply s (arg_tree m Y))) o
      (value_top r.store s (kind_sort X) (arg_tree m X) (kind_top X) sat.assigns x.0 (kind_term X k))
      (value_top r.store s (kind_sort Y) (arg_tree m Y) (kind_top Y) sat.assigns y.0 (kind_term Y l)) (ap sort_of e))
      (of_kinds d (λ e. two_sorts X Y (sort_of (arg_tree m X)) (sort_of (arg_tree m Y)) o
      (at_top (kind_sort X) _ (kind_top X) (sort_is (kind_sort X) (arg_tree m X) (kind_term X k)))
      (at_top (kind_sort Y) _ (kind_top Y) (sort_is (kind_sort Y) (arg_tree m Y) (kind_term Y l))) e))
      tt
      (λ pair s sol e. two_sorts X Y (sort_of (apply s (arg_tree m X))) (sort_of (apply s (arg_tree m Y))) o
      (value_top r.store s (kind_sort X) (arg_tree m X) (kind_top X) sol.0 x.0 (kind_term X k))
      (value_top r.store s (kind_sort Y) (arg_tree m Y) (kind_top Y) sol.0 y.0 (kind_term Y l))
      (sym (erased_sort (apply s (arg_tree m X))) ∙ ap sort_of e ∙ erased_sort (apply s (arg_tree m Y))))
