-- Types and constants that are related by their outermost forms and their parts.
use Rattle.std.proofs.Common.{◌≡◌, ℕ, ◌<◌, refl, sym, ap, ◌∙◌, subst, subst₂, arith, ◌++◌, All, IsTrue, Ok, Err}
use Rattle.term_enums.specs.declared.Variance.{Variance}
use Rattle.relation_terms.specs.Heads.{Head, type_sort, const_sort, region_sort, Sort, Admits, head_sort, AliasKind, alias, array, signature, inputs, value, value_type, value_branch}
use Rattle.relation_terms.specs.Trees.{Tree, node, known, IsTerm, count, nth, apply, Assign}
use Rattle.relation_terms.specs.Meaning.{Meaning, Extends, arg_tree}
use Rattle.relation_terms.specs.declared.terms.keys.ConstKey.{ConstKey}
use Rattle.relation_terms.specs.declared.terms.generic_arg.GenericArgKind.{GenericArgKind}
use Rattle.relation_terms.specs.declared.terms.generic_arg.GenericArgKind.TheVariants.{Lifetime, Ty, Const}
use Rattle.relation_terms.specs.Interning.{Sorted}
use Rattle.relation_folds.specs.declared.error.ExpectedFound.{ExpectedFound}
use Rattle.relation_folds.specs.declared.error.TypeError.{TypeError}
use Rattle.relation_folds.specs.declared.error.TypeError.TheVariants.{ArraySize, ConstMismatch}
use Rattle.relation_folds.specs.declared.error.RelateFault.{RelateFault}
use Rattle.relation_folds.specs.declared.error.RelateFault.TheVariants.{Memory, Budget, Unrelated}
use Rattle.relation_folds.specs.Faults.{KnowsFault}
use Rattle.relation_semantics.specs.Relation.{Items, Interpretation, at, parts, part_at, Rel, same, atoms, forms, sort_of}
use Rattle.relation_semantics.specs.Stores.{Store, Satisfies}
use Rattle.relation_semantics.specs.Goals.{Holds}
use Rattle.relation_semantics.specs.Outcomes.{NeverOne, KeepsOne}
use Rattle.relation_semantics.specs.Settings.{Settings}
use Rattle.relation_semantics.specs.Errors.{ErrorOf, ErrorByForms, as_forms, IsHandedOn, of_parts, of_alias_parts, of_length}
use Rattle.relation_semantics.specs.Errors.{AreOfOneForm, over_parts, over_aliases, one_leaf, parameters}
use Rattle.relation_semantics.specs.Errors.{AreOfOneConst}
use Rattle.relation_semantics.specs.Parts.{IsRigid, direct_parts, const_parts_of, head_of, const_head_of}
use Rattle.part_variances.specs.PartErrors.{IsPassedOn, IsNoLength, IsFaultOfTy, passed, sized, IsFaultOfConst, passed_const, whole}
use Rattle.relation_semantics.specs.Lawful.{State, Manners, MayAnswer, Passes, Refuses, RefusesAs, Related}
use Rattle.relation_semantics.specs.Lawful.{RelatedForms, ExactResult, ExactlyRelated, items_in}
use Rattle.relation_semantics.proofs.Registered.{registered_in}
use Rattle.relation_semantics.proofs.Recording.{records_as}
use Rattle.relation_semantics.proofs.RecordingForms.{bare_parts, form_asks, asks_form}
use Rattle.relation_semantics.proofs.Passing.{passes_within, passes_then, manner_then}
use Rattle.relation_steps.proofs.Fronts.{Fronted, AreParts, fronted_never, fronted_all, fronted_passes, fronted_fault, fronted_exactly, fronted_full, fronted_built, fronted_needs}
use Rattle.relation_semantics.proofs.Building.{built_parts}
use Rattle.relation_steps.proofs.Fronts.{fronted_agree, fronted_keeps}
use Rattle.relation_semantics.proofs.Keeping.{one_inside, one_so_far, unified_inside}
use Rattle.relation_semantics.proofs.AskingSince.{form_no_more}
use Rattle.relation_semantics.proofs.AgreeingForms.{form_agrees}
use Rattle.relation_semantics.proofs.Full.{parts_plain}
use Rattle.relation_recursion.proofs.Unifying.{first_order_parts, formed_looked_at, types_unify, answered_as, refused_as}
use Rattle.relation_semantics.specs.Headline.{IsFirstOrderPair}
use Rattle.relation_semantics.specs.OneUniverse.{NamesTypesTo}
use Rattle.relation_semantics.proofs.OneUniverse.{leaves_parts, keeps_binds, binds_as}
use Rattle.relation_semantics.proofs.OneParts.{related_head, parts_equal, const_parts_equal, sort_is}
use Rattle.part_variances.proofs.PartErrors.{ty_fault_known}
use Rattle.relation_recursion.proofs.PartSizes.{weight_parts_most}
use Rattle.relation_semantics.proofs.Answering.{same_items, may_itself}
use Rattle.relation_semantics.proofs.Erased.{alias_not_first}
use Rattle.relation_semantics.proofs.Retelling.{stopped}

-- The error of two parts of two types as the error of the types.
module _ {Key Id Name : Type 0} (n p : Meaning Key Id Name) (e : Extends n p) (s : Sorted n) (a b : Tree)
    (i : ℕ) (X Y : GenericArgKind Key) (x_known : IsTrue (known (arg_tree n X)))
    (y_known : IsTrue (known (arg_tree n Y))) where
  no_const : (k : Sort) (t : Tree) → (Admits k const_sort → ⊥) → IsTerm k t → sort_of t ≡ const_sort → ⊥
  no_const k t o h z = o (subst (Admits k) z (sort_is k t h))

  handed_on : (h : Head) (ts : Tree) (f : TypeError Key Id Name) → head_sort h ≡ type_sort → (IsPassedOn (Unrelated f) (node h ts) X Y) → IsHandedOn f h i (arg_tree n X) (arg_tree n Y)
  handed_on array ts f g o = λ w is. lengths X Y x_known y_known (subst (λ z. IsPassedOn (Unrelated z) (node array ts) X Y) is o)
    where
      lengths : (X Y : GenericArgKind Key) → IsTrue (known (arg_tree n X)) → IsTrue (known (arg_tree n Y)) → IsNoLength (node array ts) X Y → sort_of (arg_tree n X) ≡ const_sort → sort_of (arg_tree n Y) ≡ const_sort → ⊥
      lengths (Const c) (Const d) k l o = absurd o
      lengths (Lifetime c) Y k l o = λ u v. no_const region_sort (n.region c) (λ z. z) (s.region c k) u
      lengths (Ty c) Y k l o = λ u v. no_const type_sort (n.ty c) (λ z. z) (s.ty c k) u
      lengths (Const c) (Lifetime d) k l o = λ u v. no_const region_sort (n.region d) (λ z. z) (s.region d l) v
      lengths (Const c) (Ty d) k l o = λ u v. no_const type_sort (n.ty d) (λ z. z) (s.ty d l) v
  handed_on (signature x k y) ts f g o = absurd (cc)
  handed_on inputs ts f g o = absurd (cc)
  handed_on value ts f g o = absurd (cc)
  handed_on value_type ts f g o = absurd (cc)
  handed_on value_branch ts f g o = absurd (cc)
  handed_on h ts f g o = tt

  module _ (x y : Tree) (ex : arg_tree n X ≡ x) (ey : arg_tree n Y ≡ y) (set : Settings) (j : Items)
      (v : Variance) where
    -- The types' own error.
    ty_error : (st : Store) (f : TypeError Key Id Name) (h : Head) (ts us : Tree) → a ≡ node h ts → b ≡ node h us → head_sort h ≡ type_sort → count ts ≡ count us → i < count ts → x ≡ nth i ts → y ≡ nth i us
        → IsPassedOn (Unrelated f) a X Y → ErrorOf p set j st (part_at j h i v) f x y → ErrorByForms p set j st v f a b
    ty_error st f h ts us d c g m l z w o u = of_parts i d c m l
        (subst₂ (IsHandedOn f h i) (ex ∙ z) (ey ∙ w) (handed_on h ts f g (subst (λ t. IsPassedOn (Unrelated f) t X Y) d o))) (subst₂ (ErrorOf p set j st (part_at j h i v) f) z w u)

    length_error : (st : Store) (f : ExpectedFound (ConstKey Key)) (c d : ConstKey Key) (ts us : Tree) (h : Head) (vs : Tree) → a ≡ node h ts → b ≡ node h us → a ≡ node array vs → count ts ≡ count us → i < count ts
        → x ≡ nth i ts → y ≡ nth i us → X ≡ Const c → Y ≡ Const d → ErrorOf p set j st (part_at j h i v) (ConstMismatch f) x y → ErrorByForms p set j st v (ArraySize (record { expected = c; found = d })) a b
    length_error st f c d ts us h vs s' k g m l z w u o t =
        let is : h ≡ array = (let q = sym s' ∙ g in cc) in
        of_length c d i (s' ∙ ap (λ z. node z ts) is) (k ∙ ap (λ z. node z us) is) m l
        (sym z ∙ sym ex ∙ ap (arg_tree n) u ∙ sym (e.const_ c (subst (λ z. IsTrue (known (arg_tree n z))) u x_known)))
        (sym w ∙ sym ey ∙ ap (arg_tree n) o ∙ sym (e.const_ d (subst (λ z. IsTrue (known (arg_tree n z))) o y_known)))
        (subst (λ h. ErrorOf p set j st (part_at j h i v) (ConstMismatch f) (nth i ts) (nth i us)) is
        (subst₂ (ErrorOf p set j st (part_at j h i v) (ConstMismatch f)) z w t))

    -- The same of two aliases, whatever their kinds.
    alias_error : (st : Store) (f : TypeError Key Id Name) (k l : AliasKind) (d : ℕ) (ts us : Tree) →
        a ≡ node (alias k d) ts → b ≡ node (alias l d) us → count ts ≡ count us → i < count ts → x ≡ nth i ts →
        y ≡ nth i us → ErrorOf p set j st (part_at j (alias k d) i v) f x y → ErrorByForms p set j st v f a b
    alias_error st f k l d ts us s' t m lt z w u =
        of_alias_parts i s' t m lt (subst₂ (ErrorOf p set j st (part_at j (alias k d) i v) f) z w u)

    pub ty_complains : (st : Store) (f : TypeError Key Id Name) (g : RelateFault Key Id Name) → IsRigid a →
        AreOfOneForm a b → i < count (direct_parts a) → x ≡ nth i (direct_parts a) → y ≡ nth i (direct_parts b) →
        IsFaultOfTy a X Y (Unrelated f) g → ErrorOf p set j st (part_at j (head_of a) i v) f x y →
        (k : TypeError Key Id Name) × (g ≡ Unrelated k) × ErrorByForms p set j st v k a b
    ty_complains st f g t (one_leaf s' k) l z w o h =
        absurd (let c : count (direct_parts a) ≡ 0 = ap (λ z. count (direct_parts z)) s' in omega (arith, c, l))
    ty_complains st f g t (parameters s' k m) l z w o h =
        absurd (let c : count (direct_parts a) ≡ 0 = ap (λ z. count (direct_parts z)) s' in omega (arith, c, l))
    ty_complains st f g t (over_aliases {k = kd} {l = ld} {d} {ts} {us} s' k m) l z w (passed is o) h = (
      f,
      is,
      alias_error st f kd ld d ts us s' k m (subst (λ z. i < count (direct_parts z)) s' l)
          (z ∙ ap (λ z. nth i (direct_parts z)) s') (w ∙ ap (λ z. nth i (direct_parts z)) k)
          (subst (λ z. ErrorOf p set j st (part_at j (head_of z) i v) f x y) s' h),
    )
    ty_complains st f g t (over_aliases s' k m) l z w (sized c d o j' k' l' is eq) h =
        absurd (let e = sym s' ∙ j' in cc)
    ty_complains st f g t (over_parts {h = hd} {ts} {us} s' k m) l z w (passed is o) h = (
      f,
      is,
      ty_error st f hd ts us s' k (subst IsRigid s' t) m (subst (λ z. i < count (direct_parts z)) s' l)
          (z ∙ ap (λ z. nth i (direct_parts z)) s') (w ∙ ap (λ z. nth i (direct_parts z)) k) o
          (subst (λ z. ErrorOf p set j st (part_at j (head_of z) i v) f x y) s' h),
    )
    ty_complains st f g t (over_parts {h = hd} {ts} {us} s' k m) l z w (sized {ts = vs} c d o j' k' l' is eq) h =
        let same : f ≡ ConstMismatch o = cc in (
          ArraySize (record { expected = c; found = d }),
          eq,
          length_error st o c d ts us hd vs s' k j' m (subst (λ z. i < count (direct_parts z)) s' l)
              (z ∙ ap (λ z. nth i (direct_parts z)) s') (w ∙ ap (λ z. nth i (direct_parts z)) k) k' l'
              (subst (λ z. ErrorOf p set j st (part_at j hd i v) z x y) same
              (subst (λ z. ErrorOf p set j st (part_at j (head_of z) i v) f x y) s' h)),
        )

-- A fault of two parts as the fault of the types, and as that of the constants.
module _ {Key Id Name : Type 0} where
  pub same_fault : (t : Tree) (X Y : GenericArgKind Key) (f g : RelateFault Key Id Name) → IsFaultOfTy t X Y f g →
      ((e : TypeError Key Id Name) → f ≡ Unrelated e → ⊥) → g ≡ f
  same_fault t X Y f g (passed is o) n = is
  same_fault t X Y f g (sized c d p j x y is e) n = absurd (n (ConstMismatch p) is)

  pub same_const_fault : (t : Tree) (c d : ConstKey Key) (f g : RelateFault Key Id Name) → IsFaultOfConst t c d f g →
      ((e : TypeError Key Id Name) → f ≡ Unrelated e → ⊥) → g ≡ f
  same_const_fault t c d f g (passed_const is o) n = is
  same_const_fault t c d f g (whole e j is k) n = absurd (n e is)

pub still_unrelated : {Key Id Name : Type 0} (t : Tree) (X Y : GenericArgKind Key) (e : TypeError Key Id Name)
    (k : RelateFault Key Id Name) → IsFaultOfTy t X Y (Unrelated e) k → (d : TypeError Key Id Name) × (k ≡ Unrelated d)
still_unrelated t X Y e k (passed is o) = (e, is)
still_unrelated t X Y e k (sized c d p j x y is eq) = (ArraySize (record { expected = c; found = d }), eq)

-- The parts of two first-order types.
pub parts_pair : (st : Store) (a b : Tree) → IsFirstOrderPair st a b → IsFirstOrderPair st (direct_parts a) (direct_parts b)
parts_pair st a b pair = record {
  left = first_order_parts a pair.left;
  right = first_order_parts b pair.right;
  bindings = pair.bindings;
}

-- Lists of parts of a form that are never one are the parts of forms that are never one.
pub types_never : (st : Store) (v : Variance) (a b : Tree) → AreOfOneForm a b →
    NeverOne (parts (head_of a) 0 v) st (direct_parts a) (direct_parts b) → NeverOne (at v) st a b
types_never st v a b o n w s sat q = n w s sat (parts_equal a b o s q)

pub consts_never : (st : Store) (v : Variance) (a b : Tree) → AreOfOneConst a b →
    NeverOne (parts (const_head_of a) 0 v) st (const_parts_of a) (const_parts_of b) → NeverOne (at v) st a b
consts_never st v a b o n w s sat q = n w s sat (const_parts_equal a b o s q)

-- What made the parts one made the forms one.
pub forms_keep : (before after : Store) (v : Variance) (a b : Tree) → AreOfOneForm a b →
    KeepsOne (parts (head_of a) 0 v) before after (direct_parts a) (direct_parts b) → KeepsOne (at v) before after a b
forms_keep before after v a b o k = one_inside (at v) (parts (head_of a) 0 v) before after a b (direct_parts a)
    (direct_parts b) (parts_equal a b o) k

pub consts_keep : (before after : Store) (v : Variance) (a b : Tree) → AreOfOneConst a b →
    KeepsOne (parts (const_head_of a) 0 v) before after (const_parts_of a) (const_parts_of b) →
    KeepsOne (at v) before after a b
consts_keep before after v a b o k = one_inside (at v) (parts (const_head_of a) 0 v) before after a b (const_parts_of a)
    (const_parts_of b) (const_parts_equal a b o) k

module _ {Key Id Name : Type 0} {r q : State Key Id Name} (M : Manners) (v : Variance) (a b : Tree) (i : ℕ) where
  -- Two parts of two types were refused, and so are the types.
  module _ (is_formed : IsRigid a) (o : AreOfOneForm a b) (f : Fronted M r q (head_of a) v i (direct_parts a) (direct_parts b))
      (are : AreParts r.store (direct_parts a) (direct_parts b)) (X Y : GenericArgKind Key)
      (x_known : IsTrue (known (arg_tree q.meaning X))) (y_known : IsTrue (known (arg_tree q.meaning Y)))
      (s : Sorted q.meaning) (lx : i < count (direct_parts a)) (ly : i < count (direct_parts b))
      (ex : arg_tree q.meaning X ≡ nth i (direct_parts a)) (ey : arg_tree q.meaning Y ≡ nth i (direct_parts b)) where
    ty_refuses : {n : ℕ} {p : State Key Id Name} (g : Passes n q p) (e k : RelateFault Key Id Name) →
        IsTrue (known (arg_tree p.meaning X)) → IsTrue (known (arg_tree p.meaning Y)) → IsFaultOfTy a X Y e k →
        Refuses q p (part_at (items_in r) (head_of a) i v) (arg_tree q.meaning X) (arg_tree q.meaning Y) e →
        RefusesAs as_forms r p (at v) a b k
    ty_refuses {p = p} g Memory k kx ky t h =
        subst (RefusesAs as_forms r p (at v) a b) (sym (same_fault a X Y Memory k t (λ e z. cc)))
        (forms_keep r.store p.store v a b o (fronted_keeps (head_of a) v i (direct_parts a) (direct_parts b)
        (arg_tree q.meaning X) (arg_tree q.meaning Y) f lx ly ex ey p are h))
    ty_refuses {p = p} g Budget k kx ky t h =
        subst (RefusesAs as_forms r p (at v) a b) (sym (same_fault a X Y Budget k t (λ e z. cc))) (
          h.0,
          λ j ha hb. fronted_needs (head_of a) v i (direct_parts a) (direct_parts b) (arg_tree q.meaning X)
              (arg_tree q.meaning Y) f lx ly ex ey h.1 j (built_parts j a ha) (built_parts j b hb),
          forms_keep r.store p.store v a b o (fronted_keeps (head_of a) v i (direct_parts a) (direct_parts b)
              (arg_tree q.meaning X) (arg_tree q.meaning Y) f lx ly ex ey p are h.2),
        )
    ty_refuses {p = p} g (Unrelated e) k kx ky t h =
        let same : items_in p ≡ items_in r = same_items g ∙ same_items f.passes in
        let z = ty_complains q.meaning p.meaning g.extends s a b i X Y x_known y_known (arg_tree q.meaning X)
        (arg_tree q.meaning Y) refl refl p.kept.settings (items_in p) v p.store e k is_formed o lx ex ey t
        (subst (λ c. ErrorOf p.meaning p.kept.settings (items_in p) p.store (part_at c (head_of a) i v) e (arg_tree q.meaning X)
        (arg_tree q.meaning Y)) (sym same) h.1) in
        subst (RefusesAs as_forms r p (at v) a b) (sym z.1) (
          types_never r.store v a b o (fronted_never (head_of a) v i (direct_parts a) (direct_parts b) (arg_tree q.meaning X)
              (arg_tree q.meaning Y) f lx ly ex ey are h.0),
          z.2,
          subst (KnowsFault p.meaning) z.1 (ty_fault_known p.meaning a X Y (Unrelated e) k kx ky t h.2),
        )

    whole_type : (A B : Type 0) (p : State Key Id Name) (e : RelateFault Key Id Name) → IsRigid b →
        ExactlyRelated {X = A} (M q.kept.settings) q.store p.store (part_at (items_in r) (head_of a) i v) (arg_tree q.meaning X)
        (arg_tree q.meaning Y) (Err e) → ExactlyRelated {X = B} (M r.kept.settings) r.store p.store v a b (Err e)
    whole_type A B p e is_formed' g exact is pair =
        refused_as r.store p.store a b (direct_parts a) (direct_parts b)
        (types_unify a b is_formed is_formed' (λ i. alias_not_first a i pair.left) o)
        (λ u. leaves_parts (NamesTypesTo u) a) (λ u. leaves_parts (NamesTypesTo u) b) A B e
        (fronted_fault (head_of a) v i (direct_parts a) (direct_parts b) (arg_tree q.meaning X) (arg_tree q.meaning Y) f lx ly ex
        ey A A p e are exact is (formed_looked_at a is_formed) (parts_pair r.store a b pair)
        (λ z. g (manner_then M (λ m. m.is_exact) f.passes z)))

    ty_exactly : (A B : Type 0) (p : State Key Id Name) (e k : RelateFault Key Id Name) → IsRigid b →
        IsFaultOfTy a X Y e k →
        ExactlyRelated {X = A} (M q.kept.settings) q.store p.store (part_at (items_in r) (head_of a) i v) (arg_tree q.meaning X)
        (arg_tree q.meaning Y) (Err e) → ExactlyRelated {X = B} (M r.kept.settings) r.store p.store v a b (Err k)
    ty_exactly A B p Memory k is_formed' t g exact is pair = subst (λ k. ExactResult {X = B} r.store p.store a b (Err k))
        (sym (same_fault a X Y Memory k t (λ e z. cc))) (whole_type A B p Memory is_formed' g exact is pair)
    ty_exactly A B p Budget k is_formed' t g exact is pair = subst (λ k. ExactResult {X = B} r.store p.store a b (Err k))
        (sym (same_fault a X Y Budget k t (λ e z. cc))) (whole_type A B p Budget is_formed' g exact is pair)
    ty_exactly A B p (Unrelated e) k is_formed' t g exact is pair =
        let z = still_unrelated a X Y e k t in
        subst (λ k. ExactResult {X = B} r.store p.store a b (Err k)) (sym z.1)
        (whole_type A B p (Unrelated e) is_formed' g exact is pair)

    pub ty_refused : {A B : Type 0} {p : State Key Id Name} (tree : A → Tree) (answer : B → Tree)
        (e k : RelateFault Key Id Name) → IsRigid b → IsTrue (known (arg_tree p.meaning X)) →
        IsTrue (known (arg_tree p.meaning Y)) → IsFaultOfTy a X Y e k →
        Related M q p (part_at (items_in r) (head_of a) i v) (arg_tree q.meaning X) (arg_tree q.meaning Y) tree (Err e) →
        RelatedForms M r p v a b answer (Err k)
    unfolding passes_within fronted_passes passes_then
    ty_refused {A} {B} {p} tree answer e k is_formed' kx ky t g = record {
      passes = passes_within (omega (arith, weight_parts_most r.store a, weight_parts_most r.store b))
          (fronted_passes (head_of a) v i (direct_parts a) (direct_parts b) (arg_tree q.meaning X) (arg_tree q.meaning Y) f lx ly
          ex ey g.passes);
      records = tt;
      verdict = ty_refuses g.passes e k kx ky t g.verdict;
      exact = ty_exactly A B p e k is_formed' t g.exact;
      full = λ ha hb. fronted_full (head_of a) v i (direct_parts a) (direct_parts b) (arg_tree q.meaning X)
          (arg_tree q.meaning Y) f lx ly ex ey g.full (parts_plain a ha) (parts_plain b hb);
      built = λ k ha hb. fronted_built (head_of a) v i (direct_parts a) (direct_parts b) (arg_tree q.meaning X)
          (arg_tree q.meaning Y) f lx ly ex ey (g.passes).added g.built k (built_parts k a ha) (built_parts k b hb);
    }

  -- Memory ran out after some of the parts.
  pub types_stopped : {X : Type 0} (tree : X → Tree) → IsRigid a → IsRigid b → AreOfOneForm a b →
      Fronted M r q (head_of a) v i (direct_parts a) (direct_parts b) → RelatedForms {X = X} M r q v a b tree (Err Memory)
  unfolding passes_within
  types_stopped tree is_formed is_formed' o f = stopped M v a b tree
      (passes_within (omega (arith, weight_parts_most r.store a, weight_parts_most r.store b)) f.passes)
      (forms_keep r.store q.store v a b o (one_so_far f.front))
      (λ exact is pair. let z = f.exact exact is (formed_looked_at a is_formed) (parts_pair r.store a b pair) in (
        binds_as r.store q.store a b (direct_parts a) (direct_parts b) (λ u. leaves_parts (NamesTypesTo u) a)
            (λ u. leaves_parts (NamesTypesTo u) b) (keeps_binds r.store q.store (direct_parts a) (direct_parts b) z.2),
        unified_inside r.store q.store a b (direct_parts a) (direct_parts b)
            (λ s. (types_unify a b is_formed is_formed' (λ i. alias_not_first a i pair.left) o s).0) (z.1).keeps,
      ))
      (λ ha hb. f.full (parts_plain a ha) (parts_plain b hb))
      (λ k ha hb. f.built k (built_parts k a ha) (built_parts k b hb))

  -- All parts of two types were related, and so are the types.
  types_relate : IsRigid a → (o : AreOfOneForm a b) → (f : Fronted M r q (head_of a) v i (direct_parts a) (direct_parts b)) →
      AreParts r.store (direct_parts a) (direct_parts b) → i ≡ count (direct_parts a) → i ≡ count (direct_parts b) →
      (w : Interpretation) (s : Assign) → Satisfies w q.store s →
      All (Holds (items_in r) w s) (r.goals ++ (f.passes).added) →
      Rel (items_in r) w r.kept.environment (at v) (apply s a) (apply s b)
  types_relate is_formed (over_parts {h} {ts} {us} d e n) f are ea eb w s sat all =
      let whole = fronted_all (head_of a) v i (direct_parts a) (direct_parts b) are ea eb f in
      subst₂ (λ x y. Rel (items_in r) w r.kept.environment (at v) (apply s x) (apply s y)) (sym d) (sym e)
      (forms (related_head h (subst IsRigid d is_formed)) refl
      (subst (λ z. Rel (items_in r) w r.kept.environment (parts h 0 v) (apply s (direct_parts z)) (apply s us)) d
      (subst (λ z. Rel (items_in r) w r.kept.environment (parts h 0 v) (apply s (direct_parts a)) (apply s (direct_parts z))) e
      (subst (λ z. Rel (items_in r) w r.kept.environment (parts (head_of z) 0 v) (apply s (direct_parts a)) (apply s (direct_parts b))) d
      (whole.relates w s sat all)))))
  types_relate is_formed (over_aliases {k} {l} {d = j} {ts} {us} d e n) f are ea eb w s sat all =
      let whole = fronted_all (head_of a) v i (direct_parts a) (direct_parts b) are ea eb f in
      subst₂ (λ x y. Rel (items_in r) w r.kept.environment (at v) (apply s x) (apply s y)) (sym d) (sym e)
      (forms tt refl
      (subst (λ z. Rel (items_in r) w r.kept.environment (parts (alias k j) 0 v) (apply s (direct_parts z)) (apply s us)) d
      (subst (λ z. Rel (items_in r) w r.kept.environment (parts (alias k j) 0 v) (apply s (direct_parts a)) (apply s (direct_parts z))) e
      (subst (λ z. Rel (items_in r) w r.kept.environment (parts (head_of z) 0 v) (apply s (direct_parts a)) (apply s (direct_parts b))) d
      (whole.relates w s sat all)))))
  types_relate is_formed (one_leaf d e) f are ea eb w s sat all = same (ap (apply s) (d ∙ sym e))
  types_relate is_formed (parameters d e p) f are ea eb w s sat all =
      subst₂ (λ x y. Rel (items_in r) w r.kept.environment (at v) (apply s x) (apply s y)) (sym d) (sym e) (atoms p)

  pub types_related : {X : Type 0} (tree : X → Tree) (x : X) → IsRigid a → IsRigid b → AreOfOneForm a b →
      Fronted M r q (head_of a) v i (direct_parts a) (direct_parts b) → AreParts r.store (direct_parts a) (direct_parts b) →
      i ≡ count (direct_parts a) → i ≡ count (direct_parts b) → tree x ≡ a → IsTrue (known a) →
      RelatedForms M r q v a b tree (Ok x)
  unfolding passes_within
  types_related tree x is_formed is_formed' o f are ea eb answer k = record {
    passes = passes_within (omega (arith, weight_parts_most r.store a, weight_parts_most r.store b)) f.passes;
    verdict = record {
      outcome = record {
        later = ((f.passes).goes).later;
        goals_in = registered_in (f.passes).added (f.passes).goals_in;
        relates = types_relate is_formed o f are ea eb;
        keeps = λ w s sat z. (f.front).keeps w s sat (parts_equal a b o s z);
      };
      answer = subst (MayAnswer M q v a) (sym answer) (may_itself M q v a);
      known = subst (λ u. IsTrue (known u)) (sym answer) k;
      agrees = λ k st began.
          let z = fronted_agree (head_of a) v i (direct_parts a) (direct_parts b) are ea eb f k st began in
          (form_agrees r.kept.settings (items_in r) st v a b o z.0, z.1);
    };
    exact = λ exact is pair.
        answered_as r.store q.store a b (direct_parts a) (direct_parts b)
        (types_unify a b is_formed is_formed' (λ i. alias_not_first a i pair.left) o)
        (λ u. leaves_parts (NamesTypesTo u) a) (λ u. leaves_parts (NamesTypesTo u) b)
        (fronted_exactly (head_of a) v i (direct_parts a) (direct_parts b) are ea eb f exact is
        (formed_looked_at a is_formed) (parts_pair r.store a b pair));
    full = λ ha hb. f.full (parts_plain a ha) (parts_plain b hb);
    built = λ k ha hb. f.built k (built_parts k a ha) (built_parts k b hb);
    records = λ none. (
      λ promised bare. records_as (λ z w. form_asks (items_in r) v a b i none z ea eb o w)
          (λ z w. asks_form (items_in r) v a b i none z ea eb o (λ h ts d. related_head h (subst IsRigid d is_formed)) w)
          (f.records promised (bare_parts r.kept.settings a b bare)),
      λ promised. form_no_more r.kept.settings (items_in r) r.store q.store v a b i none are.left_list are.right_list ea eb
          (λ h ts d. related_head h (subst IsRigid d is_formed)) o (f.no_more promised),
    );
  }
