-- What an error of two parts is as the error of the terms, and arguments of two kinds.
use Rattle.std.proofs.Common.{◌≡◌, ℕ, zero, suc, ◌<◌, Bool, refl, sym, ap, ◌∙◌, subst, subst₂, inl, inr, arith, IsTrue, Option, Some, None, Result, Ok, Err, [], ◌∷◌}
use Rattle.term_enums.specs.declared.Variance.{Variance}
use Rattle.term_enums.specs.declared.Safety.{Safety}
use Rattle.term_enums.specs.declared.ExternAbi.{ExternAbi}
use Rattle.relation_terms.specs.Heads.{Sort, Admits, region_sort, type_sort, const_sort, var_sort}
use Rattle.relation_terms.specs.Heads.{head_sort, array, variable, bound, placeholder, atom, unknown}
use Rattle.relation_terms.specs.Heads.{Leaf, inputs_sort, signature_sort, atom_sort, bound_sort, term_of, row, Atom, bool_type, Head, pattern_type}
use Rattle.relation_terms.specs.Heads.{range_pattern, or_pattern, fn_ptr, unsafe_binder, dynamic, object, signature, inputs}
use Rattle.relation_terms.specs.Heads.{existential_trait, existential_projection}
use Rattle.relation_terms.specs.Trees.{Tree, leaf, node, nil, cons, Assign, apply, IsTerm, Fits, known, count, nth}
use Rattle.relation_terms.specs.Meaning.{Meaning, arg_tree, kind_tree}
use Rattle.relation_terms.specs.Parts.{part_tree, part_sort, tree_sort}
use Rattle.relation_terms.specs.declared.terms.part_kind.Part.{Part}
use Rattle.relation_terms.specs.declared.terms.part_kind.Part.TheVariants.{Region, Ty as TyPart, Const as ConstPart, ValTree}
use Rattle.relation_terms.specs.declared.terms.part_kind.Part.TheVariants.{Pat, ValueType, Binder, Signature, Inputs}
use Rattle.relation_terms.specs.declared.terms.part_kind.Part.TheVariants.{Existential, Object}
use Rattle.relation_terms.specs.declared.terms.keys.TysKey.{TysKey}
use Rattle.relation_terms.specs.declared.terms.fn_sig.FnSig.{FnSig}
use Rattle.relation_terms.specs.Interning.{Sorted}
use Rattle.relation_terms.proofs.Parts.{sort_known}
use Rattle.relation_terms.specs.declared.terms.ty_kind.TyKind.{TyKind}
use Rattle.relation_terms.specs.declared.terms.ty_kind.TyKind.TheVariants.{Array, Infer}
use Rattle.relation_terms.specs.declared.terms.ty_kind.InferTy.TheVariants.{TyVar, IntVar, FloatVar, FreshTy, FreshIntTy, FreshFloatTy}
use Rattle.relation_terms.specs.declared.terms.keys.TyKey.{TyKey}
use Rattle.relation_terms.specs.declared.terms.keys.RegionKey.{RegionKey}
use Rattle.relation_terms.specs.declared.terms.keys.ConstKey.{ConstKey}
use Rattle.relation_terms.specs.declared.terms.generic_arg.GenericArgKind.{GenericArgKind}
use Rattle.relation_terms.specs.declared.terms.generic_arg.GenericArgKind.TheVariants.{Lifetime, Ty, Const}
use Rattle.relation_folds.specs.declared.error.ExpectedFound.{ExpectedFound}
use Rattle.relation_folds.specs.declared.error.TypeError.{TypeError}
use Rattle.relation_folds.specs.declared.error.TypeError.TheVariants.{ConstMismatch, Sorts, ArgumentSorts}
use Rattle.relation_folds.specs.declared.error.TypeError.TheVariants.{Mutability, ArgumentMutability}
use Rattle.relation_folds.specs.declared.error.RelateFault.{RelateFault}
use Rattle.relation_folds.specs.declared.error.RelateFault.TheVariants.{Unrelated}
use Rattle.relation_folds.specs.Faults.{KnowsFault}
use Rattle.relation_semantics.specs.Relation.{Items, part_at, sort_of}
use Rattle.relation_semantics.specs.Stores.{Store, IsAssignment, InContext}
use Rattle.relation_semantics.specs.Settings.{Settings}
use Rattle.relation_semantics.specs.Errors.{ErrorOf, ErrorByForms, of_parts, of_inputs, of_outputs, IsHandedOn, IsPlaced, NamesNoPlace}
use Rattle.relation_semantics.specs.Errors.{sorts_at, argument_sorts_at, mutability_at, argument_mutability_at, AreOfOneForm}
use Rattle.relation_semantics.specs.Errors.{over_parts, over_aliases, one_leaf, parameters}
use Rattle.relation_semantics.specs.Parts.{direct_parts, head_of, IsByParts}
use Rattle.relation_semantics.proofs.Standing.{stands_term}
use Rattle.part_variances.proofs.Patterns.{no_argument, var_argument, bound_argument}
use Rattle.part_variances.proofs.PartPlaces.{two_shape}
use Rattle.part_variances.specs.PartErrors.{IsPassedOn, IsNoLength, IsFaultOfTy, passed, sized, IsFaultOfConst, passed_const, whole}
use Rattle.part_variances.specs.PartErrors.{named_place, IsFaultOfPart, IsResultOfPart, IsPlacedOrNot, no_place, no_error, unplaced, placed}
use Rattle.relation_folds.specs.Faults.{KnowsError}
use Rattle.relation_semantics.proofs.OneParts.{sort_is}

-- The fault names what is known.
pub ty_fault_known : {Key Id Name : Type 0} (p : Meaning Key Id Name) (t : Tree) (X Y : GenericArgKind Key) (f g : RelateFault Key Id Name) → IsTrue (known (arg_tree p X)) → IsTrue (known (arg_tree p Y)) → IsFaultOfTy t X Y f g → KnowsFault p f → KnowsFault p g
ty_fault_known p t X Y f g k l (passed is o) h = subst (KnowsFault p) (sym is) h
ty_fault_known p t X Y f g k l (sized c d o i x y is e) h = subst (KnowsFault p) (sym e) (subst (λ z. IsTrue (known (arg_tree p z))) x k, subst (λ z. IsTrue (known (arg_tree p z))) y l)

pub const_fault_known : {Key Id Name : Type 0} (p : Meaning Key Id Name) (t : Tree) (c d : ConstKey Key) (f g : RelateFault Key Id Name) → IsTrue (known (p.const_ c)) → IsTrue (known (p.const_ d)) → IsFaultOfConst t c d f g → KnowsFault p f → KnowsFault p g
const_fault_known p t c d f g k l (passed_const is o) h = subst (KnowsFault p) (sym is) h
const_fault_known p t c d f g k l (whole e i is q) h = subst (KnowsFault p) (sym q) (k, l)

-- Arguments of different kinds.
abbrev pub AreOfTwoKinds : {Key : Type 0} → GenericArgKind Key → GenericArgKind Key → Type 0
AreOfTwoKinds (Lifetime r) (Lifetime s) = ⊥
AreOfTwoKinds (Ty t) (Ty u) = ⊥
AreOfTwoKinds (Const c) (Const d) = ⊥
AreOfTwoKinds x y = Unit {0}

pub no_lifetime : {Key : Type 0} (r : RegionKey Key) (Y : GenericArgKind Key) → ((s : RegionKey Key) → Y ≡ Lifetime s → ⊥) → AreOfTwoKinds (Lifetime r) Y
no_lifetime r (Lifetime s) o = o s refl
no_lifetime r Y o = tt

pub no_ty : {Key : Type 0} (t : TyKey Key) (Y : GenericArgKind Key) → ((s : TyKey Key) → Y ≡ Ty s → ⊥) → AreOfTwoKinds (Ty t) Y
no_ty t (Ty s) o = o s refl
no_ty t Y o = tt

pub no_const_arg : {Key : Type 0} (t : ConstKey Key) (Y : GenericArgKind Key) → ((s : ConstKey Key) → Y ≡ Const s → ⊥) → AreOfTwoKinds (Const t) Y
no_const_arg t (Const s) o = o s refl
no_const_arg t Y o = tt

-- The sort of a term is that of what it comes to.
abbrev pub AtTop : Sort → Sort → Type 0
AtTop region_sort k = k ≡ region_sort
AtTop type_sort k = k ≡ type_sort
AtTop const_sort k = k ≡ const_sort
AtTop s k = ⊥

pub at_top : (s k : Sort) → AtTop s s → Admits s k → AtTop s k
at_top region_sort region_sort t h = refl
at_top type_sort type_sort t h = refl
at_top const_sort const_sort t h = refl
at_top s k t h = first_of (search h, search t)

pub value_top : (st : Store) (s : Assign) (k : Sort) (t : Tree) → AtTop k k → IsAssignment st s → InContext st t → IsTerm k t → AtTop k (sort_of (apply s t))
unfolding InContext
value_top st s k (leaf (variable v n)) a g c h =
    let e = at_top k (var_sort v) a h in
    let f = sort_is (var_sort v) (s v n) (stands_term v (s v n) (g v n c).0) in
    through k (var_sort v) (sort_of (s v n)) a e f
  where
    through : (k j z : Sort) → AtTop k k → AtTop k j → Admits j z → AtTop k z
    through region_sort j z a e f = at_top region_sort z refl (subst (λ q. Admits q z) e f)
    through type_sort j z a e f = at_top type_sort z refl (subst (λ q. Admits q z) e f)
    through const_sort j z a e f = at_top const_sort z refl (subst (λ q. Admits q z) e f)
    through k j z a e f = absurd a
value_top st s k (leaf (bound v d i)) a g c h = at_top k _ a h
value_top st s k (leaf (placeholder v u n)) a g c h = at_top k _ a h
value_top st s k (leaf (atom x)) a g c h = at_top k _ a h
value_top st s k (leaf unknown) a g c h = at_top k _ a h
value_top st s k (node x ts) a g c h = at_top k (head_sort x) a h.0
value_top st s k t a g c h = absurd h

-- A fault that is passed on.
no_left : {Key : Type 0} (t : Tree) (x y : GenericArgKind Key) → ((c : ConstKey Key) → x ≡ Const c → ⊥) → IsNoLength t x y
no_left (node array ts) (Const c) (Const d) o = absurd (o c refl)
no_left t x y o = tt

no_right : {Key : Type 0} (t : Tree) (x y : GenericArgKind Key) → ((c : ConstKey Key) → y ≡ Const c → ⊥) → IsNoLength t x y
no_right (node array ts) (Const c) (Const d) o = absurd (o d refl)
no_right t x y o = tt

module _ {Key Id Name : Type 0} where
  no_array : (m : Meaning Key Id Name) (k : TyKind Key Id Name) (x y : GenericArgKind Key) → ((u : TyKey Key) (c : ConstKey Key) → k ≡ Array u c → ⊥) → IsNoLength (kind_tree m k) x y
  no_array m (Array u c) x y o = absurd (o u c refl)
  no_array m (Infer (TyVar v)) x y o = tt
  no_array m (Infer (IntVar v)) x y o = tt
  no_array m (Infer (FloatVar v)) x y o = tt
  no_array m (Infer (FreshTy n)) x y o = tt
  no_array m (Infer (FreshIntTy n)) x y o = tt
  no_array m (Infer (FreshFloatTy n)) x y o = tt
  no_array m k x y o = tt

  of_no_length : (f : RelateFault Key Id Name) (t : Tree) (x y : GenericArgKind Key) → IsNoLength t x y → IsPassedOn f t x y
  of_no_length (Unrelated (ConstMismatch p)) t x y h = h
  of_no_length f t x y h = tt

  pub passed_tree : (m : Meaning Key Id Name) (k : TyKind Key Id Name) (t : Tree) (x y : GenericArgKind Key) (f : RelateFault Key Id Name) → t ≡ kind_tree m k → ((u : TyKey Key) (c : ConstKey Key) → k ≡ Array u c → ⊥) → IsPassedOn f t x y
  passed_tree m k t x y f e o = of_no_length f t x y (subst (λ z. IsNoLength z x y) (sym e) (no_array m k x y o))

  pub passed_left : (f : RelateFault Key Id Name) (t : Tree) (x y : GenericArgKind Key) → ((c : ConstKey Key) → x ≡ Const c → ⊥) → IsPassedOn f t x y
  passed_left f t x y o = of_no_length f t x y (no_left t x y o)

  pub passed_right : (f : RelateFault Key Id Name) (t : Tree) (x y : GenericArgKind Key) → ((c : ConstKey Key) → y ≡ Const c → ⊥) → IsPassedOn f t x y
  passed_right f t x y o = of_no_length f t x y (no_right t x y o)

  other_error : (e : TypeError Key Id Name) (t : Tree) (x y : GenericArgKind Key) → ((p : ExpectedFound (ConstKey Key)) → e ≡ ConstMismatch p → ⊥) → IsPassedOn (Unrelated e) t x y
  other_error (ConstMismatch p) t x y o = absurd (o p refl)
  other_error e t x y o = tt

  pub passed_error : (f : RelateFault Key Id Name) (e : TypeError Key Id Name) (t : Tree) (x y : GenericArgKind Key) → f ≡ Unrelated e → ((p : ExpectedFound (ConstKey Key)) → e ≡ ConstMismatch p → ⊥) → IsPassedOn f t x y
  passed_error f e t x y q o = subst (λ z. IsPassedOn z t x y) (sym q) (other_error e t x y o)

  pub passed_fault : (f : RelateFault Key Id Name) (t : Tree) (x y : GenericArgKind Key) → ((e : TypeError Key Id Name) → f ≡ Unrelated e → ⊥) → IsPassedOn f t x y
  passed_fault (Unrelated e) t x y o = absurd (o e refl)
  passed_fault f t x y o = tt

-- A list of inputs, and the parts of a signature.
inputs_shape : (t : Tree) → IsTerm inputs_sort t → (ts : Tree) × (t ≡ node inputs ts)
inputs_shape (node h ts) f = (ts, ap (λ z. node z ts) (is_inputs h f.0))
  where
    is_inputs : (h : Head) → Admits inputs_sort (head_sort h) → h ≡ inputs
    is_inputs inputs a = refl
    is_inputs h a = absurd a
inputs_shape (leaf (variable v n)) f = absurd (no_argument inputs_sort (var_sort v) tt (var_argument v) f)
inputs_shape (leaf (bound q d i)) f = absurd (no_argument inputs_sort (bound_sort q) tt (bound_argument q) f)
inputs_shape (leaf (placeholder q u n)) f = absurd (no_argument inputs_sort (bound_sort q) tt (bound_argument q) f)
inputs_shape (leaf (atom x)) f = absurd (no_inputs x f)
  where
    no_inputs : (x : Atom) → Admits inputs_sort (atom_sort x) → ⊥
    no_inputs bool_type a = a
    no_inputs x a = a
inputs_shape (leaf unknown) f = absurd f
inputs_shape t f = absurd f

-- What the parts of a signature are.
signature_shape : (ts : Tree) → Fits (row (term_of inputs_sort ∷ term_of type_sort ∷ []) None) ts →
    (p : Tree) × (u : Tree) × (ts ≡ cons (node inputs p) (cons u nil))
signature_shape ts f =
    let (t, u, e, g, h) = two_shape inputs_sort type_sort ts f in
    let (p, q) = inputs_shape t g in
    (p, u, e ∙ ap (λ z. cons z (cons u nil)) q)

-- Which place an error of two parts names.
pub named_output : (x : Bool) (s : Safety) (w : ExternAbi) (ts us : Tree) (i : ℕ) → 0 < i →
    named_place (node (signature x s w) (cons (node inputs ts) us)) i ≡ Some (count ts)
named_output x s w ts us zero l = absurd (omega (arith, l))
named_output x s w ts us (suc i) l = refl

first_unnamed : (x : Bool) (s : Safety) (w : ExternAbi) (ts : Tree) → named_place (node (signature x s w) ts) zero ≡ None
first_unnamed x s w (cons (node inputs ts) us) = refl
first_unnamed x s w (cons (node h ts) us) = refl
first_unnamed x s w (cons t us) = refl
first_unnamed x s w t = refl

head_unnamed : (h : Head) (ts : Tree) (i : ℕ) → (head_sort h ≡ inputs_sort → ⊥) →
    (head_sort h ≡ signature_sort → i ≡ 0) → named_place (node h ts) i ≡ None
head_unnamed inputs ts i n o = absurd (n refl)
head_unnamed (signature x s w) ts i n o = ap (named_place (node (signature x s w) ts)) (o refl) ∙ first_unnamed x s w ts
head_unnamed h ts i n o = refl

unnamed : (t : Tree) (i : ℕ) → (tree_sort t ≡ inputs_sort → ⊥) → (tree_sort t ≡ signature_sort → i ≡ 0) →
    named_place t i ≡ None
unnamed (node h ts) i n o = head_unnamed h ts i n o
unnamed t i n o = refl

module _ {Key Id Name : Type 0} (m : Meaning Key Id Name) (sorted : Sorted m) where
  no_inputs : (p : Part Key Id) → ((t : TysKey Key) → p ≡ Inputs t → ⊥) → part_sort p ≡ inputs_sort → ⊥
  no_inputs (Inputs t) n e = n t refl
  no_inputs (Region r) n e = cc
  no_inputs (TyPart t) n e = cc
  no_inputs (ConstPart c) n e = cc
  no_inputs (ValTree v) n e = cc
  no_inputs (Pat o) n e = cc
  no_inputs (ValueType t) n e = cc
  no_inputs (Binder vs b) n e = cc
  no_inputs (Signature s) n e = cc
  no_inputs (Existential o) n e = cc
  no_inputs (Object k) n e = cc

  first_signature : (p : Part Key Id) (i : ℕ) → ((s : FnSig Key) → p ≡ Signature s → i ≡ 0) →
      part_sort p ≡ signature_sort → i ≡ 0
  first_signature (Signature s) i n e = n s refl
  first_signature (Inputs t) i n e = absurd (cc)
  first_signature (Region r) i n e = absurd (cc)
  first_signature (TyPart t) i n e = absurd (cc)
  first_signature (ConstPart c) i n e = absurd (cc)
  first_signature (ValTree v) i n e = absurd (cc)
  first_signature (Pat o) i n e = absurd (cc)
  first_signature (ValueType t) i n e = absurd (cc)
  first_signature (Binder vs b) i n e = absurd (cc)
  first_signature (Existential o) i n e = absurd (cc)
  first_signature (Object k) i n e = absurd (cc)

  pub part_unnamed : (p : Part Key Id) (i : ℕ) → IsTrue (known (part_tree m p)) →
      ((t : TysKey Key) → p ≡ Inputs t → ⊥) → ((s : FnSig Key) → p ≡ Signature s → i ≡ 0) →
      named_place (part_tree m p) i ≡ None
  part_unnamed p i k n o =
      let e = sort_known m sorted p k in
      unnamed (part_tree m p) i (λ q. no_inputs p n (sym e ∙ q)) (λ q. first_signature p i o (sym e ∙ q))

pub above : (i : ℕ) → (i ≡ 0 → ⊥) → 0 < i
above zero n = absurd (n refl)
above (suc i) n = omega arith

pub no_signature_inputs : {Key Id : Type 0} (g : FnSig Key) (p : Part Key Id) → p ≡ Signature g → (t : TysKey Key) →
    p ≡ Inputs t → ⊥
no_signature_inputs g p d t e = let z : signature_sort ≡ inputs_sort = ap part_sort (sym d ∙ e) in cc

-- What two terms answer where no place is named, and what where one is.
pub no_place_named : (o : Option ℕ) → ((j : ℕ) → o ≡ Some j → ⊥) → o ≡ None
no_place_named (Some j) n = absurd (n j refl)
no_place_named None n = refl

pub result_stays : {A Key Id Name : Type 0} (place : Option ℕ) (a : Result A (RelateFault Key Id Name)) →
    place ≡ None → IsResultOfPart place a a
result_stays place (Ok x) n = refl
result_stays place (Err f) n = no_place refl n

pub fault_placed : {Key Id Name : Type 0} (place : Option ℕ) (j : ℕ) (f : RelateFault Key Id Name)
    (e d : TypeError Key Id Name) → place ≡ Some j → f ≡ Unrelated e → IsPlacedOrNot j e d →
    IsFaultOfPart place f (Unrelated d)
fault_placed place j f e d n p (inl q) = placed {j = j} e d n p q refl
fault_placed place j f e d n p (inr q) = unplaced e p q.0 (ap Unrelated q.1 ∙ sym p)

-- Errors that name no place.
pub names_none : {Key Id Name : Type 0} (e : TypeError Key Id Name) →
    ((p : ExpectedFound (TyKey Key)) → e ≡ Sorts p → ⊥) →
    ((p : ExpectedFound (TyKey Key)) (j : ℕ) → e ≡ ArgumentSorts p j → ⊥) → (e ≡ Mutability → ⊥) →
    ((j : ℕ) → e ≡ ArgumentMutability j → ⊥) → NamesNoPlace e
names_none {Key} {Id} {Name} e a b c d = λ f h. none f h
  where
    none : (f : TypeError Key Id Name) → IsPlaced 0 e f → ⊥
    none f (sorts_at p q r) = a p q
    none f (argument_sorts_at p j q r) = b p j q
    none f (mutability_at q r) = c q
    none f (argument_mutability_at j q r) = d j q

-- An error of the parts at a place is the whole's where no place is named.
module _ {Key Id Name : Type 0} (e : TypeError Key Id Name) where
  pub term_handed : (s : Sort) (h : Head) (ts : Tree) (i : ℕ) (t u : Tree) → IsTerm s (node h ts) →
      IsByParts (node h ts) → named_place (node h ts) i ≡ None → IsHandedOn e h i t u
  term_handed s pattern_type ts i t u f o n = tt
  term_handed s range_pattern ts i t u f o n = tt
  term_handed s or_pattern ts i t u f o n = tt
  term_handed s fn_ptr ts i t u f o n = tt
  term_handed s unsafe_binder ts i t u f o n = tt
  term_handed s dynamic ts i t u f o n = tt
  term_handed s object ts i t u f o n = tt
  term_handed s (signature x z k) ts zero t u f o n = tt
  term_handed s (signature x z k) ts (suc i) t u f o n =
      let (p, w, q) = signature_shape ts f.1 in
      let named : Some (count p) ≡ None = subst (λ y. named_place (node (signature x z k) y) (suc i) ≡ None) q n in
      absurd (cc)
  term_handed s inputs ts i t u f o n = absurd (cc)
  term_handed s (existential_trait d) ts i t u f o n = tt
  term_handed s (existential_projection d) ts i t u f o n = tt
  term_handed s h ts i t u f o n = absurd o

  pub term_unplaced : (h : Head) (ts : Tree) (i : ℕ) (t u : Tree) → IsByParts (node h ts) → NamesNoPlace e →
      IsHandedOn e h i t u
  term_unplaced pattern_type ts i t u o n = tt
  term_unplaced range_pattern ts i t u o n = tt
  term_unplaced or_pattern ts i t u o n = tt
  term_unplaced fn_ptr ts i t u o n = tt
  term_unplaced unsafe_binder ts i t u o n = tt
  term_unplaced dynamic ts i t u o n = tt
  term_unplaced object ts i t u o n = tt
  term_unplaced (signature x s k) ts zero t u o n = tt
  term_unplaced (signature x s k) ts (suc i) t u o n = n
  term_unplaced inputs ts i t u o n = n
  term_unplaced (existential_trait d) ts i t u o n = tt
  term_unplaced (existential_projection d) ts i t u o n = tt
  term_unplaced h ts i t u o n = absurd o

-- At a signature's output both have as many inputs.
abbrev pub HaveAsManyInputs : Tree → Tree → ℕ → Type 0
HaveAsManyInputs (node (signature x s k) (cons (node inputs p) us)) (node (signature y t l) (cons (node inputs q) ws)) (suc i) =
    count p ≡ count q
HaveAsManyInputs a b i = Unit {0}

module _ {Key Id Name : Type 0} (m : Meaning Key Id Name) (set : Settings) (c : Items) (st : Store) (v : Variance)
  where
    output_error : {x : Bool} {s : Safety} {w : ExternAbi} (p q t u a b : Tree) →
        a ≡ node (signature x s w) (cons (node inputs p) (cons t nil)) →
        b ≡ node (signature x s w) (cons (node inputs q) (cons u nil)) → (i j : ℕ) → i < 2 →
        HaveAsManyInputs (node (signature x s w) (cons (node inputs p) (cons t nil)))
        (node (signature x s w) (cons (node inputs q) (cons u nil))) i →
        named_place (node (signature x s w) (cons (node inputs p) (cons t nil))) i ≡ Some j →
        (e d : TypeError Key Id Name) → IsPlaced j e d →
        ErrorOf m set c st (part_at c (signature x s w) i v) e (nth i (cons (node inputs p) (cons t nil)))
        (nth i (cons (node inputs q) (cons u nil))) → ErrorByForms m set c st v d a b
    output_error p q t u a b da db zero j l n named e d is h = absurd (cc)
    output_error p q t u a b da db (suc zero) j l n named e d is h =
        let same : j ≡ count p = cc in
        of_outputs da db n h (subst (λ z. IsPlaced z e d) same is)
    output_error p q t u a b da db (suc (suc i)) j l n named e d is h = absurd (omega (arith, l))

    placed_error : (k l : Sort) (a b : Tree) (i j : ℕ) (h : Head) (ts us : Tree) (e d : TypeError Key Id Name) →
        IsByParts (node h ts) → IsTerm k (node h ts) → IsTerm l (node h us) → a ≡ node h ts → b ≡ node h us →
        count ts ≡ count us → i < count ts → HaveAsManyInputs (node h ts) (node h us) i →
        named_place (node h ts) i ≡ Some j → IsPlaced j e d →
        ErrorOf m set c st (part_at c h i v) e (nth i ts) (nth i us) → ErrorByForms m set c st v d a b
    placed_error k l a b i j pattern_type ts us e d o f g da db n lt many named is z = absurd (cc)
    placed_error k l a b i j range_pattern ts us e d o f g da db n lt many named is z = absurd (cc)
    placed_error k l a b i j or_pattern ts us e d o f g da db n lt many named is z = absurd (cc)
    placed_error k l a b i j fn_ptr ts us e d o f g da db n lt many named is z = absurd (cc)
    placed_error k l a b i j unsafe_binder ts us e d o f g da db n lt many named is z = absurd (cc)
    placed_error k l a b i j dynamic ts us e d o f g da db n lt many named is z = absurd (cc)
    placed_error k l a b i j object ts us e d o f g da db n lt many named is z = absurd (cc)
    placed_error k l a b i j (signature x s w) ts us e d o f g da db n lt many named is z =
        let (p, t, q) = signature_shape ts f.1 in
        let (r, u, y) = signature_shape us g.1 in
        output_error p r t u a b (da ∙ ap (λ z. node (signature x s w) z) q) (db ∙ ap (λ z. node (signature x s w) z) y) i j
        (subst (λ z. i < count z) q lt)
        (subst₂ (λ t u. HaveAsManyInputs (node (signature x s w) t) (node (signature x s w) u) i) q y many)
        (subst (λ z. named_place (node (signature x s w) z) i ≡ Some j) q named) e d is
        (subst₂ (λ t u. ErrorOf m set c st (part_at c (signature x s w) i v) e (nth i t) (nth i u)) q y z)
    placed_error k l a b i j inputs ts us e d o f g da db n lt many named is z =
        let same : j ≡ i = cc in
        of_inputs i da db n lt z (subst (λ y. IsPlaced y e d) same is)
    placed_error k l a b i j (existential_trait x) ts us e d o f g da db n lt many named is z = absurd (cc)
    placed_error k l a b i j (existential_projection x) ts us e d o f g da db n lt many named is z = absurd (cc)
    placed_error k l a b i j h ts us e d o f g da db n lt many named is z = absurd o

    module _ (k l : Sort) (a b : Tree) (i : ℕ) (f : IsTerm k a) (g : IsTerm l b) (o : IsByParts a)
        (one : AreOfOneForm a b) (lx : i < count (direct_parts a)) (x y : Tree) (ex : x ≡ nth i (direct_parts a))
        (ey : y ≡ nth i (direct_parts b)) (many : HaveAsManyInputs a b i) where
      none : {x : Leaf} → a ≡ leaf x → ⊥
      none d = let z : count (direct_parts a) ≡ 0 = ap (λ z. count (direct_parts z)) d in omega (arith, z, lx)

      at_parts : (e : TypeError Key Id Name) (h : Head) (ts us : Tree) → a ≡ node h ts → b ≡ node h us →
          ErrorOf m set c st (part_at c (head_of a) i v) e x y →
          ErrorOf m set c st (part_at c h i v) e (nth i ts) (nth i us)
      at_parts e h ts us d w z =
          subst₂ (ErrorOf m set c st (part_at c h i v) e) (ex ∙ ap (λ z. nth i (direct_parts z)) d)
          (ey ∙ ap (λ z. nth i (direct_parts z)) w)
          (subst (λ z. ErrorOf m set c st (part_at c (head_of z) i v) e x y) d z)

      hand_on : (e : TypeError Key Id Name) → ((h : Head) (ts us : Tree) → a ≡ node h ts →
          IsHandedOn e h i (nth i ts) (nth i us)) → ErrorOf m set c st (part_at c (head_of a) i v) e x y →
          AreOfOneForm a b → ErrorByForms m set c st v e a b
      hand_on e n z (over_parts {h} {ts} {us} d w q) = of_parts i d w q (subst (λ z. i < count (direct_parts z)) d lx)
          (n h ts us d) (at_parts e h ts us d w z)
      hand_on e n z (over_aliases d w q) = absurd (subst IsByParts d o)
      hand_on e n z (one_leaf d w) = absurd (none d)
      hand_on e n z (parameters d w q) = absurd (none d)

      place : (j : ℕ) (e d : TypeError Key Id Name) → named_place a i ≡ Some j → IsPlaced j e d →
          ErrorOf m set c st (part_at c (head_of a) i v) e x y → AreOfOneForm a b → ErrorByForms m set c st v d a b
      place j e d n is z (over_parts {h} {ts} {us} p w q) = placed_error k l a b i j h ts us e d (subst IsByParts p o)
          (subst (IsTerm k) p f) (subst (IsTerm l) w g) p w q (subst (λ z. i < count (direct_parts z)) p lx)
          (subst₂ (λ t u. HaveAsManyInputs t u i) p w many) (subst (λ t. named_place t i ≡ Some j) p n) is
          (at_parts e h ts us p w z)
      place j e d n is z (over_aliases p w q) = absurd (subst IsByParts p o)
      place j e d n is z (one_leaf p w) = absurd (none p)
      place j e d n is z (parameters p w q) = absurd (none p)

      -- What two terms say where their parts at a place are refused.
      pub part_complains : (e : TypeError Key Id Name) (r : RelateFault Key Id Name) →
          IsFaultOfPart (named_place a i) (Unrelated e) r → ErrorOf m set c st (part_at c (head_of a) i v) e x y →
          (d : TypeError Key Id Name) × (r ≡ Unrelated d) × ErrorByForms m set c st v d a b
      part_complains e r (no_place is n) h = (
        e,
        is,
        hand_on e (λ p ts us d. term_handed e k p ts i (nth i ts) (nth i us)
            (subst (IsTerm k) d f) (subst IsByParts d o) (subst (λ t. named_place t i ≡ None) d n)) h one,
      )
      part_complains e r (no_error is n) h = absurd (n e refl)
      part_complains e r (unplaced d p n is) h =
          let same : d ≡ e = cc in (
            e,
            is,
            hand_on e (λ q ts us w. term_unplaced e q ts i (nth i ts) (nth i us) (subst IsByParts w o)
                (subst (λ z. NamesNoPlace z) same n)) h one,
          )
      part_complains e r (placed {j} z d n p q is) h =
          let same : z ≡ e = cc in
          (d, is, place j e d n (subst (λ z. IsPlaced j z d) same q) h one)

placed_known : {Key Id Name : Type 0} (m : Meaning Key Id Name) (j : ℕ) (e d : TypeError Key Id Name) → IsPlaced j e d →
    KnowsError m e → KnowsError m d
placed_known m j e d (sorts_at p q is) k =
    let z : KnowsError m (Sorts p) = subst (KnowsError m) q k in subst (KnowsError m) (sym is) z
placed_known m j e d (argument_sorts_at p i q is) k =
    let z : KnowsError m (ArgumentSorts p i) = subst (KnowsError m) q k in subst (KnowsError m) (sym is) z
placed_known m j e d (mutability_at q is) k = subst (KnowsError m) (sym is) tt
placed_known m j e d (argument_mutability_at i q is) k = subst (KnowsError m) (sym is) tt

module _ {Key Id Name : Type 0} (place : Option ℕ) (f r : RelateFault Key Id Name) where
  -- A fault that is no error stays, and an error is one still.
  pub same_part_fault : IsFaultOfPart place f r → ((e : TypeError Key Id Name) → f ≡ Unrelated e → ⊥) → r ≡ f
  same_part_fault (no_place is n) o = is
  same_part_fault (no_error is n) o = is
  same_part_fault (unplaced e p n is) o = is
  same_part_fault (placed e d n p q is) o = absurd (o e p)

  pub part_still_unrelated : (e : TypeError Key Id Name) → f ≡ Unrelated e → IsFaultOfPart place f r →
      (d : TypeError Key Id Name) × (r ≡ Unrelated d)
  part_still_unrelated e p (no_place is n) = (e, is ∙ p)
  part_still_unrelated e p (no_error is n) = (e, is ∙ p)
  part_still_unrelated e p (unplaced d q n is) = (e, is ∙ p)
  part_still_unrelated e p (placed z d n q w is) = (d, is)

  -- It names what is known.
  pub part_fault_known : (m : Meaning Key Id Name) → IsFaultOfPart place f r → KnowsFault m f → KnowsFault m r
  part_fault_known m (no_place is n) k = subst (KnowsFault m) (sym is) k
  part_fault_known m (no_error is n) k = subst (KnowsFault m) (sym is) k
  part_fault_known m (unplaced e p n is) k = subst (KnowsFault m) (sym is) k
  part_fault_known m (placed {j} e d n p q is) k =
      let z : KnowsError m e = subst (KnowsFault m) p k in subst (KnowsFault m) (sym is) (placed_known m j e d q z)
