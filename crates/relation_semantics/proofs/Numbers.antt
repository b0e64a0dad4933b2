-- Integer and float variables: bound to a type of theirs, or met with another type.
use Rattle.std.proofs.Common.{◌≡◌, ◌≢◌, ℕ, ◌*◌, ◌≤◌, refl, sym, ap, ◌∙◌, arith, inl, inr, subst, subst₂, le_of_eq}
use Rattle.term_enums.specs.declared.Variance.{Variance}
use Rattle.term_enums.specs.declared.Variance.TheVariants.{Bivariant}
use Rattle.relation_terms.specs.declared.terms.keys.TyKey.{TyKey}
use Rattle.relation_terms.specs.Heads.{BoundKind, bound_kind, region_kind, type_kind, const_kind, type_sort, atom_sort, bound_sort, head_sort}
use Rattle.relation_terms.specs.Heads.{VarKind, type_var, int_var, float_var, const_var, region_var, variable, bound}
use Rattle.relation_terms.specs.Heads.{placeholder, atom, unknown, Atom, early_region, type_param, const_param, int_type}
use Rattle.relation_terms.specs.Heads.{uint_type, float_type}
use Rattle.relation_terms.specs.Trees.{Tree, leaf, node, bind, nil, cons, Assign, apply, IsTerm, Leaves, Occurs}
use Rattle.relation_terms.specs.Erasure.{erase, erase_atom}
use Rattle.relation_terms.specs.Meaning.{Meaning}
use Rattle.relation_folds.specs.declared.error.TypeError.TheVariants.{Sorts}
use Rattle.relation_semantics.specs.Relation.{Interpretation, Items, IsValueLeaf, IsError, StaysWithin}
use Rattle.relation_semantics.specs.Stores.{Store, bound_to, entry_term, IsMade, IsAssignment, IsIntegerAtom, IsFloatAtom}
use Rattle.relation_semantics.specs.Stores.{IsIntegerTerm, IsFloatTerm, MayStandFor, InContext, IsSound, Satisfies, resolved}
use Rattle.relation_semantics.specs.Stores.{weight, counts_bound}
use Rattle.relation_semantics.specs.FirstOrder.{IsFirstOrder, IsFirstOrderStore}
use Rattle.relation_semantics.specs.Steps.{InstantiatesNumber, IsNumberFor, HasNoBinder, StaysFull, IsNumberKind}
use Rattle.relation_semantics.specs.Measures.{Goes}
use Rattle.relation_semantics.specs.Outcomes.{Exact, NoEqualTerms, NoUnifier}
use Rattle.relation_semantics.specs.Settings.{Settings}
use Rattle.relation_semantics.specs.Errors.{by_forms, ErrorOf, IsDeferred, HaveNoError, AreAlike, AreBindable, IsVariableFor, of_forms, sorts}
use Rattle.relation_semantics.specs.Parts.{IsRigid}
use Rattle.relation_terms.proofs.Members.{type_only}
use Rattle.relation_semantics.proofs.Full.{full_by, written_plain}
use Rattle.relation_semantics.proofs.Standing.{itself_stands}
use Rattle.relation_semantics.proofs.Written.{is_later, equal, weight_after, kinds_stand, others}
use Rattle.relation_semantics.proofs.StoreCalls.{numbers_are_exact, resolved_stands, number_value}
use Rattle.relation_semantics.proofs.Roots.{written_first_order}
use Rattle.relation_semantics.specs.OneUniverse.{KeepsUniverse}
use Rattle.relation_semantics.proofs.OneUniverse.{written_keeps}

-- The type of a variable of integers or floats is a form without parts, and itself whatever is assigned and erased.
abbrev pub IsAtomFor : VarKind → Tree → Type 0
IsAtomFor k t = (x : Atom) × (t ≡ leaf (atom x)) × IsNumberFor k (leaf (atom x))

number_kind : (k : VarKind) (t : Tree) → IsNumberFor k t → IsNumberKind k
number_kind int_var t h = tt
number_kind float_var t h = tt
number_kind k t h = h

number_atom : (k : VarKind) (t : Tree) → IsNumberFor k t → IsAtomFor k t
number_atom int_var (leaf (atom x)) h = (x, refl, h)
number_atom float_var (leaf (atom x)) h = (x, refl, h)
number_atom k t h = absurd h

integer_erased : (x : Atom) → IsIntegerAtom x → erase_atom x ≡ x
integer_erased (int_type w) h = refl
integer_erased (uint_type w) h = refl
integer_erased x h = absurd h

float_erased : (x : Atom) → IsFloatAtom x → erase_atom x ≡ x
float_erased (float_type w) h = refl
float_erased x h = absurd h

number_erased : (k : VarKind) (x : Atom) → IsNumberFor k (leaf (atom x)) → erase (leaf (atom x)) ≡ leaf (atom x)
number_erased int_var x h = ap (λ z. leaf (atom z)) (integer_erased x h)
number_erased float_var x h = ap (λ z. leaf (atom z)) (float_erased x h)
number_erased k x h = absurd h

number_first_order : (k : VarKind) (t : Tree) → IsNumberFor k t → IsFirstOrder t
number_first_order int_var (leaf (atom (int_type w))) h = tt
number_first_order int_var (leaf (atom (uint_type w))) h = tt
number_first_order float_var (leaf (atom (float_type w))) h = tt
number_first_order k t h = absurd h

atom_weight : (st : Store) (x : Atom) → weight st (leaf (atom x)) ≡ 1
unfolding weight
atom_weight st x = refl

-- A number variable was bound to a type of its kind.
module _ (before after : Store) (k : VarKind) (n : ℕ) (t : Tree) (q : InstantiatesNumber before after k n t)
    (g : IsSound before) where
  is_atom : IsAtomFor k t
  is_atom = number_atom k t q.fits

  other_kind : (j : VarKind) → (IsNumberKind j → ⊥) → j ≢ k
  other_kind j o e = o (subst IsNumberKind (sym e) (number_kind k t q.fits))

  absent : Occurs k n (apply (resolved before) t) → ⊥
  absent o = no_variable is_atom.0 (subst (λ z. Occurs k n (apply (resolved before) z)) is_atom.1 o)
    where
      no_variable : (x : Atom) → leaf (atom x) ≡ leaf (variable k n) → ⊥
      no_variable x p = cc

  one : weight before t ≡ 1
  one = subst (λ z. weight before z ≡ 1) (sym is_atom.1) (atom_weight before is_atom.0)

  -- It costs nothing, and sizes stay.
  pub number_goes : (N : ℕ) → Goes N before after
  number_goes N = record {
    later = is_later before after k n (bound_to t) t q.writes refl (λ j i. le_of_eq (q.same_universes j i));
    made = λ j h. q.writes.as_many j;
    spent = 0;
    counts = let b = q.same_budget in omega arith;
    binds = (
        let a = kinds_stand before after k n (bound_to t) t q.writes refl counts_bound type_var (other_kind type_var (λ z. z)) in
        let b = kinds_stand before after k n (bound_to t) t q.writes refl counts_bound const_var (other_kind const_var (λ z. z)) in
        omega (arith, a, b));
    grows = λ m u above below.
        let h : weight after u ≤ weight before u * 1 = subst (λ z. weight after u ≤ weight before u * z) one
        (weight_after before after k n (bound_to t) t q.writes refl g absent u) in omega arith;
  }

  -- No binder stands in such a type.
  pub number_full : StaysFull before after
  number_full = full_by (number_goes 0) q.writes.as_many (written_plain q.writes (λ u e. subst HasNoBinder (same u e) tt))
    where
      same : (u : Tree) → bound_to t ≡ bound_to u → leaf (atom is_atom.0) ≡ u
      same u e = let i = is_atom.1 in cc (e, i)

  pub number_equal : (w : Interpretation) (s : Assign) → Satisfies w after s → s k n ≡ apply s t
  number_equal w s sat = equal before after k n (bound_to t) t q.writes refl w s sat

  pub number_keep : (w : Interpretation) (s : Assign) → Satisfies w before s → s k n ≡ apply s t → Satisfies w after s
  number_keep w s sat e = ((numbers_are_exact before after k n t q).0 w s).1 (sat, e ∙ number_value s k t q.fits)

  -- Types and constants stay in their universe.
  pub number_universe : KeepsUniverse before after
  number_universe = written_keeps before after (number_goes 0).later q.writes.as_many q.same_universes

  -- It is exact.
  pub number_exactly : IsFirstOrderStore before → IsFirstOrderStore after × Exact before after (leaf (variable k n)) t
  number_exactly h = (
    written_first_order before after k n t (ap (entry_term k) q.writes.written)
        (others before after k n (bound_to t) t q.writes refl) (number_first_order k t q.fits) h,
    (numbers_are_exact before after k n t q).1,
  )

-- The value of a number variable.
integer_value : (t : Tree) → IsIntegerTerm t → Leaves IsValueLeaf t → IsAtomFor int_var t
integer_value (leaf (variable int_var n)) h v = absurd v
integer_value (leaf (atom x)) h v = (x, refl, h)
integer_value t h v = absurd h

float_value : (t : Tree) → IsFloatTerm t → Leaves IsValueLeaf t → IsAtomFor float_var t
float_value (leaf (variable float_var n)) h v = absurd v
float_value (leaf (atom x)) h v = (x, refl, h)
float_value t h v = absurd h

value_of : (st : Store) (s : Assign) → IsAssignment st s → (k : VarKind) → IsNumberKind k → (n : ℕ) → IsMade st k n →
    IsAtomFor k (s k n)
value_of st s a int_var i n m = let z = a int_var n m in integer_value (s int_var n) z.0 z.1
value_of st s a float_var i n m = let z = a float_var n m in float_value (s float_var n) z.0 z.1
value_of st s a k i n m = absurd i

-- Only integers have integers' values, and floats floats'.
no_float : (x y : Atom) → IsIntegerAtom x → IsFloatAtom y → x ≡ y → ⊥
no_float (int_type w) (float_type u) h k e = cc
no_float (uint_type w) (float_type u) h k e = cc
no_float (int_type w) y h k e = k
no_float (uint_type w) y h k e = k
no_float x y h k e = h

integer_before : (x : Atom) → IsIntegerAtom (erase_atom x) → IsIntegerAtom x
integer_before (early_region i n) h = h
integer_before (type_param i n) h = h
integer_before (const_param i n) h = h
integer_before x h = h

float_before : (x : Atom) → IsFloatAtom (erase_atom x) → IsFloatAtom x
float_before (early_region i n) h = h
float_before (type_param i n) h = h
float_before (const_param i n) h = h
float_before x h = h

pub made_of_leaf : (st : Store) (k : VarKind) (n : ℕ) → InContext st (leaf (variable k n)) → IsMade st k n
unfolding InContext
made_of_leaf st k n h = h

module _ (st : Store) (s : Assign) (a : IsAssignment st s) (x : Atom) where
  erased_value : (k : VarKind) → IsNumberKind k → (n : ℕ) → InContext st (leaf (variable k n)) →
      erase (s k n) ≡ leaf (atom x) → (y : Atom) × IsNumberFor k (leaf (atom y)) × (x ≡ y)
  erased_value k i n h e =
      let z = value_of st s a k i n (made_of_leaf st k n h) in
      let p : leaf (atom x) ≡ leaf (atom z.0) = sym e ∙ ap erase z.1 ∙ number_erased k z.0 z.2 in
      (z.0, z.2, (let r : x ≡ z.0 = cc in r))

  -- A variable that has the value of a number.
  value_leaf : (k : VarKind) → IsNumberKind k → (j : VarKind) (m : ℕ) → IsTerm type_sort (leaf (variable j m)) →
      ((n : ℕ) → leaf (variable j m) ≢ leaf (variable type_var n)) → InContext st (leaf (variable j m)) →
      IsNumberFor k (leaf (atom x)) → erase (s j m) ≡ leaf (atom x) → MayStandFor k (leaf (variable j m))
  value_leaf k i type_var m f o h v e = absurd (o m refl)
  value_leaf k i const_var m f o h v e = absurd f
  value_leaf k i region_var m f o h v e = absurd f
  value_leaf int_var i int_var m f o h v e = tt
  value_leaf float_var i float_var m f o h v e = tt
  value_leaf int_var i float_var m f o h v e =
      let z = erased_value float_var tt m h e in absurd (no_float x z.0 v z.1 z.2)
  value_leaf float_var i int_var m f o h v e =
      let z = erased_value int_var tt m h e in absurd (no_float z.0 x z.1 v (sym z.2))
  value_leaf k i j m f o h v e = absurd i

  value_atom : (k : VarKind) (y : Atom) → IsNumberFor k (leaf (atom (erase_atom y))) → MayStandFor k (leaf (atom y))
  value_atom int_var y h = integer_before y h
  value_atom float_var y h = float_before y h
  value_atom k y h = absurd h

  no_placeholder : (q : BoundKind) (u n : ℕ) → IsTerm type_sort (leaf (placeholder q u n)) →
      erase (leaf (placeholder q u n)) ≡ leaf (atom x) → ⊥
  no_placeholder (bound_kind region_kind m) u n f e = f
  no_placeholder (bound_kind type_kind m) u n f e = cc
  no_placeholder (bound_kind const_kind m) u n f e = f

  no_bound : (q : BoundKind) (d i : ℕ) → IsTerm type_sort (leaf (bound q d i)) →
      erase (leaf (bound q d i)) ≡ leaf (atom x) → ⊥
  no_bound (bound_kind region_kind m) d i f e = f
  no_bound (bound_kind type_kind m) d i f e = cc
  no_bound (bound_kind const_kind m) d i f e = f

  -- A type that has it.
  value_type : (k : VarKind) → IsNumberKind k → (t : Tree) → IsTerm type_sort t →
      ((n : ℕ) → t ≢ leaf (variable type_var n)) → InContext st t → IsNumberFor k (leaf (atom x)) →
      erase (apply s t) ≡ leaf (atom x) → MayStandFor k t
  value_type k i (leaf (variable j m)) f o h v e = value_leaf k i j m f o h v e
  value_type k i (leaf (bound q d j)) f o h v e = absurd (no_bound q d j f e)
  value_type k i (leaf (placeholder q u n)) f o h v e = absurd (no_placeholder q u n f e)
  value_type k i (leaf (atom y)) f o h v e =
      value_atom k y (let r : x ≡ erase_atom y = cc in subst (λ z. IsNumberFor k (leaf (atom z))) r v)
  value_type k i (leaf unknown) f o h v e = absurd f
  value_type k i (node b ts) f o h v e = absurd (cc)
  value_type k i (bind ks t) f o h v e = absurd f
  value_type k i nil f o h v e = absurd f
  value_type k i (cons t ts) f o h v e = absurd f

-- A variable is of one form with itself alone.
variable_alone : (k : VarKind) (n : ℕ) (t : Tree) → AreAlike (leaf (variable k n)) t → leaf (variable k n) ≡ t
variable_alone k n (leaf (atom x)) a = absurd (cc)
variable_alone k n (leaf (variable j m)) a = a
variable_alone k n (leaf (bound q d i)) a = a
variable_alone k n (leaf (placeholder q u i)) a = a
variable_alone k n (leaf unknown) a = a
variable_alone k n (node h ts) a = absurd (cc)
variable_alone k n (bind ks t) a = absurd (cc)
variable_alone k n nil a = absurd (cc)
variable_alone k n (cons t ts) a = absurd (cc)

-- It may not stand for a variable that is none of its kind, nor of types.
kinds_apart : (k : VarKind) → IsNumberKind k → (n : ℕ) (j : VarKind) (m : ℕ) → IsTerm type_sort (leaf (variable j m)) →
    ((p : ℕ) → leaf (variable j m) ≢ leaf (variable type_var p)) → (MayStandFor k (leaf (variable j m)) → ⊥) →
    MayStandFor j (leaf (variable k n)) → ⊥
kinds_apart k i n type_var m f o differs v = o m refl
kinds_apart k i n const_var m f o differs v = f
kinds_apart k i n region_var m f o differs v = f
kinds_apart int_var i n int_var m f o differs v = differs tt
kinds_apart float_var i n float_var m f o differs v = differs tt
kinds_apart int_var i n float_var m f o differs v = v
kinds_apart float_var i n int_var m f o differs v = v
kinds_apart k i n j m f o differs v = i

variable_for : (k : VarKind) → IsNumberKind k → (n : ℕ) (t : Tree) → IsTerm type_sort t →
    ((m : ℕ) → t ≢ leaf (variable type_var m)) → (MayStandFor k t → ⊥) → IsVariableFor t (leaf (variable k n)) → ⊥
variable_for k i n (leaf (variable j m)) f o differs v = kinds_apart k i n j m f o differs v
variable_for k i n (leaf (bound q d j)) f o differs v = v
variable_for k i n (leaf (placeholder q u m)) f o differs v = v
variable_for k i n (leaf (atom x)) f o differs v = v
variable_for k i n (leaf unknown) f o differs v = v
variable_for k i n (node b ts) f o differs v = v
variable_for k i n (bind ks t) f o differs v = v
variable_for k i n nil f o differs v = v
variable_for k i n (cons t ts) f o differs v = v

-- A number variable and a type that may not stand for it, and is no type variable.
module _ (st : Store) (k : VarKind) (i : IsNumberKind k) (n : ℕ) (made : IsMade st k n) (t : Tree) (f : IsTerm type_sort t)
    (o : (m : ℕ) → t ≢ leaf (variable type_var m)) (h : InContext st t) (differs : MayStandFor k t → ⊥) where
  never_alike : (s : Assign) → IsAssignment st s → erase (s k n) ≡ erase (apply s t) → ⊥
  never_alike s a e =
      let z = value_of st s a k i n made in
      differs (value_type st s a z.0 k i t f o h z.2 (sym e ∙ ap erase z.1 ∙ number_erased k z.0 z.2))

  -- No assignment makes them one.
  pub number_apart : NoEqualTerms st (leaf (variable k n)) t
  number_apart w s sat e = never_alike s sat.assigns (ap erase e)

  pub number_no_unifier : NoUnifier st (leaf (variable k n)) t
  number_no_unifier s sol e = never_alike s sol.0 e

  not_alike : AreAlike (leaf (variable k n)) t → ⊥
  not_alike a = differs (subst (MayStandFor k) (variable_alone k n t a) (itself_stands k n))

  -- The error that comes of them.
  module _ {Key Id Name : Type 0} (m : Meaning Key Id Name) (j : Settings) (w : Items) (x y : TyKey Key) (v : Variance)
      (decides : v ≢ Bivariant) where
    pub number_error : (IsDeferred j (m.ty x) (m.ty y) → ⊥) → (IsError t → ⊥) → m.ty x ≡ leaf (variable k n) →
        m.ty y ≡ t → ErrorOf m j w st v (Sorts (record { expected = x; found = y })) (m.ty x) (m.ty y)
    number_error left clean p q = by_forms left
        (of_forms x y decides refl refl bindable (sorts no_error (λ a. not_alike (subst₂ AreAlike p q a))))
      where
        bindable : AreBindable (m.ty x) (m.ty y) → ⊥
        bindable (inl z) = differs (subst (MayStandFor k) q (subst (λ r. IsVariableFor r (m.ty y)) p z))
        bindable (inr z) = variable_for k i n t f o differs (subst₂ IsVariableFor q p z)

        no_error : HaveNoError (m.ty x) (m.ty y)
        no_error = (
          λ z. subst IsError p z,
          λ z. clean (subst IsError q z),
        )

    pub number_error_back : (IsDeferred j (m.ty x) (m.ty y) → ⊥) → (IsError t → ⊥) → m.ty x ≡ t →
        m.ty y ≡ leaf (variable k n) → ErrorOf m j w st v (Sorts (record { expected = x; found = y })) (m.ty x) (m.ty y)
    number_error_back left clean p q = by_forms left
        (of_forms x y decides refl refl bindable (sorts no_error (λ a. not_alike (sym (subst₂ AreAlike p q a)))))
      where
        bindable : AreBindable (m.ty x) (m.ty y) → ⊥
        bindable (inl z) = variable_for k i n t f o differs (subst₂ IsVariableFor p q z)
        bindable (inr z) = differs (subst (MayStandFor k) p (subst (λ r. IsVariableFor r (m.ty x)) q z))

        no_error : HaveNoError (m.ty x) (m.ty y)
        no_error = (
          λ z. clean (subst IsError p z),
          λ z. subst IsError q z,
        )

-- What is no type of numbers of a kind and no variable of it may not stand for one.
pub no_number : (k : VarKind) (t : Tree) → IsNumberKind k → (IsNumberFor k t → ⊥) → ((n : ℕ) → t ≢ leaf (variable k n)) →
    MayStandFor k t → ⊥
no_number int_var (leaf (variable int_var n)) i a o h = o n refl
no_number int_var (leaf (atom x)) i a o h = a h
no_number int_var t i a o h = h
no_number float_var (leaf (variable float_var n)) i a o h = o n refl
no_number float_var (leaf (atom x)) i a o h = a h
no_number float_var t i a o h = h
no_number k t i a o h = i

pub other_number : (j k : VarKind) (n : ℕ) → IsNumberKind j → IsNumberKind k → j ≢ k → MayStandFor k (leaf (variable j n)) → ⊥
other_number j type_var n i a o h = a
other_number j const_var n i a o h = a
other_number j region_var n i a o h = a
other_number int_var int_var n i a o h = o refl
other_number float_var float_var n i a o h = o refl
other_number int_var float_var n i a o h = h
other_number float_var int_var n i a o h = h
other_number j k n i a o h = i

pub number_no_region : (k : VarKind) → IsNumberKind k → k ≢ region_var
number_no_region int_var i e = cc
number_no_region float_var i e = cc
number_no_region k i e = i

pub number_no_type : (k : VarKind) (n m : ℕ) → IsNumberKind k → leaf (variable k n) ≢ leaf (variable type_var m)
number_no_type int_var n m i e = cc
number_no_type float_var n m i e = cc
number_no_type k n m i e = i

-- A type that is no type variable comes to none.
number_resolved : (k : VarKind) (t : Tree) (n : ℕ) → IsNumberKind k → MayStandFor k t → t ≢ leaf (variable type_var n)
number_resolved int_var t n i h e = subst IsIntegerTerm e h
number_resolved float_var t n i h e = subst IsFloatTerm e h
number_resolved k t n i h e = i

pub no_type_variable : (st : Store) → IsSound st → (t : Tree) → IsTerm type_sort t →
    ((m : ℕ) → t ≢ leaf (variable type_var m)) → (n : ℕ) → apply (resolved st) t ≢ leaf (variable type_var n)
no_type_variable st g (leaf (variable type_var m)) f o n e = o m refl
no_type_variable st g (leaf (variable int_var m)) f o n e =
    number_resolved int_var (resolved st int_var m) n tt (resolved_stands st g int_var m) e
no_type_variable st g (leaf (variable float_var m)) f o n e =
    number_resolved float_var (resolved st float_var m) n tt (resolved_stands st g float_var m) e
no_type_variable st g (leaf (variable const_var m)) f o n e = f
no_type_variable st g (leaf (variable region_var m)) f o n e = f
no_type_variable st g (leaf (bound q d i)) f o n e = cc
no_type_variable st g (leaf (placeholder q u i)) f o n e = cc
no_type_variable st g (leaf (atom x)) f o n e = cc
no_type_variable st g (leaf unknown) f o n e = cc
no_type_variable st g (node h ts) f o n e = cc
no_type_variable st g (bind ks t) f o n e = f
no_type_variable st g nil f o n e = f
no_type_variable st g (cons t ts) f o n e = f

-- A type that is no variable and no bound one is of a form.
pub type_is_formed : (t : Tree) → IsTerm type_sort t → StaysWithin 0 t →
    ((k : VarKind) (n : ℕ) → t ≢ leaf (variable k n)) → IsRigid t
type_is_formed (leaf (variable k n)) s w o = absurd (o k n refl)
type_is_formed (leaf (bound k d i)) s w o = absurd (omega (arith, w))
type_is_formed (leaf (placeholder k u n)) s w o = type_only (bound_sort k) s
type_is_formed (leaf (atom x)) s w o = type_only (atom_sort x) s
type_is_formed (leaf unknown) s w o = absurd s
type_is_formed (node h ts) s w o = type_only (head_sort h) s.0
type_is_formed (bind ks t) s w o = absurd s
type_is_formed nil s w o = absurd s
type_is_formed (cons t ts) s w o = absurd s
