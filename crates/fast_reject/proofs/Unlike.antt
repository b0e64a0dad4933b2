-- Which types are of unlike forms.
use Rattle.std.proofs.Common.{◌≡◌, IsTrue, refl, sym, ap, ◌∙◌, subst}
use Rattle.std.proofs.lemmas.Bool.{false≢true}
use Rattle.relation_terms.specs.Meaning.{Meaning, kind_tree}
use Rattle.term_enums.specs.declared.Mutability.{Mutability}
use Rattle.term_enums.specs.declared.Mutability.TheVariants.{Not, Mut}
use Rattle.term_enums.specs.declared.FnHeader.{FnHeader}
use Rattle.relation_terms.specs.declared.terms.fn_sig.FnSigTys.{FnSigTys}
use Rattle.relation_terms.specs.declared.terms.binder.Binder.{Binder}
use Rattle.relation_terms.specs.declared.terms.alias.AliasTy.{AliasTy}
use Rattle.relation_terms.specs.declared.terms.ids.AdtId.{AdtId}
use Rattle.relation_terms.specs.declared.terms.ids.FunctionId.{FunctionId}
use Rattle.relation_terms.specs.declared.terms.ids.ClosureId.{ClosureId}
use Rattle.relation_terms.specs.declared.terms.ids.CoroutineClosureId.{CoroutineClosureId}
use Rattle.relation_terms.specs.declared.terms.ids.CoroutineId.{CoroutineId}
use Rattle.relation_terms.specs.declared.terms.keys.TyKey.{TyKey}
use Rattle.relation_terms.specs.declared.terms.keys.RegionKey.{RegionKey}
use Rattle.relation_terms.specs.declared.terms.keys.ConstKey.{ConstKey}
use Rattle.relation_terms.specs.declared.terms.keys.PatKey.{PatKey}
use Rattle.relation_terms.specs.declared.terms.keys.ArgsKey.{ArgsKey}
use Rattle.relation_terms.specs.declared.terms.keys.TysKey.{TysKey}
use Rattle.relation_terms.specs.declared.terms.keys.ExistentialPredicatesKey.{ExistentialPredicatesKey}
use Rattle.relation_terms.specs.declared.terms.ty_kind.InferTy.TheVariants.{TyVar, IntVar, FloatVar}
use Rattle.relation_terms.specs.declared.terms.ty_kind.InferTy.TheVariants.{FreshTy, FreshIntTy, FreshFloatTy}
use Rattle.relation_terms.specs.declared.terms.ty_kind.TyKind.{TyKind}
use Rattle.relation_terms.specs.declared.terms.ty_kind.TyKind.TheVariants.{Adt as AdtTy, FnDef as FnDefTy}
use Rattle.relation_terms.specs.declared.terms.ty_kind.TyKind.TheVariants.{Closure as ClosureTy}
use Rattle.relation_terms.specs.declared.terms.ty_kind.TyKind.TheVariants.{CoroutineClosure as CoroutineClosureTy}
use Rattle.relation_terms.specs.declared.terms.ty_kind.TyKind.TheVariants.{Coroutine as CoroutineTy}
use Rattle.relation_terms.specs.declared.terms.ty_kind.TyKind.TheVariants.{CoroutineWitness as CoroutineWitnessTy}
use Rattle.relation_terms.specs.declared.terms.ty_kind.TyKind.TheVariants.{Array as ArrayTy, Pat as PatTy}
use Rattle.relation_terms.specs.declared.terms.ty_kind.TyKind.TheVariants.{Slice as SliceTy, RawPtr as RawPtrTy}
use Rattle.relation_terms.specs.declared.terms.ty_kind.TyKind.TheVariants.{Ref as RefTy, Tuple as TupleTy}
use Rattle.relation_terms.specs.declared.terms.ty_kind.TyKind.TheVariants.{FnPtr as FnPtrTy, Dynamic as DynamicTy}
use Rattle.relation_terms.specs.declared.terms.ty_kind.TyKind.TheVariants.{UnsafeBinder as UnsafeBinderTy}
use Rattle.relation_terms.specs.declared.terms.ty_kind.TyKind.TheVariants.{Alias as AliasKindTy, Bool, Char, Int, Uint}
use Rattle.relation_terms.specs.declared.terms.ty_kind.TyKind.TheVariants.{Float, Foreign, Str, Never, Param, Bound}
use Rattle.relation_terms.specs.declared.terms.ty_kind.TyKind.TheVariants.{Placeholder, Infer, Error}
use Rattle.relation_folds.specs.Forms.{Form, Leaf, Adt, FnDef, Closure, CoroutineClosure, Coroutine, CoroutineWitness}
use Rattle.relation_folds.specs.Forms.{Array, Slice, Pat, ConstPtr, MutPtr, SharedRef, MutRef, Tuple, FnPtr}
use Rattle.relation_folds.specs.Forms.{UnsafeBinder, Dynamic, Alias, Value, Branch}
use Rattle.relation_folds.specs.Outlines.{tree_outline}
use Rattle.fast_reject.specs.Pairs.{is_of_item, is_of_list, IsOfItem, IsOfList}
use Rattle.relation_folds.specs.Clashes.{OneOutline, pointer_form, reference_form}
use Rattle.fast_reject.proofs.Outlining.{alike_outlines, leaf_unlike}

module _ {Key Id Name : Type 0} (m : Meaning Key Id Name) where
  -- The types of a form.
  abbrev Has : Form → TyKind Key Id Name → Type 0
  Has Leaf k = Unit {0}
  Has Adt k = (d : AdtId Id) × ((a : ArgsKey Key) × (k ≡ AdtTy d a))
  Has FnDef k = (d : FunctionId Id) × ((a : ArgsKey Key) × (k ≡ FnDefTy d a))
  Has Closure k = (d : ClosureId Id) × ((a : ArgsKey Key) × (k ≡ ClosureTy d a))
  Has CoroutineClosure k = (d : CoroutineClosureId Id) × ((a : ArgsKey Key) × (k ≡ CoroutineClosureTy d a))
  Has Coroutine k = (d : CoroutineId Id) × ((a : ArgsKey Key) × (k ≡ CoroutineTy d a))
  Has CoroutineWitness k = (d : CoroutineId Id) × ((a : ArgsKey Key) × (k ≡ CoroutineWitnessTy d a))
  Has Array k = (t : TyKey Key) × ((n : ConstKey Key) × (k ≡ ArrayTy t n))
  Has Slice k = (t : TyKey Key) × (k ≡ SliceTy t)
  Has Pat k = (t : TyKey Key) × ((p : PatKey Key) × (k ≡ PatTy t p))
  Has ConstPtr k = (t : TyKey Key) × (k ≡ RawPtrTy t Not)
  Has MutPtr k = (t : TyKey Key) × (k ≡ RawPtrTy t Mut)
  Has SharedRef k = (r : RegionKey Key) × ((t : TyKey Key) × (k ≡ RefTy r t Not))
  Has MutRef k = (r : RegionKey Key) × ((t : TyKey Key) × (k ≡ RefTy r t Mut))
  Has Tuple k = (ts : TysKey Key) × (k ≡ TupleTy ts)
  Has FnPtr k = (b : Binder Key (FnSigTys Key)) × ((h : FnHeader) × (k ≡ FnPtrTy b h))
  Has UnsafeBinder k = (b : Binder Key (TyKey Key)) × (k ≡ UnsafeBinderTy b)
  Has Dynamic k = (p : ExistentialPredicatesKey Key) × ((r : RegionKey Key) × (k ≡ DynamicTy p r))
  Has Alias k = (a : AliasTy Key Id) × (k ≡ AliasKindTy a)
  Has Value k = ⊥
  Has Branch k = ⊥

  -- A type is of the form of its outline.
  tells : (k : TyKind Key Id Name) → Has (tree_outline (kind_tree m k)).form k
  tells (AdtTy d a) = (d, (a, refl))
  tells (FnDefTy d a) = (d, (a, refl))
  tells (ClosureTy d a) = (d, (a, refl))
  tells (CoroutineClosureTy d a) = (d, (a, refl))
  tells (CoroutineTy d a) = (d, (a, refl))
  tells (CoroutineWitnessTy d a) = (d, (a, refl))
  tells (ArrayTy t n) = (t, (n, refl))
  tells (SliceTy t) = (t, refl)
  tells (PatTy t p) = (t, (p, refl))
  tells (RawPtrTy t Not) = (t, refl)
  tells (RawPtrTy t Mut) = (t, refl)
  tells (RefTy r t Not) = (r, (t, refl))
  tells (RefTy r t Mut) = (r, (t, refl))
  tells (TupleTy ts) = (ts, refl)
  tells (FnPtrTy b h) = (b, (h, refl))
  tells (UnsafeBinderTy b) = (b, refl)
  tells (DynamicTy p r) = (p, (r, refl))
  tells (AliasKindTy a) = (a, refl)
  tells Bool = tt
  tells Char = tt
  tells (Int w) = tt
  tells (Uint w) = tt
  tells (Float w) = tt
  tells (Foreign d) = tt
  tells Str = tt
  tells Never = tt
  tells (Param p) = tt
  tells (Bound d b) = tt
  tells (Placeholder p) = tt
  tells (Infer (TyVar v)) = tt
  tells (Infer (IntVar v)) = tt
  tells (Infer (FloatVar v)) = tt
  tells (Infer (FreshTy n)) = tt
  tells (Infer (FreshIntTy n)) = tt
  tells (Infer (FreshFloatTy n)) = tt
  tells (Error e) = tt

  pub has_pointer : (u : Mutability) (k : TyKind Key Id Name) → Has (pointer_form u) k →
      (t : TyKey Key) × ((v : Mutability) × (k ≡ RawPtrTy t v))
  has_pointer Not k h = (h.0, (Not, h.1))
  has_pointer Mut k h = (h.0, (Mut, h.1))

  pub has_reference : (u : Mutability) (k : TyKind Key Id Name) → Has (reference_form u) k →
      (r : RegionKey Key) × ((t : TyKey Key) × ((v : Mutability) × (k ≡ RefTy r t v)))
  has_reference Not k h = (h.0, (h.1.0, (Not, h.1.1)))
  has_reference Mut k h = (h.0, (h.1.0, (Mut, h.1.1)))

  -- A type that is not of the form of another is not like it.
  module _ (k j : TyKind Key Id Name) (n : kind_tree m k ≡ kind_tree m j → ⊥) where
    pub unlike : (x : TyKind Key Id Name) → k ≡ x → (Has (tree_outline (kind_tree m x)).form j → ⊥) →
        OneOutline (kind_tree m k) (kind_tree m j) → ⊥
    unlike x e z s =
        let one = ap (λ o. o.form) (alike_outlines (kind_tree m k) (kind_tree m j) n s) in
        let is = ap (λ y. (tree_outline (kind_tree m y)).form) e in
        z (subst (λ f. Has f j) (sym one ∙ is) (tells j))

    -- Nor is a type without parts like another.
    pub without_parts : (tree_outline (kind_tree m k)).form ≡ Leaf → OneOutline (kind_tree m k) (kind_tree m j) → ⊥
    without_parts e s = leaf_unlike (kind_tree m k) (kind_tree m j) n e s

  -- Types of none of some forms over parts: of those over types, over lists, over items.
  pub record IsOfNoTypes (k : TyKind Key Id Name) : Type 0 where
    pub no_array : (t : TyKey Key) (n : ConstKey Key) → k ≡ ArrayTy t n → ⊥
    pub no_pat : (t : TyKey Key) (p : PatKey Key) → k ≡ PatTy t p → ⊥
    pub no_slice : (t : TyKey Key) → k ≡ SliceTy t → ⊥
    pub no_raw_ptr : (t : TyKey Key) (u : Mutability) → k ≡ RawPtrTy t u → ⊥
    pub no_ref : (r : RegionKey Key) (t : TyKey Key) (u : Mutability) → k ≡ RefTy r t u → ⊥
    pub no_unsafe_binder : (b : Binder Key (TyKey Key)) → k ≡ UnsafeBinderTy b → ⊥

  pub record IsOfNoList (k : TyKind Key Id Name) : Type 0 where
    pub no_tuple : (ts : TysKey Key) → k ≡ TupleTy ts → ⊥
    pub no_fn_ptr : (b : Binder Key (FnSigTys Key)) (h : FnHeader) → k ≡ FnPtrTy b h → ⊥
    pub no_dynamic : (p : ExistentialPredicatesKey Key) (r : RegionKey Key) → k ≡ DynamicTy p r → ⊥
    pub no_alias : (a : AliasTy Key Id) → k ≡ AliasKindTy a → ⊥

  pub record IsOfNoItem (k : TyKind Key Id Name) : Type 0 where
    pub no_adt : (d : AdtId Id) (a : ArgsKey Key) → k ≡ AdtTy d a → ⊥
    pub no_fn_def : (d : FunctionId Id) (a : ArgsKey Key) → k ≡ FnDefTy d a → ⊥
    pub no_closure : (d : ClosureId Id) (a : ArgsKey Key) → k ≡ ClosureTy d a → ⊥
    pub no_coroutine_closure : (d : CoroutineClosureId Id) (a : ArgsKey Key) → k ≡ CoroutineClosureTy d a → ⊥
    pub no_coroutine : (d : CoroutineId Id) (a : ArgsKey Key) → k ≡ CoroutineTy d a → ⊥
    pub no_coroutine_witness : (d : CoroutineId Id) (a : ArgsKey Key) → k ≡ CoroutineWitnessTy d a → ⊥

  -- Then it is of one of the others.
  list_form : (k : TyKind Key Id Name) (f : Form) → Has f k → IsOfNoTypes k → IsTrue (is_of_list f)
  list_form k Leaf h n = refl
  list_form k Adt h n = refl
  list_form k FnDef h n = refl
  list_form k Closure h n = refl
  list_form k CoroutineClosure h n = refl
  list_form k Coroutine h n = refl
  list_form k CoroutineWitness h n = refl
  list_form k Tuple h n = refl
  list_form k FnPtr h n = refl
  list_form k Dynamic h n = refl
  list_form k Alias h n = refl
  list_form k Array h n = absurd (n.no_array h.0 h.1.0 h.1.1)
  list_form k Slice h n = absurd (n.no_slice h.0 h.1)
  list_form k Pat h n = absurd (n.no_pat h.0 h.1.0 h.1.1)
  list_form k ConstPtr h n = absurd (n.no_raw_ptr h.0 Not h.1)
  list_form k MutPtr h n = absurd (n.no_raw_ptr h.0 Mut h.1)
  list_form k SharedRef h n = absurd (n.no_ref h.0 h.1.0 Not h.1.1)
  list_form k MutRef h n = absurd (n.no_ref h.0 h.1.0 Mut h.1.1)
  list_form k UnsafeBinder h n = absurd (n.no_unsafe_binder h.0 h.1)
  list_form k Value h n = absurd h
  list_form k Branch h n = absurd h

  pub of_list : (k : TyKind Key Id Name) → IsOfNoTypes k → IsOfList (kind_tree m k)
  of_list k n = list_form k (tree_outline (kind_tree m k)).form (tells k) n

  item_form : (k : TyKind Key Id Name) (f : Form) → Has f k → IsTrue (is_of_list f) → IsOfNoList k → IsTrue (is_of_item f)
  item_form k Leaf h i n = refl
  item_form k Adt h i n = refl
  item_form k FnDef h i n = refl
  item_form k Closure h i n = refl
  item_form k CoroutineClosure h i n = refl
  item_form k Coroutine h i n = refl
  item_form k CoroutineWitness h i n = refl
  item_form k Tuple h i n = absurd (n.no_tuple h.0 h.1)
  item_form k FnPtr h i n = absurd (n.no_fn_ptr h.0 h.1.0 h.1.1)
  item_form k Dynamic h i n = absurd (n.no_dynamic h.0 h.1.0 h.1.1)
  item_form k Alias h i n = absurd (n.no_alias h.0 h.1)
  item_form k Array h i n = absurd (false≢true i)
  item_form k Slice h i n = absurd (false≢true i)
  item_form k Pat h i n = absurd (false≢true i)
  item_form k ConstPtr h i n = absurd (false≢true i)
  item_form k MutPtr h i n = absurd (false≢true i)
  item_form k SharedRef h i n = absurd (false≢true i)
  item_form k MutRef h i n = absurd (false≢true i)
  item_form k UnsafeBinder h i n = absurd (false≢true i)
  item_form k Value h i n = absurd (false≢true i)
  item_form k Branch h i n = absurd (false≢true i)

  pub of_item : (k : TyKind Key Id Name) → IsOfList (kind_tree m k) → IsOfNoList k → IsOfItem (kind_tree m k)
  of_item k i n = item_form k (tree_outline (kind_tree m k)).form (tells k) i n

  leaf_form : (k : TyKind Key Id Name) (f : Form) → Has f k → IsTrue (is_of_item f) → IsOfNoItem k → f ≡ Leaf
  leaf_form k Leaf h i n = refl
  leaf_form k Adt h i n = absurd (n.no_adt h.0 h.1.0 h.1.1)
  leaf_form k FnDef h i n = absurd (n.no_fn_def h.0 h.1.0 h.1.1)
  leaf_form k Closure h i n = absurd (n.no_closure h.0 h.1.0 h.1.1)
  leaf_form k CoroutineClosure h i n = absurd (n.no_coroutine_closure h.0 h.1.0 h.1.1)
  leaf_form k Coroutine h i n = absurd (n.no_coroutine h.0 h.1.0 h.1.1)
  leaf_form k CoroutineWitness h i n = absurd (n.no_coroutine_witness h.0 h.1.0 h.1.1)
  leaf_form k Tuple h i n = absurd (false≢true i)
  leaf_form k FnPtr h i n = absurd (false≢true i)
  leaf_form k Dynamic h i n = absurd (false≢true i)
  leaf_form k Alias h i n = absurd (false≢true i)
  leaf_form k Array h i n = absurd (false≢true i)
  leaf_form k Slice h i n = absurd (false≢true i)
  leaf_form k Pat h i n = absurd (false≢true i)
  leaf_form k ConstPtr h i n = absurd (false≢true i)
  leaf_form k MutPtr h i n = absurd (false≢true i)
  leaf_form k SharedRef h i n = absurd (false≢true i)
  leaf_form k MutRef h i n = absurd (false≢true i)
  leaf_form k UnsafeBinder h i n = absurd (false≢true i)
  leaf_form k Value h i n = absurd (false≢true i)
  leaf_form k Branch h i n = absurd (false≢true i)

  pub no_parts : (k : TyKind Key Id Name) → IsOfItem (kind_tree m k) → IsOfNoItem k →
      (tree_outline (kind_tree m k)).form ≡ Leaf
  no_parts k i n = leaf_form k (tree_outline (kind_tree m k)).form (tells k) i n
