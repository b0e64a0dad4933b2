-- `==` takes forms and keys for one exactly where they are one.
use Rattle.std.proofs.Common.{ℕ, ◌≡◌, IsTrue, Bool, ◌&&◌, eqb, refl, ap, ap₂, ◌∙◌}
use Rattle.std.proofs.lemmas.Bool.{false≢true, eqb-true, eq-eqb, and_parts, and_from}
use Rattle.relation_terms.specs.declared.terms.keys.TyKey.{TyKey}
use Rattle.relation_terms.specs.declared.terms.keys.ConstKey.{ConstKey}
use Rattle.relation_terms.specs.declared.terms.keys.ArgsKey.{ArgsKey}
use Rattle.relation_terms.specs.declared.terms.keys.PatKey.{PatKey}
use Rattle.relation_terms.specs.declared.terms.alias.AliasTyKind.{AliasTyKind}
use Rattle.relation_terms.specs.declared.terms.alias.AliasTyKind.TheVariants.{Projection, Inherent, Opaque, Free}
use Rattle.relation_terms.specs.declared.terms.ty_kind.InferTy.TheVariants.{TyVar, IntVar, FloatVar}
use Rattle.relation_terms.specs.declared.terms.ty_kind.InferTy.TheVariants.{FreshTy, FreshIntTy, FreshFloatTy}
use Rattle.relation_terms.specs.declared.terms.ty_kind.TyKind.{TyKind}
use Rattle.relation_terms.specs.declared.terms.ty_kind.TyKind.TheVariants.{Bool as BoolForm, Char, Int, Uint, Float}
use Rattle.relation_terms.specs.declared.terms.ty_kind.TyKind.TheVariants.{Adt, Foreign, Str, Array, Slice, RawPtr}
use Rattle.relation_terms.specs.declared.terms.ty_kind.TyKind.TheVariants.{Ref, FnDef, Closure, CoroutineClosure}
use Rattle.relation_terms.specs.declared.terms.ty_kind.TyKind.TheVariants.{Coroutine, CoroutineWitness, Never, Tuple}
use Rattle.relation_terms.specs.declared.terms.ty_kind.TyKind.TheVariants.{Param as TyParam, Bound as TyBound}
use Rattle.relation_terms.specs.declared.terms.ty_kind.TyKind.TheVariants.{Error as TyError, Alias, Pat as TyPat}
use Rattle.relation_terms.specs.declared.terms.ty_kind.TyKind.TheVariants.{Placeholder as TyPlaceholder}
use Rattle.relation_terms.specs.declared.terms.ty_kind.TyKind.TheVariants.{Infer}
use Rattle.relation_terms.specs.declared.terms.const_kind.ConstKind.{ConstKind}
use Rattle.relation_terms.specs.declared.terms.const_kind.ConstKind.TheVariants.{Param as ConstParam}
use Rattle.relation_terms.specs.declared.terms.const_kind.ConstKind.TheVariants.{Placeholder as ConstPlaceholder}
use Rattle.relation_terms.specs.declared.terms.const_kind.ConstKind.TheVariants.{Infer as ConstInfer}
use Rattle.relation_terms.specs.declared.terms.const_kind.ConstKind.TheVariants.{Bound as ConstBound}
use Rattle.relation_terms.specs.declared.terms.const_kind.ConstKind.TheVariants.{Unevaluated, Value}
use Rattle.relation_terms.specs.declared.terms.const_kind.ConstKind.TheVariants.{Error as ConstError, Expr}
use Rattle.relation_terms.specs.declared.terms.const_kind.InferConst.TheVariants.{Var, Fresh}
use Rattle.relation_terms.specs.declared.terms.const_kind.ValTreeKind.{ValTreeKind}
use Rattle.relation_terms.specs.declared.terms.const_kind.ValTreeKind.TheVariants.{Leaf, Branch}
use Rattle.relation_terms.specs.declared.terms.pattern_kind.PatternKind.{PatternKind}
use Rattle.relation_terms.specs.declared.terms.pattern_kind.PatternKind.TheVariants.{Range, Or, NotNull}
use Rattle.relation_terms.specs.declared.terms.region_kind.RegionKind.{RegionKind}
use Rattle.relation_terms.specs.declared.terms.region_kind.RegionKind.TheVariants.{ReStatic, ReEarlyParam, ReBound}
use Rattle.relation_terms.specs.declared.terms.region_kind.RegionKind.TheVariants.{ReVar, RePlaceholder}
use Rattle.relation_terms.specs.declared.terms.generic_arg.GenericArgKind.{GenericArgKind}
use Rattle.relation_terms.specs.declared.terms.generic_arg.GenericArgKind.TheVariants.{Lifetime, Ty as TyArg}
use Rattle.relation_terms.specs.declared.terms.generic_arg.GenericArgKind.TheVariants.{Const as ConstArg}
use Rattle.relation_terms.specs.declared.terms.ty_kind.TyKind.TheVariants.{FnPtr, UnsafeBinder, Dynamic}
use Rattle.relation_terms.proofs.Widths.{mut_eq, int_same, int_self, uint_same, uint_self, float_same, float_self}
use Rattle.relation_terms.proofs.Widths.{mut_same, mut_self}
use Rattle.relation_terms.proofs.Same.{header_eq, header_same, header_self}
use Rattle.reference_interner.specs.declared.keys.NodeKey.{NodeKey}
use Rattle.reference_interner.specs.declared.keys.ItemId.{ItemId}
use Rattle.reference_interner.specs.declared.keys.SymbolId.{SymbolId}
use Rattle.reference_interner.specs.declared.node.Node.{Node}
use Rattle.reference_interner.specs.declared.node.Node.TheVariants.{Ty, Region, Const, ValTree}
use Rattle.reference_interner.specs.declared.node.Node.TheVariants.{Pat}
use Rattle.reference_interner.specs.contracts.node.NodePartialEq.TheImpl as node_impl
use Rattle.reference_interner.specs.contracts.keys.NodeKeyPartialEq.TheImpl as key_impl
use Rattle.reference_interner.specs.contracts.keys.NodeKey as key
use Rattle.relation_terms.specs.contracts.terms.generic_arg.GenericArgKindPartialEq.TheImpl as arg_impl

abbrev pub node_eq : Node → Node → Bool
node_eq = node_impl.ghosts.eq

abbrev pub arg_eq : GenericArgKind NodeKey → GenericArgKind NodeKey → Bool
arg_eq = (arg_impl.ghosts key.the_row key_impl.ghosts key_impl.dict).eq

abbrev pub ty_eq : TyKey NodeKey → TyKey NodeKey → Bool
ty_eq t u = eqb (t.0).0 (u.0).0

abbrev pub const_eq : ConstKey NodeKey → ConstKey NodeKey → Bool
const_eq t u = eqb (t.0).0 (u.0).0

abbrev pub pat_eq : PatKey NodeKey → PatKey NodeKey → Bool
pat_eq t u = eqb (t.0).0 (u.0).0

abbrev alias : AliasTyKind ItemId → ArgsKey NodeKey → TyKind NodeKey ItemId SymbolId
alias k a = Alias (record { kind = k; args = a })

pub eqb_self : (n : ℕ) → IsTrue (eqb n n)
eqb_self n = eq-eqb n n refl

-- What is made of one number, of two or of three.
pub one_number : {A : Type 0} (f : ℕ → A) (i j : ℕ) → IsTrue (eqb i j) → f i ≡ f j
one_number f i j h = ap f (eqb-true i j h)

pub two_numbers : {A : Type 0} (f : ℕ → ℕ → A) (i j k l : ℕ) → IsTrue (eqb i j && eqb k l) → f i k ≡ f j l
two_numbers f i j k l h =
    let p = and_parts (eqb i j) (eqb k l) h in
    ap₂ f (eqb-true i j p.0) (eqb-true k l p.1)

three_numbers : {A : Type 0} (f : ℕ → ℕ → ℕ → A) (i j k l m n : ℕ) → IsTrue (eqb i j && (eqb k l && eqb m n)) →
    f i k m ≡ f j l n
three_numbers f i j k l m n h =
    let p = and_parts (eqb i j) (eqb k l && eqb m n) h in
    two_numbers (λ x y. f i x y) k l m n p.1 ∙ ap (λ x. f x l n) (eqb-true i j p.0)

pub two_selves : (i j : ℕ) → IsTrue (eqb i i && eqb j j)
two_selves i j = and_from (eqb i i) (eqb j j) (eqb_self i) (eqb_self j)

three_selves : (i j k : ℕ) → IsTrue (eqb i i && (eqb j j && eqb k k))
three_selves i j k = and_from (eqb i i) (eqb j j && eqb k k) (eqb_self i) (two_selves j k)

alias_same : (a b : AliasTyKind ItemId) (x y : ArgsKey NodeKey) → IsTrue (node_eq (Ty (alias a x)) (Ty (alias b y))) →
    alias a x ≡ alias b y
alias_same (Projection d) (Projection e) x y h =
    two_numbers (λ i n. alias (Projection (record { 0 = record { 0 = i } })) (record { 0 = record { 0 = n } }))
    (d.0).0 (e.0).0 (x.0).0 (y.0).0 h
alias_same (Inherent d) (Inherent e) x y h =
    two_numbers (λ i n. alias (Inherent (record { 0 = record { 0 = i } })) (record { 0 = record { 0 = n } }))
    (d.0).0 (e.0).0 (x.0).0 (y.0).0 h
alias_same (Opaque d) (Opaque e) x y h =
    two_numbers (λ i n. alias (Opaque (record { 0 = record { 0 = i } })) (record { 0 = record { 0 = n } }))
    (d.0).0 (e.0).0 (x.0).0 (y.0).0 h
alias_same (Free d) (Free e) x y h =
    two_numbers (λ i n. alias (Free (record { 0 = record { 0 = i } })) (record { 0 = record { 0 = n } }))
    (d.0).0 (e.0).0 (x.0).0 (y.0).0 h
alias_same _ _ x y h = absurd (false≢true h)

alias_self : (a : AliasTyKind ItemId) (x : ArgsKey NodeKey) → IsTrue (node_eq (Ty (alias a x)) (Ty (alias a x)))
alias_self (Projection d) x = two_selves (d.0).0 (x.0).0
alias_self (Inherent d) x = two_selves (d.0).0 (x.0).0
alias_self (Opaque d) x = two_selves (d.0).0 (x.0).0
alias_self (Free d) x = two_selves (d.0).0 (x.0).0

pub kind_same : (f g : TyKind NodeKey ItemId SymbolId) → IsTrue (node_eq (Ty f) (Ty g)) → f ≡ g
kind_same BoolForm BoolForm h = refl
kind_same Char Char h = refl
kind_same (Int i) (Int j) h = ap (λ x. Int x) (int_same i j h)
kind_same (Uint i) (Uint j) h = ap (λ x. Uint x) (uint_same i j h)
kind_same (Float i) (Float j) h = ap (λ x. Float x) (float_same i j h)
kind_same (Adt d a) (Adt e b) h =
    two_numbers (λ x y. Adt (record { 0 = record { 0 = x } }) (record { 0 = record { 0 = y } }))
    (d.0).0 (e.0).0 (a.0).0 (b.0).0 h
kind_same (Foreign t) (Foreign u) h = one_number (λ x. Foreign (record { 0 = record { 0 = x } })) (t.0).0 (u.0).0 h
kind_same Str Str h = refl
kind_same (Array t c) (Array u d) h =
    two_numbers (λ x y. Array (record { 0 = record { 0 = x } }) (record { 0 = record { 0 = y } }))
    (t.0).0 (u.0).0 (c.0).0 (d.0).0 h
kind_same (TyPat t p) (TyPat u q) h =
    two_numbers (λ x y. TyPat (record { 0 = record { 0 = x } }) (record { 0 = record { 0 = y } }))
    (t.0).0 (u.0).0 (p.0).0 (q.0).0 h
kind_same (Slice t) (Slice u) h = one_number (λ x. Slice (record { 0 = record { 0 = x } })) (t.0).0 (u.0).0 h
kind_same (RawPtr t a) (RawPtr u b) h =
    let p = and_parts (ty_eq t u) (mut_eq a b) h in
    ap₂ (λ x y. RawPtr (record { 0 = record { 0 = x } }) y) (eqb-true (t.0).0 (u.0).0 p.0) (mut_same a b p.1)
kind_same (Ref r t a) (Ref s u b) h =
    let p = and_parts (eqb (r.0).0 (s.0).0) (ty_eq t u && mut_eq a b) h in
    let q = and_parts (ty_eq t u) (mut_eq a b) p.1 in
    ap₂ (λ x y. Ref (record { 0 = record { 0 = x } }) (record { 0 = record { 0 = y } }) a)
    (eqb-true (r.0).0 (s.0).0 p.0) (eqb-true (t.0).0 (u.0).0 q.0) ∙ ap (λ x. Ref s u x) (mut_same a b q.1)
kind_same (FnDef d a) (FnDef e b) h =
    two_numbers (λ x y. FnDef (record { 0 = record { 0 = x } }) (record { 0 = record { 0 = y } }))
    (d.0).0 (e.0).0 (a.0).0 (b.0).0 h
kind_same (FnPtr b g) (FnPtr c i) h =
    let t = ((b.value).inputs_and_output).0 in
    let u = ((c.value).inputs_and_output).0 in
    let v = (b.bound_vars).0 in
    let w = (c.bound_vars).0 in
    let p = and_parts (eqb t.0 u.0 && eqb v.0 w.0) (header_eq g i) h in
    two_numbers (λ x y. FnPtr (record {
      value = record { inputs_and_output = record { 0 = record { 0 = x } } };
      bound_vars = record { 0 = record { 0 = y } };
    }) g) t.0 u.0 v.0 w.0 p.0 ∙ ap (λ x. FnPtr c x) (header_same g i p.1)
kind_same (UnsafeBinder b) (UnsafeBinder c) h =
    two_numbers (λ x y. UnsafeBinder (record {
      value = record { 0 = record { 0 = x } };
      bound_vars = record { 0 = record { 0 = y } };
    })) ((b.value).0).0 ((c.value).0).0 ((b.bound_vars).0).0 ((c.bound_vars).0).0 h
kind_same (Dynamic ps r) (Dynamic qs s) h =
    two_numbers (λ x y. Dynamic (record { 0 = record { 0 = x } }) (record { 0 = record { 0 = y } }))
    (ps.0).0 (qs.0).0 (r.0).0 (s.0).0 h
kind_same (Closure d a) (Closure e b) h =
    two_numbers (λ x y. Closure (record { 0 = record { 0 = x } }) (record { 0 = record { 0 = y } }))
    (d.0).0 (e.0).0 (a.0).0 (b.0).0 h
kind_same (CoroutineClosure d a) (CoroutineClosure e b) h =
    two_numbers (λ x y. CoroutineClosure (record { 0 = record { 0 = x } }) (record { 0 = record { 0 = y } }))
    (d.0).0 (e.0).0 (a.0).0 (b.0).0 h
kind_same (Coroutine d a) (Coroutine e b) h =
    two_numbers (λ x y. Coroutine (record { 0 = record { 0 = x } }) (record { 0 = record { 0 = y } }))
    (d.0).0 (e.0).0 (a.0).0 (b.0).0 h
kind_same (CoroutineWitness d a) (CoroutineWitness e b) h =
    two_numbers (λ x y. CoroutineWitness (record { 0 = record { 0 = x } }) (record { 0 = record { 0 = y } }))
    (d.0).0 (e.0).0 (a.0).0 (b.0).0 h
kind_same Never Never h = refl
kind_same (Tuple t) (Tuple u) h = one_number (λ x. Tuple (record { 0 = record { 0 = x } })) (t.0).0 (u.0).0 h
kind_same (Alias a) (Alias b) h = alias_same a.kind b.kind a.args b.args h
kind_same (TyParam p) (TyParam q) h =
    two_numbers (λ i n. TyParam (record { index = i; name = record { 0 = n } }))
    p.index q.index (p.name).0 (q.name).0 h
kind_same (TyBound d b) (TyBound e c) h =
    three_numbers (λ i v n. TyBound (record { 0 = i }) (record { var = record { 0 = v }; name = record { 0 = n } }))
    d.0 e.0 (b.var).0 (c.var).0 (b.name).0 (c.name).0 h
kind_same (TyPlaceholder p) (TyPlaceholder q) h =
    three_numbers (λ u v n. TyPlaceholder (record {
      universe = record { 0 = u };
      bound = record { var = record { 0 = v }; name = record { 0 = n } };
    })) (p.universe).0 (q.universe).0 ((p.bound).var).0 ((q.bound).var).0 ((p.bound).name).0 ((q.bound).name).0 h
kind_same (Infer (TyVar v)) (Infer (TyVar w)) h = one_number (λ n. Infer (TyVar (record { 0 = n }))) v.0 w.0 h
kind_same (Infer (IntVar v)) (Infer (IntVar w)) h = one_number (λ n. Infer (IntVar (record { 0 = n }))) v.0 w.0 h
kind_same (Infer (FloatVar v)) (Infer (FloatVar w)) h = one_number (λ n. Infer (FloatVar (record { 0 = n }))) v.0 w.0 h
kind_same (Infer (FreshTy v)) (Infer (FreshTy w)) h = one_number (λ n. Infer (FreshTy n)) v w h
kind_same (Infer (FreshIntTy v)) (Infer (FreshIntTy w)) h = one_number (λ n. Infer (FreshIntTy n)) v w h
kind_same (Infer (FreshFloatTy v)) (Infer (FreshFloatTy w)) h = one_number (λ n. Infer (FreshFloatTy n)) v w h
kind_same (TyError x) (TyError y) h = refl
kind_same _ _ h = absurd (false≢true h)

pub kind_self : (f : TyKind NodeKey ItemId SymbolId) → IsTrue (node_eq (Ty f) (Ty f))
kind_self BoolForm = refl
kind_self Char = refl
kind_self (Int i) = int_self i
kind_self (Uint i) = uint_self i
kind_self (Float i) = float_self i
kind_self (Adt d a) = two_selves (d.0).0 (a.0).0
kind_self (Foreign t) = eqb_self (t.0).0
kind_self Str = refl
kind_self (Array t c) = two_selves (t.0).0 (c.0).0
kind_self (TyPat t p) = two_selves (t.0).0 (p.0).0
kind_self (Slice t) = eqb_self (t.0).0
kind_self (RawPtr t a) = and_from (ty_eq t t) (mut_eq a a) (eqb_self (t.0).0) (mut_self a)
kind_self (Ref r t a) =
    and_from (eqb (r.0).0 (r.0).0) (ty_eq t t && mut_eq a a) (eqb_self (r.0).0)
    (and_from (ty_eq t t) (mut_eq a a) (eqb_self (t.0).0) (mut_self a))
kind_self (FnDef d a) = two_selves (d.0).0 (a.0).0
kind_self (FnPtr b g) =
    let t = (((b.value).inputs_and_output).0).0 in
    let v = ((b.bound_vars).0).0 in
    and_from (eqb t t && eqb v v) (header_eq g g) (two_selves t v) (header_self g)
kind_self (UnsafeBinder b) = two_selves ((b.value).0).0 ((b.bound_vars).0).0
kind_self (Dynamic ps r) = two_selves (ps.0).0 (r.0).0
kind_self (Closure d a) = two_selves (d.0).0 (a.0).0
kind_self (CoroutineClosure d a) = two_selves (d.0).0 (a.0).0
kind_self (Coroutine d a) = two_selves (d.0).0 (a.0).0
kind_self (CoroutineWitness d a) = two_selves (d.0).0 (a.0).0
kind_self Never = refl
kind_self (Tuple t) = eqb_self (t.0).0
kind_self (Alias a) = alias_self a.kind a.args
kind_self (TyParam p) = two_selves p.index (p.name).0
kind_self (TyBound d b) = three_selves d.0 (b.var).0 (b.name).0
kind_self (TyPlaceholder p) = three_selves (p.universe).0 ((p.bound).var).0 ((p.bound).name).0
kind_self (Infer (TyVar v)) = eqb_self v.0
kind_self (Infer (IntVar v)) = eqb_self v.0
kind_self (Infer (FloatVar v)) = eqb_self v.0
kind_self (Infer (FreshTy n)) = eqb_self n
kind_self (Infer (FreshIntTy n)) = eqb_self n
kind_self (Infer (FreshFloatTy n)) = eqb_self n
kind_self (TyError x) = refl

pub const_same : (f g : ConstKind NodeKey ItemId SymbolId) → IsTrue (node_eq (Const f) (Const g)) → f ≡ g
const_same (ConstParam p) (ConstParam q) h =
    two_numbers (λ i n. ConstParam (record { index = i; name = record { 0 = n } }))
    p.index q.index (p.name).0 (q.name).0 h
const_same (ConstInfer (Var v)) (ConstInfer (Var w)) h =
    one_number (λ n. ConstInfer (Var (record { 0 = n }))) v.0 w.0 h
const_same (ConstInfer (Fresh v)) (ConstInfer (Fresh w)) h = one_number (λ n. ConstInfer (Fresh n)) v w h
const_same (ConstBound d b) (ConstBound e c) h =
    three_numbers (λ i v n. ConstBound (record { 0 = i }) (record { var = record { 0 = v }; name = record { 0 = n } }))
    d.0 e.0 (b.var).0 (c.var).0 (b.name).0 (c.name).0 h
const_same (ConstPlaceholder p) (ConstPlaceholder q) h =
    three_numbers (λ u v n. ConstPlaceholder (record {
      universe = record { 0 = u };
      bound = record { var = record { 0 = v }; name = record { 0 = n } };
    })) (p.universe).0 (q.universe).0 ((p.bound).var).0 ((q.bound).var).0 ((p.bound).name).0 ((q.bound).name).0 h
const_same (Unevaluated u) (Unevaluated w) h =
    two_numbers (λ d a. Unevaluated (record {
      def = record { 0 = record { 0 = d } };
      args = record { 0 = record { 0 = a } };
    }))
    ((u.def).0).0 ((w.def).0).0 ((u.args).0).0 ((w.args).0).0 h
const_same (Value t v) (Value u w) h =
    two_numbers (λ x y. Value (record { 0 = record { 0 = x } }) (record { 0 = record { 0 = y } }))
    (t.0).0 (u.0).0 (v.0).0 (w.0).0 h
const_same (ConstError x) (ConstError y) h = refl
const_same (Expr o a) (Expr p b) h =
    two_numbers (λ x y. Expr (record { 0 = x }) (record { 0 = record { 0 = y } })) o.0 p.0 (a.0).0 (b.0).0 h
const_same _ _ h = absurd (false≢true h)

pub const_self : (f : ConstKind NodeKey ItemId SymbolId) → IsTrue (node_eq (Const f) (Const f))
const_self (ConstParam p) = two_selves p.index (p.name).0
const_self (ConstInfer (Var v)) = eqb_self v.0
const_self (ConstInfer (Fresh n)) = eqb_self n
const_self (ConstBound d b) = three_selves d.0 (b.var).0 (b.name).0
const_self (ConstPlaceholder p) = three_selves (p.universe).0 ((p.bound).var).0 ((p.bound).name).0
const_self (Unevaluated u) = two_selves ((u.def).0).0 ((u.args).0).0
const_self (Value t v) = two_selves (t.0).0 (v.0).0
const_self (ConstError x) = refl
const_self (Expr o a) = two_selves o.0 (a.0).0

pub valtree_same : (f g : ValTreeKind NodeKey) → IsTrue (node_eq (ValTree f) (ValTree g)) → f ≡ g
valtree_same (Leaf a m) (Leaf b n) h = two_numbers (λ x y. Leaf x y) a b m n h
valtree_same (Branch a) (Branch b) h = one_number (λ x. Branch (record { 0 = record { 0 = x } })) (a.0).0 (b.0).0 h
valtree_same _ _ h = absurd (false≢true h)

pub valtree_self : (f : ValTreeKind NodeKey) → IsTrue (node_eq (ValTree f) (ValTree f))
valtree_self (Leaf a m) = two_selves a m
valtree_self (Branch a) = eqb_self (a.0).0

pub pattern_same : (f g : PatternKind NodeKey) → IsTrue (node_eq (Pat f) (Pat g)) → f ≡ g
pattern_same (Range s e) (Range t f) h =
    two_numbers (λ x y. Range (record { 0 = record { 0 = x } }) (record { 0 = record { 0 = y } }))
    (s.0).0 (t.0).0 (e.0).0 (f.0).0 h
pattern_same (Or a) (Or b) h = one_number (λ x. Or (record { 0 = record { 0 = x } })) (a.0).0 (b.0).0 h
pattern_same NotNull NotNull h = refl
pattern_same _ _ h = absurd (false≢true h)

pub pattern_self : (f : PatternKind NodeKey) → IsTrue (node_eq (Pat f) (Pat f))
pattern_self (Range s e) = two_selves (s.0).0 (e.0).0
pattern_self (Or a) = eqb_self (a.0).0
pattern_self NotNull = refl

pub region_same : (f g : RegionKind SymbolId) → IsTrue (node_eq (Region f) (Region g)) → f ≡ g
region_same ReStatic ReStatic h = refl
region_same (ReEarlyParam p) (ReEarlyParam q) h =
    two_numbers (λ i n. ReEarlyParam (record { index = i; name = record { 0 = n } }))
    p.index q.index (p.name).0 (q.name).0 h
region_same (ReBound d b) (ReBound e c) h =
    three_numbers (λ i v n. ReBound (record { 0 = i }) (record { var = record { 0 = v }; name = record { 0 = n } }))
    d.0 e.0 (b.var).0 (c.var).0 (b.name).0 (c.name).0 h
region_same (ReVar v) (ReVar w) h = one_number (λ n. ReVar (record { 0 = n })) v.0 w.0 h
region_same (RePlaceholder p) (RePlaceholder q) h =
    three_numbers (λ u v n. RePlaceholder (record {
      universe = record { 0 = u };
      bound = record { var = record { 0 = v }; name = record { 0 = n } };
    })) (p.universe).0 (q.universe).0 ((p.bound).var).0 ((q.bound).var).0 ((p.bound).name).0 ((q.bound).name).0 h
region_same _ _ h = absurd (false≢true h)

pub region_self : (f : RegionKind SymbolId) → IsTrue (node_eq (Region f) (Region f))
region_self ReStatic = refl
region_self (ReEarlyParam p) = two_selves p.index (p.name).0
region_self (ReBound d b) = three_selves d.0 (b.var).0 (b.name).0
region_self (ReVar v) = eqb_self v.0
region_self (RePlaceholder p) = three_selves (p.universe).0 ((p.bound).var).0 ((p.bound).name).0

pub arg_same : (f g : GenericArgKind NodeKey) → IsTrue (arg_eq f g) → f ≡ g
arg_same (Lifetime r) (Lifetime s) h = one_number (λ x. Lifetime (record { 0 = record { 0 = x } })) (r.0).0 (s.0).0 h
arg_same (TyArg t) (TyArg u) h = one_number (λ x. TyArg (record { 0 = record { 0 = x } })) (t.0).0 (u.0).0 h
arg_same (ConstArg c) (ConstArg d) h = one_number (λ x. ConstArg (record { 0 = record { 0 = x } })) (c.0).0 (d.0).0 h
arg_same _ _ h = absurd (false≢true h)

pub arg_self : (f : GenericArgKind NodeKey) → IsTrue (arg_eq f f)
arg_self (Lifetime r) = eqb_self (r.0).0
arg_self (TyArg t) = eqb_self (t.0).0
arg_self (ConstArg c) = eqb_self (c.0).0

pub ty_same : (t u : TyKey NodeKey) → IsTrue (ty_eq t u) → t ≡ u
ty_same t u h = one_number (λ n. record { 0 = record { 0 = n } }) (t.0).0 (u.0).0 h

pub const_key_same : (t u : ConstKey NodeKey) → IsTrue (const_eq t u) → t ≡ u
const_key_same t u h = one_number (λ n. record { 0 = record { 0 = n } }) (t.0).0 (u.0).0 h

pub pat_same : (t u : PatKey NodeKey) → IsTrue (pat_eq t u) → t ≡ u
pat_same t u h = one_number (λ n. record { 0 = record { 0 = n } }) (t.0).0 (u.0).0 h
