-- Which error comes of relating two terms.
use Rattle.std.specs.Prelude.{◌≡◌, ◌≢◌, ◌⊎◌, ℕ, zero, suc, ◌<◌, Bool, List, [], ◌∷◌}
use Rattle.term_enums.specs.declared.Variance.{Variance}
use Rattle.term_enums.specs.declared.Variance.TheVariants.{Bivariant}
use Rattle.term_enums.specs.declared.Mutability.TheVariants.{Not}
use Rattle.term_enums.specs.declared.Safety.{Safety}
use Rattle.term_enums.specs.declared.ExternAbi.{ExternAbi}
use Rattle.term_enums.specs.declared.PredicatePolarity.{PredicatePolarity}
use Rattle.relation_terms.specs.declared.terms.keys.TyKey.{TyKey}
use Rattle.relation_terms.specs.declared.terms.keys.ConstKey.{ConstKey}
use Rattle.relation_terms.specs.declared.terms.keys.ExistentialPredicatesKey.{ExistentialPredicatesKey}
use Rattle.relation_terms.specs.declared.terms.ids.TraitId.{TraitId}
use Rattle.relation_terms.specs.Heads.{const_sort, region_sort, pattern_sort, existential_sort, VarKind, type_var, const_var}
use Rattle.relation_terms.specs.Heads.{var_sort, head_sort, BoundKind, bound_sort, existential_auto}
use Rattle.relation_terms.specs.Heads.{Atom, Head, array, tuple, raw_ptr, ref, AliasKind, projection_alias, opaque_alias, AliasTermKind}
use Rattle.relation_terms.specs.Heads.{alias}
use Rattle.relation_terms.specs.Heads.{adt, fn_def, closure, coroutine_closure, coroutine, coroutine_witness, slice}
use Rattle.relation_terms.specs.Heads.{pattern_type, unsafe_binder, dynamic, fn_ptr, signature, inputs, unevaluated}
use Rattle.relation_terms.specs.Heads.{range_pattern, or_pattern, arguments, object, existential_trait}
use Rattle.relation_terms.specs.Heads.{existential_projection, trait_ref, trait_clause, host_effect, subtype}
use Rattle.relation_terms.specs.Heads.{alias_term, region_outlives, type_outlives, projection, const_has_type}
use Rattle.relation_terms.specs.Heads.{well_formed, const_evaluatable, coerce, normalizes_to, alias_relate, environment}
use Rattle.relation_terms.specs.Heads.{expression, value, value_type, value_branch, Leaf, variable, bound, placeholder}
use Rattle.relation_terms.specs.Heads.{atom, unknown}
use Rattle.relation_terms.specs.Trees.{Tree, leaf, node, bind, nil, cons, apply, inst, count, nth}
use Rattle.relation_terms.specs.Meaning.{Meaning}
use Rattle.relation_folds.specs.declared.error.ExpectedFound.{ExpectedFound}
use Rattle.relation_folds.specs.declared.error.TypeError.{TypeError}
use Rattle.relation_folds.specs.declared.error.TypeError.TheVariants.{Mismatch, Mutability, TupleSize, ArraySize}
use Rattle.relation_folds.specs.declared.error.TypeError.TheVariants.{Sorts, CyclicTy, CyclicConst, ConstMismatch}
use Rattle.relation_folds.specs.declared.error.TypeError.TheVariants.{ArgumentSorts, ArgumentMutability, ProjectionMismatched}
use Rattle.relation_folds.specs.declared.error.TypeError.TheVariants.{VariadicMismatch, SafetyMismatch, AbiMismatch, ArgCount}
use Rattle.relation_folds.specs.declared.error.TypeError.TheVariants.{Traits, PolarityMismatch, ExistentialMismatch}
use Rattle.term_enums.specs.declared.StructurallyRelateAliases.{StructurallyRelateAliases}
use Rattle.relation_semantics.specs.Generalising.{IsSeen}
use Rattle.relation_semantics.specs.Relation.{Items, plain, plain_kind, plain_atom, sort_of, part_at, IsError, IsAlias}
use Rattle.relation_semantics.specs.Stores.{Store, bound_to, entry_of, resolved, universe_of, MayStandFor}
use Rattle.relation_semantics.specs.Steps.{AreEquated}
use Rattle.relation_semantics.specs.Settings.{Settings, DefersAliases, LeavesOpaque}

-- A form without parts, but for what types and constants of one form may differ in: a parameter's name.
abbrev pub outer_leaf : Leaf → Leaf
outer_leaf (variable k n) = variable k n
outer_leaf (bound k d i) = bound k d i
outer_leaf (placeholder k w n) = placeholder k w n
outer_leaf (atom x) = atom (plain_atom x)
outer_leaf unknown = unknown

-- A form over parts, but for what has an error of its own: mutability, and the item that an alias is of.
abbrev pub outer_head : Head → Head
outer_head (adt d) = adt d
outer_head (fn_def d) = fn_def d
outer_head (closure d) = closure d
outer_head (coroutine_closure d) = coroutine_closure d
outer_head (coroutine d) = coroutine d
outer_head (coroutine_witness d) = coroutine_witness d
outer_head array = array
outer_head slice = slice
outer_head pattern_type = pattern_type
outer_head tuple = tuple
outer_head unsafe_binder = unsafe_binder
outer_head dynamic = dynamic
outer_head fn_ptr = fn_ptr
outer_head (raw_ptr u) = raw_ptr Not
outer_head (ref u) = ref Not
outer_head (alias k d) = alias projection_alias 0
outer_head (signature x s y) = signature x s y
outer_head inputs = inputs
outer_head (unevaluated d) = unevaluated d
outer_head (expression k) = expression k
outer_head value = value
outer_head value_type = value_type
outer_head value_branch = value_branch
outer_head range_pattern = range_pattern
outer_head or_pattern = or_pattern
outer_head arguments = arguments
outer_head object = object
outer_head (existential_trait d) = existential_trait d
outer_head (existential_projection d) = existential_projection d
outer_head (trait_ref d) = trait_ref d
outer_head (trait_clause p) = trait_clause p
outer_head (host_effect z) = host_effect z
outer_head (subtype x) = subtype x
outer_head (alias_term k d) = alias_term k d
outer_head region_outlives = region_outlives
outer_head type_outlives = type_outlives
outer_head projection = projection
outer_head const_has_type = const_has_type
outer_head well_formed = well_formed
outer_head const_evaluatable = const_evaluatable
outer_head coerce = coerce
outer_head normalizes_to = normalizes_to
outer_head (alias_relate d) = alias_relate d
outer_head environment = environment

-- A tree's outermost form.
abbrev pub outermost : Tree → Tree
outermost (leaf x) = leaf (outer_leaf x)
outermost (node h ts) = node (outer_head h) nil
outermost (bind ks t) = bind ks nil
outermost nil = nil
outermost (cons t ts) = cons nil nil

-- Two forms without parts that are one but for a parameter's name.
abbrev pub AreAlikeLeaves : Leaf → Leaf → Type 0
AreAlikeLeaves x y = outer_leaf x ≡ outer_leaf y

-- Two types are of one outermost form, whatever their parts, the number of these, mutability, and an alias's item.
abbrev pub AreAlike : Tree → Tree → Type 0
AreAlike t u = outermost t ≡ outermost u

-- Two types, or two patterns, of one outermost form with as many parts, the kind of an alias aside; or one form without
-- parts; or two parameters of one index.
pub data AreOfOneForm (a b : Tree) : Type 0 where
  over_parts : {h : Head} {ts us : Tree} → a ≡ node h ts → b ≡ node h us → count ts ≡ count us → AreOfOneForm a b
  over_aliases : {k l : AliasKind} {d : ℕ} {ts us : Tree} → a ≡ node (alias k d) ts → b ≡ node (alias l d) us →
      count ts ≡ count us → AreOfOneForm a b
  one_leaf : {l : Leaf} → a ≡ leaf l → b ≡ leaf l → AreOfOneForm a b
  parameters : {x y : Atom} → a ≡ leaf (atom x) → b ≡ leaf (atom y) → plain_atom x ≡ plain_atom y → AreOfOneForm a b

-- Two value trees that are one, or have as many branches.
pub data AreOfOneValue (a b : Tree) : Type 0 where
  one_value : a ≡ b → AreOfOneValue a b
  as_many_branches : {ts us : Tree} → a ≡ node value_branch ts → b ≡ node value_branch us → count ts ≡ count us →
      AreOfOneValue a b

-- Two constants of one outermost form with as many parts, the types of values apart; or one form without parts; or two
-- parameters of one index.
pub data AreOfOneConst (a b : Tree) : Type 0 where
  values : {t u v w : Tree} → a ≡ node value (cons (node value_type (cons t nil)) (cons v nil)) →
      b ≡ node value (cons (node value_type (cons u nil)) (cons w nil)) → AreOfOneValue v w → AreOfOneConst a b
  expressions : {k : ℕ} {ts us : Tree} → a ≡ node (expression k) ts → b ≡ node (expression k) us →
      count ts ≡ count us → AreOfOneConst a b
  over_arguments : {d : ℕ} {ts us : Tree} → a ≡ node (unevaluated d) ts → b ≡ node (unevaluated d) us →
      count ts ≡ count us → AreOfOneConst a b
  one_const_leaf : {l : Leaf} → a ≡ leaf l → b ≡ leaf l → AreOfOneConst a b
  const_parameters : {x y : Atom} → a ≡ leaf (atom x) → b ≡ leaf (atom y) → plain_atom x ≡ plain_atom y →
      AreOfOneConst a b

-- Two constants are of one outermost form, and two unevaluated ones have as many arguments; of expressions the
-- operations and the number of arguments may differ.
pub data AreAlikeConsts (t u : Tree) : Type 0 where
  alike_leaves : {x y : Leaf} → t ≡ leaf x → u ≡ leaf y → AreAlikeLeaves x y → AreAlikeConsts t u
  of_one_item : {d : ℕ} {ts us : Tree} → t ≡ node (unevaluated d) ts → u ≡ node (unevaluated d) us →
      count ts ≡ count us → AreAlikeConsts t u
  both_expressions : {k l : ℕ} {ts us : Tree} → t ≡ node (expression k) ts → u ≡ node (expression l) us →
      AreAlikeConsts t u
  both_values : {x y v w : Tree} → t ≡ node value (cons x (cons v nil)) → u ≡ node value (cons y (cons w nil)) →
      AreOfOneValue v w → AreAlikeConsts t u

-- Two patterns are of different forms, or have unlike numbers of alternatives, and the error that says so.
pub data PatternError {Key Id Name : Type 0} (a b : Tree) (e : TypeError Key Id Name) : Type 0 where
  unlike_patterns : sort_of a ≡ pattern_sort → sort_of b ≡ pattern_sort → (AreOfOneForm a b → ⊥) → e ≡ Mismatch →
      PatternError a b e

-- Two signatures differ in what they say besides their types, or two lists of inputs in their number, and the error that
-- says so: the first of whether more may follow, safety, convention and number that differs.
pub data SignatureError {Key Id Name : Type 0} (a b : Tree) (e : TypeError Key Id Name) : Type 0 where
  unlike_variadic : {x y : Bool} {s t : Safety} {k l : ExternAbi} {ts us : Tree} → a ≡ node (signature x s k) ts →
      b ≡ node (signature y t l) us → x ≢ y → e ≡ VariadicMismatch (record { expected = x; found = y }) →
      SignatureError a b e
  unlike_safety : {x : Bool} {s t : Safety} {k l : ExternAbi} {ts us : Tree} → a ≡ node (signature x s k) ts →
      b ≡ node (signature x t l) us → s ≢ t → e ≡ SafetyMismatch (record { expected = s; found = t }) →
      SignatureError a b e
  unlike_abi : {x : Bool} {s : Safety} {k l : ExternAbi} {ts us : Tree} → a ≡ node (signature x s k) ts →
      b ≡ node (signature x s l) us → k ≢ l → e ≡ AbiMismatch (record { expected = k; found = l }) →
      SignatureError a b e
  unlike_counts : {ts us : Tree} → a ≡ node inputs ts → b ≡ node inputs us → count ts ≢ count us → e ≡ ArgCount →
      SignatureError a b e

-- Two predicates of trait objects are of one of the three forms.
pub data AreAlikeExistentials (a b : Tree) : Type 0 where
  both_traits : {c d : ℕ} {ts us : Tree} → a ≡ node (existential_trait c) ts → b ≡ node (existential_trait d) us →
      AreAlikeExistentials a b
  both_projections : {c d : ℕ} {ts us : Tree} → a ≡ node (existential_projection c) ts →
      b ≡ node (existential_projection d) us → AreAlikeExistentials a b
  both_auto_traits : {c d : ℕ} → a ≡ leaf (atom (existential_auto c)) → b ≡ leaf (atom (existential_auto d)) →
      AreAlikeExistentials a b

-- The same of two under their binders.
pub data AreAlikeMembers (t u : Tree) : Type 0 where
  under_binders : {ks ls : List BoundKind} {a b : Tree} → t ≡ bind ks a → u ≡ bind ls b → AreAlikeExistentials a b →
      AreAlikeMembers t u

-- An alias term, or a reference to a trait: over the arguments of an item.
abbrev pub IsItemHead : Head → Type 0
IsItemHead (alias_term k d) = Unit {0}
IsItemHead (trait_ref d) = Unit {0}
IsItemHead h = ⊥

-- What stands for a variable of a binder where that is opened: a variable of its sort, or a placeholder for it.
abbrev pub IsStandIn : BoundKind → Tree → Type 0
IsStandIn k (leaf (variable j n)) = var_sort j ≡ bound_sort k
IsStandIn k (leaf (placeholder q u n)) = q ≡ k
IsStandIn k t = ⊥

-- One for each variable of a binder.
abbrev pub StandFor : List BoundKind → List Tree → Type 0
StandFor [] [] = Unit {0}
StandFor (k ∷ ks) (x ∷ xs) = IsStandIn k x × StandFor ks xs
StandFor ks xs = ⊥

-- No error of the lengths of two arrays, as which constants that differ are sizes that differ.
abbrev pub IsNoLengths : {Key Id Name : Type 0} → TypeError Key Id Name → Tree → Tree → Type 0
IsNoLengths e t u = (p : ExpectedFound (ConstKey _)) → e ≡ ConstMismatch p → sort_of t ≡ const_sort →
    sort_of u ≡ const_sort → ⊥

-- An error of two parts of a function's signature, and the same with the place of these parts.
pub data IsPlaced {Key Id Name : Type 0} (i : ℕ) (e f : TypeError Key Id Name) : Type 0 where
  sorts_at : (p : ExpectedFound (TyKey Key)) → e ≡ Sorts p → f ≡ ArgumentSorts p i → IsPlaced i e f
  argument_sorts_at : (p : ExpectedFound (TyKey Key)) (j : ℕ) → e ≡ ArgumentSorts p j → f ≡ ArgumentSorts p i →
      IsPlaced i e f
  mutability_at : e ≡ Mutability → f ≡ ArgumentMutability i → IsPlaced i e f
  argument_mutability_at : (j : ℕ) → e ≡ ArgumentMutability j → f ≡ ArgumentMutability i → IsPlaced i e f

-- An error of parts of a signature that does not name their place.
abbrev pub NamesNoPlace : {Key Id Name : Type 0} → TypeError Key Id Name → Type 0
NamesNoPlace e = (f : TypeError _ _ _) → IsPlaced 0 e f → ⊥

-- An error of two parts at a place is the whole's error too. Not so of the lengths of two arrays; of a function's inputs
-- and its output, whose place is named; and of what values are made of, where the whole values differ.
abbrev pub IsHandedOn : {Key Id Name : Type 0} → TypeError Key Id Name → Head → ℕ → Tree → Tree → Type 0
IsHandedOn e (adt d) i t u = Unit {0}
IsHandedOn e (fn_def d) i t u = Unit {0}
IsHandedOn e (closure d) i t u = Unit {0}
IsHandedOn e (coroutine_closure d) i t u = Unit {0}
IsHandedOn e (coroutine d) i t u = Unit {0}
IsHandedOn e (coroutine_witness d) i t u = Unit {0}
IsHandedOn e array i t u = IsNoLengths e t u
IsHandedOn e slice i t u = Unit {0}
IsHandedOn e pattern_type i t u = Unit {0}
IsHandedOn e tuple i t u = Unit {0}
IsHandedOn e unsafe_binder i t u = Unit {0}
IsHandedOn e dynamic i t u = Unit {0}
IsHandedOn e fn_ptr i t u = Unit {0}
IsHandedOn e (raw_ptr x) i t u = Unit {0}
IsHandedOn e (ref x) i t u = Unit {0}
IsHandedOn e (alias k d) i t u = Unit {0}
IsHandedOn e (signature x s y) zero t u = Unit {0}
IsHandedOn e (signature x s y) (suc i) t u = NamesNoPlace e
IsHandedOn e inputs i t u = NamesNoPlace e
IsHandedOn e (unevaluated d) i t u = Unit {0}
IsHandedOn e (expression k) i t u = Unit {0}
IsHandedOn e value i t u = ⊥
IsHandedOn e value_type i t u = ⊥
IsHandedOn e value_branch i t u = ⊥
IsHandedOn e range_pattern i t u = Unit {0}
IsHandedOn e or_pattern i t u = Unit {0}
IsHandedOn e arguments i t u = Unit {0}
IsHandedOn e object i t u = Unit {0}
IsHandedOn e (existential_trait d) i t u = Unit {0}
IsHandedOn e (existential_projection d) i t u = Unit {0}
IsHandedOn e (trait_ref d) i t u = Unit {0}
IsHandedOn e (trait_clause p) i t u = Unit {0}
IsHandedOn e (host_effect z) i t u = Unit {0}
IsHandedOn e (subtype x) i t u = Unit {0}
IsHandedOn e (alias_term k d) i t u = Unit {0}
IsHandedOn e region_outlives i t u = Unit {0}
IsHandedOn e type_outlives i t u = Unit {0}
IsHandedOn e projection i t u = Unit {0}
IsHandedOn e const_has_type i t u = Unit {0}
IsHandedOn e well_formed i t u = Unit {0}
IsHandedOn e const_evaluatable i t u = Unit {0}
IsHandedOn e coerce i t u = Unit {0}
IsHandedOn e normalizes_to i t u = Unit {0}
IsHandedOn e (alias_relate d) i t u = Unit {0}
IsHandedOn e environment i t u = Unit {0}

-- The leaf stands in the term, outside the aliases in it where these are left to goals.
abbrev pub StandsSeen : StructurallyRelateAliases → Leaf → Tree → Type 0
StandsSeen g l (leaf k) = leaf k ≡ leaf l
StandsSeen g l (node h ts) = IsSeen g h × StandsSeen g l ts
StandsSeen g l (bind ks t) = StandsSeen g l t
StandsSeen g l nil = ⊥
StandsSeen g l (cons t ts) = StandsSeen g l t ⊎ StandsSeen g l ts

-- The variable stands in the term, which is not the variable itself. In an alias that is left to a goal it makes no
-- cycle, as a variable takes the alias's place where the term is bound.
abbrev pub IsCycle : StructurallyRelateAliases → VarKind → ℕ → Tree → Type 0
IsCycle g k n t = StandsSeen g (variable k n) t × (t ≢ leaf (variable k n))

-- The first of two terms is a variable that may be bound to the second: of a kind for which that may stand.
abbrev pub IsVariableFor : Tree → Tree → Type 0
IsVariableFor (leaf (variable k n)) u = MayStandFor k u
IsVariableFor (leaf (bound k d i)) u = ⊥
IsVariableFor (leaf (placeholder k w n)) u = ⊥
IsVariableFor (leaf (atom x)) u = ⊥
IsVariableFor (leaf unknown) u = ⊥
IsVariableFor (node h ts) u = ⊥
IsVariableFor (bind ks t) u = ⊥
IsVariableFor nil u = ⊥
IsVariableFor (cons t ts) u = ⊥

-- One of two terms is a variable that may be bound to the other.
abbrev pub AreBindable : Tree → Tree → Type 0
AreBindable t u = IsVariableFor t u ⊎ IsVariableFor u t

-- Neither of two terms stands for an error.
abbrev pub HaveNoError : Tree → Tree → Type 0
HaveNoError t u = (IsError t → ⊥) × (IsError u → ⊥)

-- By the entries of a store a type is read as another: itself; a variable as each of its class, and as what the term is
-- read as that it is bound to.
pub data IsReadAs (st : Store) : Tree → Tree → Type 0 where
  itself : {t u : Tree} → t ≡ u → IsReadAs st t u
  by_class : {t u : Tree} (k : VarKind) (n m : ℕ) → t ≡ leaf (variable k n) → AreEquated st k n m →
      IsReadAs st (leaf (variable k m)) u → IsReadAs st t u
  by_binding : {t u v : Tree} (k : VarKind) (n : ℕ) → t ≡ leaf (variable k n) → entry_of st k n ≡ bound_to u →
      IsReadAs st u v → IsReadAs st t v

-- An opaque type.
abbrev pub IsOpaque : Tree → Type 0
IsOpaque (node (alias opaque_alias d) ts) = Unit {0}
IsOpaque t = ⊥

-- An opaque type is left open beside another type that is no variable.
abbrev pub IsOpaqueBeside : Tree → Tree → Type 0
IsOpaqueBeside t (leaf (variable k n)) = ⊥
IsOpaqueBeside t u = IsOpaque t

-- A pair is left to a goal, as a relation is set up: one of the two is an alias, and aliases are; or an opaque type beside
-- no variable, and opaque types are.
abbrev pub IsDeferred : Settings → Tree → Tree → Type 0
IsDeferred k a b = (DefersAliases k × (IsAlias a ⊎ IsAlias b)) ⊎
    (LeavesOpaque k × (IsOpaqueBeside a b ⊎ IsOpaqueBeside b a))

-- How two terms are brought together: as a pair that is met, which may be left to a goal, or a variable bound by it; or
-- as two forms, which are related by their parts alone.
pub data Meeting : Type 0 where
  as_pair as_forms : Meeting

module _ {Key Id Name : Type 0} (m : Meaning Key Id Name) where
  -- The outermost forms of two types differ, and the error that says how.
  pub data FormError (x y : TyKey Key) : TypeError Key Id Name → Type 0 where
    mutability : {u v : _} {ts us : Tree} → m.ty x ≡ node (ref u) ts → m.ty y ≡ node (ref v) us → u ≢ v →
        FormError x y Mutability
    pointer_mutability : {u v : _} {ts us : Tree} → m.ty x ≡ node (raw_ptr u) ts → m.ty y ≡ node (raw_ptr v) us →
        u ≢ v → FormError x y Mutability
    tuple_size : {ts us : Tree} → m.ty x ≡ node tuple ts → m.ty y ≡ node tuple us → 0 < count ts → 0 < count us →
        count ts ≢ count us → FormError x y (TupleSize (record { expected = count ts; found = count us }))
    empty_tuple : {ts us : Tree} → m.ty x ≡ node tuple ts → m.ty y ≡ node tuple us → count ts ≢ count us →
        (count ts ≡ zero) ⊎ (count us ≡ zero) → FormError x y (Sorts (record { expected = x; found = y }))
    as_many : {h : Head} {ts us : Tree} → m.ty x ≡ node h ts → m.ty y ≡ node h us → h ≢ tuple →
        count ts ≢ count us → FormError x y (Sorts (record { expected = x; found = y }))
    alias_arguments : {k l : AliasKind} {d : ℕ} {ts us : Tree} → m.ty x ≡ node (alias k d) ts →
        m.ty y ≡ node (alias l d) us → count ts ≢ count us →
        FormError x y (Sorts (record { expected = x; found = y }))
    unlike_aliases : {k l : AliasKind} {ts us : Tree} (c d : Id) → m.ty x ≡ node (alias k (m.id c)) ts →
        m.ty y ≡ node (alias l (m.id d)) us → m.id c ≢ m.id d →
        FormError x y (ProjectionMismatched (record { expected = c; found = d }))
    sorts : HaveNoError (m.ty x) (m.ty y) → (AreAlike (m.ty x) (m.ty y) → ⊥) →
        FormError x y (Sorts (record { expected = x; found = y }))

  -- The outermost forms of two constants differ, and the error that says how.
  pub data ConstFormError (x y : ConstKey Key) : TypeError Key Id Name → Type 0 where
    const_mismatch : HaveNoError (m.const_ x) (m.const_ y) → (AreAlikeConsts (m.const_ x) (m.const_ y) → ⊥) →
        ConstFormError x y (ConstMismatch (record { expected = x; found = y }))
    operations : {k l : ℕ} {ts us : Tree} → m.const_ x ≡ node (expression k) ts → m.const_ y ≡ node (expression l) us →
        (k ≢ l) ⊎ (count ts ≢ count us) → ConstFormError x y Mismatch

  -- Two predicates of trait objects are over different items, of different forms or with unlike numbers of arguments, and
  -- the error that says so.
  pub data ExistentialError (a b : Tree) : TypeError Key Id Name → Type 0 where
    unlike_traits : {ts us : Tree} (c d : TraitId Id) → a ≡ node (existential_trait (m.id c.0)) ts →
        b ≡ node (existential_trait (m.id d.0)) us → m.id c.0 ≢ m.id d.0 →
        ExistentialError a b (Traits (record { expected = c; found = d }))
    unlike_auto_traits : (c d : TraitId Id) → a ≡ leaf (atom (existential_auto (m.id c.0))) →
        b ≡ leaf (atom (existential_auto (m.id d.0))) → m.id c.0 ≢ m.id d.0 →
        ExistentialError a b (Traits (record { expected = c; found = d }))
    unlike_projections : {ts us : Tree} (c d : Id) → a ≡ node (existential_projection (m.id c)) ts →
        b ≡ node (existential_projection (m.id d)) us → m.id c ≢ m.id d →
        ExistentialError a b (ProjectionMismatched (record { expected = c; found = d }))
    unlike_arguments : {h : Head} {ts us : Tree} → head_sort h ≡ existential_sort → a ≡ node h ts → b ≡ node h us →
        count ts ≢ count us → ExistentialError a b Mismatch
    unlike_existentials : sort_of a ≡ existential_sort → sort_of b ≡ existential_sort →
        (AreAlikeExistentials a b → ⊥) → ExistentialError a b Mismatch

  -- Two alias terms, or two trait references, are of unlike items or have unlike numbers of arguments, or two predicates
  -- of traits are of unlike polarities, and the error that says so. Of alias terms it is looked at too which are opaque.
  pub data ItemError (a b : Tree) : TypeError Key Id Name → Type 0 where
    unlike_alias_terms : {k l : AliasTermKind} {ts us : Tree} (c d : Id) → a ≡ node (alias_term k (m.id c)) ts →
        b ≡ node (alias_term l (m.id d)) us → plain (alias_term k (m.id c)) ≢ plain (alias_term l (m.id d)) →
        ItemError a b (ProjectionMismatched (record { expected = c; found = d }))
    unlike_trait_refs : {ts us : Tree} (c d : TraitId Id) → a ≡ node (trait_ref (m.id c.0)) ts →
        b ≡ node (trait_ref (m.id d.0)) us → m.id c.0 ≢ m.id d.0 →
        ItemError a b (Traits (record { expected = c; found = d }))
    unlike_lists : {h k : Head} {ts us : Tree} → IsItemHead h → plain h ≡ plain k → a ≡ node h ts → b ≡ node k us →
        count ts ≢ count us → ItemError a b Mismatch
    unlike_polarities : {p q : PredicatePolarity} {ts us : Tree} → a ≡ node (trait_clause p) ts →
        b ≡ node (trait_clause q) us → p ≢ q → ItemError a b (PolarityMismatch (record { expected = p; found = q }))

  -- Two trait objects have unlike numbers of predicates, or at one place such of different forms.
  pub data ObjectError (x y : ExistentialPredicatesKey Key) : TypeError Key Id Name → Type 0 where
    unlike_numbers : count (m.existential_predicates x) ≢ count (m.existential_predicates y) →
        ObjectError x y (ExistentialMismatch (record { expected = x; found = y }))
    unlike_members : (i : ℕ) → i < count (m.existential_predicates x) → i < count (m.existential_predicates y) →
        (AreAlikeMembers (nth i (m.existential_predicates x)) (nth i (m.existential_predicates y)) → ⊥) →
        ObjectError x y (ExistentialMismatch (record { expected = x; found = y }))

  -- Two patterns, signatures, lists of inputs, predicates of trait objects or lists of these, aliases, trait references or
  -- predicates of traits are not of one form, and the error that says so.
  pub data PartError (a b : Tree) (e : TypeError Key Id Name) : Type 0 where
    pattern_error : PatternError a b e → PartError a b e
    signature_error : SignatureError a b e → PartError a b e
    existential_error : ExistentialError a b e → PartError a b e
    item_error : ItemError a b e → PartError a b e
    object_error : (x y : ExistentialPredicatesKey Key) → node object (m.existential_predicates x) ≡ a →
        node object (m.existential_predicates y) ≡ b → ObjectError x y e → PartError a b e

  -- A variable can't be bound to a term, and the error that says why: it stands in what the term comes to; or there
  -- stands a placeholder of a type or a constant that is of a universe beyond the variable's. What stands in aliases
  -- counts where these are related by their parts.
  pub data BindingError (g : StructurallyRelateAliases) (st : Store) (a b : Tree) (e : TypeError Key Id Name) :
      Type 0 where
    cyclic_ty : (n : ℕ) (k : TyKey Key) → a ≡ leaf (variable type_var n) → m.ty k ≡ apply (resolved st) b →
        IsCycle g type_var n (m.ty k) → e ≡ CyclicTy k → BindingError g st a b e
    cyclic_const : (n : ℕ) (k : ConstKey Key) → a ≡ leaf (variable const_var n) →
        m.const_ k ≡ apply (resolved st) b → IsCycle g const_var n (m.const_ k) → e ≡ CyclicConst k →
        BindingError g st a b e
    beyond : (k : VarKind) (n : ℕ) (q : BoundKind) (u i : ℕ) → a ≡ leaf (variable k n) →
        StandsSeen g (placeholder q u i) (apply (resolved st) b) → bound_sort q ≢ region_sort →
        universe_of st k n < u → e ≡ Mismatch → BindingError g st a b e

  mutual
    -- The error comes of a pair that is met when two terms are related at a variance that is not bivariance: of what they
    -- are read as by what is recorded; of the bodies of two binders, with variables or placeholders for what these bind;
    -- of a variable that can't be bound to the other side; of two arguments of different kinds; or, where the pair isn't
    -- left to a goal, of the two as forms.
    pub data ErrorOf (k : Settings) (c : Items) (st : Store) : Variance → TypeError Key Id Name → Tree → Tree → Type 0 where
      of_entries : {v : Variance} {e : _} {a b t u : Tree} → IsReadAs st a t → IsReadAs st b u →
          ErrorOf k c st v e t u → ErrorOf k c st v e a b
      of_bodies : {v : Variance} {e : _} {ks ls : List BoundKind} {a b t u : Tree} (xs ys : List Tree) →
          a ≡ bind ks t → b ≡ bind ls u → StandFor ks xs → StandFor ls ys →
          ErrorOf k c st v e (inst xs 0 t) (inst ys 0 u) → ErrorOf k c st v e a b
      of_binding : {v : Variance} {e : _} {a b : Tree} → v ≢ Bivariant →
          BindingError k.structurally_relate_aliases st a b e → ErrorOf k c st v e a b
      of_binding_back : {v : Variance} {e : _} {a b : Tree} → v ≢ Bivariant →
          BindingError k.structurally_relate_aliases st b a e → ErrorOf k c st v e a b
      of_kinds : {v : Variance} {a b : Tree} → v ≢ Bivariant → sort_of a ≢ sort_of b → ErrorOf k c st v Mismatch a b
      by_forms : {v : Variance} {e : _} {a b : Tree} → (IsDeferred k a b → ⊥) → ErrorByForms k c st v e a b →
          ErrorOf k c st v e a b

    -- The error comes of two as forms: of two types, constants, patterns, signatures or predicates of trait objects that
    -- differ in form; or of a pair that is met, two parts at one place of one form, at the variance of that place, as the
    -- whole's error. Two terms of which one is a variable that may be bound to the other do not differ in form.
    pub data ErrorByForms (k : Settings) (c : Items) (st : Store) : Variance → TypeError Key Id Name → Tree → Tree →
        Type 0 where
      of_forms : {v : Variance} {e : _} {a b : Tree} (x y : TyKey Key) → v ≢ Bivariant → m.ty x ≡ a → m.ty y ≡ b →
          (AreBindable a b → ⊥) → FormError x y e → ErrorByForms k c st v e a b
      of_const_forms : {v : Variance} {e : _} {a b : Tree} (x y : ConstKey Key) → v ≢ Bivariant → m.const_ x ≡ a →
          m.const_ y ≡ b → (AreBindable a b → ⊥) → ConstFormError x y e → ErrorByForms k c st v e a b
      of_part_forms : {v : Variance} {e : _} {a b : Tree} → v ≢ Bivariant → PartError a b e →
          ErrorByForms k c st v e a b
      of_parts : {v : Variance} {e : _} {h : Head} {a b ts us : Tree} (i : ℕ) → a ≡ node h ts → b ≡ node h us →
          count ts ≡ count us → i < count ts → IsHandedOn e h i (nth i ts) (nth i us) →
          ErrorOf k c st (part_at c h i v) e (nth i ts) (nth i us) → ErrorByForms k c st v e a b
      of_alias_parts : {v : Variance} {e : _} {h l : AliasKind} {d : ℕ} {a b ts us : Tree} (i : ℕ) →
          a ≡ node (alias h d) ts → b ≡ node (alias l d) us → count ts ≡ count us → i < count ts →
          ErrorOf k c st (part_at c (alias h d) i v) e (nth i ts) (nth i us) → ErrorByForms k c st v e a b
      of_alias_term_parts : {v : Variance} {e : _} {h l : AliasTermKind} {d : ℕ} {a b ts us : Tree} (i : ℕ) →
          a ≡ node (alias_term h d) ts → b ≡ node (alias_term l d) us → plain_kind h ≡ plain_kind l →
          count ts ≡ count us → i < count ts → ErrorOf k c st (part_at c (alias_term h d) i v) e (nth i ts) (nth i us) →
          ErrorByForms k c st v e a b
      of_trait_refs : {v : Variance} {e : _} {p q : PredicatePolarity} {a b t u : Tree} →
          a ≡ node (trait_clause p) (cons t nil) → b ≡ node (trait_clause q) (cons u nil) →
          ErrorOf k c st (part_at c (trait_clause p) 0 v) e t u → ErrorByForms k c st v e a b
      of_length : {v : Variance} {p : ExpectedFound (ConstKey Key)} {a b ts us : Tree} (x y : ConstKey Key) (i : ℕ) →
          a ≡ node array ts → b ≡ node array us → count ts ≡ count us → i < count ts → nth i ts ≡ m.const_ x →
          nth i us ≡ m.const_ y → ErrorOf k c st (part_at c array i v) (ConstMismatch p) (nth i ts) (nth i us) →
          ErrorByForms k c st v (ArraySize (record { expected = x; found = y })) a b
      of_inputs : {v : Variance} {e f : _} {a b ts us : Tree} (i : ℕ) → a ≡ node inputs ts → b ≡ node inputs us →
          count ts ≡ count us → i < count ts → ErrorOf k c st (part_at c inputs i v) e (nth i ts) (nth i us) →
          IsPlaced i e f → ErrorByForms k c st v f a b
      of_outputs : {v : Variance} {e f : _} {x : Bool} {s : Safety} {w : ExternAbi} {a b p q o r : Tree} →
          a ≡ node (signature x s w) (cons (node inputs p) (cons o nil)) →
          b ≡ node (signature x s w) (cons (node inputs q) (cons r nil)) → count p ≡ count q →
          ErrorOf k c st (part_at c (signature x s w) 1 v) e o r → IsPlaced (count p) e f →
          ErrorByForms k c st v f a b
      of_branches : {v : Variance} {e : _} {t u ts us : Tree} (x y : ConstKey Key) (i : ℕ) →
          m.const_ x ≡ node value (cons t (cons (node value_branch ts) nil)) →
          m.const_ y ≡ node value (cons u (cons (node value_branch us) nil)) → count ts ≡ count us → i < count ts →
          ErrorOf k c st (part_at c value_branch i v) e (nth i ts) (nth i us) →
          ErrorByForms k c st v (ConstMismatch (record { expected = x; found = y })) (m.const_ x) (m.const_ y)

  -- The error comes of two terms, as they are brought together.
  abbrev pub ErrorAs : Meeting → Settings → Items → Store → Variance → TypeError Key Id Name → Tree → Tree → Type 0
  ErrorAs as_pair k c st v e a b = ErrorOf k c st v e a b
  ErrorAs as_forms k c st v e a b = ErrorByForms k c st v e a b
