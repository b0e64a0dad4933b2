-- What errors are about, and what an interner knows of the terms that an error names.
use Rattle.std.specs.Prelude.{◌≡◌, refl, IsTrue, [], ◌∷◌, Result, Ok, Err}
use Rattle.relation_terms.specs.Trees.{Tree, nil, cons, known}
use Rattle.relation_terms.specs.Meaning.{Meaning, Extends}
use Rattle.relation_terms.proofs.Stays.{stays_list}
use Rattle.relation_folds.specs.declared.error.ExpectedFound.{ExpectedFound}
use Rattle.relation_folds.specs.declared.error.TypeError.{TypeError}
use Rattle.relation_folds.specs.declared.error.TypeError.TheVariants.{Mismatch, PolarityMismatch, SafetyMismatch}
use Rattle.relation_folds.specs.declared.error.TypeError.TheVariants.{AbiMismatch, ArraySize, Sorts, ArgumentSorts}
use Rattle.relation_folds.specs.declared.error.TypeError.TheVariants.{RegionsDoesNotOutlive}
use Rattle.relation_folds.specs.declared.error.TypeError.TheVariants.{RegionsInsufficientlyPolymorphic}
use Rattle.relation_folds.specs.declared.error.TypeError.TheVariants.{RegionsPlaceholderMismatch, VariadicMismatch}
use Rattle.relation_folds.specs.declared.error.TypeError.TheVariants.{CyclicTy, CyclicConst, ExistentialMismatch}
use Rattle.relation_folds.specs.declared.error.TypeError.TheVariants.{ConstMismatch, TargetFeatureCast}
use Rattle.relation_folds.specs.declared.error.TypeError.TheVariants.{Mutability, ArgumentMutability, TupleSize}
use Rattle.relation_folds.specs.declared.error.TypeError.TheVariants.{ArgCount, Traits, ProjectionMismatched}
use Rattle.relation_folds.specs.declared.error.TypeError.TheVariants.{IntrinsicCast, ForceInlineCast}
use Rattle.relation_folds.specs.declared.error.RelateFault.{RelateFault}
use Rattle.relation_folds.specs.declared.error.RelateFault.TheVariants.{Memory, Budget, Unrelated}

-- The errors about regions.
abbrev pub InvolvesRegions : {X D N : Type 0} → TypeError X D N → Type 0
InvolvesRegions (RegionsDoesNotOutlive r s) = Unit {0}
InvolvesRegions (RegionsInsufficientlyPolymorphic b r) = Unit {0}
InvolvesRegions RegionsPlaceholderMismatch = Unit {0}
InvolvesRegions e = ⊥

-- The errors that a report of two terms has to say beside the terms: all but these.
abbrev pub MustIncludeNote : {X D N : Type 0} → TypeError X D N → Type 0
MustIncludeNote (CyclicTy t) = ⊥
MustIncludeNote (CyclicConst c) = ⊥
MustIncludeNote (SafetyMismatch s) = ⊥
MustIncludeNote (PolarityMismatch p) = ⊥
MustIncludeNote Mismatch = ⊥
MustIncludeNote (AbiMismatch a) = ⊥
MustIncludeNote (ArraySize n) = ⊥
MustIncludeNote (ArgumentSorts ts i) = ⊥
MustIncludeNote (Sorts ts) = ⊥
MustIncludeNote (VariadicMismatch v) = ⊥
MustIncludeNote (TargetFeatureCast d) = ⊥
MustIncludeNote e = Unit {0}

-- The trees of both of a pair, the expected one first.
abbrev pub pair_tree : {A : Type 0} → (A → Tree) → ExpectedFound A → Tree
pair_tree tree pair = cons (tree pair.expected) (cons (tree pair.found) nil)

-- The tree of an error: the types, regions, constants and lists of predicates that it names, in order.
abbrev pub error_tree : {Key Id Name : Type 0} → Meaning Key Id Name → TypeError Key Id Name → Tree
error_tree m (ArraySize sizes) = pair_tree m.const_ sizes
error_tree m (RegionsDoesNotOutlive r s) = cons (m.region r) (cons (m.region s) nil)
error_tree m (RegionsInsufficientlyPolymorphic b r) = m.region r
error_tree m (Sorts types) = pair_tree m.ty types
error_tree m (ArgumentSorts types i) = pair_tree m.ty types
error_tree m (CyclicTy t) = m.ty t
error_tree m (CyclicConst c) = m.const_ c
error_tree m (ExistentialMismatch lists) = pair_tree m.existential_predicates lists
error_tree m (ConstMismatch constants) = pair_tree m.const_ constants
error_tree m Mismatch = nil
error_tree m (PolarityMismatch polarities) = nil
error_tree m (SafetyMismatch safeties) = nil
error_tree m (AbiMismatch abis) = nil
error_tree m Mutability = nil
error_tree m (ArgumentMutability i) = nil
error_tree m (TupleSize sizes) = nil
error_tree m ArgCount = nil
error_tree m RegionsPlaceholderMismatch = nil
error_tree m (Traits traits) = nil
error_tree m (VariadicMismatch variadics) = nil
error_tree m (ProjectionMismatched items) = nil
error_tree m IntrinsicCast = nil
error_tree m ForceInlineCast = nil
error_tree m (TargetFeatureCast d) = nil

-- Known terms that an error names keep their trees while the interner grows.
pub stays_pair : {A : Type 0} (f g : A → Tree) (p : ExpectedFound A) → ((x : A) → IsTrue (known (f x)) → g x ≡ f x) →
    IsTrue (known (pair_tree f p)) → pair_tree g p ≡ pair_tree f p
stays_pair f g p s h = stays_list f g (p.expected ∷ p.found ∷ []) s h

pub stays_error : {Key Id Name : Type 0} {m n : Meaning Key Id Name} → Extends m n → (e : TypeError Key Id Name) →
    IsTrue (known (error_tree m e)) → error_tree n e ≡ error_tree m e
stays_error {m = m} {n = n} x (ArraySize p) h = stays_pair m.const_ n.const_ p x.const_ h
stays_error {m = m} {n = n} x (RegionsDoesNotOutlive r s) h = stays_list m.region n.region (r ∷ s ∷ []) x.region h
stays_error x (RegionsInsufficientlyPolymorphic b r) h = x.region r h
stays_error {m = m} {n = n} x (Sorts p) h = stays_pair m.ty n.ty p x.ty h
stays_error {m = m} {n = n} x (ArgumentSorts p i) h = stays_pair m.ty n.ty p x.ty h
stays_error x (CyclicTy t) h = x.ty t h
stays_error x (CyclicConst c) h = x.const_ c h
stays_error {m = m} {n = n} x (ExistentialMismatch p) h =
    stays_pair m.existential_predicates n.existential_predicates p x.existential_predicates h
stays_error {m = m} {n = n} x (ConstMismatch p) h = stays_pair m.const_ n.const_ p x.const_ h
stays_error x e h = refl

-- Both trees are known.
abbrev pub KnowsBoth : {A : Type 0} → (A → Tree) → ExpectedFound A → Type 0
KnowsBoth tree pair = IsTrue (known (tree pair.expected)) × IsTrue (known (tree pair.found))

module _ {Key Id Name : Type 0} (m : Meaning Key Id Name) where
  -- The types, regions, constants and lists that an error names are known.
  abbrev pub KnowsError : TypeError Key Id Name → Type 0
  KnowsError (ArraySize sizes) = KnowsBoth m.const_ sizes
  KnowsError (RegionsDoesNotOutlive r s) = IsTrue (known (m.region r)) × IsTrue (known (m.region s))
  KnowsError (RegionsInsufficientlyPolymorphic b r) = IsTrue (known (m.region r))
  KnowsError (Sorts types) = KnowsBoth m.ty types
  KnowsError (ArgumentSorts types i) = KnowsBoth m.ty types
  KnowsError (CyclicTy t) = IsTrue (known (m.ty t))
  KnowsError (CyclicConst c) = IsTrue (known (m.const_ c))
  KnowsError (ExistentialMismatch lists) = KnowsBoth m.existential_predicates lists
  KnowsError (ConstMismatch constants) = KnowsBoth m.const_ constants
  KnowsError e = Unit {0}

  -- Those of the error, where there is one.
  abbrev pub KnowsFault : RelateFault Key Id Name → Type 0
  KnowsFault Memory = Unit {0}
  KnowsFault Budget = Unit {0}
  KnowsFault (Unrelated e) = KnowsError e

-- What is said of the error where terms do not relate, and what where no instantiation is left.
abbrev pub IfUnrelated : {A X D N : Type 0} → Result A (RelateFault X D N) → (TypeError X D N → Type 0) → Type 0
IfUnrelated (Ok x) P = Unit {0}
IfUnrelated (Err Memory) P = Unit {0}
IfUnrelated (Err Budget) P = Unit {0}
IfUnrelated (Err (Unrelated e)) P = P e

abbrev pub IfSpent : {A X D N : Type 0} → Result A (RelateFault X D N) → Type 0 → Type 0
IfSpent (Ok x) P = Unit {0}
IfSpent (Err Memory) P = Unit {0}
IfSpent (Err Budget) P = P
IfSpent (Err (Unrelated e)) P = Unit {0}
