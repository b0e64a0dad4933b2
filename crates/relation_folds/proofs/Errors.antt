-- The terms that errors name.
use Rattle.std.proofs.Common.{◌≡◌, refl, IsTrue}
use Rattle.relation_terms.specs.Trees.{nil, known}
use Rattle.relation_terms.specs.Meaning.{Meaning}
use Rattle.relation_terms.specs.declared.terms.keys.TyKey.{TyKey}
use Rattle.relation_terms.specs.declared.terms.keys.RegionKey.{RegionKey}
use Rattle.relation_terms.specs.declared.terms.keys.ConstKey.{ConstKey}
use Rattle.relation_terms.specs.declared.terms.keys.ExistentialPredicatesKey.{ExistentialPredicatesKey}
use Rattle.relation_terms.specs.declared.terms.region_kind.BoundRegion.{BoundRegion}
use Rattle.relation_folds.specs.declared.error.ExpectedFound.{ExpectedFound}
use Rattle.relation_folds.specs.declared.error.TypeError.{TypeError}
use Rattle.relation_folds.specs.declared.error.TypeError.TheVariants.{ArraySize, RegionsDoesNotOutlive}
use Rattle.relation_folds.specs.declared.error.TypeError.TheVariants.{RegionsInsufficientlyPolymorphic, Sorts}
use Rattle.relation_folds.specs.declared.error.TypeError.TheVariants.{ArgumentSorts, CyclicTy, CyclicConst}
use Rattle.relation_folds.specs.declared.error.TypeError.TheVariants.{ConstMismatch, ExistentialMismatch}
use Rattle.relation_folds.specs.Faults.{KnowsError, error_tree}
use Rattle.relation_folds.proofs.FieldFolding.{both_known}

-- The errors that name no term.
pub names_nothing : {Key Id Name : Type 0} (m : Meaning Key Id Name) (e : TypeError Key Id Name) →
    ((p : ExpectedFound (ConstKey Key)) → e ≡ ArraySize p → ⊥) →
    ((r s : RegionKey Key) → e ≡ RegionsDoesNotOutlive r s → ⊥) →
    ((b : BoundRegion Name) (r : RegionKey Key) → e ≡ RegionsInsufficientlyPolymorphic b r → ⊥) →
    ((p : ExpectedFound (TyKey Key)) → e ≡ Sorts p → ⊥) →
    ((p : ExpectedFound (TyKey Key)) (i : _) → e ≡ ArgumentSorts p i → ⊥) →
    ((t : TyKey Key) → e ≡ CyclicTy t → ⊥) →
    ((c : ConstKey Key) → e ≡ CyclicConst c → ⊥) →
    ((p : ExpectedFound (ExistentialPredicatesKey Key)) → e ≡ ExistentialMismatch p → ⊥) →
    ((p : ExpectedFound (ConstKey Key)) → e ≡ ConstMismatch p → ⊥) → error_tree m e ≡ nil
names_nothing m (ArraySize p) f1 f2 f3 f4 f5 f6 f7 f8 f9 = absurd (f1 p refl)
names_nothing m (RegionsDoesNotOutlive r s) f1 f2 f3 f4 f5 f6 f7 f8 f9 = absurd (f2 r s refl)
names_nothing m (RegionsInsufficientlyPolymorphic b r) f1 f2 f3 f4 f5 f6 f7 f8 f9 = absurd (f3 b r refl)
names_nothing m (Sorts p) f1 f2 f3 f4 f5 f6 f7 f8 f9 = absurd (f4 p refl)
names_nothing m (ArgumentSorts p i) f1 f2 f3 f4 f5 f6 f7 f8 f9 = absurd (f5 p i refl)
names_nothing m (CyclicTy t) f1 f2 f3 f4 f5 f6 f7 f8 f9 = absurd (f6 t refl)
names_nothing m (CyclicConst c) f1 f2 f3 f4 f5 f6 f7 f8 f9 = absurd (f7 c refl)
names_nothing m (ExistentialMismatch p) f1 f2 f3 f4 f5 f6 f7 f8 f9 = absurd (f8 p refl)
names_nothing m (ConstMismatch p) f1 f2 f3 f4 f5 f6 f7 f8 f9 = absurd (f9 p refl)
names_nothing m e f1 f2 f3 f4 f5 f6 f7 f8 f9 = refl

-- Of an error whose terms are known, all that a visit goes over is known.
pub error_known : {Key Id Name : Type 0} (m : Meaning Key Id Name) (e : TypeError Key Id Name) → KnowsError m e →
    IsTrue (known (error_tree m e))
error_known m (ArraySize p) h = both_known (m.const_ p.expected) (m.const_ p.found) h.0 h.1
error_known m (RegionsDoesNotOutlive r s) h = both_known (m.region r) (m.region s) h.0 h.1
error_known m (RegionsInsufficientlyPolymorphic b r) h = h
error_known m (Sorts p) h = both_known (m.ty p.expected) (m.ty p.found) h.0 h.1
error_known m (ArgumentSorts p i) h = both_known (m.ty p.expected) (m.ty p.found) h.0 h.1
error_known m (CyclicTy t) h = h
error_known m (CyclicConst c) h = h
error_known m (ExistentialMismatch p) h =
    both_known (m.existential_predicates p.expected) (m.existential_predicates p.found) h.0 h.1
error_known m (ConstMismatch p) h = both_known (m.const_ p.expected) (m.const_ p.found) h.0 h.1
error_known m e h = refl
