-- No type and no constant is a region.
use Rattle.relation_terms.specs.Heads.{region_sort, type_sort, const_sort}
use Rattle.relation_terms.specs.Meaning.{Meaning}
use Rattle.relation_terms.specs.Interning.{Sorted}
use Rattle.relation_terms.specs.declared.terms.keys.TyKey.{TyKey}
use Rattle.relation_terms.specs.declared.terms.keys.ConstKey.{ConstKey}
use Rattle.relation_terms.proofs.Once.{apart, region_no_type, region_no_const}
use Rattle.relation_semantics.specs.Stores.{Store, IsRegionIn}
use Rattle.relation_regions.proofs.RegionNumbers.{region_known}

-- The key of a type, or of a constant, has no region.
pub no_type : {Key Id Name : Type 0} (m : Meaning Key Id Name) (st : Store) (k : TyKey Key) → Sorted m →
    IsRegionIn st (m.ty k) → ⊥
no_type m st k h r = apart region_sort type_sort region_no_type (m.ty k) r.0 (h.ty k (region_known st (m.ty k) r))

pub no_const : {Key Id Name : Type 0} (m : Meaning Key Id Name) (st : Store) (k : ConstKey Key) → Sorted m →
    IsRegionIn st (m.const_ k) → ⊥
no_const m st k h r = apart region_sort const_sort region_no_const (m.const_ k) r.0 (h.const_ k (region_known st (m.const_ k) r))
