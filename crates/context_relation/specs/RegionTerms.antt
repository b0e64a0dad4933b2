-- Variable-free terms that are first-order but for binders of regions, and what relates them where all regions
-- outlive each other.
use Rattle.std.specs.Prelude.{◌≡◌, ◌↔◌, None}
use Rattle.term_enums.specs.declared.Variance.{Variance}
use Rattle.relation_terms.specs.Heads.{Sort, region_sort, bound_sort, Head, fn_ptr, unsafe_binder, Leaf}
use Rattle.relation_terms.specs.Heads.{variable, bound, placeholder, atom, unknown}
use Rattle.relation_terms.specs.Trees.{Tree, leaf, node, bind, nil, cons, IsTerm}
use Rattle.relation_terms.specs.Erasure.{erase}
use Rattle.relation_semantics.specs.Relation.{Items, Interpretation, at, Rel}
use Rattle.relation_semantics.specs.FirstOrder.{IsFirstOrderAtom, IsFirstOrderHead}
use Rattle.relation_semantics.specs.Agreeing.{Agree}
use Rattle.relation_semantics.specs.Asking.{BindsRegions}
use Rattle.relation_semantics.specs.Settings.{Settings}

abbrev pub IsRegionTermHead : Head → Type 0
IsRegionTermHead fn_ptr = Unit {0}
IsRegionTermHead unsafe_binder = Unit {0}
IsRegionTermHead h = IsFirstOrderHead h

-- Of bound variables regions alone, of inference variables none.
abbrev pub IsRegionTermLeaf : Leaf → Type 0
IsRegionTermLeaf (variable k n) = ⊥
IsRegionTermLeaf (bound k d i) = bound_sort k ≡ region_sort
IsRegionTermLeaf (placeholder k u n) = Unit {0}
IsRegionTermLeaf (atom x) = IsFirstOrderAtom x
IsRegionTermLeaf unknown = ⊥

abbrev pub IsRegionTerm : Tree → Type 0
IsRegionTerm (leaf l) = IsRegionTermLeaf l
IsRegionTerm (node h ts) = IsRegionTermHead h × IsRegionTerm ts
IsRegionTerm (bind ks t) = BindsRegions ks × IsRegionTerm t
IsRegionTerm nil = Unit {0}
IsRegionTerm (cons t ts) = IsRegionTerm t × IsRegionTerm ts

-- Such terms that are in the relation have erasures that agree, however a relation is set up.
abbrev pub RelatedTermsAgree : Type 0
RelatedTermsAgree = (k : Settings) (c : Items) (w : Interpretation) (e : Tree) (v : Variance) (a b : Tree) →
    IsRegionTerm a → IsRegionTerm b → Rel c w e (at v) a b → Agree k c (at v) (erase a) (erase b)

-- Where all regions outlive each other, they are in the relation just where their erasures agree.
abbrev pub RelatedIffAgree : Type 0
RelatedIffAgree = (k : Settings) (c : Items) (w : Interpretation) (e : Tree) (v : Variance) (s : Sort) (a b : Tree) →
    w.outlives ≡ None → IsTerm s a → IsTerm s b → IsRegionTerm a → IsRegionTerm b →
    Rel c w e (at v) a b ↔ Agree k c (at v) (erase a) (erase b)
