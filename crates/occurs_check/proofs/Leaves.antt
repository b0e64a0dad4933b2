-- What becomes of leaves.
use Rattle.std.proofs.Common.{◌≡◌, ◌≢◌, ℕ, ◌≤◌, refl, sym, ap, ◌∙◌, subst, Option, Some, IsTrue}
use Rattle.std.proofs.lemmas.Bool.{false≢true}
use Rattle.term_enums.specs.declared.Variance.{Variance}
use Rattle.relation_terms.specs.declared.terms.part_kind.Part.{Part}
use Rattle.relation_terms.specs.declared.terms.part_kind.Part.TheVariants.{Region, Ty, Const, ValTree, Pat, ValueType, Binder, Signature, Inputs, Existential, Object}
use Rattle.relation_terms.specs.declared.terms.keys.RegionKey.{RegionKey}
use Rattle.relation_terms.specs.Heads.{region_kind, type_kind, const_kind, region_sort, BoundKind, bound_kind, bound_sort, VarKind, type_var, int_var, float_var, const_var, region_var, static_region, early_region, Leaf, leaf_sort, var_sort, variable, bound, placeholder, atom, unknown}
use Rattle.relation_terms.specs.Trees.{Tree, leaf, known}
use Rattle.relation_terms.specs.Parts.{part_sort, tree_sort}
use Rattle.relation_semantics.specs.Stores.{Store}
use Rattle.relation_semantics.specs.Generalising.{Stays}
use Rattle.occurs_check.specs.declared.fates.Fate.TheVariants.{ByParts}
use Rattle.occurs_check.specs.declared.term_vid.TermVid.{TermVid}
use Rattle.occurs_check.specs.declared.term_vid.TermVid.TheVariants.{Ty as TyTerm, Const as ConstTerm}
use Rattle.occurs_check.specs.TermVids.{vid_kind, vid_number}
use Rattle.occurs_check.specs.Fates.{new_kind, IsFate}

-- All that is left stays.
pub left_stays : (st : Store) (k : VarKind) (n u : ℕ) (v : Variance) (t : Tree) → IsTrue (known t) → (tree_sort t ≡ region_sort → ⊥) →
    ((j : TermVid) → t ≡ leaf (variable (vid_kind j) (vid_number j)) → ⊥) →
    ((q : BoundKind) (w i : ℕ) → t ≡ leaf (placeholder q w i) → bound_sort q ≢ region_sort → w ≤ u) →
    ((i : ℕ) → k ≡ int_var → ⊥) → ((i : ℕ) → k ≡ float_var → ⊥) → (o : Option VarKind) → IsFate st k n u v t o ByParts
left_stays st k n u v t c s no_var no_place no_int no_float o = λ l e. go l (subst (λ u. IsTrue (known u)) e c) (λ q. s (ap tree_sort e ∙ q)) (λ j q. no_var j (e ∙ q)) (λ q w i p d. no_place q w i (e ∙ p) d)
  where
    go : (l : Leaf) → IsTrue (known (leaf l)) → (leaf_sort l ≡ region_sort → ⊥) → ((j : TermVid) → leaf l ≡ leaf (variable (vid_kind j) (vid_number j)) → ⊥) →
        ((q : BoundKind) (w i : ℕ) → leaf l ≡ leaf (placeholder q w i) → bound_sort q ≢ region_sort → w ≤ u) → (l ≢ variable k n) × Stays st u v l
    go (variable type_var m) c r a b = absurd (a (TyTerm (record { 0 = m })) refl)
    go (variable int_var m) c r a b = (λ q. no_int 0 (let z : k ≡ int_var = cc in z), tt)
    go (variable float_var m) c r a b = (λ q. no_float 0 (let z : k ≡ float_var = cc in z), tt)
    go (variable const_var m) c r a b = absurd (a (ConstTerm (record { 0 = m })) refl)
    go (variable region_var m) c r a b = absurd (r refl)
    go (bound q d i) c r a b = (λ z. absurd (cc), tt)
    go (placeholder (bound_kind region_kind x) w i) c r a b = absurd (r refl)
    go (placeholder (bound_kind type_kind x) w i) c r a b = (λ q. absurd (cc), b (bound_kind type_kind x) w i refl (λ z. absurd (cc)))
    go (placeholder (bound_kind const_kind x) w i) c r a b = (λ q. absurd (cc), b (bound_kind const_kind x) w i refl (λ z. absurd (cc)))
    go (atom static_region) c r a b = absurd (r refl)
    go (atom (early_region i x)) c r a b = absurd (r refl)
    go (atom x) c r a b = (λ q. absurd (cc), tt)
    go unknown c r a b = absurd (false≢true c)

-- A part that is no region.
pub not_region : {Key Id : Type 0} (p : Part Key Id) → ((r : RegionKey Key) → p ≡ Region r → ⊥) → part_sort p ≡ region_sort → ⊥
not_region (Region r) n e = n r refl
not_region (Ty t) n e = cc
not_region (Const c) n e = cc
not_region (ValTree v) n e = cc
not_region (Pat v) n e = cc
not_region (ValueType t) n e = cc
not_region (Binder vs b) n e = cc
not_region (Signature s) n e = cc
not_region (Inputs t) n e = cc
not_region (Existential p) n e = cc
not_region (Object k) n e = cc

-- Of which kind variables for terms are.
pub vid_no_int : (v : TermVid) → vid_kind v ≡ int_var → ⊥
vid_no_int (TyTerm v) e = cc
vid_no_int (ConstTerm v) e = cc

pub vid_no_float : (v : TermVid) → vid_kind v ≡ float_var → ⊥
vid_no_float (TyTerm v) e = cc
vid_no_float (ConstTerm v) e = cc

pub new_kind_of : {Key Id : Type 0} (p : Part Key Id) (v : TermVid) → part_sort p ≡ var_sort (vid_kind v) → new_kind p ≡ Some (vid_kind v)
new_kind_of (Ty t) (TyTerm v) e = refl
new_kind_of (Const c) (ConstTerm v) e = refl
new_kind_of p (TyTerm v) e = absurd (cc)
new_kind_of p (ConstTerm v) e = absurd (cc)
