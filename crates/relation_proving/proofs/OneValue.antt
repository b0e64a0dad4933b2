-- A goal in which no variable but of regions stands: all solutions make one of it, up to erasure.
use Rattle.std.proofs.Common.{◌≡◌, ℕ, suc, refl, sym, ◌∙◌, ap, ap₂, Bool, true, false, not, []}
use Rattle.std.proofs.lemmas.Bool.{or_parts, true≢false}
use Rattle.relation_terms.specs.Erasure.{erase, kept_parts}
use Rattle.relation_terms.specs.Heads.{type_var, int_var, float_var, const_var, region_var, variable, bound, placeholder}
use Rattle.relation_terms.specs.Heads.{atom, unknown}
use Rattle.relation_terms.specs.Trees.{Tree, leaf, node, bind, nil, cons, Assign, apply}
use Rattle.relation_folds.specs.Visits.{has_leaf, is_non_region_infer, non_region_infer_stands}
use Rattle.relation_semantics.specs.Stores.{Store, InContext, IsTermIn, IsAssignment}
use Rattle.relation_semantics.proofs.Agreeing.{stands_sort}
use Rattle.relation_semantics.proofs.Erased.{erase_region}
use Rattle.relation_semantics.proofs.Standing.{term_context}
use Rattle.relation_solver.specs.Traces.{HasOneValue}

-- All assignments of a record make one of it.
one_value : (st : Store) (d : ℕ) (t : Tree) → has_leaf is_non_region_infer d t ≡ false → InContext st t →
    (s s' : Assign) → IsAssignment st s → IsAssignment st s' → erase (apply s t) ≡ erase (apply s' t)
unfolding InContext
one_value st d (leaf (variable region_var n)) e i s s' a b =
    erase_region (s region_var n) (stands_sort region_var (s region_var n) (a region_var n i).0)
    ∙ sym (erase_region (s' region_var n) (stands_sort region_var (s' region_var n) (b region_var n i).0))
one_value st d (leaf (variable type_var n)) e i s s' a b = absurd (true≢false e)
one_value st d (leaf (variable int_var n)) e i s s' a b = absurd (true≢false e)
one_value st d (leaf (variable float_var n)) e i s s' a b = absurd (true≢false e)
one_value st d (leaf (variable const_var n)) e i s s' a b = absurd (true≢false e)
one_value st d (leaf (bound k x y)) e i s s' a b = refl
one_value st d (leaf (placeholder k u n)) e i s s' a b = refl
one_value st d (leaf (atom x)) e i s s' a b = refl
one_value st d (leaf unknown) e i s s' a b = refl
one_value st d (node h ts) e i s s' a b = ap (λ z. node h (kept_parts h z)) (one_value st d ts e i s s' a b)
one_value st d (bind ks t) e i s s' a b = ap (bind []) (one_value st (suc d) t e i s s' a b)
one_value st d nil e i s s' a b = refl
one_value st d (cons t ts) e i s s' a b =
    let p = or_parts (has_leaf is_non_region_infer d t) (has_leaf is_non_region_infer d ts) e in
    ap₂ cons (one_value st d t p.0 i.0 s s' a b) (one_value st d ts p.1 i.1 s s' a b)

off : (b : Bool) → not b ≡ true → b ≡ false
off true e = sym e
off false e = refl

-- So it is of a goal in which none stands.
pub is_one : (st : Store) (t : Tree) (b : Bool) → IsTermIn st t → b ≡ non_region_infer_stands t → not b ≡ true →
    HasOneValue st t
is_one st t b i e h s s' p p' = one_value st 0 t (sym e ∙ off b h) (term_context st t i) s s' p.0 p'.0
