-- What becomes of a term that a variable is bound to.
use Rattle.std.specs.Prelude.{◌≡◌, ◌≢◌, ℕ, ◌<◌, Option, Some, None}
use Rattle.term_enums.specs.declared.Variance.{Variance}
use Rattle.relation_terms.specs.declared.terms.part_kind.Part.{Part}
use Rattle.relation_terms.specs.declared.terms.part_kind.Part.TheVariants.{Region, Ty, Const}
use Rattle.relation_terms.specs.Heads.{region_sort, BoundKind, bound_sort, VarKind, type_var, const_var, region_var}
use Rattle.relation_terms.specs.Heads.{Leaf, variable, placeholder}
use Rattle.relation_terms.specs.Trees.{Tree, leaf}
use Rattle.relation_semantics.specs.Stores.{Store}
use Rattle.relation_semantics.specs.Generalising.{Stays, gives_way_to}
use Rattle.occurs_check.specs.declared.fates.Fate.{Fate}
use Rattle.occurs_check.specs.declared.fates.Fate.TheVariants.{ByParts, GivesWay, Cycle, Beyond}

-- Of which kind the variable is that may take the place of a part.
abbrev pub new_kind : {Key Id : Type 0} → Part Key Id → Option VarKind
new_kind (Region r) = Some region_var
new_kind (Ty t) = Some type_var
new_kind (Const c) = Some const_var
new_kind p = None

-- What becomes of a term at a variance, for variable `n` of kind `k` in universe `u`.
abbrev pub IsFate : Store → VarKind → ℕ → ℕ → Variance → Tree → Option VarKind → Fate → Type 0
IsFate st k n u v t o ByParts = (l : Leaf) → t ≡ leaf l → (l ≢ variable k n) × Stays st u v l
IsFate st k n u v t o GivesWay = (l : Leaf) × (j : VarKind) × (t ≡ leaf l) × (l ≢ variable k n) ×
    (Stays st u v l → ⊥) × (gives_way_to l ≡ Some j) × (o ≡ Some j)
IsFate st k n u v t o Cycle = t ≡ leaf (variable k n)
IsFate st k n u v t o Beyond = (q : BoundKind) × (w : ℕ) × (i : ℕ) × (t ≡ leaf (placeholder q w i)) ×
    (bound_sort q ≢ region_sort) × (u < w)
