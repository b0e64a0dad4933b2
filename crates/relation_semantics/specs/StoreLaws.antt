-- Laws of a store's calls: which assignments each keeps, and that a sound store stays sound.
use Rattle.std.specs.Prelude.{◌≡◌, ◌≢◌, ◌↔◌, ℕ, ◌≤◌, [], ◌∷◌}
use Rattle.term_enums.specs.declared.Variance.{Variance}
use Rattle.relation_terms.specs.Heads.{BoundKind, bound_sort, VarKind, int_var, float_var, region_var, var_sort}
use Rattle.relation_terms.specs.Heads.{variable}
use Rattle.relation_terms.specs.Trees.{Tree, leaf, Assign, apply, Leaves, Occurs}
use Rattle.relation_semantics.specs.Relation.{Items, Interpretation, IsValueLeaf, StaysWithin}
use Rattle.relation_semantics.specs.Stores.{Store, universe_of, MayStandFor, IsNamable, IsInScope, IsTermIn, IsSound}
use Rattle.relation_semantics.specs.Stores.{Satisfies, ConstraintHolds, ConstraintIn, Constraint, resolved, weight}
use Rattle.relation_semantics.specs.Steps.{Equates, BindsTo, Instantiates, RefusesToInstantiate, MakesVariable}
use Rattle.relation_semantics.specs.Steps.{AddsConstraint, ChangesNothing, InstantiatesNumber, Resolves, HasExtension, MakesVariables}
use Rattle.relation_semantics.specs.Measures.{Goes}
use Rattle.term_enums.specs.declared.StructurallyRelateAliases.{StructurallyRelateAliases}
use Rattle.relation_semantics.specs.Generalising.{Stage, outside, any_part, Generalised, InstantiatesBy}
use Rattle.relation_semantics.specs.Generalising.{NumbersNameNothing, Obstacle, RefusesByObstacle}
use Rattle.relation_semantics.specs.Outcomes.{Exact}
use Rattle.relation_semantics.specs.ErasureLaws.{IsTypeOrConst}

-- Equating keeps a store sound, and exactly the assignments that give both variables one value; also up to erasure.
abbrev pub EquatingStaysSound : Type 0
EquatingStaysSound = (before after : Store) (k : VarKind) (child root : ℕ) → k ≢ region_var →
    Equates before after k child root → IsSound before → IsSound after

abbrev pub EquatingIsExact : Type 0
EquatingIsExact = (before after : Store) (k : VarKind) (child root : ℕ) → k ≢ region_var →
    Equates before after k child root → IsSound before →
    ((w : Interpretation) (s : Assign) → Satisfies w after s ↔ Satisfies w before s × (s k child ≡ s k root)) ×
    Exact before after (leaf (variable k child)) (leaf (variable k root))

-- Binding a variable to a term that does not come to one in which it stands, and that names only what it can.
abbrev pub BindingStaysSound : Type 0
BindingStaysSound = (before after : Store) (k : VarKind) (n : ℕ) (t : Tree) → k ≢ region_var →
    BindsTo before after k n t → IsSound before → MayStandFor k t → IsTermIn before t →
    (Occurs k n (apply (resolved before) t) → ⊥) →
    Leaves (IsInScope before (universe_of before k n)) (apply (resolved before) t) → IsSound after

abbrev pub BindingIsExact : Type 0
BindingIsExact = (before after : Store) (k : VarKind) (n : ℕ) (t : Tree) → BindsTo before after k n t →
    ((w : Interpretation) (s : Assign) → Satisfies w after s ↔ Satisfies w before s × (s k n ≡ apply s t)) ×
    Exact before after (leaf (variable k n)) t

-- Binding a variable to what a term comes to instantiates it with that as it stands, at every variance.
abbrev pub BindingInstantiates : Type 0
BindingInstantiates = (before after : Store) (v : Variance) (k : VarKind) (n : ℕ) (source : Tree) → k ≢ region_var →
    BindsTo before after k n (apply (resolved before) source) → IsSound before → IsTermIn before source →
    MayStandFor k (apply (resolved before) source) → (Occurs k n (apply (resolved before) source) → ⊥) →
    Leaves (IsInScope before (universe_of before k n)) (apply (resolved before) source) →
    Instantiates before after v k n source (apply (resolved before) source)

-- Where a variable of a type or a constant stands in what a term comes to and is not that itself, leaving all as it is
-- refuses to instantiate the variable.
abbrev pub CyclesRefuse : Type 0
CyclesRefuse = (st : Store) (v : Variance) (k : VarKind) (n : ℕ) (source : Tree) → IsTypeOrConst k → IsSound st →
    Occurs k n (apply (resolved st) source) → apply (resolved st) source ≢ leaf (variable k n) →
    RefusesToInstantiate st st v k n source

-- What a term is generalised to is one term.
abbrev pub GeneralisingIsOne : Type 0
GeneralisingIsOne = (g : StructurallyRelateAliases) (c : Items) (start : Store) (k : VarKind) (n : ℕ) (v : Variance)
    (r q : Stage) (t x y : Tree) →
    Generalised g c start k n (any_part outside v) (record { store = start; met = [] }) t r x →
    Generalised g c start k n (any_part outside v) (record { store = start; met = [] }) t q y → x ≡ y

-- Binding a variable of a type or a constant to what a term comes to, generalised for it, instantiates it; new
-- variables on the way cost nothing, and the binding squares sizes at most.
abbrev pub GeneralisingInstantiates : Type 0
GeneralisingInstantiates = (g : StructurallyRelateAliases) (c : Items) (before after : Store) (v : Variance)
    (k : VarKind) (n : ℕ) (source term : Tree) → IsTypeOrConst k → InstantiatesBy g c before after v k n source term →
    NumbersNameNothing before → IsSound before → IsTermIn before source → MayStandFor k source →
    Instantiates before after v k n source term × Goes (weight before source) before after

-- Where an obstacle stands in what a term comes to, and that is not the variable itself, new variables alone refuse to
-- instantiate the variable.
abbrev pub GeneralisingRefuses : Type 0
GeneralisingRefuses = (g : StructurallyRelateAliases) (before after : Store) (v : Variance) (k : VarKind) (n : ℕ)
    (source : Tree) (o : Obstacle) →
    IsTypeOrConst k → RefusesByObstacle g before after k n source o → IsSound before →
    apply (resolved before) source ≢ leaf (variable k n) → RefusesToInstantiate before after v k n source ×
    Goes 0 before after

-- A number variable bound to a type of its kind: what holds of any binding.
abbrev pub NumbersStaySound : Type 0
NumbersStaySound = (before after : Store) (k : VarKind) (n : ℕ) (t : Tree) → InstantiatesNumber before after k n t →
    IsSound before → IsSound after

abbrev pub NumbersAreExact : Type 0
NumbersAreExact = (before after : Store) (k : VarKind) (n : ℕ) (t : Tree) → InstantiatesNumber before after k n t →
    ((w : Interpretation) (s : Assign) → Satisfies w after s ↔ Satisfies w before s × (s k n ≡ t)) ×
    Exact before after (leaf (variable k n)) t

-- Making a variable keeps a store sound, and the variable may have any value that its universe can name.
abbrev pub MakingStaysSound : Type 0
MakingStaysSound = (before after : Store) (k : VarKind) (n u : ℕ) → MakesVariable before after k n u →
    u ≤ before.universe → IsSound before → IsSound after

abbrev pub MadeIsUnconstrained : Type 0
MadeIsUnconstrained = (before after : Store) (k : VarKind) (n u : ℕ) → MakesVariable before after k n u →
    IsSound before → (w : Interpretation) (s : Assign) (t : Tree) → Satisfies w before s →
    MayStandFor k t → Leaves IsValueLeaf t → StaysWithin 0 t → Leaves (IsNamable u) t →
    HasExtension before s (λ s'. Satisfies w after s' × (s' k n ≡ t))

-- A constraint keeps exactly the assignments for which it holds.
abbrev pub ConstrainingIsExact : Type 0
ConstrainingIsExact = (before after : Store) (q : Constraint) → AddsConstraint before after q →
    (IsSound before → ConstraintIn before q → IsSound after) ×
    ((w : Interpretation) (s : Assign) → Satisfies w after s ↔ Satisfies w before s × ConstraintHolds w s q)

-- A new universe, a taint and the like keep all assignments.
abbrev pub NothingIsSeen : Type 0
NothingIsSeen = (before after : Store) → ChangesNothing before after → (IsSound before → IsSound after) ×
    ((w : Interpretation) (s : Assign) → Satisfies w after s ↔ Satisfies w before s)

-- What a term comes to resolves it.
abbrev pub ResolvedResolves : Type 0
ResolvedResolves = (st : Store) (t : Tree) → IsSound st → Resolves st t (apply (resolved st) t)

-- Making one variable is making the variables of a binder of one.
abbrev pub MakingOneMakes : Type 0
MakingOneMakes = (before after : Store) (k : BoundKind) (v : VarKind) (n u : ℕ) → MakesVariable before after v n u →
    u ≤ before.universe → IsSound before → var_sort v ≡ bound_sort k →
    (v ≡ int_var → ⊥) → (v ≡ float_var → ⊥) → MakesVariables before after u (k ∷ []) (leaf (variable v n) ∷ [])
