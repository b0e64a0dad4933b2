-- Laws of types and constants in one universe.
use Rattle.std.specs.Prelude.{◌≡◌, ◌≢◌, ℕ, ◌+◌}
use Rattle.term_enums.specs.declared.Variance.TheVariants.{Invariant}
use Rattle.relation_terms.specs.Heads.{VarKind, region_var}
use Rattle.relation_terms.specs.Trees.{Tree, Leaves}
use Rattle.term_enums.specs.declared.StructurallyRelateAliases.{StructurallyRelateAliases}
use Rattle.relation_semantics.specs.Relation.{Items}
use Rattle.relation_semantics.specs.Stores.{Store, MayStandFor, IsTermIn, IsSound, all_bound}
use Rattle.relation_semantics.specs.FirstOrder.{IsFirstOrder, IsFirstOrderStore}
use Rattle.relation_semantics.specs.ErasureLaws.{IsTypeOrConst}
use Rattle.relation_semantics.specs.Steps.{Equates}
use Rattle.relation_semantics.specs.Errors.{IsReadAs}
use Rattle.relation_semantics.specs.Generalising.{InstantiatesBy, NumbersNameNothing}
use Rattle.relation_semantics.specs.OneUniverse.{NamesTypesTo, HasOneUniverse, all_unbound, all_roots, StaysOf, KeepsUniverse}
use Rattle.relation_semantics.specs.OneUniverse.{LeadsInUniverse}

-- Of each class of type or constant variables the one that is the same as no other is bound or unresolved.
abbrev pub RootsAreBoundOrNot : Type 0
RootsAreBoundOrNot = (st : Store) → all_roots st ≡ all_bound st + all_unbound st

-- Equating leaves the variables in their universe.
abbrev pub EquatingKeepsUniverse : Type 0
EquatingKeepsUniverse = (before after : Store) (k : VarKind) (child root : ℕ) → k ≢ region_var →
    Equates before after k child root → IsSound before → KeepsUniverse before after

-- What is read by what is recorded stands in the universe in which that is read.
abbrev pub ReadingKeepsUniverse : Type 0
ReadingKeepsUniverse = (st : Store) (a b x y : Tree) → IsSound st → IsReadAs st a x → IsReadAs st b y →
    LeadsInUniverse st st a b x y

-- So does what a variable is bound to at invariance, where all is first-order; and only variables of regions are made.
abbrev pub GeneralisingKeepsUniverse : Type 0
GeneralisingKeepsUniverse = (g : StructurallyRelateAliases) (c : Items) (before after : Store) (k : VarKind) (n u : ℕ)
    (source term : Tree) → IsTypeOrConst k → InstantiatesBy g c before after Invariant k n source term →
    NumbersNameNothing before → IsSound before → IsTermIn before source → MayStandFor k source → IsFirstOrder source →
    IsFirstOrderStore before → HasOneUniverse u before → Leaves (NamesTypesTo u) source →
    StaysOf u before after × Leaves (NamesTypesTo u) term
