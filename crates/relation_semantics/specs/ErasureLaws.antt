-- Laws of erasure and of unification.
use Rattle.std.specs.Prelude.{◌≡◌, ◌≢◌, ◌↔◌, ℕ}
use Rattle.term_enums.specs.declared.Variance.TheVariants.{Invariant}
use Rattle.relation_terms.specs.Heads.{region_sort, VarKind, type_var, const_var, region_var, Head, value_type}
use Rattle.relation_terms.specs.Heads.{variable}
use Rattle.relation_terms.specs.Trees.{Tree, leaf, node, cons, Assign, apply, Occurs}
use Rattle.relation_terms.specs.Erasure.{erase}
use Rattle.relation_semantics.specs.Relation.{Items, Interpretation, Rel, at, sort_of}
use Rattle.relation_semantics.specs.FirstOrder.{IsFirstOrder, Unifies}

-- The erasure of a value is the erased assignment's value of the erased term.
abbrev pub ErasureAssigns : Type 0
ErasureAssigns = (s : Assign) (t : Tree) → ((n : ℕ) → sort_of (s region_var n) ≡ region_sort) →
    erase (apply s t) ≡ apply (λ k n. erase (s k n)) (erase t)

-- Two forms of one head are unified just where their parts are; types of values always.
abbrev pub FormsUnifyByParts : Type 0
FormsUnifyByParts = (s : Assign) (h : Head) (ts us : Tree) → h ≢ value_type → Unifies s (node h ts) (node h us) ↔
    Unifies s ts us

abbrev pub TypesOfValuesUnify : Type 0
TypesOfValuesUnify = (s : Assign) (ts us : Tree) → Unifies s (node value_type ts) (node value_type us)

abbrev pub ListsUnifyByItems : Type 0
ListsUnifyByItems = (s : Assign) (t u ts us : Tree) → Unifies s (cons t ts) (cons u us) ↔ Unifies s t u ×
    Unifies s ts us

abbrev pub UnlikeFormsDoNotUnify : Type 0
UnlikeFormsDoNotUnify = (s : Assign) (h k : Head) (ts us : Tree) → h ≢ k → Unifies s (node h ts) (node k us) → ⊥

-- A variable of a type or a constant.
abbrev pub IsTypeOrConst : VarKind → Type 0
IsTypeOrConst type_var = Unit {0}
IsTypeOrConst const_var = Unit {0}
IsTypeOrConst k = ⊥

-- Nor up to erasure is a variable of a type or a constant equal to a larger first-order term in which it stands.
abbrev pub ErasedOccursCheck : Type 0
ErasedOccursCheck = (s : Assign) (k : VarKind) (n : ℕ) (t : Tree) → IsTypeOrConst k → IsFirstOrder t → Occurs k n t →
    t ≢ leaf (variable k n) → Unifies s (leaf (variable k n)) t → ⊥

-- First-order terms in the relation at invariance have one erasure.
abbrev pub InvariantTermsAreAlike : Type 0
InvariantTermsAreAlike = (c : Items) (w : Interpretation) (e a b : Tree) → Rel c w e (at Invariant) a b →
    IsFirstOrder a → IsFirstOrder b → erase a ≡ erase b
