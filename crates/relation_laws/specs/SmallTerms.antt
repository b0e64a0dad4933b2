-- What the relation says of small terms and of forms.
use Rattle.std.specs.Prelude.{◌≡◌, ◌≢◌, ◌⊎◌, ◌↔◌, ℕ, List, [], ◌∷◌, false}
use Rattle.term_enums.specs.declared.Variance.{Variance}
use Rattle.term_enums.specs.declared.Variance.TheVariants.{Covariant, Contravariant, Invariant}
use Rattle.term_enums.specs.declared.Variance.TheVariants.{Bivariant}
use Rattle.term_enums.specs.declared.Mutability.TheVariants.{Not, Mut}
use Rattle.term_enums.specs.declared.PredicatePolarity.{PredicatePolarity}
use Rattle.term_enums.specs.declared.UintTy.TheVariants.{U8}
use Rattle.term_enums.specs.declared.Safety.TheVariants.{Safe}
use Rattle.term_enums.specs.declared.ExternAbi.TheVariants.{Rust}
use Rattle.relation_terms.specs.Heads.{Sort, region_sort}
use Rattle.relation_terms.specs.Heads.{clause_sort, predicate_sort, environment_sort, head_sort, trait_clause}
use Rattle.relation_terms.specs.Heads.{region_kind, BoundKind, bound_kind, Atom, atom_sort, bool_type, uint_type}
use Rattle.relation_terms.specs.Heads.{type_param, const_param, static_region, early_region, Head, adt, tuple, ref}
use Rattle.relation_terms.specs.Heads.{fn_ptr, signature, inputs, bound, placeholder, atom}
use Rattle.relation_terms.specs.Trees.{Tree, leaf, node, bind, nil, cons, IsList}
use Rattle.relation_terms.specs.Meaning.{value_tree}
use Rattle.relation_semantics.specs.Relation.{Items, Interpretation, Rel, at, parts, plain, plain_atom, sort_of, IsError}
use Rattle.relation_semantics.specs.Relation.{IsErrorAtom, IsAliasHead, IsRelatedHead, Outlives}

abbrev pub u8 : Tree
u8 = leaf (atom (uint_type U8))

abbrev pub bool : Tree
bool = leaf (atom bool_type)

abbrev pub static : Tree
static = leaf (atom static_region)

-- A named region.
abbrev pub named : ℕ → Tree
named i = leaf (atom (early_region i 0))

abbrev pub ref_to : Tree → Tree → Tree
ref_to r t = node (ref Not) (cons r (cons t nil))

abbrev pub mut_ref_to : Tree → Tree → Tree
mut_ref_to r t = node (ref Mut) (cons r (cons t nil))

abbrev pub adt_of : ℕ → Tree → Tree
adt_of d t = node (adt d) (cons t nil)

-- A function pointer with these inputs.
abbrev pub fn_of : List BoundKind → Tree → Tree
fn_of ks ts = node fn_ptr (cons (bind ks (node (signature false Safe Rust)
    (cons (node inputs ts) (cons (node tuple nil) nil)))) nil)

-- `fn(&'r u8)`.
abbrev pub fn_of_ref : List BoundKind → Tree → Tree
fn_of_ref ks r = fn_of ks (cons (ref_to r u8) nil)

abbrev pub a_region : BoundKind
a_region = bound_kind region_kind 0

-- The variable at a place of the nearest binder, and a placeholder for one.
abbrev pub bound_region : ℕ → Tree
bound_region i = leaf (bound a_region 0 i)

abbrev pub region_placeholder : ℕ → ℕ → Tree
region_placeholder u n = leaf (placeholder a_region u n)

-- `for<'a> fn(&'a u8)`, its one variable bound one step up.
abbrev pub fn_of_any : Tree
fn_of_any = fn_of_ref (a_region ∷ []) (bound_region 0)

abbrev pub IsReflexive : Type 0
IsReflexive = (c : Items) (w : Interpretation) (e : Tree) (v : Variance) (a : Tree) → Rel c w e (at v) a a

abbrev pub AnythingAtBivariance : Type 0
AnythingAtBivariance = (c : Items) (w : Interpretation) (e a b : Tree) → Rel c w e (at Bivariant) a b

-- An error is related with anything of its sort, on either side.
abbrev pub ErrorsAreRelated : Type 0
ErrorsAreRelated = (c : Items) (w : Interpretation) (e : Tree) (v : Variance) (a b : Tree) → IsError a ⊎ IsError b →
    sort_of a ≡ sort_of b → Rel c w e (at v) a b

-- Parameters are related just where their indices are equal, whatever their names.
abbrev pub ParametersByIndex : Type 0
ParametersByIndex = (c : Items) (w : Interpretation) (e : Tree) (v : Variance) (i j n m : ℕ) → v ≢ Bivariant →
    (Rel c w e (at v) (leaf (atom (type_param i n))) (leaf (atom (type_param j m))) ↔ i ≡ j) ×
    (Rel c w e (at v) (leaf (atom (const_param i n))) (leaf (atom (const_param j m))) ↔ i ≡ j)

-- Constant values are related just where their value trees are; their types are not looked at.
abbrev pub ValuesByTheirTrees : Type 0
ValuesByTheirTrees = (c : Items) (w : Interpretation) (e : Tree) (v : Variance) (ty ty' t t' : Tree) →
    Rel c w e (at v) (value_tree ty t) (value_tree ty' t') ↔ Rel c w e (at v) t t'

-- Shared references to one type are related just as their regions are: covariantly where the first outlives the
-- second, contravariantly the other way round, invariantly where both hold.
abbrev pub ReferencesByRegions : Type 0
ReferencesByRegions = (c : Items) (w : Interpretation) (e a b t : Tree) → sort_of a ≡ region_sort →
    sort_of b ≡ region_sort →
    (Rel c w e (at Covariant) (ref_to a t) (ref_to b t) ↔ Outlives w a b) ×
    (Rel c w e (at Contravariant) (ref_to a t) (ref_to b t) ↔ Outlives w b a) ×
    (Rel c w e (at Invariant) (ref_to a t) (ref_to b t) ↔ Outlives w a b × Outlives w b a)

-- `&'x mut &'a u8` is `&'x mut &'b u8` just where 'a and 'b outlive each other.
abbrev pub MutablePointeesAreFixed : Type 0
MutablePointeesAreFixed = (c : Items) (w : Interpretation) (e x a b : Tree) → sort_of a ≡ region_sort →
    sort_of b ≡ region_sort → Rel c w e (at Covariant) (mut_ref_to x (ref_to a u8)) (mut_ref_to x (ref_to b u8)) ↔
    Outlives w a b × Outlives w b a

-- `fn(&'i u8)` is `fn(&'j u8)` just where 'j outlives 'i.
abbrev pub InputsTurnRound : Type 0
InputsTurnRound = (c : Items) (w : Interpretation) (e : Tree) (i j : ℕ) →
    Rel c w e (at Covariant) (fn_of_ref [] (named i)) (fn_of_ref [] (named j)) ↔ Outlives w (named j) (named i)

-- Arguments at a bivariant parameter are skipped at covariance, and related at invariance.
abbrev pub BivariantArguments : Type 0
BivariantArguments = (c : Items) (w : Interpretation) (e : Tree) (d : ℕ) → c.declared d 0 ≡ Bivariant →
    Rel c w e (at Covariant) (adt_of d u8) (adt_of d bool) ×
    (Rel c w e (at Invariant) (adt_of d u8) (adt_of d bool) → ⊥)

-- Neither alias type nor unevaluated constant.
abbrev pub IsRigidHead : Head → Type 0
IsRigidHead h = IsAliasHead h → ⊥

-- Rigid forms of different heads are never related.
abbrev pub UnlikeHeadsAreUnrelated : Type 0
UnlikeHeadsAreUnrelated = (c : Items) (w : Interpretation) (e : Tree) (v : Variance) (h k : Head) (xs ys : Tree) →
    v ≢ Bivariant → IsRigidHead h → IsRigidHead k → plain h ≢ plain k → Rel c w e (at v) (node h xs) (node k ys) → ⊥

-- Nor are unlike forms without parts, errors and regions aside, nor one of these and a rigid form with parts.
abbrev pub UnlikeAtomsAreUnrelated : Type 0
UnlikeAtomsAreUnrelated = (c : Items) (w : Interpretation) (e : Tree) (v : Variance) (x y : Atom) → v ≢ Bivariant →
    (IsErrorAtom x → ⊥) → (IsErrorAtom y → ⊥) → atom_sort x ≢ region_sort → plain_atom x ≢ plain_atom y →
    Rel c w e (at v) (leaf (atom x)) (leaf (atom y)) → ⊥

abbrev pub AtomsAreNoForms : Type 0
AtomsAreNoForms = (c : Items) (w : Interpretation) (e : Tree) (v : Variance) (x : Atom) (h : Head) (ts : Tree) →
    v ≢ Bivariant → (IsErrorAtom x → ⊥) → IsRigidHead h →
    (Rel c w e (at v) (leaf (atom x)) (node h ts) → ⊥) × (Rel c w e (at v) (node h ts) (leaf (atom x)) → ⊥)

-- Rigid forms that have a relation are related just where their heads are equal, but for what relating does not look
-- at, and their parts are related.
abbrev pub FormsByParts : Type 0
FormsByParts = (c : Items) (w : Interpretation) (e : Tree) (v : Variance) (h k : Head) (xs ys : Tree) →
    v ≢ Bivariant → IsRelatedHead h → IsRigidHead h → IsRigidHead k → IsList xs →
    Rel c w e (at v) (node h xs) (node k ys) ↔ (plain h ≡ plain k) × Rel c w e (parts h 0 v) xs ys

-- A predicate or an environment, but for trait predicates, is related with itself alone.
abbrev pub IsPredicateSort : Sort → Type 0
IsPredicateSort clause_sort = Unit {0}
IsPredicateSort predicate_sort = Unit {0}
IsPredicateSort environment_sort = Unit {0}
IsPredicateSort s = ⊥

abbrev pub PredicatesWithThemselvesAlone : Type 0
PredicatesWithThemselvesAlone = (c : Items) (w : Interpretation) (e : Tree) (v : Variance) (h k : Head)
    (xs ys : Tree) → v ≢ Bivariant → IsPredicateSort (head_sort h) → ((p : PredicatePolarity) → h ≢ trait_clause p) →
    Rel c w e (at v) (node h xs) (node k ys) → node h xs ≡ node k ys

-- A function of all references is one of static references.
abbrev pub AnyIsStatic : Type 0
AnyIsStatic = (c : Items) (w : Interpretation) (e : Tree) → Rel c w e (at Covariant) fn_of_any (fn_of_ref [] static)

-- The converse only where some placeholder outlives the static region.
abbrev pub StaticIsNotAny : Type 0
StaticIsNotAny = (c : Items) (w : Interpretation) (e : Tree) →
    Rel c w e (at Covariant) (fn_of_ref [] static) fn_of_any → (u : ℕ) × (n : ℕ) ×
    Outlives w (region_placeholder u n) static

-- A function of references at a placeholder's region is one of all references only where another placeholder outlives
-- it.
abbrev pub PlaceholderIsNotAny : Type 0
PlaceholderIsNotAny = (c : Items) (w : Interpretation) (e : Tree) (u n : ℕ) →
    Rel c w e (at Covariant) (fn_of_ref [] (region_placeholder u n)) fn_of_any →
    (u' : ℕ) × (n' : ℕ) × (region_placeholder u' n' ≢ region_placeholder u n) ×
    Outlives w (region_placeholder u' n') (region_placeholder u n)

-- Where regions outlive only themselves, `for<'a> fn(&'a u8, &'a u8)` is no `for<'a, 'b> fn(&'a u8, &'b u8)`.
abbrev pub OneRegionIsNotTwo : Type 0
OneRegionIsNotTwo = (c : Items) (w : Interpretation) (e : Tree) → ((a b : Tree) → Outlives w a b → a ≡ b) →
    Rel c w e (at Covariant)
    (fn_of (a_region ∷ []) (cons (ref_to (bound_region 0) u8) (cons (ref_to (bound_region 0) u8) nil)))
    (fn_of (a_region ∷ a_region ∷ []) (cons (ref_to (bound_region 0) u8) (cons (ref_to (bound_region 1) u8) nil))) → ⊥

-- At invariance a function of all references is one of static references only where some placeholder outlives the
-- static region.
abbrev pub AnyIsNotInvariantlyStatic : Type 0
AnyIsNotInvariantlyStatic = (c : Items) (w : Interpretation) (e : Tree) →
    Rel c w e (at Invariant) fn_of_any (fn_of_ref [] static) → (u : ℕ) × (n : ℕ) ×
    Outlives w (region_placeholder u n) static
