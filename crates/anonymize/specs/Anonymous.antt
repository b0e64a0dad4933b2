-- Predicates whose outermost binders differ in names, order or unused variables alone, and the one that stands for them.
use Rattle.std.specs.Prelude.{◌≡◌, ◌<◌, ℕ, suc, Bool, false, cond, nat_eq, List, [], ◌∷◌, ◌++◌, map}
use Rattle.std.specs.Prelude.{Option, Some, None, option_map}
use Rattle.std.proofs.Common.{ap}
use Rattle.relation_terms.specs.Heads.{Kind, type_kind, region_kind, const_kind, BoundKind, bound_kind, Leaf, bound}
use Rattle.relation_terms.specs.Trees.{Tree, leaf, node, bind, nil, cons}
use Rattle.relation_terms.specs.Meaning.{Meaning, Extends}
use Rattle.relation_terms.specs.Orders.{Order, in_turn, first_last, order_of}
use Rattle.relation_terms.specs.declared.terms.keys.PredicateKey.{PredicateKey}
use Rattle.relation_terms.specs.declared.terms.binder.BoundVariableKind.{BoundVariableKind}
use Rattle.relation_terms.specs.declared.terms.binder.BoundVariableKind.TheVariants.{Ty as TyKind}
use Rattle.relation_terms.specs.declared.terms.binder.BoundVariableKind.TheVariants.{Region as RegionKind}
use Rattle.relation_terms.specs.declared.terms.binder.BoundVariableKind.TheVariants.{Const as ConstKind}
use Rattle.relation_folds.specs.Folds.{folded}
use Rattle.anonymize.specs.declared.used.UsedVar.{UsedVar}
use Rattle.anonymize.specs.declared.used.UsedVar.TheVariants.{Ty, Region, Const}

-- A variable of a binder: what it is, and its place in the binder's list.
abbrev pub var_of : Kind → ℕ → UsedVar
var_of type_kind i = Ty i
var_of region_kind i = Region i
var_of const_kind i = Const i

abbrev pub kind_of : UsedVar → Kind
kind_of (Ty i) = type_kind
kind_of (Region i) = region_kind
kind_of (Const i) = const_kind

abbrev pub var_place : UsedVar → ℕ
var_place (Ty i) = i
var_place (Region i) = i
var_place (Const i) = i

-- A variable stands below a number in the binder's list.
abbrev pub StandsBelow : ℕ → UsedVar → Type 0
StandsBelow n u = var_place u < n

-- Variables are one where their kinds and their places are.
abbrev pub same_var : UsedVar → UsedVar → Bool
same_var (Ty i) (Ty j) = nat_eq i j
same_var (Region i) (Region j) = nat_eq i j
same_var (Const i) (Const j) = nat_eq i j
same_var u v = false

-- The place of a variable in a list, if it is there: the first one.
abbrev pub place_in : List UsedVar → UsedVar → Option ℕ
place_in [] u = None
place_in (v ∷ vs) u = cond (same_var v u) (Some 0) (option_map suc (place_in vs u))

-- The variable that a leaf is, if the binder `depth` steps up binds it.
abbrev pub var_at : ℕ → Leaf → List UsedVar
var_at depth (bound (bound_kind k n) d i) = cond (nat_eq d depth) (var_of k i ∷ []) []
var_at depth l = []

-- What stands in the parts of a form, in the order in which a visit comes to them.
abbrev pub ordered : Order → List UsedVar → List UsedVar → List UsedVar
ordered in_turn us vs = us ++ vs
ordered first_last us vs = vs ++ us

-- All places of a tree, in the order of a visit, where a variable stands that the binder `depth` steps up binds.
abbrev pub uses : ℕ → Tree → List UsedVar
uses depth (leaf l) = var_at depth l
uses depth (node h (cons t ts)) = ordered (order_of (node h (cons t ts))) (uses depth t) (uses depth ts)
uses depth (node h ts) = uses depth ts
uses depth (bind ks t) = uses (suc depth) t
uses depth nil = []
uses depth (cons t ts) = uses depth t ++ uses depth ts

-- A list with one more variable behind all others, if it is not there yet; and with those of another list, one by one.
abbrev pub one_more : List UsedVar → UsedVar → Option ℕ → List UsedVar
one_more us u None = us ++ (u ∷ [])
one_more us u (Some i) = us

abbrev pub with_vars : List UsedVar → List UsedVar → List UsedVar
with_vars us [] = us
with_vars us (v ∷ vs) = with_vars (one_more us v (place_in us v)) vs

-- The variables of the binder around a body that are used in it, each once, as a visit first comes to them.
abbrev pub used_vars : Tree → List UsedVar
used_vars t = with_vars [] (uses 0 t)

-- The variable that a tree is, not counting its parts, if the binder `depth` steps up binds it.
abbrev pub here : ℕ → Tree → List UsedVar
here depth (leaf l) = var_at depth l
here depth t = []

-- A variable of a binder that has one name for all; and the one at a place, if there is a place.
abbrev pub named : ℕ → UsedVar → BoundKind
named name u = bound_kind (kind_of u) name

abbrev pub at_place : ℕ → Kind → ℕ → Option ℕ → Option Tree
at_place name k d None = None
at_place name k d (Some i) = Some (leaf (bound (bound_kind k name) d i))

-- For each variable of the binder around the whole that stands in a list the one at its place there.
abbrev pub renames : ℕ → List UsedVar → ℕ → Tree → Option Tree
renames name us depth (leaf (bound (bound_kind k n) d i)) =
    at_place name k d (cond (nat_eq d depth) (place_in us (var_of k i)) None)
renames name us depth t = None

-- A binder over the variables that are used in its body alone, in the order of a visit, all by one name.
abbrev pub anonymized : ℕ → Tree → Tree
anonymized name (bind ks t) = bind (map (named name) (used_vars t)) (folded (renames name (used_vars t)) 0 t)
anonymized name t = t

-- The second key is that of the first key's predicate, anonymised by a name; the interner may have grown.
abbrev pub IsAnonymized : {Key Id Name : Type 0} → Meaning Key Id Name → Meaning Key Id Name → Name →
    PredicateKey Key → PredicateKey Key → Type 0
IsAnonymized m n name p k = n.predicate k ≡ anonymized (m.name name) (m.predicate p)

-- The second body is the first with the binder's variables that stand in a list at their places there, all by one name.
abbrev pub IsRenamed : {Key Id Name T : Type 0} → (Meaning Key Id Name → T → Tree) → Meaning Key Id Name →
    Meaning Key Id Name → Name → List UsedVar → T → T → Type 0
IsRenamed tree m n name us x y = tree n y ≡ folded (renames (m.name name) us) 0 (tree m x)

-- The same as a variable of a binder, over names.
abbrev pub named_as : {Name : Type 0} → Name → UsedVar → BoundVariableKind Name
named_as name (Ty i) = TyKind name
named_as name (Region i) = RegionKind name
named_as name (Const i) = ConstKind name

-- While an interner grows a name stands for what it did.
pub renames_stays : {Key Id Name : Type 0} {m n : Meaning Key Id Name} → Extends m n → (s : Name) (us : List UsedVar)
    (d : ℕ) (t : Tree) → renames (n.name s) us d t ≡ renames (m.name s) us d t
renames_stays e s us d t = ap (λ x. renames x us d t) (e.name s)
