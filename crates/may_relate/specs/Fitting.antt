-- What may be related in a context as it stands, and what tells why a term may not.
--
--   MayBeRelated st t     a term may be related: all that relating asks of it, but that it is known
--   Fits st ls l          the same of a leaf, under binders that bind these sorts
--   FitsAll st ls t       the same of each leaf of a tree
--   IsUnfit st ls l e     a leaf does not fit there, and the reason e says why
--   SomeUnfit st ls t e   a leaf of a tree does not, and the reason says why
--   TellsUnfit st ls t e  so it is, unless the reason is that memory was refused
--   FitsOwn st ls t       a tree that is a leaf fits; OwnUnfit st ls t e: it is a leaf that does not
--   sorts_inside t ls     the sorts of what is bound around the parts of a tree
use Rattle.std.specs.Prelude.{◌≡◌, ◌≢◌, ℕ, ◌<◌, ◌≤◌, ◌⊎◌, List, ◌∷◌, map, Some}
use Rattle.relation_terms.specs.Heads.{Sort, bound_sort, VarKind, type_var, int_var, float_var}
use Rattle.relation_terms.specs.Heads.{const_var, region_var}
use Rattle.relation_terms.specs.Heads.{Leaf, variable, bound, placeholder, atom, unknown}
use Rattle.relation_terms.specs.Trees.{Tree, leaf, node, bind, nil, cons}
use Rattle.relation_semantics.specs.Relation.{IsValueAtom}
use Rattle.relation_semantics.specs.Stores.{Store, IsMade, IsTermIn}
use Rattle.relation_semantics.specs.Bound.{IsWellBound}
use Rattle.may_relate.specs.declared.unfit.Unfit.{Unfit}
use Rattle.may_relate.specs.declared.unfit.Unfit.TheVariants.{TyVariable, IntVariable, FloatVariable, ConstVariable}
use Rattle.may_relate.specs.declared.unfit.Unfit.TheVariants.{RegionVariable, LaterUniverse, StandIn, Memory}
use Rattle.may_relate.specs.Around.{sort_at, IsUnbound}

-- A term may be related: its variables are the context's, nothing in it escapes its binders or is of a later universe,
-- no stand-in is in it, and each binder binds what stands in its body as what its list says it is.
abbrev pub MayBeRelated : Store → Tree → Type 0
MayBeRelated st t = IsTermIn st t × IsWellBound t

-- A leaf may stand under binders of these sorts.
abbrev pub Fits : Store → List (List Sort) → Leaf → Type 0
Fits st ls (variable k n) = IsMade st k n
Fits st ls (bound k d i) = sort_at ls d i ≡ Some (bound_sort k)
Fits st ls (placeholder k u n) = u ≤ st.universe
Fits st ls (atom x) = IsValueAtom x
Fits st ls unknown = ⊥

-- Each leaf of a tree may stand there.
abbrev pub FitsAll : Store → List (List Sort) → Tree → Type 0
FitsAll st ls (leaf l) = Fits st ls l
FitsAll st ls (node h ts) = FitsAll st ls ts
FitsAll st ls (bind ks t) = FitsAll st (map bound_sort ks ∷ ls) t
FitsAll st ls nil = Unit {0}
FitsAll st ls (cons t ts) = FitsAll st ls t × FitsAll st ls ts

-- A reason that names a variable, by its kind and its number.
abbrev pub NamesVariable : VarKind → ℕ → Unfit → Type 0
NamesVariable type_var n (TyVariable vid) = vid.0 ≡ n
NamesVariable int_var n (IntVariable vid) = vid.0 ≡ n
NamesVariable float_var n (FloatVariable vid) = vid.0 ≡ n
NamesVariable const_var n (ConstVariable vid) = vid.0 ≡ n
NamesVariable region_var n (RegionVariable vid) = vid.0 ≡ n
NamesVariable k n e = ⊥

-- A reason that names a universe.
abbrev pub NamesUniverse : ℕ → Unfit → Type 0
NamesUniverse u (LaterUniverse universe) = universe.0 ≡ u
NamesUniverse u e = ⊥

-- A leaf may not stand under binders of these sorts, and the reason says why: it is the variable that the reason names,
-- and not the context's; it is not bound as the reason says; it is a placeholder of the universe that the reason names,
-- which is later than the current one; or it is a stand-in.
abbrev pub IsUnfit : Store → List (List Sort) → Leaf → Unfit → Type 0
IsUnfit st ls (variable k n) e = NamesVariable k n e × (IsMade st k n → ⊥)
IsUnfit st ls (bound k d i) e = IsUnbound ls d i (bound_sort k) e
IsUnfit st ls (placeholder k u n) e = NamesUniverse u e × (st.universe < u)
IsUnfit st ls (atom x) e = (e ≡ StandIn) × (IsValueAtom x → ⊥)
IsUnfit st ls unknown e = ⊥

-- Some leaf of a tree may not stand there, and the reason says why.
abbrev pub SomeUnfit : Store → List (List Sort) → Tree → Unfit → Type 0
SomeUnfit st ls (leaf l) e = IsUnfit st ls l e
SomeUnfit st ls (node h ts) e = SomeUnfit st ls ts e
SomeUnfit st ls (bind ks t) e = SomeUnfit st (map bound_sort ks ∷ ls) t e
SomeUnfit st ls nil e = ⊥
SomeUnfit st ls (cons t ts) e = SomeUnfit st ls t e ⊎ SomeUnfit st ls ts e

-- The reason says of some leaf of a tree why it may not stand there, or is that memory was refused.
abbrev pub TellsUnfit : Store → List (List Sort) → Tree → Unfit → Type 0
TellsUnfit st ls t e = e ≢ Memory → SomeUnfit st ls t e

-- A tree that is a leaf may stand there.
abbrev pub FitsOwn : Store → List (List Sort) → Tree → Type 0
FitsOwn st ls (leaf l) = Fits st ls l
FitsOwn st ls t = Unit {0}

-- A tree is a leaf that may not stand there, and the reason says why.
abbrev pub OwnUnfit : Store → List (List Sort) → Tree → Unfit → Type 0
OwnUnfit st ls (leaf l) e = IsUnfit st ls l e
OwnUnfit st ls t e = ⊥

-- The sorts of what is bound around the parts of a tree.
abbrev pub sorts_inside : Tree → List (List Sort) → List (List Sort)
sorts_inside (bind ks t) ls = map bound_sort ks ∷ ls
sorts_inside t ls = ls
