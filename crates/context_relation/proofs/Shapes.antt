-- The shapes of terms: a form over a list of terms, and a binder over a term.
use Rattle.std.proofs.Common.{◌≡◌, refl, subst, List, [], ◌∷◌, Option, Some}
use Rattle.relation_terms.specs.Heads.{Part, term_of, binder_of, Shape, one, row, head_parts, Head, slice, value_type}
use Rattle.relation_terms.specs.Trees.{Tree, leaf, node, bind, nil, cons, IsList, Fits}

-- A term, and no list.
abbrev pub IsNode : Tree → Type 0
IsNode nil = ⊥
IsNode (cons t ts) = ⊥
IsNode t = Unit {0}

-- The type of a value is one.
abbrev pub HasOneType : Head → Tree → Type 0
HasOneType value_type (cons t nil) = Unit {0}
HasOneType value_type ts = ⊥
HasOneType h ts = Unit {0}

-- The parts of a form are a list of terms, and a binder's body is a term.
abbrev pub IsShaped : Tree → Type 0
IsShaped (leaf l) = Unit {0}
IsShaped (node h ts) = IsList ts × HasOneType h ts × IsShaped ts
IsShaped (bind ks t) = IsNode t × IsShaped t
IsShaped nil = Unit {0}
IsShaped (cons t ts) = IsNode t × IsShaped t × IsShaped ts

fits_one_type : (h : Head) (ts : Tree) → Fits (head_parts h) ts → HasOneType h ts
fits_one_type value_type (cons t nil) f = tt
fits_one_type value_type (cons t (leaf l)) f = f.1
fits_one_type value_type (cons t (node h ts)) f = f.1
fits_one_type value_type (cons t (bind ks u)) f = f.1
fits_one_type value_type (cons t (cons u us)) f = f.1
fits_one_type value_type ts f = f
fits_one_type h ts f = tt

head_row : (h : Head) → (ps : List Part) × (o : Option Part) × (head_parts h ≡ row ps o)
head_row slice = (_, _, refl)
head_row h = (_, _, refl)

-- What a tree of a shape is.
abbrev pub Shaped : Shape → Tree → Type 0
Shaped (one p) t = IsNode t × IsShaped t
Shaped (row ps o) t = IsList t × IsShaped t

pub shaped : (x : Shape) (t : Tree) → Fits x t → Shaped x t
shaped (one (term_of s)) (leaf l) f = (tt, tt)
shaped (one (term_of s)) (node h ts) f = let q = head_row h in let z = subst (λ x. Shaped x ts) q.2 (shaped (head_parts h) ts f.1) in (tt, (z.0, fits_one_type h ts f.1, z.1))
shaped (one (binder_of s)) (bind ks t) f = (tt, shaped (one (term_of s)) t f)
shaped (row [] o) nil f = (tt, tt)
shaped (row [] (Some p)) (cons t ts) f = let a = shaped (one p) t f.0 in let b = shaped (row [] (Some p)) ts f.1 in (b.0, (a.0, a.1, b.1))
shaped (row (p ∷ ps) o) (cons t ts) f = let a = shaped (one p) t f.0 in let b = shaped (row ps o) ts f.1 in (b.0, (a.0, a.1, b.1))
shaped x t f = absurd f
