-- Folds of trees: what a folder puts for the types, regions and constants of a tree, and what comes of the whole.
use Rattle.std.specs.Prelude.{◌≡◌, ℕ, suc, IsTrue, Bool, true, false, List, Option, Some, None, option_map}
use Rattle.relation_terms.specs.Heads.{Sort, region_sort, type_sort, const_sort, leaf_sort, head_sort}
use Rattle.relation_terms.specs.Trees.{Tree, leaf, node, bind, nil, cons, known}
use Rattle.relation_terms.specs.Meaning.{Meaning, Extends}
use Rattle.relation_terms.specs.Parts.{part_sort, part_key, part_tree}
use Rattle.relation_terms.specs.declared.terms.part_kind.Part.{Part}
use Rattle.relation_terms.specs.declared.terms.part_kind.Part.TheVariants.{Region, Ty, Const, ValTree, Pat, ValueType}
use Rattle.relation_terms.specs.declared.terms.part_kind.Part.TheVariants.{Object, Binder}
use Rattle.delayed_map.specs.Kept.{Finds}
use Rattle.relation_folds.specs.declared.fold.Fold.{Fold}
use Rattle.relation_folds.specs.declared.fold.memory.Memory.{Memory}
use Rattle.relation_folds.specs.declared.fold.memory.Place.{Place}
use Rattle.relation_folds.specs.declared.fold.Fold.TheVariants.{Descend, Replace}

-- A folder is asked at types, regions and constants.
abbrev pub asks : Sort → Bool
asks region_sort = true
asks type_sort = true
asks const_sort = true
asks s = false

-- What a folder that is asked puts for a tree, or else the tree with its parts folded.
abbrev pub put_or : Bool → Option Tree → Tree → Tree
put_or true (Some by) t = by
put_or a o t = t

-- The tree with each type, region and constant replaced by what is put for it, from the outside inwards. What is put
-- is not folded again. `depth` binders stand around the tree, and what is put may depend on how many stand around each
-- part.
abbrev pub folded : (ℕ → Tree → Option Tree) → ℕ → Tree → Tree
folded f depth (leaf l) = put_or (asks (leaf_sort l)) (f depth (leaf l)) (leaf l)
folded f depth (node h ts) = put_or (asks (head_sort h)) (f depth (node h ts)) (node h (folded f depth ts))
folded f depth (bind ks t) = bind ks (folded f (suc depth) t)
folded f depth nil = nil
folded f depth (cons t ts) = cons (folded f depth t) (folded f depth ts)

-- How many binders stand around what is in a part: those around the part, and the part itself where it is one.
abbrev pub inside_part : {Key Id : Type 0} → Part Key Id → ℕ → ℕ
inside_part (Binder vs b) depth = suc depth
inside_part p depth = depth

-- The form or binder as it is, over the folded parts.
abbrev pub folded_parts : (ℕ → Tree → Option Tree) → ℕ → Tree → Tree
folded_parts f depth (node h ts) = node h (folded f depth ts)
folded_parts f depth (bind ks t) = bind ks (folded f (suc depth) t)
folded_parts f depth t = t

-- The tree that an answer puts, or none where it descends.
abbrev pub answered : {K : Type 0} → (K → Tree) → Fold K → Option Tree
answered tree Descend = None
answered tree (Replace by) = Some (tree by)

-- The key of an answer is known.
abbrev pub KnownAnswer : {K : Type 0} → (K → Tree) → Fold K → Type 0
KnownAnswer tree Descend = Unit {0}
KnownAnswer tree (Replace by) = IsTrue (known (tree by))

-- From one meaning and folder to others: the interner only grew, the folder is ready, and it puts what it put.
pub record Steps {Key Id Name F : Type 0} (Ready : Meaning Key Id Name → F → Type 0)
    (puts : Meaning Key Id Name → F → ℕ → Tree → Option Tree) (m : Meaning Key Id Name) (f : F)
    (n : Meaning Key Id Name) (g : F) : Type 0 where
  pub grown : Extends m n
  pub ready : Ready n g
  pub kept : (d : ℕ) (t : Tree) → puts n g d t ≡ puts m f d t

-- What an answer at a tree of a sort says of the fold: the form over folded parts, or the tree of what is put.
abbrev pub Folds : {Key Id : Type 0} → (ℕ → Tree → Option Tree) → ℕ → Tree → (Part Key Id → Tree) → Sort →
    Fold (Part Key Id) → Type 0
Folds f depth t tree s Descend = folded f depth t ≡ folded_parts f depth t
Folds f depth t tree s (Replace by) = (tree by ≡ folded f depth t) × (part_sort by ≡ s)

-- The sort of a part that has a key, as a number.
abbrev pub part_rank : {Key Id : Type 0} → Part Key Id → ℕ
part_rank (Region r) = 0
part_rank (Ty t) = 1
part_rank (Const c) = 2
part_rank (ValTree v) = 3
part_rank (Pat p) = 4
part_rank (ValueType t) = 5
part_rank (Object k) = 6
part_rank p = 7

-- A part at a depth, as what is made of it is kept: a part that has a key.
abbrev pub place_of : {Key Id : Type 0} → Part Key Id → ℕ → Option (Place Key)
place_of p depth = option_map (λ k. record { sort = part_rank p; key = k; depth = depth }) (part_key p)

module _ {Key Id Name : Type 0} (m : Meaning Key Id Name) (puts : ℕ → Tree → Option Tree) where
  -- What a fold makes of a known part at a depth.
  pub record IsMade (p : Part Key Id) (depth : ℕ) (by : Part Key Id) : Type 0 where
    pub there : IsTrue (known (part_tree m p))
    pub sure : IsTrue (known (part_tree m by))
    pub made : part_tree m by ≡ folded puts depth (part_tree m p)
    pub sort : part_sort by ≡ part_sort p

  -- What is kept at a place was made of a part at an equal one.
  pub record IsKept (eq : Place Key → Place Key → Bool) (q : Place Key) (by : Part Key Id) : Type 0 where
    pub part : Part Key Id
    pub depth : ℕ
    pub place : Place Key
    pub stands : place_of part depth ≡ Some place
    pub same : IsTrue (eq q place)
    pub is : IsMade part depth by

  -- What is found was made so.
  abbrev pub Remembers : (Place Key → Place Key → Bool) → List (Place Key × Part Key Id) → Type 0
  Remembers eq memory = (q : Place Key) (by : Part Key Id) → Finds eq q by memory → IsKept eq q by

-- The same, of what a folder puts under one interner's meaning.
abbrev pub Recalls : {I Key Id Name F : Type 0} → (Meaning Key Id Name → F → ℕ → Tree → Option Tree) →
    (I → Meaning Key Id Name) → I → F → (Place Key → Place Key → Bool) → Memory Key Id → Type 0
Recalls puts meaning cx f eq memory = Remembers (meaning cx) (puts (meaning cx) f) eq memory.made
