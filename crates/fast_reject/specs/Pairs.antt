-- What the depth test goes on to inside of two types.
use Rattle.std.specs.Prelude.{◌⊎◌, ◌↔◌, ◌<◌, ◌+◌, ℕ, Bool, true, false, IsTrue}
use Rattle.relation_terms.specs.Trees.{Tree, known, size}
use Rattle.relation_terms.specs.Parts.{parts_of}
use Rattle.relation_terms.specs.Meaning.{Meaning}
use Rattle.relation_folds.specs.Clashes.{Clash, OneOutline}
use Rattle.relation_folds.specs.Forms.{Form, Leaf, Adt, FnDef, Closure, CoroutineClosure, Coroutine, CoroutineWitness}
use Rattle.relation_folds.specs.Forms.{Tuple, FnPtr, Dynamic, Alias}
use Rattle.relation_folds.specs.Outlines.{tree_outline}
use Rattle.fast_reject.specs.declared.forms.Sides.{Sides}
use Rattle.fast_reject.specs.declared.pairs.Pair.{Pair}
use Rattle.fast_reject.specs.declared.pairs.Pair.TheVariants.{Apart, Nothing, Types, Arrays, Lists, Args}

-- Forms over an item, and that without parts.
abbrev pub is_of_item : Form → Bool
is_of_item Leaf = true
is_of_item Adt = true
is_of_item FnDef = true
is_of_item Closure = true
is_of_item CoroutineClosure = true
is_of_item Coroutine = true
is_of_item CoroutineWitness = true
is_of_item f = false

-- These, and other forms over lists.
abbrev pub is_of_list : Form → Bool
is_of_list Tuple = true
is_of_list FnPtr = true
is_of_list Dynamic = true
is_of_list Alias = true
is_of_list f = is_of_item f

-- The type is of such a form.
abbrev pub IsOfItem : Tree → Type 0
IsOfItem a = IsTrue (is_of_item (tree_outline a).form)

abbrev pub IsOfList : Tree → Type 0
IsOfList a = IsTrue (is_of_list (tree_outline a).form)

-- Two terms clash by their trees, within a depth.
abbrev pub ClashAs : {K : Type 0} → Sides → ℕ → (K → Tree) → K → K → Type 0
ClashAs sides d tree a b = Clash sides.left sides.right d (tree a) (tree b)

module _ {Key Id Name : Type 0} (m : Meaning Key Id Name) where
  -- The terms of a pair are known.
  abbrev pub KnownPair : Pair Key → Type 0
  KnownPair Apart = Unit {0}
  KnownPair Nothing = Unit {0}
  KnownPair (Types t u) = IsTrue (known (m.ty t)) × IsTrue (known (m.ty u))
  KnownPair (Arrays t u n k) =
      (IsTrue (known (m.ty t)) × IsTrue (known (m.ty u))) × (IsTrue (known (m.const_ n)) × IsTrue (known (m.const_ k)))
  KnownPair (Lists ts us) = IsTrue (known (m.tys ts)) × IsTrue (known (m.tys us))
  KnownPair (Args xs ys) = IsTrue (known (m.args xs)) × IsTrue (known (m.args ys))

  -- How large the left terms are.
  abbrev pub pair_size : Pair Key → ℕ
  pair_size Apart = 0
  pair_size Nothing = 0
  pair_size (Types t u) = size (m.ty t)
  pair_size (Arrays t u n k) = size (m.ty t) + size (m.const_ n)
  pair_size (Lists ts us) = size (m.tys ts)
  pair_size (Args xs ys) = size (m.args xs)

  -- A clash in a pair, within a depth.
  abbrev pub ClashIn : Bool → Bool → ℕ → Pair Key → Type 0
  ClashIn l r d Apart = Unit {0}
  ClashIn l r d Nothing = ⊥
  ClashIn l r d (Types t u) = Clash l r d (m.ty t) (m.ty u)
  ClashIn l r d (Arrays t u n k) = Clash l r d (m.ty t) (m.ty u) ⊎ Clash l r d (m.const_ n) (m.const_ k)
  ClashIn l r d (Lists ts us) = Clash l r d (m.tys ts) (m.tys us)
  ClashIn l r d (Args xs ys) = Clash l r d (m.args xs) (m.args ys)

  -- The pair is of two types of like forms: it has what can clash of their parts.
  abbrev pub IsInside : Tree → Tree → Pair Key → Type 0
  IsInside a b p = OneOutline a b × (KnownPair p × ((pair_size p < size a) ×
      ((l r : Bool) (d : ℕ) → Clash l r d (parts_of a) (parts_of b) ↔ ClashIn l r d p)))

  -- The pair of two types: apart exactly where their forms are unlike.
  abbrev pub Pairs : Tree → Tree → Pair Key → Type 0
  Pairs a b Apart = OneOutline a b → ⊥
  Pairs a b Nothing = IsInside a b Nothing
  Pairs a b (Types t u) = IsInside a b (Types t u)
  Pairs a b (Arrays t u n k) = IsInside a b (Arrays t u n k)
  Pairs a b (Lists ts us) = IsInside a b (Lists ts us)
  Pairs a b (Args xs ys) = IsInside a b (Args xs ys)
