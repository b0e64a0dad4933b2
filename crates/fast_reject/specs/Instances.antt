-- The instances of a term, and which terms have a common one.
use Rattle.std.specs.Prelude.{◌≡◌, ℕ, List, Bool, true, false}
use Rattle.relation_terms.specs.Heads.{Head, alias, type_param, const_param, type_error, const_error}
use Rattle.relation_terms.specs.Heads.{BoundKind, Leaf, variable, atom, int_var, float_var}
use Rattle.relation_terms.specs.Trees.{Tree, leaf, node, bind, nil, cons, IsTerm, Leaves}
use Rattle.relation_terms.specs.Erasure.{erase}
use Rattle.relation_terms.specs.Parts.{tree_sort}
use Rattle.relation_folds.specs.Clashes.{flexible, is_integral, is_floating_point}

-- No inference variable.
abbrev pub IsNoVariable : Leaf → Type 0
IsNoVariable (variable k n) = ⊥
IsNoVariable l = Unit {0}

-- What may be put for a term besides a term of its sort: for an integer variable an integer type, for a float variable
-- a float type.
abbrev pub is_fit : Tree → Tree → Bool
is_fit (leaf (variable int_var n)) t = is_integral t
is_fit (leaf (variable float_var n)) t = is_floating_point t
is_fit a t = true

-- The second term is an instance of the first: each place, of those that may stand for others by `places`, is replaced,
-- by itself, by any term of its sort without variables.
pub data Instance (places : Tree → Bool) : Tree → Tree → Type 0 where
  put : {a x : Tree} → places a ≡ true → IsTerm (tree_sort a) x → Leaves IsNoVariable x → is_fit a x ≡ true →
      Instance places a x
  kept_leaf : {l : Leaf} → places (leaf l) ≡ false → Instance places (leaf l) (leaf l)
  kept_node : {h : Head} {ts us : Tree} → places (node h ts) ≡ false → Instance places ts us →
      Instance places (node h ts) (node h us)
  kept_bind : {ks : List BoundKind} {t u : Tree} → Instance places t u → Instance places (bind ks t) (bind ks u)
  kept_nil : Instance places nil nil
  kept_cons : {t u ts us : Tree} → Instance places t u → Instance places ts us →
      Instance places (cons t ts) (cons u us)

-- Some instances of the two terms are one up to erasure.
pub record CommonInstance (left_places right_places : Tree → Bool) (a b : Tree) : Type 0 where
  pub left : Tree
  pub right : Tree
  pub of_left : Instance left_places a left
  pub of_right : Instance right_places b right
  pub same : erase left ≡ erase right

-- A parameter of a type or a constant has the name of its index.
abbrev pub IsNamed : (ℕ → ℕ) → (ℕ → ℕ) → Leaf → Type 0
IsNamed types consts (atom (type_param i n)) = n ≡ types i
IsNamed types consts (atom (const_param i n)) = n ≡ consts i
IsNamed types consts l = Unit {0}

-- Parameters of one index have one name in both terms.
pub record AgreeOnNames (a b : Tree) : Type 0 where
  pub types : ℕ → ℕ
  pub consts : ℕ → ℕ
  pub left : Leaves (IsNamed types consts) a
  pub right : Leaves (IsNamed types consts) b

-- Two terms have no common instance, where parameters may stand for others on the left if `l`, on the right if `r`.
-- Where they may on neither side, those of one index have one name.
abbrev pub NoCommonInstance : Bool → Bool → Tree → Tree → Type 0
NoCommonInstance l r a b = (l ≡ false → r ≡ false → AgreeOnNames a b) →
    CommonInstance (flexible l) (flexible r) a b → ⊥

-- The places that may stand for others where aliases are taken as types of their own.
abbrev pub flexible_but_aliases : Bool → Tree → Bool
flexible_but_aliases params (node (alias k d) ts) = false
flexible_but_aliases params t = flexible params t

-- No error.
abbrev pub IsNoError : Leaf → Type 0
IsNoError (atom type_error) = ⊥
IsNoError (atom const_error) = ⊥
IsNoError l = Unit {0}
