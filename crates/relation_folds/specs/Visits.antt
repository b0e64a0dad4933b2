-- What a visitor goes over.
use Rattle.std.specs.Prelude.{◌≡◌, ℕ, suc, List, Bool, true, false, not, cond, ◌||◌, nat_lt, IsTrue}
use Rattle.std.specs.declared.ops.ControlFlow.{ControlFlow}
use Rattle.std.specs.declared.ops.ControlFlow.TheVariants.{Continue, Break}
use Rattle.relation_terms.specs.Heads.{Sort, region_sort, type_sort, const_sort, leaf_sort, head_sort, region_var}
use Rattle.relation_terms.specs.Heads.{BoundKind}
use Rattle.relation_terms.specs.Heads.{Atom, type_param, type_error, fresh_type, fresh_int, fresh_float, Head, alias}
use Rattle.relation_terms.specs.Heads.{Leaf, variable, bound, atom}
use Rattle.relation_terms.specs.Trees.{Tree, leaf, node, bind, nil, cons}
use Rattle.relation_terms.specs.Meaning.{Meaning}
use Rattle.relation_terms.specs.Flags.{outer_exclusive_binder, has_non_region_infer}
use Rattle.relation_terms.specs.Parts.{parts_of, parts_tree}
use Rattle.relation_terms.specs.Orders.{in_order, order_of, list_order}
use Rattle.relation_terms.specs.declared.terms.keys.AlternativesKey.{AlternativesKey}
use Rattle.relation_terms.specs.declared.terms.keys.ExistentialPredicatesKey.{ExistentialPredicatesKey}
use Rattle.relation_terms.specs.declared.terms.part_kind.Part.{Part}
use Rattle.relation_terms.specs.declared.terms.part_kind.Part.TheVariants.{Binder}
use Rattle.relation_terms.specs.declared.terms.part_kind.Parts.{Parts}
use Rattle.relation_folds.specs.declared.visit.Visit.{Visit}
use Rattle.relation_folds.specs.declared.visit.Visit.TheVariants.{Enter, Skip, Stop}

-- Types, regions and constants: the terms that a visitor is asked about.
abbrev pub visited_sort : Sort → Bool
visited_sort region_sort = true
visited_sort type_sort = true
visited_sort const_sort = true
visited_sort s = false

-- The tree is such a term.
abbrev pub is_visited : Tree → Bool
is_visited (leaf l) = visited_sort (leaf_sort l)
is_visited (node h ts) = visited_sort (head_sort h)
is_visited t = false

-- Whether a visit goes on or was stopped.
abbrev pub Flow : Type 0
Flow = ControlFlow (Unit {0}) (Unit {0})

-- What a visitor does at a tree, if it is asked about it; if not, it stays, and the tree is entered.
abbrev pub Asks : {V : Type 0} → (V → ℕ → Tree → V → Visit → Type 0) → Bool → ℕ → V → Tree → V → Visit → Type 0
Asks visits true d v t w a = visits v d t w a
Asks visits false d v t w a = (w ≡ v) × (a ≡ Enter)

-- The depth that a visitor is told one binder deeper. From the largest number on it is told that one.
abbrev pub deeper : ℕ → ℕ
deeper d = cond (nat_lt d 340282366920938463463374607431768211455) (suc d) d

-- The depth that it is told at what is in a part.
abbrev pub told_inside_part : {Key Id : Type 0} → Part Key Id → ℕ → ℕ
told_inside_part (Binder vs b) d = deeper d
told_inside_part p d = d

-- From one visitor, over a tree with `d` binders around it, to another: the visitor is asked about each type, region
-- and constant before its parts, and what it enters it goes over part by part, in the form's order, until it stops. It
-- is told how many binders stand around what it is asked about, as far as there are numbers.
pub data Walks {V : Type 0} (visits : V → ℕ → Tree → V → Visit → Type 0) : ℕ → V → Tree → V → Flow → Type 0 where
  -- a term whose parts are gone over, one whose parts are not, and one that is the last
  entered : {d : ℕ} {v w x : V} {t : Tree} {r : Flow} → is_visited t ≡ true → visits v d t w Enter →
      Walks visits d w (parts_of t) x r → Walks visits d v t x r
  skipped : {d : ℕ} {v w : V} {t : Tree} → is_visited t ≡ true → visits v d t w Skip →
      Walks visits d v t w (Continue tt)
  stopped : {d : ℕ} {v w : V} {t : Tree} → is_visited t ≡ true → visits v d t w Stop → Walks visits d v t w (Break tt)
  -- what stands between a term and its parts, which no visitor is asked about
  passed_leaf : {d : ℕ} {v : V} {l : Leaf} → is_visited (leaf l) ≡ false → Walks visits d v (leaf l) v (Continue tt)
  passed : {d : ℕ} {v w : V} {h : Head} {ts : Tree} {r : Flow} → is_visited (node h ts) ≡ false →
      Walks visits d v (in_order (order_of (node h ts)) ts) w r → Walks visits d v (node h ts) w r
  -- what stands under a binder, one binder deeper
  in_binder : {d : ℕ} {v w : V} {ks : List BoundKind} {t : Tree} {r : Flow} → Walks visits (deeper d) v t w r →
      Walks visits d v (bind ks t) w r
  -- a list, part by part
  no_part : {d : ℕ} {v : V} → Walks visits d v nil v (Continue tt)
  last_part : {d : ℕ} {v w : V} {t ts : Tree} → Walks visits d v t w (Break tt) →
      Walks visits d v (cons t ts) w (Break tt)
  next_part : {d : ℕ} {v w x : V} {t ts : Tree} {r : Flow} → Walks visits d v t w (Continue tt) →
      Walks visits d w ts x r → Walks visits d v (cons t ts) x r

-- From one visitor to another over the parts of a tree, and over the list of a key: of alternatives, of predicates.
abbrev pub WalksParts : {V : Type 0} → (V → ℕ → Tree → V → Visit → Type 0) → V → Tree → V → Flow → Type 0
WalksParts visits v t w r = Walks visits 0 v (parts_of t) w r

-- The members of a list, in its order.
abbrev pub in_turns : {Key Id Name : Type 0} → Meaning Key Id Name → Parts Key Id → Tree
in_turns m ps = in_order (list_order ps) (parts_tree m ps)

module _ {Key Id Name V : Type 0} (visits : V → ℕ → Tree → V → Visit → Type 0) (m : Meaning Key Id Name) where
  abbrev pub WalksAlternatives : V → AlternativesKey Key → V → Flow → Type 0
  WalksAlternatives v k w r = Walks visits 0 v (m.alternatives k) w r

  abbrev pub WalksPredicates : V → ExistentialPredicatesKey Key → V → Flow → Type 0
  WalksPredicates v k w r = Walks visits 0 v (m.existential_predicates k) w r

-- Some leaf has a property, which is told how many binders stand around the leaf, `depth` of them around the tree.
abbrev pub has_leaf : (ℕ → Leaf → Bool) → ℕ → Tree → Bool
has_leaf p depth (leaf l) = p depth l
has_leaf p depth (node h ts) = has_leaf p depth ts
has_leaf p depth (bind ks t) = has_leaf p (suc depth) t
has_leaf p depth nil = false
has_leaf p depth (cons t ts) = has_leaf p depth t || has_leaf p depth ts

-- A variable that is bound by none of the binders around it.
abbrev pub is_escaping : ℕ → Leaf → Bool
is_escaping depth (bound k d i) = not (nat_lt d depth)
is_escaping depth l = false

-- An inference variable of any kind but region.
abbrev pub is_non_region_infer : ℕ → Leaf → Bool
is_non_region_infer depth (variable region_var n) = false
is_non_region_infer depth (variable k n) = true
is_non_region_infer depth l = false

-- A variable stands in the tree that a binder outside the tree binds.
abbrev pub bound_var_escapes : Tree → Bool
bound_var_escapes t = has_leaf is_escaping 0 t

-- An inference variable of any kind but region stands in the tree.
abbrev pub non_region_infer_stands : Tree → Bool
non_region_infer_stands t = has_leaf is_non_region_infer 0 t

-- A visitor that stops at a tree in which a variable stands that is bound by none of the binders around it, and skips
-- all else. How many binders the tree needs is a number that there is.
abbrev pub StopsAtEscaping : {V : Type 0} → V → ℕ → Tree → V → Visit → Type 0
StopsAtEscaping v depth t w a =
    (a ≡ cond (nat_lt depth (outer_exclusive_binder t)) Stop Skip) ×
    IsTrue (nat_lt (outer_exclusive_binder t) 340282366920938463463374607431768211456)

-- A visitor that stops at a tree in which an inference variable of any kind but region stands, and skips all else.
abbrev pub StopsAtInfer : {V : Type 0} → V → ℕ → Tree → V → Visit → Type 0
StopsAtInfer v depth t w a = a ≡ cond (has_non_region_infer t) Stop Skip

-- A form without parts that no instantiation changes into another, and no error.
abbrev pub rigid_atom : Atom → Bool
rigid_atom (type_param i n) = false
rigid_atom type_error = false
rigid_atom (fresh_type n) = false
rigid_atom (fresh_int n) = false
rigid_atom (fresh_float n) = false
rigid_atom x = true

-- The outermost form of a type is its own, whatever is instantiated or normalised: it is no parameter, placeholder,
-- variable, alias or error, and not bound.
abbrev pub is_rigid : Tree → Bool
is_rigid (leaf (atom x)) = rigid_atom x
is_rigid (node (alias k d) ts) = false
is_rigid (node h ts) = true
is_rigid t = false
