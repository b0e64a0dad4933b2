-- What a walk over a whole tree yields, by the places of arguments in the tree, and walks by any list of calls.
use Rattle.std.specs.Prelude.{◌≡◌, ◌≤◌, ℕ, suc, Bool, true, false, cond, List, [], ◌∷◌, ◌++◌, map, length}
use Rattle.std.specs.Prelude.{Option, Some, None, Ok, IsTrue}
use Rattle.std.specs.Option.{option_map}
use Rattle.std.specs.List.{list_any}
use Rattle.relation_terms.specs.Heads.{leaf_sort, head_sort}
use Rattle.relation_terms.specs.Trees.{Tree, leaf, node, bind, nil, cons, known, size}
use Rattle.relation_terms.specs.Equality.{same_tree}
use Rattle.relation_terms.specs.Meaning.{Meaning, arg_tree}
use Rattle.relation_terms.specs.declared.terms.generic_arg.GenericArgKind.{GenericArgKind}
use Rattle.term_enums.specs.declared.memory.OutOfMemory.{OutOfMemory}
use Rattle.relation_folds.specs.Visits.{visited_sort}
use Rattle.walk.specs.Places.{is_passed_over, goes_back}
use Rattle.traversal.specs.Stacks.{present}
use Rattle.walk.specs.Walking.{Walk, Pull}

module _ (skips : ℕ → Bool) where
  -- What was yielded once a tree has been gone over, `ys` having been yielded before. An argument that is the same as
  -- one of those is left out, and all that stands under it; any other is yielded, and what stands under it is gone over
  -- next, but where it is skipped: `skips` says so, by its number among what is yielded.
  abbrev pub yields : Bool → List Tree → Tree → List Tree
  yields back ys (leaf l) =
      cond (visited_sort (leaf_sort l)) (cond (list_any (same_tree (leaf l)) ys) ys (ys ++ leaf l ∷ [])) ys
  yields back ys (node h ts) = cond (visited_sort (head_sort h))
      (cond (list_any (same_tree (node h ts)) ys) ys
      (cond (skips (length ys)) (ys ++ node h ts ∷ []) (yields false (ys ++ node h ts ∷ []) ts)))
      (cond (is_passed_over (head_sort h)) ys (yields (goes_back h) ys ts))
  yields back ys (bind ks t) = yields false ys t
  yields back ys nil = ys
  yields back ys (cons t ts) =
      cond back (yields false (yields true ys ts) t) (yields false (yields false ys t) ts)

-- What is called on a walk.
pub data Call : Type 0 where
  pull skip : Call

-- What comes next is a skip, where anything comes.
abbrev pub IsNext : Bool → List Call → Type 0
IsNext b [] = Unit {0}
IsNext b (skip ∷ cs) = b ≡ true
IsNext b (pull ∷ cs) = b ≡ false

-- `skips` says of each argument that these calls yield, from number `n` on, whether it is skipped before the next pull.
abbrev pub Tells : {A : Type 0} → (ℕ → Bool) → ℕ → List Call → List (Option A) → Type 0
Tells skips n [] rs = Unit {0}
Tells skips n (skip ∷ cs) rs = Tells skips n cs rs
Tells skips n (pull ∷ cs) [] = Unit {0}
Tells skips n (pull ∷ cs) (None ∷ rs) = Tells skips n cs rs
Tells skips n (pull ∷ cs) (Some x ∷ rs) = IsNext (skips n) cs × Tells skips (suc n) cs rs

-- Some pull has come to the end.
abbrev pub has_ended : {A : Type 0} → List (Option A) → Bool
has_ended [] = false
has_ended (None ∷ rs) = true
has_ended (Some x ∷ rs) = has_ended rs

module _ {I Key Id Name : Type 0} (m : Meaning Key Id Name) (eq : GenericArgKind Key → GenericArgKind Key → Bool) where
  -- From one walk to another by calls, without a fault, with what its pulls have answered.
  abbrev pub Runs : Walk I (GenericArgKind Key) → List Call → List (Option (GenericArgKind Key)) →
      Walk I (GenericArgKind Key) → Type 0
  Runs w [] [] v = v ≡ w
  Runs w (skip ∷ cs) rs v = Runs (record w { inside = [] }) cs rs v
  Runs w (pull ∷ cs) (a ∷ rs) v =
      (u : Walk I (GenericArgKind Key)) × Pull m eq {E = OutOfMemory} w (option_map (λ x. Ok x) a) u × Runs u cs rs v
  Runs w cs rs v = ⊥

  -- Whatever calls are made on a walk that has this tree to go over: what it has yielded are the first of what the tree's
  -- places say, all of them once it has come to the end, and no more than the tree's size; and that was visited.
  pub record GoesByPlaces (w v : Walk I (GenericArgKind Key)) (t : Tree) (calls : List Call)
      (answers : List (Option (GenericArgKind Key))) (skips : ℕ → Bool) : Type 0 where
    pub rest : List Tree
    pub first : yields skips false [] t ≡ map (arg_tree m) (present answers) ++ rest
    pub all : IsTrue (has_ended answers) → rest ≡ []
    pub ends : length (present answers) ≤ size t
    pub visited : (q : GenericArgKind Key) → IsTrue (known (arg_tree m q)) →
        list_any (eq q) v.visited ≡ list_any (same_tree (arg_tree m q)) (map (arg_tree m) (present answers))

  abbrev pub ByPlaces : Walk I (GenericArgKind Key) → Tree → Type 0
  ByPlaces w t = (skips : ℕ → Bool) (calls : List Call) (answers : List (Option (GenericArgKind Key)))
      (v : Walk I (GenericArgKind Key)) → Runs w calls answers v → Tells skips 0 calls answers →
      GoesByPlaces w v t calls answers skips

  -- The same of an argument's tree.
  abbrev pub ByPlacesUnder : Walk I (GenericArgKind Key) → GenericArgKind Key → Type 0
  ByPlacesUnder w a = ByPlaces w (arg_tree m a)
