-- A walk over the arguments under one: how it stands, and what each call does to it.
use Rattle.std.specs.Prelude.{◌≡◌, ◌-◌, ℕ, length, take, drop, Bool, true, false, cond, List, [], ◌∷◌, ◌++◌, map, Option, Some, None, IsTrue}
use Rattle.std.specs.Prelude.{Result, Ok, Err}
use Rattle.std.specs.List.{list_any}
use Rattle.relation_terms.specs.Trees.{known}
use Rattle.relation_terms.specs.Meaning.{Meaning, arg_tree}
use Rattle.relation_terms.specs.declared.terms.generic_arg.GenericArgKind.{GenericArgKind}
use Rattle.traversal.specs.Keeping.{Adds}
use Rattle.traversal.specs.Unseen.{first_unseen}
use Rattle.walk.specs.Places.{places_under}

-- How a walk stands: its interner, what stands under the argument that was yielded last and is still to come, what
-- comes after that, what was visited, and whether memory ran out.
pub record Walk (I Arg : Type 0) : Type 0 where
  pub cx : I
  pub inside : List Arg
  pub after : List Arg
  pub visited : List Arg
  pub failed : Bool

-- The walk that begins at an argument.
abbrev pub begun : {I Arg : Type 0} → I → Arg → Walk I Arg
begun cx root = record { cx = cx; inside = []; after = root ∷ []; visited = []; failed = false }

-- The walk whose stack has these elements, `below` of them below what stands under the argument that was yielded last.
abbrev pub walk_of : {I Arg : Type 0} → I → List Arg → ℕ → List Arg → Bool → Walk I Arg
walk_of cx stack below visited failed = record {
  cx = cx;
  inside = take (length stack - below) stack;
  after = drop (length stack - below) stack;
  visited = visited;
  failed = failed;
}

module _ {I Key Id Name : Type 0} (m : Meaning Key Id Name) (eq : GenericArgKind Key → GenericArgKind Key → Bool) where
  -- The argument that comes next, and what comes after it: the first that is equal to none that was visited.
  abbrev pub next_of : Walk I (GenericArgKind Key) → Option (GenericArgKind Key × List (GenericArgKind Key))
  next_of w = first_unseen (λ q. list_any (eq q) w.visited) (w.inside ++ w.after)

  -- One pull, from a walk to another: after a fault again a fault; at the end nothing; else the argument that comes
  -- next, which the interner knows, and from then on was visited; what stands under it comes first.
  abbrev pub Pull : {E : Type 0} → Walk I (GenericArgKind Key) → Option (Result (GenericArgKind Key) E) →
      Walk I (GenericArgKind Key) → Type 0
  Pull s None t = (s.failed ≡ false) × (next_of s ≡ None) × (t ≡ record s { inside = []; after = [] })
  Pull s (Some (Ok x)) t = (s.failed ≡ false) × (t.failed ≡ false) × (t.cx ≡ s.cx) × IsTrue (known (arg_tree m x)) ×
      (next_of s ≡ Some (x, t.after)) × (map (arg_tree m) t.inside ≡ places_under (arg_tree m x)) ×
      Adds eq s.visited x t.visited
  Pull s (Some (Err e)) t = (t.failed ≡ true) × (t.cx ≡ s.cx) × (s.failed ≡ true → t ≡ s)
