-- How the relation of a context stands, through its reference or through none, and what is said between two such states.
use Rattle.relation_semantics.specs.Contexts.{Context}
use Rattle.relation_semantics.specs.Lawful.{State}
use Rattle.context_relation.specs.declared.relation.SolverRelating.{SolverRelating}
use Rattle.relation_combining.specs.Solving.{solving_through}

-- Of a relation over a context, which `state` shows.
module _ {Infcx Interner Key Id Name Span : Type 0} (state : Infcx → Context Key Id Name) where
  -- How it stands, through no reference.
  abbrev pub solver_at : SolverRelating Infcx Interner Key Id Name Span → State Key Id Name
  solver_at r = solving_through r.structurally_relate_aliases 0 r.cache.pairs.kept r.goals.items (state r.infcx.now)
      r.ambient_variance r.param_env

  -- How the second stands, where aliases are related as by the first, at its variance and in its environment.
  abbrev pub solver_after : SolverRelating Infcx Interner Key Id Name Span →
      SolverRelating Infcx Interner Key Id Name Span → State Key Id Name
  solver_after r q = solving_through r.structurally_relate_aliases 0 q.cache.pairs.kept q.goals.items (state q.infcx.now)
      r.ambient_variance r.param_env

  -- How it stands, through its reference.
  abbrev pub solver_through : SolverRelating Infcx Interner Key Id Name Span → State Key Id Name
  solver_through r = solving_through r.structurally_relate_aliases r.infcx.ghost_name r.cache.pairs.kept r.goals.items
      (state r.infcx.now) r.ambient_variance r.param_env

  -- What is said of two states, of how it stood and of how it stands, through its reference.
  abbrev pub through : {X : Type 1} → (State Key Id Name → State Key Id Name → X) →
      SolverRelating Infcx Interner Key Id Name Span → SolverRelating Infcx Interner Key Id Name Span → X
  through P r q = P (solver_through r) (solver_through q)
