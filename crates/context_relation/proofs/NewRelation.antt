-- How the relation of a context stands that was made with nothing registered and nothing remembered.
use Rattle.std.proofs.Common.{◌≡◌, ap, ◌∙◌, []}
use Rattle.term_enums.specs.declared.StructurallyRelateAliases.{StructurallyRelateAliases}
use Rattle.term_enums.specs.declared.Variance.{Variance}
use Rattle.relation_terms.specs.declared.terms.keys.ParamEnvKey.{ParamEnvKey}
use Rattle.relation_semantics.specs.Contexts.{Context}
use Rattle.relation_combining.specs.Solving.{solving_through, solving_in}
use Rattle.context_relation.specs.declared.relation.SolverRelating.{SolverRelating}
use Rattle.context_relation.specs.SolverStates.{solver_at, solver_after}

module _ {Infcx Interner Key Id Name Span : Type 0} (state : Infcx → Context Key Id Name)
    (r : SolverRelating Infcx Interner Key Id Name Span) {aliases : StructurallyRelateAliases} {c : Infcx} {v : Variance}
    {e : ParamEnvKey Key} (same_aliases : r.structurally_relate_aliases ≡ aliases) (same_context : r.infcx.now ≡ c)
    (same_variance : r.ambient_variance ≡ v) (same_environment : r.param_env ≡ e) where
  -- As it was made to.
  pub stands_new : r.cache.pairs.kept ≡ [] → r.goals.items ≡ [] → solver_at state r ≡ solving_in aliases [] (state c) v e
  stands_new none_kept none_registered =
      ap (λ z. solving_through z 0 r.cache.pairs.kept r.goals.items (state r.infcx.now) r.ambient_variance r.param_env) same_aliases
      ∙ ap (λ z. solving_through aliases 0 z r.goals.items (state r.infcx.now) r.ambient_variance r.param_env) none_kept
      ∙ ap (λ z. solving_through aliases 0 [] z (state r.infcx.now) r.ambient_variance r.param_env) none_registered
      ∙ ap (λ z. solving_through aliases 0 [] [] (state z) r.ambient_variance r.param_env) same_context
      ∙ ap (λ z. solving_through aliases 0 [] [] (state c) z r.param_env) same_variance
      ∙ ap (λ z. solving_through aliases 0 [] [] (state c) v z) same_environment

  -- And after it has related.
  pub stands_after : (q : SolverRelating Infcx Interner Key Id Name Span) →
      solver_after state r q ≡ solving_through aliases 0 q.cache.pairs.kept q.goals.items (state q.infcx.now) v e
  stands_after q =
      ap (λ z. solving_through z 0 q.cache.pairs.kept q.goals.items (state q.infcx.now) r.ambient_variance r.param_env) same_aliases
      ∙ ap (λ z. solving_through aliases 0 q.cache.pairs.kept q.goals.items (state q.infcx.now) z r.param_env) same_variance
      ∙ ap (λ z. solving_through aliases 0 q.cache.pairs.kept q.goals.items (state q.infcx.now) v z) same_environment
