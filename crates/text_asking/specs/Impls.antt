-- Two impls whose headers may overlap.
use Rattle.std.specs.Prelude.{IsTrue}
use Rattle.relation_terms.specs.Trees.{known}
use Rattle.relation_terms.specs.Meaning.{Meaning}
use Rattle.relation_coherence.specs.Headers.{header_tree}
use Rattle.text_asking.specs.declared.coherence.Impls.{Impls}

-- Both headers and the environment are known.
pub record KnowsImpls {Key Id Name : Type 0} (m : Meaning Key Id Name) (p : Impls Key Id) : Type 0 where
  pub left_known : IsTrue (known (header_tree m p.left))
  pub right_known : IsTrue (known (header_tree m p.right))
  pub env_known : IsTrue (known (m.param_env p.param_env))
