-- The environment in which a question is asked.
use Rattle.std.specs.Prelude.{◌≡◌, List, Result, IfOk, map, slice_range}
use Rattle.relation_terms.specs.Heads.{environment}
use Rattle.relation_terms.specs.Trees.{Tree, node, list_tree}
use Rattle.relation_terms.specs.Meaning.{Meaning}
use Rattle.relation_terms.specs.declared.terms.keys.ParamEnvKey.{ParamEnvKey}
use Rattle.text_reading.specs.declared.naming.program.Parts.{Parts}
use Rattle.text_terms.specs.Built.{AreBuilt}
use Rattle.text_clauses.specs.Clauses.{clause_tree}
use Rattle.text_asking.specs.declared.question.Ready.{Ready}

-- The environment of clauses of these trees.
abbrev pub environment_tree : List Tree → Tree
environment_tree ts = node environment (list_tree (λ t. t) ts)

-- What is made of a range of predicates, if anything is: the environment of their clauses, in order, from an interner
-- to one that has grown.
abbrev pub MakesEnvironment : {C I Key Id Name Span E : Type 0} → (C → Meaning Key Id Name) → C → C →
    Ready I Key Id Name Span → Parts → Result (ParamEnvKey Key) E → Type 0
MakesEnvironment meaning old new terms p result =
    let m = meaning old in
    let tree = clause_tree (map m.id terms.ids.now) (map m.name terms.names.now) terms.parts.now in
    IfOk result (λ k. (ts : List Tree) → AreBuilt m ts terms.built.now →
    (meaning new).param_env k ≡ environment_tree (map (tree ts) (slice_range terms.clauses.now p.first p.behind)))
