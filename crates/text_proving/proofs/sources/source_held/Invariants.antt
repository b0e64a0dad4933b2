use Rattle.std.proofs.Common.{take}
use Rattle.std.specs.List.{All}
use Rattle.text_proving.specs.Sources.{Gives}
use Rattle.text_proving.proofs.sources.source_held.Given as goal

-- none of the clauses so far is given
abbrev pub invariant-loop-clause : goal.invariant-loop-clause
invariant-loop-clause g l =
    All (λ k. Gives (g.I.Interner.meaning l.cx) l.rule k → ⊥) (take l.clause-index l.assumed)
