use Rattle.relation_terms.specs.Trees.{size}
use Rattle.fast_reject.proofs.simplify.+without_patterns.Given as goal

abbrev pub decreases-without_patterns : goal.decreases-without_patterns
decreases-without_patterns g l = size ((g.I.Interner.meaning l.cx.now).ty l.ty)
