use Rattle.reference_interner.proofs.ClauseLemmas.{clause_predicate}
use Rattle.reference_interner.specs.Adding.{items_in}
use Rattle.reference_interner.proofs.RefInternerInterner.clause_as_predicate.Goals as goal

pub returns : goal.returns
returns c =
    clause_predicate (items_in c.args.self.now) c.args.self.now.nodes (c.args.clause.now.0).0 c.requires
