use Rattle.std.proofs.Common.{subst, sym, refl, IsTrue}
use Rattle.relation_terms.specs.Trees.{known}
use Rattle.relation_terms.proofs.Stays.{stays_same}
use Rattle.reference_interner.specs.Nodes.{table_meaning}
use Rattle.reference_interner.specs.Laws.{env_reads}
use Rattle.reference_interner.specs.Adding.{items_in}
use Rattle.reference_interner.proofs.RefInternerInterner.mk_param_env.Goals as goal

pub returns-clause-grown : goal.returns-clause-grown
returns-clause-grown c = stays_same (table_meaning (items_in c.args.self.now) c.args.self.now.nodes)

pub returns-clause-made : goal.returns-clause-made
returns-clause-made c = env_reads (items_in c.args.self.now) c.args.self.now.nodes (c.args.clauses.0).0

pub returns-clause-sure : goal.returns-clause-sure
returns-clause-sure c = subst (λ t. IsTrue (known t)) (sym (returns-clause-made c)) c.requires

pub returns-clause-there : goal.returns-clause-there
returns-clause-there c = λ k e. (refl, refl)
