use Rattle.reference_interner.specs.Laws.{env_reads}
use Rattle.reference_interner.specs.Adding.{items_in}
use Rattle.reference_interner.proofs.RefInternerInterner.caller_bounds.Goals as goal

pub returns : goal.returns
returns c = env_reads (items_in c.args.self.now) c.args.self.now.nodes (c.args.param_env.now.0).0
