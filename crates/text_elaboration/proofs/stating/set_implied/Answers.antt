use Rattle.std.proofs.Common.{sym, subst, None}
use Rattle.reference_interner.specs.Items.{clauses_in}
use Rattle.text_elaboration.specs.Stating.{Puts, where_said}
use Rattle.text_elaboration.proofs.PutLemmas.{puts_implied}
use Rattle.text_elaboration.proofs.stating.set_implied.Goals as goal

pub returns-clause-puts : goal.returns-clause-puts
returns-clause-puts c =
    subst (λ b. Puts c.args.cx.now c.set_implied_predicates.new.self c.args.id.0 None (where_said b (clauses_in c.args.clauses)) None)
    (sym c.if-not-is_said.false)
    (puts_implied c.args.cx.now c.set_implied_predicates.new.self c.args.id.0 c.args.clauses c.set_implied_predicates.ensures.recorded)
