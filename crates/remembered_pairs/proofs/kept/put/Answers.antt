use Rattle.std.proofs.Common.{Contains, subst}
use Rattle.remembered_pairs.proofs.Recalling.{newest}
use Rattle.remembered_pairs.proofs.kept.put.Goals as goal

pub returns-clause-members : goal.returns-clause-members
returns-clause-members g c = λ e h.
    newest c.args.values.now.items c.args.value e (subst (λ xs. Contains xs e) c.in_ok-push-2.ensures.items h)
