-- Another target than a placeholder is no reason.
use Rattle.std.proofs.Common.{sym, ◌∙◌}
use Rattle.relation_regions.proofs.Widened.{target_passed}
use Rattle.relation_regions.proofs.widening.note_target.Goals as goal

pub returns-then-not-is_placeholder-clause-noted : goal.returns-then-not-is_placeholder-clause-noted
returns-then-not-is_placeholder-clause-noted c = target_passed c.args.graph.now c.args.standings.now c.args.target
    c.args.reasons.now.items c.requires.earlier (sym c.is_placeholder.ensures ∙ c.if-not-is_placeholder.true)
