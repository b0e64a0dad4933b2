use Rattle.text_proving.proofs.Closing.{walked_values}
use Rattle.text_proving.proofs.closed.are_closed.Goals as goal

pub returns-in-Continue : goal.returns-in-Continue
returns-in-Continue g c =
    λ told. walked_values (record {}) c.visit_with.new.visitor
    ((g.I.Interner.meaning c.args.cx.now).clauses c.args.clauses.now) _ c.requires c.in-Continue.ensures tt
