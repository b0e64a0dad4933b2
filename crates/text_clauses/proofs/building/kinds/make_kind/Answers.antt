use Rattle.std.proofs.Common.{map}
use Rattle.relation_terms.proofs.Stays.{stays_same}
use Rattle.text_clauses.proofs.building.kinds.make_kind.Goals as goal

pub returns-in-Claims-clause-made : goal.returns-in-Claims-clause-made
returns-in-Claims-clause-made g c =
    c.make_claim.ensures.made (map (g.I.Interner.meaning c.args.cx.now).name c.args.names.now)

pub returns-in-ComesTo-clause-made : goal.returns-in-ComesTo-clause-made
returns-in-ComesTo-clause-made g c =
    c.make_projection.ensures.made (map (g.I.Interner.meaning c.args.cx.now).name c.args.names.now)

pub returns-in_default : goal.returns-in_default
returns-in_default g c =
    let m = g.I.Interner.meaning c.args.cx.now in
    record {
      grown = stays_same m;
      made = c.plain_kind.ensures m (map m.id c.args.ids.now) c.args.numbers.now c.requires;
    }
