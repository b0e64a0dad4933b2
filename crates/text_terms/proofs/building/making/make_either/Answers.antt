use Rattle.std.proofs.Common.{map}
use Rattle.text_terms.specs.Terms.{text_term_tree}
use Rattle.text_terms.specs.Built.{inner_tree}
use Rattle.text_terms.proofs.BuildingLemmas.{from_of}
use Rattle.text_terms.proofs.building.making.make_either.Goals as goal

pub returns-in-Range-clause-inner : goal.returns-in-Range-clause-inner
returns-in-Range-clause-inner g c =
    let m = g.I.Interner.meaning c.args.cx.now in
    c.make_pattern.ensures.made (map m.id c.args.ids.now) (map m.name c.args.names.now)

pub returns-in-Implements-clause-inner : goal.returns-in-Implements-clause-inner
returns-in-Implements-clause-inner g c =
    let m = g.I.Interner.meaning c.args.cx.now in
    let items = map m.id c.args.ids.now in
    let names = map m.name c.args.names.now in
    from_of m c.args.built.now c.args.inners.now (λ ts. text_term_tree items names c.args.numbers.now ts c.args.term) (inner_tree (g.I.Interner.meaning c.make_predicate.new.cx)) c.make_predicate.result
    (c.make_predicate.ensures.made names)
