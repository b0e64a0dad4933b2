use Rattle.std.proofs.Common.{map}
use Rattle.text_terms.specs.Terms.{text_term_tree}
use Rattle.text_terms.proofs.BuildingLemmas.{makes_of, leaf_makes}
use Rattle.text_terms.proofs.building.making.make_term.Goals as goal

pub returns-in-Slice-clause-made : goal.returns-in-Slice-clause-made
returns-in-Slice-clause-made g c =
    let m = g.I.Interner.meaning c.args.cx.now in
    let items = map m.id c.args.ids.now in
    let names = map m.name c.args.names.now in
    makes_of m c.args.built.now c.args.inners.now (λ ts. text_term_tree items names c.args.numbers.now ts c.args.term) (g.I.Interner.meaning c.make_fixed.new.cx) c.make_fixed.result
    (c.make_fixed.ensures.made items names c.args.numbers.now)

pub returns-in-Item-clause-made : goal.returns-in-Item-clause-made
returns-in-Item-clause-made g c =
    let m = g.I.Interner.meaning c.args.cx.now in
    let items = map m.id c.args.ids.now in
    let names = map m.name c.args.names.now in
    makes_of m c.args.built.now c.args.inners.now (λ ts. text_term_tree items names c.args.numbers.now ts c.args.term) (g.I.Interner.meaning c.make_listed.new.cx) c.make_listed.result
    (c.make_listed.ensures.made names)

pub returns-in-Pat-clause-made : goal.returns-in-Pat-clause-made
returns-in-Pat-clause-made g c =
    let m = g.I.Interner.meaning c.args.cx.now in
    c.make_pattern_type.ensures.made (map m.id c.args.ids.now) (map m.name c.args.names.now) c.args.numbers.now

pub returns-in_default : goal.returns-in_default
returns-in_default g c =
    let m = g.I.Interner.meaning c.args.cx.now in
    let items = map m.id c.args.ids.now in
    record {
      grown = c.make_leaf.ensures.grown;
      made = leaf_makes m c.args.built.now c.args.inners.now (λ ts. text_term_tree items (map m.name c.args.names.now) c.args.numbers.now ts c.args.term) (g.I.Interner.meaning c.make_leaf.new.cx) c.make_leaf.result
          (c.make_leaf.ensures.made items c.args.numbers.now);
    }

pub returns-in-FnPtr-clause-made : goal.returns-in-FnPtr-clause-made
returns-in-FnPtr-clause-made g c =
    let m = g.I.Interner.meaning c.args.cx.now in
    let items = map m.id c.args.ids.now in
    let names = map m.name c.args.names.now in
    makes_of m c.args.built.now c.args.inners.now (λ ts. text_term_tree items names c.args.numbers.now ts c.args.term) (g.I.Interner.meaning c.make_binder.new.cx) c.make_binder.result
    (c.make_binder.ensures.made items names)

pub returns-in-Object-clause-made : goal.returns-in-Object-clause-made
returns-in-Object-clause-made g c =
    let m = g.I.Interner.meaning c.args.cx.now in
    c.make_object.ensures.made (map m.id c.args.ids.now) (map m.name c.args.names.now)
