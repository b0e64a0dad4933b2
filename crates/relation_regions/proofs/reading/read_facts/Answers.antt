-- One more fact is read.
use Rattle.std.proofs.Common.{◌≡◌, length, map, sym, subst, arith}
use Rattle.relation_regions.specs.Reading.{IsFactOn, ReadsFacts, read_facts, stating}
use Rattle.relation_regions.proofs.Constraints.{fact_at, fact_below, pair_asked, none_are_read, more_are_read}
use Rattle.relation_regions.proofs.reading.read_facts.Goals as goal

pub loop-index-init : goal.loop-index-init
loop-index-init g c = λ r numbers all. none_are_read r (map stating (read_facts r c.args.facts.now)) c.args.table.now
    c.args.pairs.now.pairs c.args.pairs.now.asked_by.items numbers c.requires

pub loop-index-preserved : goal.loop-index-preserved
loop-index-preserved g c = λ r numbers all.
    let facts = c.args.facts.now in
    let l = c.loop-index in
    let f = c.index-facts-index.result in
    let is = c.index-facts-index.is in
    let p = l.pairs in
    let after = c.add_pair.new in
    let lt = c.loop-index-test.true in
    let before = l.invariant r numbers all in
    let f_in : IsFactOn r f = subst (IsFactOn r) (sym is) (all l.index f lt) in
    more_are_read r (map stating (read_facts r facts)) c.args.table.now l.index (stating (r.region f.0, r.region f.1))
    l.table after.table p.pairs p.asked_by.items after.pairs.pairs after.pairs.asked_by.items
    (fact_below (λ f. (r.region f.0, r.region f.1)) facts l.index lt)
    (fact_at (λ f. (r.region f.0, r.region f.1)) facts l.index lt f is) before
    (pair_asked r f.0 f.1 l.index l.table l.table after.table p.pairs p.asked_by.items p.pairs p.asked_by.items
    after.pairs.pairs after.pairs.asked_by.items (c.in_ok-add_pair.ensures r before.numbers f_in.0 f_in.1))

pub returns : goal.returns
returns g c =
    let l = c.loop-index in
    let e : l.index ≡ length c.args.facts.now = omega arith in
    subst (λ n. ReadsFacts (λ a b. g.X.PartialEq.eq a.0 b.0) c.args.facts.now n c.args.table.now l.table l.pairs.pairs
    l.pairs.asked_by.items) e l.invariant
