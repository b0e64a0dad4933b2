-- One more constraint is read.
use Rattle.std.proofs.Common.{◌≡◌, length, map, sym, subst, refl, arith}
use Rattle.relation_regions.specs.Reading.{IsAskedIn, ReadsConstraints}
use Rattle.relation_regions.proofs.Constraints.{at_index, index_below, none_are_read, more_are_read}
use Rattle.relation_regions.proofs.reading.read_constraints.Goals as goal

pub loop-index-init : goal.loop-index-init
loop-index-init g c = λ r numbers all. none_are_read r (map r.asked c.args.constraints.now) c.args.table.now
    c.args.pairs.now.pairs c.args.pairs.now.asked_by.items numbers c.requires

pub loop-index-preserved : goal.loop-index-preserved
loop-index-preserved g c = λ r numbers all.
    let xs = c.args.constraints.now in
    let l = c.loop-index in
    let q = c.index-constraints-index.result in
    let is = c.index-constraints-index.is in
    let after = c.read_constraint.new in
    let lt = c.loop-index-test.true in
    let before = l.invariant r numbers all in
    let q_in : IsAskedIn r q = subst (IsAskedIn r) (sym is) (all l.index q lt) in
    more_are_read r (map r.asked xs) c.args.table.now l.index (r.asked q) l.table after.table l.pairs.pairs
    l.pairs.asked_by.items after.pairs.pairs after.pairs.asked_by.items
    (index_below r.asked xs (map r.asked xs) l.index refl lt)
    (at_index r.asked xs (map r.asked xs) l.index q refl lt is) before
    (c.in_ok-read_constraint.ensures r before.numbers q_in)

pub returns : goal.returns
returns g c =
    let l = c.loop-index in
    let e : l.index ≡ length c.args.constraints.now = omega arith in
    subst (λ n. ReadsConstraints (λ a b. g.X.PartialEq.eq a.0 b.0) c.args.constraints.now n c.args.table.now l.table
    l.pairs.pairs l.pairs.asked_by.items) e l.invariant
