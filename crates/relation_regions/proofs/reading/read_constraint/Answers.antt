-- What the constraint asks for is read.
use Rattle.relation_regions.proofs.Constraints.{outlives_read, equal_read, no_type_read, no_const_read}
use Rattle.relation_regions.proofs.reading.read_constraint.Goals as goal

pub returns-in-Lifetime : goal.returns-in-Lifetime
returns-in-Lifetime g c =
    let table = c.args.table.now in
    let p = c.args.pairs.now in
    let after = c.add_pair.new in
    outlives_read (λ k l. g.X.PartialEq.eq k.0 l.0) c.args.constraint c.args.index table table after.table p.pairs
    p.asked_by.items p.pairs p.asked_by.items after.pairs.pairs after.pairs.asked_by.items c.add_pair.result
    c.in-Outlives.outlives c.in-Lifetime.longer c.in-Outlives.is c.in-Lifetime.is c.add_pair.ensures

pub returns-in-Ty : goal.returns-in-Ty
returns-in-Ty g c =
    let table = c.args.table.now in
    let p = c.args.pairs.now in
    no_type_read (λ k l. g.X.PartialEq.eq k.0 l.0) c.args.constraint c.args.index table table table p.pairs
    p.asked_by.items p.pairs p.asked_by.items p.pairs p.asked_by.items c.in-Outlives.outlives c.in-Ty.field-0
    c.in-Outlives.is c.in-Ty.is

pub returns-in-Const : goal.returns-in-Const
returns-in-Const g c =
    let table = c.args.table.now in
    let p = c.args.pairs.now in
    no_const_read (λ k l. g.X.PartialEq.eq k.0 l.0) c.args.constraint c.args.index table table table p.pairs
    p.asked_by.items p.pairs p.asked_by.items p.pairs p.asked_by.items c.in-Outlives.outlives c.in-Const.field-0
    c.in-Outlives.is c.in-Const.is

pub returns-in_ok-add_pair-in-Eq : goal.returns-in_ok-add_pair-in-Eq
returns-in_ok-add_pair-in-Eq g c =
    let p = c.args.pairs.now in
    let mid = c.add_pair-in-Eq.new in
    let after = c.add_pair-in-Eq-2.new in
    equal_read (λ k l. g.X.PartialEq.eq k.0 l.0) c.args.constraint c.args.index c.args.table.now mid.table after.table
    p.pairs p.asked_by.items mid.pairs.pairs mid.pairs.asked_by.items after.pairs.pairs after.pairs.asked_by.items
    c.add_pair-in-Eq-2.result c.in-Eq.equal.0 c.in-Eq.equal.1 c.in-Eq.is c.in_ok-add_pair-in-Eq.ensures
    c.add_pair-in-Eq-2.ensures
