use Rattle.std.proofs.Common.{sym, ap₂, ◌∙◌}
use Rattle.relation_terms.specs.Heads.{adt}
use Rattle.relation_terms.specs.Trees.{node, nil, cons}
use Rattle.plain_relation.proofs.Concrete.{concrete_as, args_concrete, concrete_known}
use Rattle.relation_tests.proofs.over_items.make_over.Goals as goal

pub returns-clause-concrete : goal.returns-clause-concrete
returns-clause-concrete g c =
    let m = g.I.Interner.meaning c.args.cx.now in
    let n = g.I.Interner.meaning c.make_args.new.cx in
    let k = c.in_ok-args.args in
    args_concrete c.in_ok-ty.ensures.grown k
    (concrete_as (cons (m.ty c.args.argument.now) nil) (n.args k) c.in_ok-args.ensures.is (c.requires, tt))

pub returns-clause-is : goal.returns-clause-is
returns-clause-is g c =
    let m = g.I.Interner.meaning c.args.cx.now in
    let n = g.I.Interner.meaning c.make_args.new.cx in
    let k = c.in_ok-args.args in
    let e = c.in_ok-ty.ensures.grown in
    let was = concrete_as (cons (m.ty c.args.argument.now) nil) (n.args k) c.in_ok-args.ensures.is (c.requires, tt) in
    c.in_ok-ty.ensures.made ∙ ap₂ (λ i ts. node (adt i) ts) (sym (e.id c.args.item.now))
    (sym (e.args k (concrete_known (n.args k) was)))

pub make_item-requires : goal.make_item-requires
make_item-requires g c =
    let m = g.I.Interner.meaning c.args.cx.now in
    let n = g.I.Interner.meaning c.make_args.new.cx in
    let k = c.in_ok-args.args in
    concrete_known (n.args k)
    (concrete_as (cons (m.ty c.args.argument.now) nil) (n.args k) c.in_ok-args.ensures.is (c.requires, tt))
