use Rattle.std.proofs.Common.{refl, arith}
use Rattle.plain_relation.proofs.Bodies.{opens_none, no_more}
use Rattle.plain_relation.proofs.PlainRelationTypeRelation.open_binders.Goals as goal

pub returns-then-round-eq0 : goal.returns-then-round-eq0
returns-then-round-eq0 g c =
    let m = g.I.Interner.meaning c.args.self.now.interner in
    let a = c.args.a.now in
    let b = c.args.b.now in
    let tree = g.T.HasTree.tree m in
    opens_none m c.args.self.now.ambient c.args.self.now.constraints.items (tree a.value) (tree b.value)
    c.requires.decides (m.bound_vars a.bound_vars) (m.bound_vars b.bound_vars) c.requires.lawful c.requires.asked
    c.args.round (let e = c.if-round-eq0.true in omega (arith, e)) tree a.value b.value refl refl

pub returns : goal.returns
returns g c =
    let m = g.I.Interner.meaning c.args.self.now.interner in
    let a = c.args.a.now in
    let b = c.args.b.now in
    let tree = g.T.HasTree.tree m in
    no_more m c.args.self.now.ambient c.args.self.now.constraints.items (tree a.value) (tree b.value)
    c.requires.decides (m.bound_vars a.bound_vars) (m.bound_vars b.bound_vars) c.requires.asked
    c.args.round (let e = c.if-round-eq0.false in let l = c.requires.round in omega (arith, e, l)) tree
