use Rattle.component_parts.specs.Components.{every, components}
use Rattle.outlives.proofs.Outliving.{adds_none, appended_some, appended_all}
use Rattle.outlives.proofs.push_outlives_components.Goals as goal

pub returns-in_err-list-clause-some : goal.returns-in_err-list-clause-some
returns-in_err-list-clause-some g c =
    let m = g.I.Interner.meaning c.args.cx.now in
    adds_none m (components every (m.ty c.args.ty.now)) c.args.out.now.items

pub returns-clause-some : goal.returns-clause-some
returns-clause-some g c =
    let m = g.I.Interner.meaning c.args.cx.now in
    appended_some m (components every (m.ty c.args.ty.now)) c.in_ok-list.list.items c.args.out.now.items
    c.append.new.out.items c.append.result c.append.ensures.ok c.append.ensures.err c.in_ok-list.ensures.some

pub returns-clause-all : goal.returns-clause-all
returns-clause-all g c =
    let m = g.I.Interner.meaning c.args.cx.now in
    appended_all m (components every (m.ty c.args.ty.now)) c.in_ok-list.list.items c.args.out.now.items
    c.append.new.out.items c.append.result c.append.ensures.ok c.in_ok-list.ensures.all
