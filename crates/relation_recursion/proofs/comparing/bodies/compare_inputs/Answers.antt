use Rattle.std.proofs.Common.{refl, length}
use Rattle.relation_terms.specs.Trees.{front, count}
use Rattle.relation_terms.proofs.Binders.{front_known}
use Rattle.relation_semantics.specs.Errors.{over_parts, unlike_counts}
use Rattle.relation_recursion.proofs.ComparingParts.{inputs_counted, less_one, more_one}
use Rattle.relation_recursion.proofs.comparing.bodies.compare_inputs.Goals as goal

pub tys-requires : goal.tys-requires
tys-requires g c = front_known ((g.I.Interner.meaning c.args.cx.now).tys c.args.a.now) c.requires.a_known

pub tys-requires-2 : goal.tys-requires-2
tys-requires-2 g c = front_known ((g.I.Interner.meaning c.args.cx.now).tys c.args.b.now) c.requires.b_known

pub returns-then-tys-clause-errors : goal.returns-then-tys-clause-errors
returns-then-tys-clause-errors g c =
    let m = g.I.Interner.meaning c.args.cx.now in
    let x = m.tys c.args.a.now in
    let y = m.tys c.args.b.now in
    let xs = c.tys.result.now in
    let ys = c.tys-2.result.now in
    unlike_counts refl refl (λ e. c.if-tys.true (more_one (length xs) (length ys) (count (front x)) (count (front y))
    (inputs_counted m.ty xs x c.tys.ensures c.requires.a_known)
    (inputs_counted m.ty ys y c.tys-2.ensures c.requires.b_known) e)) refl

pub returns-clause-alike : goal.returns-clause-alike
returns-clause-alike g c =
    let m = g.I.Interner.meaning c.args.cx.now in
    let x = m.tys c.args.a.now in
    let y = m.tys c.args.b.now in
    let xs = c.tys.result.now in
    let ys = c.tys-2.result.now in
    over_parts refl refl (less_one (length xs) (length ys) (count (front x)) (count (front y))
    (inputs_counted m.ty xs x c.tys.ensures c.requires.a_known)
    (inputs_counted m.ty ys y c.tys-2.ensures c.requires.b_known) c.if-tys.false)
