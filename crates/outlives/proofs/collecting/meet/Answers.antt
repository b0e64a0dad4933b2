use Rattle.std.proofs.Common.{sym, subst, IfOk}
use Rattle.std.specs.Map.{keys_of}
use Rattle.relation_terms.specs.contracts.terms.generic_arg.GenericArgKindPartialEq.TheImpl.{ghosts}
use Rattle.relation_terms.specs.declared.terms.generic_arg.GenericArgKind.TheVariants.{Ty as TyArg, Const as ConstArg}
use Rattle.outlives.specs.Collecting.{Keeps, kept_of}
use Rattle.outlives.proofs.Meeting.{keeps_now}
use Rattle.outlives.proofs.collecting.meet.Goals as goal

pub returns-in-Ty : goal.returns-in-Ty
returns-in-Ty g c =
    let eq = (ghosts g.row.I-Key g.I.Key.PartialEq g.I.Key.PartialEq-dict).eq in
    let es = c.args.visited.now in
    let fs = c.insert.new.self in
    let now = keeps_now eq (TyArg c.in-Ty.ty) es fs c.insert.result c.insert.ensures.new c.insert.ensures.met
    c.insert.ensures.stays in
    subst (λ p. IfOk c.insert.result (λ new. Keeps eq (kept_of p) new (keys_of es) (keys_of fs))) (sym c.in-Ty.is) now

pub returns-in-Const : goal.returns-in-Const
returns-in-Const g c =
    let eq = (ghosts g.row.I-Key g.I.Key.PartialEq g.I.Key.PartialEq-dict).eq in
    let es = c.args.visited.now in
    let fs = c.insert-in-Const.new.self in
    let now = keeps_now eq (ConstArg c.in-Const.constant) es fs c.insert-in-Const.result
    c.insert-in-Const.ensures.new c.insert-in-Const.ensures.met c.insert-in-Const.ensures.stays in
    subst (λ p. IfOk c.insert-in-Const.result (λ new. Keeps eq (kept_of p) new (keys_of es) (keys_of fs)))
    (sym c.in-Const.is) now
