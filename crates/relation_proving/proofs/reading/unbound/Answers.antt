use Rattle.std.proofs.Common.{sym, refl}
use Rattle.relation_proving.proofs.Unbound.{binds_nothing, binds_something}
use Rattle.relation_proving.proofs.reading.unbound.Goals as goal

pub returns-then-is_empty : goal.returns-then-is_empty
returns-then-is_empty g c = (
  binds_nothing (g.I.Interner.meaning c.args.cx.now) c.args.form c.bound_vars.result.now c.bound_vars.ensures
      (sym c.if-is_empty.ensures),
  refl,
)

pub returns-else-is_empty : goal.returns-else-is_empty
returns-else-is_empty g c =
    binds_something (g.I.Interner.meaning c.args.cx.now) c.args.form c.bound_vars.result.now c.bound_vars.ensures
    (sym c.if-is_empty.ensures)
