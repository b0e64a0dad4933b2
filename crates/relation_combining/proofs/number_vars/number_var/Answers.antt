use Rattle.std.proofs.Common.{◌≡◌, IfSome, IfNone, subst}
use Rattle.relation_combining.specs.NumberVars.{number_tree, IsNoNumberVar}
use Rattle.relation_combining.proofs.NumberVars.{some_number, no_number_var}
use Rattle.relation_combining.proofs.number_vars.number_var.Goals as goal

pub returns-clause-is : goal.returns-clause-is
returns-clause-is g c =
    subst (λ m. IfSome c.number_vid.result (λ v. m.ty c.args.ty.now ≡ number_tree v)) c.cx.ensures
    (some_number (g.Infcx.Interner.Interner.meaning c.cx.result.now) c.ty_kind.result _ c.ty_kind.ensures c.number_vid.result c.number_vid.ensures.is)

pub returns-clause-is_none : goal.returns-clause-is_none
returns-clause-is_none g c =
    subst (λ m. IfNone c.number_vid.result (IsNoNumberVar (m.ty c.args.ty.now))) c.cx.ensures
    (no_number_var (g.Infcx.Interner.Interner.meaning c.cx.result.now) c.ty_kind.result _ c.ty_kind.ensures c.number_vid.result c.number_vid.ensures.no_int
    c.number_vid.ensures.no_float)
