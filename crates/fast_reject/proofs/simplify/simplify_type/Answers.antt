use Rattle.std.proofs.Common.{sym, ap, ◌∙◌}
use Rattle.fast_reject.specs.HeadKeys.{form_key}
use Rattle.fast_reject.proofs.Keying.{plain_keyed}
use Rattle.fast_reject.proofs.simplify.simplify_type.Goals as goal

pub returns : goal.returns
returns g c =
    let m = g.I.Interner.meaning c.args.cx.now in
    let autos = (m.tables).is_auto in
    let solver = (m.tables).next_solver in
    let treat = c.args.treat_params in
    c.form_key.ensures
    ∙ ap (form_key autos solver treat) (sym c.ty_kind-kind.ensures ∙ c.without_patterns-base.ensures.under)
    ∙ plain_keyed autos solver treat (m.ty c.args.ty.now)
