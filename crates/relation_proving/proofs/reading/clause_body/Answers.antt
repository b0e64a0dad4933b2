use Rattle.relation_proving.proofs.Unbound.{list_known, body_found}
use Rattle.relation_proving.proofs.reading.clause_body.Goals as goal

pub unbound-requires : goal.unbound-requires
unbound-requires g c = list_known (g.I.Interner.meaning c.args.cx.now) c.args.clause.now c.clause_kind-form.result
    c.clause_kind-form.ensures c.requires

pub returns : goal.returns
returns g c = body_found (g.I.Interner.meaning c.args.cx.now) c.args.clause.now c.clause_kind-form.result
    c.clause_kind-form.ensures c.requires c.unbound.result c.unbound.ensures
