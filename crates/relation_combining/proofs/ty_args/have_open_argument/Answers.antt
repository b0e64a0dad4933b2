use Rattle.relation_semantics.specs.Lawful.{items_of}
use Rattle.relation_combining.proofs.Bivariance.{tells_either, tells_still}
use Rattle.relation_combining.proofs.ty_args.have_open_argument.Goals as goal

pub returns-clause-tells : goal.returns-clause-tells
returns-clause-tells g c =
    let s = g.Infcx.InferCtxtLike.state c.args.infcx.now in
    let d = g.Infcx.InferCtxtLike.state c.has_open_argument.new.infcx in
    let m = s.meaning in
    let f = c.in_ok-has_open_argument.ensures in
    tells_either (items_of m) s.store (m.id c.args.def_id.now.0) (m.args c.args.a_args.now) (m.args c.args.b_args.now)
    c.in_ok-has_open_argument.field-0 c.if-branch.false f.tells c.has_open_argument-2.result
    (tells_still f.grows.extends c.args.def_id.now.0 c.args.b_args.now c.requires.b_known s.store d.store f.same_record
    c.has_open_argument-2.result c.has_open_argument-2.ensures.tells)
