use Rattle.relation_terms.proofs.Binders.{front_known}
use Rattle.relation_terms.proofs.Members.{last_sure, last_at}
use Rattle.relation_terms.proofs.terms.parts.members.last_of.Goals as goal

pub tys-list-requires : goal.tys-list-requires
tys-list-requires g c =
    let m = g.I.Interner.meaning c.args.cx.now in
    front_known (m.tys c.args.tys.now) c.requires

pub returns : goal.returns
returns g c =
    let m = g.I.Interner.meaning c.args.cx.now in
    let w = m.tys c.args.tys.now in
    let xs = c.tys-list.result.now in
    let x = c.index-list-list.result in
    record {
      sure = last_sure m.ty xs w c.tys-list.ensures c.requires x x c.index-list-list.is;
      means = last_at m.ty xs w c.tys-list.ensures c.requires x x c.index-list-list.is;
    }
