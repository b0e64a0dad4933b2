use Rattle.std.proofs.Common.{rules, sym, ap, subst, IsTrue, false}
use Rattle.relation_terms.specs.Trees.{known}
use Rattle.relation_terms.specs.Parts.{parts_tree}
use Rattle.relation_terms.proofs.Parts.{ty_seen, known_parts}
use Rattle.walk.specs.Places.{places}
use Rattle.std.proofs.lemmas.Result.{on_ok_weaker}
use Rattle.walk.proofs.Placing.{pushes_as}
use Rattle.walk.proofs.places.push_under_form.Goals as goal

pub push_list-requires : goal.push_list-requires
push_list-requires g c =
    let m = g.I.Interner.meaning c.args.cx.now in
    let w = m.ty c.args.ty.now in
    let seen = ty_seen m c.ty_parts.result w c.ty_kind.result c.ty_kind.ensures c.ty_parts.ensures in
    let k : IsTrue (known (parts_tree m c.ty_parts.result)) =
    subst (λ z. IsTrue (known z)) (sym seen) (known_parts w c.requires) in
    search rules

pub returns : goal.returns
returns g c =
    let m = g.I.Interner.meaning c.args.cx.now in
    let w = m.ty c.args.ty.now in
    let seen = ty_seen m c.ty_parts.result w c.ty_kind.result c.ty_kind.ensures c.ty_parts.ensures in
    on_ok_weaker c.push_list.result (pushes_as m _ _ _ _ (ap (places false) seen)) c.push_list.ensures
