use Rattle.std.proofs.Common.{◌∙◌, ◌++◌, ◌-◌, take, length, IsTrue, sym, ap, subst}
use Rattle.relation_terms.specs.Trees.{known, list_tree, front}
use Rattle.relation_terms.proofs.Binders.{front_known, front_list}
use Rattle.relation_terms.proofs.terms.parts.members.inputs_of.Goals as goal

pub tys-list-requires : goal.tys-list-requires
tys-list-requires g c =
    let m = g.I.Interner.meaning c.args.cx.now in
    front_known (m.tys c.args.tys.now) c.requires

pub returns : goal.returns
returns g c =
    let m = g.I.Interner.meaning c.args.cx.now in
    let xs = c.tys-list.result.now in
    let e = c.tys-list.ensures in
    let k : IsTrue (known (front (list_tree m.ty xs))) = subst (λ t. IsTrue (known (front t))) e c.requires in
    ap (list_tree m.ty) (c.in_ok-extend_from_slice.ensures.items
    ∙ ap (λ z. z ++ take (length xs - 1) xs) c.new-inputs.ensures.items) ∙ front_list m.ty xs k ∙ ap front (sym e)
