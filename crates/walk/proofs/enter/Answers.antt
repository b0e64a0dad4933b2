use Rattle.std.proofs.Common.{sym, ap, ◌∙◌, subst, IsTrue, false}
use Rattle.relation_terms.specs.Trees.{known}
use Rattle.relation_terms.specs.Meaning.{arg_tree}
use Rattle.relation_terms.specs.Parts.{part_tree, parts_of}
use Rattle.relation_terms.proofs.Parts.{arg_part}
use Rattle.walk.specs.Places.{places, places_under}
use Rattle.walk.proofs.Placing.{pushes_as}
use Rattle.walk.proofs.enter.Goals as goal

pub parts_of-requires : goal.parts_of-requires
parts_of-requires g c =
    let m = g.I.Interner.meaning c.args.cx.now in
    subst (λ z. IsTrue (known z)) (sym (ap (part_tree m) c.part_of.ensures ∙ arg_part m c.args.arg.now)) c.requires

pub returns-in_ok-push_under_ty-in-Ty : goal.returns-in_ok-push_under_ty-in-Ty
returns-in_ok-push_under_ty-in-Ty g c =
    let m = g.I.Interner.meaning c.args.cx.now in
    pushes_as m _ _ _ _ (sym (ap (λ z. places_under (arg_tree m z)) c.in-Ty.is)) c.in_ok-push_under_ty-in-Ty.ensures

pub returns-in_ok-push_list-in_default : goal.returns-in_ok-push_list-in_default
returns-in_ok-push_list-in_default g c =
    let m = g.I.Interner.meaning c.args.cx.now in
    pushes_as m _ _ _ _ (ap (places false) (c.parts_of.ensures.means
    ∙ ap parts_of (ap (part_tree m) c.part_of.ensures ∙ arg_part m c.args.arg.now)))
    c.in_ok-push_list-in_default.ensures
