use Rattle.std.proofs.Common.{◌∙◌, ◌≡◌, ◌++◌, [], ◌∷◌, IsTrue, refl, sym, ap, subst}
use Rattle.relation_terms.specs.Trees.{known, list_tree, front}
use Rattle.relation_terms.specs.Parts.{part_tree}
use Rattle.relation_terms.specs.declared.terms.part_kind.Part.TheVariants.{Ty as TyPart}
use Rattle.relation_terms.proofs.Stays.{knows_as}
use Rattle.relation_terms.proofs.Binders.{front_made}
use Rattle.relation_terms.proofs.Members.{if_ok, known_with_last, mapped}
use Rattle.relation_terms.proofs.terms.parts.members.make_inputs.Goals as goal

pub mk_type_list-requires : goal.mk_type_list-requires
mk_type_list-requires g c =
    let m = g.I.Interner.meaning c.args.cx.now in
    let ys = c.in_ok-list.list.items in
    let l = c.last_of-last.result in
    let q : list_tree m.ty ys ≡ list_tree (part_tree m) c.args.members.now =
    mapped m.ty (part_tree m) (λ t. TyPart t) (λ t. refl) ys c.args.members.now c.in_ok-list.ensures in
    subst (λ z. IsTrue (known (list_tree m.ty z))) (sym (c.deref.ensures.value ∙ c.in_ok-push.ensures.items))
    (known_with_last m.ty ys l (knows_as (list_tree (part_tree m) c.args.members.now) (list_tree m.ty ys) q
    c.requires.members_known) c.last_of-last.ensures.sure)

pub returns : goal.returns
returns g c =
    let m = g.I.Interner.meaning c.args.cx.now in
    let n = g.I.Interner.meaning c.mk_type_list.new.self in
    let ys = c.in_ok-list.list.items in
    let l = c.last_of-last.result in
    let us = list_tree (part_tree m) c.args.members.now in
    let q : list_tree m.ty ys ≡ us =
    mapped m.ty (part_tree m) (λ t. TyPart t) (λ t. refl) ys c.args.members.now c.in_ok-list.ensures in
    let whole : list_tree m.ty c.deref.result.now ≡ list_tree m.ty (ys ++ l ∷ []) =
    ap (list_tree m.ty) (c.deref.ensures.value ∙ c.in_ok-push.ensures.items) in
    let r = c.mk_type_list.ensures in
    record {
      grown = r.grown;
      sure = if_ok c.mk_type_list.result (λ k i. knows_as us (front (n.tys k))
          (ap front (i ∙ whole) ∙ front_made m.ty ys l c.last_of-last.ensures.sure ∙ q) c.requires.members_known) r.made;
      made = if_ok c.mk_type_list.result
          (λ k i. ap front (i ∙ whole) ∙ front_made m.ty ys l c.last_of-last.ensures.sure ∙ q) r.made;
      refused = r.refused;
    }
