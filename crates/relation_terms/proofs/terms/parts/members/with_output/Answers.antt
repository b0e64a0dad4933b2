use Rattle.std.proofs.Common.{◌∙◌, ◌≡◌, ◌++◌, [], ◌∷◌, IsTrue, sym, ap, subst}
use Rattle.relation_terms.specs.Trees.{known, list_tree, front, last}
use Rattle.relation_terms.proofs.Stays.{knows_as}
use Rattle.relation_terms.proofs.Binders.{front_made, last_made}
use Rattle.relation_terms.proofs.Members.{if_ok, known_with_last}
use Rattle.relation_terms.proofs.terms.parts.members.with_output.Goals as goal

pub mk_type_list-requires : goal.mk_type_list-requires
mk_type_list-requires g c =
    let m = g.I.Interner.meaning c.args.cx.now in
    let ys = c.in_ok-list.list.items in
    let ts = m.tys c.args.tys.now in
    subst (λ z. IsTrue (known (list_tree m.ty z))) (sym (c.deref.ensures.value ∙ c.in_ok-push.ensures.items))
    (known_with_last m.ty ys c.args.output (knows_as (front ts) (list_tree m.ty ys) c.in_ok-list.ensures
    c.requires.tys_known) c.requires.output_known)

-- The list has that output.
pub returns-then-eq-clause-output : goal.returns-then-eq-clause-output
returns-then-eq-clause-output g c =
    sym c.last_of.ensures.means
    ∙ (g.met.I.Interner.same_ty c.args.cx.now c.last_of.result c.args.output c.last_of.ensures.sure
    c.requires.output_known).0 (sym c.if-eq.ensures)

pub returns : goal.returns
returns g c =
    let m = g.I.Interner.meaning c.args.cx.now in
    let n = g.I.Interner.meaning c.mk_type_list.new.self in
    let ys = c.in_ok-list.list.items in
    let l = c.args.output in
    let ts = m.tys c.args.tys.now in
    let whole : list_tree m.ty c.deref.result.now ≡ list_tree m.ty (ys ++ l ∷ []) =
    ap (list_tree m.ty) (c.deref.ensures.value ∙ c.in_ok-push.ensures.items) in
    let r = c.mk_type_list.ensures in
    record {
      grown = r.grown;
      sure = if_ok c.mk_type_list.result (λ k i. knows_as (front ts) (front (n.tys k))
          (ap front (i ∙ whole) ∙ front_made m.ty ys l c.requires.output_known ∙ c.in_ok-list.ensures)
          c.requires.tys_known) r.made;
      inputs = if_ok c.mk_type_list.result
          (λ k i. ap front (i ∙ whole) ∙ front_made m.ty ys l c.requires.output_known ∙ c.in_ok-list.ensures) r.made;
      output = if_ok c.mk_type_list.result (λ k i. ap last (i ∙ whole) ∙ last_made m.ty ys l) r.made;
    }
