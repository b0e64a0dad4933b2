use Rattle.std.proofs.Common.{◌≡◌, ◌∙◌, ap, subst}
use Rattle.relation_terms.specs.Heads.{type_sort}
use Rattle.relation_terms.specs.Orders.{in_order, list_order, in_turn}
use Rattle.relation_terms.specs.Parts.{parts_tree}
use Rattle.relation_terms.specs.declared.terms.part_kind.Part.TheVariants.{Ty}
use Rattle.relation_terms.proofs.Parts.{sort_known}
use Rattle.relation_folds.specs.Visits.{Walks}
use Rattle.relation_folds.proofs.Visiting.{visited_as, visited_turn}
use Rattle.relation_folds.proofs.visit.keyed.super_visit_ty.Goals as goal

pub returns : goal.returns
returns g c =
    let m = g.I.Interner.meaning c.args.cx.now in
    let t = m.ty c.args.ty.now in
    let parts = c.parts_of.result in
    let sort = sort_known m (g.met.I.Interner.sorted c.args.cx.now) (Ty c.args.ty.now) c.requires in
    let turn : list_order parts ≡ in_turn = c.parts_of.ensures.order ∙ visited_turn t (visited_as t type_sort sort) in
    subst (λ x. Walks (g.V.TypeVisitor.visits c.args.cx.now) 0 c.args.visitor.now x c.visit_list.new.visitor
    c.visit_list.result) (ap (λ o. in_order o (parts_tree m parts)) turn ∙ c.parts_of.ensures.means) c.visit_list.ensures
