use Rattle.relation_terms.specs.declared.terms.part_kind.Part.TheVariants.{Ty as TyPart}
use Rattle.std.proofs.Common.{ap, ◌∙◌}
use Rattle.relation_terms.specs.Parts.{part_sort}
use Rattle.relation_terms.proofs.Members.{ty_got, mapped_next}
use Rattle.relation_terms.proofs.terms.parts.members.tys_of.Goals as goal

pub expect_ty-requires : goal.expect_ty-requires
expect_ty-requires g c =
    ap part_sort c.part-item.is ∙
    ty_got c.args.parts.now c.loop-part.part-index c.part-item.result c.loop-part-test.true c.requires

pub loop-part-preserved : goal.loop-part-preserved
loop-part-preserved g c =
    mapped_next (λ t. TyPart t) c.loop-part.list.items c.push.new.self.items c.args.parts.now c.loop-part.part-index
    c.part-item.result c.part-item.result c.expect_ty.result c.loop-part.invariant c.loop-part-test.true c.part-item.is
    c.expect_ty.ensures c.in_ok-push.ensures.items
