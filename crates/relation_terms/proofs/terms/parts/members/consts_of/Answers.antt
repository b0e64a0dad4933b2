use Rattle.relation_terms.specs.declared.terms.part_kind.Part.TheVariants.{Const as ConstPart}
use Rattle.std.proofs.Common.{ap, ◌∙◌}
use Rattle.relation_terms.specs.Parts.{part_sort}
use Rattle.relation_terms.proofs.Members.{const_got, mapped_next}
use Rattle.relation_terms.proofs.terms.parts.members.consts_of.Goals as goal

pub expect_const-requires : goal.expect_const-requires
expect_const-requires g c =
    ap part_sort c.part-item.is ∙
    const_got c.args.parts.now c.loop-part.part-index c.part-item.result c.loop-part-test.true c.requires

pub loop-part-preserved : goal.loop-part-preserved
loop-part-preserved g c =
    mapped_next (λ t. ConstPart t) c.loop-part.list.items c.push.new.self.items c.args.parts.now c.loop-part.part-index
    c.part-item.result c.part-item.result c.expect_const.result c.loop-part.invariant c.loop-part-test.true c.part-item.is
    c.expect_const.ensures c.in_ok-push.ensures.items
