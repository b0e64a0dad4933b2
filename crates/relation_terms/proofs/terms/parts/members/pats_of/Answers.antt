use Rattle.relation_terms.specs.declared.terms.part_kind.Part.TheVariants.{Pat as PatPart}
use Rattle.std.proofs.Common.{ap, ◌∙◌}
use Rattle.relation_terms.specs.Parts.{part_sort}
use Rattle.relation_terms.proofs.Members.{pat_got, mapped_next}
use Rattle.relation_terms.proofs.terms.parts.members.pats_of.Goals as goal

pub expect_pat-requires : goal.expect_pat-requires
expect_pat-requires g c =
    ap part_sort c.part-item.is ∙
    pat_got c.args.parts.now c.loop-part.part-index c.part-item.result c.loop-part-test.true c.requires

pub loop-part-preserved : goal.loop-part-preserved
loop-part-preserved g c =
    mapped_next (λ t. PatPart t) c.loop-part.list.items c.push.new.self.items c.args.parts.now c.loop-part.part-index
    c.part-item.result c.part-item.result c.expect_pat.result c.loop-part.invariant c.loop-part-test.true c.part-item.is
    c.expect_pat.ensures c.in_ok-push.ensures.items
