use Rattle.relation_terms.specs.Parts.{part_of_arg}
use Rattle.std.proofs.Common.{sym, subst, [], ◌∷◌}
use Rattle.relation_terms.specs.Parts.{AreArgs}
use Rattle.relation_terms.proofs.Members.{arg_got, mapped_next}
use Rattle.relation_terms.proofs.terms.parts.members.args_of.Goals as goal

pub expect_arg-requires : goal.expect_arg-requires
expect_arg-requires g c =
    subst (λ x. AreArgs (x ∷ [])) (sym c.part-item.is)
    (arg_got c.args.parts.now c.loop-part.part-index c.part-item.result c.loop-part-test.true c.requires)

pub loop-part-preserved : goal.loop-part-preserved
loop-part-preserved g c =
    mapped_next (λ a. part_of_arg a) c.loop-part.list.items c.push.new.self.items c.args.parts.now c.loop-part.part-index
    c.part-item.result c.part-item.result c.expect_arg.result c.loop-part.invariant c.loop-part-test.true c.part-item.is
    c.expect_arg.ensures c.in_ok-push.ensures.items
