use Rattle.std.proofs.Common.{subst, sym, ◌∷◌, []}
use Rattle.relation_terms.specs.Parts.{ArePredicates, part_of_predicate}
use Rattle.relation_terms.proofs.Members.{predicate_got, mapped_next}
use Rattle.relation_terms.proofs.terms.parts.members.predicates_of.Goals as goal

pub expect_predicate-requires : goal.expect_predicate-requires
expect_predicate-requires g c =
    subst (λ p. ArePredicates (p ∷ [])) (sym c.part-item.is)
    (predicate_got c.args.parts.now c.loop-part.part-index c.part-item.result c.loop-part-test.true c.requires)

pub loop-part-preserved : goal.loop-part-preserved
loop-part-preserved g c =
    mapped_next (λ b. part_of_predicate b) c.loop-part.list.items c.push.new.self.items c.args.parts.now
    c.loop-part.part-index c.part-item.result c.part-item.result c.expect_predicate.result c.loop-part.invariant
    c.loop-part-test.true c.part-item.is c.expect_predicate.ensures c.in_ok-push.ensures.items
