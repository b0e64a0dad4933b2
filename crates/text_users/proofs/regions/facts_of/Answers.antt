-- One more fact.
use Rattle.std.proofs.Common.{sym, subst}
use Rattle.relation_regions.specs.Solving.{IsFactIn}
use Rattle.text_users.specs.Facts.{IsStated}
use Rattle.text_users.proofs.FactLemmas.{facts_more, all_more}
use Rattle.text_users.proofs.regions.facts_of.Goals as goal

pub fact_of-requires : goal.fact_of-requires
fact_of-requires g c =
    let m = (g.C.InferCtxtLike.state c.args.ctx.now).meaning in
    subst (IsStated m) (sym c.one-item.is) (c.requires c.loop-one.one-index c.one-item.result c.loop-one-test.true)

pub loop-one-preserved : goal.loop-one-preserved
loop-one-preserved g c =
    let m = g.C.InferCtxtLike.state c.args.ctx.now in
    record {
      are_facts = all_more (IsFactIn m) c.loop-one.facts.items c.push.new.self.items c.in-Some.fact
          c.loop-one.invariant.are_facts c.in-Some.ensures.is_fact c.in-Ok.ensures.items;
      stated = facts_more c.args.stated.now c.loop-one.one-index c.one-item.result c.loop-one.facts.items
          c.push.new.self.items c.in-Some.fact c.loop-one-test.true c.one-item.is c.loop-one.invariant.stated
          c.in-Some.ensures.stated c.in-Ok.ensures.items;
    }
