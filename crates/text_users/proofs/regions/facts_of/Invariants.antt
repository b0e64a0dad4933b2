-- The first facts.
use Rattle.std.proofs.Common.{◌≡◌, All, take}
use Rattle.relation_regions.specs.Solving.{IsFactIn}
use Rattle.text_users.specs.Facts.{facts_of}
use Rattle.text_users.proofs.regions.facts_of.Given as goal

abbrev pub invariant-loop-one : goal.invariant-loop-one
invariant-loop-one g l = record {
  are_facts : All (IsFactIn (g.C.InferCtxtLike.state l.ctx)) l.facts.items;
  stated : l.facts.items ≡ facts_of (take l.one-index l.stated);
}
