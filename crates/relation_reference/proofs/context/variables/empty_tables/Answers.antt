use Rattle.std.proofs.Common.{refl}
use Rattle.relation_reference.proofs.context.variables.empty_tables.Goals as goal

pub returns-clause-new : goal.returns-clause-new
returns-clause-new g c = record {
  types = c.new.ensures.items;
  ints = c.new-2.ensures.items;
  floats = c.new-3.ensures.items;
  consts = c.new-4.ensures.items;
  regions = c.new-5.ensures.items;
  constraints = c.new-6.ensures.items;
  ty_outlives = c.new-7.ensures.items;
  sub_roots = c.new-8.ensures.items;
  untainted = refl;
}
