use Rattle.std.proofs.Common.{◌∙◌, refl}
use Rattle.relation_reference.proofs.context.copying.copied.Goals as goal

pub returns : goal.returns
returns g c = record {
  types = c.in_ok-copied.ensures.items;
  ints = c.in_ok-copied-2.ensures.items;
  floats = c.in_ok-copied-3.ensures.items;
  consts = c.in_ok-copied-4.ensures.items;
  regions = c.in_ok-copied-5.ensures.items;
  constraints = c.in_ok-copy_of.ensures ∙ c.deref.ensures.value;
  ty_outlives = c.in_ok-copy_of-2.ensures ∙ c.deref-2.ensures.value;
  sub_roots = c.in_ok-copied-6.ensures.items;
  universe = refl;
  budget = refl;
  next_solver = refl;
  mode = refl;
  tainted = refl;
  numbers = c.in_ok-copy_of-3.ensures ∙ c.deref-3.ensures.value;
}
