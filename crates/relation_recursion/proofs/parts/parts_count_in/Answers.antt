use Rattle.std.proofs.Common.{◌∙◌, ap, subst}
use Rattle.relation_terms.specs.Trees.{count, IsList}
use Rattle.relation_recursion.proofs.parts.parts_count_in.Goals as goal

pub returns : goal.returns
returns g c = record {
  counts = c.member_count.ensures.counts ∙ ap count c.parts_in.ensures.means;
  is_list = subst IsList c.parts_in.ensures.means c.member_count.ensures.is_list;
}
