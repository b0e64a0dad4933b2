use Rattle.std.proofs.Common.{refl}
use Rattle.relation_laws.specs.Decided.{leaf_of}
use Rattle.relation_laws.proofs.Deciding.{iff_through, iff_both, iff_either, leaves_iff, sorts_iff, leaves_related_iff}
use Rattle.relation_laws.proofs.decided.leaves_related.Goals as goal

pub returns : goal.returns
returns c i w e o = iff_through c.either-3.ensures (iff_through (iff_either
    (iff_through c.same_leaf-alike.ensures (leaves_iff _ _ _ _ c.plain.ensures c.plain-2.ensures))
    (iff_through c.either-2.ensures (iff_either
    (iff_through c.both-error.ensures (iff_both (iff_through c.same_sort-one_sort.ensures (sorts_iff _ _ _ _ c.sort_of_leaf.ensures c.sort_of_leaf-2.ensures)) (iff_through c.either.ensures (iff_either c.is_error.ensures c.is_error-2.ensures))))
    (iff_through c.both-regions.ensures (iff_both (iff_through c.both.ensures (iff_both
    (iff_through c.same_sort-left.ensures (sorts_iff _ _ _ _ c.sort_of_leaf-3.ensures refl))
    (iff_through c.same_sort-right.ensures (sorts_iff _ _ _ _ c.sort_of_leaf-4.ensures refl)))) (c.regions_related.ensures w o))))))
    (leaves_related_iff i w e c.args.v (leaf_of c.args.a) (leaf_of c.args.b) c.requires))
