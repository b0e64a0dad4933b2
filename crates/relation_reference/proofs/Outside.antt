-- The parts of a term are smaller than it.
use Rattle.std.proofs.Common.{ℕ, ◌<◌, arith}
use Rattle.relation_terms.specs.Trees.{Tree, count, nth, size}
use Rattle.relation_terms.specs.Parts.{parts_of}
use Rattle.relation_terms.proofs.Members.{member_small, parts_small}

pub part_smaller : (t : Tree) (i : ℕ) → i < count (parts_of t) → size (nth i (parts_of t)) < size t
part_smaller t i h =
    let e = member_small (parts_of t) i h in
    let f = parts_small t in
    omega (arith, e, f)
