use Rattle.std.proofs.Common.{◌+◌, ◌*◌}
use Rattle.relation_terms.specs.Trees.{size}
use Rattle.relation_terms.specs.Parts.{part_tree, parts_of}
use Rattle.relation_semantics.proofs.Lists.{firsts}
use Rattle.occurs_check.specs.TermVids.{vid_kind, vid_number}
use Rattle.relation_reference.specs.Generalises.{AreClear, IsClearFor}
use Rattle.relation_reference.proofs.Clearing.{ty_eq}
use Rattle.relation_reference.proofs.context.variables.RefCtxt.+clearing.Given as goal

abbrev pub decreases-is_clear : goal.decreases-is_clear
decreases-is_clear g l = 2 * size (part_tree (g.I.Interner.meaning l.self.now.interner) l.term.now) + 1

abbrev pub decreases-are_parts_clear : goal.decreases-are_parts_clear
decreases-are_parts_clear g l = 2 * size (part_tree (g.I.Interner.meaning l.self.now.interner) l.term.now)

abbrev pub invariant-are_parts_clear-loop-i : goal.invariant-are_parts_clear-loop-i
invariant-are_parts_clear-loop-i g l =
    let m = g.I.Interner.meaning l.self.interner in
    record {
      firsts_clear : IsClearFor (vid_kind l.target.vid) (vid_number l.target.vid) l.target.universe.0
          (firsts l.i (parts_of (part_tree m l.term)));
      found : AreClear (ty_eq g.I.Key.PartialEq.eq) m (vid_kind l.target.vid) (vid_number l.target.vid)
          l.target.universe.0 l.clear;
    }
