use Rattle.relation_terms.specs.Parts.{part_tree, parts_tree}
use Rattle.relation_folds.specs.Firsts.{AreFirsts}
use Rattle.relation_folds.proofs.fold.walk.first_members.Given as goal

abbrev pub invariant-loop-i : goal.invariant-loop-i
invariant-loop-i g l =
    record {
      firsts : AreFirsts (part_tree (g.I.Interner.meaning l.cx)) l.i (parts_tree (g.I.Interner.meaning l.cx) l.parts)
          l.list.items;
    }
