use Rattle.std.proofs.Common.{◌≡◌, ◌+◌, ◌*◌, true, false}
use Rattle.relation_terms.specs.Trees.{size}
use Rattle.relation_terms.specs.Parts.{part_tree, parts_tree}
use Rattle.relation_folds.specs.Folds.{Steps, folded, Remembers}
use Rattle.relation_folds.specs.Firsts.{firsts}
use Rattle.relation_folds.specs.Stacks.{StandsUpon}
use Rattle.relation_folds.proofs.Remembering.{place_eq}
use Rattle.relation_folds.proofs.fold.walk.+walk.Given as goal

abbrev pub decreases-fold_met : goal.decreases-fold_met
decreases-fold_met g l = 4 * size (part_tree (g.I.Interner.meaning l.cx.now) l.part.now) + 3

abbrev pub decreases-fold_new : goal.decreases-fold_new
decreases-fold_new g l = 4 * size (part_tree (g.I.Interner.meaning l.cx.now) l.part.now) + 2

abbrev pub decreases-fold_inside : goal.decreases-fold_inside
decreases-fold_inside g l = 4 * size (part_tree (g.I.Interner.meaning l.cx.now) l.part.now) + 1

abbrev pub decreases-fold_members : goal.decreases-fold_members
decreases-fold_members g l = 4 * size (parts_tree (g.I.Interner.meaning l.cx.now) l.parts.now)

abbrev pub invariant-fold_members-loop-i : goal.invariant-fold_members-loop-i
invariant-fold_members-loop-i g l =
    let p = g.F.TypeFolder.replaces (g.I.Interner.meaning l.fn.cx) l.fn.folder in
    let ts = parts_tree (g.I.Interner.meaning l.fn.cx) l.parts in
    record {
      steps : Steps g.F.TypeFolder.ready g.F.TypeFolder.replaces (g.I.Interner.meaning l.fn.cx) l.fn.folder
          (g.I.Interner.meaning l.cx) l.folder;
      remembers : Remembers (g.I.Interner.meaning l.cx) (g.F.TypeFolder.replaces (g.I.Interner.meaning l.cx) l.folder)
          (place_eq g.I.Key.PartialEq.eq) l.memory.made;
      made : l.differs ≡ true → StandsUpon (part_tree (g.I.Interner.meaning l.cx)) (firsts l.i ts)
          (folded p l.depth (firsts l.i ts)) l.fn.memory.stack.items l.memory.stack.items;
      left : l.differs ≡ false → (l.memory.stack.items ≡ l.fn.memory.stack.items) ×
          (folded p l.depth (firsts l.i ts) ≡ firsts l.i ts);
    }
