use Rattle.std.proofs.Common.{◌+◌, ◌*◌, ◌-◌, true, false}
use Rattle.relation_terms.specs.Trees.{size}
use Rattle.relation_terms.specs.Parts.{part_tree, parts_tree}
use Rattle.walk.specs.Places.{places, Pushes}
use Rattle.relation_folds.proofs.Visiting.{rest}
use Rattle.walk.proofs.places.+places.Given as goal

abbrev pub decreases-push_part : goal.decreases-push_part
decreases-push_part g l = 3 * size (part_tree (g.I.Interner.meaning l.cx.now) l.part.now) + 2

abbrev pub decreases-push_pat : goal.decreases-push_pat
decreases-push_pat g l = 3 * size ((g.I.Interner.meaning l.cx.now).pat l.pat.now) + 1

abbrev pub decreases-push_list : goal.decreases-push_list
decreases-push_list g l = 3 * size (parts_tree (g.I.Interner.meaning l.cx.now) l.parts.now)

abbrev pub decreases-push_back : goal.decreases-push_back
decreases-push_back g l = 3 * size (parts_tree (g.I.Interner.meaning l.cx.now) l.parts.now)

-- What stands on the stack are the arguments of the last parts.
abbrev pub invariant-push_list-loop-i : goal.invariant-push_list-loop-i
invariant-push_list-loop-i g l =
    Pushes (g.I.Interner.meaning l.cx)
    (places false (rest (l.count - l.i) (parts_tree (g.I.Interner.meaning l.cx) l.parts))) l.fn.stack l.stack

-- What puts the arguments of the rest of the list from here on puts those of all of it.
abbrev pub invariant-push_back-loop-i : goal.invariant-push_back-loop-i
invariant-push_back-loop-i g l =
    (new : _) →
    Pushes (g.I.Interner.meaning l.cx)
    (places true (rest l.i (parts_tree (g.I.Interner.meaning l.cx) l.parts))) l.stack new →
    Pushes (g.I.Interner.meaning l.cx) (places true (parts_tree (g.I.Interner.meaning l.cx) l.parts)) l.fn.stack new
