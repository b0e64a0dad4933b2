use Rattle.std.proofs.Common.{◌≡◌, ◌+◌, ◌*◌}
use Rattle.relation_terms.specs.Trees.{size}
use Rattle.relation_terms.specs.Parts.{part_tree, parts_tree}
use Rattle.relation_terms.specs.Orders.{in_order, list_order}
use Rattle.anonymize.specs.Anonymous.{uses, with_vars}
use Rattle.anonymize.specs.UsedParts.{Remembered}
use Rattle.relation_folds.proofs.Remembering.{place_eq}
use Rattle.relation_folds.proofs.Visiting.{rest}
use Rattle.anonymize.proofs.collecting.+collect.Given as goal

abbrev pub decreases-collect_part : goal.decreases-collect_part
decreases-collect_part g l = 3 * size (part_tree (g.I.Interner.meaning l.cx.now) l.part.now) + 2

abbrev pub decreases-collect_new : goal.decreases-collect_new
decreases-collect_new g l = 3 * size (part_tree (g.I.Interner.meaning l.cx.now) l.part.now) + 1

abbrev pub decreases-collect_list : goal.decreases-collect_list
decreases-collect_list g l = 3 * size (parts_tree (g.I.Interner.meaning l.cx.now) l.parts.now)

-- With what the rest of the list uses, it is what the whole list uses that is added.
abbrev pub invariant-collect_list-loop-step : goal.invariant-collect_list-loop-step
invariant-collect_list-loop-step g l =
    let m = g.I.Interner.meaning l.cx in
    let ts = in_order (list_order l.parts) (parts_tree m l.parts) in
    record {
      collects : with_vars l.vars.items (uses l.depth (rest l.step ts)) ≡ with_vars l.fn.vars.items (uses l.depth ts);
      remembered : Remembered m l.vars.items (place_eq g.I.Key.PartialEq.eq) l.met.keys;
    }
