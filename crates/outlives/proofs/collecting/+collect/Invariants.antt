use Rattle.std.proofs.Common.{◌+◌, ◌*◌, ◌<◌, ℕ}
use Rattle.std.specs.Map.{keys_of}
use Rattle.relation_terms.specs.Trees.{size}
use Rattle.relation_terms.specs.Parts.{part_tree, parts_tree}
use Rattle.relation_terms.specs.contracts.terms.generic_arg.GenericArgKindPartialEq.TheImpl.{ghosts}
use Rattle.component_parts.specs.Components.{every, components}
use Rattle.outlives.specs.Outliving.{AddsSome, HasAll}
use Rattle.component_parts.specs.Choosing.{meant, chosen_at}
use Rattle.outlives.specs.Collecting.{of_member, Meets}
use Rattle.outlives.proofs.collecting.+collect.Given as goal

abbrev pub decreases-collect_part : goal.decreases-collect_part
decreases-collect_part g l = 6 * size (part_tree (g.I.Interner.meaning l.cx.now) l.part.now) + 5

abbrev pub decreases-collect_type : goal.decreases-collect_type
decreases-collect_type g l = 6 * size ((g.I.Interner.meaning l.cx.now).ty l.ty) + 4

abbrev pub decreases-collect_tys : goal.decreases-collect_tys
decreases-collect_tys g l = 6 * size ((g.I.Interner.meaning l.cx.now).tys l.tys) + 1

abbrev pub decreases-collect_members : goal.decreases-collect_members
decreases-collect_members g l = 6 * size (parts_tree (g.I.Interner.meaning l.cx.now) l.parts.now) + 1

abbrev pub decreases-collect_member : goal.decreases-collect_member
decreases-collect_member g l = 6 * size (parts_tree (g.I.Interner.meaning l.cx.now) l.parts.now)

abbrev pub decreases-collect_ty : goal.decreases-collect_ty
decreases-collect_ty g l = 6 * size ((g.I.Interner.meaning l.cx.now).ty l.ty) + 3

abbrev pub decreases-collect_form : goal.decreases-collect_form
decreases-collect_form g l = 6 * size ((g.I.Interner.meaning l.cx.now).ty l.ty) + 2

abbrev pub decreases-collect_escaping : goal.decreases-collect_escaping
decreases-collect_escaping g l = 6 * size ((g.I.Interner.meaning l.cx.now).args (l.alias.now).args) + 4

abbrev pub decreases-collect_alias_args : goal.decreases-collect_alias_args
decreases-collect_alias_args g l = 6 * size ((g.I.Interner.meaning l.cx.now).args (l.alias.now).args) + 2

-- Components were added, all those of the members gone into, and of whatever was met.
abbrev pub invariant-collect_members-loop-step : goal.invariant-collect_members-loop-step
invariant-collect_members-loop-step g l =
    let m = g.I.Interner.meaning l.cx in
    let ts = parts_tree m l.parts in
    record {
      adds : AddsSome m (components (meant m l.chosen) ts) l.fn.out.items l.out.items;
      has : (k : ℕ) → k < l.step →
          HasAll m (of_member (meant m l.chosen) (chosen_at l.chosen l.parts l.count k) ts) l.out.items;
      meets : Meets m (ghosts g.row.I-Key g.I.Key.PartialEq g.I.Key.PartialEq-dict).eq (keys_of l.fn.visited)
          (keys_of l.visited) l.out.items;
    }

-- Components were added, all those of the types gone into, and of whatever was met.
abbrev pub invariant-collect_tys-loop-ty : goal.invariant-collect_tys-loop-ty
invariant-collect_tys-loop-ty g l =
    let m = g.I.Interner.meaning l.cx in
    let ts = m.tys l.fn.tys in
    record {
      adds : AddsSome m (components every ts) l.fn.out.items l.out.items;
      has : (k : ℕ) → k < l.ty-index → HasAll m (of_member every k ts) l.out.items;
      meets : Meets m (ghosts g.row.I-Key g.I.Key.PartialEq g.I.Key.PartialEq-dict).eq (keys_of l.fn.visited)
          (keys_of l.visited) l.out.items;
    }
