use Rattle.std.proofs.Common.{◌≡◌, IsTrue, map, take}
use Rattle.relation_terms.specs.Trees.{known, list_tree}
use Rattle.relation_terms.specs.Meaning.{Extends, arg_tree}
use Rattle.relation_semantics.specs.Binders.{kinds_in, placeholders_from}
use Rattle.relation_reference.proofs.context.binders.placeholders.Given as goal

abbrev pub invariant-loop-place : goal.invariant-loop-place
invariant-loop-place g l =
    let m = g.I.Interner.meaning l.fn.cx in
    let n = g.I.Interner.meaning l.cx in
    record {
      grown : Extends m n;
      sure : IsTrue (known (list_tree (arg_tree n) l.args.items));
      made : map (arg_tree n) l.args.items ≡
          placeholders_from (l.universe).0 0 (take l.place (kinds_in (m.bound_vars l.bound_vars)));
    }
