use Rattle.std.proofs.Common.{◌≡◌, IsTrue, drop}
use Rattle.relation_terms.specs.Trees.{known, list_tree}
use Rattle.relation_terms.specs.Meaning.{Extends, arg_tree}
use Rattle.relation_terms.specs.Edits.{put_before, params_from}
use Rattle.relation_terms.proofs.predicate.item_args.identity_args.Given as goal

-- What was made and the parameters that are still to come are all parameters.
abbrev pub invariant-loop-i : goal.invariant-loop-i
invariant-loop-i g l =
    let m = g.I.Interner.meaning l.fn.cx in
    let n = g.I.Interner.meaning l.cx in
    let ks = (m.tables).params (m.id (l.fn.def_id).0) in
    record {
      grown : Extends m n;
      sure : IsTrue (known (list_tree (arg_tree n) l.args.items));
      made : put_before (list_tree (arg_tree n) l.args.items) (params_from l.i (drop l.i ks)) ≡ params_from 0 ks;
    }
