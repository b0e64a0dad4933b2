use Rattle.std.proofs.Common.{◌≡◌, IsTrue, drop}
use Rattle.relation_terms.specs.Trees.{known, list_tree}
use Rattle.relation_terms.specs.Meaning.{object_predicate_tree}
use Rattle.relation_folds.specs.Clashes.{principal}
use Rattle.fast_reject.proofs.trait_object.principal_def_id.Given as goal

-- The principal is that of the predicates that are left.
abbrev pub invariant-loop-predicate : goal.invariant-loop-predicate
invariant-loop-predicate g l = record {
  sure : IsTrue (known (list_tree (object_predicate_tree (g.I.Interner.meaning l.cx)) (drop l.predicate-index l.predicate-items)));
  same : principal (list_tree (object_predicate_tree (g.I.Interner.meaning l.cx)) (drop l.predicate-index l.predicate-items))
      ≡ principal ((g.I.Interner.meaning l.cx).existential_predicates l.predicates);
}
