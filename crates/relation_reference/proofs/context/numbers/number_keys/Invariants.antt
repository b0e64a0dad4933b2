use Rattle.std.proofs.Common.{◌≡◌, map, take}
use Rattle.relation_terms.specs.Meaning.{Extends}
use Rattle.variable_tables.specs.Numbers.{number_trees}
use Rattle.relation_reference.proofs.context.numbers.number_keys.Given as goal

abbrev pub invariant-loop-place : goal.invariant-loop-place
invariant-loop-place g l = record {
  grown : Extends (g.I.Interner.meaning l.fn.interner) (g.I.Interner.meaning l.interner);
  means : map (g.I.Interner.meaning l.interner).ty l.keys.items ≡ take l.place number_trees;
}
