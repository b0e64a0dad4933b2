use Rattle.std.proofs.Common.{◌≡◌, ◌+◌, ◌*◌, true, false}
use Rattle.relation_terms.specs.Trees.{apply}
use Rattle.relation_semantics.proofs.Lists.{firsts}
use Rattle.relation_terms.specs.Meaning.{Extends}
use Rattle.relation_terms.specs.Parts.{part_tree, parts_of}
use Rattle.relation_semantics.specs.Stores.{weight, resolved}
use Rattle.variable_tables.specs.Tables.{store_of}
use Rattle.relation_reference.specs.Remembering.{Remembers}
use Rattle.relation_reference.proofs.Resolving.{Done}
use Rattle.relation_reference.proofs.Remembering.{key_eq}
use Rattle.relation_reference.proofs.context.resolving.+resolve.Given as goal

abbrev pub decreases-resolve_part : goal.decreases-resolve_part
decreases-resolve_part g l =
    let m = g.I.Interner.meaning l.cx.now in
    2 * weight (store_of m l.inner.now) (part_tree m l.term.now) + 1

abbrev pub decreases-resolve_inside : goal.decreases-resolve_inside
decreases-resolve_inside g l =
    let m = g.I.Interner.meaning l.cx.now in
    2 * weight (store_of m l.inner.now) (part_tree m l.term.now)

abbrev pub invariant-resolve_inside-loop-i : goal.invariant-resolve_inside-loop-i
invariant-resolve_inside-loop-i g l =
    let m = g.I.Interner.meaning l.fn.cx in
    let n = g.I.Interner.meaning l.cx in
    record {
      grown : Extends m n;
      remembers : Remembers n (store_of n l.inner) (key_eq g.I.Key.PartialEq.eq) l.memory;
      done : l.differs ≡ true →
          Done (resolved (store_of m l.inner)) (part_tree n) l.i (parts_of (part_tree m l.term)) l.parts.items;
      unchanged : l.differs ≡ false → apply (resolved (store_of m l.inner))
          (firsts l.i (parts_of (part_tree m l.term))) ≡ firsts l.i (parts_of (part_tree m l.term));
    }
