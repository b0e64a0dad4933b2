use Rattle.std.proofs.Common.{◌≡◌, ◌-◌, length}
use Rattle.relation_terms.specs.Trees.{size}
use Rattle.relation_terms.specs.Meaning.{arg_tree}
use Rattle.relation_terms.specs.contracts.terms.generic_arg.GenericArgKindPartialEq.TheImpl.{ghosts}
use Rattle.text_asking.specs.Meets.{AllKnown}
use Rattle.text_asking.specs.Skips.{skipped_in}
use Rattle.text_asking.proofs.WalkLemmas.{Goes}
use Rattle.text_asking.proofs.walking.walk_on.Given as goal

-- what was yielded is known, and what is still to come stands behind it
abbrev pub invariant-loop-arg : goal.invariant-loop-arg
invariant-loop-arg g l =
    let m = g.I.Interner.meaning l.fn.walker.cx in
    record {
      same : l.walker.cx ≡ l.fn.walker.cx;
      known : AllKnown m l.found.items;
      goes : Goes m (ghosts g.row.I-Key g.I.Key.PartialEq g.I.Key.PartialEq-dict).eq (arg_tree m l.root) (skipped_in l.skips) l.walker l.found.items;
    }

abbrev pub decreases-loop-arg : goal.decreases-loop-arg
decreases-loop-arg g l = size (arg_tree (g.I.Interner.meaning l.fn.walker.cx) l.root) - length l.found.items
