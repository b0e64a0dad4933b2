use Rattle.std.proofs.Common.{◌≡◌, take}
use Rattle.relation_terms.specs.Trees.{list_tree}
use Rattle.relation_terms.specs.Flags.{flags_of}
use Rattle.reference_interner.specs.Adding.{meaning_in}
use Rattle.reference_interner.proofs.flags.list_flags.Given as goal

abbrev pub invariant-loop-member : goal.invariant-loop-member
invariant-loop-member g l =
    l.flags ≡ flags_of (list_tree (g.T.Flagged.tree (meaning_in l.cx)) (take l.member-index l.list))
