use Rattle.std.proofs.Common.{◌≡◌, take, map}
use Rattle.relation_terms.specs.declared.terms.part_kind.Part.TheVariants.{Pat as PatPart}
use Rattle.relation_terms.proofs.terms.parts.members.pats_of.Given as goal

abbrev pub invariant-loop-part : goal.invariant-loop-part
invariant-loop-part g l = map (λ p. PatPart p) l.list.items ≡ take l.part-index l.fn.parts
