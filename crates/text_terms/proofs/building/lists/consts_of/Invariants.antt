use Rattle.std.proofs.Common.{◌≡◌, map, take}
use Rattle.relation_terms.specs.declared.terms.generic_arg.GenericArgKind.TheVariants.{Const}
use Rattle.text_terms.proofs.building.lists.consts_of.Given as goal

-- the constants so far are the first keys
abbrev pub invariant-loop-key : goal.invariant-loop-key
invariant-loop-key g l = map Const l.constants.items ≡ take l.key-index l.keys
