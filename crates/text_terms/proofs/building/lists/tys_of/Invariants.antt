use Rattle.std.proofs.Common.{◌≡◌, map, take}
use Rattle.relation_terms.specs.declared.terms.generic_arg.GenericArgKind.TheVariants.{Ty}
use Rattle.text_terms.proofs.building.lists.tys_of.Given as goal

-- the types so far are the first keys
abbrev pub invariant-loop-key : goal.invariant-loop-key
invariant-loop-key g l = map Ty l.tys.items ≡ take l.key-index l.keys
